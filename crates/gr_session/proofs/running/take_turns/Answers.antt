use Rattle.std.proofs.Common.{refl, ◌∙◌, ◌<◌, ◌+◌, subst, arith}
use Rattle.gr_program.specs.Programs.{Program}
use Rattle.gr_rollback.specs.Stores.{program_at}
use Rattle.gr_session.specs.Journal.{World}
use Rattle.gr_session.specs.Debuggees.{Stands, store_in}
use Rattle.gr_session.specs.Turning.{TakesTurn, Ends}
use Rattle.gr_session.proofs.DebuggeeLemmas.{is_debuggee}
use Rattle.gr_session.proofs.RunLemmas.{HasGone, world_gone, gone_nowhere, one_is_wanted, gone_on, gone_to_end}
use Rattle.gr_session.proofs.running.take_turns.Goals as goal

pub loop-taken-init : goal.loop-taken-init
loop-taken-init c = record { few = omega arith; debuggee = c.requires; gone = λ p w s. gone_nowhere p w c.args.debuggee.now s; listing = refl; still = λ none. refl }

pub loop-taken-preserved : goal.loop-taken-preserved
loop-taken-preserved c =
    let less : c.loop-taken.taken < c.args.count = one_is_wanted _ _ _ c.loop-taken.invariant.few c.from-wanted.ensures c.in-Ok.ensures.more in
    let gone : (p : Program) (w : World p) → Stands p w c.args.debuggee.now → HasGone p w (c.loop-taken.taken + 1) c.take_turn.new.debuggee = λ p w s.
    let was = c.loop-taken.invariant.gone p w s in
    gone_on p w c.args.count c.loop-taken.taken c.loop-taken.debuggee c.take_turn.new.debuggee was less
    (subst (λ n. TakesTurn p (world_gone p w c.loop-taken.taken c.loop-taken.debuggee was) n c.loop-taken.taken c.take_turn.new.debuggee) c.from-wanted.ensures (c.in-Ok.ensures.turns p (world_gone p w c.loop-taken.taken c.loop-taken.debuggee was) was.stands)) in
    let here = gone (program_at (store_in c.args.debuggee.now)) c.requires.world c.requires.stands in
    record {
      few = omega (arith, less);
      debuggee = is_debuggee _ (world_gone _ c.requires.world (c.loop-taken.taken + 1) c.take_turn.new.debuggee here) c.take_turn.new.debuggee here.stands;
      gone = gone;
      listing = c.in-Ok.ensures.listing ∙ c.loop-taken.invariant.listing;
      still = λ none. absurd (omega (arith, none));
    }

pub returns-in-Err-clause-goes : goal.returns-in-Err-clause-goes
returns-in-Err-clause-goes c = λ p w s.
    let was = c.loop-taken.invariant.gone p w s in
    let told = c.in-Err.ensures.turns p (world_gone p w c.loop-taken.taken c.loop-taken.debuggee was) was.stands in
    gone_to_end p w c.args.count c.loop-taken.taken c.loop-taken.debuggee c.take_turn.new.debuggee was c.loop-taken.invariant.few c.in-Err.end
    (subst (λ n. Ends p (world_gone p w c.loop-taken.taken c.loop-taken.debuggee was) n c.loop-taken.taken c.in-Err.end) c.from-wanted.ensures told.0) told.1

pub returns-in-Err-clause-none : goal.returns-in-Err-clause-none
returns-in-Err-clause-none c = λ none. c.in-Err.ensures.err ∙ c.loop-taken.invariant.still none
