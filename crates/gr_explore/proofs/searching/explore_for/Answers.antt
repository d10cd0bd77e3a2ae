use Rattle.std.proofs.Common.{◌≡◌, ◌∙◌, ap, length, rules, subst}
use Rattle.gr_program.specs.Programs.{Program}
use Rattle.gr_rollback.specs.Machines.{Stands}
use Rattle.gr_rollback.specs.Pasts.{Timeline}
use Rattle.gr_depend.specs.Logs.{records_of}
use Rattle.gr_search.specs.Going.{HasClosed, Met}
use Rattle.gr_schedules.specs.Aims.{schedules_to}
use Rattle.gr_schedules.specs.Choices.{AreChoices}
use Rattle.gr_schedules.specs.Keys.{IsKey}
use Rattle.gr_explore.specs.Exploring.{ComesTo, IsHome, origin_of, longest_after}
use Rattle.gr_explore.proofs.EndLemmas.{nothing_found, found, all_home}
use Rattle.gr_explore.proofs.searching.explore_for.Goals as goal

pub returns-clause-nothing : goal.returns-clause-nothing
returns-clause-nothing c p w states s e =
    nothing_found c.args.machine.now c.search.new.machine.machine.now c.len-base.result c.search.new.machine.base (c.len-base.ensures ∙ ap (λ l. length (records_of l)) c.log.ensures) c.requires c.search.ensures.stands.0
    (ap (λ f. f.1) c.search.ensures.fixed) (ap (λ f. f.2) c.search.ensures.fixed) c.args.aim (c.search.ensures.nothing states e) p w s

pub returns-clause-found : goal.returns-clause-found
returns-clause-found c p w s e =
    let there : c.search.new.machine.machine.now ≡ c.machine-1.given.0 = search rules in
    subst (ComesTo c.args.aim p w) there (found c.args.machine.now c.search.new.machine.machine.now c.len-base.result c.search.new.machine.base (c.len-base.ensures ∙ ap (λ l. length (records_of l)) c.log.ensures) c.requires c.search.ensures.stands.0
    (ap (λ f. f.1) c.search.ensures.fixed) (ap (λ f. f.2) c.search.ensures.fixed) c.args.aim (c.search.ensures.leads e) (c.search.ensures.found e) p w s)

pub returns-clause-home : goal.returns-clause-home
returns-clause-home c =
    let there : c.search.new.machine.machine.now ≡ c.machine-1.given.0 = search rules in
    subst (λ n. (p : Program) (w : Timeline p) → Stands p w c.args.machine.now → IsHome p w c.search.result n) there (all_home c.args.machine.now c.search.new.machine.machine.now c.len-base.result c.search.new.machine.base (c.len-base.ensures ∙ ap (λ l. length (records_of l)) c.log.ensures) c.requires c.search.ensures.stands.0
    (ap (λ f. f.1) c.search.ensures.fixed) (ap (λ f. f.2) c.search.ensures.fixed) c.search.result c.search.ensures.home)

pub returns-clause-closed : goal.returns-clause-closed
returns-clause-closed c states e =
    subst (λ k. HasClosed (schedules_to c.args.aim (origin_of c.args.machine.now k)) (IsKey (origin_of c.args.machine.now k).program) states)
    (c.len-base.ensures ∙ ap (λ l. length (records_of l)) c.log.ensures) (c.search.ensures.closed states e)

pub returns-clause-limited : goal.returns-clause-limited
returns-clause-limited c limit e =
    subst (λ k.
    Met (schedules_to c.args.aim (origin_of c.args.machine.now k)) (IsKey (origin_of c.args.machine.now k).program) (AreChoices (origin_of c.args.machine.now k).program)
    (longest_after (origin_of c.args.machine.now k)) c.args.limits.now.states c.args.limits.now.turns limit) (c.len-base.ensures ∙ ap (λ l. length (records_of l)) c.log.ensures)
    (c.search.ensures.limited limit e)
