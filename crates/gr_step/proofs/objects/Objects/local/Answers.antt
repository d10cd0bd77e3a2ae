use Rattle.std.proofs.Common.{sym, ap, subst, ◌∙◌}
use Rattle.gr_code.specs.CodeViews.{program_code_of}
use Rattle.gr_code.specs.CodeFrames.{ProgramCode}
use Rattle.gr_tables.specs.NamedGoroutines.{At, StepsAlone, seen_at}
use Rattle.gr_record.specs.Listings.{program_in}
use Rattle.gr_step.proofs.LocalLemmas.{steps_alone, step_fits, step_room, step_taken_back, local_takes, local_room, local_fault_takes}
use Rattle.gr_step.proofs.LocalLemmas.{local_fault_room}
use Rattle.gr_tables.proofs.ByNumber.{if_ok, on_err}
use Rattle.gr_step.proofs.objects.Objects.local.Goals as goal

pub local_step-requires : goal.local_step-requires
local_step-requires c =
    let acting = c.requires.may.acting in
    let code = ap program_code_of c.deref.ensures ∙ c.requires.may.coded in
    subst {_, _} (λ (code : ProgramCode). At (StepsAlone code) (seen_at c.args.self.now.goroutines c.args.turn.now.number)) (sym code)
    (steps_alone (program_in c.args.turn.now.listing.now) c.args.turn.now.event.now c.args.turn.now.number c.args.self.now acting c.requires.plain
    (c.requires.task acting.goroutine acting.there))

pub stop-requires-clause-fits : goal.stop-requires-clause-fits
stop-requires-clause-fits c =
    let code = ap program_code_of c.deref.ensures ∙ c.requires.may.coded in
    rw c.get.ensures (step_fits (program_in c.args.turn.now.listing.now) c.args.turn.now.event.now c.args.turn.now.number c.args.self.now c.requires.may.acting c.in_ok-kind.kind c.in_ok-kind.own
    c.local_step.new.self (rw code at c.in_ok-kind.ensures.step))

pub stop-requires-clause-room : goal.stop-requires-clause-room
stop-requires-clause-room c =
    let code = ap program_code_of c.deref.ensures ∙ c.requires.may.coded in
    rw c.get.ensures (step_room (program_in c.args.turn.now.listing.now) c.args.turn.now.event.now c.args.turn.now.number c.args.self.now c.requires.may.acting c.in_ok-kind.kind c.in_ok-kind.own
    c.local_step.new.self (rw code at c.in_ok-kind.ensures.step))

pub returns-in-Fault-clause-ok : goal.returns-in-Fault-clause-ok
returns-in-Fault-clause-ok c =
    let code = ap program_code_of c.deref.ensures ∙ c.requires.may.coded in
    let step = rw code at c.in_ok-kind.ensures.step in
    if_ok c.stop.result _ _ (λ change stop.
    local_fault_takes (program_in c.args.turn.now.listing.now) c.args.turn.now.event.now c.args.turn.now.number c.args.self.now c.requires.may.acting c.in_ok-kind.kind
    c.in_ok-kind.own
    c.local_step.new.self step c.requires.plain c.in-Fault.fault c.in-Fault.is change c.stop.new.self stop)
    (rw c.get.ensures at c.stop.ensures.ok)

pub returns-in-Fault-clause-room : goal.returns-in-Fault-clause-room
returns-in-Fault-clause-room c =
    let code = ap program_code_of c.deref.ensures ∙ c.requires.may.coded in
    let step = rw code at c.in_ok-kind.ensures.step in
    if_ok c.stop.result _ _ (λ change stop.
    local_fault_room (program_in c.args.turn.now.listing.now) c.args.turn.now.event.now c.args.turn.now.number c.args.self.now c.requires.may.acting c.in_ok-kind.kind
    c.in_ok-kind.own
    c.local_step.new.self step c.requires.plain c.in-Fault.fault c.in-Fault.is change c.stop.new.self stop)
    (rw c.get.ensures at c.stop.ensures.ok)

pub returns-in-Fault-clause-err : goal.returns-in-Fault-clause-err
returns-in-Fault-clause-err c =
    let code = ap program_code_of c.deref.ensures ∙ c.requires.may.coded in
    let step = rw code at c.in_ok-kind.ensures.step in
    on_err c.stop.result _ _ (λ back.
    step_taken_back (program_in c.args.turn.now.listing.now) c.args.turn.now.event.now c.args.turn.now.number c.args.self.now c.requires.may.acting c.in_ok-kind.kind
    c.in_ok-kind.own
    c.local_step.new.self step c.stop.new.self back)
    (rw c.get.ensures at c.stop.ensures.err)

pub returns : goal.returns
returns c =
    let code = ap program_code_of c.deref.ensures ∙ c.requires.may.coded in
    let step = rw code at c.in_ok-kind.ensures.step in
    record {
      ok = rw c.alone.ensures (local_takes (program_in c.args.turn.now.listing.now) c.args.turn.now.event.now c.args.turn.now.number c.args.self.now c.requires.may.acting c.in_ok-kind.kind
          c.in_ok-kind.own
          c.local_step.new.self step c.requires.plain c.in_default.not-Fault);
      room = rw c.alone.ensures (local_room (program_in c.args.turn.now.listing.now) c.args.turn.now.event.now c.args.turn.now.number c.args.self.now c.requires.may.acting c.in_ok-kind.kind
          c.in_ok-kind.own
          c.local_step.new.self step c.requires.plain);
      err = tt;
    }
