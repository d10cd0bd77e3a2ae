use Rattle.std.proofs.Common.{◌∙◌, sym}
use Rattle.std.proofs.lemmas.Option.{MatchOption-at_none, MatchOption-at_some}
use Rattle.std.proofs.lemmas.Result.{IfOk-weaker}
use Rattle.gr_step.specs.Records.{event_of}
use Rattle.gr_step.specs.Stores.{contents_at, program_at}
use Rattle.gr_facts.proofs.ValueLemmas.{fault_moves_none, is_there, need_moves}
use Rattle.gr_facts.proofs.values.value_of.Goals as goal

pub returns-then-is_fault : goal.returns-then-is_fault
returns-then-is_fault c = λ g f below up.
    fault_moves_none (program_at c.args.store.now) (contents_at c.args.store.now) c.requires.running (event_of c.args.step.now) g f below up
    c.args.step.now.change.kind (sym c.if-is_fault.true ∙ c.is_fault.ensures)

pub returns-in_default : goal.returns-in_default
returns-in_default c = λ g f below up.
    absurd (is_there (program_at c.args.store.now) (contents_at c.args.store.now) c.requires.running (event_of c.args.step.now) g f below up
    c.args.step.now.change.kind (MatchOption-at_none _ _ c.in_default.is c.in_ok-need.ensures))

pub returns : goal.returns
returns c = IfOk-weaker c.value_of_need.result _ _
    (λ value is g f below up. is
    ∙ need_moves (program_at c.args.store.now) (contents_at c.args.store.now) c.requires.running (event_of c.args.step.now) g f below up
    c.args.step.now.change.kind (sym c.if-is_fault.false ∙ c.is_fault.ensures) c.in-Some.need
    (MatchOption-at_some _ _ c.in-Some.need c.in-Some.is c.in_ok-need.ensures))
    c.value_of_need.ensures
