use Rattle.std.proofs.Common.{reverse, inl, inr, refl, sym, ap, subst, ◌∙◌}
use Rattle.std.proofs.lemmas.Result.{err_from_is_err_and}
use Rattle.gr_base.specs.declared.events.Event.{Event}
use Rattle.gr_rollback.specs.Steps.{IsNoStep, Keeps}
use Rattle.gr_rollback.proofs.RedoLemmas.{next_event, taken_off, only_memory as wants_memory, stands_still, goes_nowhere, goes_next, last_there, last_first}
use Rattle.gr_rollback.proofs.machine.Machine.take_next.Goals as goal

pub returns-in_err-event-clause-goes : goal.returns-in_err-event-clause-goes
returns-in_err-event-clause-goes c = λ p w s. goes_nowhere p w _ _ s

pub only_memory-requires : goal.only_memory-requires
only_memory-requires c =
    let s = c.requires.machine.stands in
    let w = c.requires.machine.world in
    let items = c.args.self.now.again.items in
    let first = last_first items c.unwrap.result.now
    (last_there items c.deref.result.now c.last.result c.unwrap.result c.last.ensures.value c.unwrap.ensures c.deref.ensures.value) in
    wants_memory _ w c.unwrap.result.now first.0 c.in-Err.why (sym s.again ∙ first.1) s.can_go
    (subst (λ e. IsNoStep _ w.past e c.in-Err.why) c.in_ok-event.ensures (c.in-Err.ensures.kept _ w.past s.holds).0)

pub returns-in-Err-clause-goes : goal.returns-in-Err-clause-goes
returns-in-Err-clause-goes c = λ p w s. goes_nowhere p w _ _ (stands_still p w c.args.self.now _ s (c.in-Err.ensures.kept p w.past s.holds).1 refl)

pub returns-in-Ok-clause-goes : goal.returns-in-Ok-clause-goes
returns-in-Ok-clause-goes c = λ p w s.
    let event = c.unwrap.result.now in
    let off = c.unwrap-go.result in
    let items = c.args.self.now.again.items in
    let rest = c.pop.new.self.items in
    let last = last_there items c.deref.result.now c.last.result c.unwrap.result c.last.ensures.value c.unwrap.ensures c.deref.ensures.value in
    let next = next_event items rest c.pop.result event off c.pop.ensures.items c.unwrap-go.ensures last in
    let same = taken_off items rest c.pop.result event off c.pop.ensures.items c.unwrap-go.ensures last in
    let keeps : Keeps p w.past event c.in-Ok.told c.keep.new.self =
    subst (λ e. Keeps p w.past e c.in-Ok.told c.keep.new.self) c.in_ok-event.ensures (c.in-Ok.ensures.kept p w.past s.holds) in
    rw c.push_reserved.ensures.items
    (goes_next p w c.args.self.now _ event (reverse rest) s (sym s.again ∙ next) refl c.in-Ok.told keeps c.args.ids.now.items off.go (ap (λ (e : Event). e.go) same))

pub returns-in-Err-clause-not_taken : goal.returns-in-Err-clause-not_taken
returns-in-Err-clause-not_taken c = elim c.in-Err.ensures.not_taken [ inl same ↦ inl same | inr more ↦ inr more.1 ]

pub returns-in_err-event-clause-not_taken : goal.returns-in_err-event-clause-not_taken
returns-in_err-event-clause-not_taken c =
    let why = err_from_is_err_and c.from_residual.result c.from_residual.ensures.1 in
    rw why.1 (inl refl)
