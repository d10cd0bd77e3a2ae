use Rattle.std.proofs.Common.{refl, sym, ◌∙◌, arith}
use Rattle.std.proofs.lemmas.Result.{err_from_is_err_and}
use Rattle.gr_rollback.proofs.RedoLemmas.{goes_further, goes_nowhere, is_machine, one_after, none_after, may_be_after}
use Rattle.gr_rollback.proofs.machine.Machine.take_all.Goals as goal

pub loop-alloc-preserved : goal.loop-alloc-preserved
loop-alloc-preserved c =
    let machine = c.loop-alloc.invariant.1 in
    let goes = c.in_ok-take_next.ensures.goes _ machine.world machine.stands in
    let fewer = c.in_ok-take_next.ensures.ok in
    let longer = c.in_ok-take_next.ensures.ok_ids in
    let room = c.in_ok-take_next.ensures.ok_room in
    let before = c.loop-alloc.invariant.2 in (
      λ p w s. goes_further p w _ _ _ _ _ (c.loop-alloc.invariant.0 p w s) (c.in_ok-take_next.ensures.goes p),
      is_machine _ goes.world _ goes.stands,
      omega (arith, fewer, longer, room, before),
      c.in_ok-take_next.ensures.listing ∙ c.loop-alloc.invariant.3,
      one_after _ _ _ _ _ c.in_ok-take_next.ensures.taken c.loop-alloc.invariant.4 longer,
      λ none. absurd (omega (arith, longer, none)),
    )

pub loop-alloc-init : goal.loop-alloc-init
loop-alloc-init c = (
  λ p w s. goes_nowhere p w _ _ s,
  c.requires.machine,
  c.requires.room,
  refl,
  none_after _ _ c.requires.none,
  λ none. refl,
)

pub returns-in_err-take_next-clause-not_taken : goal.returns-in_err-take_next-clause-not_taken
returns-in_err-take_next-clause-not_taken c =
    let why = err_from_is_err_and c.from_residual.result c.from_residual.ensures.1 in
    rw why.1 (may_be_after _ _ _ _ _ c.loop-alloc.invariant.4 c.in_err-take_next.ensures.err_ids c.in_err-take_next.ensures.not_taken)

pub returns-in_err-take_next-clause-goes : goal.returns-in_err-take_next-clause-goes
returns-in_err-take_next-clause-goes c = λ p w s.
    goes_further p w _ _ _ _ _ (c.loop-alloc.invariant.0 p w s) (c.in_err-take_next.ensures.goes p)

pub returns-in_err-take_next-clause-stays : goal.returns-in_err-take_next-clause-stays
returns-in_err-take_next-clause-stays c =
    let why = err_from_is_err_and c.from_residual.result c.from_residual.ensures.1 in
    rw why.1
    (λ none. c.in_err-take_next.ensures.err_contents ∙ c.loop-alloc.invariant.5 (sym c.in_err-take_next.ensures.err_ids ∙ none))
