use Rattle.std.proofs.Common.{map, ◌++◌, sym, ap, ◌∙◌, append-nil}
use Rattle.std.proofs.lemmas.Slice.Zip.{either_empty_from_Zip}
use Rattle.gr_rollback.proofs.AskLemmas.{none_left}
use Rattle.gr_rollback.proofs.asking.names_marked.Goals as goal

pub returns : goal.returns
returns c =
    let ids = c.loop-step.ids.items in
    let steps = c.loop-step.step-iterator.a.rest.now in
    let marks = c.loop-step.step-iterator.b.rest.now in
    let none = none_left marks steps (either_empty_from_Zip c.loop-step.step-iterator c.next.new.self _ c.in-None.is c.next.ensures.steps) in
    sym (append-nil ids) ∙ ap (λ rs. ids ++ map (λ r. r.id) rs) (sym none) ∙ c.loop-step.invariant
