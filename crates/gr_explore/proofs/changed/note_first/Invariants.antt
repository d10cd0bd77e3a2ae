use Rattle.std.proofs.Common.{◌≡◌, drop}
use Rattle.gr_explore.specs.Books.{with_first}
use Rattle.gr_explore.proofs.changed.note_first.Given as goal

abbrev pub invariant-loop-name : goal.invariant-loop-name
invariant-loop-name g l =
    (l.pages.written ≡ l.fn.pages.written)
    × (with_first g.N.PartialEq.eq (drop l.name-index l.pairs) l.pages.changed.items ≡ with_first g.N.PartialEq.eq l.pairs l.fn.pages.changed.items)
