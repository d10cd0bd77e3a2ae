use Rattle.std.proofs.Common.{◌≡◌, ◌++◌, ◌≤◌, vec_capacity, codes, decimal, length, take, flat_map}
use Rattle.gr_base.proofs.print.print_go.Given as goal

-- the text so far is the old one, `g0` and the counts so far
abbrev pub invariant-loop-count : goal.invariant-loop-count
invariant-loop-count l = record {
  printed : l.text.items ≡ l.fn.text.items ++ (codes "g0" ++ flat_map (λ count. codes "." ++ decimal count) (take l.count-index l.count-items));
  grows : vec_capacity l.fn.text ≤ vec_capacity l.text;
  before : l.before ≡ length l.fn.text.items;
}
