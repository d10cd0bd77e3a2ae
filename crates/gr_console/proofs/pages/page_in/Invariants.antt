use Rattle.std.proofs.Common.{◌≡◌, length, map, true}
use Rattle.std.specs.List.{list_all}
use Rattle.gr_console.specs.Explanations.{begins, is_among}
use Rattle.gr_console.proofs.pages.page_in.Given as goal

abbrev pub invariant-loop-table : goal.invariant-loop-table
invariant-loop-table l = (list_all (λ entry. begins entry.0.now entry.1.now) l.table ≡ true)
    × (is_among (map (λ entry. entry.0.now) l.table) l.code ≡ is_among (map (λ entry. entry.0.now) l.initial.table) l.code)

abbrev pub decreases-loop-table : goal.decreases-loop-table
decreases-loop-table l = length l.table
