use Rattle.std.proofs.Common.{◌≡◌, length}
use Rattle.gr_scan.specs.Tokens.{tokens_of}
use Rattle.gr_tree.specs.Files.{groups_of}
use Rattle.gr_syntax.specs.Reading.{loop}
use Rattle.gr_syntax.specs.FileReading.{groups_turn, groups_at}
use Rattle.gr_syntax.proofs.function.groups.Given as goal

abbrev pub invariant-loop-found : goal.invariant-loop-found
invariant-loop-found l = record {
  gives : loop (groups_turn l.limit) (groups_of l.found.value.items, 0, tokens_of l.found.rest.now) ≡ groups_at l.fn.limit (tokens_of l.fn.tokens);
  low : l.found.height ≡ 0;
}

abbrev pub decreases-loop-found : goal.decreases-loop-found
decreases-loop-found l = length l.found.rest.now
