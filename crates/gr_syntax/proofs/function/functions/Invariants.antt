use Rattle.std.proofs.Common.{◌≡◌, length}
use Rattle.gr_scan.specs.Tokens.{tokens_of}
use Rattle.gr_tree.specs.Files.{functions_of}
use Rattle.gr_syntax.specs.Reading.{loop}
use Rattle.gr_syntax.specs.FileReading.{functions_turn, functions_at}
use Rattle.gr_syntax.proofs.function.functions.Given as goal

abbrev pub invariant-loop-alloc : goal.invariant-loop-alloc
invariant-loop-alloc l = record {
  gives : loop (functions_turn l.limit) (functions_of l.found.value.items, 0, tokens_of l.found.rest.now) ≡ functions_at l.fn.limit (tokens_of l.fn.tokens);
  low : l.found.height ≡ 0;
}

abbrev pub decreases-loop-alloc : goal.decreases-loop-alloc
decreases-loop-alloc l = length l.found.rest.now
