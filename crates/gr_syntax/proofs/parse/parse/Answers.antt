use Rattle.std.proofs.Common.{arith, ◌≤◌, length, ◌∙◌, sym}
use Rattle.gr_scan.specs.Tokens.{tokens_of}
use Rattle.gr_tree.specs.Files.{file_of}
use Rattle.gr_syntax.proofs.Files.{is_tree, no_file, too_high}
use Rattle.gr_syntax.proofs.parse.parse.Goals as goal

pub returns-in-Ok-clause-tree : goal.returns-in-Ok-clause-tree
returns-in-Ok-clause-tree c = is_tree (tokens_of c.args.tokens.now) (file_of c.in-Ok.file) c.in-Ok.ensures

pub returns-then-token_is_left_out-clause-none : goal.returns-then-token_is_left_out-clause-none
returns-then-token_is_left_out-clause-none c =
    let le : c.saturating_sub-token.result ≤ length c.args.tokens.now = omega (arith, c.saturating_sub-token.ensures) in
    (no_file c.args.tokens.now c.saturating_sub-token.result le (rw c.in-Err-Wrong.field-0-is at c.in-Err-Wrong.ensures), sym c.token_is_left_out.ensures ∙ c.if-token_is_left_out.true)

pub returns-else-token_is_left_out-clause-none : goal.returns-else-token_is_left_out-clause-none
returns-else-token_is_left_out-clause-none c =
    let le : c.saturating_sub-token.result ≤ length c.args.tokens.now = omega (arith, c.saturating_sub-token.ensures) in
    (no_file c.args.tokens.now c.saturating_sub-token.result le (rw c.in-Err-Wrong.field-0-is at c.in-Err-Wrong.ensures), sym c.token_is_left_out.ensures ∙ c.if-token_is_left_out.false)

pub returns-in-Err-TooHigh-clause-none : goal.returns-in-Err-TooHigh-clause-none
returns-in-Err-TooHigh-clause-none c =
    let le : c.saturating_sub.result ≤ length c.args.tokens.now = omega (arith, c.saturating_sub.ensures) in
    too_high c.args.tokens.now c.saturating_sub.result le (rw c.in-Err-TooHigh.field-0-is at c.in-Err-TooHigh.ensures)
