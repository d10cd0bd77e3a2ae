use Rattle.std.proofs.Common.{◌∙◌, ap}
use Rattle.gr_exprs.specs.Signatures.{signs_of}
use Rattle.gr_exprs.specs.Tables.{block_of}
use Rattle.gr_exprs.specs.FunctionNumbers.{with_function}
use Rattle.gr_exprs.proofs.FunctionNumbers.{finds_more, signs_push}
use Rattle.gr_exprs.proofs.functions.Functions.with.Goals as goal

pub invariant_of-result : goal.invariant_of-result
invariant_of-result c =
    let old = c.args.self in
    let e = c.in_ok-numbers.ensures ∙ ap (λ x. with_function (block_of old.numbers) x c.len.result) c.deref.ensures.value in
    record { found = finds_more (block_of old.numbers) (block_of c.in_ok-numbers.numbers) old.signatures.items c.push.new.self.items c.args.signature c.len.result old.found (c.len.ensures ∙ old.signatures.ok.0) e c.in_ok-push.ensures.items }

pub returns : goal.returns
returns c = ap signs_of c.in_ok-push.ensures.items ∙ signs_push c.args.self.signatures.items c.args.signature
