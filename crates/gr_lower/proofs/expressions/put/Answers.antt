use Rattle.std.proofs.Common.{ap, ◌∙◌, ◌∷◌, []}
use Rattle.gr_code.specs.CodeViews.{instructions_of}
use Rattle.gr_lower.proofs.Emits.{instructions_append}
use Rattle.gr_lower.proofs.expressions.put.Goals as goal

pub returns-clause-code : goal.returns-clause-code
returns-clause-code c = ap instructions_of c.in_ok-push.ensures.items ∙ instructions_append c.args.out.now.items (c.args.instruction ∷ [])
