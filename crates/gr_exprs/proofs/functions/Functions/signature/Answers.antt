use Rattle.std.proofs.Common.{◌≡◌, subst}
use Rattle.gr_tree.specs.Statements.{optional}
use Rattle.gr_typing.specs.Scopes.{signature}
use Rattle.gr_exprs.specs.Signatures.{sign_of, signs_of}
use Rattle.gr_exprs.proofs.FunctionNumbers.{signature_is}
use Rattle.gr_exprs.proofs.functions.Functions.signature.Goals as goal

pub returns : goal.returns
returns c =
    subst (λ l. optional (λ s. sign_of s.now) c.get.result ≡ signature (signs_of l) c.args.number) c.deref.ensures.value (signature_is c.deref.result.now c.args.number c.get.result c.get.ensures.lookup)
