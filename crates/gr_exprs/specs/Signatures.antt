-- Signatures of the code, without where they lie in memory.
use Rattle.std.specs.Prelude.{List, [], ◌∷◌}
use Rattle.gr_tree.specs.Statements.{optional}
use Rattle.gr_program.specs.TypeViews.{ty_of, types_of}
use Rattle.gr_exprs.specs.declared.types.Signature as code_signature
use Rattle.gr_typing.specs.Scopes.{Signature, Sign}

abbrev pub sign_of : code_signature.Signature → Signature
sign_of s = Sign s.name.items (types_of s.parameters.items) (optional ty_of s.result)

abbrev pub signs_of : List code_signature.Signature → List Signature
signs_of [] = []
signs_of (s ∷ ss) = sign_of s ∷ signs_of ss
