-- The signatures that the code's table of functions holds.
use Rattle.std.specs.Prelude.{List}
use Rattle.gr_exprs.specs.declared.functions.Functions.{Functions}
use Rattle.gr_typing.specs.Scopes.{Signature}
use Rattle.gr_exprs.specs.Signatures.{signs_of}

abbrev pub functions_of : Functions → List Signature
functions_of functions = signs_of functions.signatures.items
