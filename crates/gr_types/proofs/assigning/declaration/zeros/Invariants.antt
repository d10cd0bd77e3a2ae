use Rattle.std.proofs.Common.{◌≡◌, drop}
use Rattle.gr_tree.specs.Exprs.{names_of}
use Rattle.gr_program.specs.TypeViews.{ty_of}
use Rattle.gr_typing.specs.Assignments as assigning
use Rattle.gr_exprs.proofs.Arguments.{terms_before}
use Rattle.gr_types.proofs.assigning.declaration.zeros.Given as goal

abbrev pub invariant-loop : goal.invariant-loop
invariant-loop l = terms_before l.values.items (assigning.zeros (names_of (drop l.index l.names)) (ty_of l.own)) ≡ assigning.zeros (names_of l.names) (ty_of l.own)
