use Rattle.std.proofs.Common.{◌≡◌, drop}
use Rattle.gr_program.specs.Views.{stmts_of, cases_of}
use Rattle.gr_lower.specs.Sizes.{size_in, size_among}
use Rattle.gr_lower.specs.Asked.{clause_sizes, asked_in, asked_among}
use Rattle.gr_lower.proofs.sizing.+sizing.Given as goal

abbrev pub invariant-size_of_all-loop-i : goal.invariant-size_of_all-loop-i
invariant-size_of_all-loop-i l = record {
  noted : l.sizes ≡ asked_in (stmts_of (drop l.i l.stmts)) l.initial.sizes;
  value : l.found ≡ size_in (stmts_of (drop l.i l.stmts));
}

abbrev pub invariant-size_of_cases-loop-i : goal.invariant-size_of_cases-loop-i
invariant-size_of_cases-loop-i l = record {
  noted : l.sizes ≡ asked_among (cases_of (drop l.i l.cases)) l.initial.sizes;
  clauses : l.clauses ≡ clause_sizes (cases_of (drop l.i l.cases));
  value : l.found ≡ size_among (cases_of (drop l.i l.cases));
}
