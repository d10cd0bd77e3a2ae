use Rattle.std.proofs.Common.{◌≡◌, ◌+◌, ◌++◌, ℕ, List, drop, vec_len}
use Rattle.gr_program.specs.Views.{stmts_of, cases_of}
use Rattle.gr_code.specs.CodeViews.{instructions_of}
use Rattle.gr_lower.specs.Sizes.{size_in, size_among}
use Rattle.gr_lower.specs.StatementCode.{stmts_code, cases_code}
use Rattle.gr_lower.specs.Headings.{ways_of}
use Rattle.gr_lower.specs.Asked.{asked_in, asked_among}
use Rattle.gr_lower.proofs.statements.+writing.Given as goal

abbrev pub invariant-lower_stmts-loop-stmt : goal.invariant-lower_stmts-loop-stmt
invariant-lower_stmts-loop-stmt l = (rest : List ℕ) → l.initial.sizes ≡ asked_in (stmts_of l.stmts) rest
    → (l.sizes ≡ asked_in (stmts_of (drop l.stmt-index l.stmts)) rest)
    × ((instructions_of l.out.items ++ stmts_code (stmts_of (drop l.stmt-index l.stmts)) l.first (vec_len l.out) l.on (ways_of l.ways)
    ≡ instructions_of l.initial.out.items ++ stmts_code (stmts_of l.stmts) l.first (vec_len l.initial.out) l.on (ways_of l.ways))
    × (vec_len l.out + size_in (stmts_of (drop l.stmt-index l.stmts)) ≡ vec_len l.initial.out + size_in (stmts_of l.stmts)))

abbrev pub invariant-lower_cases-loop-case : goal.invariant-lower_cases-loop-case
invariant-lower_cases-loop-case l = (rest : List ℕ) → l.initial.sizes ≡ asked_among (cases_of l.cases) rest
    → (l.sizes ≡ asked_among (cases_of (drop l.case-index l.cases)) rest)
    × ((instructions_of l.out.items ++ cases_code (cases_of (drop l.case-index l.cases)) l.first (vec_len l.out) l.on (ways_of l.ways)
    ≡ instructions_of l.initial.out.items ++ cases_code (cases_of l.cases) l.first (vec_len l.initial.out) l.on (ways_of l.ways))
    × (vec_len l.out + size_among (cases_of (drop l.case-index l.cases)) ≡ vec_len l.initial.out + size_among (cases_of l.cases)))
