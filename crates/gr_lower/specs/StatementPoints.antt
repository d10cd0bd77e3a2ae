-- The points that the instructions of statements mean, one after another: each part is plugged with the next free temporary.
-- `d` is the first of these.
use Rattle.std.specs.Prelude.{ℕ, zero, suc, ◌+◌, List, [], ◌∷◌, ◌++◌, Option, Some, None, unwrap_or}
use Rattle.gr_scan.specs.declared.token.Place.{Place}
use Rattle.gr_program.specs.Programs as program
use Rattle.gr_program.specs.Programs.{Act, Opening, Opens, Stmt, Does, Block, If, For, Stmts, stop, then, Cases, no_case, default_case, send_case, receive_case}
use Rattle.gr_rules.specs.Operands.{Variable, Operands, nothing, one, two, value_of, operand_of, operands_of}
use Rattle.gr_rules.specs.Points.{Rest, following, looping, ranging, chosen, Work, Assign, AssignReceive, Update, Eval, Close, Print, Send, Go, Return, GoOn, Test, Range, Turn, Select, Point, at, onto, act_at, turn, pieces_of, printed_operands, case_operands}
use Rattle.gr_code.specs.Passing.{parts_in}
use Rattle.gr_code.specs.Plugging.{plug_all}
use Rattle.gr_lower.specs.Sizes.{returned, tested, act_size}

-- the operands with the next part plugged
abbrev pub plugged : ℕ → Operands → Operands
plugged d es = unwrap_or (plug_all d es) es

-- the operands with this many parts plugged, one after another
abbrev pub plugged_again : ℕ → ℕ → Operands → Operands
plugged_again zero d es = es
plugged_again (suc n) d es = plugged_again n (d + 1) (plugged d es)

-- the first points of a statement, this many
abbrev pub points : Place → Work → Rest → ℕ → ℕ → Operands → List Point
points place work rest zero d es = []
points place work rest (suc n) d es = at place work es rest ∷ points place work rest n (d + 1) (plugged d es)

-- the points of a statement: those of its parts, and its own
abbrev pub performed_points : Place → Work → Operands → Rest → ℕ → List Point
performed_points place work es rest d = points place work rest (parts_in es + 1) d es

-- an assignment of what was received, from two temporaries
abbrev pub assigning_point : Place → List (Option ℕ) → Rest → ℕ → Point
assigning_point place targets rest d = at place (Assign targets) (two (Variable d) (Variable (d + 1))) rest

abbrev pub act_points : Place → Act → Rest → ℕ → List Point
act_points place (program.Assign targets values) rest d = performed_points place (Assign targets) (operands_of values) rest d
act_points place (program.AssignReceive value ok channel initial) rest d =
    performed_points place (AssignReceive value ok (value_of initial)) (one (operand_of channel)) rest d
    ++ assigning_point place (value ∷ ok ∷ []) rest d ∷ []
act_points place (program.Update x op value) rest d = performed_points place (Update x op) (one (operand_of value)) rest d
act_points place (program.Eval value) rest d = points place Eval rest (act_size (program.Eval value)) d (one (operand_of value))
act_points place (program.Close channel) rest d = performed_points place Close (one (operand_of channel)) rest d
act_points place (program.Print values) rest d = performed_points place (Print (pieces_of values)) (printed_operands values) rest d
act_points place (program.Send channel value) rest d = performed_points place Send (two (operand_of channel) (operand_of value)) rest d
act_points place (program.Go f arguments) rest d = performed_points place (Go f) (operands_of arguments) rest d
act_points place (program.Return value) rest d = performed_points place Return (returned value) rest d
act_points place (program.Break depth) rest d = act_at place (program.Break depth) rest ∷ []
act_points place (program.Continue depth) rest d = act_at place (program.Continue depth) rest ∷ []

-- a statement before another
abbrev pub opening_points : Option Opening → Stmt → Rest → ℕ → List Point
opening_points o s rest d = elim o [ Some (Opens place act) ↦ act_points place act (following (then s stop) rest) d | None ↦ [] ]

abbrev pub targets_points : Place → List (Option ℕ) → Rest → ℕ → List Point
targets_points place [] rest d = []
targets_points place (k ∷ ks) rest d = assigning_point place (k ∷ ks) rest d ∷ []

abbrev mutual
  pub stmt_points : Stmt → Rest → ℕ → List Point
  stmt_points (Does place act) rest d = act_points place act rest d
  stmt_points (Block body) rest d = stmts_points body rest d
  stmt_points (If place init condition body otherwise) rest d =
      opening_points init (If place None condition body otherwise) rest d
      ++ performed_points place (Test (onto body rest)) (one (operand_of condition)) (onto otherwise rest) d
      ++ stmts_points body rest d ++ stmts_points otherwise rest d
  stmt_points (For place init condition post body) rest d =
      let again = For place None condition post body in
      let inner = looping (turn post again) rest in
      opening_points init again rest d
      ++ performed_points place (Test (onto body inner)) (tested condition) rest d
      ++ stmts_points body inner d ++ opening_points post again rest d
  stmt_points (program.Range place target channel body) rest d =
      let inner = ranging place target (Variable d) body rest in
      performed_points place (Range target body) (one (operand_of channel)) rest d
      ++ at place (Turn target body) (one (Variable d)) rest
      ∷ at place (Assign (target ∷ [])) (one (Variable (d + 1))) (onto body inner)
      ∷ at place GoOn nothing rest
      ∷ stmts_points body inner (d + 1)
  stmt_points (program.Select place cases) rest d =
      performed_points place (Select cases) (case_operands cases) rest d ++ cases_points place 1 cases rest d

  pub stmts_points : Stmts → Rest → ℕ → List Point
  stmts_points stop rest d = []
  stmts_points (then s ss) rest d = stmt_points s (onto ss rest) d ++ stmts_points ss rest d

  pub cases_points : Place → ℕ → Cases → Rest → ℕ → List Point
  cases_points place number no_case rest d = []
  cases_points place number (default_case body others) rest d =
      stmts_points body (chosen number rest) d ++ cases_points place (number + 1) others rest d
  cases_points place number (send_case channel value body others) rest d =
      stmts_points body (chosen number rest) d ++ cases_points place (number + 1) others rest d
  cases_points place number (receive_case targets channel initial body others) rest d =
      (targets_points place targets (onto body (chosen number rest)) d ++ stmts_points body (chosen number rest) d)
      ++ cases_points place (number + 1) others rest d
