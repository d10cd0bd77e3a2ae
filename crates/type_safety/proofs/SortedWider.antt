-- Operands and statements keep their sorts where more variables hold values.
use Rattle.std.proofs.Common.{◌⊎◌, ℕ, Bool, List, [], ◌∷◌, ◌++◌, Option, Some, None, inl, inr}
use Rattle.gr_causal.specs.Sequences.{In}
use Rattle.gr_causal.proofs.ListLemmas.{In-append_cases, In-append_left, In-append_right}
use Rattle.gr_program.specs.Programs as program
use Rattle.gr_program.specs.Programs.{Act, Opening, Opens, Stmt, Does, Block, If, For, Range, Select, Stmts, Cases}
use Rattle.gr_rules.specs.Operands.{Operand, Operands}
use Rattle.type_safety.proofs.Sorts.{Sort, Made, nothing_made, Setting, SortedOperand, done, variable, unary, binary, receive, call, len, cap, make, SortedOperands, no_operand, one_operand, numbers_of, Sub}
use Rattle.type_safety.proofs.Bodies.{Nest, SortedAct, assigns, assigns_receive, updates, receives, calls, closes, prints, sends, goes, returns, returns_value, breaks, continues, after_act, after_opening, after_stmt, SortedOpening, no_opening, opening, SortedStmt, does, block, if, endless, for, range, select, SortedStmts, no_stmt, one_stmt, ends, SortedClauses, no_clause, default_clause, send_clause, receive_clause}

pub sub_self : (xs : List ℕ) → Sub xs xs
sub_self xs x i = i

pub sub_trans : (xs ys zs : List ℕ) → Sub xs ys → Sub ys zs → Sub xs zs
sub_trans xs ys zs s t x i = t x (s x i)

pub sub_before : (xs ys zs : List ℕ) → Sub ys zs → Sub (xs ++ ys) (xs ++ zs)
sub_before xs ys zs s x i = by_cases (In-append_cases x xs ys i)
  where
    by_cases : In x xs ⊎ In x ys → In x (xs ++ zs)
    by_cases (inl j) = In-append_left x xs zs j
    by_cases (inr j) = In-append_right x xs zs (s x j)

pub sub_past : (xs ys : List ℕ) → Sub ys (xs ++ ys)
sub_past xs ys x i = In-append_right x xs ys i

-- the variables that hold values after more of them held values before
pub act_wider : (a : Act) (live more : List ℕ) → Sub live more → Sub (after_act a live) (after_act a more)
act_wider (program.Assign xs ps) live more s = sub_before (numbers_of xs) live more s
act_wider (program.AssignReceive x y c zero) live more s = sub_before (numbers_of (x ∷ y ∷ [])) live more s
act_wider (program.Update x op p) live more s = s
act_wider (program.Eval p) live more s = s
act_wider (program.Close c) live more s = s
act_wider (program.Print ps) live more s = s
act_wider (program.Send c p) live more s = s
act_wider (program.Go n ps) live more s = s
act_wider (program.Return p) live more s = s
act_wider (program.Break depth) live more s = s
act_wider (program.Continue depth) live more s = s

pub act_keeps : (a : Act) (live : List ℕ) → Sub live (after_act a live)
act_keeps (program.Assign xs ps) live = sub_past (numbers_of xs) live
act_keeps (program.AssignReceive x y c zero) live = sub_past (numbers_of (x ∷ y ∷ [])) live
act_keeps (program.Update x op p) live = sub_self live
act_keeps (program.Eval p) live = sub_self live
act_keeps (program.Close c) live = sub_self live
act_keeps (program.Print ps) live = sub_self live
act_keeps (program.Send c p) live = sub_self live
act_keeps (program.Go n ps) live = sub_self live
act_keeps (program.Return p) live = sub_self live
act_keeps (program.Break depth) live = sub_self live
act_keeps (program.Continue depth) live = sub_self live

pub opening_wider : (o : Option Opening) (live more : List ℕ) → Sub live more
    → Sub (after_opening o live) (after_opening o more)
opening_wider None live more s = s
opening_wider (Some (Opens place act)) live more s = act_wider act live more s

pub opening_keeps : (o : Option Opening) (live : List ℕ) → Sub live (after_opening o live)
opening_keeps None live = sub_self live
opening_keeps (Some (Opens place act)) live = act_keeps act live

pub stmt_wider : (s : Stmt) (live more : List ℕ) → Sub live more → Sub (after_stmt s live) (after_stmt s more)
stmt_wider (Does place act) live more s = act_wider act live more s
stmt_wider (Block body) live more s = s
stmt_wider (If place init condition body otherwise) live more s = s
stmt_wider (For place init condition post body) live more s = s
stmt_wider (Range place target c body) live more s = s
stmt_wider (Select place cases) live more s = s

pub stmt_keeps : (s : Stmt) (live : List ℕ) → Sub live (after_stmt s live)
stmt_keeps (Does place act) live = act_keeps act live
stmt_keeps (Block body) live = sub_self live
stmt_keeps (If place init condition body otherwise) live = sub_self live
stmt_keeps (For place init condition post body) live = sub_self live
stmt_keeps (Range place target c body) live = sub_self live
stmt_keeps (Select place cases) live = sub_self live

module _ (d : Setting) where
  module _ (made : Made) (live more : List ℕ) (s : Sub live more) where
    mutual
      pub operand_wide : {t : Operand} {k : Sort} → SortedOperand d made live t k → SortedOperand d made more t k
      operand_wide (done h) = done h
      operand_wide (variable {x = x} e i) = variable e (s x i)
      operand_wide (unary o a) = unary o (operand_wide a)
      operand_wide (binary o a b) = binary o (operand_wide a) (operand_wide b)
      operand_wide (receive c h) = receive (operand_wide c) h
      operand_wide (call e h) = call e (operands_wide h)
      operand_wide (len c) = len (operand_wide c)
      operand_wide (cap c) = cap (operand_wide c)
      operand_wide (make n) = make (operand_wide n)

      pub operands_wide : {ts : Operands} {ks : List Sort} → SortedOperands d made live ts ks
          → SortedOperands d made more ts ks
      operands_wide no_operand = no_operand
      operands_wide (one_operand a rest) = one_operand (operand_wide a) (operands_wide rest)

  module _ (nests : List Nest) (live more : List ℕ) (s : Sub live more) where
    pub act_wide : {a : Act} {z : Bool} → SortedAct d nests live a z → SortedAct d nests more a z
    act_wide (assigns xs ps) = assigns xs (operands_wide nothing_made live more s ps)
    act_wide (assigns_receive c h xs) = assigns_receive (operand_wide nothing_made live more s c) h xs
    act_wide (updates {x} e i o p) = updates e (s x i) o (operand_wide nothing_made live more s p)
    act_wide (receives p) = receives (operand_wide nothing_made live more s p)
    act_wide (calls p) = calls (operand_wide nothing_made live more s p)
    act_wide (closes c) = closes (operand_wide nothing_made live more s c)
    act_wide (prints pieces ps) = prints pieces (operands_wide nothing_made live more s ps)
    act_wide (sends c p) = sends (operand_wide nothing_made live more s c) (operand_wide nothing_made live more s p)
    act_wide (goes e ps) = goes e (operands_wide nothing_made live more s ps)
    act_wide (returns e) = returns e
    act_wide (returns_value e p) = returns_value e (operand_wide nothing_made live more s p)
    act_wide (breaks e g) = breaks e g
    act_wide (continues e) = continues e

    pub opening_wide : {o : Option Opening} → SortedOpening d nests live o → SortedOpening d nests more o
    opening_wide no_opening = no_opening
    opening_wide (opening a) = opening (act_wide a)

  mutual
    pub stmt_wide : {nests : List Nest} {live : List ℕ} {t : Stmt} {z : Bool} (more : List ℕ) → Sub live more
        → SortedStmt d nests live t z → SortedStmt d nests more t z
    stmt_wide more s (does {nests} {live} a) = does (act_wide nests live more s a)
    stmt_wide more s (block body) = block (stmts_wide more s body)
    stmt_wide more s (if {nests} {live} {init = init} o c body otherwise) =
        let t = opening_wider init live more s in
        if (opening_wide nests live more s o) (operand_wide nothing_made (after_opening init live) (after_opening init more) t c)
        (stmts_wide (after_opening init more) t body) (stmts_wide (after_opening init more) t otherwise)
    stmt_wide more s (endless {nests} {live} {init = init} o post body) =
        let t = opening_wider init live more s in
        endless (opening_wide nests live more s o) (opening_wide nests (after_opening init live) (after_opening init more) t post)
        (stmts_wide (after_opening init more) t body)
    stmt_wide more s (for {nests} {live} {init = init} o c post body) =
        let t = opening_wider init live more s in
        for (opening_wide nests live more s o) (operand_wide nothing_made (after_opening init live) (after_opening init more) t c)
        (opening_wide nests (after_opening init live) (after_opening init more) t post)
        (stmts_wide (after_opening init more) t body)
    stmt_wide more s (range {live = live} {target = x} c targets body) =
        range (operand_wide nothing_made live more s c) targets
        (stmts_wide (numbers_of (x ∷ []) ++ more) (sub_before (numbers_of (x ∷ [])) live more s) body)
    stmt_wide more s (select clauses) = select (clauses_wide more s clauses)

    pub stmts_wide : {nests : List Nest} {live : List ℕ} {ss : Stmts} {z : Bool} (more : List ℕ) → Sub live more
        → SortedStmts d nests live ss z → SortedStmts d nests more ss z
    stmts_wide more s no_stmt = no_stmt
    stmts_wide more s (one_stmt {live = live} {s = t} h rest) =
        one_stmt (stmt_wide more s h) (stmts_wide (after_stmt t more) (stmt_wider t live more s) rest)
    stmts_wide more s (ends h) = ends (stmt_wide more s h)

    pub clauses_wide : {made : Made} {nests : List Nest} {live : List ℕ} {z : Bool} {cases : Cases}
        {operands : Operands} (more : List ℕ)
        → Sub live more → SortedClauses d made nests live z cases operands
        → SortedClauses d made nests more z cases operands
    clauses_wide more s no_clause = no_clause
    clauses_wide more s (default_clause body others) =
        default_clause (stmts_wide more s body) (clauses_wide more s others)
    clauses_wide more s (send_clause {made} {live = live} c e body others) =
        send_clause (operand_wide made live more s c) (operand_wide made live more s e) (stmts_wide more s body) (clauses_wide more s others)
    clauses_wide more s (receive_clause {made} {live = live} {xs = xs} c h targets body others) =
        receive_clause (operand_wide made live more s c) h targets (stmts_wide (numbers_of xs ++ more) (sub_before (numbers_of xs) live more s) body) (clauses_wide more s others)
