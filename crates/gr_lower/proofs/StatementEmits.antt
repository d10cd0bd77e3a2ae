-- What the functions that write the code of statements need of it.
use Rattle.std.proofs.Common.{◌≡◌, ℕ, zero, suc, ◌+◌, ◌<◌, ◌≤◌, List, [], ◌∷◌, ◌++◌, length, get_or, drop, Option, Some, None, Result, Ok, Err, OnOk, refl, sym, ap, ◌∙◌, arith, append_assoc, add-one, drop-cons}
use Rattle.gr_scan.specs.declared.token.Place.{Place}
use Rattle.gr_program.specs.declared.program.Stmt as rows
use Rattle.gr_program.specs.declared.program.Case as code_case
use Rattle.gr_program.specs.Programs as program
use Rattle.gr_program.specs.Programs.{Expr, Opening, Stmt, If, For, Stmts, stop, then, Cases, no_case, default_case, send_case, receive_case, Literal}
use Rattle.gr_program.specs.Views.{stmt_of, stmts_of, case_on, cases_of}
use Rattle.gr_rules.specs.Operands.{Variable, nothing, one, operand_of}
use Rattle.gr_rules.specs.Points.{case_operands}
use Rattle.gr_code.specs.Passing.{parts_in}
use Rattle.gr_code.specs.Instructions.{Action, Assigns, GoesOn, Tests, Ranges, Turns, Instruction, Perform}
use Rattle.gr_lower.specs.Sizes.{tested, opening_size, targets_size, size, size_in}
use Rattle.gr_lower.specs.StatementCode.{Way, way, entry, performed, opening_code, targets_code, stmt_code, stmts_code, cases_code}
use Rattle.gr_lower.specs.Headings.{if_heading, turn_of, for_heading}
use Rattle.gr_lower.specs.TurnHeadings.{range_heading, select_heading}

pub drop_stmts : (ss : List rows.Stmt) (i : ℕ) (s : rows.Stmt) → i < length ss
    → stmts_of (drop i ss) ≡ then (stmt_of (get_or ss i s)) (stmts_of (drop (i + 1) ss))
drop_stmts ss i s lt = rw add-one (ap stmts_of (drop-cons ss i s lt))

pub drop_cases : (cs : List code_case.Case) (i : ℕ) (c : code_case.Case) → i < length cs
    → cases_of (drop i cs) ≡ case_on (get_or cs i c) (cases_of (drop (i + 1) cs))
drop_cases cs i c lt = rw add-one (ap cases_of (drop-cons cs i c lt))

pub drop_no_stmts : (ss : List rows.Stmt) (i : ℕ) → length ss ≤ i → stmts_of (drop i ss) ≡ stop
drop_no_stmts [] zero le = refl
drop_no_stmts [] (suc i) le = refl
drop_no_stmts (s ∷ ss) zero le = absurd (omega arith)
drop_no_stmts (s ∷ ss) (suc i) le = drop_no_stmts ss i (omega arith)

pub drop_no_cases : (cs : List code_case.Case) (i : ℕ) → length cs ≤ i → cases_of (drop i cs) ≡ no_case
drop_no_cases [] zero le = refl
drop_no_cases [] (suc i) le = refl
drop_no_cases (e ∷ es) zero le = absurd (omega arith)
drop_no_cases (e ∷ es) (suc i) le = drop_no_cases es i (omega arith)

-- what is done after what comes before it
pub heading_emits : (x : List Instruction) (y : ℕ → Action → List Instruction) (o o' : ℕ) (a a' : Action) (pre out1 out2 : List Instruction)
    → out1 ≡ pre ++ x → out2 ≡ out1 ++ y o a → o ≡ o' → a ≡ a' → out2 ≡ pre ++ (x ++ y o' a')
heading_emits x y o o' a a' pre out1 out2 e1 e2 eo ea =
    e2 ∙ ap (λ l. l ++ y o a) e1 ∙ append_assoc pre x (y o a) ∙ ap (λ n. pre ++ (x ++ y n a)) eo ∙ ap (λ b. pre ++ (x ++ y o' b)) ea

flat_four : (pre x p b c : List Instruction) → ((pre ++ (x ++ p)) ++ b) ++ c ≡ pre ++ (x ++ p ++ b ++ c)
flat_four pre x p b c = ap (λ l. l ++ c) (append_assoc pre (x ++ p) b) ∙ append_assoc pre (x ++ p ++ b) c

pub if_emits : (place : Place) (init : Option Opening) (e : Expr) (body otherwise : Stmts) (d o on : ℕ) (ways : List Way) (o1 o2 : ℕ)
    (pre out1 out2 out3 : List Instruction)
    → out1 ≡ pre ++ if_heading init (operand_of e) (size_in body) (size_in otherwise) d o on ways
    → out2 ≡ out1 ++ stmts_code body d o1 on ways → out3 ≡ out2 ++ stmts_code otherwise d o2 on ways
    → o1 ≡ o + opening_size init + (parts_in (one (operand_of e)) + 1) → o2 ≡ o + opening_size init + (parts_in (one (operand_of e)) + 1) + size_in body
    → out3 ≡ pre ++ stmt_code (If place init e body otherwise) d o on ways
if_emits place init e body otherwise d o on ways o1 o2 pre out1 out2 out3 e1 e2 e3 f1 f2 =
    let test = o + opening_size init in
    let first = test + (parts_in (one (operand_of e)) + 1) in
    let x = opening_code init d o test ways in
    let p = performed (one (operand_of e)) d test (Tests (entry (size_in body) first on) (entry (size_in otherwise) (first + size_in body) on)) in
    e3 ∙ ap (λ l. l ++ stmts_code otherwise d o2 on ways) (e2 ∙ ap (λ l. l ++ stmts_code body d o1 on ways) e1)
    ∙ flat_four pre x p (stmts_code body d o1 on ways) (stmts_code otherwise d o2 on ways)
    ∙ ap (λ n. pre ++ (x ++ p ++ stmts_code body d n on ways ++ stmts_code otherwise d o2 on ways)) f1
    ∙ ap (λ n. pre ++ (x ++ p ++ stmts_code body d first on ways ++ stmts_code otherwise d n on ways)) f2

pub for_emits : (place : Place) (init : Option Opening) (e : Option Expr) (post : Option Opening) (body : Stmts) (d o on : ℕ) (ways : List Way)
    (o1 o2 turn test : ℕ)
    → (pre out1 out2 out3 : List Instruction)
    → out1 ≡ pre ++ for_heading init e (size_in body) (opening_size post) d o on ways
    → out2 ≡ out1 ++ stmts_code body d o1 turn (way on (Some turn) ∷ ways) → out3 ≡ out2 ++ opening_code post d o2 test ways
    → o1 ≡ o + opening_size init + (parts_in (tested e) + 1) → o2 ≡ o + opening_size init + (parts_in (tested e) + 1) + size_in body
    → turn ≡ turn_of init e (size_in body) (opening_size post) o → test ≡ o + opening_size init
    → out3 ≡ pre ++ stmt_code (For place init e post body) d o on ways
for_emits place init e post body d o on ways o1 o2 turn test pre out1 out2 out3 e1 e2 e3 f1 f2 ft fs =
    let from = o + opening_size init in
    let first = from + (parts_in (tested e) + 1) in
    let turn' = turn_of init e (size_in body) (opening_size post) o in
    let x = opening_code init d o from ways in
    let p = performed (tested e) d from (Tests (entry (size_in body) first turn') on) in
    e3 ∙ ap (λ l. l ++ opening_code post d o2 test ways) (e2 ∙ ap (λ l. l ++ stmts_code body d o1 turn (way on (Some turn) ∷ ways)) e1)
    ∙ flat_four pre x p (stmts_code body d o1 turn (way on (Some turn) ∷ ways)) (opening_code post d o2 test ways)
    ∙ ap (λ n. pre ++ (x ++ p ++ stmts_code body d n turn (way on (Some turn) ∷ ways) ++ opening_code post d o2 test ways)) f1
    ∙ ap (λ n. pre ++ (x ++ p ++ stmts_code body d first n (way on (Some n) ∷ ways) ++ opening_code post d o2 test ways)) ft
    ∙ ap (λ n. pre ++ (x ++ p ++ stmts_code body d first turn' (way on (Some turn') ∷ ways) ++ opening_code post d n test ways)) f2
    ∙ ap (λ n. pre ++ (x ++ p ++ stmts_code body d first turn' (way on (Some turn') ∷ ways) ++ opening_code post d (first + size_in body) n ways)) fs

flat_range : (pre p : List Instruction) (t a g : Instruction) (b : List Instruction) → (pre ++ (p ++ t ∷ a ∷ g ∷ [])) ++ b ≡ pre ++ (p ++ t ∷ a ∷ g ∷ b)
flat_range [] [] t a g b = refl
flat_range [] (i ∷ p) t a g b = ap (λ l. i ∷ l) (flat_range [] p t a g b)
flat_range (i ∷ pre) p t a g b = ap (λ l. i ∷ l) (flat_range pre p t a g b)

pub range_emits : (place : Place) (target : Option ℕ) (e : Expr) (body : Stmts) (d o on : ℕ) (ways : List Way) (o1 d1 turn : ℕ)
    (pre out1 out2 : List Instruction)
    → out1 ≡ pre ++ range_heading target (operand_of e) (size_in body) d o on
    → out2 ≡ out1 ++ stmts_code body d1 o1 turn (way on (Some turn) ∷ ways)
    → o1 ≡ o + (parts_in (one (operand_of e)) + 1) + 3 → d1 ≡ d + 1 → turn ≡ o + (parts_in (one (operand_of e)) + 1)
    → out2 ≡ pre ++ stmt_code (program.Range place target e body) d o on ways
range_emits place target e body d o on ways o1 d1 turn pre out1 out2 e1 e2 f1 fd ft =
    let n = o + (parts_in (one (operand_of e)) + 1) in
    let p = performed (one (operand_of e)) d o (Ranges d n) in
    let t = Perform (Turns (d + 1) (n + 1) (n + 2)) (one (Variable d)) in
    let a = Perform (Assigns (target ∷ []) (entry (size_in body) (n + 3) n)) (one (Variable (d + 1))) in
    let g = Perform (GoesOn on) nothing in
    e2 ∙ ap (λ l. l ++ stmts_code body d1 o1 turn (way on (Some turn) ∷ ways)) e1
    ∙ flat_range pre p t a g (stmts_code body d1 o1 turn (way on (Some turn) ∷ ways))
    ∙ ap (λ k. pre ++ (p ++ t ∷ a ∷ g ∷ stmts_code body d1 k turn (way on (Some turn) ∷ ways))) f1
    ∙ ap (λ k. pre ++ (p ++ t ∷ a ∷ g ∷ stmts_code body k (n + 3) turn (way on (Some turn) ∷ ways))) fd
    ∙ ap (λ k. pre ++ (p ++ t ∷ a ∷ g ∷ stmts_code body (d + 1) (n + 3) k (way on (Some k) ∷ ways))) ft

pub select_emits : (place : Place) (cases : Cases) (d o on : ℕ) (ways : List Way) (o1 : ℕ) (pre out1 out2 : List Instruction)
    → out1 ≡ pre ++ select_heading cases d o on → out2 ≡ out1 ++ cases_code cases d o1 on (way on None ∷ ways)
    → o1 ≡ o + (parts_in (case_operands cases) + 1) → out2 ≡ pre ++ stmt_code (program.Select place cases) d o on ways
select_emits place cases d o on ways o1 pre out1 out2 e1 e2 f1 =
    e2 ∙ ap (λ l. l ++ cases_code cases d o1 on (way on None ∷ ways)) e1
    ∙ append_assoc pre (select_heading cases d o on) (cases_code cases d o1 on (way on None ∷ ways))
    ∙ ap (λ k. pre ++ (select_heading cases d o on ++ cases_code cases d k on (way on None ∷ ways))) f1

pub stmts_on : (ss rest : Stmts) (s : Stmt) (d o o' on to : ℕ) (ways : List Way) (out out' w : List Instruction)
    → ss ≡ then s rest → o' ≡ o + size s → to ≡ entry (size_in rest) (o + size s) on → out' ≡ out ++ stmt_code s d o to ways
    → out ++ stmts_code ss d o on ways ≡ w → out' ++ stmts_code rest d o' on ways ≡ w
stmts_on ss rest s d o o' on to ways out out' w m eo et e ew =
    ap (λ l. l ++ stmts_code rest d o' on ways) e
    ∙ append_assoc out (stmt_code s d o to ways) (stmts_code rest d o' on ways)
    ∙ ap (λ n. out ++ (stmt_code s d o to ways ++ stmts_code rest d n on ways)) eo
    ∙ ap (λ n. out ++ (stmt_code s d o n ways ++ stmts_code rest d (o + size s) on ways)) et
    ∙ ap (λ s. out ++ stmts_code s d o on ways) (sym m) ∙ ew

pub case_on_code : (body : Stmts) (others : Cases) (d o o' on : ℕ) (ways : List Way) (pre out : List Instruction)
    → out ≡ pre ++ stmts_code body d o on ways → o' ≡ o + size_in body
    → out ++ cases_code others d o' on ways ≡ pre ++ (stmts_code body d o on ways ++ cases_code others d (o + size_in body) on ways)
case_on_code body others d o o' on ways pre out e eo =
    ap (λ l. l ++ cases_code others d o' on ways) e ∙ append_assoc pre (stmts_code body d o on ways) (cases_code others d o' on ways)
    ∙ ap (λ n. pre ++ (stmts_code body d o on ways ++ cases_code others d n on ways)) eo

pub received_on_code : (targets : List (Option ℕ)) (body : Stmts) (others : Cases) (d o o1 o' on to : ℕ) (ways : List Way) (pre out1 out2 : List Instruction)
    → out1 ≡ pre ++ targets_code targets d to → out2 ≡ out1 ++ stmts_code body d o1 on ways
    → to ≡ entry (size_in body) (o + targets_size targets) on → o1 ≡ o + targets_size targets → o' ≡ o + (targets_size targets + size_in body)
    → out2 ++ cases_code others d o' on ways
    ≡ pre ++ ((targets_code targets d (entry (size_in body) (o + targets_size targets) on) ++ stmts_code body d (o + targets_size targets) on ways)
    ++ cases_code others d (o + (targets_size targets + size_in body)) on ways)
received_on_code targets body others d o o1 o' on to ways pre out1 out2 e1 e2 et f1 fo =
    let first = o + targets_size targets in
    let all = e2 ∙ ap (λ l. l ++ stmts_code body d o1 on ways) e1 ∙ append_assoc pre (targets_code targets d to) (stmts_code body d o1 on ways)
    ∙ ap (λ n. pre ++ (targets_code targets d n ++ stmts_code body d o1 on ways)) et
    ∙ ap (λ n. pre ++ (targets_code targets d (entry (size_in body) first on) ++ stmts_code body d n on ways)) f1 in
    let both = targets_code targets d (entry (size_in body) first on) ++ stmts_code body d first on ways in
    ap (λ l. l ++ cases_code others d o' on ways) all ∙ append_assoc pre both (cases_code others d o' on ways)
    ∙ ap (λ n. pre ++ (both ++ cases_code others d n on ways)) fo

pub on_ok_both : {A B : Type 0} {P Q R : Type 0} (r : Result A B) → OnOk r P → OnOk r Q → (P → Q → R) → OnOk r R
on_ok_both (Ok x) h k f = f h k
on_ok_both (Err e) h k f = tt

pub always_ok : {A B : Type 0} {P : Type 0} (r : Result A B) → P → OnOk r P
always_ok (Ok x) h = h
always_ok (Err e) h = tt
