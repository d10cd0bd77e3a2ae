-- What the functions that write the arms of a select need of it.
use Rattle.std.proofs.Common.{◌≡◌, ℕ, ◌+◌, List, [], ◌∷◌, ◌++◌, get_or, Option, refl, sym, ap, ◌∙◌, append_assoc}
use Rattle.gr_program.specs.declared.program.Case as code_case
use Rattle.gr_program.specs.declared.program.Case.TheVariants as code_cases
use Rattle.gr_program.specs.Programs.{Expr, Literal, Stmts, Cases, default_case, send_case, receive_case}
use Rattle.gr_program.specs.Views.{row_stmts, case_on}
use Rattle.gr_rules.specs.Operands.{Operand, Operands, also, value_of, operand_of}
use Rattle.gr_code.specs.declared.code.Arm as code_arm
use Rattle.gr_code.specs.CodeViews.{arm_of, arms_of}
use Rattle.gr_code.specs.Instructions.{Arm, DefaultArm, SendArm, ReceiveArm, Instruction}
use Rattle.gr_code.specs.Passing.{parts}
use Rattle.gr_lower.specs.PartCode.{left, code, code_in}
use Rattle.gr_lower.specs.Sizes.{targets_size, size_in}
use Rattle.gr_lower.specs.Asked.{clause_sizes}
use Rattle.gr_lower.specs.StatementCode.{entry, into, arms}

pub arms_push : (xs : List code_arm.Arm) (x : code_arm.Arm) (rest : List Arm) → arms_of (xs ++ x ∷ []) ++ rest ≡ arms_of xs ++ arm_of x ∷ rest
arms_push [] x rest = refl
arms_push (y ∷ xs) x rest = ap (λ l. arm_of y ∷ l) (arms_push xs x rest)

-- one operand before others
pub code_before : (e : Operand) (es : Operands) (t o t' o' : ℕ) (pre out : List Instruction) → out ≡ pre ++ code e t o → t' ≡ t + parts e → o' ≡ o + parts e
    → out ++ code_in es t' o' ≡ pre ++ code_in (also e es) t o
code_before e es t o t' o' pre out eo et en =
    ap (λ l. l ++ code_in es t' o') eo ∙ append_assoc pre (code e t o) (code_in es t' o')
    ∙ ap (λ n. pre ++ (code e t o ++ code_in es n o')) et ∙ ap (λ n. pre ++ (code e t o ++ code_in es (t + parts e) n)) en

-- the size that a clause has first
pub one_clause : (x : code_case.Case) → (n : ℕ) × ((others : Cases) → clause_sizes (case_on x others) ≡ n ∷ clause_sizes others)
one_clause (code_cases.Default' shape body) = (size_in (row_stmts body), λ others. refl)
one_clause (code_cases.Send' channel value shape body) = (size_in (row_stmts body), λ others. refl)
one_clause (code_cases.Receive' targets channel initial shape body) = (targets_size targets.items + size_in (row_stmts body), λ others. refl)

-- the first one of two lists
first_of : {m n : ℕ} {ms ns : List ℕ} → m ∷ ms ≡ n ∷ ns → m ≡ n
first_of e = ap (λ l. get_or l 0 0) e

pub default_arm_is : (body : Stmts) (others : Cases) (t d o on x n t' : ℕ) → x ≡ entry n o on
    → clause_sizes (default_case body others) ≡ n ∷ clause_sizes others → t' ≡ t
    → arms (default_case body others) t d o on ≡ DefaultArm x ∷ arms others t' d (o + n) on
default_arm_is body others t d o on x n t' ex en et =
    let e : size_in body ≡ n = first_of en in
    ap (λ m. DefaultArm (entry m o on) ∷ arms others t d (o + m) on) e ∙ ap (λ y. DefaultArm y ∷ arms others t d (o + n) on) (sym ex)
    ∙ ap (λ k. DefaultArm x ∷ arms others k d (o + n) on) (sym et)

pub send_arm_is : (e f : Expr) (body : Stmts) (others : Cases) (t d o on : ℕ) (x y : Operand) (z n u t' : ℕ) → x ≡ left (operand_of e) t
    → y ≡ left (operand_of f) u → u ≡ t + parts (operand_of e) → z ≡ entry n o on
    → clause_sizes (send_case e f body others) ≡ n ∷ clause_sizes others → t' ≡ t + parts (operand_of e) + parts (operand_of f)
    → arms (send_case e f body others) t d o on ≡ SendArm x y z ∷ arms others t' d (o + n) on
send_arm_is e f body others t d o on x y z n u t' ex ey eu ez en et =
    let m : size_in body ≡ n = first_of en in
    let s = t + parts (operand_of e) in
    let t2 = s + parts (operand_of f) in
    ap (λ m. SendArm (left (operand_of e) t) (left (operand_of f) s) (entry m o on) ∷ arms others t2 d (o + m) on) m
    ∙ ap (λ k. SendArm k (left (operand_of f) s) (entry n o on) ∷ arms others t2 d (o + n) on) (sym ex)
    ∙ ap (λ k. SendArm x k (entry n o on) ∷ arms others t2 d (o + n) on) (sym (ey ∙ ap (left (operand_of f)) eu))
    ∙ ap (λ k. SendArm x y k ∷ arms others t2 d (o + n) on) (sym ez) ∙ ap (λ k. SendArm x y z ∷ arms others k d (o + n) on) (sym et)

pub receive_arm_is : (targets : List (Option ℕ)) (e : Expr) (initial : Literal) (body : Stmts) (others : Cases) (t d o on : ℕ) (x : Operand)
    (w : Option (ℕ × ℕ)) (z n t' : ℕ)
    → x ≡ left (operand_of e) t → w ≡ into targets d → z ≡ entry n o on
    → clause_sizes (receive_case targets e initial body others) ≡ n ∷ clause_sizes others → t' ≡ t + parts (operand_of e)
    → arms (receive_case targets e initial body others) t d o on ≡ ReceiveArm x (value_of initial) w z ∷ arms others t' d (o + n) on
receive_arm_is targets e initial body others t d o on x w z n t' ex ew ez en et =
    let m : targets_size targets + size_in body ≡ n = first_of en in
    let t2 = t + parts (operand_of e) in
    let v = value_of initial in
    ap (λ m. ReceiveArm (left (operand_of e) t) v (into targets d) (entry m o on) ∷ arms others t2 d (o + m) on) m
    ∙ ap (λ k. ReceiveArm k v (into targets d) (entry n o on) ∷ arms others t2 d (o + n) on) (sym ex)
    ∙ ap (λ k. ReceiveArm x v k (entry n o on) ∷ arms others t2 d (o + n) on) (sym ew)
    ∙ ap (λ k. ReceiveArm x v w k ∷ arms others t2 d (o + n) on) (sym ez) ∙ ap (λ k. ReceiveArm x v w z ∷ arms others k d (o + n) on) (sym et)
