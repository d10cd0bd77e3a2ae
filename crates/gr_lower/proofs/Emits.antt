-- What the functions that write the code of expressions need of it.
use Rattle.std.proofs.Common.{◌≡◌, ℕ, zero, suc, ◌+◌, ◌<◌, ◌≤◌, List, [], ◌∷◌, ◌++◌, length, get_or, drop, Some, Result, Ok, Err, IfOk, OnOk, refl, sym, ap, ◌∙◌, arith, append_assoc, add-one, drop-cons}
use Rattle.gr_tree.specs.declared.expr.BinaryOp.{BinaryOp}
use Rattle.gr_program.specs.declared.program.Expr.{Expr}
use Rattle.gr_program.specs.Programs.{Exprs, none, more}
use Rattle.gr_program.specs.Views.{expr_of, exprs_of}
use Rattle.gr_rules.specs.Operands.{Operand, Binary, Call, Operands, nothing, also}
use Rattle.gr_rules.specs.Operands as rules
use Rattle.gr_code.specs.declared.code.Operand as code_operand
use Rattle.gr_code.specs.declared.code.Instruction as code_instruction
use Rattle.gr_rules.specs.Parts.{Calls}
use Rattle.gr_code.specs.Instructions.{Instruction, Part}
use Rattle.gr_code.specs.CodeViews.{operand_of, operands_of, instruction_of, instructions_of}
use Rattle.gr_code.specs.Passing.{parts, parts_in}
use Rattle.gr_lower.specs.PartCode.{left, left_in, right_code, code, code_in}

pub instructions_append : (xs ys : List code_instruction.Instruction) → instructions_of (xs ++ ys) ≡ instructions_of xs ++ instructions_of ys
instructions_append [] ys = refl
instructions_append (x ∷ xs) ys = ap (λ l. instruction_of x ∷ l) (instructions_append xs ys)

pub alone : {A : Type 0} (xs : List A) → xs ++ [] ≡ xs
alone [] = refl
alone (x ∷ xs) = ap (λ l. x ∷ l) (alone xs)

-- operands one after another
abbrev pub joined : Operands → Operands → Operands
joined nothing others = others
joined (also a rest) others = also a (joined rest others)

pub operands_push : (xs : List code_operand.Operand) (x : code_operand.Operand) (others : Operands)
    → joined (operands_of (xs ++ x ∷ [])) others ≡ joined (operands_of xs) (also (operand_of x) others)
operands_push [] x others = refl
operands_push (y ∷ xs) x others = ap (also (operand_of y)) (operands_push xs x others)

pub joined_end : (es : Operands) → joined es nothing ≡ es
joined_end nothing = refl
joined_end (also a rest) = ap (also a) (joined_end rest)

pub drop_exprs : (es : List Expr) (i : ℕ) (e : Expr) → i < length es
    → exprs_of (drop i es) ≡ more (expr_of (get_or es i e)) (exprs_of (drop (i + 1) es))
drop_exprs es i e lt = rw add-one (ap exprs_of (drop-cons es i e lt))

pub drop_none : (es : List Expr) (i : ℕ) → length es ≤ i → exprs_of (drop i es) ≡ none
drop_none [] zero le = refl
drop_none [] (suc i) le = refl
drop_none (e ∷ es) zero le = absurd (omega arith)
drop_none (e ∷ es) (suc i) le = drop_none es i (omega arith)

pub on_ok : {A B : Type 0} {P Q : Type 0} (r : Result A B) → OnOk r P → (P → Q) → OnOk r Q
on_ok (Ok x) h f = f h
on_ok (Err e) h f = tt

pub if_ok : {A B : Type 0} {P Q : A → Type 0} (r : Result A B) → IfOk r P → ((x : A) → P x → Q x) → IfOk r Q
if_ok (Ok x) h f = f x h
if_ok (Err e) h f = tt

-- the right operand after the left one
pub binary_emits : (op : BinaryOp) (whole a b : Operand) (d o d' o' : ℕ) (a' : Operand) (pre out1 out2 : List Instruction)
    → whole ≡ Binary op a b → a' ≡ left a d → d' ≡ d + parts a → o' ≡ o + parts a → out1 ≡ pre ++ code a d o
    → out2 ≡ out1 ++ right_code op a' (parts b) d' o' (code b) → out2 ≡ pre ++ code whole d o
binary_emits op whole a b d o d' o' a' pre out1 out2 ew ea ed eo e1 e2 =
    e2 ∙ ap (λ l. l ++ right_code op a' (parts b) d' o' (code b)) e1
    ∙ append_assoc pre (code a d o) (right_code op a' (parts b) d' o' (code b))
    ∙ ap (λ x. pre ++ (code a d o ++ right_code op x (parts b) d' o' (code b))) ea
    ∙ ap (λ n. pre ++ (code a d o ++ right_code op (left a d) (parts b) n o' (code b))) ed
    ∙ ap (λ n. pre ++ (code a d o ++ right_code op (left a d) (parts b) (d + parts a) n (code b))) eo
    ∙ ap (λ t. pre ++ code t d o) (sym ew)

-- a call after its arguments
pub call_emits : (f g : ℕ) (whole : Operand) (es xs : Operands) (d o slot on : ℕ) (pre out1 out2 : List Instruction)
    → whole ≡ Call f es → xs ≡ left_in es d → out1 ≡ pre ++ code_in es d o → slot ≡ d + parts_in es → on ≡ o + parts_in es + 1
    → g ≡ f → out2 ≡ out1 ++ Part (Calls g xs) (Some slot) on ∷ [] → out2 ≡ pre ++ code whole d o
call_emits f g whole es xs d o slot on pre out1 out2 ew ex e1 es' eo eg e2 =
    e2 ∙ ap (λ k. out1 ++ Part (Calls k xs) (Some slot) on ∷ []) eg ∙ ap (λ l. l ++ Part (Calls f xs) (Some slot) on ∷ []) e1
    ∙ append_assoc pre (code_in es d o) (Part (Calls f xs) (Some slot) on ∷ [])
    ∙ ap (λ x. pre ++ (code_in es d o ++ Part (Calls f x) (Some slot) on ∷ [])) ex
    ∙ ap (λ n. pre ++ (code_in es d o ++ Part (Calls f (left_in es d)) (Some n) on ∷ [])) es'
    ∙ ap (λ n. pre ++ (code_in es d o ++ Part (Calls f (left_in es d)) (Some (d + parts_in es)) n ∷ [])) eo
    ∙ ap (λ t. pre ++ code t d o) (sym ew)

-- one more expression of a list
module _ (es rest : Exprs) (e : rules.Operand) (d d' o o' : ℕ) where
  pub code_on : (out out' w : List Instruction) → rules.operands_of es ≡ also e (rules.operands_of rest) → d' ≡ d + parts e → o' ≡ o + parts e
      → out' ≡ out ++ code e d o
      → out ++ code_in (rules.operands_of es) d o ≡ w → out' ++ code_in (rules.operands_of rest) d' o' ≡ w
  code_on out out' w m ed eo e' ew =
      let others = rules.operands_of rest in
      ap (λ l. l ++ code_in others d' o') e' ∙ append_assoc out (code e d o) (code_in others d' o')
      ∙ ap (λ n. out ++ (code e d o ++ code_in others n o')) ed ∙ ap (λ n. out ++ (code e d o ++ code_in others (d + parts e) n)) eo
      ∙ ap (λ t. out ++ code_in t d o) (sym m) ∙ ew

  pub left_on : (xs xs' : List code_operand.Operand) (x : code_operand.Operand) (w : Operands) → rules.operands_of es ≡ also e (rules.operands_of rest)
      → d' ≡ d + parts e → xs' ≡ xs ++ x ∷ [] → operand_of x ≡ left e d
      → joined (operands_of xs) (left_in (rules.operands_of es) d) ≡ w → joined (operands_of xs') (left_in (rules.operands_of rest) d') ≡ w
  left_on xs xs' x w m ed ex el ew =
      let others = rules.operands_of rest in
      ap (λ l. joined (operands_of l) (left_in others d')) ex ∙ operands_push xs x (left_in others d')
      ∙ ap (λ t. joined (operands_of xs) (also t (left_in others d'))) el ∙ ap (λ n. joined (operands_of xs) (also (left e d) (left_in others n))) ed
      ∙ ap (λ t. joined (operands_of xs) (left_in t d)) (sym m) ∙ ew
