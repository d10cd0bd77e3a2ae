-- What the functions that write the code of simple statements need of it.
use Rattle.std.proofs.Common.{◌≡◌, ℕ, zero, suc, ◌+◌, ◌<◌, ◌≤◌, List, [], ◌∷◌, ◌++◌, length, get_or, drop, None, refl, sym, ap, ◌∙◌, arith, append_assoc, add-one, drop-cons}
use Rattle.gr_base.specs.declared.values.Value.{Value}
use Rattle.gr_program.specs.declared.program.Printed as code_printed
use Rattle.gr_program.specs.declared.program.Printed.TheVariants as prints
use Rattle.gr_program.specs.Views.{printed_of, prints_of}
use Rattle.gr_rules.specs.Operands.{Operand, Call, Receive, Operands, also, one, two}
use Rattle.gr_rules.specs.Parts.{Calls, Receives}
use Rattle.gr_rules.specs.Points as points
use Rattle.gr_rules.specs.Points.{Piece}
use Rattle.gr_code.specs.declared.code.Piece as code_piece
use Rattle.gr_code.specs.CodeViews.{piece_of, pieces_of}
use Rattle.gr_code.specs.Instructions.{Action, Instruction, Part, Perform}
use Rattle.gr_code.specs.Passing.{parts}
use Rattle.gr_lower.specs.PartCode.{left, left_in, code, code_in}
use Rattle.gr_lower.specs.StatementCode.{performed, whole_code}
use Rattle.gr_code.specs.declared.code.Operand as code_operand
use Rattle.gr_code.specs.CodeViews as code_views
use Rattle.gr_lower.proofs.Emits.{alone, joined, operands_push}

pub performed_emits : (es xs : Operands) (d o : ℕ) (a : Action) (pre out1 out2 : List Instruction)
    → out1 ≡ pre ++ code_in es d o → xs ≡ left_in es d → out2 ≡ out1 ++ Perform a xs ∷ [] → out2 ≡ pre ++ performed es d o a
performed_emits es xs d o a pre out1 out2 e1 ex e2 =
    e2 ∙ ap (λ l. l ++ Perform a xs ∷ []) e1 ∙ append_assoc pre (code_in es d o) (Perform a xs ∷ [])
    ∙ ap (λ x. pre ++ (code_in es d o ++ Perform a x ∷ [])) ex

pub one_emits : (e x : Operand) (xs : Operands) (d o : ℕ) (a : Action) (pre out1 out2 : List Instruction)
    → out1 ≡ pre ++ code e d o → x ≡ left e d → xs ≡ one x → out2 ≡ out1 ++ Perform a xs ∷ [] → out2 ≡ pre ++ performed (one e) d o a
one_emits e x xs d o a pre out1 out2 e1 ex exs e2 =
    performed_emits (one e) xs d o a pre out1 out2 (e1 ∙ ap (λ l. pre ++ l) (sym (alone (code e d o)))) (exs ∙ ap one ex) e2

pub two_emits : (e f x y : Operand) (xs : Operands) (d o d' o' : ℕ) (a : Action) (pre out1 out2 out3 : List Instruction)
    → out1 ≡ pre ++ code e d o → out2 ≡ out1 ++ code f d' o' → d' ≡ d + parts e → o' ≡ o + parts e → x ≡ left e d → y ≡ left f d' → xs ≡ two x y
    → out3 ≡ out2 ++ Perform a xs ∷ [] → out3 ≡ pre ++ performed (two e f) d o a
two_emits e f x y xs d o d' o' a pre out1 out2 out3 e1 e2 ed eo ex ey exs e3 =
    performed_emits (two e f) xs d o a pre out2 out3
    (e2 ∙ ap (λ l. l ++ code f d' o') e1 ∙ append_assoc pre (code e d o) (code f d' o')
    ∙ ap (λ n. pre ++ (code e d o ++ code f n o')) ed ∙ ap (λ n. pre ++ (code e d o ++ code f (d + parts e) n)) eo
    ∙ ap (λ l. pre ++ (code e d o ++ l)) (sym (alone (code f (d + parts e) (o + parts e)))))
    (exs ∙ ap (λ t. two t y) ex ∙ ap (two (left e d)) (ey ∙ ap (left f) ed)) e3

pub whole_call_emits : (f g : ℕ) (whole : Operand) (es xs : Operands) (d o on : ℕ) (pre out1 out2 : List Instruction)
    → whole ≡ Call f es → xs ≡ left_in es d → out1 ≡ pre ++ code_in es d o → g ≡ f → out2 ≡ out1 ++ Part (Calls g xs) None on ∷ []
    → out2 ≡ pre ++ whole_code whole d o on
whole_call_emits f g whole es xs d o on pre out1 out2 ew ex e1 eg e2 =
    e2 ∙ ap (λ k. out1 ++ Part (Calls k xs) None on ∷ []) eg ∙ ap (λ l. l ++ Part (Calls f xs) None on ∷ []) e1
    ∙ append_assoc pre (code_in es d o) (Part (Calls f xs) None on ∷ [])
    ∙ ap (λ x. pre ++ (code_in es d o ++ Part (Calls f x) None on ∷ [])) ex ∙ ap (λ w. pre ++ whole_code w d o on) (sym ew)

pub whole_receive_emits : (whole c x : Operand) (initial : Value) (d o on : ℕ) (pre out1 out2 : List Instruction)
    → whole ≡ Receive c initial → x ≡ left c d → out1 ≡ pre ++ code c d o → out2 ≡ out1 ++ Part (Receives x initial) None on ∷ []
    → out2 ≡ pre ++ whole_code whole d o on
whole_receive_emits whole c x initial d o on pre out1 out2 ew ex e1 e2 =
    e2 ∙ ap (λ l. l ++ Part (Receives x initial) None on ∷ []) e1 ∙ append_assoc pre (code c d o) (Part (Receives x initial) None on ∷ [])
    ∙ ap (λ x. pre ++ (code c d o ++ Part (Receives x initial) None on ∷ [])) ex ∙ ap (λ w. pre ++ whole_code w d o on) (sym ew)

-- one list of instructions after another
pub then_emits : (x y : List Instruction) (pre out1 out2 : List Instruction) → out1 ≡ pre ++ x → out2 ≡ out1 ++ y → out2 ≡ pre ++ (x ++ y)
then_emits x y pre out1 out2 e1 e2 = e2 ∙ ap (λ l. l ++ y) e1 ∙ append_assoc pre x y

pub pieces_push : (ps : List code_piece.Piece) (p : code_piece.Piece) (rest : List Piece) → pieces_of (ps ++ p ∷ []) ++ rest ≡ pieces_of ps ++ piece_of p ∷ rest
pieces_push [] p rest = refl
pieces_push (q ∷ ps) p rest = ap (λ l. piece_of q ∷ l) (pieces_push ps p rest)

pub drop_prints : (vs : List code_printed.Printed) (i : ℕ) (v : code_printed.Printed) → i < length vs
    → prints_of (drop i vs) ≡ printed_of (get_or vs i v) ∷ prints_of (drop (i + 1) vs)
drop_prints vs i v lt = rw add-one (ap prints_of (drop-cons vs i v lt))

pub drop_no_prints : (vs : List code_printed.Printed) (i : ℕ) → length vs ≤ i → prints_of (drop i vs) ≡ []
drop_no_prints [] zero le = refl
drop_no_prints [] (suc i) le = refl
drop_no_prints (e ∷ es) zero le = absurd (omega arith)
drop_no_prints (e ∷ es) (suc i) le = drop_no_prints es i (omega arith)

-- the pieces of one more thing that is printed
pub pieces_on : (v : code_printed.Printed) (p : Piece) (vs : List code_printed.Printed) → p ∷ [] ≡ points.pieces_of (prints_of (v ∷ []))
    → points.pieces_of (printed_of v ∷ prints_of vs) ≡ p ∷ points.pieces_of (prints_of vs)
pieces_on (prints.Value value) p vs e = ap (λ l. l ++ points.pieces_of (prints_of vs)) (sym e)
pieces_on (prints.Text bytes) p vs e = ap (λ l. l ++ points.pieces_of (prints_of vs)) (sym e)

-- one more operand of a list
module _ (es rest : Operands) (e : Operand) (d d' o o' : ℕ) where
  pub operand_code_on : (out out' w : List Instruction) → es ≡ also e rest → d' ≡ d + parts e → o' ≡ o + parts e → out' ≡ out ++ code e d o
      → out ++ code_in es d o ≡ w → out' ++ code_in rest d' o' ≡ w
  operand_code_on out out' w m ed eo e' ew =
      ap (λ l. l ++ code_in rest d' o') e' ∙ append_assoc out (code e d o) (code_in rest d' o')
      ∙ ap (λ n. out ++ (code e d o ++ code_in rest n o')) ed ∙ ap (λ n. out ++ (code e d o ++ code_in rest (d + parts e) n)) eo
      ∙ ap (λ t. out ++ code_in t d o) (sym m) ∙ ew

  pub operand_left_on : (xs xs' : List code_operand.Operand) (x : code_operand.Operand) (w : Operands) → es ≡ also e rest
      → d' ≡ d + parts e → xs' ≡ xs ++ x ∷ [] → code_views.operand_of x ≡ left e d
      → joined (code_views.operands_of xs) (left_in es d) ≡ w → joined (code_views.operands_of xs') (left_in rest d') ≡ w
  operand_left_on xs xs' x w m ed ex el ew =
      ap (λ l. joined (code_views.operands_of l) (left_in rest d')) ex ∙ operands_push xs x (left_in rest d')
      ∙ ap (λ t. joined (code_views.operands_of xs) (also t (left_in rest d'))) el
      ∙ ap (λ n. joined (code_views.operands_of xs) (also (left e d) (left_in rest n))) ed
      ∙ ap (λ t. joined (code_views.operands_of xs) (left_in t d)) (sym m) ∙ ew
