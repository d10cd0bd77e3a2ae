-- Tasks in the order in which the code finds them.
use Rattle.std.proofs.Common.{◌≡◌, ℕ, List, [], ◌∷◌, ◌++◌, Option, Some, None, refl, sym, ap, ◌∙◌}
use Rattle.std.specs.Prelude.{slice_get}
use Rattle.gr_tree.specs.declared.expr.BinaryOp.{BinaryOp}
use Rattle.gr_base.specs.declared.values.Value.{Value}
use Rattle.gr_rules.specs.Outcomes.{Outcome, gives, faults, wrong, ◌>>=◌}
use Rattle.gr_rules.specs.Operators.{operate}
use Rattle.gr_rules.specs.Operands.{Operands}
use Rattle.gr_rules.specs.Evaluation.{Variables, held, evaluate_all}
use Rattle.gr_rules.specs.Frames.{assigned, written}
use Rattle.gr_rules.specs.Deeds.{Prints, Leaves, only, spaced}
use Rattle.gr_code.specs.Instructions.{Assigns, Updates, Returns}
use Rattle.gr_code.specs.CodeFrames.{CodeFrame, Task, Steps, Wants, acted}
use Rattle.gr_goros.specs.Tasks.{only_of, performed, stored, updated}

same_then : {A B : Type 0} → (o : Outcome A) (k g : A → Outcome B) → ((x : A) → k x ≡ g x) → (o >>= k) ≡ (o >>= g)
same_then (gives x) k g e = e x
same_then (faults f) k g e = refl
same_then wrong k g e = refl

update_only : (op : BinaryOp) (os : Outcome (List Value)) (s : Option (Option Value)) (k g : Value → Outcome Task) → ((w : Value) → k w ≡ g w)
    → (os >>= λ vs. (held s >>= λ u. only vs >>= operate op u) >>= k) ≡ ((os >>= only) >>= λ v. held s >>= λ u. operate op u v >>= g)
update_only op (faults e) s k g h = refl
update_only op wrong s k g h = refl
update_only op (gives []) None k g h = refl
update_only op (gives []) (Some None) k g h = refl
update_only op (gives []) (Some (Some u)) k g h = refl
update_only op (gives (v ∷ [])) None k g h = refl
update_only op (gives (v ∷ [])) (Some None) k g h = refl
update_only op (gives (v ∷ [])) (Some (Some u)) k g h = same_then (operate op u v) k g h
update_only op (gives (v ∷ w ∷ vs)) None k g h = refl
update_only op (gives (v ∷ w ∷ vs)) (Some None) k g h = refl
update_only op (gives (v ∷ w ∷ vs)) (Some (Some u)) k g h = refl

store_only : (s : Option (Option Value)) (x : ℕ) (w : Value) (cells : Variables) (g : Variables → Outcome Task)
    → ((written s x w cells >>= λ held. gives held) >>= g) ≡ (written s x w cells >>= g)
store_only None x w cells g = refl
store_only (Some old) x w cells g = refl

-- an assignment with an operator
pub updated_is : (f : CodeFrame) (x : ℕ) (op : BinaryOp) (on : ℕ) (es : Operands) → performed f (Updates x op on) es ≡ updated f x op on es
updated_is f x op on es =
    update_only op (evaluate_all f.cells es) (slice_get f.cells x) _ (stored f x on)
    (λ w. store_only (slice_get f.cells x) x w f.cells (λ cells. gives (Steps (record f { cells = cells; number = on }))))

-- what an assignment with an operator comes to, part by part
module _ (f : CodeFrame) (x : ℕ) (op : BinaryOp) (on : ℕ) (es : Operands) (cells : Variables) (same : cells ≡ f.cells) where
  abbrev with_right : Outcome Value → Outcome Task
  with_right o = o >>= λ v. held (slice_get f.cells x) >>= λ u. operate op u v >>= stored f x on

  abbrev with_left : Value → Outcome Value → Outcome Task
  with_left v o = o >>= λ u. operate op u v >>= stored f x on

  by_right : (o : Outcome Value) → only_of cells es ≡ o → updated f x op on es ≡ with_right o
  by_right o e = ap (λ cells. with_right (only_of cells es)) (sym same) ∙ ap with_right e

  pub update_evaluates : ¬ (updated f x op on es ≡ wrong) → ¬ (only_of cells es ≡ wrong)
  update_evaluates right w = right (by_right wrong w)

  module _ (v : Value) (e : only_of cells es ≡ gives v) where
    pub update_holds : ¬ (updated f x op on es ≡ wrong) → ¬ (held (slice_get f.cells x) ≡ wrong)
    update_holds right w = right (by_right (gives v) e ∙ ap (with_left v) w)

    pub update_goes : (u : Value) → held (slice_get f.cells x) ≡ gives u → updated f x op on es ≡ (operate op u v >>= stored f x on)
    update_goes u h = by_right (gives v) e ∙ ap (with_left v) h

-- values that are there can be assigned
pub assign_right : (f : CodeFrame) (ts : List (Option ℕ)) (on : ℕ) (es : Operands) (vs : List Value) → evaluate_all f.cells es ≡ gives vs
    → ¬ (performed f (Assigns ts on) es ≡ wrong) → ¬ (assigned ts vs f.cells ≡ wrong)
assign_right f ts on es vs is right w =
    right (ap (λ (o : Outcome (List Value)). o >>= acted f (Assigns ts on)) is
    ∙ ap (λ (o : Outcome Variables). o >>= λ cells. gives (Steps (record f { cells = cells; number = on }))) w)

-- a line that is printed
pub line_is : (o : Outcome (List (List ℕ))) (line : List ℕ) → (o >>= λ ts. gives (spaced ts)) ≡ gives line
    → (o >>= λ ts. gives (Wants (Prints (spaced ts)))) ≡ gives (Wants (Prints line))
line_is (gives ts) line e = cc
line_is (faults f) line e = cc
line_is wrong line e = cc

-- the one value is the last
pub last_only : (vs rest : List Value) (v : Value) → vs ≡ rest ++ v ∷ [] → ¬ (only vs ≡ wrong) → only vs ≡ gives v
last_only vs [] v e h = ap only e
last_only vs (x ∷ []) v e h = absurd (h (ap only e))
last_only vs (x ∷ y ∷ rest) v e h = absurd (h (ap only e))

pub last_returned : (f : CodeFrame) (vs rest : List Value) (v : Value) → vs ≡ rest ++ v ∷ [] → ¬ (acted f Returns vs ≡ wrong)
    → acted f Returns vs ≡ gives (Wants (Leaves v))
last_returned f vs [] v e h = ap (acted f Returns) e
last_returned f vs (x ∷ []) v e h = absurd (h (ap (acted f Returns) e))
last_returned f vs (x ∷ y ∷ rest) v e h = absurd (h (ap (acted f Returns) e))
