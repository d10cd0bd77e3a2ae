-- Lines with a breakpoint, in a list and in a table.
use Rattle.std.proofs.Common.{◌≡◌, ℕ, Bool, true, false, cond, if◌then◌else◌, nat_eq, eq-eqb, eqb-true, List, [], ◌∷◌, Option, Some, None, inl, inr, refl, sym, ap, ◌∙◌}
use Rattle.std.specs.Prelude.{option_map}
use Rattle.std.specs.List.{list_any}
use Rattle.std.proofs.lemmas.Bool.{cases_Bool}
use Rattle.indexmap.specs.IndexMap.{IndexMap, get}
use Rattle.gr_rules.specs.Turns.{break_at, at_break}
use Rattle.gr_session.specs.Journal.{without_line}
use Rattle.gr_session.specs.Debuggees.{HasLines}

-- why steps end at a line: by the table
pub break_by_table : {S : Type 0} (lines : List ℕ) (table : IndexMap ℕ ℕ S) → HasLines lines table → (line : ℕ)
    → break_at lines (Some line) ≡ option_map at_break (get nat_eq table line)
break_by_table lines table has line = elim (cases_Bool (list_any (nat_eq line) lines)) [
  | inl t ↦ ap (λ b. if b then Some (at_break line) else None) t ∙ sym (ap (option_map at_break) (has line ∙ ap (λ b. if b then Some line else None) t))
  | inr f ↦ ap (λ b. if b then Some (at_break line) else None) f ∙ sym (ap (option_map at_break) (has line ∙ ap (λ b. if b then Some line else None) f))
]

-- no line of an empty table has one
pub no_break_by_table : {S : Type 0} (lines : List ℕ) (table : IndexMap ℕ ℕ S) → HasLines lines table → ((n : ℕ) → get nat_eq table n ≡ None)
    → (line : Option ℕ) → break_at lines line ≡ None
no_break_by_table lines table has empty None = refl
no_break_by_table lines table has empty (Some line) = break_by_table lines table has line ∙ ap (option_map at_break) (empty line)

same_line : (n : ℕ) → nat_eq n n ≡ true
same_line n = eq-eqb n n refl

-- whether a line is among those without another
among_step : (line n m : ℕ) (lines : List ℕ)
    → list_any (nat_eq n) (without_line line lines) ≡ (if nat_eq line n then false else list_any (nat_eq n) lines)
    → (a : Bool) → nat_eq line m ≡ a → (b : Bool) → nat_eq n m ≡ b → (c : Bool) → nat_eq line n ≡ c
    → list_any (nat_eq n) (without_line line (m ∷ lines)) ≡ (if nat_eq line n then false else list_any (nat_eq n) (m ∷ lines))
among_step line n m lines rest true is_a true is_b true is_c = rw (is_a) (rest ∙ rw is_c refl)
among_step line n m lines rest true is_a true is_b false is_c =
    absurd (let e : nat_eq line n ≡ true = eq-eqb line n (eqb-true line m is_a ∙ sym (eqb-true n m is_b)) in
    let f : true ≡ false = sym e ∙ is_c in cc)
among_step line n m lines rest true is_a false is_b c is_c = rw (is_a) (rest ∙ rw is_b refl)
among_step line n m lines rest false is_a true is_b true is_c =
    absurd (let e : nat_eq line m ≡ true = eq-eqb line m (eqb-true line n is_c ∙ eqb-true n m is_b) in
    let f : true ≡ false = sym e ∙ is_a in cc)
among_step line n m lines rest false is_a true is_b false is_c = rw (is_a, is_b, is_c) refl
among_step line n m lines rest false is_a false is_b c is_c = rw (is_a, is_b) rest

among_without : (line n : ℕ) (lines : List ℕ) → list_any (nat_eq n) (without_line line lines) ≡ (if nat_eq line n then false else list_any (nat_eq n) lines)
among_without line n [] = elim (cases_Bool (nat_eq line n)) [ inl t ↦ rw t refl | inr f ↦ rw f refl ]
among_without line n (m ∷ lines) =
    among_step line n m lines (among_without line n lines) (nat_eq line m) refl (nat_eq n m) refl (nat_eq line n) refl

flip : (n m : ℕ) → nat_eq n m ≡ nat_eq m n
flip n m = elim (cases_Bool (nat_eq n m)) [
  | inl t ↦ t ∙ sym (eq-eqb m n (sym (eqb-true n m t)))
  | inr f ↦ elim (cases_Bool (nat_eq m n)) [
    | inl t ↦ absurd (let e : nat_eq n m ≡ true = eq-eqb n m (sym (eqb-true m n t)) in let g : true ≡ false = sym e ∙ f in cc)
    | inr g ↦ f ∙ sym g
  ]
]

module _ {S : Type 0} (lines : List ℕ) (old new : IndexMap ℕ ℕ S) (has : HasLines lines old) (line : ℕ) where
  -- a line that gets a breakpoint
  pub lines_set : ((n : ℕ) → get nat_eq new n ≡ cond (nat_eq line n) (Some line) (get nat_eq old n)) → HasLines (line ∷ lines) new
  lines_set now n = now n ∙ elim (cases_Bool (nat_eq line n)) [
    | inl t ↦
        let same : line ≡ n = eqb-true line n t in
        let here : nat_eq n line ≡ true = flip n line ∙ t in
        rw (t, here) (ap Some same)
    | inr f ↦
        let here : nat_eq n line ≡ false = flip n line ∙ f in
        rw (f, here) (has n)
  ]

  -- a line that loses its breakpoint
  pub lines_cleared : ((n : ℕ) → get nat_eq new n ≡ cond (nat_eq line n) None (get nat_eq old n)) → HasLines (without_line line lines) new
  lines_cleared now n = now n ∙ elim (cases_Bool (nat_eq line n)) [
    | inl t ↦ rw (among_without line n lines, t) refl
    | inr f ↦ rw (among_without line n lines, f) (has n)
  ]

-- no line of an empty table
pub no_lines : {S : Type 0} (table : IndexMap ℕ ℕ S) → table.entries ≡ [] → HasLines [] table
no_lines table none n = rw none refl
