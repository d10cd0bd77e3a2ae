-- Touches that an order turns round, found from the first one on.
use Rattle.std.proofs.Common.{◌≡◌, ◌<◌, ◌≤◌, ◌+◌, ◌||◌, ℕ, Bool, true, false, nat_lt, min, max, if◌then◌else◌, List, [], ◌∷◌, ◌++◌, ◌⊎◌, length, take, get_or, refl, sym, subst, ◌∙◌, inl, inr, arith}
use Rattle.std.proofs.Math.Nat.{min-le_left, min-le_right, le-max_left, le-max_right}
use Rattle.std.proofs.lemmas.Bool.{cases_Bool, lt-ltb}
use Rattle.std.proofs.lemmas.List.{take_more}
use Rattle.gr_causal.specs.Sequences.{In, Before}
use Rattle.gr_causal.proofs.ListLemmas.{In-append_cases}
use Rattle.gr_touches.specs.declared.touch.Touch.{Touch}
use Rattle.gr_depend.specs.declared.turning.Latest.{Latest}
use Rattle.gr_depend.specs.Turned.{place_at, TouchesTurnedFrom}

Before-last : {A : Type 0} (xs : List A) (y a b : A) → Before (xs ++ y ∷ []) a b → Before xs a b ⊎ (In a xs × (b ≡ y))
Before-last [] y a b (inl h) = absurd h.1
Before-last [] y a b (inr h) = absurd h
Before-last (x ∷ xs) y a b (inl h) = elim (In-append_cases b xs (y ∷ []) h.1) [
  | inl i ↦ inl (inl (h.0, i))
  | inr i ↦ elim i [ inl e ↦ inr (inl h.0, e) | inr n ↦ absurd n ]
]
Before-last (x ∷ xs) y a b (inr h) = elim (Before-last xs y a b h) [ inl i ↦ inl (inr i) | inr w ↦ inr (inr w.0, w.1) ]

-- what is known of some touches: the greatest of their places, and from which place on those come that are turned round
pub record AreSeen (first : ℕ) (latest : Latest) (to : List ℕ) (ts : List Touch) (bound : ℕ) : Type 0 where
  pub within : first ≤ bound
  pub touches : (t : Touch) → In t ts → place_at to t.place ≤ latest.touch
  pub writes : (t : Touch) → In t ts → t.writes ≡ true → place_at to t.place ≤ latest.write
  pub turned : TouchesTurnedFrom first to ts

pub none_seen : (to : List ℕ) (bound : ℕ) → AreSeen bound (record { touch = 0; write = 0 }) to [] bound
none_seen to bound = record {
  within = omega arith;
  touches = λ t i. absurd i;
  writes = λ t i. absurd i;
  turned = λ t u b. absurd b;
}

module _ (to : List ℕ) (ts : List Touch) (bound first : ℕ) (latest : Latest) (u : Touch) (seen : AreSeen first latest to ts bound) where
  abbrev goal_of : ℕ
  goal_of = place_at to u.place

  one_more : (first' : ℕ) (latest' : Latest) → first' ≤ first → latest.touch ≤ latest'.touch → latest.write ≤ latest'.write → goal_of ≤ latest'.touch
      → (u.writes ≡ true → goal_of ≤ latest'.write)
      → ((t : Touch) → In t ts → (t.writes || u.writes) ≡ true → goal_of < place_at to t.place → first' ≤ goal_of)
      → AreSeen first' latest' to (ts ++ u ∷ []) bound
  one_more first' latest' less more more_writes own own_writes turns = record {
    within = let a = seen.within in omega (arith, a, less);
    touches = λ t i. elim (In-append_cases t ts (u ∷ []) i) [
      | inl j ↦ let a = seen.touches t j in omega (arith, a, more)
      | inr j ↦ elim j [ inl e ↦ subst (λ x. place_at to x.place ≤ latest'.touch) (sym e) own | inr n ↦ absurd n ]
    ];
    writes = λ t i w. elim (In-append_cases t ts (u ∷ []) i) [
      | inl j ↦ let a = seen.writes t j w in omega (arith, a, more_writes)
      | inr j ↦ elim j [ inl e ↦ subst (λ x. place_at to x.place ≤ latest'.write) (sym e) (own_writes (subst (λ x. x.writes ≡ true) e w)) | inr n ↦ absurd n ]
    ];
    turned = λ t v b w after. elim (Before-last ts u t v b) [
      | inl j ↦ let a = seen.turned t v j w after in omega (arith, a, less)
      | inr j ↦ subst (λ x. first' ≤ place_at to x.place) (sym j.1)
          (turns t j.0 (subst (λ x. (t.writes || x.writes) ≡ true) j.1 w) (subst (λ x. place_at to x.place < place_at to t.place) j.1 after))
    ];
  }

  pub seen_next :
      AreSeen (if nat_lt goal_of (if u.writes then latest.touch else latest.write) then min first goal_of else first)
      (record { touch = max latest.touch goal_of; write = (if u.writes then max latest.write goal_of else latest.write) }) to (ts ++ u ∷ []) bound
  seen_next = by u.writes refl
    where
      or_no : (b : Bool) → (b || false) ≡ true → b ≡ true
      or_no true h = h
      or_no false h = h

      by : (w : Bool) → u.writes ≡ w →
          AreSeen (if nat_lt goal_of (if w then latest.touch else latest.write) then min first goal_of else first)
          (record { touch = max latest.touch goal_of; write = (if w then max latest.write goal_of else latest.write) }) to (ts ++ u ∷ []) bound
      by true is = elim (cases_Bool (nat_lt goal_of latest.touch)) [
        | inl t ↦ rw t (one_more (min first goal_of) _ (min-le_left first goal_of) (le-max_left latest.touch goal_of) (le-max_left latest.write goal_of) (le-max_right latest.touch goal_of)
            (λ w. le-max_right latest.write goal_of) (λ t i w after. min-le_right first goal_of))
        | inr f ↦ rw f (one_more first _ (omega arith) (le-max_left latest.touch goal_of) (le-max_left latest.write goal_of) (le-max_right latest.touch goal_of)
            (λ w. le-max_right latest.write goal_of)
            (λ t i w after. let a = seen.touches t i in let k = lt-ltb goal_of latest.touch (omega (arith, a, after)) in absurd (let no : true ≡ false = sym k ∙ f in cc)))
      ]
      by false is = elim (cases_Bool (nat_lt goal_of latest.write)) [
        | inl t ↦ rw t (one_more (min first goal_of) _ (min-le_left first goal_of) (le-max_left latest.touch goal_of) (omega arith) (le-max_right latest.touch goal_of)
            (λ w. absurd (let no : true ≡ false = sym w ∙ is in cc)) (λ t i w after. min-le_right first goal_of))
        | inr f ↦ rw f (one_more first _ (omega arith) (le-max_left latest.touch goal_of) (omega arith) (le-max_right latest.touch goal_of)
            (λ w. absurd (let no : true ≡ false = sym w ∙ is in cc))
            (λ t i w after.
            let wrote : t.writes ≡ true = or_no t.writes (subst (λ (b : Bool). (t.writes || b) ≡ true) is w) in
            let a = seen.writes t i wrote in let k = lt-ltb goal_of latest.write (omega (arith, a, after)) in absurd (let no : true ≡ false = sym k ∙ f in cc)))
      ]

-- one touch more of a list
pub seen_after : (to : List ℕ) (ts : List Touch) (bound first first' place after i : ℕ) (latest latest' : Latest) (d : Touch) → i < length ts
    → place ≡ place_at to (get_or ts i d).place → after ≡ (if (get_or ts i d).writes then latest.touch else latest.write)
    → first' ≡ (if nat_lt place after then min first place else first)
    → latest' ≡ record { touch = max latest.touch place; write = (if (get_or ts i d).writes then max latest.write place else latest.write) }
    → AreSeen first latest to (take i ts) bound → AreSeen first' latest' to (take (i + 1) ts) bound
seen_after to ts bound first first' place after i latest latest' d below at was least last seen =
    let u = get_or ts i d in
    let first_is : first' ≡ (if nat_lt (place_at to u.place) (if u.writes then latest.touch else latest.write) then min first (place_at to u.place) else first) =
    least ∙ (λ k. if nat_lt (at k) (was k) then min first (at k) else first) in
    let latest_is : latest' ≡ record { touch = max latest.touch (place_at to u.place); write = (if u.writes then max latest.write (place_at to u.place) else latest.write) } =
    last ∙ (λ k. record { touch = max latest.touch (at k); write = (if u.writes then max latest.write (at k) else latest.write) }) in
    subst (λ xs. AreSeen first' latest' to xs bound) (sym (take_more ts i d below))
    (moved first' _ latest' _ (take i ts ++ u ∷ []) first_is latest_is (seen_next to (take i ts) bound first latest u seen))
  where
    moved : (a b : ℕ) (l m : Latest) (us : List Touch) → a ≡ b → l ≡ m → AreSeen b m to us bound → AreSeen a l to us bound
    moved a b l m us e f h = subst (λ n. AreSeen n l to us bound) (sym e) (subst (λ x. AreSeen b x to us bound) (sym f) h)
