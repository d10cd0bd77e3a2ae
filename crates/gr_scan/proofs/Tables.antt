-- Look-ups in tables of spellings.
use Rattle.std.proofs.Common.{◌≡◌, ℕ, ◌≤◌, Bool, true, List, [], ◌∷◌, length, take, refl, ap, sym, ◌∙◌, subst, arith, length-take, inl, inr, nat_eq}
use Rattle.std.specs.Prelude.{◌&&◌, nat_le, Some, None}
use Rattle.std.specs.Cmp.Lexicographic.{pointwise, same_text}
use Rattle.std.specs.List.{list_all, starts_with}
use Rattle.std.proofs.lemmas.Bool.{cases_Bool, and_parts}
use Rattle.std.proofs.lemmas.Option.{same_Some}
use Rattle.gr_scan.specs.declared.token.Mark.{Mark}
use Rattle.gr_scan.specs.Marks.{Spelling, mark_in, operators}
use Rattle.gr_scan.specs.Scanning.{first_prefix}
use Rattle.gr_scan.proofs.Bools.{both, equal_texts}

-- what a test says of every entry holds of what is found
pub found : (P : List ℕ → Bool) (t : List Spelling) (s : List ℕ) (m : Mark) → list_all (λ entry. P entry.0) t ≡ true → mark_in t s ≡ Some m → P s ≡ true
found P [] s m all e = absurd (cc)
found P (entry ∷ t) s m all e = elim (cases_Bool (pointwise nat_eq entry.0 s)) [
  | inl w ↦ subst (λ x. P x ≡ true) (same_text entry.0 s (sym w)) ((and_parts (P entry.0) (list_all (λ entry. P entry.0) t) all).0)
  | inr w ↦ found P t s m ((and_parts (P entry.0) (list_all (λ entry. P entry.0) t) all).1) (rw w at e)
]

-- what is answered where the first entry is a prefix
taken : (entry : Spelling) (t : List Spelling) (text : List ℕ) (m : Mark) (n : ℕ) → starts_with nat_eq text entry.0 ≡ true → first_prefix (entry ∷ t) text ≡ Some (m, n) → (entry.1 ≡ m) × (length entry.0 ≡ n)
taken entry t text m n w e =
    let pairs : (entry.1, length entry.0) ≡ (m, n) = same_Some _ _ (rw w at e) in
    (ap (λ (p : Mark × ℕ). p.0) pairs, ap (λ (p : Mark × ℕ). p.1) pairs)

prefix_length : (e text : List ℕ) → starts_with nat_eq text e ≡ true → length e ≤ length text
prefix_length e text w =
    let same : e ≡ take (length e) text = same_text e (take (length e) text) (sym w) in
    omega (arith, length-take (length e) text, ap length same)

-- an entry that is the front of a text is a prefix of it
front_is_prefix : (e text : List ℕ) (n : ℕ) → n ≤ length text → pointwise nat_eq e (take n text) ≡ true → (length e ≡ n) × (starts_with nat_eq text e ≡ true)
front_is_prefix e text n le w =
    let same : e ≡ take n text = same_text e (take n text) (sym w) in
    let size : length e ≡ n = omega (arith, length-take n text, ap length same) in
    (size, equal_texts e (take (length e) text) (same ∙ ap (λ k. take k text) (sym size)))

pub prefix_some : (t : List Spelling) (text : List ℕ) (m : Mark) (n : ℕ) → first_prefix t text ≡ Some (m, n) → (n ≤ length text) × (mark_in t (take n text) ≡ Some m)
prefix_some [] text m n e = absurd (cc)
prefix_some (entry ∷ t) text m n e = elim (cases_Bool (starts_with nat_eq text entry.0)) [
  | inl w ↦
      let q = taken entry t text m n w e in
      let mark = q.0 in
      let size = q.1 in
      let test : pointwise nat_eq entry.0 (take n text) ≡ true = subst (λ k. pointwise nat_eq entry.0 (take k text) ≡ true) size w in
      (subst (λ k. k ≤ length text) size (prefix_length entry.0 text w), rw test (ap Some mark))
  | inr w ↦
      let q : first_prefix t text ≡ Some (m, n) = rw w at e in
      let r = prefix_some t text m n q in (
        r.0,
        elim (cases_Bool (pointwise nat_eq entry.0 (take n text))) [
          | inl v ↦ both (starts_with nat_eq text entry.0) ((front_is_prefix entry.0 text n r.0 v).1) w
          | inr v ↦ rw v r.1
        ],
      )
]

-- each entry is at least as long as those after it
abbrev pub descending : List Spelling → Bool
descending [] = true
descending (entry ∷ t) = list_all (λ other. nat_le (length other.0) (length entry.0)) t && descending t

le_of : (a b : ℕ) → nat_le a b ≡ true → a ≤ b
le_of a b e = grind arith

pub prefix_longest : (t : List Spelling) (text : List ℕ) (m k : Mark) (n size : ℕ) → descending t ≡ true → first_prefix t text ≡ Some (m, n) → size ≤ length text → mark_in t (take size text) ≡ Some k → size ≤ n
prefix_longest [] text m k n size d e le f = absurd (cc)
prefix_longest (entry ∷ t) text m k n size d e le f =
    let parts = and_parts (list_all (λ other. nat_le (length other.0) (length entry.0)) t) (descending t) d in
    elim (cases_Bool (pointwise nat_eq entry.0 (take size text))) [
      | inl v ↦
          let r = front_is_prefix entry.0 text size le v in
          omega (arith, r.0, (taken entry t text m n r.1 e).1)
      | inr v ↦
          let g : mark_in t (take size text) ≡ Some k = rw v at f in
          elim (cases_Bool (starts_with nat_eq text entry.0)) [
            | inl w ↦
                let same = (taken entry t text m n w e).1 in
                let small = le_of (length (take size text)) (length entry.0) (found (λ s. nat_le (length s) (length entry.0)) t (take size text) k parts.0 g) in
                omega (arith, small, same, length-take size text)
            | inr w ↦ prefix_longest t text m k n size parts.1 (rw w at e) le g
          ]
    ]

some_none : (p : Mark × ℕ) → Some p ≡ None → ⊥
some_none p e = cc

pub prefix_none : (t : List Spelling) (text : List ℕ) (k : Mark) (size : ℕ) → first_prefix t text ≡ None → size ≤ length text → mark_in t (take size text) ≡ Some k → ⊥
prefix_none [] text k size e le f = cc
prefix_none (entry ∷ t) text k size e le f = elim (cases_Bool (starts_with nat_eq text entry.0)) [
  | inl w ↦ some_none (entry.1, length entry.0) (rw w at e)
  | inr w ↦ elim (cases_Bool (pointwise nat_eq entry.0 (take size text))) [
    | inl v ↦ both (starts_with nat_eq text entry.0) ((front_is_prefix entry.0 text size le v).1) w
    | inr v ↦ prefix_none t text k size (rw w at e) le (rw v at f)
  ]
]

pub operators_descend : descending operators ≡ true
unfolding operators
operators_descend = refl
