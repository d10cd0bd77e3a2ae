-- What a change of the goroutine with a number makes of the goroutines by name.
use Rattle.std.proofs.Common.{◌≡◌, ℕ, zero, suc, ◌<◌, Bool, true, false, cond, if◌then◌else◌}
use Rattle.std.proofs.Common.{List, [], ◌∷◌, length, slice_get, Option, Some, None, refl, sym, ap, subst, ◌∙◌, arith, inl, inr}
use Rattle.std.specs.Prelude.{slice_index_or, map, ◌++◌, ◌≤◌, is_some, option_map, Result, Ok, Err, IfOk, OnOk, OnErr}
use Rattle.std.specs.Option.{unwrap_or}
use Rattle.std.proofs.lemmas.Bool.{cases_Bool}
use Rattle.std.specs.List.{position, position_or_len, list_any, IsDistinct}
use Rattle.std.specs.Cmp.Lexicographic.{same_text}
use Rattle.std.proofs.lemmas.List.Quantifiers.{position-Some}
use Rattle.std.proofs.lemmas.Option.{slice_get-get_or}
use Rattle.std.proofs.lemmas.Cmp.{nat_list_eq_equiv}
use Rattle.std.specs.Map.{lookup}
use Rattle.indexmap.specs.IndexMap.{IndexMap, get, keys, values, insert_entry, with_value_at, IsUnique}
use Rattle.indexmap.specs.IndexSet.{insert_key}
use Rattle.indexmap.specs.Layout.{set_value_at}
use Rattle.indexmap.proofs.CallerLemmas.{insert_entry-new, keys-with_value_at, updates-with_value_at}
use Rattle.gr_rules.specs.States.{same_go, updated}
use Rattle.gr_goros.specs.Views.{Seen}
use Rattle.gr_tables.specs.NamedGoroutines.{names_of, name_at, seen_of, seen_at, there, room_or_none, At, Sets, Changes, ChangesBy, KeepsContents}
use Rattle.gr_tables.specs.Slots.{SlotChanges, SlotKeeps}
use Rattle.gr_tables.specs.declared.goroutines.Goroutines.{Goroutines}

some_inj : {X : Type 0} {x y : X} → Some x ≡ Some y → x ≡ y
some_inj {X} {x} h = ap (λ o. unwrap_or o x) h

-- the entry of the key at an index
entry_at : {X : Type 0} (es : List (List ℕ × X)) (i : ℕ) (name : List ℕ) → slice_get (map (λ e. e.0) es) i ≡ Some name
    → (v : X) × (slice_get es i ≡ Some (name, v))
entry_at [] i name h = cc
entry_at (e ∷ es) zero name h = (e.1, ap (λ k. Some (k, e.1)) (some_inj h))
entry_at (e ∷ es) (suc i) name h = entry_at es i name h

-- its value
value_at : {X : Type 0} (es : List (List ℕ × X)) (i : ℕ) (name : List ℕ) (v : X) → slice_get es i ≡ Some (name, v) → slice_get (map (λ e. e.1) es) i ≡ Some v
value_at [] i name v h = cc
value_at (e ∷ es) zero name v h = ap (λ p. Some (p.1)) (some_inj h)
value_at (e ∷ es) (suc i) name v h = value_at es i name v h

-- the key at a number
pub key_at : {X : Type 0} (es : List (List ℕ × X)) (i : ℕ) (name : List ℕ) (v : X) → slice_get es i ≡ Some (name, v) → slice_get (map (λ e. e.0) es) i ≡ Some name
key_at [] i name v h = cc
key_at (e ∷ es) zero name v h = ap (λ p. Some (p.0)) (some_inj h)
key_at (e ∷ es) (suc i) name v h = key_at es i name v h

-- written once more, it is as it was
same_value : {X : Type 0} (es : List (List ℕ × X)) (i : ℕ) (name : List ℕ) (v : X) → slice_get es i ≡ Some (name, v) → set_value_at es i v ≡ es
same_value [] i name v h = refl
same_value (e ∷ es) zero name v h = ap (λ p. (e.0, p.1) ∷ es) (sym (some_inj h))
same_value (e ∷ es) (suc i) name v h = ap (λ l. e ∷ l) (same_value es i name v h)

-- a name that was found stands there
pub found_name : (names : List (List ℕ)) (name : List ℕ) (i : ℕ) → position (same_go name) names ≡ Some i → slice_get names i ≡ Some name
found_name names name i found =
    let at = position-Some (same_go name) names i [] found in
    slice_get-get_or names i [] at.0 ∙ ap Some (sym (same_text name (slice_index_or names i []) (sym at.1)))

-- a name that was found is among them
any_there : (p : List ℕ → Bool) (xs : List (List ℕ)) (k : ℕ) (d : List ℕ) → k < length xs → p (slice_index_or xs k d) ≡ true → list_any p xs ≡ true
any_there p [] k d w e = absurd (omega arith)
any_there p (x ∷ xs) zero d w e = rw e refl
any_there p (x ∷ xs) (suc k) d w e = elim (cases_Bool (p x)) [ inl t ↦ rw t refl | inr f ↦ rw f (any_there p xs k d (omega arith) e) ]

pub known_names : (names : List (List ℕ)) (name : List ℕ) (i : ℕ) → position (same_go name) names ≡ Some i → names ≡ insert_key same_go names name
known_names names name i found =
    let at = position-Some (same_go name) names i [] found in
    rw (any_there (same_go name) names i [] at.0 at.1) refl

-- a name that no entry has
module _ {X : Type 0} where
  absent_any : (test : List ℕ → Bool) (es : List (List ℕ × X)) → lookup test es ≡ None → list_any test (map (λ e. e.0) es) ≡ false
  absent_any test [] h = refl
  absent_any test (e ∷ es) h = elim (cases_Bool (test e.0)) [
    | inl t ↦ let found : Some e.1 ≡ None = rw t at h in cc
    | inr f ↦ rw f (absent_any test es (rw f at h))
  ]

  absent_len : (test : List ℕ → Bool) (es : List (List ℕ × X)) → lookup test es ≡ None → position_or_len test (map (λ e. e.0) es) ≡ length es
  absent_len test [] h = refl
  absent_len test (e ∷ es) h = elim (cases_Bool (test e.0)) [
    | inl t ↦ let found : Some e.1 ≡ None = rw t at h in cc
    | inr f ↦ let rest = absent_len test es (rw f at h) in rw f (omega (arith, rest))
  ]

  keys_last : (es : List (List ℕ × X)) (name : List ℕ) (v : X) → map (λ e. e.0) (es ++ (name, v) ∷ []) ≡ map (λ e. e.0) es ++ name ∷ []
  keys_last [] name v = refl
  keys_last (e ∷ es) name v = ap (λ l. e.0 ∷ l) (keys_last es name v)

  last_there : (es : List (List ℕ × X)) (name : List ℕ) → slice_get (map (λ e. e.0) es ++ name ∷ []) (length es) ≡ Some name
  last_there [] name = refl
  last_there (e ∷ es) name = last_there es name

-- a name that is known is found
pub known_found : {X : Type 0} (test : List ℕ → Bool) (es : List (List ℕ × X)) → lookup test es ≡ None → list_any test (map (λ e. e.0) es) ≡ true → ⊥
known_found test es none any = let no : false ≡ true = sym (absent_any test es none) ∙ any in cc

-- what was not found is not there
pub none_found : {A B : Type 0} (r : Option A) (o : Option B) → is_some r ≡ is_some o → r ≡ None → o ≡ None
none_found r None e n = refl
none_found r (Some x) e n = let no : true ≡ false = sym e ∙ ap is_some n in cc

-- a new name comes last
module _ {S : Type 0} (old new : IndexMap (List ℕ) (Option Seen) S) (name : List ℕ) (v : Option Seen)
    (none : get same_go old name ≡ None) (are : new.entries ≡ insert_entry same_go old.entries name v) where
  with_last : keys new ≡ keys old ++ name ∷ []
  with_last = ap (map (λ e. e.0)) (are ∙ insert_entry-new same_go old name v none) ∙ keys_last old.entries name v

  pub new_names : keys new ≡ insert_key same_go (keys old) name
  new_names = with_last ∙ rw (absent_any (same_go name) old.entries none) refl

  pub new_number : (i : ℕ) → i ≡ position_or_len (same_go name) (keys old) → slice_get (keys new) i ≡ Some name
  new_number i is =
      ap (slice_get (keys new)) (is ∙ absent_len (same_go name) old.entries none)
      ∙ ap (λ l. slice_get l (length old.entries)) with_last ∙ last_there old.entries name

module _ {S : Type 0} (m : IndexMap (List ℕ) (Option Seen) S) (i : ℕ) where
  -- a write by number leaves the names, of which no two are one
  pub written_unique : (w : Option Seen) → IsUnique same_go m → IsUnique same_go (with_value_at m i w)
  written_unique w unique = subst (IsDistinct same_go) (sym (keys-with_value_at m i w)) unique

  -- a write by number changes what is seen at the name with the number, and nowhere else
  written_seen : (w : Option Seen) → IsUnique same_go m → (name : List ℕ) → slice_get (keys m) i ≡ Some name
      → (q : List ℕ) → there (get same_go (with_value_at m i w) q) ≡ updated same_go (λ n. there (get same_go m n)) name w q
  written_seen w unique name here q =
      let at = entry_at m.entries i name here in
      ap there ((updates-with_value_at m i w nat_list_eq_equiv unique name at.0 at.1).0 q) ∙ inside (same_go name q)
      ∙ ap (λ t. if t then w else there (get same_go m q)) (nat_list_eq_equiv.symm name q)
    where
      inside : (t : Bool) → there (cond t (Some w) (get same_go m q)) ≡ (if t then w else there (get same_go m q))
      inside true = refl
      inside false = refl

  -- what the name with the number has is what stands at the number
  named : IsUnique same_go m → (name : List ℕ) → slice_get (keys m) i ≡ Some name → slice_get (values m) i ≡ get same_go m name
  named unique name here =
      let at = entry_at m.entries i name here in
      let written = (updates-with_value_at m i at.0 nat_list_eq_equiv unique name at.0 at.1).1 in
      value_at m.entries i name at.0 at.1
      ∙ sym (subst (λ es. lookup (same_go name) es ≡ Some at.0) (same_value m.entries i name at.0 at.1) written)

-- the goroutine with a number is that of its name
pub seen_named : (m : Goroutines) (i : ℕ) (name : List ℕ) → name_at m i ≡ Some name → seen_at m i ≡ seen_of m name
seen_named m i name here = ap there (named m.map i m.unique name here)

-- a write by number, said of the goroutines
pub sets : (old new : Goroutines) (i : ℕ) (w : Option Seen) → new.map ≡ with_value_at old.map i w → i < length (names_of old) → Sets i w old new
sets old new i w e within = record {
  name = slice_index_or (names_of old) i [];
  here = slice_get-get_or (names_of old) i [] within;
  is = ap (λ m q. there (get same_go m q)) e
      ∙ (λ j q. written_seen old.map i w old.unique (slice_index_or (names_of old) i []) (slice_get-get_or (names_of old) i [] within) q j);
  names = ap keys e ∙ keys-with_value_at old.map i w;
}

pub sets_to : (old new : Goroutines) (i : ℕ) (w x : Option Seen) → new.map ≡ with_value_at old.map i w → w ≡ x → i < length (names_of old) → Sets i x old new
sets_to old new i w x e is within = subst (λ v. Sets i v old new) is (sets old new i w e within)

-- where a goroutine is there, its number is one
within_at : (P : Seen → Type 0) (es : List (List ℕ × Option Seen)) (i : ℕ) → At P (there (slice_get (map (λ e. e.1) es) i)) → i < length (map (λ e. e.0) es)
within_at P [] i h = absurd h
within_at P (e ∷ es) zero h = omega arith
within_at P (e ∷ es) (suc i) h = let rest = within_at P es i h in omega (arith, rest)

module _ (old new : Goroutines) (i : ℕ) (a b : Seen) (c : Changes i a b old new) where
  -- what is true of the two, and of each goroutine and itself, is true at each name
  each : (P : Option Seen → Option Seen → Type 0) → P (Some a) (Some b) → ((x : Option Seen) → P x x) → (q : List ℕ) → P (seen_of old q) (seen_of new q)
  each P here others q = subst (P (seen_of old q)) (sym (λ j. c.sets.is j q)) (by (same_go q c.sets.name) refl)
    where
      by : (t : Bool) → same_go q c.sets.name ≡ t → P (seen_of old q) (if t then Some b else seen_of old q)
      by true e =
          let was = ap (seen_of old) (same_text q c.sets.name (sym e)) ∙ sym (seen_named old i c.sets.name c.sets.here) ∙ c.was in
          subst (λ x. P x (Some b)) (sym was) here
      by false e = others (seen_of old q)

  pub keeps : b.content ≡ a.content → a.room ≤ b.room → KeepsContents old new
  keeps e r = record {
    goroutines = λ j q. each (λ x y. option_map (λ g. g.content) y ≡ option_map (λ g. g.content) x) (ap Some e) (λ x. refl) q j;
    names = c.sets.names;
    rooms = each (λ x y. room_or_none x ≤ room_or_none y) r (λ x. omega arith);
  }

-- a change in place, said of the goroutines
module _ (old new : Goroutines) (i : ℕ) (x y : Option Seen) (e : new.map ≡ with_value_at old.map i y)
    (value : Some x ≡ slice_get (values old.map) i) (P : Seen → Type 0) (is : At P (seen_at old i)) where
  changes : (a b : Seen) → x ≡ Some a → y ≡ Some b → Changes i a b old new
  changes a b was now = record {
    was = ap there (sym value) ∙ was;
    sets = subst (λ w. Sets i w old new) now (sets old new i y e (within_at P old.map.entries i is));
  }

  pub changed : (R : Seen → Seen → Type 0) → SlotChanges R x y → ChangesBy i R old new
  changed R s = (s.0, s.1, changes s.0 s.1 s.2 s.3, s.4)

  pub kept : SlotKeeps x y → KeepsContents old new
  kept s = keeps old new i s.0 s.1 (changes s.0 s.1 s.2 s.3) s.4 s.5

pub if_ok : {A E : Type 0} (r : Result A E) (P Q : A → Type 0) → ((x : A) → P x → Q x) → IfOk r P → IfOk r Q
if_ok (Ok x) P Q f h = f x h
if_ok (Err e) P Q f h = h

pub on_ok : {A E : Type 0} (r : Result A E) (P Q : Type 0) → (P → Q) → OnOk r P → OnOk r Q
on_ok (Ok x) P Q f h = f h
on_ok (Err e) P Q f h = h

pub on_err : {A E : Type 0} (r : Result A E) (P Q : Type 0) → (P → Q) → OnErr r P → OnErr r Q
on_err (Ok x) P Q f h = h
on_err (Err e) P Q f h = f h

-- two facts of a result
pub both_ok : {A E : Type 0} (r : Result A E) (P Q : A → Type 0) → IfOk r P → IfOk r Q → IfOk r (λ x. P x × Q x)
both_ok (Ok x) P Q p q = (p, q)
both_ok (Err e) P Q p q = p

pub both_done : {A E : Type 0} (r : Result A E) (P Q : Type 0) → OnOk r P → OnOk r Q → OnOk r (P × Q)
both_done (Ok x) P Q p q = (p, q)
both_done (Err e) P Q p q = p

pub both_err : {A E : Type 0} (r : Result A E) (P Q : Type 0) → OnErr r P → OnErr r Q → OnErr r (P × Q)
both_err (Ok x) P Q p q = p
both_err (Err e) P Q p q = (p, q)
