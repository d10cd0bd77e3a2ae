-- Lists of touches by the number and by the object.
use Rattle.std.proofs.Common.{◌≡◌, ◌<◌, ℕ, zero, suc, Bool, true, false, cond, if◌then◌else◌, List, [], ◌∷◌, length, map, filter, slice_get, slice_index_or, Option, Some, None, refl, sym, ap, subst, ◌∙◌, ◌+◌, inl, inr, arith}
use Rattle.std.specs.Option.{option_map_or, unwrap_or}
use Rattle.std.specs.Prelude.{Result, Ok, Err, IfSome, OnOk, OnErr}
use Rattle.std.specs.Borrow.{Bor}
use Rattle.std.specs.List.{position, IsDistinct}
use Rattle.std.specs.Map.{lookup}
use Rattle.std.proofs.lemmas.Bool.{cases_Bool}
use Rattle.std.proofs.lemmas.List.{length-map}
use Rattle.std.proofs.lemmas.List.Quantifiers.{position-Some}
use Rattle.std.proofs.lemmas.Option.{slice_get-get_or}
use Rattle.indexmap.specs.IndexMap.{IndexMap, get, keys, values, with_value_at, IsUnique}
use Rattle.indexmap.specs.Layout.{set_value_at}
use Rattle.indexmap.proofs.CallerLemmas.{keys-with_value_at, updates-with_value_at}
use Rattle.gr_base.specs.declared.objects.Object.{Object}
use Rattle.gr_base.specs.declared.objects.Object.TheVariants as objects
use Rattle.gr_rules.specs.States.{same}
use Rattle.gr_laws.proofs.CellLemmas.{same_is, same_self}
use Rattle.gr_touches.specs.declared.touch.Touch.{Touch}
use Rattle.gr_touches.specs.declared.lanes.Lanes.{Lanes}
use Rattle.gr_touches.specs.declared.object_ref.ObjectRef.{ObjectRef}
use Rattle.gr_touches.specs.declared.object_ref.ObjectRef.TheVariants as refs
use Rattle.gr_touches.specs.declared.marks.Wanted.{Wanted}
use Rattle.gr_touches.specs.declared.marks.Wanted.TheVariants as which_are
use Rattle.gr_touches.specs.ObjectRefs.{seen}
use Rattle.gr_touches.specs.Lists.{LaneSeen, nothing, list_of, list_numbered, IsNumbered}
use Rattle.gr_touches.specs.Marks.{wanted}
use Rattle.gr_touches.proofs.SameLemmas.{same_equiv}

abbrev pub Table : Type 0 → Type 0
Table S = IndexMap Object LaneSeen S

some_inj : {X : Type 0} {x y : X} → Some x ≡ Some y → x ≡ y
some_inj {X} {x} h = ap (λ o. unwrap_or o x) h

-- the key and the value of the entry with a number
pub key_at : {X : Type 0} (es : List (Object × X)) (i : ℕ) (k : Object) (v : X) → slice_get es i ≡ Some (k, v) → slice_get (map (λ e. e.0) es) i ≡ Some k
key_at [] i k v h = cc
key_at (e ∷ es) zero k v h = ap (λ p. Some (p.0)) (some_inj h)
key_at (e ∷ es) (suc i) k v h = key_at es i k v h

pub value_at : {X : Type 0} (es : List (Object × X)) (i : ℕ) (k : Object) (v : X) → slice_get es i ≡ Some (k, v) → slice_get (map (λ e. e.1) es) i ≡ Some v
value_at [] i k v h = cc
value_at (e ∷ es) zero k v h = ap (λ p. Some (p.1)) (some_inj h)
value_at (e ∷ es) (suc i) k v h = value_at es i k v h

entry_at : {X : Type 0} (es : List (Object × X)) (i : ℕ) (k : Object) → slice_get (map (λ e. e.0) es) i ≡ Some k → (v : X) × (slice_get es i ≡ Some (k, v))
entry_at [] i k h = cc
entry_at (e ∷ es) zero k h = (e.1, ap (λ n. Some (n, e.1)) (some_inj h))
entry_at (e ∷ es) (suc i) k h = entry_at es i k h

same_value : {X : Type 0} (es : List (Object × X)) (i : ℕ) (k : Object) (v : X) → slice_get es i ≡ Some (k, v) → set_value_at es i v ≡ es
same_value [] i k v h = refl
same_value (e ∷ es) zero k v h = ap (λ p. (e.0, p.1) ∷ es) (sym (some_inj h))
same_value (e ∷ es) (suc i) k v h = ap (λ l. e ∷ l) (same_value es i k v h)

-- an object that was found stands there
pub found_key : (ks : List Object) (k : Object) (i : ℕ) → position (same k) ks ≡ Some i → slice_get ks i ≡ Some k
found_key ks k i found =
    let at = position-Some (same k) ks i k found in
    slice_get-get_or ks i k at.0 ∙ ap Some (sym (same_is k (slice_index_or ks i k) at.1))

module _ {S : Type 0} (m : Table S) (unique : IsUnique same m) (i : ℕ) (k : Object) (here : slice_get (keys m) i ≡ Some k) where
  abbrev own : LaneSeen
  own = (entry_at m.entries i k here).0

  at : slice_get m.entries i ≡ Some (k, own)
  at = (entry_at m.entries i k here).1

  -- what the key has is what stands at its number
  pub named : slice_get (values m) i ≡ get same m k
  named =
      let written = (updates-with_value_at m i own same_equiv unique k own at).1 in
      value_at m.entries i k own at
      ∙ sym (subst (λ es. lookup (same k) es ≡ Some own) (same_value m.entries i k own at) written)

  pub has : (v : LaneSeen) → slice_get (values m) i ≡ Some v → get same m k ≡ Some v
  has v is = sym named ∙ is

  -- a write by number changes what this key has, and nothing else
  pub written : (w : LaneSeen) (q : Object) → get same (with_value_at m i w) q ≡ cond (same k q) (Some w) (get same m q)
  written w q = (updates-with_value_at m i w same_equiv unique k own at).0 q

-- a write by number leaves the keys, and no two of them are one
pub written_unique : {S : Type 0} (m : Table S) (i : ℕ) (w : LaneSeen) → IsUnique same m → IsUnique same (with_value_at m i w)
written_unique m i w unique = subst (IsDistinct same) (sym (keys-with_value_at m i w)) unique

-- the entry with a number has this object as its key
pub is_key_at : {X : Type 0} (es : List (Object × X)) (i : ℕ) (k : Object) (v : X) (o : Object) (b : Bool) → slice_get es i ≡ Some (k, v) → b ≡ same o k
    → ((b ≡ true → slice_get (map (λ e. e.0) es) i ≡ Some o) × (slice_get (map (λ e. e.0) es) i ≡ Some o → b ≡ true))
is_key_at es i k v o b at is = (
  λ t. key_at es i k v at ∙ ap Some (sym (same_is o k (sym is ∙ t))),
  λ t. is ∙ ap (same o) (some_inj (sym (key_at es i k v at) ∙ t)) ∙ same_self o,
)

pub no_key_at : {X : Type 0} (es : List (Object × X)) (i : ℕ) (k : Object) → None ≡ slice_get es i → slice_get (map (λ e. e.0) es) i ≡ Some k → false ≡ true
no_key_at [] i k none some = cc
no_key_at (e ∷ es) zero k none some = cc
no_key_at (e ∷ es) (suc i) k none some = no_key_at es i k none some

-- the list of a lane, by its number, and that of Run
abbrev by_value : Lanes → Option LaneSeen → List Touch
by_value l o = option_map_or (λ k. k.0) o l.run.items

pub numbered_there : (l : Lanes) (i : ℕ) (k : Object) (v : LaneSeen) → slice_get l.map.entries i ≡ Some (k, v) → v.0 ≡ list_numbered l i
numbered_there l i k v h = sym (ap (by_value l) (value_at l.map.entries i k v h))

none_there : {X : Type 0} (es : List (Object × X)) (i : ℕ) → slice_get es i ≡ None → slice_get (map (λ e. e.1) es) i ≡ None
none_there [] i h = refl
none_there (e ∷ es) zero h = absurd (let f : Some e ≡ None = h in cc)
none_there (e ∷ es) (suc i) h = none_there es i h

pub run_is_last : (l : Lanes) (i : ℕ) → slice_get l.map.entries i ≡ None → list_numbered l i ≡ l.run.items
run_is_last l i h = ap (by_value l) (none_there l.map.entries i h)

-- what is told of each object, by what is told of Run and by the table
abbrev pub parts : {S X : Type 0} → (LaneSeen → X) → X → Table S → Object → X
parts part run m q = if same objects.Run q then run else part (unwrap_or (get same m q) nothing)

-- where the table changes at one key alone, so does what is told
module _ {S X : Type 0} (part : LaneSeen → X) (run : X) (old new : Table S) (f : X → X) (o : Object) (other : same objects.Run o ≡ false)
    (v w : LaneSeen) (was : unwrap_or (get same old o) nothing ≡ v) (is : part w ≡ f (part v))
    (all : (q : Object) → get same new q ≡ cond (same o q) (Some w) (get same old q)) where
  here : parts part run new o ≡ f (parts part run old o)
  here =
      rw other
      (ap (λ x. part (unwrap_or x nothing)) (all o ∙ ap (λ b. cond b (Some w) (get same old o)) (same_self o))
      ∙ is ∙ ap (λ k. f (part k)) (sym was))

  elsewhere : (q : Object) → same o q ≡ false → parts part run new q ≡ parts part run old q
  elsewhere q e =
      ap (λ x. if same objects.Run q then run else part (unwrap_or x nothing))
      (all q ∙ ap (λ b. cond b (Some w) (get same old q)) e)

  pub changed : (q : Object) → parts part run new q ≡ (if same o q then f (parts part run old q) else parts part run old q)
  changed q = by (same o q) refl
    where
      by : (b : Bool) → same o q ≡ b → parts part run new q ≡ (if b then f (parts part run old q) else parts part run old q)
      by true e = subst (λ x. parts part run new x ≡ f (parts part run old x)) (same_is o q e) here
      by false e = elsewhere q e

-- a write by number
module _ {S X : Type 0} (part : LaneSeen → X) (run : X) (m : Table S) (unique : IsUnique same m) (o : Object) (other : same objects.Run o ≡ false)
    (i : ℕ) (at : slice_get (keys m) i ≡ Some o) (v w : LaneSeen) (value : Some v ≡ slice_get (values m) i) where
  pub had : unwrap_or (get same m o) nothing ≡ v
  had = ap (λ x. unwrap_or x nothing) (sym (named m unique i o at) ∙ sym value)

  pub wrote : (f : X → X) → part w ≡ f (part v) → (q : Object) → parts part run (with_value_at m i w) q ≡ (if same o q then f (parts part run m q) else parts part run m q)
  wrote f is = changed part run m (with_value_at m i w) f o other v w had is (written m unique i o at w)

  pub wrote_nothing : part w ≡ part v → (q : Object) → parts part run (with_value_at m i w) q ≡ parts part run m q
  wrote_nothing is q = wrote (λ ts. ts) is q ∙ either (same o q)
    where
      either : (b : Bool) → (if b then parts part run m q else parts part run m q) ≡ parts part run m q
      either true = refl
      either false = refl

pub on_ok : {A E : Type 0} (r : Result A E) (P Q : Type 0) → (P → Q) → OnOk r P → OnOk r Q
on_ok (Ok x) P Q f h = f h
on_ok (Err e) P Q f h = h

pub on_err : {A E : Type 0} (r : Result A E) (P Q : Type 0) → (P → Q) → OnErr r P → OnErr r Q
on_err (Ok x) P Q f h = h
on_err (Err e) P Q f h = f h

pub seen_other : (o : ObjectRef) → (o ≡ refs.Run → ⊥) → same objects.Run (seen o) ≡ false
seen_other refs.Run h = absurd (h refl)
seen_other (refs.Go g) h = refl
seen_other (refs.Gate c) h = refl
seen_other (refs.Tail c) h = refl
seen_other (refs.Head c) h = refl
seen_other (refs.Slot c i) h = refl

-- the list of an object that is not Run, by the number of its lane
pub list_by_number : (l : Lanes) (o : Object) → same objects.Run o ≡ false → (i : ℕ) → slice_get (keys l.map) i ≡ Some o → list_numbered l i ≡ list_of l o
list_by_number l o other i at =
    let own = entry_at l.map.entries i o at in
    let value : slice_get (values l.map) i ≡ Some own.0 = value_at l.map.entries i o own.0 own.1 in
    rw other (ap (by_value l) value ∙ ap (λ x. (unwrap_or x nothing).0) (sym value ∙ named l.map l.unique i o at))

pub within_keys : (ks : List Object) (i : ℕ) (k : Object) → slice_get ks i ≡ Some k → i < length ks
within_keys [] i k h = cc
within_keys (x ∷ xs) zero k h = omega arith
within_keys (x ∷ xs) (suc i) k h = let rest = within_keys xs i k h in omega (arith, rest)

pub all_wanted : (ts : List Touch) → wanted which_are.All ts ≡ ts
all_wanted [] = refl
all_wanted (t ∷ ts) = ap (λ r. t ∷ r) (all_wanted ts)

none_behind : {X : Type 0} (es : List (Object × X)) (n : ℕ) → n ≡ length es → slice_get es n ≡ None
none_behind [] n is = refl
none_behind (e ∷ es) zero is = absurd (omega (arith, is))
none_behind (e ∷ es) (suc n) is = none_behind es n (omega (arith, is))

-- the number of the list of Run
pub run_at : (l : Lanes) (n : ℕ) → n ≡ length l.map.entries → (n < length (keys l.map) + 1) × (list_numbered l n ≡ l.run.items)
run_at l n is = (
  let same = length-map l.map.entries (λ e. e.0) in omega (arith, is, same),
  run_is_last l n (none_behind l.map.entries n is),
)

-- Run has a number, and all its touches
pub whole_run_numbered : (l : Lanes) (o : Object) (which : Wanted) (n : ℕ) (ts : List Touch) → o ≡ objects.Run → n ≡ length l.map.entries → ts ≡ l.run.items → IsNumbered l o which n ts
whole_run_numbered l o which n ts run last is = subst (λ q. IsNumbered l q which n ts) (sym run) record {
  below = (run_at l n last).0;
  list = (run_at l n last).1;
  part = which_are.All;
  is_part = is ∙ sym (all_wanted l.run.items);
  touches = ap (wanted which) is;
}

-- a lane has a number, and all its touches
pub other_numbered : (l : Lanes) (o : Object) (which : Wanted) → same objects.Run o ≡ false → (i : ℕ) → slice_get (keys l.map) i ≡ Some o
    → (ts : List Touch) → ts ≡ list_numbered l i → IsNumbered l o which i ts
other_numbered l o which other i at ts is = record {
  below = let within = within_keys (keys l.map) i o at in omega (arith, within);
  list = list_by_number l o other i at;
  part = which_are.All;
  is_part = is ∙ list_by_number l o other i at ∙ sym (all_wanted (list_of l o));
  touches = ap (wanted which) (is ∙ list_by_number l o other i at);
}

-- a lane's touches serve whichever are wanted
abbrev pub if_numbered : Lanes → Object → Wanted → Option (ℕ × Bor (List Touch)) → Type 0
if_numbered l o which r = IfSome r (λ list. IsNumbered l o which list.0 list.1.now)

pub if_wanted : (l : Lanes) (o : Object) (which : Wanted) (r : Option (ℕ × Bor (List Touch))) → IfSome r (λ list. (w : Wanted) → IsNumbered l o w list.0 list.1.now)
    → if_numbered l o which r
if_wanted l o which (Some list) some = some which
if_wanted l o which None some = tt

-- the touches that wrote Run are those that are wanted where writes are
pub run_numbered : (l : Lanes) (o : Object) (n : ℕ) (ts : List Touch) → o ≡ objects.Run → n ≡ length l.map.entries → ts ≡ l.stops.items → IsNumbered l o which_are.Writes n ts
run_numbered l o n ts run last is = subst (λ q. IsNumbered l q which_are.Writes n ts) (sym run) record {
  below = (run_at l n last).0;
  list = (run_at l n last).1;
  part = which_are.Writes;
  is_part = is ∙ l.writers;
  touches = ap (wanted which_are.Writes) (is ∙ l.writers) ∙ once_more (λ t. t.writes) l.run.items;
}
  where
    once_more : {A : Type 0} (p : A → Bool) (xs : List A) → filter p (filter p xs) ≡ filter p xs
    once_more p [] = refl
    once_more p (x ∷ xs) = elim (cases_Bool (p x)) [
      | inl w ↦ rw (w, w) (ap (λ r. x ∷ r) (once_more p xs))
      | inr n ↦ rw n (once_more p xs)
    ]

-- the list of each object after a change, where Run has what it had
pub with_run : (old new : Lanes) (f : List Touch → List Touch) (o : Object) → new.run ≡ old.run
    → ((q : Object) → parts (λ k. k.0) old.run.items new.map q ≡ (if same o q then f (list_of old q) else list_of old q))
    → (q : Object) → list_of new q ≡ (if same o q then f (list_of old q) else list_of old q)
with_run old new f o e h q = ap (λ r. parts (λ k. k.0) r.items new.map q) e ∙ h q
