-- The last step before a place that wrote an object, by the touches of the object.
use Rattle.std.proofs.Common.{◌≡◌, ◌<◌, ◌≤◌, ◌+◌, ◌||◌, ℕ, zero, suc, Bool, true, false, List, [], ◌∷◌, ◌++◌, length, take, slice_get, Some, None, refl, sym, ap, subst, ◌∙◌, ltb-true, ltb-false, inl, inr, arith}
use Rattle.std.specs.Prelude.{if◌then◌else◌, nat_lt, slice_index_or}
use Rattle.std.specs.List.{list_any}
use Rattle.std.specs.List.Sorted.{IsPartitionedBy, IsPartitionPoint}
use Rattle.std.specs.Option.{option_or}
use Rattle.std.proofs.lemmas.Bool.{cases_Bool}
use Rattle.std.proofs.lemmas.List.Folds.{list_any-append}
use Rattle.gr_base.specs.declared.objects.Object.{Object}
use Rattle.gr_rules.specs.States.{same}
use Rattle.gr_record.specs.Conflicts.{read_by, written_by, touched_by}
use Rattle.gr_record.specs.declared.record.Record.{Record}
use Rattle.gr_touches.specs.declared.touch.Touch.{Touch}
use Rattle.gr_touches.specs.Marks.{IsAscending}
use Rattle.gr_touches.specs.Touches.{if_any, is_among, touches_in}
use Rattle.gr_depend.proofs.ConflictLemmas.{touches_ascend}
use Rattle.gr_facts.specs.Recorded.{writer_in}

abbrev pub has_written : Object → Record → Bool
has_written o r = is_among o (written_by r)

-- none of the first records is of a step that wrote the object
writer_none : (o : Object) (n : ℕ) (rs : List Record) → ((i : ℕ) (x : Record) → i < n → slice_get rs i ≡ Some x → has_written o x ≡ true → ⊥)
    → writer_in (take n rs) o ≡ None
writer_none o zero [] h = refl
writer_none o zero (r ∷ rs) h = refl
writer_none o (suc n) [] h = refl
writer_none o (suc n) (r ∷ rs) h = elim (cases_Bool (has_written o r)) [
  | inl t ↦ absurd (h 0 r (omega arith) refl t)
  | inr f ↦
      let rest = writer_none o n rs (λ i x lt at wrote. h (suc i) x (omega (arith, lt)) at wrote) in
      ap (λ w. option_or w (if has_written o r then Some r.id else None)) rest ∙ ap (λ b. if b then Some r.id else None) f
]

-- it is the last of the first records that is
writer_found : (o : Object) (n : ℕ) (rs : List Record) (k : ℕ) (r : Record) → k < n → slice_get rs k ≡ Some r → has_written o r ≡ true
    → ((i : ℕ) (x : Record) → k < i → i < n → slice_get rs i ≡ Some x → has_written o x ≡ true → ⊥) → writer_in (take n rs) o ≡ Some r.id
writer_found o zero rs k r lt at wrote none = absurd (omega (arith, lt))
writer_found o (suc n) [] k r lt at wrote none = absurd (let nothing : None ≡ Some r = at in cc)
writer_found o (suc n) (q ∷ rs) zero r lt at wrote none =
    let same : q ≡ r = (let some : Some q ≡ Some r = at in cc) in
    let rest = writer_none o n rs (λ i x less there it. none (suc i) x (omega arith) (omega (arith, less)) there it) in
    ap (λ w. option_or w (if has_written o q then Some q.id else None)) rest
    ∙ ap (λ b. if b then Some q.id else None) (ap (has_written o) same ∙ wrote) ∙ ap (λ (x : Record). Some x.id) same
writer_found o (suc n) (q ∷ rs) (suc k) r lt at wrote none =
    let rest = writer_found o n rs k r (omega (arith, lt)) at wrote (λ i x low less there it. none (suc i) x (omega (arith, low)) (omega (arith, less)) there it) in
    ap (λ w. option_or w (if has_written o q then Some q.id else None)) rest

-- the touch of a step at a place
abbrev touch_of : Object → ℕ → Record → Touch
touch_of o place r = record { place = place; writes = has_written o r }

-- a touch is that of a record, and tells whether the step wrote
pub record IsTouch (o : Object) (s : ℕ) (rs : List Record) (t : Touch) : Type 0 where
  pub number : ℕ
  pub step : Record
  pub at : t.place ≡ s + number
  pub there : slice_get rs number ≡ Some step
  pub wrote : t.writes ≡ has_written o step

touch_told : (o : Object) (s : ℕ) (rs : List Record) (j : ℕ) (t : Touch) → slice_get (touches_in o s rs) j ≡ Some t → IsTouch o s rs t
touch_told o s [] j t at = absurd (let none : None ≡ Some t = at in cc)
touch_told o s (r ∷ rs) j t at = by (is_among o (touched_by r)) (λ i there. touch_told o (suc s) rs i t there) j at
  where
    later : IsTouch o (suc s) rs t → IsTouch o s (r ∷ rs) t
    later rest = record { number = suc rest.number; step = rest.step; at = (let e = rest.at in omega (arith, e)); there = rest.there; wrote = rest.wrote }

    first : touch_of o s r ≡ t → IsTouch o s (r ∷ rs) t
    first e = record {
      number = 0;
      step = r;
      at = (let p : s ≡ t.place = ap (λ (u : Touch). u.place) e in omega (arith, p));
      there = refl;
      wrote = sym (ap (λ (u : Touch). u.writes) e);
    }

    by : (b : Bool) → ((i : ℕ) → slice_get (touches_in o (suc s) rs) i ≡ Some t → IsTouch o (suc s) rs t) → (i : ℕ)
        → slice_get ((if b then touch_of o s r ∷ [] else []) ++ touches_in o (suc s) rs) i ≡ Some t → IsTouch o s (r ∷ rs) t
    by true rest zero at = first (let some : Some (touch_of o s r) ≡ Some t = at in cc)
    by true rest (suc i) at = later (rest i at)
    by false rest i at = later (rest i at)

-- a step that touched the object has a touch
abbrev HasTouch : List Touch → ℕ → Type 0
HasTouch ts i = (j : ℕ) × (t : Touch) × (slice_get ts j ≡ Some t) × (t.place ≡ i)

touch_there : (o : Object) (s : ℕ) (rs : List Record) (k : ℕ) (x : Record) → slice_get rs k ≡ Some x → is_among o (touched_by x) ≡ true → HasTouch (touches_in o s rs) (s + k)
touch_there o s [] k x at among = absurd (let none : None ≡ Some x = at in cc)
touch_there o s (r ∷ rs) zero x at among =
    let same : r ≡ x = (let some : Some r ≡ Some x = at in cc) in
    let touched : is_among o (touched_by r) ≡ true = ap (λ y. is_among o (touched_by y)) same ∙ among in
    (0, touch_of o s r, ap (λ b. slice_get ((if b then touch_of o s r ∷ [] else []) ++ touches_in o (suc s) rs) 0) touched, (let e : s ≡ s + 0 = omega arith in e))
touch_there o s (r ∷ rs) (suc k) x at among =
    let rest = touch_there o (suc s) rs k x at among in
    behind (is_among o (touched_by r)) rest
  where
    behind : (b : Bool) → HasTouch (touches_in o (suc s) rs) (suc s + k) → HasTouch ((if b then touch_of o s r ∷ [] else []) ++ touches_in o (suc s) rs) (s + suc k)
    behind true rest = (suc rest.0, rest.1, rest.2, (let e = rest.3 in omega (arith, e)))
    behind false rest = (rest.0, rest.1, rest.2, (let e = rest.3 in omega (arith, e)))

or_right : (a b : Bool) → b ≡ true → (a || b) ≡ true
or_right true b h = refl
or_right false b h = h

written_is_touched : (o : Object) (r : Record) → has_written o r ≡ true → is_among o (touched_by r) ≡ true
written_is_touched o r h = list_any-append (same o) (read_by r) (written_by r) ∙ or_right (list_any (same o) (read_by r)) (has_written o r) h

-- touches by their places
least : (m : ℕ) (ts : List Touch) (j : ℕ) (t : Touch) → IsAscending m ts → slice_get ts j ≡ Some t → m ≤ t.place
least m [] j t up at = absurd (let none : None ≡ Some t = at in cc)
least m (u ∷ ts) zero t up at =
    let same : u ≡ t = (let some : Some u ≡ Some t = at in cc) in
    subst {_, _} (λ (x : Touch). m ≤ x.place) same up.0
least m (u ∷ ts) (suc j) t up at = let low = least (suc u.place) ts j t up.1 at in let first = up.0 in omega (arith, low, first)

rises : (m : ℕ) (ts : List Touch) (j k : ℕ) (t u : Touch) → IsAscending m ts → slice_get ts j ≡ Some t → slice_get ts k ≡ Some u → j ≤ k → t.place ≤ u.place
rises m [] j k t u up at to le = absurd (let none : None ≡ Some t = at in cc)
rises m (v ∷ ts) zero zero t u up at to le =
    let one : v ≡ t = (let some : Some v ≡ Some t = at in cc) in
    let two : v ≡ u = (let some : Some v ≡ Some u = to in cc) in
    let same : t.place ≡ u.place = ap (λ (x : Touch). x.place) (sym one ∙ two) in omega (arith, same)
rises m (v ∷ ts) zero (suc k) t u up at to le =
    let one : v ≡ t = (let some : Some v ≡ Some t = at in cc) in
    let place : v.place ≡ t.place = ap (λ (x : Touch). x.place) one in
    let low = least (suc v.place) ts k u up.1 to in omega (arith, low, place)
rises m (v ∷ ts) (suc j) zero t u up at to le = absurd (omega (arith, le))
rises m (v ∷ ts) (suc j) (suc k) t u up at to le = rises (suc v.place) ts j k t u up.1 at to (omega (arith, le))

within : {A : Type 0} (xs : List A) (j : ℕ) (x : A) → slice_get xs j ≡ Some x → (j < length xs) × ((d : A) → slice_index_or xs j d ≡ x)
within [] j x at = absurd (let none : None ≡ Some x = at in cc)
within (y ∷ xs) zero x at = (omega arith, λ d. let some : Some y ≡ Some x = at in cc)
within (y ∷ xs) (suc j) x at = let rest = within xs j x at in let less = rest.0 in (omega (arith, less), λ d. rest.1 d)

pub got : {A : Type 0} (xs : List A) (j : ℕ) (d : A) → j < length xs → slice_get xs j ≡ Some (slice_index_or xs j d)
got [] j d lt = absurd (omega (arith, lt))
got (x ∷ xs) zero d lt = refl
got (x ∷ xs) (suc j) d lt = got xs j d (omega (arith, lt))

lt_true : (a b : ℕ) → nat_lt a b ≡ true → a < b
lt_true a b h = ltb-true a b h

lt_false : (a b : ℕ) → nat_lt a b ≡ false → b ≤ a
lt_false a b h = let le = ltb-false a b h in omega (arith, le)

below_too : (a b c : ℕ) → a ≤ b → nat_lt b c ≡ true → nat_lt a c ≡ true
below_too a b c le h = elim (cases_Bool (nat_lt a c)) [
  | inl t ↦ t
  | inr f ↦ absurd (let one = lt_true b c h in let two = lt_false a c f in omega (arith, one, two, le))
]

-- each step before the place that wrote the object has its touch among the first of these
abbrev pub Covers : List Record → Object → List Touch → ℕ → ℕ → Type 0
Covers rs o ts place n = (i : ℕ) (x : Record) → i < place → slice_get rs i ≡ Some x → has_written o x ≡ true
    → (j : ℕ) × (t : Touch) × (j < n) × (slice_get ts j ≡ Some t) × (t.place ≡ i)

module _ (rs : List Record) (o : Object) (ts : List Touch) (are : ts ≡ touches_in o 0 rs) (place : ℕ) where
  ascending : IsAscending 0 ts
  ascending = subst {_, _} (IsAscending 0) (sym are) (touches_ascend o 0 rs)

  told : (j : ℕ) (t : Touch) → slice_get ts j ≡ Some t → IsTouch o 0 rs t
  told j t at = touch_told o 0 rs j t (sym (ap (λ us. slice_get us j) are) ∙ at)

  -- the touches before the place come first
  pub parted : IsPartitionedBy (λ t. nat_lt t.place place) ts
  parted i j d le lt h =
      below_too (slice_index_or ts i d).place (slice_index_or ts j d).place place
      (rises 0 ts i j (slice_index_or ts i d) (slice_index_or ts j d) ascending (got ts i d (omega (arith, le, lt))) (got ts j d lt) le) h

  among : (n i : ℕ) → IsPartitionPoint (λ t. nat_lt t.place place ≡ true) (λ t. nat_lt t.place place ≡ false) ts n → i < place
      → (j : ℕ) (t : Touch) → slice_get ts j ≡ Some t → t.place ≡ i → j < n
  among n i point lt j t at is = elim (cases_Bool (nat_lt j n)) [
    | inl e ↦ lt_true j n e
    | inr f ↦
        let w = within ts j t at in
        let late : nat_lt t.place place ≡ false = subst {_, _} (λ (u : Touch). nat_lt u.place place ≡ false) (w.1 t) (point.1 j t (lt_false j n f) w.0) in
        let beyond = lt_false t.place place late in
        absurd (omega (arith, beyond, is, lt))
  ]

  pub covers_first : (n : ℕ) → IsPartitionPoint (λ t. nat_lt t.place place ≡ true) (λ t. nat_lt t.place place ≡ false) ts n → Covers rs o ts place n
  covers_first n point i x lt there wrote =
      let at = subst {_, _} (λ us. HasTouch us (0 + i)) (sym are) (touch_there o 0 rs i x there (written_is_touched o x wrote)) in
      let is : at.1.place ≡ i = (let e = at.3 in omega (arith, e)) in
      (at.0, at.1, among n i point lt at.0 at.1 at.2 is, at.2, is)

  -- what the step did whose touch it is
  at_touch : (t : Touch) (x : Record) → IsTouch o 0 rs t → slice_get rs t.place ≡ Some x → t.writes ≡ has_written o x
  at_touch t x is there =
      let place_is : t.place ≡ is.number = (let e = is.at in omega (arith, e)) in
      let one : Some is.step ≡ Some x = sym is.there ∙ sym (ap (slice_get rs) place_is) ∙ there in
      let same : is.step ≡ x = cc in
      is.wrote ∙ ap (has_written o) same

  not_both : (b : Bool) → b ≡ true → b ≡ false → ⊥
  not_both b t f = absurd (let no : true ≡ false = sym t ∙ f in cc)

  -- one touch more, of a step that did not write
  pub covers_next : (n : ℕ) (t : Touch) → slice_get ts n ≡ Some t → t.writes ≡ false → Covers rs o ts place (n + 1) → Covers rs o ts place n
  covers_next n t here not covers i x lt there wrote =
      let at = covers i x lt there wrote in
      (at.0, at.1, less at.0 at.1 at.2 at.3 at.4, at.3, at.4)
    where
      less : (j : ℕ) (u : Touch) → j < n + 1 → slice_get ts j ≡ Some u → u.place ≡ i → j < n
      less j u below at is = elim (cases_Bool (nat_lt j n)) [
        | inl e ↦ lt_true j n e
        | inr f ↦
            let last : j ≡ n = (let low = lt_false j n f in omega (arith, low, below)) in
            let one : Some u ≡ Some t = sym at ∙ ap (slice_get ts) last ∙ here in
            let same : u ≡ t = cc in
            let written = at_touch u x (told j u at) (ap (slice_get rs) is ∙ there) ∙ wrote in
            absurd (not_both u.writes written (ap (λ (v : Touch). v.writes) same ∙ not))
      ]

  pub none_covered : (n : ℕ) → n ≡ 0 → Covers rs o ts place n → writer_in (take place rs) o ≡ None
  none_covered n empty covers = writer_none o place rs (λ i x lt there wrote. let at = covers i x lt there wrote in let low = at.2 in omega (arith, low, empty))

  -- the last of them is that of a step that wrote
  pub found_covered : (n : ℕ) (t : Touch) (r : Record) → slice_get ts n ≡ Some t → t.place < place → slice_get rs t.place ≡ Some r → t.writes ≡ true → Covers rs o ts place (n + 1)
      → writer_in (take place rs) o ≡ Some r.id
  found_covered n t r here before there wrote covers =
      writer_found o place rs t.place r before there (sym (at_touch t r (told n t here) there) ∙ wrote) (λ i x low lt at its.
      let c = covers i x lt at its in
      let first = c.2 in
      let is = c.4 in
      let up = rises 0 ts c.0 n c.1 t ascending c.3 here (omega (arith, first)) in
      omega (arith, up, is, low))

  -- the step of a touch is there
  pub has_step : (n : ℕ) (t : Touch) → slice_get ts n ≡ Some t → t.place < length rs
  has_step n t at =
      let is = told n t at in
      let w = within rs is.number is.step is.there in
      let less = w.0 in
      let e = is.at in
      omega (arith, less, e)

-- where there are no touches, no step wrote the object
pub none_touched : (rs : List Record) (o : Object) (place : ℕ) → touches_in o 0 rs ≡ [] → writer_in (take place rs) o ≡ None
none_touched rs o place empty = writer_none o place rs (λ i x lt there wrote.
    let at = subst {_, _} (λ us. HasTouch us (0 + i)) empty (touch_there o 0 rs i x there (written_is_touched o x wrote)) in
    let none : None ≡ Some at.1 = at.2 in cc)

-- the touches of an object, if there are any
pub some_any : (xs ys : List Touch) → Some ys ≡ if_any xs → ys ≡ xs
some_any [] ys e = absurd (let none : Some ys ≡ None = e in cc)
some_any (x ∷ xs) ys e = let some : Some ys ≡ Some (x ∷ xs) = e in cc

pub none_any : (xs : List Touch) → None ≡ if_any xs → xs ≡ []
none_any [] e = refl
none_any (x ∷ xs) e = absurd (let none : None ≡ Some (x ∷ xs) = e in cc)

-- the first of these touches stand before the place
abbrev pub AreBefore : List Touch → ℕ → ℕ → Type 0
AreBefore ts place n = (j : ℕ) (t : Touch) → j < n → slice_get ts j ≡ Some t → t.place < place

pub before_first : (ts : List Touch) (place n : ℕ) → IsPartitionPoint (λ t. nat_lt t.place place ≡ true) (λ t. nat_lt t.place place ≡ false) ts n → AreBefore ts place n
before_first ts place n point j t lt at =
    let w = within ts j t at in
    lt_true t.place place (subst {_, _} (λ (u : Touch). nat_lt u.place place ≡ true) (w.1 t) (point.0 j t (omega arith) lt))

-- the touch at an index is there
pub at_index : (ts : List Touch) (n : ℕ) (t : Touch) → n < length ts → t ≡ slice_index_or ts n t → slice_get ts n ≡ Some t
at_index ts n t lt is = got ts n t lt ∙ ap Some (sym is)
