-- One step: what it leaves, taking it back, doing it elsewhere, and changing places with a neighbour.
use Rattle.std.proofs.Common.{◌≡◌, Bool, true, false, ◌||◌, List, [], ◌∷◌, fold, Some, ◌⊎◌, ◌↔◌, refl, sym, ◌∙◌, ap, subst, inl, inr}
use Rattle.std.specs.List.{list_any}
use Rattle.gr_causal.specs.Sequences.{In}
use Rattle.gr_causal.specs.Machine.{Machine, Laws, StepOf, saved_of, meets, conflict}
use Rattle.gr_causal.proofs.ListLemmas.{or_false, or_true, or_left, or_right, true_or_false}

-- the object is one of these
abbrev is_in : {Object : Type 0} → (Object → Object → Bool) → Object → List Object → Bool
is_in same o ps = list_any (λ p. same o p) ps

module _ (M : Machine) where
  open M use {Object, Cell, State, Event, Note, put, step, touches, writes}

  -- the state with these cells put back, one after another
  abbrev pub restore : State → List Cell → State
  restore s cs = fold put s cs

  -- two steps do not conflict: neither writes what the other touches
  pub record Free (a b : StepOf M) : Type 0 where
    pub first : (o : Object) → In o (writes a.note) → In o (touches b.note) → ⊥
    pub second : (o : Object) → In o (writes b.note) → In o (touches a.note) → ⊥

  -- from s the step r leads to t, and keeps what it overwrites
  pub record Goes (s : State) (r : StepOf M) (t : State) : Type 0 where
    pub does : step s r.event ≡ Some (t, r.note)
    pub keeps : r.saved ≡ saved_of M s (writes r.note)

  -- what is kept are contents of some state
  abbrev pub Good : StepOf M → Type 0
  Good r = (s : State) × (r.saved ≡ saved_of M s (writes r.note))

module _ (M : Machine) (laws : Laws M) where
  open M use {Object, Cell, State, Event, Note, same, look, put, step, touches, writes}
  open laws use {same_is, same_self, ext, put_here, put_else, within, only_writes, local}

  pub apart : (o p : Object) → same o p ≡ false → o ≡ p → ⊥
  apart o p h e = let s : same o o ≡ true = same_self o in let t : same o o ≡ false = ap (same o) e ∙ h in cc

  pub which : (o p : Object) → (o ≡ p) ⊎ (o ≡ p → ⊥)
  which o p = elim (true_or_false (same o p)) [ inl h ↦ inl (same_is o p h) | inr h ↦ inr (apart o p h) ]

  pub in_or_not : (o : Object) (os : List Object) → In o os ⊎ (In o os → ⊥)
  in_or_not o [] = inr (λ h. h)
  in_or_not o (p ∷ os) = elim (which o p) [ inl e ↦ inl (inl e) | inr n ↦ elim (in_or_not o os) [ inl h ↦ inl (inr h) | inr m ↦ inr (elim [ inl e ↦ n e | inr h ↦ m h ]) ] ]

  is_in_true : (o : Object) (os : List Object) → In o os → is_in same o os ≡ true
  is_in_true o [] h = elim h [ ]
  is_in_true o (p ∷ os) (inl e) = or_left (same o p) (is_in same o os) (ap (same o) (sym e) ∙ same_self o)
  is_in_true o (p ∷ os) (inr h) = or_right (same o p) (is_in same o os) (is_in_true o os h)

  pub meets_true : (o : Object) (os ps : List Object) → In o os → In o ps → meets same os ps ≡ true
  meets_true o [] ps g h = elim g [ ]
  meets_true o (p ∷ os) ps (inl e) h = or_left (is_in same p ps) (meets same os ps) (subst (λ x. is_in same x ps ≡ true) e (is_in_true o ps h))
  meets_true o (p ∷ os) ps (inr g) h = or_right (is_in same p ps) (meets same os ps) (meets_true o os ps g h)

  pub free : (a b : StepOf M) → conflict M a b ≡ false → Free M a b
  free a b h =
      let both = or_false (meets same (writes a.note) (touches b.note)) (meets same (writes b.note) (touches a.note)) h in
      record {
        first = λ o w t. let x = meets_true o (writes a.note) (touches b.note) w t in let y = both.0 in cc;
        second = λ o w t. let x = meets_true o (writes b.note) (touches a.note) w t in let y = both.1 in cc;
      }

  pub good : (s : State) (r : StepOf M) (t : State) → Goes M s r t → Good M r
  good s r t g = (s, g.keeps)

  pub restored : (s t : State) (os : List Object) (o : Object) → In o os ⊎ (look s o ≡ look t o) → look (restore M s (saved_of M t os)) o ≡ look t o
  restored s t [] o (inl h) = absurd h
  restored s t [] o (inr h) = h
  restored s t (p ∷ os) o h = restored (put s (look t p)) t os o (elim (which o p) [
    | inl e ↦ inr (subst (λ x. look (put s (look t p)) x ≡ look t x) (sym e) (put_here s t p))
    | inr n ↦ elim h [ inl i ↦ elim i [ inl e ↦ absurd (n e) | inr j ↦ inl j ] | inr e ↦ inr (put_else s t p o n ∙ e) ]
  ])

  pub untouched : (s t : State) (os : List Object) (o : Object) → (In o os → ⊥) → look (restore M s (saved_of M t os)) o ≡ look s o
  untouched s t [] o n = refl
  untouched s t (p ∷ os) o n = untouched (put s (look t p)) t os o (λ h. n (inr h)) ∙ put_else s t p o (λ e. n (inl e))

  -- taking a step back gives the state before it
  pub unstep : (s : State) (r : StepOf M) (t : State) → Goes M s r t → restore M t r.saved ≡ s
  unstep s r t g = ap (restore M t) g.keeps ∙ ext _ s (λ o. restored t s (writes r.note) o
      (elim (in_or_not o (writes r.note)) [ inl h ↦ inl h | inr n ↦ inr (only_writes s t r.event r.note g.does o n) ]))

  same_saved : (s t : State) (os : List Object) → ((o : Object) → In o os → look s o ≡ look t o) → saved_of M s os ≡ saved_of M t os
  same_saved s t [] h = refl
  same_saved s t (o ∷ os) h = let e = h o (inl refl) in let f = same_saved s t os (λ p i. h p (inr i)) in cc

  -- the step goes as well from a state with the same contents where it touches
  pub moved : (s : State) (r : StepOf M) (t s' : State) → Goes M s r t → ((o : Object) → In o (touches r.note) → look s' o ≡ look s o)
      → (t' : State) × Goes M s' r t' × ((o : Object) → In o (writes r.note) → look t' o ≡ look t o)
  moved s r t s' g h =
      let l = local s t r.event r.note g.does s' h in
      (l.0, record { does = l.1; keeps = g.keeps ∙ same_saved s s' (writes r.note) (λ o w. sym (h o (within s t r.event r.note g.does o w))) }, l.2)

  -- neighbours that do not conflict may change places
  pub swapped : (s : State) (a : StepOf M) (m : State) (b : StepOf M) (t : State) → Goes M s a m → Goes M m b t → Free M a b → (m' : State) × Goes M s b m' × Goes M m' a t
  swapped s a m b t g h f =
      let away : (o : Object) → (In o (writes a.note) → ⊥) → look m o ≡ look s o = λ o n. only_writes s m a.event a.note g.does o n in
      let x = moved m b t s h (λ o i. sym (away o (λ w. f.first o w i))) in
      let m' = x.0 in
      let off : (o : Object) → (In o (writes b.note) → ⊥) → look m' o ≡ look s o = λ o n. only_writes s m' b.event b.note x.1.does o n in
      let y = moved s a m m' g (λ o i. off o (λ w. f.second o w i)) in
      let same_end : y.0 ≡ t = ext y.0 t (λ o. elim (in_or_not o (writes a.note)) [
        | inl w ↦ y.2 o w ∙ sym (only_writes m t b.event b.note h.does o (λ v. f.first o w (within m t b.event b.note h.does o v)))
        | inr n ↦ only_writes m' y.0 a.event a.note y.1.does o n ∙ elim (in_or_not o (writes b.note)) [
          | inl v ↦ x.2 o v
          | inr k ↦ off o k ∙ sym (away o n) ∙ sym (only_writes m t b.event b.note h.does o k)
        ]
      ]) in
      (m', x.1, subst (Goes M m' a) same_end y.1)

-- two steps conflict either way round
or_swap : (a b : Bool) → (a || b) ≡ true → (b || a) ≡ true
or_swap a b e = elim (or_true a b e) [ inl p ↦ or_right b a p | inr q ↦ or_left b a q ]

module _ (M : Machine) where
  open M use {same, writes, touches}

  pub conflict_back : (a b : StepOf M) → conflict M a b ≡ true → conflict M b a ≡ true
  conflict_back a b = or_swap (meets same (writes a.note) (touches b.note)) (meets same (writes b.note) (touches a.note))

module _ (M : Machine) (laws : Laws M) where
  open M use {Object, same, writes, touches}
  open laws use {same_is}

  is_in_of : (o : Object) (os : List Object) → is_in same o os ≡ true → In o os
  is_in_of o [] e = absurd (let q : false ≡ true = e in cc)
  is_in_of o (p ∷ os) e = elim (or_true (same o p) (is_in same o os) e) [ inl q ↦ inl (same_is o p q) | inr q ↦ inr (is_in_of o os q) ]

  meets_of : (os ps : List Object) → meets same os ps ≡ true → (o : Object) × In o os × In o ps
  meets_of [] ps e = absurd (let q : false ≡ true = e in cc)
  meets_of (o ∷ os) ps e = elim (or_true (is_in same o ps) (meets same os ps) e) [
    | inl q ↦ (o, inl refl, is_in_of o ps q)
    | inr q ↦ let w = meets_of os ps q in (w.0, inr w.1, w.2)
  ]

  -- what a conflict is
  pub conflict_is : (a b : StepOf M) → (conflict M a b ≡ true) ↔ ((o : Object) × ((In o (writes a.note) × In o (touches b.note)) ⊎ (In o (writes b.note) × In o (touches a.note))))
  conflict_is a b = (
    λ e. elim (or_true (meets same (writes a.note) (touches b.note)) (meets same (writes b.note) (touches a.note)) e) [
      | inl q ↦ let w = meets_of (writes a.note) (touches b.note) q in (w.0, inl (w.1, w.2))
      | inr q ↦ let w = meets_of (writes b.note) (touches a.note) q in (w.0, inr (w.1, w.2))
    ],
    λ h. elim h.1 [
      | inl w ↦ or_left (meets same (writes a.note) (touches b.note)) (meets same (writes b.note) (touches a.note)) (meets_true M laws h.0 (writes a.note) (touches b.note) w.0 w.1)
      | inr w ↦ or_right (meets same (writes a.note) (touches b.note)) (meets same (writes b.note) (touches a.note)) (meets_true M laws h.0 (writes b.note) (touches a.note) w.0 w.1)
    ],
  )
