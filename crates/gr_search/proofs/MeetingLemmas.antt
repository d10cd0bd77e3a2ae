-- Meetings two by two meet the laws of systems that are searched, and waits can be put off.
use Rattle.std.proofs.Common.{◌≡◌, ◌⊎◌, ℕ, nat_eq, Bool, true, false, not, ◌&&◌, if◌then◌else◌, List, [], ◌∷◌, drop, Option, Some, None, refl, sym, ◌∙◌, ap, subst, inl, inr}
use Rattle.std.proofs.lemmas.Bool.{eq-eqb, eqb-true}
use Rattle.gr_search.specs.System.{System, Reached, Passes, Ends, Laws}
use Rattle.gr_search.specs.Late.{IsWait, late_next, WaitLaws, After, comes, undone, PutsOff, CanPutOff}
use Rattle.gr_search.specs.Meetings.{Act, Works, Enters, Hall, with_at, worked, waiting_in, met_in, enters, acts, acted, IsStuck, at_work, meetings, is_waiting}
use Rattle.gr_search.proofs.Safe.{some_is, none_not, not_both}
use Rattle.gr_search.proofs.LateSteps.{Goes, Meets, Takes, takes, goes_late, meets_late}

-- Functions with a value at one number.
truth : (b : Bool) → (b ≡ true) ⊎ (b ≡ false)
truth true = inl refl
truth false = inr refl

pub one_or_other : (j k : ℕ) → (j ≡ k) ⊎ (nat_eq j k ≡ false)
one_or_other j k = elim (truth (nat_eq j k)) [ inl h ↦ inl (eqb-true j k h) | inr h ↦ inr h ]

differ : (j k : ℕ) → (j ≡ k → ⊥) → nat_eq j k ≡ false
differ j k h = elim (one_or_other j k) [ inl e ↦ absurd (h e) | inr n ↦ n ]

pub apart_is : (j k : ℕ) → nat_eq j k ≡ false → j ≡ k → ⊥
apart_is j k n e = not_both (nat_eq j k) (eq-eqb j k e) n

pub here : {X : Type 0} (f : ℕ → X) (k : ℕ) (x : X) → with_at f k x k ≡ x
here f k x = ap (λ b. if b then x else f k) (eq-eqb k k refl)

pub there : {X : Type 0} (f : ℕ → X) (k n : ℕ) (x : X) → (n ≡ k → ⊥) → with_at f k x n ≡ f n
there f k n x h = ap (λ b. if b then x else f n) (differ n k h)

pub swapped_at : {X : Type 0} (f : ℕ → X) (j k n : ℕ) (x y : X) → (j ≡ k → ⊥) → with_at (with_at f j x) k y n ≡ with_at (with_at f k y) j x n
swapped_at f j k n x y h = by (nat_eq n k) refl (nat_eq n j) refl
  where
    by : (a : Bool) → nat_eq n k ≡ a → (b : Bool) → nat_eq n j ≡ b → with_at (with_at f j x) k y n ≡ with_at (with_at f k y) j x n
    by true p true q = absurd (h (sym (eqb-true n j q) ∙ eqb-true n k p))
    by true p false q = ap (λ b. if b then y else with_at f j x n) p ∙ sym (ap (λ b. if b then x else with_at f k y n) q ∙ ap (λ b. if b then y else f n) p)
    by false p true q = ap (λ b. if b then y else with_at f j x n) p ∙ ap (λ b. if b then x else f n) q ∙ sym (ap (λ b. if b then x else with_at f k y n) q)
    by false p false q = ap (λ b. if b then y else with_at f j x n) p ∙ ap (λ b. if b then x else f n) q
        ∙ sym (ap (λ b. if b then x else with_at f k y n) q ∙ ap (λ b. if b then y else f n) p)

swapped : {X : Type 0} (f : ℕ → X) (j k : ℕ) (x y : X) → (j ≡ k → ⊥) → with_at (with_at f j x) k y ≡ with_at (with_at f k y) j x
swapped f j k x y h = λ i n. swapped_at f j k n x y h i

hall : (a b : Hall) → a.acts ≡ b.acts → a.waiting ≡ b.waiting → a.waiter ≡ b.waiter → a ≡ b
hall a b p q r = λ i. record { acts = p i; waiting = q i; waiter = r i }

no_truth : false ≡ true → ⊥
no_truth h = cc

pub same_room : {room room2 : ℕ} {rest rest2 : List Act} → Enters room ∷ rest ≡ Enters room2 ∷ rest2 → room ≡ room2
same_room h = cc

-- What an event is.
pub data Step (s : Hall) (g : ℕ) (t : Hall) : Type 0 where
  works : (rest : List Act) → s.acts g ≡ Works ∷ rest → worked s g rest ≡ t → Step s g t
  waits : (room : ℕ) (rest : List Act) → s.acts g ≡ Enters room ∷ rest → s.waiter room ≡ None → waiting_in s g room ≡ t → Step s g t
  meets : (room h : ℕ) (rest : List Act) → s.acts g ≡ Enters room ∷ rest → s.waiter room ≡ Some h → s.waiting h ≡ true → met_in s g rest room h ≡ t → Step s g t

-- who takes it did not wait
pub record Taken (s : Hall) (g : ℕ) (t : Hall) : Type 0 where
  pub up : s.waiting g ≡ false
  pub step : Step s g t

pub taken : (s t : Hall) (g : ℕ) → acted s g ≡ Some t → Taken s g t
taken s t g h = by (s.waiting g) refl h
  where
    by_waiting : (room k : ℕ) (rest : List Act) → s.acts g ≡ Enters room ∷ rest → s.waiter room ≡ Some k → (b : Bool) → s.waiting k ≡ b
        → (if b then Some (met_in s g rest room k) else None) ≡ Some t → Step s g t
    by_waiting room k rest q w true b e = meets room k rest q w b (some_is _ _ e)
    by_waiting room k rest q w false b e = absurd (none_not t e)

    by_waiter : (room : ℕ) (rest : List Act) → s.acts g ≡ Enters room ∷ rest → (o : Option ℕ) → s.waiter room ≡ o → enters s g rest room o ≡ Some t → Step s g t
    by_waiter room rest q None w e = waits room rest q w (some_is _ _ e)
    by_waiter room rest q (Some k) w e = by_waiting room k rest q w (s.waiting k) refl e

    by_acts : (xs : List Act) → s.acts g ≡ xs → acts s g xs ≡ Some t → Step s g t
    by_acts [] q e = absurd (none_not t e)
    by_acts (Works ∷ rest) q e = works rest q (some_is _ _ e)
    by_acts (Enters room ∷ rest) q e = by_waiter room rest q (s.waiter room) refl e

    by : (b : Bool) → s.waiting g ≡ b → (if b then None else acts s g (s.acts g)) ≡ Some t → Taken s g t
    by true u e = absurd (none_not t e)
    by false u e = record { up = u; step = by_acts (s.acts g) refl e }

pub goes_by : (s t : Hall) (g : ℕ) → Taken s g t → acted s g ≡ Some t
goes_by s t g k = ap (λ b. if b then None else acts s g (s.acts g)) k.up ∙ by k.step
  where
    by : Step s g t → acts s g (s.acts g) ≡ Some t
    by (works rest q e) = ap (acts s g) q ∙ ap Some e
    by (waits room rest q w e) = ap (acts s g) q ∙ ap (enters s g rest room) w ∙ ap Some e
    by (meets room h rest q w b e) = ap (acts s g) q ∙ ap (enters s g rest room) w ∙ ap (λ b. if b then Some (met_in s g rest room h) else None) b ∙ ap Some e

module _ (all : ℕ → List Act) where
  abbrev Y : System Hall ℕ Hall
  Y = meetings all

  -- a guest at work
  record AtWork (s : Hall) (g : ℕ) : Type 0 where
    pub up : s.waiting g ≡ false
    pub rest : List Act
    pub acts_are : s.acts g ≡ Works ∷ rest

  at_work_of : (s : Hall) (g : ℕ) → Y.alone s g ≡ true → AtWork s g
  at_work_of s g h = by (s.waiting g) refl h
    where
      by_acts : s.waiting g ≡ false → (xs : List Act) → s.acts g ≡ xs → at_work xs ≡ true → AtWork s g
      by_acts u [] q e = absurd (no_truth e)
      by_acts u (Works ∷ rest) q e = record { up = u; rest = rest; acts_are = q }
      by_acts u (Enters room ∷ rest) q e = absurd (no_truth e)

      by : (b : Bool) → s.waiting g ≡ b → (not b && at_work (s.acts g)) ≡ true → AtWork s g
      by true u e = absurd (no_truth e)
      by false u e = by_acts u (s.acts g) refl e

  alone_of : (s : Hall) (g : ℕ) → AtWork s g → Y.alone s g ≡ true
  alone_of s g w = ap (λ b. not b && at_work (s.acts g)) w.up ∙ ap at_work w.acts_are

  work_step : (s : Hall) (g : ℕ) (w : AtWork s g) → Taken s g (worked s g w.rest)
  work_step s g w = record { up = w.up; step = works w.rest w.acts_are refl }

  work_is : (s t : Hall) (g : ℕ) (w : AtWork s g) → acted s g ≡ Some t → worked s g w.rest ≡ t
  work_is s t g w h = some_is _ _ (sym (goes_by s (worked s g w.rest) g (work_step s g w)) ∙ h)

  pub not_at_work : (room : ℕ) (rest more : List Act) → Works ∷ rest ≡ Enters room ∷ more → ⊥
  not_at_work room rest more h = not_both (at_work (Works ∷ rest)) refl (ap at_work h)

  -- another event passes work
  passes : (s u : Hall) (a e : ℕ) (w : AtWork s a) → (e ≡ a → ⊥) → Taken s e u → Passes Y a e (worked s a w.rest) u
  passes s u a e w other k = by k.step
    where
      by : Step s e u → Passes Y a e (worked s a w.rest) u
      by (works rest q is) =
          let t = worked s a w.rest in
          let both = worked t e rest in
          let mine : (worked s e rest).acts a ≡ Works ∷ w.rest = there s.acts e a rest (λ h. other (sym h)) ∙ w.acts_are in
          let at : AtWork (worked s e rest) a = record { up = w.up; rest = w.rest; acts_are = mine } in
          subst (Passes Y a e t) is (record {
            still = alone_of (worked s e rest) a at;
            both = both;
            a_last = goes_by (worked s e rest) both a (record { up = w.up; step = works w.rest mine (hall _ _ (swapped s.acts e a rest w.rest other) refl refl) });
            e_last = goes_by t both e (record { up = k.up; step = works rest (there s.acts a e w.rest other ∙ q) refl });
          })
      by (waits room rest q free is) =
          let t = worked s a w.rest in
          let both = waiting_in t e room in
          let v = waiting_in s e room in
          let up : v.waiting a ≡ false = there s.waiting e a true (λ h. other (sym h)) ∙ w.up in
          subst (Passes Y a e t) is (record {
            still = alone_of v a (record { up = up; rest = w.rest; acts_are = w.acts_are });
            both = both;
            a_last = goes_by v both a (record { up = up; step = works w.rest w.acts_are refl });
            e_last = goes_by t both e (record { up = k.up; step = waits room rest (there s.acts a e w.rest other ∙ q) free refl });
          })
      by (meets room h rest q free b is) =
          let t = worked s a w.rest in
          let v = met_in s e rest room h in
          let off : a ≡ h → ⊥ = λ x. not_both (s.waiting h) b (ap s.waiting (sym x) ∙ w.up) in
          let both = met_in t e rest room h in
          let up : v.waiting a ≡ false = there s.waiting h a false off ∙ w.up in
          let mine : v.acts a ≡ Works ∷ w.rest = there (with_at s.acts e rest) h a (drop 1 (s.acts h)) off ∙ there s.acts e a rest (λ x. other (sym x)) ∙ w.acts_are in
          let theirs : t.acts h ≡ s.acts h = there s.acts a h w.rest (λ x. off (sym x)) in
          let order : with_at v.acts a w.rest ≡ both.acts =
          swapped (with_at s.acts e rest) h a (drop 1 (s.acts h)) w.rest (λ x. off (sym x))
          ∙ ap (λ f. with_at f h (drop 1 (s.acts h))) (swapped s.acts e a rest w.rest other)
          ∙ ap (λ xs. with_at (with_at t.acts e rest) h (drop 1 xs)) (sym theirs) in
          subst (Passes Y a e t) is (record {
            still = alone_of v a (record { up = up; rest = w.rest; acts_are = mine });
            both = both;
            a_last = goes_by v both a (record { up = up; step = works w.rest mine (hall _ _ order refl refl) });
            e_last = goes_by t both e (record { up = k.up; step = meets room h rest (there s.acts a e w.rest other ∙ q) free b refl });
          })

  apart : (s t u : Hall) (a e : ℕ) → Reached Y s → Y.alone s a ≡ true → acted s a ≡ Some t → acted s e ≡ Some u → (e ≡ a) ⊎ (Passes Y a e t u ⊎ Ends Y e t u)
  apart s t u a e r h sa se =
      let w = at_work_of s a h in
      elim (one_or_other e a) [
        | inl same ↦ inl same
        | inr n ↦ inr (inl (subst (λ x. Passes Y a e x u) (work_is s t a w sa) (passes s u a e w (apart_is e a n) (taken s u e se))))
      ]

  pub meeting_laws : Laws Y
  meeting_laws = record {
    alone_goes = λ s a r h. let w = at_work_of s a h in (worked s a w.rest, goes_by s (worked s a w.rest) a (work_step s a w));
    alone_fine = λ s a r h b. let w = at_work_of s a h in none_not (worked s a w.rest) (sym (b.none a) ∙ goes_by s (worked s a w.rest) a (work_step s a w));
    alone_apart = apart;
    like_next = λ s r t e i j same h. (t, subst (λ x. acted x e ≡ Some t) same h, refl);
    like_bad = λ s r i j same b. subst IsStuck same b;
  }

  -- a wait, and what it changes
  pub record Enter (s : Hall) (g : ℕ) (t : Hall) : Type 0 where
    pub up : s.waiting g ≡ false
    pub room : ℕ
    pub rest : List Act
    pub acts_are : s.acts g ≡ Enters room ∷ rest
    pub free : s.waiter room ≡ None
    pub is : waiting_in s g room ≡ t

  -- who takes an event waits after it where it is the first in a room
  pub enter_of : (s t : Hall) (g : ℕ) → Taken s g t → t.waiting g ≡ true → Enter s g t
  enter_of s t g k h = by k.step
    where
      by : Step s g t → Enter s g t
      by (works rest q is) = absurd (not_both (s.waiting g) (ap (λ (x : Hall). x.waiting g) is ∙ h) k.up)
      by (waits room rest q free is) = record { up = k.up; room = room; rest = rest; acts_are = q; free = free; is = is }
      by (meets room o rest q free b is) =
          let off : g ≡ o → ⊥ = λ x. not_both (s.waiting o) b (ap s.waiting (sym x) ∙ k.up) in
          absurd (not_both (s.waiting g) (sym (there s.waiting o g false off) ∙ ap (λ (x : Hall). x.waiting g) is ∙ h) k.up)

  pub wait_of : (s t : Hall) (g : ℕ) → IsWait Y is_waiting s g t → Enter s g t
  wait_of s t g i = enter_of s t g (taken s t g i.goes) i.then_waits

  alone_waits : (s t : Hall) (a e : ℕ) → Reached Y s → Y.alone s a ≡ true → acted s a ≡ Some t → t.waiting e ≡ s.waiting e
  alone_waits s t a e r h g = ap (λ (x : Hall). x.waiting e) (sym (work_is s t a (at_work_of s a h) g))

  alone_stays : (s m : Hall) (a w : ℕ) → Reached Y s → Y.alone s a ≡ true → IsWait Y is_waiting s w m → Y.alone m a ≡ true
  alone_stays s m a w r h i =
      let x = at_work_of s a h in
      let k = wait_of s m w i in
      let off : a ≡ w → ⊥ = λ q. not_at_work k.room x.rest k.rest (sym x.acts_are ∙ ap s.acts q ∙ k.acts_are) in
      subst (λ (y : Hall). Y.alone y a ≡ true) k.is (alone_of (waiting_in s w k.room) a (record { up = there s.waiting w a true off ∙ x.up; rest = x.rest; acts_are = x.acts_are }))

  still : (s : Hall) (e : ℕ) → Reached Y s → s.waiting e ≡ true → acted s e ≡ None
  still s e r h = ap (λ b. if b then None else acts s e (s.acts e)) h

  no_end : (s t u : Hall) (a e : ℕ) → Y.alone s a ≡ true → acted s a ≡ Some t → acted s e ≡ Some u → Ends Y e t u → (e ≡ a → ⊥) → ⊥
  no_end s t u a e h sa se n other =
      let w = at_work_of s a h in
      let p = passes s u a e w other (taken s u e se) in
      none_not p.both (sym (n.none a) ∙ p.a_last)

  ends_alike : (s t u v : Hall) (a e f : ℕ) → Reached Y s → Y.alone s a ≡ true → acted s a ≡ Some t → acted s e ≡ Some u → Ends Y e t u → acted t e ≡ Some v → v.waiting f ≡ u.waiting f
  ends_alike s t u v a e f r h sa se n te = elim (one_or_other e a) [
    | inl same ↦ absurd (none_not v (sym (n.none e) ∙ ap (λ x. acted x e) (some_is u t (sym se ∙ ap (acted s) same ∙ sa)) ∙ te))
    | inr x ↦ absurd (no_end s t u a e h sa se n (apart_is e a x))
  ]

  pub wait_laws : WaitLaws Y is_waiting
  wait_laws = record {
    still = still;
    like_waits = λ s r e i j same. ap (λ (x : Hall). x.waiting e) same;
    alone_stays = alone_stays;
    alone_waits = alone_waits;
    alone_ends = ends_alike;
  }

  -- A guest at a free room, and what may come after that guest waits there.
  module _ (s : Hall) (w room : ℕ) (rest : List Act) (up : s.waiting w ≡ false) (acts_are : s.acts w ≡ Enters room ∷ rest) (free : s.waiter room ≡ None) where
    abbrev m : Hall
    m = waiting_in s w room

    it_waits : IsWait Y is_waiting s w m
    it_waits = record { goes = goes_by s m w (record { up = up; step = waits room rest acts_are free refl }); then_waits = here s.waiting w true }

    other : (e : ℕ) → m.waiting e ≡ false → e ≡ w → ⊥
    other e h q = not_both (m.waiting w) (here s.waiting w true) (ap m.waiting (sym q) ∙ h)

    was : (e : ℕ) → m.waiting e ≡ false → s.waiting e ≡ false
    was e h = sym (there s.waiting w e true (other e h)) ∙ h

    comes_now : (u t : Hall) → u.waiting w ≡ false → u.acts w ≡ Enters room ∷ rest → u.waiter room ≡ None → waiting_in u w room ≡ t → After Y is_waiting u w t
    comes_now u t a b c d = comes (waiting_in u w room) (record { goes = goes_by u (waiting_in u w room) w (record { up = a; step = waits room rest b c refl }); then_waits = here u.waiting w true }) d

    -- the guest is met by another, or by none
    met : (t : Hall) (e room2 o : ℕ) (rest2 : List Act) → Goes Y is_waiting m e t → m.waiting e ≡ false → s.acts e ≡ Enters room2 ∷ rest2 → m.waiter room2 ≡ Some o → m.waiting o ≡ true
        → met_in m e rest2 room2 o ≡ t → PutsOff Y is_waiting s w t
    met t e room2 o rest2 g mine q f b is = elim (one_or_other o w) [
      | inl same ↦
          let no_more : t.waiting w ≡ false = ap (λ (x : Hall). x.waiting w) (sym is) ∙ ap (with_at m.waiting o false) (sym same) ∙ here m.waiting o false in
          record { first = w ∷ e ∷ []; others = []; at = t; by = (t, meets_late Y is_waiting s t w e (record { middle = m; wait = it_waits; goes = g.goes; first_up = no_more; last_up = g.up }), refl); after = undone refl }
      | inr x ↦
          let not_w : o ≡ w → ⊥ = apart_is o w x in
          let elsewhere : room2 ≡ room → ⊥ = λ y. not_w (sym (some_is w o (sym (here s.waiter room (Some w)) ∙ ap m.waiter (sym y) ∙ f))) in
          let u = met_in s e rest2 room2 o in
          let seated : s.waiter room2 ≡ Some o = sym (there s.waiter room room2 (Some w) elsewhere) ∙ f in
          let waits_there : s.waiting o ≡ true = sym (there s.waiting w o true not_w) ∙ b in
          let is_up = was e mine in
          let not_o : e ≡ o → ⊥ = λ y. not_both (s.waiting o) waits_there (ap s.waiting (sym y) ∙ is_up) in
          let order : waiting_in u w room ≡ met_in m e rest2 room2 o = hall _ _ refl (swapped s.waiting o w false true not_w) (swapped s.waiter room2 room None (Some w) elsewhere) in
          let stays : u.acts w ≡ Enters room ∷ rest = there (with_at s.acts e rest2) o w (drop 1 (s.acts o)) (λ y. not_w (sym y)) ∙ there s.acts e w rest2 (λ y. other e mine (sym y)) ∙ acts_are in
          record {
            first = e ∷ [];
            others = [];
            at = u;
            by = (u, goes_late Y is_waiting s u e (record { goes = goes_by s u e (record { up = is_up; step = meets room2 o rest2 q seated waits_there refl }); up = there s.waiting o e false not_o ∙ is_up }), refl);
            after = comes_now u t (there s.waiting o w false (λ y. not_w (sym y)) ∙ up) stays (there s.waiter room2 room None (λ y. elsewhere (sym y)) ∙ free) (order ∙ is);
          }
    ]

    past_one : (t : Hall) (e : ℕ) → Goes Y is_waiting m e t → PutsOff Y is_waiting s w t
    past_one t e g = by k.step
      where
        k : Taken m e t
        k = taken m t e g.goes

        by : Step m e t → PutsOff Y is_waiting s w t
        by (works rest2 q is) =
            let u = worked s e rest2 in
            let is_up = was e k.up in
            record {
              first = e ∷ [];
              others = [];
              at = u;
              by = (u, goes_late Y is_waiting s u e (record { goes = goes_by s u e (record { up = is_up; step = works rest2 q refl }); up = is_up }), refl);
              after = comes_now u t up (there s.acts e w rest2 (λ y. other e k.up (sym y)) ∙ acts_are) free is;
            }
        by (waits room2 rest2 q f is) = absurd (not_both (t.waiting e) (ap (λ (x : Hall). x.waiting e) (sym is) ∙ here m.waiting e true) g.up)
        by (meets room2 o rest2 q f b is) = met t e room2 o rest2 g k.up q f b is

    -- another waits in another room, and is met
    module _ (x room2 : ℕ) (rest2 : List Act) (x_up : m.waiting x ≡ false) (x_acts : s.acts x ≡ Enters room2 ∷ rest2) (x_free : m.waiter room2 ≡ None) where
      abbrev n : Hall
      n = waiting_in m x room2

      abbrev n1 : Hall
      n1 = waiting_in s x room2

      not_x : w ≡ x → ⊥
      not_x q = other x x_up (sym q)

      elsewhere : room2 ≡ room → ⊥
      elsewhere q = none_not w (sym x_free ∙ ap m.waiter q ∙ here s.waiter room (Some w))

      x_waits : IsWait Y is_waiting s x n1
      x_waits = record { goes = goes_by s n1 x (record { up = was x x_up; step = waits room2 rest2 x_acts (sym (there s.waiter room room2 (Some w) elsewhere) ∙ x_free) refl }); then_waits = here s.waiting x true }

      x_left : n.waiting x ≡ true
      x_left = here m.waiting x true

      x_met : (t : Hall) (e room3 : ℕ) (rest3 : List Act) → n.waiting e ≡ false → s.acts e ≡ Enters room3 ∷ rest3 → n.waiter room3 ≡ Some x → met_in n e rest3 room3 x ≡ t → PutsOff Y is_waiting s w t
      x_met t e room3 rest3 mine q f is =
          let e_not_x : e ≡ x → ⊥ = λ y. not_both (n.waiting x) x_left (ap n.waiting (sym y) ∙ mine) in
          let in_m : m.waiting e ≡ false = sym (there m.waiting x e true e_not_x) ∙ mine in
          let not_room : room3 ≡ room → ⊥ = λ y. not_x (some_is w x (sym (here s.waiter room (Some w)) ∙ sym (there m.waiter room2 room (Some x) (λ z. elsewhere (sym z))) ∙ ap n.waiter (sym y) ∙ f)) in
          let seated : n1.waiter room3 ≡ Some x =
          sym (there n1.waiter room room3 (Some w) not_room) ∙ swapped_at s.waiter room2 room room3 (Some x) (Some w) elsewhere ∙ f in
          let e_up : n1.waiting e ≡ false = there s.waiting x e true e_not_x ∙ was e in_m in
          let u = met_in n1 e rest3 room3 x in
          let goes : acted n1 e ≡ Some u = goes_by n1 u e (record { up = e_up; step = meets room3 x rest3 q seated (here s.waiting x true) refl }) in
          let order : waiting_in u w room ≡ met_in n e rest3 room3 x = hall _ _ refl
          (swapped (with_at s.waiting x true) x w false true (λ y. not_x (sym y)) ∙ ap (λ g. with_at g x false) (swapped s.waiting x w true true (λ y. not_x (sym y))))
          (swapped (with_at s.waiter room2 (Some x)) room3 room None (Some w) not_room ∙ ap (λ g. with_at g room3 None) (swapped s.waiter room2 room (Some x) (Some w) elsewhere)) in
          let stays : u.acts w ≡ Enters room ∷ rest = there (with_at s.acts e rest3) x w (drop 1 (s.acts x)) not_x ∙ there s.acts e w rest3 (λ y. other e in_m (sym y)) ∙ acts_are in
          let is_up : u.waiting w ≡ false = there n1.waiting x w false not_x ∙ there s.waiting x w true not_x ∙ up in
          let is_free : u.waiter room ≡ None = there n1.waiter room3 room None (λ y. not_room (sym y)) ∙ there s.waiter room2 room (Some x) (λ y. elsewhere (sym y)) ∙ free in
          record {
            first = x ∷ e ∷ [];
            others = [];
            at = u;
            by = (u, meets_late Y is_waiting s u x e (record { middle = n1; wait = x_waits; goes = goes; first_up = here n1.waiting x false; last_up = there n1.waiting x e false e_not_x ∙ e_up }), refl);
            after = comes_now u t is_up stays is_free (order ∙ is);
          }

      past_meeting : (t : Hall) (e : ℕ) → acted n e ≡ Some t → t.waiting x ≡ false → PutsOff Y is_waiting s w t
      past_meeting t e h gone = by k.step
        where
          k : Taken n e t
          k = taken n t e h

          not_met : t.waiting x ≡ n.waiting x → PutsOff Y is_waiting s w t
          not_met q = absurd (not_both (t.waiting x) (q ∙ x_left) gone)

          by : Step n e t → PutsOff Y is_waiting s w t
          by (works rest3 q is) = not_met (ap (λ (y : Hall). y.waiting x) (sym is))
          by (waits room3 rest3 q f is) =
              let off : x ≡ e → ⊥ = λ y. not_both (n.waiting x) x_left (ap n.waiting y ∙ k.up) in
              not_met (ap (λ (y : Hall). y.waiting x) (sym is) ∙ there n.waiting e x true off)
          by (meets room3 o rest3 q f b is) = elim (one_or_other x o) [
            | inl same ↦ x_met t e room3 rest3 k.up q (f ∙ ap Some (sym same)) (subst (λ y. met_in n e rest3 room3 y ≡ t) (sym same) is)
            | inr y ↦ not_met (ap (λ (z : Hall). z.waiting x) (sym is) ∙ there n.waiting o x false (apart_is x o y))
          ]

    past_two : (t : Hall) (x e : ℕ) → Meets Y is_waiting m x e t → PutsOff Y is_waiting s w t
    past_two t x e g =
        let k = wait_of m g.middle x g.wait in
        past_meeting x k.room k.rest k.up k.acts_are k.free t e (subst (λ y. acted y e ≡ Some t) (sym k.is) g.goes) g.first_up

    past : (t : Hall) (es : List ℕ) → Takes Y is_waiting m es t → PutsOff Y is_waiting s w t
    past t [] g = absurd g
    past t (e ∷ []) g = past_one t e g
    past t (x ∷ e ∷ []) g = past_two t x e g
    past t (x ∷ e ∷ f ∷ es) g = absurd g

  pub can_put_off : CanPutOff Y is_waiting
  can_put_off s m t w es r i h =
      let k = wait_of s m w i in
      past s w k.room k.rest k.up k.acts_are k.free t es (takes Y is_waiting (waiting_in s w k.room) t es (ap (λ y. late_next Y is_waiting y es) k.is ∙ h))
