-- The reduction in which nobody waits too early meets the laws of systems that are searched.
use Rattle.std.proofs.Common.{◌≡◌, ◌⊎◌, Bool, true, false, List, [], ◌∷◌, Some, None, refl, sym, ◌∙◌, ap, subst, inl, inr}
use Rattle.gr_search.specs.System as system
use Rattle.gr_search.specs.System.{System, Reached, Laws}
use Rattle.gr_search.specs.Late.{IsWait, Waits, late_next, late, WaitsForBad, WaitLaws}
use Rattle.gr_search.proofs.Safe.{some_is, none_not, not_both, reached_next}
use Rattle.gr_search.proofs.LateSteps.{Goes, Meets, Takes, takes, goes_late, meets_late, bad_now, bad_here, none_late, late_reached, late_like, bad_like}

module _ {State Event Key : Type 0} (Y : System State Event Key) (waits : State → Event → Bool) (laws : Laws Y) (waiting : WaitLaws Y waits) where
  open Y use {start, next, bad, alone, key}
  open laws use {alone_goes, alone_fine, alone_apart}
  open waiting use {still, like_waits, alone_stays, alone_waits, alone_ends}

  -- who takes a possible event does not wait
  up_before : (s t : State) (e : Event) → Reached Y s → next s e ≡ Some t → waits s e ≡ false
  up_before s t e r h = by (waits s e) refl
    where
      by : (b : Bool) → waits s e ≡ b → waits s e ≡ false
      by false q = q
      by true q = absurd (none_not t (sym (still s e r q) ∙ h))

  -- who takes an event alone does not wait after it
  alone_up : (s t : State) (a : Event) → Reached Y s → alone s a ≡ true → next s a ≡ Some t → waits t a ≡ false
  alone_up s t a r h g = alone_waits s t a a r h g ∙ up_before s t a r g

  alone_takes : (s t : State) (a : Event) → Reached Y s → alone s a ≡ true → next s a ≡ Some t → Goes Y waits s a t
  alone_takes s t a r h g = record { goes = g; up = alone_up s t a r h g }

  -- what is taken alone is one event
  by_one : {P : Type 0} (s : State) (xs : List Event) → (late Y waits).alone s xs ≡ true → ((a : Event) → xs ≡ a ∷ [] → alone s a ≡ true → P) → P
  by_one s [] h k = absurd (not_both false h refl)
  by_one s (a ∷ []) h k = k a refl h
  by_one s (a ∷ b ∷ xs) h k = absurd (not_both false h refl)

  goes_alone : (s : State) (xs : List Event) → Reached Y s → (late Y waits).alone s xs ≡ true → (t : State) × (late_next Y waits s xs ≡ Some t)
  goes_alone s xs r h = by_one s xs h (λ a is g.
      let t = alone_goes s a r g in
      (t.0, ap (late_next Y waits s) is ∙ goes_late Y waits s t.0 a (alone_takes s t.0 a r g t.1)))

  -- where something may be taken alone, waits lead to nothing bad
  no_bad : (s t : State) (a : Event) (ws : List Event) → Reached Y s → alone s a ≡ true → Waits Y waits s ws t → bad t → ⊥
  no_bad s t a [] r h w b = alone_fine s a r h (subst bad (sym w) b)
  no_bad s t a (x ∷ ws) r h w b = no_bad w.0 t a ws (reached_next Y s w.0 x r w.1.goes) (alone_stays s w.0 a x r h w.1) w.2 b

  is_fine : (s : State) (xs : List Event) → Reached Y s → (late Y waits).alone s xs ≡ true → WaitsForBad Y waits s → ⊥
  is_fine s xs r h b = by_one s xs h (λ a is g. no_bad s b.at a b.events r g b.by b.is_bad)

  abbrev Apart : (a : Event) (es : List Event) (t u : State) → Type 0
  Apart a es t u = (es ≡ a ∷ []) ⊎ (system.Passes (late Y waits) (a ∷ []) es t u ⊎ system.Ends (late Y waits) es t u)

  -- an event that ends all, and with which it is bad after a too
  ends_late : (es : List Event) (t u : State) → ((f : Event) → next u f ≡ None) → (bad u → (v : State) × (late_next Y waits t es ≡ Some v) × bad v) → system.Ends (late Y waits) es t u
  ends_late es t u none also = record {
    none = none_late Y waits u none;
    also = λ b. let v = also (bad_now Y waits u none b.events b.at b.by b.is_bad) in (v.0, v.1, bad_here Y waits v.0 v.2);
  }

  one_apart : (s t u : State) (a e : Event) → Reached Y s → alone s a ≡ true → next s a ≡ Some t → Goes Y waits s e u → Apart a (e ∷ []) t u
  one_apart s t u a e r h sa g = elim (alone_apart s t u a e r h sa g.goes) [
    | inl same ↦ inl (ap (λ x. x ∷ []) same)
    | inr (inl p) ↦
        let ru = reached_next Y s u e r g.goes in
        inr (inl (record {
          still = p.still;
          both = p.both;
          a_last = goes_late Y waits u p.both a (alone_takes u p.both a ru p.still p.a_last);
          e_last = goes_late Y waits t p.both e (record { goes = p.e_last; up = alone_waits u p.both a e ru p.still p.a_last ∙ g.up });
        }))
    | inr (inr n) ↦ inr (inr (ends_late (e ∷ []) t u n.none (λ b.
        let v = n.also b in
        (v.0, goes_late Y waits t v.0 e (record { goes = v.1; up = alone_ends s t u v.0 a e e r h sa g.goes n v.1 ∙ g.up }), v.2))))
  ]

  -- a wait passes what may be taken alone
  wait_passes : (s t m : State) (a w : Event) → Reached Y s → alone s a ≡ true → next s a ≡ Some t → IsWait Y waits s w m → system.Passes Y a w t m
  wait_passes s t m a w r h sa i = elim (alone_apart s t m a w r h sa i.goes) [
    | inl same ↦
        let one : m ≡ t = some_is m t (sym i.goes ∙ ap (next s) same ∙ sa) in
        absurd (not_both (waits m w) i.then_waits (ap (λ x. waits x w) one ∙ alone_waits s t a w r h sa ∙ up_before s m w r i.goes))
    | inr (inl p) ↦ p
    | inr (inr n) ↦
        let x = alone_goes m a (reached_next Y s m w r i.goes) (alone_stays s m a w r h i) in
        absurd (none_not x.0 (sym (n.none a) ∙ x.1))
  ]

  two_apart : (s t u : State) (a w e : Event) → Reached Y s → alone s a ≡ true → next s a ≡ Some t → Meets Y waits s w e u → Apart a (w ∷ e ∷ []) t u
  two_apart s t u a w e r h sa g =
      let m = g.middle in
      let p = wait_passes s t m a w r h sa g.wait in
      let rm = reached_next Y s m w r g.wait.goes in
      let late_wait : IsWait Y waits t w p.both = record { goes = p.e_last; then_waits = alone_waits m p.both a w rm p.still p.a_last ∙ g.wait.then_waits } in
      elim (alone_apart m p.both u a e rm p.still p.a_last g.goes) [
        | inl same ↦
            let one : u ≡ p.both = some_is u p.both (sym g.goes ∙ ap (next m) same ∙ p.a_last) in
            absurd (not_both (waits u w) (ap (λ x. waits x w) one ∙ late_wait.then_waits) g.first_up)
        | inr (inl q) ↦
            let ru = reached_next Y m u e rm g.goes in
            let as_before : (f : Event) → waits q.both f ≡ waits u f = λ f. alone_waits u q.both a f ru q.still q.a_last in
            inr (inl (record {
              still = q.still;
              both = q.both;
              a_last = goes_late Y waits u q.both a (alone_takes u q.both a ru q.still q.a_last);
              e_last = meets_late Y waits t q.both w e (record { middle = p.both; wait = late_wait; goes = q.e_last; first_up = as_before w ∙ g.first_up; last_up = as_before e ∙ g.last_up });
            }))
        | inr (inr n) ↦ inr (inr (ends_late (w ∷ e ∷ []) t u n.none (λ b.
            let v = n.also b in
            let as_before : (f : Event) → waits v.0 f ≡ waits u f = λ f. alone_ends m p.both u v.0 a e f rm p.still p.a_last g.goes n v.1 in
            (v.0, meets_late Y waits t v.0 w e (record { middle = p.both; wait = late_wait; goes = v.1; first_up = as_before w ∙ g.first_up; last_up = as_before e ∙ g.last_up }), v.2))))
      ]

  apart : (s t u : State) (a : Event) (es : List Event) → Reached Y s → alone s a ≡ true → next s a ≡ Some t → Takes Y waits s es u → Apart a es t u
  apart s t u a [] r h sa g = absurd g
  apart s t u a (e ∷ []) r h sa g = one_apart s t u a e r h sa g
  apart s t u a (w ∷ e ∷ []) r h sa g = two_apart s t u a w e r h sa g
  apart s t u a (w ∷ e ∷ f ∷ es) r h sa g = absurd g

  apart_all : (s t u : State) (xs es : List Event) → Reached Y s → (late Y waits).alone s xs ≡ true → late_next Y waits s xs ≡ Some t → late_next Y waits s es ≡ Some u
      → (es ≡ xs) ⊎ (system.Passes (late Y waits) xs es t u ⊎ system.Ends (late Y waits) es t u)
  apart_all s t u xs es r h sa se = by_one s xs h (λ a is g.
      let one = takes Y waits s t (a ∷ []) (ap (late_next Y waits s) (sym is) ∙ sa) in
      subst (λ ys. (es ≡ ys) ⊎ (system.Passes (late Y waits) ys es t u ⊎ system.Ends (late Y waits) es t u)) (sym is)
      (apart s t u a es r g one.goes (takes Y waits s u es se)))

  pub late_laws : Laws (late Y waits)
  late_laws = record {
    alone_goes = λ s xs r h. goes_alone s xs (late_reached Y waits s r) h;
    alone_fine = λ s xs r h. is_fine s xs (late_reached Y waits s r) h;
    alone_apart = λ s t u xs es r h. apart_all s t u xs es (late_reached Y waits s r) h;
    like_next = λ s r t es i j. late_like Y waits laws waiting s r t es (late_reached Y waits s i) (late_reached Y waits r j);
    like_bad = λ s r i j. bad_like Y waits laws waiting s r (late_reached Y waits s i) (late_reached Y waits r j);
  }
