-- Where guests meet two by two, something is left to do when a guest waits for whom there was something to do.
use Rattle.std.proofs.Common.{◌≡◌, ℕ, true, false, List, [], ◌∷◌, Some, None, refl, sym, ◌∙◌, ap, subst, inl, inr}
use Rattle.gr_search.specs.System.{System}
use Rattle.gr_search.specs.Late.{CanGo, EndLaws}
use Rattle.gr_search.specs.Meetings.{Act, Enters, Hall, worked, waiting_in, met_in, acted, meetings, is_waiting}
use Rattle.gr_search.proofs.Safe.{some_is, none_not, not_both}
use Rattle.gr_search.proofs.LateSteps.{Goes, Takes, takes, goes_late, meets_late}
use Rattle.gr_search.proofs.MeetingLemmas.{one_or_other, apart_is, here, there, swapped_at, same_room, Step, works, waits, meets, Taken, taken, goes_by, not_at_work, wait_of}

module _ (all : ℕ → List Act) where
  abbrev Y : System Hall ℕ Hall
  Y = meetings all

  -- where something of the reduction is possible, it still is when a guest waits
  module _ (s : Hall) (w room : ℕ) (rest : List Act) (up : s.waiting w ≡ false) (acts_are : s.acts w ≡ Enters room ∷ rest) (free : s.waiter room ≡ None) where
    abbrev later : Hall
    later = waiting_in s w room

    abbrev GoesOn : Type 0
    GoesOn = CanGo Y is_waiting later

    goes_one : (t : Hall) (e : ℕ) → Goes Y is_waiting later e t → GoesOn
    goes_one t e g = record { events = e ∷ []; to = t; goes = goes_late Y is_waiting later t e g }

    left_out : (h : ℕ) → s.waiting h ≡ true → h ≡ w → ⊥
    left_out h b q = not_both (s.waiting h) b (ap s.waiting q ∙ up)

    taken_room : (room2 : ℕ) (h : ℕ) → s.waiter room2 ≡ Some h → room2 ≡ room → ⊥
    taken_room room2 h f q = none_not h (sym free ∙ ap s.waiter (sym q) ∙ f)

    one_still : (t : Hall) (e : ℕ) → Goes Y is_waiting s e t → GoesOn
    one_still t e g = by k.step
      where
        k : Taken s e t
        k = taken s t e g.goes

        by : Step s e t → GoesOn
        by (works rest2 q is) =
            let off : e ≡ w → ⊥ = λ x. not_at_work all room rest2 rest (sym q ∙ ap s.acts x ∙ acts_are) in
            let is_up : later.waiting e ≡ false = there s.waiting w e true off ∙ k.up in
            goes_one (worked later e rest2) e (record { goes = goes_by later (worked later e rest2) e (record { up = is_up; step = works rest2 q refl }); up = is_up })
        by (waits room2 rest2 q f is) = absurd (not_both (t.waiting e) (ap (λ (x : Hall). x.waiting e) (sym is) ∙ here s.waiting e true) g.up)
        by (meets room2 h rest2 q f b is) =
            let elsewhere = taken_room room2 h f in
            let off : e ≡ w → ⊥ = λ x. elsewhere (same_room (sym q ∙ ap s.acts x ∙ acts_are)) in
            let is_up : later.waiting e ≡ false = there s.waiting w e true off ∙ k.up in
            let not_h : e ≡ h → ⊥ = λ x. not_both (s.waiting h) b (ap s.waiting (sym x) ∙ k.up) in
            let u = met_in later e rest2 room2 h in
            goes_one u e (record {
              goes = goes_by later u e (record {
                up = is_up;
                step = meets room2 h rest2 q (there s.waiter room room2 (Some w) elsewhere ∙ f) (there s.waiting w h true (left_out h b) ∙ b) refl;
              });
              up = there later.waiting h e false not_h ∙ is_up;
            })

    -- two meet, of whom the first is another guest
    module _ (x room2 : ℕ) (rest2 : List Act) (x_up : s.waiting x ≡ false) (x_acts : s.acts x ≡ Enters room2 ∷ rest2) (x_free : s.waiter room2 ≡ None) (not_w : x ≡ w → ⊥) where
      abbrev first_in : Hall
      first_in = waiting_in s x room2

      abbrev both : Hall
      both = waiting_in later x room2

      x_up_later : later.waiting x ≡ false
      x_up_later = there s.waiting w x true not_w ∙ x_up

      -- in one room with the guest: they meet
      in_one_room : room2 ≡ room → GoesOn
      in_one_room q =
          let u = met_in later x rest2 room2 w in
          goes_one u x (record {
            goes = goes_by later u x (record { up = x_up_later; step = meets room2 w rest2 x_acts (ap later.waiter q ∙ here s.waiter room (Some w)) (here s.waiting w true) refl });
            up = there later.waiting w x false not_w ∙ x_up_later;
          })

      in_another : (room2 ≡ room → ⊥) → (t : Hall) (e room3 h : ℕ) (rest3 : List Act) → first_in.waiting e ≡ false → s.acts e ≡ Enters room3 ∷ rest3 → first_in.waiter room3 ≡ Some h → h ≡ x → GoesOn
      in_another elsewhere t e room3 h rest3 mine q f same =
          let not_room : room3 ≡ room → ⊥ = λ y. none_not h (sym free ∙ sym (there s.waiter room2 room (Some x) (λ z. elsewhere (sym z))) ∙ ap first_in.waiter (sym y) ∙ f) in
          let off : e ≡ w → ⊥ = λ y. not_room (same_room (sym q ∙ ap s.acts y ∙ acts_are)) in
          let not_x : e ≡ x → ⊥ = λ y. not_both (first_in.waiting x) (here s.waiting x true) (ap first_in.waiting (sym y) ∙ mine) in
          let is_up : both.waiting e ≡ false = there later.waiting x e true not_x ∙ there s.waiting w e true off ∙ sym (there s.waiting x e true not_x) ∙ mine in
          let seated : both.waiter room3 ≡ Some x =
          swapped_at s.waiter room room2 room3 (Some w) (Some x) (λ y. elsewhere (sym y)) ∙ there first_in.waiter room room3 (Some w) not_room ∙ f ∙ ap Some same in
          let u = met_in both e rest3 room3 x in
          record {
            events = x ∷ e ∷ [];
            to = u;
            goes = meets_late Y is_waiting later u x e (record {
              middle = both;
              wait = record {
                goes = goes_by later both x (record { up = x_up_later; step = waits room2 rest2 x_acts (there s.waiter room room2 (Some w) elsewhere ∙ x_free) refl });
                then_waits = here later.waiting x true;
              };
              goes = goes_by both u e (record { up = is_up; step = meets room3 x rest3 q seated (here later.waiting x true) refl });
              first_up = here both.waiting x false;
              last_up = there both.waiting x e false not_x ∙ is_up;
            });
          }

      two_still : (t : Hall) (e : ℕ) → acted first_in e ≡ Some t → t.waiting x ≡ false → GoesOn
      two_still t e g gone = by k.step
        where
          k : Taken first_in e t
          k = taken first_in t e g

          not_met : t.waiting x ≡ first_in.waiting x → GoesOn
          not_met q = absurd (not_both (t.waiting x) (q ∙ here s.waiting x true) gone)

          by : Step first_in e t → GoesOn
          by (works rest3 q is) = not_met (ap (λ (y : Hall). y.waiting x) (sym is))
          by (waits room3 rest3 q f is) =
              let off : x ≡ e → ⊥ = λ y. not_both (first_in.waiting x) (here s.waiting x true) (ap first_in.waiting y ∙ k.up) in
              not_met (ap (λ (y : Hall). y.waiting x) (sym is) ∙ there first_in.waiting e x true off)
          by (meets room3 h rest3 q f b is) = elim (one_or_other x h) [
            | inl same ↦ elim (one_or_other room2 room) [
              | inl one ↦ in_one_room one
              | inr y ↦ in_another (apart_is room2 room y) t e room3 h rest3 k.up q f (sym same)
            ]
            | inr y ↦ not_met (ap (λ (z : Hall). z.waiting x) (sym is) ∙ there first_in.waiting h x false (apart_is x h y))
          ]

    still_goes : (t : Hall) (es : List ℕ) → Takes Y is_waiting s es t → GoesOn
    still_goes t [] g = absurd g
    still_goes t (e ∷ []) g = one_still t e g
    still_goes t (x ∷ e ∷ []) g = elim (one_or_other x w) [
      | inl same ↦
          let one : g.middle ≡ later = some_is g.middle later (sym g.wait.goes ∙ ap (acted s) same ∙ goes_by s later w (record { up = up; step = waits room rest acts_are free refl })) in
          goes_one t e (record { goes = ap (λ y. acted y e) (sym one) ∙ g.goes; up = g.last_up })
      | inr y ↦
          let k = wait_of all s g.middle x g.wait in
          two_still x k.room k.rest k.up k.acts_are k.free (apart_is x w y) t e (subst (λ z. acted z e ≡ Some t) (sym k.is) g.goes) g.first_up
    ]
    still_goes t (x ∷ e ∷ f ∷ es) g = absurd g

  pub end_laws : EndLaws Y is_waiting
  end_laws = record {
    bad_ends = λ s e r b. b.none e;
    goes_still = λ s m w r i g.
        let k = wait_of all s m w i in
        subst (CanGo Y is_waiting) k.is (still_goes s w k.room k.rest k.up k.acts_are k.free g.to g.events (takes Y is_waiting s g.to g.events g.goes));
  }
