-- Each trip is equivalent to one that goes back first, and is no longer.
use Rattle.std.proofs.Common.{suc, ◌+◌, ◌≤◌, Bool, List, [], ◌∷◌, ◌++◌, sym, subst, inl, inr, length, length-append, arith}
use Rattle.std.proofs.lemmas.List.{map-append}
use Rattle.gr_causal.specs.Trips.{Move, taking, taking_back, Trip, Equivalent}
use Rattle.gr_causal.specs.Trips.Move.{forth, back}
use Rattle.gr_causal.specs.Trips.Equivalent.{same, swap, cancel, behind, onward}
use Rattle.gr_causal.proofs.TakeLemmas.{last_two}
use Rattle.gr_causal.proofs.MoveLemmas.{AreLogs, leads_possible, trip_split}
use Rattle.gr_causal.proofs.TripLemmas.{ends_alike}

module _ {A : Type 0} (clash : A → A → Bool) (Possible : List A → Type 0) (logs : AreLogs clash Possible) where
  open logs use {off}

  abbrev Went : List A → List (Move A) → List A → Type 0
  Went L ms N = Trip clash Possible L ms N

  abbrev Alike : List A → List (Move A) → List (Move A) → Type 0
  Alike L ms ns = Equivalent clash Possible L ms ns

  -- a step that is taken before others go back cancels with one of them, or is taken after them
  pub record Later (L : List A) (a : A) (bs : List A) : Type 0 where
    pub gone : List A
    pub taken : List A
    pub shorter : length gone + length taken ≤ suc (length bs)
    pub alike : (ms : List (Move A)) → Alike L (forth a ∷ (taking_back bs ++ ms)) (taking_back gone ++ (taking taken ++ ms))

  taken_later : (bs : List A) (L : List A) (a : A) (N : List A) → Possible L → Went L (forth a ∷ taking_back bs) N → Later L a bs
  taken_later [] L a N p h = record { gone = []; taken = a ∷ []; shorter = omega arith; alike = λ ms. same }
  taken_later (b ∷ bs) L a N p h =
      let K = h.0 in
      let P = h.2.0 in
      elim (last_two clash off a b K L P h.1.1 h.2.1) [
        | inl e ↦ record {
          gone = bs;
          taken = [];
          shorter = omega arith;
          alike = λ ms. subst (λ x. Alike L (forth a ∷ back x ∷ (taking_back bs ++ ms)) (taking_back bs ++ ms)) e.0 (cancel K h.1);
        }
        | inr u ↦
            let Q = u.1 in
            let q : Possible P = leads_possible clash Possible logs K (back b) P h.1.0 h.2.1 in
            let ih = taken_later bs Q a N (leads_possible clash Possible logs L (back b) Q p u.2) (P, (q, u.3), h.2.2) in
            record {
              gone = b ∷ ih.gone;
              taken = ih.taken;
              shorter = let s = ih.shorter in omega arith;
              alike = λ ms. onward (swap K Q h.1 u.2 u.0) (behind Q u.2 (ih.alike ms));
            }
      ]

  pub record BackFirst (L : List A) (ms : List (Move A)) : Type 0 where
    pub gone : List A
    pub taken : List A
    pub shorter : length gone + length taken ≤ length ms
    pub alike : Alike L ms (taking_back gone ++ taking taken)

  pub back_first : (L : List A) (ms : List (Move A)) (N : List A) → Possible L → Went L ms N → BackFirst L ms
  back_first L [] N p h = record { gone = []; taken = []; shorter = omega arith; alike = same }
  back_first L (back b ∷ ms) N p h =
      let ih = back_first h.0 ms N (leads_possible clash Possible logs L (back b) h.0 p h.1) h.2 in
      record { gone = b ∷ ih.gone; taken = ih.taken; shorter = let s = ih.shorter in omega arith; alike = behind h.0 h.1 ih.alike }
  back_first L (forth a ∷ ms) N p h =
      let q = leads_possible clash Possible logs L (forth a) h.0 p h.1 in
      let ih = back_first h.0 ms N q h.2 in
      let x = trip_split clash Possible logs h.0 (taking_back ih.gone) (taking ih.taken) N ((ends_alike clash Possible logs h.0 ms _ q ih.alike N).0 h.2) in
      let w = taken_later ih.gone L a x.0 p (h.0, h.1, x.1) in
      record {
        gone = w.gone;
        taken = w.taken ++ ih.taken;
        shorter = let s = ih.shorter in let r = w.shorter in let l = length-append w.taken ih.taken in omega arith;
        alike = onward (behind h.0 h.1 ih.alike) (subst (λ x. Alike L (forth a ∷ (taking_back ih.gone ++ taking ih.taken)) (taking_back w.gone ++ x)) (sym (map-append forth w.taken ih.taken)) (w.alike (taking ih.taken)));
      }
