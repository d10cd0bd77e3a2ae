-- Steps that are named by their owner and how many steps it had then taken have names of their own.
use Rattle.std.proofs.Common.{◌≡◌, ℕ, suc, ◌<◌, List, [], ◌∷◌, map, sym, ◌∙◌, ap, inl, inr, arith}
use Rattle.gr_causal.specs.Sequences.{In, Distinct, Before}
use Rattle.gr_causal.specs.Machine.{Machine, StepOf, IsLog}
use Rattle.gr_causal.specs.StepNames.{CountsSteps, name_of}
use Rattle.gr_causal.proofs.ListLemmas.{In-map}
use Rattle.gr_causal.proofs.PathLemmas.{Path, path_of}

module _ (M : Machine) {Owner : Type 0} (owner : M.Event → Owner) (ordinal : M.Note → ℕ) (count : M.State → Owner → ℕ) (laws : CountsSteps M owner ordinal count) where
  open M use {State, Event, Note, step}
  open laws use {noted, raised, kept}

  abbrev name : StepOf M → Owner × ℕ
  name r = name_of M owner ordinal r

  later : (s : State) (L : List (StepOf M)) (t : State) → Path M s L t → (o : Owner) (k : ℕ) → In (o, k) (map name L) → count s o < k
  later s [] t p o k h = elim h [ ]
  later s (r ∷ L) t p o k (inl e) =
      let q : k ≡ count p.0 (owner r.event) = ap (λ (x : Owner × ℕ). x.1) e ∙ noted s p.0 r.event r.note p.1.does in
      let u : count p.0 (owner r.event) ≡ suc (count s (owner r.event)) = raised s p.0 r.event r.note p.1.does in
      let c : count s o ≡ count s (owner r.event) = ap (λ (x : Owner × ℕ). count s x.0) e in
      omega arith
  later s (r ∷ L) t p o k (inr h) =
      let a = later p.0 L t p.2 o k h in
      let b = kept s p.0 r.event r.note p.1.does o in
      omega arith

  distinct_path : (s : State) (L : List (StepOf M)) (t : State) → Path M s L t → Distinct (map name L)
  distinct_path s [] t p = tt
  distinct_path s (r ∷ L) t p = (
    λ h.
        let a = later p.0 L t p.2 (owner r.event) (ordinal r.note) h in
        let c = noted s p.0 r.event r.note p.1.does in
        omega arith,
    distinct_path p.0 L t p.2,
  )

  pub distinct_names : (s : State) (L : List (StepOf M)) (t : State) → IsLog M s L t → Distinct (map (name_of M owner ordinal) L)
  distinct_names s L t l = distinct_path s L t (path_of M s L t l)

  In-name : (r : StepOf M) (L : List (StepOf M)) → In r L → In (name r) (map name L)
  In-name r L h = In-map name r L h

  rising_path : (s : State) (L : List (StepOf M)) (t : State) → Path M s L t → (a b : StepOf M) → Before L a b → owner a.event ≡ owner b.event → ordinal a.note < ordinal b.note
  rising_path s [] t p a b h e = elim h [ ]
  rising_path s (r ∷ L) t p a b (inl h) e =
      let k : count p.0 (owner b.event) < ordinal b.note = later p.0 L t p.2 (owner b.event) (ordinal b.note) (In-name b L h.1) in
      let n : ordinal r.note ≡ count p.0 (owner r.event) = noted s p.0 r.event r.note p.1.does in
      let q : ordinal a.note ≡ ordinal r.note = ap (λ (x : StepOf M). ordinal x.note) h.0 in
      let o : owner r.event ≡ owner b.event = ap (λ (x : StepOf M). owner x.event) (sym h.0) ∙ e in
      let c : count p.0 (owner r.event) ≡ count p.0 (owner b.event) = ap (count p.0) o in
      omega arith
  rising_path s (r ∷ L) t p a b (inr h) e = rising_path p.0 L t p.2 a b h e

  pub rising_ordinals : (s : State) (L : List (StepOf M)) (t : State) → IsLog M s L t → (a b : StepOf M) → Before L a b → owner a.event ≡ owner b.event → ordinal a.note < ordinal b.note
  rising_ordinals s L t l = rising_path s L t (path_of M s L t l)
