-- Where two tests agree on a list and its image, they choose the same steps from both; records and their steps are such lists.
use Rattle.std.proofs.Common.{◌≡◌, ℕ, zero, suc, Bool, true, false, cond, ◌||◌, List, [], ◌∷◌, ◌++◌, map, refl, sym, ap, ap₂, ◌∙◌}
use Rattle.std.proofs.lemmas.List.{map-append}
use Rattle.gr_causal.specs.Dependence.{hits, collect, left_by, dependents, kept, causes}
use Rattle.gr_program.specs.Programs.{Program}
use Rattle.gr_laws.specs.Dependence.{clash}
use Rattle.gr_laws.specs.Reached.{Logged}
use Rattle.gr_refine.specs.Contents.{Contents}
use Rattle.gr_record.specs.Conflicts.{conflict_of}
use Rattle.gr_record.specs.declared.record.Record.{Record}
use Rattle.gr_record.specs.Kept.{Kept, Tells}
use Rattle.gr_record.specs.Pairs.{records_in, steps_in, clash_in, AreOf}
use Rattle.gr_record.proofs.ChainLemmas.{Chain, chain_of}
use Rattle.gr_record.proofs.RecordLemmas.{conflicts_alike}

-- each item of a list is such
abbrev Each : {A : Type 0} → (A → Type 0) → List A → Type 0
Each W [] = Unit {0}
Each W (x ∷ xs) = W x × Each W xs

either_way : {X Y : Type 0} (g : X → Y) (a b : Bool) (x y : X) (v w : Y) → a ≡ b → v ≡ g x → w ≡ g y → cond a v w ≡ g (cond b x y)
either_way g a true x y v w e first second = ap (λ z. cond z v w) e ∙ first
either_way g a false x y v w e first second = ap (λ z. cond z v w) e ∙ second

module _ {A B : Type 0} (f : A → B) (c : A → A → Bool) (d : B → B → Bool) (W : A → Type 0)
    (agree : (x y : A) → W x → W y → d (f x) (f y) ≡ c x y) where
  Each-push : (ds : List A) (r : A) → Each W ds → W r → Each W (ds ++ r ∷ [])
  Each-push [] r each w = (w, tt)
  Each-push (x ∷ ds) r each w = (each.0, Each-push ds r each.1 w)

  hits_alike : (ds : List A) (r : A) → Each W ds → W r → hits d (map f ds) (f r) ≡ hits c ds r
  hits_alike [] r each w = refl
  hits_alike (x ∷ ds) r each w = ap₂ (λ (a b : Bool). a || b) (agree x r each.0 w) (hits_alike ds r each.1 w)

  collect_alike : (ds L : List A) → Each W ds → Each W L → collect d (map f ds) (map f L) ≡ map f (collect c ds L)
  collect_alike ds [] each all = refl
  collect_alike ds (r ∷ L) each all =
      either_way (map f) (hits d (map f ds) (f r)) (hits c ds r) (collect c (ds ++ r ∷ []) L) (collect c ds L)
      (collect d (map f ds ++ f r ∷ []) (map f L)) (collect d (map f ds) (map f L)) (hits_alike ds r each all.0)
      (ap (λ xs. collect d xs (map f L)) (sym (map-append f ds (r ∷ []))) ∙ collect_alike (ds ++ r ∷ []) L (Each-push ds r each all.0) all.1)
      (collect_alike ds L each all.1)

  left_alike : (ds L : List A) → Each W ds → Each W L → left_by d (map f ds) (map f L) ≡ map f (left_by c ds L)
  left_alike ds [] each all = refl
  left_alike ds (r ∷ L) each all =
      either_way (map f) (hits d (map f ds) (f r)) (hits c ds r) (left_by c (ds ++ r ∷ []) L) (r ∷ left_by c ds L)
      (left_by d (map f ds ++ f r ∷ []) (map f L)) (f r ∷ left_by d (map f ds) (map f L)) (hits_alike ds r each all.0)
      (ap (λ xs. left_by d xs (map f L)) (sym (map-append f ds (r ∷ []))) ∙ left_alike (ds ++ r ∷ []) L (Each-push ds r each all.0) all.1)
      (ap (λ xs. f r ∷ xs) (left_alike ds L each all.1))

  dependents_alike : (L : List A) (i : ℕ) → Each W L → dependents d (map f L) i ≡ map f (dependents c L i)
  dependents_alike [] i all = refl
  dependents_alike (r ∷ L) zero all = collect_alike (r ∷ []) L (all.0, tt) all.1
  dependents_alike (r ∷ L) (suc i) all = dependents_alike L i all.1

  others_alike : (L : List A) (i : ℕ) → Each W L → kept d (map f L) i ≡ map f (kept c L i)
  others_alike [] i all = refl
  others_alike (r ∷ L) zero all = left_alike (r ∷ []) L (all.0, tt) all.1
  others_alike (r ∷ L) (suc i) all = ap (λ xs. f r ∷ xs) (others_alike L i all.1)

  Each-cond : (b : Bool) (xs ys : List A) → Each W xs → Each W ys → Each W (cond b xs ys)
  Each-cond true xs ys first second = first
  Each-cond false xs ys first second = second

  Each-causes : (L : List A) (i : ℕ) → Each W L → Each W (causes c L i)
  Each-causes [] i all = tt
  Each-causes (r ∷ L) zero all = (all.0, tt)
  Each-causes (r ∷ L) (suc i) all =
      let rest = Each-causes L i all.1 in
      Each-cond (hits c (causes c L i) r) (r ∷ causes c L i) (causes c L i) (all.0, rest) rest

  causes_alike : (L : List A) (i : ℕ) → Each W L → causes d (map f L) i ≡ map f (causes c L i)
  causes_alike [] i all = refl
  causes_alike (r ∷ L) zero all = refl
  causes_alike (r ∷ L) (suc i) all =
      let rest = causes_alike L i all.1 in
      either_way (map f) (hits d (causes d (map f L) i) (f r)) (hits c (causes c L i) r) (r ∷ causes c L i) (causes c L i)
      (f r ∷ causes d (map f L) i) (causes d (map f L) i)
      (ap (λ xs. hits d xs (f r)) rest ∙ hits_alike (causes c L i) r (Each-causes L i all.1) all.0) (ap (λ xs. f r ∷ xs) rest) rest

-- the record and the step of a pair
abbrev pub record_of : (p : Program) → Record × Logged p → Record
record_of p x = x.0

abbrev pub step_of : (p : Program) → Record × Logged p → Logged p
step_of p x = x.1

-- a record that tells its step, from some contents
record Told (p : Program) (x : Record × Logged p) : Type 0 where
  before : Contents
  after : Contents
  tells : Tells p before x.0 x.1 after

all_told : (p : Program) (s t : Contents) (steps : List (Record × Logged p)) → Chain p s (records_in p steps) (steps_in p steps) t → Each (Told p) steps
all_told p s t [] chain = tt
all_told p s t (x ∷ steps) chain = (record { before = s; after = chain.0; tells = chain.1 }, all_told p chain.0 t steps chain.2)

told_alike : (p : Program) (x y : Record × Logged p) → Told p x → Told p y → conflict_of x.0 y.0 ≡ clash_in p x y
told_alike p x y a b = conflicts_alike p a.before a.after b.before b.after x.0 y.0 x.1 y.1 a.tells b.tells

anything : (p : Program) (steps : List (Record × Logged p)) → Each (λ (x : Record × Logged p). Unit {0}) steps
anything p [] = tt
anything p (x ∷ steps) = (tt, anything p steps)

module _ (p : Program) (s t : Contents) (steps : List (Record × Logged p)) (i : ℕ) (are : Kept p s (records_in p steps) (steps_in p steps) t) where
  told : Each (Told p) steps
  told = all_told p s t steps (chain_of p s (records_in p steps) (steps_in p steps) t are)

  pub same_dependents : AreOf p (dependents (clash_in p) steps i) (dependents conflict_of (records_in p steps) i) (dependents (clash p) (steps_in p steps) i)
  same_dependents = (
    dependents_alike (record_of p) (clash_in p) conflict_of (Told p) (told_alike p) steps i told,
    dependents_alike (step_of p) (clash_in p) (clash p) (λ x. Unit {0}) (λ x y a b. refl) steps i (anything p steps),
  )

  pub same_others : AreOf p (kept (clash_in p) steps i) (kept conflict_of (records_in p steps) i) (kept (clash p) (steps_in p steps) i)
  same_others = (
    others_alike (record_of p) (clash_in p) conflict_of (Told p) (told_alike p) steps i told,
    others_alike (step_of p) (clash_in p) (clash p) (λ x. Unit {0}) (λ x y a b. refl) steps i (anything p steps),
  )

  pub same_causes : AreOf p (causes (clash_in p) steps i) (causes conflict_of (records_in p steps) i) (causes (clash p) (steps_in p steps) i)
  same_causes = (
    causes_alike (record_of p) (clash_in p) conflict_of (Told p) (told_alike p) steps i told,
    causes_alike (step_of p) (clash_in p) (clash p) (λ x. Unit {0}) (λ x y a b. refl) steps i (anything p steps),
  )
