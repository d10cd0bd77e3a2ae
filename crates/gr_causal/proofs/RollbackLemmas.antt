-- Taking back a step and all that depends on it, by putting back what they overwrote, leaves the run of the other steps.
use Rattle.std.proofs.Common.{◌≡◌, ℕ, zero, suc, false, List, [], ◌∷◌, ◌++◌, refl, sym, ◌∙◌, ap, subst, subst₂, inl, inr}
use Rattle.gr_causal.specs.Dependence.{hits, collect, left_by, dependents, kept}
use Rattle.gr_causal.specs.Machine.{Machine, Laws, StepOf, saved_of, conflict, undo, IsLog}
use Rattle.gr_causal.proofs.ListLemmas.{or_false, true_or_false}
use Rattle.gr_causal.proofs.StepLemmas.{restore, Goes, Good, good, Free, free, which, in_or_not, untouched, unstep, moved}
use Rattle.gr_causal.proofs.PathLemmas.{Path, path_of, log_of}

module _ (M : Machine) where
  abbrev pub Goods : List (StepOf M) → Type 0
  Goods [] = Unit {0}
  Goods (d ∷ ds) = Good M d × Goods ds

  Goods-push : (ds : List (StepOf M)) (r : StepOf M) → Goods ds → Good M r → Goods (ds ++ r ∷ [])
  Goods-push [] r g h = (h, tt)
  Goods-push (d ∷ ds) r g h = (g.0, Goods-push ds r g.1 h)

module _ (M : Machine) (laws : Laws M) where
  open M use {Object, State, look, put, touches, writes}
  open laws use {ext, put_here, put_else, within, only_writes}

  -- what is put back at an object depends on what stands at that object alone
  alike : (s m t : State) (os : List Object) (o : Object) → look s o ≡ look m o → look (restore M s (saved_of M t os)) o ≡ look (restore M m (saved_of M t os)) o
  alike s m t [] o e = e
  alike s m t (p ∷ os) o e = alike (put s (look t p)) (put m (look t p)) t os o (elim (which M laws o p) [
    | inl q ↦ subst (λ x. look (put s (look t p)) x ≡ look (put m (look t p)) x) (sym q) (put_here s t p ∙ sym (put_here m t p))
    | inr n ↦ put_else s t p o n ∙ e ∙ sym (put_else m t p o n)
  ])

  -- a step that does not conflict with d goes as well where d was taken back
  back_one : (s : State) (r : StepOf M) (m : State) (d : StepOf M) → Goes M s r m → Good M d → Free M d r → Goes M (restore M s d.saved) r (restore M m d.saved)
  back_one s r m d g h f =
      let t = h.0 in
      let os : List Object = writes d.note in
      let here : (u : State) → restore M u d.saved ≡ restore M u (saved_of M t os) = λ u. ap (restore M u) h.1 in
      let s' = restore M s (saved_of M t os) in
      let m' = restore M m (saved_of M t os) in
      let w = moved M laws s r m s' g (λ o i. untouched M laws s t os o (λ j. f.first o j i)) in
      let ends : w.0 ≡ m' = ext w.0 m' (λ o. elim (in_or_not M laws o (writes r.note)) [
        | inl i ↦ w.2 o i ∙ sym (untouched M laws m t os o (λ j. f.first o j (within s m r.event r.note g.does o i)))
        | inr n ↦ only_writes s' w.0 r.event r.note w.1.does o n ∙ alike s m t os o (sym (only_writes s m r.event r.note g.does o n))
      ]) in
      subst₂ (λ a b. Goes M a r b) (sym (here s)) (ends ∙ sym (here m)) w.1

  back_all : (ds : List (StepOf M)) (s : State) (r : StepOf M) (m : State) → Goes M s r m → Goods M ds → hits (conflict M) ds r ≡ false → Goes M (undo put s ds) r (undo put m ds)
  back_all [] s r m g h n = g
  back_all (d ∷ ds) s r m g h n =
      let b = or_false (conflict M d r) (hits (conflict M) ds r) n in
      back_one (undo put s ds) r (undo put m ds) d (back_all ds s r m g h.1 b.1) h.0 (free M laws d r b.0)

  undo-push : (s : State) (ds : List (StepOf M)) (r : StepOf M) → undo put s (ds ++ r ∷ []) ≡ undo put (restore M s r.saved) ds
  undo-push s [] r = refl
  undo-push s (d ∷ ds) r = ap (λ x. restore M x d.saved) (undo-push s ds r)

  along : (ds L : List (StepOf M)) (s t : State) → Goods M ds → Path M s L t → Path M (undo put s ds) (left_by (conflict M) ds L) (undo put t (collect (conflict M) ds L))
  along ds [] s t g p = ap (λ x. undo put x ds) p
  along ds (r ∷ L) s t g p = elim (true_or_false (hits (conflict M) ds r)) [
    | inl h ↦ rw h (subst (λ x. Path M x (left_by (conflict M) (ds ++ r ∷ []) L) (undo put t (collect (conflict M) (ds ++ r ∷ []) L)))
        (undo-push p.0 ds r ∙ ap (λ x. undo put x ds) (unstep M laws s r p.0 p.1))
        (along (ds ++ r ∷ []) L p.0 t (Goods-push M ds r g (good M laws s r p.0 p.1)) p.2))
    | inr h ↦ rw h (undo put p.0 ds, back_all ds s r p.0 p.1 g h, along ds L p.0 t g p.2)
  ]

  back : (L : List (StepOf M)) (i : ℕ) (s t : State) → Path M s L t → Path M s (kept (conflict M) L i) (undo put t (dependents (conflict M) L i))
  back [] i s t p = p
  back (r ∷ L) zero s t p = subst (λ x. Path M x (left_by (conflict M) (r ∷ []) L) (undo put t (collect (conflict M) (r ∷ []) L))) (unstep M laws s r p.0 p.1)
      (along (r ∷ []) L p.0 t (good M laws s r p.0 p.1, tt) p.2)
  back (r ∷ L) (suc i) s t p = (p.0, p.1, back L i p.0 t p.2)

  pub rolled_back : (s : State) (L : List (StepOf M)) (t : State) (i : ℕ) → IsLog M s L t → IsLog M s (kept (conflict M) L i) (undo put t (dependents (conflict M) L i))
  rolled_back s L t i l = log_of M s (kept (conflict M) L i) _ (back L i s t (path_of M s L t l))
