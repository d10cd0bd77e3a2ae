-- Two lists of changes taken back, the second one first.
use Rattle.std.proofs.Common.{◌≡◌, Bool, cond, List, [], ◌∷◌, ◌++◌, refl, ap, sym, ◌∙◌, subst, Option}
use Rattle.gr_tables.specs.Back.{back_at, AllFit}

module _ {K U X : Type 0} (equal : K → K → Bool) (undo : U → Option X → Option X) where
  pub back_at-append : (es fs : List (K × U)) (q : K) (x : Option X) → back_at equal undo (es ++ fs) q x ≡ back_at equal undo es q (back_at equal undo fs q x)
  back_at-append [] fs q x = refl
  back_at-append (e ∷ es) fs q x = ap (λ y. cond (equal q e.0) (undo e.1 y) y) (back_at-append es fs q x)

  module _ (fits : U → Option X → Type 0) (f g : K → Option X) where
    -- what stands, of both lists in f, and of the first in g, which the second leads from
    pub AllFit-join : (es fs : List (K × U)) → ((q : K) → back_at equal undo fs q (f q) ≡ g q) → AllFit equal undo fits es g → AllFit equal undo fits fs f
        → AllFit equal undo fits (es ++ fs) f
    AllFit-join [] fs is h k = k
    AllFit-join (e ∷ es) fs is h k =
        (subst (fits e.1) (ap (back_at equal undo es e.0) (sym (is e.0)) ∙ sym (back_at-append es fs e.0 (f e.0))) h.0, AllFit-join es fs is h.1 k)

    pub AllFit-first : (es fs : List (K × U)) → ((q : K) → back_at equal undo fs q (f q) ≡ g q) → AllFit equal undo fits (es ++ fs) f
        → AllFit equal undo fits es g
    AllFit-first [] fs is h = tt
    AllFit-first (e ∷ es) fs is h =
        (subst (fits e.1) (back_at-append es fs e.0 (f e.0) ∙ ap (back_at equal undo es e.0) (is e.0)) h.0, AllFit-first es fs is h.1)

    pub AllFit-second : (es fs : List (K × U)) → AllFit equal undo fits (es ++ fs) f → AllFit equal undo fits fs f
    AllFit-second [] fs h = h
    AllFit-second (e ∷ es) fs h = AllFit-second es fs h.1
