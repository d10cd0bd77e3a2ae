-- Names that are noted, and pages that are written anew.
use Rattle.std.proofs.Common.{◌≡◌, ◌<◌, ◌+◌, ℕ, suc, Bool, true, false, ◌||◌, if◌then◌else◌, List, [], ◌∷◌, ◌++◌, map, take, drop, length, get_or, Option, Some, None, Result, Ok, Err, OnOk, refl, sym, ◌∙◌, ap, subst, arith, inl, inr}
use Rattle.std.proofs.Math.Seq.{drop-cons}
use Rattle.std.proofs.lemmas.Bool.{cases_Bool}
use Rattle.gr_causal.specs.Sequences.{In}
use Rattle.gr_rollback.proofs.Basics.{neither, true_not_false}
use Rattle.gr_explore.specs.declared.pages.Page.{Page}
use Rattle.gr_explore.specs.declared.pages.Pages.{Pages}
use Rattle.gr_explore.specs.Keeping.{names_of, has_name, with_name, with_names, AreRight, AreCodes, IsGrown, IsRenewed, AreRenewed, AreUpdated, IsCodeOfSeen, PagesFit}
use Rattle.gr_explore.specs.Books.{with_first, with_some}

pub both_false : (a b : Bool) → a ≡ false → b ≡ false → (a || b) ≡ false
both_false a b e f = rw (e, f) refl

-- what holds on success lets something else hold
pub on_three : {A E P Q R S : Type 0} (r : Result A E) → (P → Q → R → S) → OnOk r P → OnOk r Q → OnOk r R → OnOk r S
on_three (Ok v) f a b c = f a b c
on_three (Err e) f a b c = tt

module _ {N : Type 0} (equal : N → N → Bool) (is : (a b : N) → equal a b ≡ true → a ≡ b) (itself : (a : N) → equal a a ≡ true) where
  -- two names are not the same, in either order
  pub turned : (a b : N) → equal a b ≡ false → equal b a ≡ false
  turned a b f = elim (cases_Bool (equal b a)) [ inl t ↦ absurd (true_not_false (ap (equal a) (is b a t) ∙ itself a) f) | inr g ↦ g ]

  none_pushed : (n m : N) (ns : List N) → has_name equal n (ns ++ m ∷ []) ≡ false → (equal m n ≡ false) × (has_name equal n ns ≡ false)
  none_pushed n m [] h = ((neither (equal m n) false h).0, refl)
  none_pushed n m (x ∷ xs) h =
      let o = neither (equal x n) (has_name equal n (xs ++ m ∷ [])) h in
      let r = none_pushed n m xs o.1 in
      (r.0, both_false (equal x n) (has_name equal n xs) o.0 r.1)

  -- what is not among names with one more is not that one, and not among the others
  pub none_with : (n m : N) (ns : List N) → has_name equal n (with_name equal m ns) ≡ false → (equal m n ≡ false) × (has_name equal n ns ≡ false)
  none_with n m ns h = elim (cases_Bool (has_name equal m ns)) [
    | inl t ↦
        let rest : has_name equal n ns ≡ false = subst (λ b. has_name equal n (if b then ns else ns ++ m ∷ []) ≡ false) t h in (
          elim (cases_Bool (equal m n)) [ inl e ↦ absurd (true_not_false (ap (λ x. has_name equal x ns) (sym (is m n e)) ∙ t) rest) | inr f ↦ f ],
          rest,
        )
    | inr f ↦ none_pushed n m ns (subst (λ b. has_name equal n (if b then ns else ns ++ m ∷ []) ≡ false) f h)
  ]

  pub none_with_names : (n : N) (ms ns : List N) → has_name equal n (with_names equal ms ns) ≡ false → (has_name equal n ms ≡ false) × (has_name equal n ns ≡ false)
  none_with_names n [] ns h = (refl, h)
  none_with_names n (m ∷ ms) ns h =
      let a = none_with_names n ms (with_name equal m ns) h in
      let b = none_with n m ns a.1 in
      (both_false (equal m n) (has_name equal n ms) b.0 a.0, b.1)

  pub none_with_first : {U : Type 0} (n : N) (es : List (N × U)) (ns : List N) → has_name equal n (with_first equal es ns) ≡ false
      → (has_name equal n (map (λ (e : N × U). e.0) es) ≡ false) × (has_name equal n ns ≡ false)
  none_with_first n [] ns h = (refl, h)
  none_with_first {U} n (e ∷ es) ns h =
      let a = none_with_first n es (with_name equal e.0 ns) h in
      let b = none_with n e.0 ns a.1 in
      (both_false (equal e.0 n) (has_name equal n (map (λ (e : N × U). e.0) es)) b.0 a.0, b.1)

  pub none_with_some : (n : N) (o : Option N) (ns : List N) → has_name equal n (with_some equal o ns) ≡ false
      → ((m : N) → o ≡ Some m → equal m n ≡ false) × (has_name equal n ns ≡ false)
  none_with_some n None ns h = (λ m e. absurd (none_some m e), h)
    where
      none_some : (m : N) → None ≡ Some m → ⊥
      none_some m e = cc
  none_with_some n (Some x) ns h =
      let a = none_with n x ns h in
      (λ m e. ap (λ y. equal y n) (sym (same x m e)) ∙ a.0, a.1)
    where
      same : (x m : N) → Some x ≡ Some m → x ≡ m
      same x m e = cc

  -- a name is there, or is not
  pub is_there : (n : N) (ns : List N) → (has_name equal n ns ≡ false → ⊥) → In n ns
  is_there n [] h = absurd (h refl)
  is_there n (m ∷ ms) h = elim (cases_Bool (equal m n)) [
    | inl t ↦ inl (sym (is m n t))
    | inr f ↦ inr (is_there n ms (λ k. h (both_false (equal m n) (has_name equal n ms) f k)))
  ]

  pub not_there : (n : N) (ns : List N) → has_name equal n ns ≡ false → In n ns → ⊥
  not_there n [] h i = i
  not_there n (m ∷ ms) h (inl e) = true_not_false (ap (λ x. equal m x) e ∙ itself m) (neither (equal m n) (has_name equal n ms) h).0
  not_there n (m ∷ ms) h (inr i) = not_there n ms (neither (equal m n) (has_name equal n ms) h).1 i

  -- pages that are right stay so where more has changed
  pub right_still : (right true_of : N → List ℕ → Type 0) (old new : List N) (pages : List (Page N))
      → ((n : N) (bytes : List ℕ) → has_name equal n new ≡ false → (has_name equal n old ≡ false) × (right n bytes → true_of n bytes))
      → AreRight equal right old pages → AreRight equal true_of new pages
  right_still right true_of old new [] f a = tt
  right_still right true_of old new (page ∷ pages) f a = (
    λ h. let w = f page.name page.bytes.items h in w.1 (a.0 w.0),
    right_still right true_of old new pages f a.1,
  )

  -- renewed pages are right
  right_renewed : (right : N → List ℕ → Type 0) (code : N → List ℕ) (changed : List N) → ((n : N) → right n (code n)) → (old new : List (Page N))
      → AreRenewed equal code changed old new → AreRight equal right changed old → AreRight equal right [] new
  right_renewed right code changed codes [] [] r a = tt
  right_renewed right code changed codes [] (q ∷ qs) r a = absurd r
  right_renewed right code changed codes (p ∷ ps) [] r a = absurd r
  right_renewed right code changed codes (p ∷ ps) (q ∷ qs) r a = (
    λ h. elim r.0.bytes [
      | inl same ↦ subst (λ n. right n q.bytes.items) (sym r.0.name) (subst (right p.name) (sym same.1) (a.0 same.0))
      | inr is ↦ subst (λ n. right n q.bytes.items) (sym r.0.name) (subst (right p.name) (sym is) (codes p.name))
    ],
    right_renewed right code changed codes ps qs r.1 a.1,
  )

  right_codes : (right : N → List ℕ → Type 0) (code : N → List ℕ) → ((n : N) → right n (code n)) → (pages : List (Page N)) → AreCodes code pages → AreRight equal right [] pages
  right_codes right code codes [] a = tt
  right_codes right code codes (p ∷ ps) a = (λ h. subst (right p.name) (sym a.0) (codes p.name), right_codes right code codes ps a.1)

  right_grown : (right : N → List ℕ → Type 0) (code : N → List ℕ) → ((n : N) → right n (code n)) → (old new : List (Page N))
      → IsGrown code old new → AreRight equal right [] old → AreRight equal right [] new
  right_grown right code codes [] new g a = right_codes right code codes new g
  right_grown right code codes (p ∷ ps) [] g a = absurd g
  right_grown right code codes (p ∷ ps) (q ∷ qs) g a = (
    λ h. subst (λ (page : Page N). right page.name page.bytes.items) (sym g.0) (a.0 refl),
    right_grown right code codes ps qs g.1 a.1,
  )

  pub right_updated : (right : N → List ℕ → Type 0) (code : N → List ℕ) (changed : List N) → ((n : N) → right n (code n)) → (old new : List (Page N))
      → AreUpdated equal code changed old new → AreRight equal right changed old → AreRight equal right [] new
  right_updated right code changed codes old new u a = right_grown right code codes u.renewed new u.grown (right_renewed right code changed codes old u.renewed u.are a)

-- one page more, and pages that grow again
module _ {N : Type 0} (code : N → List ℕ) where
  codes_pushed : (pages : List (Page N)) (page : Page N) → AreCodes code pages → page.bytes.items ≡ code page.name → AreCodes code (pages ++ page ∷ [])
  codes_pushed [] page a e = (e, tt)
  codes_pushed (p ∷ ps) page a e = (a.0, codes_pushed ps page a.1 e)

  pub grown_by : (old new : List (Page N)) (page : Page N) → IsGrown code old new → page.bytes.items ≡ code page.name → IsGrown code old (new ++ page ∷ [])
  grown_by [] new page g e = codes_pushed new page g e
  grown_by (p ∷ ps) [] page g e = absurd g
  grown_by (p ∷ ps) (q ∷ qs) page g e = (g.0, grown_by ps qs page g.1 e)

  pub grown_not : (pages : List (Page N)) → IsGrown code pages pages
  grown_not [] = tt
  grown_not (p ∷ ps) = (refl, grown_not ps)

  codes_grown : (old new : List (Page N)) → AreCodes code old → IsGrown code old new → AreCodes code new
  codes_grown [] new a g = g
  codes_grown (p ∷ ps) [] a g = absurd g
  codes_grown (p ∷ ps) (q ∷ qs) a g = (subst (λ (page : Page N). page.bytes.items ≡ code page.name) (sym g.0) a.0, codes_grown ps qs a.1 g.1)

  pub grown_again : (a b c : List (Page N)) → IsGrown code a b → IsGrown code b c → IsGrown code a c
  grown_again [] b c g h = codes_grown b c g h
  grown_again (p ∷ ps) [] c g h = absurd g
  grown_again (p ∷ ps) (q ∷ qs) [] g h = absurd h
  grown_again (p ∷ ps) (q ∷ qs) (r ∷ rs) g h = (h.0 ∙ g.0, grown_again ps qs rs g.1 h.1)

module _ {N : Type 0} (equal : N → N → Bool) (code : N → List ℕ) (changed : List N) where
  pub renewed_pushed : (old new : List (Page N)) (p q : Page N) → AreRenewed equal code changed old new → IsRenewed equal code changed p q
      → AreRenewed equal code changed (old ++ p ∷ []) (new ++ q ∷ [])
  renewed_pushed [] [] p q a r = (r, tt)
  renewed_pushed [] (y ∷ ys) p q a r = absurd a
  renewed_pushed (x ∷ xs) [] p q a r = absurd a
  renewed_pushed (x ∷ xs) (y ∷ ys) p q a r = (a.0, renewed_pushed xs ys p q a.1 r)

  -- one page of a list more
  pub renewed_next : (pages : List (Page N)) (i : ℕ) (p q : Page N) (new : List (Page N)) → take (i + 1) pages ≡ take i pages ++ p ∷ []
      → AreRenewed equal code changed (take i pages) new → IsRenewed equal code changed p q → AreRenewed equal code changed (take (i + 1) pages) (new ++ q ∷ [])
  renewed_next pages i p q new e a r = subst (λ xs. AreRenewed equal code changed xs (new ++ q ∷ [])) (sym e) (renewed_pushed (take i pages) new p q a r)

  pub renewed_names : (old new : List (Page N)) → AreRenewed equal code changed old new → names_of new ≡ names_of old
  renewed_names [] [] a = refl
  renewed_names [] (y ∷ ys) a = absurd a
  renewed_names (x ∷ xs) [] a = absurd a
  renewed_names (x ∷ xs) (y ∷ ys) a = ap (λ n. n ∷ names_of ys) a.0.name ∙ ap (λ ns. x.name ∷ ns) (renewed_names xs ys a.1)

-- names that are noted or get a page, one after the other
module _ {N : Type 0} (equal : N → N → Bool) where
  pub next_names : (names : List N) (i : ℕ) (x : N) (a b old : List N) → i < length names → x ≡ get_or names i x → b ≡ with_name equal x a
      → with_names equal (drop i names) a ≡ old → with_names equal (drop (i + 1) names) b ≡ old
  next_names names i x a b old within is e so_far =
      let one : i + 1 ≡ suc i = omega arith in
      let d : drop i names ≡ x ∷ drop (i + 1) names = drop-cons names i x within ∙ ap (λ y. y ∷ drop (suc i) names) (sym is) ∙ ap (λ n. x ∷ drop n names) (sym one) in
      ap (with_names equal (drop (i + 1) names)) e ∙ ap (λ ys. with_names equal ys a) (sym d) ∙ so_far

  pub next_first : {U : Type 0} (es : List (N × U)) (i : ℕ) (x : N × U) (a b old : List N) → i < length es → x ≡ get_or es i x → b ≡ with_name equal x.0 a
      → with_first equal (drop i es) a ≡ old → with_first equal (drop (i + 1) es) b ≡ old
  next_first es i x a b old within is e so_far =
      let one : i + 1 ≡ suc i = omega arith in
      let d : drop i es ≡ x ∷ drop (i + 1) es = drop-cons es i x within ∙ ap (λ y. y ∷ drop (suc i) es) (sym is) ∙ ap (λ n. x ∷ drop n es) (sym one) in
      ap (with_first equal (drop (i + 1) es)) e ∙ ap (λ ys. with_first equal ys a) (sym d) ∙ so_far

module _ {N X V : Type 0} (equal : N → N → Bool) (is : (a b : N) → equal a b ≡ true → a ≡ b) (itself : (a : N) → equal a a ≡ true)
    (code : N → Option X → List ℕ) (view : Option X → V) where
  -- pages of what was seen, after more has been noted, are of what is seen
  pub fit_noted : (old new : Pages N) (before after : N → V) → new.written ≡ old.written
      → ((n : N) → has_name equal n new.changed.items ≡ false → (has_name equal n old.changed.items ≡ false) × (before n ≡ after n))
      → PagesFit equal code view before old → PagesFit equal code view after new
  fit_noted old new before after same f a = record {
    right = subst (λ w. AreRight equal (λ n bytes. IsCodeOfSeen code view (after n) n bytes) new.changed.items w.items) (sym same)
        (right_still equal is itself (λ n bytes. IsCodeOfSeen code view (before n) n bytes) (λ n bytes. IsCodeOfSeen code view (after n) n bytes)
        old.changed.items new.changed.items old.written.items
        (λ n bytes h. let w = f n h in (w.0, λ c. record { content = c.content; bytes_are = c.bytes_are; is_seen = c.is_seen ∙ w.1 })) a.right);
    others = λ n h k. let w = f n h in a.others n w.0 (subst (λ v. has_name equal n (names_of v.items) ≡ false) same k) ∙ w.1;
  }

  -- pages that were renewed are of what is seen
  pub fit_renewed : (old new : Pages N) (seen : N → V) (content : N → Option X) → ((n : N) → view (content n) ≡ seen n)
      → names_of new.written.items ≡ with_names equal old.changed.items (names_of old.written.items)
      → AreUpdated equal (λ n. code n (content n)) old.changed.items old.written.items new.written.items → new.changed.items ≡ [] → PagesFit equal code view seen old → PagesFit equal code view seen new
  fit_renewed old new seen content views names updated none a = record {
    right = subst (λ xs. AreRight equal (λ n bytes. IsCodeOfSeen code view (seen n) n bytes) xs new.written.items) (sym none)
        (right_updated equal is itself (λ n bytes. IsCodeOfSeen code view (seen n) n bytes) (λ n. code n (content n)) old.changed.items
        (λ n. record { content = content n; bytes_are = refl; is_seen = views n }) old.written.items new.written.items updated a.right);
    others = λ n h k. let w = none_with_names equal is itself n old.changed.items (names_of old.written.items) (sym (ap (has_name equal n) names) ∙ k) in a.others n w.0 w.1;
  }

  -- pages that are not written yet
  pub fit_unwritten : (new : Pages N) (seen : N → V) (names : List N) → new.written.items ≡ [] → new.changed.items ≡ names
      → ((n : N) → (In n names → ⊥) → view None ≡ seen n) → PagesFit equal code view seen new
  fit_unwritten new seen names none changed all = record {
    right = subst (AreRight equal (λ n bytes. IsCodeOfSeen code view (seen n) n bytes) new.changed.items) (sym none) tt;
    others = λ n h k. all n (λ i. not_there equal is itself n names (sym (ap (has_name equal n) changed) ∙ h) i);
  }
