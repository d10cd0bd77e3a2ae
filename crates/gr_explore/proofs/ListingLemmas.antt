-- The listing that pages are, and what is found in it.
use Rattle.std.proofs.Common.{◌≡◌, ℕ, Bool, true, false, ◌||◌, if◌then◌else◌, List, [], ◌∷◌, ◌++◌, Option, Some, None, refl, sym, ◌∙◌, ap, append_assoc, inl, inr}
use Rattle.std.proofs.lemmas.Bool.{cases_Bool}
use Rattle.gr_keys.specs.Codes.{list_code}
use Rattle.gr_schedules.specs.Keys.{found}
use Rattle.gr_explore.specs.declared.pages.Page.{Page}
use Rattle.gr_explore.specs.Keeping.{names_of, pages_code, has_name, AreRight, IsCodeOfSeen}
use Rattle.gr_explore.proofs.PageLemmas.{turned}

module _ {N X V : Type 0} (equal : N → N → Bool) (is : (a b : N) → equal a b ≡ true → a ≡ b) (itself : (a : N) → equal a a ≡ true)
    (entry_code : N × Option X → List ℕ) (code : N → Option X → List ℕ) (no_code : (n : N) → code n None ≡ []) (some_code : (n : N) (x : X) → code n (Some x) ≡ 1 ∷ entry_code (n, Some x))
    (view : Option X → V) (seen : N → V) where
  abbrev Right : List (Page N) → Type 0
  Right pages = AreRight equal (λ n bytes. IsCodeOfSeen code view (seen n) n bytes) [] pages

  abbrev entry : N → Option X → List (N × Option X) → List (N × Option X)
  entry n None es = es
  entry n (Some x) es = (n, Some x) ∷ es

  -- the entries of what is there
  pub listed : (pages : List (Page N)) → Right pages → List (N × Option X)
  listed [] a = []
  listed (page ∷ pages) a = entry page.name (a.0 refl).content (listed pages a.1)

  one_code : (n : N) (o : Option X) (es : List (N × Option X)) → list_code entry_code (entry n o es) ≡ code n o ++ list_code entry_code es
  one_code n None es = ap (λ c. c ++ list_code entry_code es) (sym (no_code n))
  one_code n (Some x) es = ap (λ c. c ++ list_code entry_code es) (sym (some_code n x))

  -- their code is that of the pages
  pub listed_code : (pages : List (Page N)) (a : Right pages) → pages_code pages ++ 0 ∷ [] ≡ list_code entry_code (listed pages a)
  unfolding listed
  listed_code [] a = refl
  listed_code (page ∷ pages) a =
      append_assoc page.bytes.items (pages_code pages) (0 ∷ []) ∙ ap (λ b. b ++ (pages_code pages ++ 0 ∷ [])) (a.0 refl).bytes_are
      ∙ ap (λ c. code page.name (a.0 refl).content ++ c) (listed_code pages a.1) ∙ sym (one_code page.name (a.0 refl).content (listed pages a.1))

  -- what is found of a name that has a page is what is seen under it
  found_one : (n m : N) (o : Option X) (es : List (N × Option X)) (rest : Bool) → view o ≡ seen m → view (found equal es n) ≡ (if rest then seen n else view None)
      → view (found equal (entry m o es) n) ≡ (if (equal m n || rest) then seen n else view None)
  found_one n m o es rest v h = elim (cases_Bool (equal m n)) [
    | inl t ↦
        let same : m ≡ n = is m n t in
        here o (v ∙ ap seen same) same ∙ ap (λ b. if (b || rest) then seen n else view None) (sym t)
    | inr f ↦ there o (turned equal is itself m n f) ∙ h ∙ ap (λ b. if (b || rest) then seen n else view None) (sym f)
  ]
    where
      at_name : m ≡ n → equal n m ≡ true
      at_name e = ap (equal n) e ∙ itself n

      rest_none : view None ≡ seen n → (b : Bool) → (if b then seen n else view None) ≡ seen n
      rest_none e true = refl
      rest_none e false = e

      here : (o : Option X) → view o ≡ seen n → m ≡ n → view (found equal (entry m o es) n) ≡ seen n
      here None e same = h ∙ rest_none e rest
      here (Some x) e same = ap (λ b. view (if b then Some x else found equal es n)) (at_name same) ∙ e

      there : (o : Option X) → equal n m ≡ false → view (found equal (entry m o es) n) ≡ view (found equal es n)
      there None f = refl
      there (Some x) f = ap (λ b. view (if b then Some x else found equal es n)) f

  found_among : (pages : List (Page N)) (a : Right pages) (n : N) → view (found equal (listed pages a) n) ≡ (if has_name equal n (names_of pages) then seen n else view None)
  unfolding listed
  found_among [] a n = refl
  found_among (page ∷ pages) a n =
      found_one n page.name (a.0 refl).content (listed pages a.1) (has_name equal n (names_of pages)) (a.0 refl).is_seen (found_among pages a.1 n)

  -- all that is found is what is seen
  pub found_seen : (pages : List (Page N)) (a : Right pages) → ((n : N) → has_name equal n (names_of pages) ≡ false → view None ≡ seen n) → (n : N) → view (found equal (listed pages a) n) ≡ seen n
  found_seen pages a others n = found_among pages a n ∙ elim (cases_Bool (has_name equal n (names_of pages))) [
    | inl t ↦ ap (λ b. if b then seen n else view None) t
    | inr f ↦ ap (λ b. if b then seen n else view None) f ∙ others n f
  ]
