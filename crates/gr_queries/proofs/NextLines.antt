-- The console, line by line, out of the texts of the goroutines.
use Rattle.std.proofs.Common.{◌≡◌, ℕ, zero, suc, ◌+◌, ◌<◌, ◌≤◌, Bool, true, false, cond, if◌then◌else◌, List, [], ◌∷◌, ◌++◌, length, take}
use Rattle.std.proofs.Common.{drop, map, slice_get, Some, None, Vec, refl, sym, ap, ◌∙◌, arith, append_assoc, inl, inr}
use Rattle.std.specs.Prelude.{slice_index_or}
use Rattle.std.specs.Option.{option_map_or, unwrap_or}
use Rattle.std.proofs.lemmas.Bool.{cases_Bool}
use Rattle.std.proofs.lemmas.List.{append-nil}
use Rattle.indexmap.specs.IndexMap.{IndexMap, IsEmpty, get}
use Rattle.gr_rules.specs.States.{same_go}
use Rattle.gr_laws.proofs.CellLemmas.{go_is, go_self}
use Rattle.gr_code.specs.Goroutines.{CodeGoroutine}
use Rattle.gr_refine.specs.Contents.{Contents}
use Rattle.gr_step.specs.Views.{lines_of}
use Rattle.gr_step.specs.Record.{Record}
use Rattle.gr_step.specs.Before.{is_printed}
use Rattle.gr_queries.specs.Consoles as consoles
use Rattle.gr_queries.specs.Consoles.{texts_of, count_in, untold, passed, lines_after, lines_told}
use Rattle.gr_queries.proofs.Copying.{some_inj, is_there, map_last}

-- the lines of each goroutine
abbrev pub Texts : Type 0
Texts = List ℕ → List (List ℕ)

-- the bytes of lines
abbrev pub bytes_in : {A : Type 0} → List (Vec ℕ A) → List (List ℕ)
bytes_in lines = map (λ line. line.items) lines

pub bytes_are : {A : Type 0} → (ls : List (Vec ℕ A)) → bytes_in ls ≡ lines_of ls
bytes_are [] = refl
bytes_are (l ∷ ls) = ap (λ r. l.items ∷ r) (bytes_are ls)

-- past the end of a list all is taken, and nothing is left
all_taken : {A : Type 0} → (xs : List A) (n : ℕ) → length xs ≤ n → take n xs ≡ xs
all_taken [] zero h = refl
all_taken [] (suc n) h = refl
all_taken (x ∷ xs) zero h = absurd (omega (arith, h))
all_taken (x ∷ xs) (suc n) h = ap (λ l. x ∷ l) (all_taken xs n (omega (arith, h)))

all_dropped : {A : Type 0} → (xs : List A) (n : ℕ) → length xs ≤ n → drop n xs ≡ []
all_dropped [] zero h = refl
all_dropped [] (suc n) h = refl
all_dropped (x ∷ xs) zero h = absurd (omega (arith, h))
all_dropped (x ∷ xs) (suc n) h = all_dropped xs n (omega (arith, h))

-- lines that were copied, all of them
pub all_lines : {A : Type 0} → (ls copies : List (Vec ℕ A)) (n : ℕ) → length ls ≤ n → bytes_in copies ≡ bytes_in (take n ls)
    → bytes_in copies ≡ lines_of ls
all_lines ls copies n all so_far = so_far ∙ ap bytes_in (all_taken ls n all) ∙ bytes_are ls

-- what is left of a list, item by item
drop_next : {A : Type 0} → (xs : List A) (n : ℕ) (x : A) → Some x ≡ slice_get xs n → drop n xs ≡ x ∷ drop (n + 1) xs
drop_next [] n x h = cc
drop_next (y ∷ xs) zero x h = ap (λ z. z ∷ xs) (some_inj (sym h))
drop_next (y ∷ xs) (suc n) x h = let one : suc n + 1 ≡ suc (n + 1) = omega arith in rw one (drop_next xs n x h)

drop_more : {A : Type 0} → (xs : List A) (n : ℕ) → drop (n + 1) xs ≡ drop 1 (drop n xs)
drop_more [] zero = refl
drop_more [] (suc n) = let one : suc n + 1 ≡ suc (n + 1) = omega arith in rw one refl
drop_more (x ∷ xs) zero = refl
drop_more (x ∷ xs) (suc n) = let one : suc n + 1 ≡ suc (n + 1) = omega arith in rw one (drop_more xs n)

-- lines of a list of lines, from a number on
lines_from : {A : Type 0} → (ls : List (Vec ℕ A)) (n : ℕ) → drop n (lines_of ls) ≡ bytes_in (drop n ls)
lines_from ls zero = sym (bytes_are ls)
lines_from [] (suc n) = refl
lines_from (l ∷ ls) (suc n) = lines_from ls n

-- names are compared either way
names_swap : (a b : List ℕ) (t : Bool) → same_go b a ≡ t → same_go a b ≡ t
names_swap a b true h = ap (λ x. same_go x b) (sym (go_is b a h)) ∙ go_self b
names_swap a b false h = elim (cases_Bool (same_go a b)) [
  | inl e ↦ let both : true ≡ false = sym (go_self b) ∙ ap (λ x. same_go b x) (sym (go_is a b e)) ∙ h in cc
  | inr e ↦ e
]

-- where a goroutine has no line left, none is passed
pub pass_nothing : (texts : Texts) (go : List ℕ) → texts go ≡ [] → texts ≡ passed go texts
pass_nothing texts go none = λ j q. here q j
  where
    here : (q : List ℕ) → texts q ≡ passed go texts q
    here q = elim (cases_Bool (same_go q go)) [
      | inl e ↦ let empty : texts q ≡ [] = ap texts (go_is q go e) ∙ none in rw (e, empty) refl
      | inr e ↦ rw e refl
    ]

module _ {S : Type 0} (counts : IndexMap (List ℕ) ℕ S) where
  -- at first all lines are left
  pub all_untold : (texts : Texts) → IsEmpty counts → untold counts texts ≡ texts
  all_untold texts empty = λ j q. here q j
    where
      here : (q : List ℕ) → untold counts texts q ≡ texts q
      here q = rw empty refl

  -- one more line of a goroutine is counted
  pub one_counted : (new : IndexMap (List ℕ) ℕ S) (texts : Texts) (go : List ℕ) (k : ℕ) → k ≡ count_in counts go
      → ((q : List ℕ) → get same_go new q ≡ cond (same_go go q) (Some (k + 1)) (get same_go counts q))
      → untold new texts ≡ passed go (untold counts texts)
  one_counted new texts go k is has = λ j q. here q j
    where
      here : (q : List ℕ) → untold new texts q ≡ passed go (untold counts texts) q
      here q = elim (cases_Bool (same_go q go)) [
        | inl e ↦
            let count : count_in new q ≡ count_in counts q + 1 =
            ap (λ o. unwrap_or o 0) (has q ∙ ap (λ b. cond b (Some (k + 1)) (get same_go counts q)) (names_swap go q true e))
            ∙ ap (λ n. n + 1) (is ∙ ap (count_in counts) (sym (go_is q go e))) in
            rw e (ap (λ n. drop n (texts q)) count ∙ drop_more (texts q) (count_in counts q))
        | inr e ↦
            let same : count_in new q ≡ count_in counts q =
            ap (λ o. unwrap_or o 0) (has q ∙ ap (λ b. cond b (Some (k + 1)) (get same_go counts q)) (names_swap go q false e)) in
            rw e (ap (λ n. drop n (texts q)) same)
      ]

-- the text of a goroutine that is there, and of one that is not
text_is : {A : Type 0} → (s : Contents) (n : List ℕ) (g : CodeGoroutine) (ls : List (Vec ℕ A)) → Some g ≡ s.goroutines n → lines_of ls ≡ g.text
    → texts_of s n ≡ lines_of ls
text_is s n g ls there is = ap (λ o. option_map_or (λ g. g.text) o []) (sym there) ∙ sym is

pub no_text : {S : Type 0} (counts : IndexMap (List ℕ) ℕ S) (s : Contents) (n : List ℕ) → None ≡ s.goroutines n → untold counts (texts_of s) n ≡ []
no_text counts s n none = ap (λ o. drop (count_in counts n) (option_map_or (λ g. g.text) o [])) (sym none) ∙ nothing (count_in counts n)
  where
    nothing : (k : ℕ) → drop {A = List ℕ} k [] ≡ []
    nothing zero = refl
    nothing (suc k) = refl

-- the next line is told
pub line_told : {A B : Type 0} {S : Type 0} (counts : IndexMap (List ℕ) ℕ S) (s : Contents) (n : List ℕ) (g : CodeGoroutine)
    (ls : List (Vec ℕ A)) (k : ℕ) (l : Vec ℕ A) (copy : Vec ℕ B) (old new : List (Vec ℕ B))
    → Some g ≡ s.goroutines n → lines_of ls ≡ g.text → Some l ≡ slice_get ls k
    → k ≡ count_in counts n → copy.items ≡ l.items → new ≡ old ++ copy ∷ [] → bytes_in new ≡ bytes_in old ++ take 1 (untold counts (texts_of s) n)
line_told counts s n g ls k l copy old new there is next counted same more =
    let rest : untold counts (texts_of s) n ≡ l.items ∷ bytes_in (drop (k + 1) ls) =
    ap (λ m. drop m (texts_of s n)) (sym counted) ∙ ap (drop k) (text_is s n g ls there is) ∙ lines_from ls k ∙ ap bytes_in (drop_next ls k l next) in
    ap bytes_in more ∙ map_last (λ line. line.items) old copy ∙ ap (λ x. bytes_in old ++ x ∷ []) same ∙ ap (λ t. bytes_in old ++ take 1 t) (sym rest)

-- there is no next line
pub none_untold : {A : Type 0} {S : Type 0} (counts : IndexMap (List ℕ) ℕ S) (s : Contents) (n : List ℕ) (g : CodeGoroutine)
    (ls : List (Vec ℕ A)) (k : ℕ)
    → Some g ≡ s.goroutines n → lines_of ls ≡ g.text → length ls ≤ k → k ≡ count_in counts n → untold counts (texts_of s) n ≡ []
none_untold counts s n g ls k there is all counted =
    ap (λ m. drop m (texts_of s n)) (sym counted) ∙ ap (drop k) (text_is s n g ls there is) ∙ lines_from ls k ∙ ap bytes_in (all_dropped ls k all)

-- where there is no next line, nothing is told
pub nothing_told : (before : List (List ℕ)) (left : List (List ℕ)) → left ≡ [] → before ≡ before ++ take 1 left
nothing_told before left none = sym (append-nil before) ∙ ap (λ l. before ++ take 1 l) (sym none)

-- one record more is told
told_on : (texts left : Texts) (rs : List Record) (n : ℕ) (r : Record) (before after all : List (List ℕ)) → n < length rs
    → r ≡ slice_index_or rs n r → after ≡ before ++ consoles.line_of r texts → left ≡ lines_after r texts
    → before ++ lines_told texts (drop n rs) ≡ all → after ++ lines_told left (drop (n + 1) rs) ≡ all
told_on texts left rs n r before after all within at more passes so_far =
    ap (λ l. l ++ lines_told left (drop (n + 1) rs)) more
    ∙ ap (λ t. (before ++ consoles.line_of r texts) ++ lines_told t (drop (n + 1) rs)) passes
    ∙ append_assoc before (consoles.line_of r texts) (lines_told (lines_after r texts) (drop (n + 1) rs))
    ∙ ap (λ l. before ++ lines_told texts l) (sym (drop_next rs n r (is_there rs n r within at)))
    ∙ so_far

-- one record more is told: of a step that printed, and of one that did not
pub told_printed : (texts left : Texts) (rs : List Record) (n : ℕ) (r : Record) (before after all : List (List ℕ)) → n < length rs
    → r ≡ slice_index_or rs n r → is_printed r.change.own ≡ true → after ≡ before ++ take 1 (texts r.id.go) → left ≡ passed r.id.go texts
    → before ++ lines_told texts (drop n rs) ≡ all → after ++ lines_told left (drop (n + 1) rs) ≡ all
told_printed texts left rs n r before after all within at printed more passes so_far =
    told_on texts left rs n r before after all within at
    (more ∙ ap (λ (b : Bool). before ++ (if b then take 1 (texts r.id.go) else [])) (sym printed))
    (passes ∙ ap (λ (b : Bool). if b then passed r.id.go texts else texts) (sym printed)) so_far

pub told_silent : (texts : Texts) (rs : List Record) (n : ℕ) (r : Record) (before all : List (List ℕ)) → n < length rs
    → r ≡ slice_index_or rs n r → is_printed r.change.own ≡ false
    → before ++ lines_told texts (drop n rs) ≡ all → before ++ lines_told texts (drop (n + 1) rs) ≡ all
told_silent texts rs n r before all within at silent so_far =
    told_on texts texts rs n r before before all within at
    (sym (append-nil before) ∙ ap (λ (b : Bool). before ++ (if b then take 1 (texts r.id.go) else [])) (sym silent))
    (ap (λ (b : Bool). if b then passed r.id.go texts else texts) (sym silent)) so_far

-- all of them are
pub told_all : (texts : Texts) (rs : List Record) (n : ℕ) (before all : List (List ℕ)) → length rs ≤ n
    → before ++ lines_told texts (drop n rs) ≡ all → before ≡ all
told_all texts rs n before all h so_far =
    sym (append-nil before) ∙ ap (λ l. before ++ lines_told texts l) (sym (all_dropped rs n h)) ∙ so_far
