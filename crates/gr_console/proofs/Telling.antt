-- Pages that tell of codes.
use Rattle.std.proofs.Common.{◌≡◌, ℕ, List, [], ◌∷◌, true, false, refl, ap, ap₂, true≢false, sym, rules, length, arith, ◌≤◌}
use Rattle.std.specs.Prelude.{nat_eq, if◌then◌else◌, Bool, ◌&&◌, slice_index_or}
use Rattle.std.specs.List.{list_all}
use Rattle.std.specs.Cmp.Lexicographic.{pointwise}
use Rattle.std.proofs.lemmas.Slice.Eq.{bytes_eq-Decides}
use Rattle.gr_console.specs.Explanations.{IsOn, begins}

byte_is : (b c : ℕ) → nat_eq b c ≡ true → b ≡ c
byte_is b c h = search rules

both_true : (a b : Bool) → (a && b) ≡ true → (a ≡ true) × (b ≡ true)
both_true true b h = (refl, h)
both_true false b h = absurd (true≢false (sym h))

on_same : (b : Bool) (x : Bool) → (if b then x else false) ≡ true → (b ≡ true) × (x ≡ true)
on_same true x h = (refl, h)
on_same false x h = absurd (true≢false (sym h))

-- the test tells the truth
pub begins_on : (code page : List ℕ) → begins code page ≡ true → IsOn code page
begins_on [] [] h = absurd (true≢false (sym h))
begins_on (c ∷ code) [] h = absurd (true≢false (sym h))
begins_on [] (b ∷ page) h = (page, ap (λ x. x ∷ page) (byte_is b 58 h))
begins_on (c ∷ code) (b ∷ page) h =
    let both = on_same (nat_eq b c) (begins code page) h in
    let rest = begins_on code page both.1 in
    (rest.0, ap₂ (λ (x : ℕ) (xs : List ℕ). x ∷ xs) (byte_is b c both.0) rest.1)

-- the page of the first entry of a table, where its code is the one looked for
pub first_page : {X : Type 0} (name page : X → List ℕ) (code : List ℕ) (table : List X) (d : X) → 1 ≤ length table → list_all (λ e. begins (name e) (page e)) table ≡ true
    → pointwise nat_eq (name (slice_index_or table 0 d)) code ≡ true → IsOn code (page (slice_index_or table 0 d))
first_page name page code [] d long all same = absurd (omega (arith, long))
first_page name page code (e ∷ table) d long all same =
    rw (sym ((bytes_eq-Decides (name e) code).0 same)) (begins_on (name e) (page e) (both_true (begins (name e) (page e)) (list_all (λ e. begins (name e) (page e)) table) all).0)
