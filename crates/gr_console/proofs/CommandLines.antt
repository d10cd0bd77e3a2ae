-- The number that a text gives, and what a command line asks for.
use Rattle.std.proofs.Common.{◌≡◌, ◌<◌, ◌≤◌, ◌^◌, ℕ, Bool, List, [], Option, Some, None, true, false, is_some, Result, Ok, Err, OnOk, refl, ap, subst, ◌∙◌, arith}
use Rattle.std.proofs.lemmas.Bool.{ltb-true}
use Rattle.std.specs.Str.Parse.{IsNumeral, digits_value, without_leading_plus}
use Rattle.clap.specs.Words.{Accepts, App, FailsBy, HasMatchesOf, fault_of, is_simple_and_free, Row, Text, first_of, first_value, found_of, matches_of, rows_of}
use Rattle.clap.specs.declared.error.Error.{Error}
use Rattle.clap.specs.declared.parser.matches.ArgMatches.{ArgMatches}
use Rattle.clap.specs.ValueTests.{accepts}
use Rattle.clap.specs.declared.builder.value_parser.ValueParser.TheVariants.{Unsigned}
use Rattle.clap.specs.declared.parser.matches.Found.{Found}
use Rattle.clap.proofs.ValueTestLemmas.{accepts-Accepts, Accepts-accepts}
use Rattle.clap.proofs.WalkLemmas.{first_value-rows}
use Rattle.gr_console.specs.CommandLine.{Asked, asked_by, number_in, rewind_line}

below : (n most end : ℕ) → n ≤ most → most < end → n < end
below n most end h k = omega (arith, h, k)

then_below : (a b c : ℕ) → a < b → b < c → a < c
then_below a b c h k = omega (arith, h, k)

module _ (least most : ℕ) (text : Text) where
  -- a number that was read, within the limits
  pub counted : (n : ℕ) → IsNumeral 10 (without_leading_plus text) → n ≡ digits_value 10 (without_leading_plus text) → least ≤ n → n ≤ most
      → most < 2 ^ 32 → Some n ≡ number_in least most text
  counted n numeral is enough within small =
      let great = rw is at enough in
      let few = rw is at within in
      let passed = Accepts-accepts false (Unsigned least most) text (numeral, below _ _ _ few (then_below _ _ _ small (ltb-true (2 ^ 32) (2 ^ 64) refl)), great, few) in
      rw passed (ap (λ m. Some m) is)

  -- a text that clap's parser of such numbers would refuse
  pub uncounted : (Accepts false (Unsigned least most) text → ⊥) → None ≡ number_in least most text
  uncounted refused = go (accepts false (Unsigned least most) text) refl
    where
      go : (passed : Bool) → accepts false (Unsigned least most) text ≡ passed → None ≡ number_in least most text
      go true e = absurd (refused (accepts-Accepts false (Unsigned least most) text e))
      go false e = rw e refl

  -- no number of 32 bits
  pub unread : most < 2 ^ 32 → (IsNumeral 10 (without_leading_plus text) × (digits_value 10 (without_leading_plus text) < 2 ^ 32) → ⊥)
      → None ≡ number_in least most text
  unread small refused = uncounted (λ h. refused (h.0, below _ _ _ h.3 small))

-- the matches of a parse are those of the command line
pub matched : (a : App) (words : List Text) (found : ArgMatches) → a ≡ rewind_line → HasMatchesOf a words found → rows_of (found_of found) ≡ matches_of rewind_line words
matched a words found is has = (subst (λ b. HasMatchesOf b words found) is has refl).0

-- where a parse by a simple command line succeeds, no rule was broken
pub none_failed : {T : Type 0} (result : Result T Error) (a : App) (words : List Text) → a ≡ rewind_line → is_simple_and_free rewind_line ≡ true
    → (is_simple_and_free a ≡ true → FailsBy (fault_of a words) result) → OnOk result (fault_of rewind_line words ≡ [])
none_failed (Ok found) a words is simple fails = subst (λ b. is_simple_and_free b ≡ true → fault_of b words ≡ []) is fails simple
none_failed (Err error) a words is simple fails = tt

-- what the matches of a parse ask for
pub found_asks : (found : Found) (rows : List Row) → rows_of found ≡ rows → asked_by (first_value found) ≡ asked_by (λ name. first_of name rows)
found_asks found rows is = ap asked_by (λ i name. (first_value-rows found name ∙ ap (first_of name) is) i)

-- what asks for nothing is no answer
pub nothing_asked : (asked : Option Asked) → None ≡ asked → is_some asked ≡ true → ⊥
nothing_asked None e h = cc
nothing_asked (Some a) e h = cc
