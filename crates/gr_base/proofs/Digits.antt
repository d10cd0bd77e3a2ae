-- Numbers read digit by digit.
use Rattle.std.proofs.Common.{◌≡◌, ℕ, ◌+◌, ◌-◌, ◌*◌, ◌/◌, ◌%◌, ◌^◌, ◌<◌, ◌≤◌, Bool, true, false, cond, ◌&&◌, nat_lt, ◌==◌, zero, suc, List, [], ◌∷◌, ◌++◌, Option, Some, None, decimal, refl, sym, ◌∙◌, ap, ap₂, append_assoc, lt_of_lt_of_le, append-nil, arith}
use Rattle.std.specs.Char.{is_ascii_digit}
use Rattle.std.proofs.lemmas.Bool.{and_parts}
use Rattle.std.proofs.lemmas.Bool.Decides.{nat_tests}
use Rattle.std.proofs.lemmas.Fmt.{decimal_digit, decimal_step, decimal_by_steps}
use Rattle.std.proofs.lemmas.Option.{option_and_then_some}
use Rattle.gr_base.specs.Names.{with_digit, read_count, count_from}

-- a chosen `Some` was chosen
pub cond_some : {A : Type 0} (b : Bool) (v m : A) → cond b (Some v) None ≡ Some m → (b ≡ true) × (v ≡ m)
cond_some true v m h = (refl, cc)
cond_some false v m h = cc

pub cond_none : {A : Type 0} (b : Bool) (v m : A) → cond b None (Some v) ≡ Some m → (b ≡ false) × (v ≡ m)
cond_none true v m h = cc
cond_none false v m h = (refl, cc)

-- a chosen reading was chosen
pub cond_read : {A : Type 0} (b : Bool) (o : Option A) (m : A) → cond b o None ≡ Some m → (b ≡ true) × (o ≡ Some m)
cond_read true o m h = (refl, h)
cond_read false o m h = cc

-- the byte is a digit, and m is n with that digit, positive and below the limit
pub record IsDigit (limit n byte m : ℕ) : Type 0 where
  pub from : 48 ≤ byte
  pub to : byte ≤ 57
  pub value : n * 10 + (byte - 48) ≡ m
  pub positive : 0 < m
  pub below : m < limit

pub digit_taken : (limit n byte m : ℕ) → with_digit limit n byte ≡ Some m → IsDigit limit n byte m
digit_taken limit n byte m h =
    let longer : ℕ = n * 10 + (byte - 48) in
    let chosen = cond_some (is_ascii_digit byte && nat_lt 0 longer && nat_lt longer limit) longer m h in
    let outer = and_parts (is_ascii_digit byte && nat_lt 0 longer) (nat_lt longer limit) chosen.0 in
    let inner = and_parts (is_ascii_digit byte) (nat_lt 0 longer) outer.0 in
    record {
      from = grind (arith, nat_tests);
      to = grind (arith, nat_tests);
      value = chosen.1;
      positive = grind (arith, nat_tests);
      below = grind (arith, nat_tests);
    }

pub digit_read : (limit n d m : ℕ) → d < 10 → n * 10 + d ≡ m → 0 < m → m < limit → with_digit limit n (48 + d) ≡ Some m
digit_read limit n d m small e positive below = grind (arith, nat_tests)

-- a reading that goes on with each digit
abbrev pub TakesDigits : {X : Type 0} → ℕ → (ℕ → List ℕ → X) → Type 0
TakesDigits limit F = (n m byte : ℕ) (bytes : List ℕ) → with_digit limit n byte ≡ Some m → F n (byte ∷ bytes) ≡ F m bytes

-- it has read a number where it has read the number's text
pub decimal_read : {X : Type 0} (limit : ℕ) (F : ℕ → List ℕ → X) → TakesDigits limit F → (n : ℕ) → n < 2 ^ 64 → 0 < n → n < limit → (rest : List ℕ) → F 0 (decimal n ++ rest) ≡ F n rest
decimal_read limit F takes n small =
    let P : ℕ → List ℕ → Type 0 = λ n ds. 0 < n → n < limit → (rest : List ℕ) → F 0 (ds ++ rest) ≡ F n rest in
    decimal_by_steps P
    (λ n digit positive below rest. takes 0 n (48 + n) rest (digit_read limit 0 n n digit (omega arith) positive below))
    (λ n ds high before positive below rest. rw append_assoc
    (before (omega arith) (omega arith) ((48 + n % 10) ∷ rest)
    ∙ takes (n / 10) n (48 + n % 10) rest (digit_read limit (n / 10) (n % 10) n (omega arith) (omega arith) positive below)))
    n small

-- the digits of what was read: none at 0
abbrev pub digits_read : ℕ → List ℕ
digits_read n = cond (n == 0) [] (decimal n)

pub digits_read-positive : (n : ℕ) → 0 < n → digits_read n ≡ decimal n
digits_read-positive n positive = let e : (n == 0) ≡ false = grind (arith, nat_tests) in rw e refl

-- one more digit read is one more digit in the text
pub digits_read_step : (limit n byte m : ℕ) → limit ≤ 2 ^ 64 → IsDigit limit n byte m → digits_read n ++ byte ∷ [] ≡ decimal m
digits_read_step limit zero byte m top h =
    let small : m < 10 = omega arith in
    let e : 48 + m ≡ byte = omega arith in
    sym (rw decimal_digit (ap (λ b. b ∷ []) e))
digits_read_step limit (suc k) byte m top h =
    let high : 10 ≤ m = omega arith in
    let small : m < 2 ^ 64 = lt_of_lt_of_le h.below top in
    let tenth : m / 10 ≡ suc k = omega arith in
    let last : 48 + m % 10 ≡ byte = omega arith in
    ap (λ s. s ++ byte ∷ []) (digits_read-positive (suc k) (omega arith))
    ∙ sym (decimal_step m high small ∙ ap₂ (λ q b. decimal q ++ b ∷ []) tenth last)

-- the same with a text behind it
pub digits_read_more : (limit n byte m : ℕ) (bytes rest : List ℕ) → limit ≤ 2 ^ 64 → IsDigit limit n byte m → digits_read m ++ bytes ≡ rest → digits_read n ++ byte ∷ bytes ≡ rest
digits_read_more limit n byte m bytes rest top h e =
    sym (append_assoc (digits_read n) (byte ∷ []) bytes)
    ∙ ap (λ s. s ++ bytes) (digits_read_step limit n byte m top h ∙ sym (digits_read-positive m h.positive))
    ∙ e

-- a positive number was read
pub read_count_some : (n m : ℕ) → read_count n ≡ Some m → (0 < n) × (n ≡ m)
read_count_some n m h =
    let chosen : ((n == 0) ≡ false) × (n ≡ m) = cond_none (n == 0) n m h in
    (grind (arith, nat_tests), chosen.1)

pub read_count_of : (n : ℕ) → 0 < n → read_count n ≡ Some n
read_count_of n positive = let e : (n == 0) ≡ false = grind (arith, nat_tests) in rw e refl

-- reading a number goes on with each digit
pub count_takes : (limit : ℕ) → TakesDigits limit (count_from limit)
count_takes limit n m byte bytes h = rw h refl

-- the number m is below the limit, and the text is what was read of it and the rest
pub record NumberRead (limit n : ℕ) (text : List ℕ) (m : ℕ) : Type 0 where
  pub positive : 0 < m
  pub below : m < limit
  pub printed : text ≡ decimal m

pub count_from_sound : (limit n : ℕ) (text : List ℕ) (m : ℕ) → limit ≤ 2 ^ 64 → n < limit → count_from limit n text ≡ Some m → NumberRead limit n (digits_read n ++ text) m
count_from_sound limit n [] m top small h =
    let counted = read_count_some n m h in
    record {
      positive = omega arith;
      below = omega arith;
      printed = append-nil (digits_read n) ∙ digits_read-positive n counted.0 ∙ ap decimal counted.1;
    }
count_from_sound limit n (byte ∷ bytes) m top small h =
    option_and_then_some (λ k. count_from limit k bytes) (with_digit limit n byte) m h
    (λ k taken goes_on.
    let digit = digit_taken limit n byte k taken in
    let more = count_from_sound limit k bytes m top digit.below goes_on in
    record {
      positive = more.positive;
      below = more.below;
      printed = digits_read_more limit n byte k bytes (decimal m) top digit more.printed;
    })

-- a number's text is read as the number
pub count_from_decimal : (limit n : ℕ) → limit ≤ 2 ^ 64 → 0 < n → n < limit → count_from limit 0 (decimal n) ≡ Some n
count_from_decimal limit n top positive below =
    ap (count_from limit 0) (sym (append-nil (decimal n)))
    ∙ decimal_read limit (count_from limit) (count_takes limit) n (lt_of_lt_of_le below top) positive below []
    ∙ read_count_of n positive
