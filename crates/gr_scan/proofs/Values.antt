-- What digits are worth.
use Rattle.std.proofs.Common.{◌≡◌, ℕ, ◌<◌, ◌≤◌, ◌+◌, ◌*◌, Bool, true, false, cond, List, [], ◌∷◌, length, drop, get_or, ap, sym, ◌∙◌, arith}
use Rattle.std.specs.Prelude.{◌==◌, ◌&&◌, ◌||◌, Option, Some, None, IfNone}
use Rattle.std.proofs.Math.Nat.{le-mul_of_pos_right, mul_comm}
use Rattle.gr_scan.specs.Numbers.{is_digit_of, are_digits, digit_value, with_digit, value_after}
use Rattle.gr_scan.specs.Scanning.{is_part}
use Rattle.gr_scan.proofs.Bytes.{next_byte, front_byte}

times_more : (base n u : ℕ) → 0 < base → n ≤ base * n + u
times_more base n u pos = omega (arith, le-mul_of_pos_right {m = base} n pos, mul_comm base n)

chosen : (t : Bool) (n m : ℕ) → n ≤ m → n ≤ cond t n m
chosen true n m le = omega arith
chosen false n m le = le

grows_once : (base n b : ℕ) → 0 < base → n ≤ with_digit base n b
grows_once base n b pos = chosen (b == 95) n (base * n + digit_value b) (times_more base n (digit_value b) pos)

grows : (base n : ℕ) (s : List ℕ) → 0 < base → n ≤ value_after base n s
grows base n [] pos = omega arith
grows base n (b ∷ s) pos = omega (arith, grows_once base n b pos, grows base (with_digit base n b) s pos)

-- one digit more of those that are left
one_more : (base v i : ℕ) (s : List ℕ) → i < length s → value_after base v (drop i s) ≡ value_after base (with_digit base v (get_or s i 0)) (drop (i + 1) s)
one_more base v i s lt = ap (value_after base v) (next_byte s i lt)

-- a value that passes the limit with the next digit passes it in the end
pub beyond : (limit base v i : ℕ) (s : List ℕ) → 0 < base → limit < with_digit base v (get_or s i 0) → i < length s → value_after base v (drop i s) ≡ value_after base 0 s → limit < value_after base 0 s
beyond limit base v i s pos past lt so =
    omega (arith, past, grows base (with_digit base v (get_or s i 0)) (drop (i + 1) s) pos, sym (one_more base v i s lt) ∙ so)

pub none_says : {A P : Type 0} (o : Option A) → P → IfNone o P
none_says None h = h
none_says (Some x) h = tt

-- whether the bytes that are left are digits
one_part : (base i : ℕ) (s : List ℕ) → i < length s → are_digits base (drop i s) ≡ (is_part base s i && are_digits base (drop (i + 1) s))
one_part base i s lt =
    ap (are_digits base) (next_byte s i lt)
    ∙ ap (λ b. (is_digit_of base (get_or s i 0) || (get_or s i 0 == 95 && is_digit_of base b)) && are_digits base (drop (i + 1) s)) (front_byte s (i + 1))

pub ends_digits : (base i : ℕ) (s : List ℕ) → i < length s → is_part base s i ≡ false → are_digits base (drop i s) ≡ are_digits base s → false ≡ are_digits base s
ends_digits base i s lt e so = sym (one_part base i s lt ∙ ap (λ t. t && are_digits base (drop (i + 1) s)) e) ∙ so

pub goes_on_digits : (base i : ℕ) (s : List ℕ) → i < length s → is_part base s i ≡ true → are_digits base (drop i s) ≡ are_digits base s → are_digits base (drop (i + 1) s) ≡ are_digits base s
goes_on_digits base i s lt e so = sym (one_part base i s lt ∙ ap (λ t. t && are_digits base (drop (i + 1) s)) e) ∙ so
