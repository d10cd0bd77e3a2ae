-- What a piece may begin with.
use Rattle.std.proofs.Common.{◌≡◌, ℕ, ◌<◌, Bool, true, false, cond, List, [], ◌∷◌, length, get_or, refl, ap, sym, subst, arith, ⊎_elim, eqb-true, true≢false}
use Rattle.std.specs.Prelude.{◌&&◌, ◌||◌, ◌==◌, not, nat_le, Some}
use Rattle.std.specs.List.{list_all}
use Rattle.std.proofs.lemmas.Bool.Decides.{nat_tests}
use Rattle.std.proofs.lemmas.Bool.{and_parts, or_cases}
use Rattle.gr_scan.specs.declared.token.Mark.{Mark}
use Rattle.gr_scan.specs.declared.token.Mark.TheVariants as marks
use Rattle.gr_scan.specs.declared.piece.Piece.{Piece}
use Rattle.gr_scan.specs.declared.piece.Piece.TheVariants as pieces
use Rattle.gr_scan.specs.declared.piece.Class.{Class}
use Rattle.gr_scan.specs.declared.piece.Class.TheVariants.{Letter, Digit, Space, Newline, Quote, Slash, Point, Other}
use Rattle.gr_scan.specs.Marks.{operators, mark_in}
use Rattle.gr_scan.specs.Pieces.{is_digit, is_letter, is_space, Spells}
use Rattle.gr_scan.specs.Scanning.{class_of}
use Rattle.gr_scan.proofs.Tables.{found}
use Rattle.gr_scan.proofs.Literals.{text_front}

-- what a class says of its bytes
abbrev pub Holds : Class → ℕ → Type 0
Holds Letter b = is_letter b ≡ true
Holds Digit b = is_digit b ≡ true
Holds Space b = is_space b ≡ true
Holds Newline b = b ≡ 10
Holds Quote b = b ≡ 34
Holds Slash b = b ≡ 47
Holds Point b = b ≡ 46
Holds Other b = Unit {0}

chosen : (t : Bool) (c d : Class) (b : ℕ) → (t ≡ true → Holds c b) → Holds d b → Holds (cond t c d) b
chosen true c d b f g = f refl
chosen false c d b f g = g

last_classes : (b : ℕ) → Holds (cond (b == 34) Quote (cond (b == 47) Slash (cond (b == 46) Point Other))) b
last_classes b =
    chosen (b == 34) Quote (cond (b == 47) Slash (cond (b == 46) Point Other)) b (λ e. eqb-true b 34 e)
    (chosen (b == 47) Slash (cond (b == 46) Point Other) b (λ e. eqb-true b 47 e)
    (chosen (b == 46) Point Other b (λ e. eqb-true b 46 e) tt))

abbrev late_class : ℕ → Class
late_class b = cond (b == 10) Newline (cond (b == 34) Quote (cond (b == 47) Slash (cond (b == 46) Point Other)))

holds : (b : ℕ) → Holds (class_of b) b
holds b =
    chosen (is_letter b) Letter (cond (is_digit b) Digit (cond (is_space b) Space (late_class b))) b (λ e. e)
    (chosen (is_digit b) Digit (cond (is_space b) Space (late_class b)) b (λ e. e)
    (chosen (is_space b) Space (late_class b) b (λ e. e)
    (chosen (b == 10) Newline (cond (b == 34) Quote (cond (b == 47) Slash (cond (b == 46) Point Other))) b (λ e. eqb-true b 10 e)
    (last_classes b))))

pub holds_at : (b : ℕ) (c : Class) → class_of b ≡ c → Holds c b
holds_at b c e = subst (λ k. Holds k b) e (holds b)

-- which class the first byte of a piece is of
abbrev pub may : Piece → Class → Bool
may pieces.Space Space = true
may pieces.Newline Newline = true
may pieces.Comment Slash = true
may pieces.Word Letter = true
may pieces.Number Digit = true
may (pieces.Operator mark) Slash = true
may (pieces.Operator mark) Point = true
may (pieces.Operator mark) Other = true
may pieces.Fraction Digit = true
may pieces.Fraction Point = true
may pieces.Text Quote = true
may pieces.GeneralComment Slash = true
may pieces.OpenComment Slash = true
may _ _ = false

pub digit_class : (b : ℕ) → is_digit b ≡ true → class_of b ≡ Digit
digit_class b e = let other : is_letter b ≡ false = grind (arith, nat_tests) in rw (other, e) refl

-- one of three bytes
of_three : (Z : ℕ → Type 0) (x y z b : ℕ) → (b == x || b == y || b == z) ≡ true → Z x → Z y → Z z → Z b
of_three Z x y z b e f g h = ⊎_elim
    (λ v. ⊎_elim
    (λ w. subst Z (sym (eqb-true b x w)) f)
    (λ w. subst Z (sym (eqb-true b y w)) g)
    (or_cases (b == x) (b == y) v))
    (λ w. subst Z (sym (eqb-true b z w)) h)
    (or_cases (b == x || b == y) (b == z) e)

pub space_class : (b : ℕ) → is_space b ≡ true → class_of b ≡ Space
space_class b e = of_three (λ n. class_of n ≡ Space) 32 9 13 b e refl refl refl

-- what holds of the spelling of every operator
abbrev starts_so : List ℕ → Bool
starts_so s = not (length s == 0) && may (pieces.Operator marks.Plus) (class_of (get_or s 0 0))

abbrev pub follows_so : List ℕ → Bool
follows_so s =
    (not (get_or s 0 0 == 47) || (nat_le (length s) 2 && not (get_or s 1 0 == 47) && not (get_or s 1 0 == 42)))
    && (not (get_or s 0 0 == 46) || not (is_digit (get_or s 1 0)))

not_empty : (s : List ℕ) → not (length s == 0) ≡ true → 0 < length s
not_empty [] e = absurd (true≢false (sym e))
not_empty (x ∷ xs) e = omega arith

starts_all : list_all (λ entry. starts_so entry.0) operators ≡ true
unfolding operators
starts_all = refl

follows_all : list_all (λ entry. follows_so entry.0) operators ≡ true
unfolding operators
follows_all = refl

pub operator_start : (m : Mark) (s : List ℕ) → mark_in operators s ≡ Some m → (0 < length s) × (may (pieces.Operator m) (class_of (get_or s 0 0)) ≡ true)
operator_start m s e =
    let w = and_parts (not (length s == 0)) (may (pieces.Operator m) (class_of (get_or s 0 0))) (found starts_so operators s m starts_all e) in
    (not_empty s w.0, w.1)

pub operator_follows : (m : Mark) (s : List ℕ) → mark_in operators s ≡ Some m → follows_so s ≡ true
operator_follows m s e = found follows_so operators s m follows_all e

pub spells_length : (p : Piece) (s : List ℕ) → Spells p s → 0 < length s
spells_length pieces.Space s sp = omega (arith, sp.0)
spells_length pieces.Newline s sp = omega (arith, ap length sp)
spells_length pieces.Comment s sp = omega (arith, sp.0)
spells_length pieces.Word s sp = sp.0
spells_length pieces.Number s sp = sp.0
spells_length (pieces.Operator k) s sp = (operator_start k s sp).0
spells_length pieces.Fraction s sp = ⊎_elim (λ w. omega (arith, w.0)) (λ w. omega (arith, w.0)) sp
spells_length pieces.Text s sp = (text_front s sp.0 sp.1).0
spells_length pieces.GeneralComment s sp = omega (arith, sp.0)
spells_length pieces.OpenComment s sp = omega (arith, ap length sp)

pub may_begin : (p : Piece) (s : List ℕ) → Spells p s → may p (class_of (get_or s 0 0)) ≡ true
may_begin pieces.Space s sp = rw (space_class (get_or s 0 0) sp.1) refl
may_begin pieces.Newline s sp = rw sp refl
may_begin pieces.Comment s sp = rw sp.1 refl
may_begin pieces.Word s sp = rw sp.1 refl
may_begin pieces.Number s sp = rw (digit_class (get_or s 0 0) sp.1) refl
may_begin (pieces.Operator k) s sp = (operator_start k s sp).1
may_begin pieces.Fraction s sp = ⊎_elim (λ w. rw (digit_class (get_or s 0 0) w.1) refl) (λ w. rw w.1 refl) sp
may_begin pieces.Text s sp = rw (text_front s sp.0 sp.1).1 refl
may_begin pieces.GeneralComment s sp = rw sp.1 refl
may_begin pieces.OpenComment s sp = rw sp refl
