-- String literals, byte by byte.
use Rattle.std.proofs.Common.{◌≡◌, ℕ, zero, suc, ◌<◌, ◌≤◌, ◌+◌, Bool, true, false, cond, List, [], ◌∷◌, ◌++◌, length, take, drop, get_or, refl, ap, sym, ◌∙◌, subst, arith, length-take, eqb-true, append_assoc, append-nil, add-one, drop-cons, ◌⊎◌, inl, inr}
use Rattle.std.specs.Prelude.{◌==◌, Option, Some, None, IfSome}
use Rattle.std.proofs.lemmas.Option.{same_Some}
use Rattle.std.proofs.lemmas.List.{drop_all}
use Rattle.gr_scan.specs.declared.quoted.Part.{Part}
use Rattle.gr_scan.specs.declared.quoted.Part.TheVariants.{Byte, Backslash, Close, LeftOut, Malformed}
use Rattle.gr_scan.specs.Strings.{is_plain, escaped, with_byte, body_of, text_of, is_left_out_escape, escape_part, part_of}
use Rattle.gr_scan.specs.Scanning.{end_by, end_after, text_end}
use Rattle.gr_scan.proofs.Basics.{no_value}

abbrev Value : Type 0
Value = Option (List ℕ)

-- what a body stands for, by what its first byte is
abbrev body_by : Part → (last : Bool) → Value → Value → Value
body_by (Byte b) last other escape = with_byte (Some b) other
body_by Backslash last other escape = escape
body_by Close last other escape = cond last (Some []) None
body_by LeftOut last other escape = None
body_by Malformed last other escape = None

no_byte : (t last : Bool) (other escape : Value) → None ≡ body_by (cond t LeftOut Malformed) last other escape
no_byte true last other escape = refl
no_byte false last other escape = refl

by_escape : (o : Option ℕ) (b : ℕ) (last : Bool) (other escape : Value) → with_byte o other ≡ body_by (escape_part o b) last other escape
by_escape (Some v) b last other escape = refl
by_escape None b last other escape = no_byte (is_left_out_escape b) last other escape

by_byte : (quote backslash plain newline last : Bool) (b : ℕ) (other escape : Value) → cond quote (cond last (Some []) None) (cond backslash escape (cond plain (with_byte (Some b) other) None)) ≡ body_by (cond quote Close (cond backslash Backslash (cond plain (Byte b) (cond newline Malformed LeftOut)))) last other escape
by_byte true k p n last b other escape = refl
by_byte false true p n last b other escape = refl
by_byte false false true n last b other escape = refl
by_byte false false false true last b other escape = refl
by_byte false false false false last b other escape = refl

by_part : (f : Bool) (b : ℕ) (s : List ℕ) → body_of f (b ∷ s) ≡ body_by (part_of f b) (length s == 0) (body_of false s) (body_of true s)
by_part true b s = by_escape (escaped b) b (length s == 0) (body_of false s) (body_of true s)
by_part false b s = by_byte (b == 34) (b == 92) (is_plain b) (b == 10) (length s == 0) b (body_of false s) (body_of true s)

by_this : (f : Bool) (b : ℕ) (s : List ℕ) (p : Part) → part_of f b ≡ p → body_of f (b ∷ s) ≡ body_by p (length s == 0) (body_of false s) (body_of true s)
by_this f b s p e = by_part f b s ∙ ap (λ q. body_by q (length s == 0) (body_of false s) (body_of true s)) e

quoted : (t : Bool) (r : Value) (bytes : List ℕ) → cond t r None ≡ Some bytes → r ≡ Some bytes
quoted true r bytes h = h
quoted false r bytes h = no_value h

first_quote : (t : Bool) (r : Value) (bytes : List ℕ) → cond t r None ≡ Some bytes → t ≡ true
first_quote true r bytes h = refl
first_quote false r bytes h = no_value h

-- where a literal ends, a body ends
abbrev Found : (i n : ℕ) → Bool → List ℕ → Type 0
Found i n f t = (m : ℕ) × (n ≡ i + m) × (m ≤ length t) × (bytes : List ℕ) × (body_of f (take m t) ≡ Some bytes)

found_by : (i n : ℕ) (f : Bool) (b : ℕ) (s : List ℕ) (p : Part) → part_of f b ≡ p → ((g : Bool) → end_after (i + 1) g s ≡ Some n → Found (i + 1) n g s) → end_by p (i + 1) (end_after (i + 1) false s) (end_after (i + 1) true s) ≡ Some n → Found i n f (b ∷ s)
found_by i n f b s (Byte v) e next h =
    let w = next false h in
    (suc w.0, omega (arith, w.1), omega (arith, w.2), v ∷ w.3, by_this f b (take w.0 s) (Byte v) e ∙ ap (with_byte (Some v)) w.4)
found_by i n f b s Backslash e next h =
    let w = next true h in
    (suc w.0, omega (arith, w.1), omega (arith, w.2), w.3, by_this f b (take w.0 s) Backslash e ∙ w.4)
found_by i n f b s Close e next h =
    let same : i + 1 ≡ n = same_Some _ _ h in
    (1, sym same, omega arith, [], by_this f b [] Close e)
found_by i n f b s LeftOut e next h = no_value h
found_by i n f b s Malformed e next h = no_value h

found : (i n : ℕ) (f : Bool) (t : List ℕ) → end_after i f t ≡ Some n → Found i n f t
found i n f [] h = no_value h
found i n f (b ∷ s) h = found_by i n f b s (part_of f b) refl (λ g. found (i + 1) n g s) h

-- where a body ends, a literal ends
with_more : (v : ℕ) (r : Value) (bytes : List ℕ) → with_byte (Some v) r ≡ Some bytes → (more : List ℕ) × (r ≡ Some more)
with_more v None bytes e = no_value e
with_more v (Some more) bytes e = (more, refl)

last_only : (t : Bool) (bytes : List ℕ) → cond t (Some []) None ≡ Some bytes → t ≡ true
last_only true bytes e = refl
last_only false bytes e = no_value e

ends_by : (i k : ℕ) (s : List ℕ) (bytes : List ℕ) (p : Part) → k ≤ length s → ((g : Bool) (more : List ℕ) → body_of g (take k s) ≡ Some more → end_after (i + 1) g s ≡ Some (i + 1 + k)) → body_by p (length (take k s) == 0) (body_of false (take k s)) (body_of true (take k s)) ≡ Some bytes → end_by p (i + 1) (end_after (i + 1) false s) (end_after (i + 1) true s) ≡ Some (i + 1 + k)
ends_by i k s bytes (Byte v) le next h = let w = with_more v (body_of false (take k s)) bytes h in next false w.0 w.1
ends_by i k s bytes Backslash le next h = next true bytes h
ends_by i k s bytes Close le next h =
    let none = eqb-true (length (take k s)) 0 (last_only (length (take k s) == 0) bytes h) in
    let same : i + 1 ≡ i + 1 + k = omega (arith, length-take k s) in
    ap Some same
ends_by i k s bytes LeftOut le next h = no_value h
ends_by i k s bytes Malformed le next h = no_value h

ends : (i m : ℕ) (f : Bool) (t bytes : List ℕ) → m ≤ length t → body_of f (take m t) ≡ Some bytes → end_after i f t ≡ Some (i + m)
ends i zero f [] bytes le h = no_value h
ends i zero f (b ∷ s) bytes le h = no_value h
ends i (suc k) f [] bytes le h = absurd (omega arith)
ends i (suc k) f (b ∷ s) bytes le h =
    let same : i + 1 + k ≡ i + suc k = omega arith in
    ends_by i k s bytes (part_of f b) (omega arith) (λ g more. ends (i + 1) k g s more (omega arith)) (sym (by_part f b (take k s)) ∙ h) ∙ ap Some same

pub text_found : (text : List ℕ) (n : ℕ) → get_or text 0 0 ≡ 34 → text_end text ≡ Some n → (n ≤ length text) × (bytes : List ℕ) × (text_of (take n text) ≡ Some bytes)
text_found [] n q e = absurd (omega arith)
text_found (b ∷ s) n q e =
    let w = found 1 n false s e in
    let same : suc w.0 ≡ n = omega (arith, w.1) in
    (omega (arith, w.2), w.3, subst (λ k. text_of (take k (b ∷ s)) ≡ Some w.3) same (rw q w.4))

pub text_ends : (text : List ℕ) (m : ℕ) (bytes : List ℕ) → m ≤ length text → text_of (take m text) ≡ Some bytes → text_end text ≡ Some m
text_ends [] zero bytes le h = no_value h
text_ends (b ∷ s) zero bytes le h = no_value h
text_ends [] (suc k) bytes le h = absurd (omega arith)
text_ends (b ∷ s) (suc k) bytes le h =
    let same : 1 + k ≡ suc k = omega arith in
    ends 1 k false s bytes (omega arith) (quoted (b == 34) (body_of false (take k s)) bytes h) ∙ ap Some same

pub text_front : (s bytes : List ℕ) → text_of s ≡ Some bytes → (0 < length s) × (get_or s 0 0 ≡ 34)
text_front [] bytes h = no_value h
text_front (b ∷ s) bytes h = (omega arith, eqb-true b 34 (first_quote (b == 34) (body_of false s) bytes h))

-- what is read after bytes that were read
abbrev pub after_bytes : List ℕ → Value → Value
after_bytes done None = None
after_bytes done (Some rest) = Some (done ++ rest)

more_bytes : (done : List ℕ) (b : ℕ) (r : Value) → after_bytes (done ++ (b ∷ [])) r ≡ after_bytes done (with_byte (Some b) r)
more_bytes done b None = refl
more_bytes done b (Some rest) = ap Some (append_assoc done (b ∷ []) rest)

by_quote : (quote ended : Bool) (r : Value) (done : List ℕ) → after_bytes done (cond ended (Some []) None) ≡ r → IfSome (cond quote r None) (λ bytes. done ≡ bytes)
by_quote false ended r done e = tt
by_quote true true r done e = subst (λ v. IfSome v (λ bytes. done ≡ bytes)) e (sym (append-nil done))
by_quote true false r done e = subst (λ v. IfSome v (λ bytes. done ≡ bytes)) e tt

-- where a body ends: the bytes that were read are all of its bytes, or it stands for none
ended : (last : Bool) (text done : List ℕ) → after_bytes done (cond last (Some []) None) ≡ body_of false (drop 1 text) → IfSome (text_of text) (λ bytes. done ≡ bytes)
ended last [] done e = tt
ended last (b ∷ s) done e = by_quote (b == 34) last (body_of false s) done e

-- one turn of the loop over the bytes of a literal
module _ (text done : List ℕ) (i : ℕ) (f : Bool) (so_far : after_bytes done (body_of f (drop i text)) ≡ body_of false (drop 1 text)) where
  pub all_read : length text ≤ i → IfSome (text_of text) (λ bytes. done ≡ bytes)
  all_read le = ended false text done (sym (ap (λ s. after_bytes done (body_of f s)) (drop_all i text le)) ∙ so_far)

  module _ (lt : i < length text) where
    abbrev rest : List ℕ
    rest = drop (i + 1) text

    turn : (p : Part) → p ≡ part_of f (get_or text i 0) → after_bytes done (body_by p (length rest == 0) (body_of false rest) (body_of true rest)) ≡ body_of false (drop 1 text)
    turn p is =
        let front : drop i text ≡ get_or text i 0 ∷ rest = rw (add-one, drop-cons text i 0) in
        sym (ap (λ s. after_bytes done (body_of f s)) front ∙ ap (after_bytes done) (by_this f (get_or text i 0) rest p (sym is))) ∙ so_far

    pub byte_on : (b : ℕ) (new : List ℕ) → Byte b ≡ part_of f (get_or text i 0) → new ≡ done ++ (b ∷ []) → after_bytes new (body_of false rest) ≡ body_of false (drop 1 text)
    byte_on b new is pushed = ap (λ d. after_bytes d (body_of false rest)) pushed ∙ more_bytes done b (body_of false rest) ∙ turn (Byte b) is

    pub escape_on : Backslash ≡ part_of f (get_or text i 0) → after_bytes done (body_of true rest) ≡ body_of false (drop 1 text)
    escape_on is = turn Backslash is

    pub quote_ends : (p : Part) → p ≡ part_of f (get_or text i 0) → (p ≡ Close) ⊎ ((p ≡ LeftOut) ⊎ (p ≡ Malformed)) → IfSome (text_of text) (λ bytes. done ≡ bytes)
    quote_ends p is (inl h) = ended (length rest == 0) text done (turn Close (sym h ∙ is))
    quote_ends p is (inr (inl h)) = ended false text done (turn LeftOut (sym h ∙ is))
    quote_ends p is (inr (inr h)) = ended false text done (turn Malformed (sym h ∙ is))
