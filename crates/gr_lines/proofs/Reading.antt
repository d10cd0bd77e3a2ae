-- More bytes of a line, and one more part of a reply.
use Rattle.std.proofs.Common.{◌≡◌, ℕ, ◌+◌, ◌-◌, ◌≤◌, min, zero, suc, List, [], ◌∷◌, ◌++◌, length, take, drop, refl, sym, ap, subst, ◌∙◌, append_assoc, append-nil, arith, None, Some, IfSome}
use Rattle.std.proofs.Math.Seq.{take-add}
use Rattle.std.proofs.BufReadLemmas.{Consumes_shown}
use Rattle.std.proofs.KnownBytes.{Consumes-kept, Consumes-nil}
use Rattle.std.proofs.lemmas.List.{take_all, length-take}
use Rattle.std.specs.Io.{StartsWith}
use Rattle.std.specs.Io.BufRead.{DropsConsumable}
use Rattle.std.specs.declared.option.Option.{Option}
use Rattle.std.specs.Io.KnownBytes.{Consumes, Appends, Keeps}
use Rattle.gr_command.specs.declared.read.TheConstants.{LINE_LIMIT}
use Rattle.gr_lines.specs.Bytes.{Plain, Part, with_end, Comes, LineRead}
use Rattle.gr_lines.specs.declared.counted.LineEnd.{LineEnd}
use Rattle.gr_lines.specs.declared.counted.LineEnd.TheVariants.{Newline, End}
use Rattle.gr_lines.proofs.Known.{Consumes-then, Appends-then, known_end}

pub Plain-append : (xs ys : List ℕ) → Plain xs → Plain ys → Plain (xs ++ ys)
Plain-append [] ys p q = q
Plain-append (x ∷ xs) ys p q = (p.0, Plain-append xs ys p.1 q)

-- what is kept of the bytes, where only the first were kept before
pub take-of_take : (n : ℕ) (text more : List ℕ) → take n (take n text ++ more) ≡ take n (text ++ more)
take-of_take zero text more = refl
take-of_take (suc n) [] more = refl
take-of_take (suc n) (t ∷ text) more = ap (λ l. t ∷ l) (take-of_take n text more)

pub kept-more : (n : ℕ) (text more old new : List ℕ) → old ≡ take n text → new ≡ take n (old ++ more) → new ≡ take n (text ++ more)
kept-more n text more old new h k = k ∙ ap (λ l. take n (l ++ more)) h ∙ take-of_take n text more

take-within : (n : ℕ) (old bytes : List ℕ) → length old ≤ n → take n (old ++ bytes) ≡ old ++ take (n - length old) bytes
take-within n [] bytes h = let all : n ≡ n - 0 = omega arith in ap (λ k. take k bytes) all
take-within zero (x ∷ old) bytes h = absurd (omega arith)
take-within (suc n) (x ∷ old) bytes h =
    let left : n - length old ≡ suc n - suc (length old) = omega arith in
    ap (λ l. x ∷ l) (take-within n old bytes (omega arith) ∙ ap (λ k. old ++ take k bytes) left)

take-min : (n : ℕ) (bytes : List ℕ) → take (min (length bytes) n) bytes ≡ take n bytes
take-min zero bytes = let none : min (length bytes) zero ≡ zero = omega arith in ap (λ k. take k bytes) none
take-min (suc n) [] = let none : min 0 (suc n) ≡ 0 = omega arith in ap (λ k. take k []) none
take-min (suc n) (b ∷ bytes) =
    let one : min (suc (length bytes)) (suc n) ≡ suc (min (length bytes) n) = omega arith in
    ap (λ k. take k (b ∷ bytes)) one ∙ ap (λ l. b ∷ l) (take-min n bytes)

-- as many bytes are kept as there is room for
pub kept-within : (n count : ℕ) (old new bytes : List ℕ) → length old ≤ n → count ≡ min (length bytes) (n - length old) → new ≡ old ++ take count bytes
    → new ≡ take n (old ++ bytes)
kept-within n count old new bytes h is k =
    k ∙ ap (λ c. old ++ take c bytes) is ∙ ap (λ l. old ++ l) (take-min (n - length old) bytes) ∙ sym (take-within n old bytes h)

-- more bytes of a line came
pub Part-more : {a b c : Option (List ℕ)} {old new : List ℕ} → Part a b old → Comes b c old new None → Part a c new
Part-more {a = a} {b = b} {c = c} {old = old} {new = new} p k = record {
  text = p.text ++ k.text;
  plain = Plain-append p.text k.text p.plain k.plain;
  kept_is = kept-more (LINE_LIMIT + 1) p.text k.text old new p.kept_is k.kept_is;
  taken = Consumes-then a b c p.text k.text p.taken k.taken;
}

-- the bytes before a last one, and that one
before_last : (a c : Option (List ℕ)) (text : List ℕ) (x : ℕ) → Consumes a c (text ++ x ∷ []) → (mid : Option (List ℕ)) × Consumes a mid text × Consumes mid c (x ∷ [])
before_last None c text x h = (None, tt, tt)
before_last (Some xs) None text x h = absurd h
before_last (Some xs) (Some cs) text x h = (Some (x ∷ cs), h ∙ append_assoc text (x ∷ []) cs, refl)

-- the end of a line came
pub Part-ended : {a b c : Option (List ℕ)} {old new : List ℕ} (end : LineEnd) → Part a b old → Comes b c old new (Some end) → LineRead a c new end
Part-ended {a = a} {b = b} {c = c} {old = old} {new = new} Newline p k =
    let cut = before_last b c k.text 10 k.taken in (
      cut.0,
      record {
        text = p.text ++ k.text;
        plain = Plain-append p.text k.text p.plain k.plain;
        kept_is = kept-more (LINE_LIMIT + 1) p.text k.text old new p.kept_is k.kept_is;
        taken = Consumes-then a b cut.0 p.text k.text p.taken cut.1;
      },
      cut.2,
    )
Part-ended {a = a} {b = b} {c = c} {old = old} {new = new} End p k = (
  record {
    text = p.text ++ k.text;
    plain = Plain-append p.text k.text p.plain k.plain;
    kept_is = kept-more (LINE_LIMIT + 1) p.text k.text old new p.kept_is k.kept_is;
    taken = Consumes-then a b c p.text k.text p.taken k.taken;
  },
  known_end a b c p.text p.taken (k.ends refl),
)

-- no more is kept than a byte over the limit
pub kept-short : (n : ℕ) (text kept : List ℕ) → kept ≡ take n text → length kept ≤ n
kept-short n text kept e = omega (arith, length-take n text, ap length e)

pub Appends-more : (a b c : Option (List ℕ)) (i n : ℕ) (bytes : List ℕ) → Appends a b (take i bytes) → Appends b c (take n (drop i bytes)) → Appends a c (take (i + n) bytes)
Appends-more a b c i n bytes h k = rw (take-add i n bytes) (Appends-then a b c (take i bytes) (take n (drop i bytes)) h k)

-- what was shown of the bytes ahead, and consumed, is a part of a line
pub shown_comes : (a b c : Option (List ℕ)) (buffered : Option ℕ) (shown text rest old new : List ℕ) (end : Option LineEnd) (used : ℕ)
    → shown ≡ text ++ rest → Plain text → new ≡ take (LINE_LIMIT + 1) (old ++ text)
    → used ≤ length (text ++ rest) → take used (text ++ rest) ≡ with_end text end → (end ≡ Some End → length (text ++ rest) ≡ 0)
    → IfSome a (λ xs. StartsWith xs shown) → IfSome a (λ xs. length shown ≡ 0 → xs ≡ []) → Keeps a b
    → IfSome a (λ _. IfSome buffered (λ k. length shown ≤ k)) → DropsConsumable b c buffered used → Comes a c old new end
shown_comes a b c buffered shown text rest old new end used cut plain kept bound read ends front none keeps fits drops =
    let within : used ≤ length shown = rw cut bound in
    let moved = Consumes_shown a b c buffered shown used within front none keeps fits drops in
    record {
      text = text;
      plain = plain;
      kept_is = kept;
      taken = subst {_, _} (λ (l : List ℕ). Consumes a c l) (ap (take used) cut ∙ read) moved.0;
      ends = λ e. moved.1 (ap length cut ∙ ends e);
    }

-- an interrupted read gives no byte of a line
pub nothing_comes : (a b : Option (List ℕ)) (line : List ℕ) → length line ≤ LINE_LIMIT + 1 → Keeps a b → Comes a b line line None
nothing_comes a b line h k = record {
  text = [];
  plain = tt;
  kept_is = sym (take_all (LINE_LIMIT + 1) (line ++ []) (simp append-nil h) ∙ append-nil line);
  taken = Consumes-kept a a b [] (Consumes-nil a) k;
  ends = λ e. absurd (let no : None ≡ Some End = e in cc);
}
