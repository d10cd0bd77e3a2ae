-- What was printed is read back, and no other text is read.
use Rattle.std.proofs.Common.{◌≡◌, ℕ, ◌^◌, ◌<◌, ◌==◌, Bool, true, false, List, [], ◌∷◌, ◌++◌, drop, Option, Some, None, codes, decimal, flat_map, nat_eq, option_map, option_and_then, refl, sym, ◌∙◌, ap, ap₂, arith, inl, inr, eqb-true, append_assoc, lt_of_lt_of_le, lit≤, lit<}
use Rattle.std.proofs.lemmas.Bool.{cases_Bool}
use Rattle.std.proofs.lemmas.Bool.Decides.{nat_tests, Decides-eqb}
use Rattle.std.proofs.lemmas.Slice.Eq.{starts_is}
use Rattle.std.proofs.lemmas.List.Elements.{All-cons, All-head, All-tail, All-nil}
use Rattle.std.proofs.lemmas.Option.{option_and_then_some}
use Rattle.gr_base.specs.Counts.{IsCount, IsGoName}
use Rattle.std.specs.List.{before_first, after_first, starts_with}
use Rattle.gr_base.specs.declared.names.ChName.{ChName}
use Rattle.gr_base.specs.declared.names.StepId.{StepId}
use Rattle.gr_base.specs.Names.{with_digit, read_count, count_from, counts_from, counts_after, go_named, go_text, ch_count, ch_named, ch_text, IsChName, step_named, step_text, IsStepId, Reads}
use Rattle.gr_base.proofs.Marks.{Lacks-go_text, before_mark, after_mark, parts_of}
use Rattle.gr_base.proofs.Digits.{count_from_sound, count_from_decimal, TakesDigits, digit_taken, decimal_read, digits_read, digits_read-positive, digits_read_more, read_count_some, read_count_of, cond_read}

-- where a map gives a value
pub option_map_some : {A B P : Type 0} (f : A → B) (o : Option A) (y : B) → option_map f o ≡ Some y → ((x : A) → o ≡ Some x → f x ≡ y → P) → P
option_map_some f None y h k = cc
option_map_some f (Some x) y h k = k x refl cc

-- counts, each behind a dot
abbrev pub dotted : List ℕ → List ℕ
dotted counts = flat_map (λ count. codes "." ++ decimal count) counts

-- reading counts goes on with each digit
pub counts_take : TakesDigits (2 ^ 32) counts_from
counts_take n m byte bytes h =
    let digit = digit_taken (2 ^ 32) n byte m h in
    let no_dot : (byte == 46) ≡ false = grind (arith, nat_tests, digit.from) in
    rw (no_dot, h) refl

-- at the end, or at a dot, what was read is a count
pub counts_from_end : (n : ℕ) → 0 < n → counts_from n [] ≡ Some (n ∷ [])
counts_from_end n positive = rw (read_count_of n positive) refl

pub counts_from_dot : (n : ℕ) (bytes counts : List ℕ) → 0 < n → counts_from 0 bytes ≡ Some counts → counts_from n (46 ∷ bytes) ≡ Some (n ∷ counts)
counts_from_dot n bytes counts positive h = rw (read_count_of n positive, h) refl

-- the text of counts is read as the counts
pub counts_complete : (count : ℕ) (counts : List ℕ) → IsCount count → IsGoName counts → counts_from 0 (decimal count ++ dotted counts) ≡ Some (count ∷ counts)
counts_complete count [] valid others =
    decimal_read (2 ^ 32) counts_from counts_take count (lt_of_lt_of_le valid.1 (lit≤ tt)) valid.0 valid.1 []
    ∙ counts_from_end count valid.0
counts_complete count (next ∷ counts) valid others =
    decimal_read (2 ^ 32) counts_from counts_take count (lt_of_lt_of_le valid.1 (lit≤ tt)) valid.0 valid.1 (dotted (next ∷ counts))
    ∙ counts_from_dot count (decimal next ++ dotted counts) (next ∷ counts) valid.0
    (counts_complete next counts (All-head IsCount next counts others) (All-tail IsCount next counts others))

-- counts with a dot between two of them were read from the text
pub record CountsRead (text go : List ℕ) : Type 0 where
  pub first : ℕ
  pub rest : List ℕ
  pub is : go ≡ first ∷ rest
  pub first_valid : IsCount first
  pub rest_valid : IsGoName rest
  pub printed : text ≡ decimal first ++ dotted rest

pub counts_sound : (n : ℕ) (text go : List ℕ) → n < 2 ^ 32 → counts_from n text ≡ Some go → CountsRead (digits_read n ++ text) go
counts_sound n [] go small h =
    option_map_some (λ count. count ∷ []) (read_count n) go h
    (λ m counted e.
    let facts = read_count_some n m counted in
    record {
      first = n;
      rest = [];
      is = sym e ∙ ap (λ k. k ∷ []) (sym facts.1);
      first_valid = (facts.0, small);
      rest_valid = All-nil IsCount;
      printed = ap (λ s. s ++ []) (digits_read-positive n facts.0);
    })
counts_sound n (byte ∷ bytes) go small h =
    elim (cases_Bool (byte == 46)) [
      | inl dot ↦ at_dot n byte bytes go small dot (counts_sound 0 bytes) (rw dot at h)
      | inr other ↦
          option_and_then_some (λ k. counts_from k bytes) (with_digit (2 ^ 32) n byte) go (rw other at h)
          (λ k taken goes_on.
          let digit = digit_taken (2 ^ 32) n byte k taken in
          let more = counts_sound k bytes go digit.below goes_on in
          record {
            first = more.first;
            rest = more.rest;
            is = more.is;
            first_valid = more.first_valid;
            rest_valid = more.rest_valid;
            printed = digits_read_more (2 ^ 32) n byte k bytes (decimal more.first ++ dotted more.rest) (lit≤ tt) digit more.printed;
          })
    ]
  where
    at_dot : (n byte : ℕ) (bytes go : List ℕ) → n < 2 ^ 32 → (byte == 46) ≡ true
        → ((others : List ℕ) → 0 < 2 ^ 32 → counts_from 0 bytes ≡ Some others → CountsRead bytes others)
        → option_and_then (λ count. option_map (λ counts. count ∷ counts) (counts_from 0 bytes)) (read_count n) ≡ Some go
        → CountsRead (digits_read n ++ byte ∷ bytes) go
    at_dot n byte bytes go small dot sound h =
        option_and_then_some (λ count. option_map (λ counts. count ∷ counts) (counts_from 0 bytes)) (read_count n) go h
        (λ m counted mapped. option_map_some (λ counts. m ∷ counts) (counts_from 0 bytes) go mapped
        (λ others read e.
        let facts = read_count_some n m counted in
        let more = sound others (lit< tt) read in
        record {
          first = n;
          rest = others;
          is = sym e ∙ ap (λ k. k ∷ others) (sym facts.1);
          first_valid = (facts.0, small);
          rest_valid = rw more.is (All-cons IsCount more.first more.rest more.first_valid more.rest_valid);
          printed = ap₂ (λ s b. s ++ b ∷ bytes) (digits_read-positive n facts.0) (eqb-true byte 46 dot)
              ∙ ap (λ s. decimal n ++ 46 ∷ s) more.printed ∙ ap (λ s. decimal n ++ dotted s) (sym more.is);
        }))

-- a goroutine's text is read as the goroutine
pub go_complete : (go : List ℕ) → IsGoName go → go_named (go_text go) ≡ Some go
go_complete [] valid = refl
go_complete (count ∷ counts) valid =
    counts_complete count counts (All-head IsCount count counts valid) (All-tail IsCount count counts valid)

-- what stands after `g0`
pub after_sound : (text go : List ℕ) → counts_after text ≡ Some go → (text ≡ dotted go) × IsGoName go
after_sound [] go h = let e : [] ≡ go = cc in rw (← e) (refl, All-nil IsCount)
after_sound (byte ∷ bytes) go h =
    elim (cases_Bool (byte == 46)) [
      | inl dot ↦
          let more = counts_sound 0 bytes go (lit< tt) (rw dot at h) in (
            ap₂ (λ b s. b ∷ s) (eqb-true byte 46 dot) more.printed ∙ ap dotted (sym more.is),
            rw more.is (All-cons IsCount more.first more.rest more.first_valid more.rest_valid),
          )
      | inr other ↦ let none : None ≡ Some go = rw other at h in cc
    ]

-- a text that is read as a goroutine is the goroutine's text
pub go_sound : (text go : List ℕ) → go_named text ≡ Some go → (text ≡ go_text go) × IsGoName go
go_sound text go h =
    let begins : Bool = starts_with nat_eq text (codes "g0") in
    let chosen = cond_read begins (counts_after (drop 2 text)) go h in
    let front = (starts_is Decides-eqb text (codes "g0") begins refl).0 chosen.0 in
    let back = after_sound (drop 2 text) go chosen.1 in
    (front ∙ ap (λ s. codes "g0" ++ s) back.0, back.1)

pub go_reads : Reads go_named go_text IsGoName
go_reads text go = (go_sound text go, λ h. rw h.0 (go_complete go h.1))

-- the count of a channel
ch_count_sound : (text : List ℕ) (n : ℕ) → ch_count text ≡ Some n → (text ≡ 99 ∷ decimal n) × IsCount n
ch_count_sound [] n h = cc
ch_count_sound (byte ∷ bytes) n h =
    let chosen = cond_read (byte == 99) (count_from (2 ^ 32) 0 bytes) n h in
    let more = count_from_sound (2 ^ 32) 0 bytes n (lit≤ tt) (lit< tt) chosen.1 in
    (ap₂ (λ b s. b ∷ s) (eqb-true byte 99 chosen.0) more.printed, (more.positive, more.below))

-- a text that is read as a channel is the channel's text
ch_sound : (text : List ℕ) (name : ChName) → ch_named text ≡ Some name → (text ≡ ch_text name) × IsChName name
ch_sound text name h =
    let before : List ℕ = before_first (λ b. b == 47) text in
    let after : List ℕ = after_first (λ b. b == 47) text in
    option_and_then_some (λ go. option_map (λ n. record { go = go; n = n }) (ch_count after)) (go_named before) name h
    (λ go named mapped. option_map_some (λ n. record { go = go; n = n }) (ch_count after) name mapped
    (λ n counted e.
    let count = ch_count_sound after n counted in
    let maker = go_sound before go named in
    let parts = parts_of 47 text (λ none. let wrong : [] ≡ 99 ∷ decimal n = sym none ∙ count.0 in cc) in
    rw (← e) (
      parts ∙ ap₂ (λ a b. a ++ 47 ∷ b) maker.0 count.0 ∙ sym (append_assoc (go_text go) (codes "/c") (decimal n)),
      (maker.1, count.1),
    )))

-- a channel's text is read as the channel
ch_complete : (name : ChName) → IsChName name → ch_named (ch_text name) ≡ Some name
ch_complete name valid =
    let go : List ℕ = go_text name.go in
    let digits : List ℕ = 99 ∷ decimal name.n in
    let none = Lacks-go_text 47 name.go (lit< tt) refl valid.0 in
    let read : List ℕ → List ℕ → Option ChName =
    λ a b. option_and_then (λ go. option_map (λ n. record { go = go; n = n }) (ch_count b)) (go_named a) in
    let count : count_from (2 ^ 32) 0 (decimal name.n) ≡ Some name.n =
    count_from_decimal (2 ^ 32) name.n (lit≤ tt) valid.1.0 valid.1.1 in
    ap ch_named (append_assoc go (codes "/c") (decimal name.n))
    ∙ ap₂ read (before_mark 47 go digits none) (after_mark 47 go digits none)
    ∙ rw (go_complete name.go valid.0, count) refl

pub ch_reads : Reads ch_named ch_text IsChName
ch_reads text name = (ch_sound text name, λ h. rw h.0 (ch_complete name h.1))

-- a text that is read as a step is the step's text
step_sound : (text : List ℕ) (step : StepId) → step_named text ≡ Some step → (text ≡ step_text step) × IsStepId step
step_sound text step h =
    let before : List ℕ = before_first (λ b. b == 35) text in
    let after : List ℕ = after_first (λ b. b == 35) text in
    option_and_then_some (λ go. option_map (λ n. record { go = go; n = n }) (count_from (2 ^ 64) 0 after)) (go_named before) step h
    (λ go named mapped. option_map_some (λ n. record { go = go; n = n }) (count_from (2 ^ 64) 0 after) step mapped
    (λ n counted e.
    let ordinal = count_from_sound (2 ^ 64) 0 after n (lit≤ tt) (lit< tt) counted in
    let taker = go_sound before go named in
    let parts = parts_of 35 text (λ none. let wrong : count_from (2 ^ 64) 0 [] ≡ Some n = rw none at counted in cc) in
    rw (← e) (
      parts ∙ ap₂ (λ a b. a ++ 35 ∷ b) taker.0 ordinal.printed ∙ sym (append_assoc (go_text go) (codes "#") (decimal n)),
      (taker.1, ordinal.positive, ordinal.below),
    )))

-- a step's text is read as the step
step_complete : (step : StepId) → IsStepId step → step_named (step_text step) ≡ Some step
step_complete step valid =
    let go : List ℕ = go_text step.go in
    let digits : List ℕ = decimal step.n in
    let none = Lacks-go_text 35 step.go (lit< tt) refl valid.0 in
    let read : List ℕ → List ℕ → Option StepId =
    λ a b. option_and_then (λ go. option_map (λ n. record { go = go; n = n }) (count_from (2 ^ 64) 0 b)) (go_named a) in
    let ordinal : count_from (2 ^ 64) 0 digits ≡ Some step.n =
    count_from_decimal (2 ^ 64) step.n (lit≤ tt) valid.1 valid.2 in
    ap step_named (append_assoc go (codes "#") digits)
    ∙ ap₂ read (before_mark 35 go digits none) (after_mark 35 go digits none)
    ∙ rw (go_complete step.go valid.0, ordinal) refl

pub step_reads : Reads step_named step_text IsStepId
step_reads text step = (step_sound text step, λ h. rw h.0 (step_complete step h.1))
