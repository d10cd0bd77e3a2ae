-- A key tells what matters of a state; and what a listing by names has. The crates above use these lemmas too.
use Rattle.std.proofs.Common.{◌≡◌, ◌⊎◌, ℕ, nat_eq, Bool, true, false, List, [], ◌∷◌, ◌++◌, map, Option, Some, None, option_map, if◌then◌else◌, refl, sym, ◌∙◌, ap, inl, inr}
use Rattle.std.proofs.lemmas.Bool.{cases_Bool}
use Rattle.gr_base.specs.declared.names.ChName.{ChName}
use Rattle.gr_base.specs.declared.kinds.Fault.TheVariants.{DivideByZero, NegativeShift, SendOnClosed, CloseOfClosed, CloseOfNil, BadSize, CallDepth, NameDepth, NameCount}
use Rattle.gr_causal.specs.Sequences.{In}
use Rattle.gr_channels.specs.Channels.{Content}
use Rattle.gr_program.specs.Programs.{Program}
use Rattle.gr_rules.specs.Operators.{same_channel}
use Rattle.gr_rules.specs.States.{Run, live, ended, faulted, same_go}
use Rattle.gr_code.specs.Goroutines.{CodeGoroutine}
use Rattle.gr_refine.specs.Contents.{Contents}
use Rattle.gr_record.specs.Listings.{state_in}
use Rattle.gr_keys.specs.Codes.{IsCodeOf, option_code, list_code}
use Rattle.gr_keys.specs.ValueCodes.{name_code, channel_name_code}
use Rattle.gr_keys.specs.GoroutineCodes.{goroutine_code, bare_goroutine, channel_code, bare_channel}
use Rattle.gr_keys.proofs.CodeLemmas.{heads, pairs_told, options_told, lists_told}
use Rattle.gr_keys.proofs.ValueLemmas.{names, channel_names}
use Rattle.gr_keys.proofs.GoroutineLemmas.{goroutines, channels}
use Rattle.gr_laws.proofs.CellLemmas.{go_is, go_self, channel_is, channel_self}
use Rattle.gr_schedules.specs.Matters.{Matter, matter}
use Rattle.gr_schedules.proofs.BareLemmas.{bare_contents, matter_is_bare}
use Rattle.gr_schedules.specs.Keys.{run_number, found, Listing, contents_listed, goroutine_entry_code, channel_entry_code, listing_code, entries, IsKey}

-- the run with this number
abbrev run_by : ℕ → Run
run_by n =
    if nat_eq n 0 then live else (if nat_eq n 1 then ended else (if nat_eq n 2 then faulted DivideByZero else (if nat_eq n 3 then faulted NegativeShift else (
    if nat_eq n 4 then faulted SendOnClosed else (if nat_eq n 5 then faulted CloseOfClosed else (if nat_eq n 6 then faulted CloseOfNil else (
    if nat_eq n 7 then faulted BadSize else (if nat_eq n 8 then faulted CallDepth else (if nat_eq n 9 then faulted NameDepth else faulted NameCount)))))))))

run_told : (r : Run) → run_by (run_number r) ≡ r
run_told live = refl
run_told ended = refl
run_told (faulted DivideByZero) = refl
run_told (faulted NegativeShift) = refl
run_told (faulted SendOnClosed) = refl
run_told (faulted CloseOfClosed) = refl
run_told (faulted CloseOfNil) = refl
run_told (faulted BadSize) = refl
run_told (faulted CallDepth) = refl
run_told (faulted NameDepth) = refl
run_told (faulted NameCount) = refl

-- what the code of an entry tells
abbrev entry_told : {K X : Type 0} → (X → X) → K × Option X → K × Option X
entry_told view e = (e.0, option_map view e.1)

goroutine_entries : IsCodeOf (entry_told bare_goroutine) goroutine_entry_code
goroutine_entries = pairs_told name_code (option_code goroutine_code) (λ n. n) (option_map bare_goroutine) names (options_told goroutine_code bare_goroutine goroutines)

channel_entries : IsCodeOf (entry_told bare_channel) channel_entry_code
channel_entries = pairs_told channel_name_code (option_code channel_code) (λ n. n) (option_map bare_channel) channel_names (options_told channel_code bare_channel channels)

no_more : (xs : List ℕ) → xs ≡ xs ++ []
no_more [] = refl
no_more (x ∷ xs) = ap (λ ys. x ∷ ys) (no_more xs)

-- listings with one code
pub record Alike (l k : Listing) : Type 0 where
  pub run : l.run ≡ k.run
  pub goroutines : map (entry_told bare_goroutine) l.goroutines ≡ map (entry_told bare_goroutine) k.goroutines
  pub channels : map (entry_told bare_channel) l.channels ≡ map (entry_told bare_channel) k.channels

alike : (l k : Listing) → listing_code l ≡ listing_code k → Alike l k
alike l k e =
    let h = heads _ _ _ _ e in
    let g = lists_told goroutine_entry_code (entry_told bare_goroutine) goroutine_entries l.goroutines k.goroutines (list_code channel_entry_code l.channels) (list_code channel_entry_code k.channels) h.1 in
    let c = lists_told channel_entry_code (entry_told bare_channel) channel_entries l.channels k.channels [] []
    (sym (no_more (list_code channel_entry_code l.channels)) ∙ g.1 ∙ no_more (list_code channel_entry_code k.channels)) in
    record { run = sym (run_told l.run) ∙ ap run_by h.0 ∙ run_told k.run; goroutines = g.0; channels = c.0 }

-- what is found in such listings
module _ {K X : Type 0} (equal : K → K → Bool) (view : X → X) where
  found_told : (es : List (K × Option X)) (q : K) → option_map view (found equal es q) ≡ found equal (map (entry_told view) es) q
  found_told [] q = refl
  found_told (e ∷ es) q = by (equal q e.0) (found_told es q)
    where
      by : (t : Bool) → option_map view (found equal es q) ≡ found equal (map (entry_told view) es) q
          → option_map view (if t then e.1 else found equal es q) ≡ (if t then option_map view e.1 else found equal (map (entry_told view) es) q)
      by true rest = refl
      by false rest = rest

  same_found : (es fs : List (K × Option X)) → map (entry_told view) es ≡ map (entry_told view) fs → (q : K) → option_map view (found equal es q) ≡ option_map view (found equal fs q)
  same_found es fs e q = found_told es q ∙ ap (λ xs. found equal xs q) e ∙ sym (found_told fs q)

same_contents : (l k : Listing) → Alike l k → bare_contents (contents_listed l) ≡ bare_contents (contents_listed k)
same_contents l k e =
    let run = e.run in
    let g = same_found same_go bare_goroutine l.goroutines k.goroutines e.goroutines in
    let c = same_found same_channel bare_channel l.channels k.channels e.channels in
    λ i. record { run = run i; goroutines = λ n. g n i; channels = λ n. c n i }

pub one_matter : (p : Program) (key : List ℕ) (m n : Matter) → IsKey p key m → IsKey p key n → m ≡ n
one_matter p key m n a b =
    let same = same_contents a.listing b.listing (alike a.listing b.listing (sym a.bytes ∙ b.bytes)) in
    a.is ∙ matter_is_bare p (contents_listed a.listing) ∙ ap (λ s. matter (state_in p s)) same ∙ sym (matter_is_bare p (contents_listed b.listing)) ∙ sym b.is

-- what is found of contents that are listed by names
module _ {K X : Type 0} (equal : K → K → Bool) (is : (a b : K) → equal a b ≡ true → a ≡ b) (itself : (a : K) → equal a a ≡ true) (f : K → Option X) where
  false_not : (b : Bool) → b ≡ true → b ≡ false → ⊥
  false_not b t n = let e : true ≡ false = sym t ∙ n in cc

  listed : (ns : List K) (q : K) → In q ns → found equal (entries f ns) q ≡ f q
  listed [] q i = absurd i
  listed (n ∷ ns) q i = elim (cases_Bool (equal q n)) [
    | inl e ↦ ap (λ b. if b then f n else found equal (entries f ns) q) e ∙ ap f (sym (is q n e))
    | inr e ↦ ap (λ b. if b then f n else found equal (entries f ns) q) e ∙ elim i [
      | inl same ↦ absurd (false_not (equal q n) (ap (equal q) (sym same) ∙ itself q) e)
      | inr j ↦ listed ns q j
    ]
  ]

  -- what is not there, or is the content of its name
  agrees : (ns : List K) (q : K) → (found equal (entries f ns) q ≡ None) ⊎ (found equal (entries f ns) q ≡ f q)
  agrees [] q = inl refl
  agrees (n ∷ ns) q = elim (cases_Bool (equal q n)) [
    | inl e ↦ inr (ap (λ b. if b then f n else found equal (entries f ns) q) e ∙ ap f (sym (is q n e)))
    | inr e ↦ elim (agrees ns q) [
      | inl a ↦ inl (ap (λ b. if b then f n else found equal (entries f ns) q) e ∙ a)
      | inr a ↦ inr (ap (λ b. if b then f n else found equal (entries f ns) q) e ∙ a)
    ]
  ]

  -- all that is there is listed
  pub all_listed : (ns : List K) → ((q : K) (x : X) → f q ≡ Some x → In q ns) → (q : K) → found equal (entries f ns) q ≡ f q
  all_listed ns all q = by (f q) refl
    where
      by : (o : Option X) → f q ≡ o → found equal (entries f ns) q ≡ f q
      by (Some x) e = listed ns q (all q x e)
      by None e = elim (agrees ns q) [ inl a ↦ a ∙ sym e | inr a ↦ a ]

-- contents by the names of what is there
pub contents_are : (s : Contents) (gos : List (List ℕ)) (chs : List ChName) → ((n : List ℕ) (g : CodeGoroutine) → s.goroutines n ≡ Some g → In n gos)
    → ((c : ChName) (x : Content) → s.channels c ≡ Some x → In c chs)
    → s ≡ contents_listed (record { run = s.run; goroutines = entries s.goroutines gos; channels = entries s.channels chs })
contents_are s gos chs all_gos all_chs =
    let g = all_listed same_go go_is go_self s.goroutines gos all_gos in
    let c = all_listed same_channel channel_is channel_self s.channels chs all_chs in
    λ i. record { run = s.run; goroutines = λ q. sym (g q) i; channels = λ q. sym (c q) i }

pub is_key_of : (p : Program) (key : List ℕ) (s : Contents) (gos : List (List ℕ)) (chs : List ChName) → ((n : List ℕ) (g : CodeGoroutine) → s.goroutines n ≡ Some g → In n gos)
    → ((c : ChName) (x : Content) → s.channels c ≡ Some x → In c chs)
    → key ≡ listing_code (record { run = s.run; goroutines = entries s.goroutines gos; channels = entries s.channels chs }) → IsKey p key (matter (state_in p s))
is_key_of p key s gos chs all_gos all_chs e = record {
  listing = record { run = s.run; goroutines = entries s.goroutines gos; channels = entries s.channels chs };
  bytes = e;
  is = ap (λ s. matter (state_in p s)) (contents_are s gos chs all_gos all_chs);
}
