-- What matters of contents is told without the counts of steps, the texts, and how many values left each buffer.
use Rattle.std.proofs.Common.{◌≡◌, ℕ, ◌+◌, ◌-◌, ◌%◌, nat_eq, Bool, true, false, if◌then◌else◌, List, [], ◌∷◌, Option, Some, None, option_map, refl, sym, ◌∙◌, ap, arith}
use Rattle.std.specs.Prelude.{option_and_then}
use Rattle.std.specs.Option.{option_map_or}
use Rattle.gr_channels.specs.Channels.{Content, tail_of}
use Rattle.gr_channels.specs.Objects.{gate_of, head_of, slot_from, slot_of}
use Rattle.gr_program.specs.Programs.{Program}
use Rattle.gr_rules.specs.Frames.{Frame}
use Rattle.gr_code.specs.CodeFrames.{CodeFrame}
use Rattle.gr_code.specs.Goroutines.{CodeGoroutine}
use Rattle.gr_refine.specs.Contents.{Contents, goroutine_of}
use Rattle.gr_record.specs.Listings.{frame_in, state_in}
use Rattle.gr_keys.specs.GoroutineCodes.{bare_goroutine, bare_channel}
use Rattle.gr_schedules.specs.Matters.{bare, values_from, matter}
use Rattle.gr_schedules.proofs.LikeAttempts.{same_test}

abbrev pub bare_contents : Contents → Contents
bare_contents s = record {
  run = s.run;
  goroutines = λ n. option_map bare_goroutine (s.goroutines n);
  channels = λ c. option_map bare_channel (s.channels c);
}

abbrev value_in : {X : Type 0} → Option (ℕ × X) → Option X
value_in o = option_map (λ item. item.1) o

-- items that are numbered from elsewhere on stand as far from the first
round : {X : Type 0} (k i z n : ℕ) (xs : List X) → value_in (slot_from k ((i + z) % k) (n + z) xs) ≡ value_in (slot_from k (i % k) n xs)
round k i z n [] = refl
round k i z n (v ∷ vs) = by (nat_eq (n % k) (i % k)) refl (round k i z (n + 1) vs)
  where
    here : nat_eq ((n + z) % k) ((i + z) % k) ≡ nat_eq (n % k) (i % k)
    here = same_test n i z k

    by : (t : Bool) → nat_eq (n % k) (i % k) ≡ t → value_in (slot_from k ((i + z) % k) ((n + 1) + z) vs) ≡ value_in (slot_from k (i % k) (n + 1) vs)
        → value_in (if nat_eq ((n + z) % k) ((i + z) % k) then Some (n + z, v) else slot_from k ((i + z) % k) ((n + z) + 1) vs)
        ≡ value_in (if nat_eq (n % k) (i % k) then Some (n, v) else slot_from k (i % k) (n + 1) vs)
    by true h rest =
        ap (λ t. value_in (if t then Some (n + z, v) else slot_from k ((i + z) % k) ((n + z) + 1) vs)) (here ∙ h)
        ∙ sym (ap (λ t. value_in (if t then Some (n, v) else slot_from k (i % k) (n + 1) vs)) h)
    by false h rest =
        let more : (n + z) + 1 ≡ (n + 1) + z = omega arith in
        ap (λ t. value_in (if t then Some (n + z, v) else slot_from k ((i + z) % k) ((n + z) + 1) vs)) (here ∙ h)
        ∙ ap (λ m. value_in (slot_from k ((i + z) % k) m vs)) more ∙ rest
        ∙ sym (ap (λ t. value_in (if t then Some (n, v) else slot_from k (i % k) (n + 1) vs)) h)

same_go : (f : CodeFrame → Frame) (o : Option CodeGoroutine) → option_map bare (option_map (goroutine_of f) o) ≡ option_map bare (option_map (goroutine_of f) (option_map bare_goroutine o))
same_go f None = refl
same_go f (Some g) = refl

same_gate : (o : Option Content) → option_map gate_of o ≡ option_map gate_of (option_map bare_channel o)
same_gate None = refl
same_gate (Some c) = refl

same_count : (o : Option Content) → option_map_or tail_of o 0 - option_map_or head_of o 0 ≡ option_map_or tail_of (option_map bare_channel o) 0 - option_map_or head_of (option_map bare_channel o) 0
same_count None = refl
same_count (Some c) = omega arith

same_values : (o : Option Content) (i : ℕ)
    → values_from (option_map gate_of o) (option_map_or head_of o 0) (λ i. option_and_then (λ x. slot_of x i) o) i
    ≡ values_from (option_map gate_of (option_map bare_channel o)) (option_map_or head_of (option_map bare_channel o) 0) (λ i. option_and_then (λ x. slot_of x i) (option_map bare_channel o)) i
same_values None i = refl
same_values (Some c) i =
    let first : c.head ≡ 0 + c.head = omega arith in
    let place : i ≡ i + 0 = omega arith in
    ap (λ n. value_in (slot_from c.capacity ((i + c.head) % c.capacity) n c.items)) first ∙ round c.capacity i c.head 0 c.items
    ∙ ap (λ n. value_in (slot_from c.capacity (n % c.capacity) 0 c.items)) place

pub matter_is_bare : (p : Program) (s : Contents) → matter (state_in p s) ≡ matter (state_in p (bare_contents s))
matter_is_bare p s = λ j. record {
  run = s.run;
  goroutines = λ n. same_go (frame_in p) (s.goroutines n) j;
  gates = λ c. same_gate (s.channels c) j;
  counts = λ c. same_count (s.channels c) j;
  values = λ c i. same_values (s.channels c) i j;
}
