-- The steps that make a channel, start a goroutine, and count, by what the store contains.
use Rattle.std.proofs.Common.{◌≡◌, ℕ, ◌+◌, ◌-◌, ◌<◌, Bool, true, false, if◌then◌else◌, List, [], ◌∷◌, length, Option, Some, None, option_map, refl, ◌∙◌, ap, subst, arith}
use Rattle.std.specs.Prelude.{pos, nat_le}
use Rattle.std.proofs.lemmas.Bool.{le-leb, lt-leb}
use Rattle.gr_base.specs.declared.names.ChName.{ChName}
use Rattle.gr_base.specs.declared.values.Value.{Value}
use Rattle.gr_base.specs.declared.values.Value.TheVariants as values
use Rattle.gr_base.specs.declared.kinds.Fault.TheVariants.{BadSize, NameDepth, NameCount}
use Rattle.gr_base.specs.declared.kinds.Kind.TheVariants as kinds
use Rattle.gr_channels.specs.Channels.{Content}
use Rattle.gr_rules.specs.Outcomes.{Outcome}
use Rattle.gr_rules.specs.Limits.{most_places, most_counts, greatest_count}
use Rattle.gr_rules.specs.Frames.{Frame, goes_on}
use Rattle.gr_rules.specs.Deeds.{resumed}
use Rattle.gr_rules.specs.Goroutines.{Goroutine, started}
use Rattle.gr_rules.specs.States.{State, Cell, go_has, gate_has, call_of}
use Rattle.gr_rules.specs.Attempts.{unsound, Attempt, Operation, takes_len_of, takes_cap_of, ask_go, ask_tail, ask_head}
use Rattle.gr_rules.specs.Actors.{Actor, onward, does, simply, fault, given}
use Rattle.gr_rules.specs.Steps.{if_absent, child, go, new_channel, make, counted, take_len, take_cap}
use Rattle.gr_code.specs.CodeFrames.{CodeFrame}
use Rattle.gr_refine.specs.Contents.{Contents, goroutine_of, state_of, with_goroutine, with_channel}
use Rattle.gr_code.specs.Goroutines.{CodeGoroutine}
use Rattle.gr_refine.specs.Leaves.{refused, leaf}
use Rattle.gr_refine.specs.Changes.{Writes}
use Rattle.gr_refine.specs.Looks.{Ends}
use Rattle.gr_refine.specs.Making.{made, Counts, MakingMakes, MakingOfNegativeFaults, MakingOfGreatFaults, MakingTooManyFaults, MakingGoesOn, StartingStarts, StartingTooDeepFaults, StartingTooManyFaults, StartingIsNew, CountingItems, CountingPlaces, CountingItemsOfNil, CountingPlacesOfNil, CountingItemsGoesOn, CountingPlacesGoesOn}
use Rattle.gr_refine.proofs.ChangeLemmas.{goroutine_is_written, making_is_written}
use Rattle.gr_refine.proofs.LookLemmas.{gate_is_looked_up, tail_is_looked_up, head_is_looked_up}
use Rattle.gr_refine.proofs.PresenceLemmas.{gate_is_there}
use Rattle.gr_refine.proofs.PerformingLemmas.{same_end_same_step, doing_is_a_step, fault_is_a_step}

items_between : (head n : ℕ) → head + n - head ≡ n
items_between head n = omega arith

module _ (frame : CodeFrame → Frame) (s : Contents) (a : Actor) where
  abbrev t : State
  t = state_of frame s

  -- a channel, by whether the size is too great, and by whether it is one too many
  abbrev named_as : Outcome Frame → ℕ → Attempt
  named_as o n = given a o (λ f. simply a kinds.Make (record (onward a f) { channels = a.before.channels + 1 })
      (gate_has (new_channel a) (Some (record { capacity = n; closed = false; senders = []; receivers = [] })) ∷ []))

  abbrev made_by : Bool → Bool → ℕ → Attempt
  made_by great many n =
      if great then fault a None BadSize
      else (if many then fault a None NameCount else named_as (resumed a.frame (values.Chan (Some (new_channel a)))) n)

  making : (great many : Bool) (n : ℕ) → nat_le (most_places + 1) n ≡ great → nat_le greatest_count a.before.channels ≡ many
      → Ends frame s (make a (pos n)) (made_by great many n)
  making great many n is_great is_many =
      ap (λ b. leaf t (made_by b (nat_le greatest_count a.before.channels) n)) is_great ∙ ap (λ b. leaf t (made_by great b n)) is_many

  made_new : (n : ℕ) → n < most_places + 1 → a.before.channels < greatest_count
      → Ends frame s (make a (pos n)) (named_as (resumed a.frame (values.Chan (Some (new_channel a)))) n)
  made_new n small few = making false false n (lt-leb (most_places + 1) n small) (lt-leb greatest_count a.before.channels few)

  pub making_makes : MakingMakes frame s a
  making_makes n on g small few none resumes is =
      let before = with_goroutine s a.name (Some g) in
      let cells : List Cell = gate_has (new_channel a) (Some (record { capacity = n; closed = false; senders = []; receivers = [] })) ∷ [] in
      same_end_same_step frame _ _ s _ _ (made_new n small few ∙ ap (λ o. leaf t (named_as o n)) resumes)
      (doing_is_a_step frame s (with_channel before (new_channel a) (Some (made n))) a None None kinds.Make
      (record (onward a on) { channels = a.before.channels + 1 }) g cells is (making_is_written frame before (new_channel a) (made n) none refl refl))

  pub making_of_negative_faults : MakingOfNegativeFaults frame s a
  making_of_negative_faults n g is = fault_is_a_step frame s a None BadSize g is

  pub making_of_great_faults : MakingOfGreatFaults frame s a
  making_of_great_faults n g great is =
      same_end_same_step frame _ _ s _ _ (making true (nat_le greatest_count a.before.channels) n (le-leb (most_places + 1) n great) refl)
      (fault_is_a_step frame s a None BadSize g is)

  pub making_too_many_faults : MakingTooManyFaults frame s a
  making_too_many_faults n g small many is =
      same_end_same_step frame _ _ s _ _ (making false true n (lt-leb (most_places + 1) n small) (le-leb greatest_count a.before.channels many))
      (fault_is_a_step frame s a None NameCount g is)

  pub making_goes_on : MakingGoesOn frame s a
  making_goes_on n sound small few e = sound (made_new n small few ∙ ap (λ o. leaf t (named_as o n)) e)

  -- a goroutine, by whether its name is too long, and by whether it is one too many
  abbrev started_as : Outcome Frame → Attempt
  started_as o = given a o (λ f. simply a kinds.Go (record (onward a (goes_on a.frame)) { children = a.before.children + 1 })
      (go_has (child a) (Some (started f)) ∷ []))

  abbrev started_by : Bool → Bool → ℕ → List Value → Attempt
  started_by deep many function vs =
      if deep then fault a None NameDepth
      else (if many then fault a None NameCount else ask_go (child a) (if_absent (started_as (call_of a.program function vs))))

  starting : (deep many : Bool) (function : ℕ) (vs : List Value) → nat_le most_counts (length a.name) ≡ deep → nat_le greatest_count a.before.children ≡ many
      → Ends frame s (go a function vs) (started_by deep many function vs)
  starting deep many function vs is_deep is_many =
      ap (λ b. leaf t (started_by b (nat_le greatest_count a.before.children) function vs)) is_deep ∙ ap (λ b. leaf t (started_by deep b function vs)) is_many

  started_new : (function : ℕ) (vs : List Value) (o : Option CodeGoroutine) → length a.name < most_counts → a.before.children < greatest_count
      → s.goroutines (child a) ≡ o
      → Ends frame s (go a function vs) (if_absent (started_as (call_of a.program function vs)) (option_map (goroutine_of frame) o))
  started_new function vs o short few is =
      starting false false function vs (lt-leb most_counts (length a.name) short) (lt-leb greatest_count a.before.children few)
      ∙ ap (λ o. leaf t (if_absent (started_as (call_of a.program function vs)) (option_map (goroutine_of frame) o))) is

  pub starting_starts : StartingStarts frame s a
  starting_starts function vs first g p short few none calls is begins =
      let before = with_goroutine s a.name (Some g) in
      let after = with_goroutine before (child a) (Some p) in
      let written : Writes frame before after (go_has (child a) (Some (started first)) ∷ []) =
      subst (λ (q : Goroutine). Writes frame before after (go_has (child a) (Some q) ∷ [])) begins (goroutine_is_written frame before (child a) p) in
      same_end_same_step frame _ _ s _ _ (started_new function vs None short few none ∙ ap (λ o. leaf t (started_as o)) calls)
      (doing_is_a_step frame s after a None None kinds.Go (record (onward a (goes_on a.frame)) { children = a.before.children + 1 }) g
      (go_has (child a) (Some (started first)) ∷ []) is written)

  pub starting_too_deep_faults : StartingTooDeepFaults frame s a
  starting_too_deep_faults function vs g deep is =
      same_end_same_step frame _ _ s _ _ (starting true (nat_le greatest_count a.before.children) function vs (le-leb most_counts (length a.name) deep) refl)
      (fault_is_a_step frame s a None NameDepth g is)

  pub starting_too_many_faults : StartingTooManyFaults frame s a
  starting_too_many_faults function vs g short many is =
      same_end_same_step frame _ _ s _ _
      (starting false true function vs (lt-leb most_counts (length a.name) short) (le-leb greatest_count a.before.children many))
      (fault_is_a_step frame s a None NameCount g is)

  absent : (o : Option CodeGoroutine) (k : Attempt) → (leaf t (if_absent k (option_map (goroutine_of frame) o)) ≡ refused unsound → ⊥) → o ≡ None
  absent None k sound = refl
  absent (Some g) k sound = absurd (sound refl)

  pub starting_is_new : StartingIsNew frame s a
  starting_is_new function vs sound short few =
      let none = absent (s.goroutines (child a)) (started_as (call_of a.program function vs))
      (λ e. sound (started_new function vs (s.goroutines (child a)) short few refl ∙ e)) in
      (none, λ e. sound (started_new function vs None short few none ∙ ap (λ o. leaf t (started_as o)) e))

  -- a count
  abbrev counted_as : Option Operation → Outcome Frame → Attempt
  counted_as operation o = given a o (λ f. does a None operation kinds.Length (onward a f) [])

  counting : (attempt : Attempt) (operation : Option Operation) (n : ℕ) → Ends frame s attempt (counted a operation n) → Counts frame s a attempt operation n
  counting attempt operation n ends on g resumes is =
      same_end_same_step frame _ _ s _ _ (ends ∙ ap (λ o. leaf t (counted_as operation o)) resumes)
      (doing_is_a_step frame s (with_goroutine s a.name (Some g)) a None operation kinds.Length (onward a on) g [] is refl)

  items_counted : (c : ChName) (x : Content) → s.channels c ≡ Some x → Ends frame s (take_len a (Some c)) (counted a (Some (takes_len_of c)) (length x.items))
  items_counted c x there =
      gate_is_looked_up frame s c x (λ gate. ask_head c (λ left. ask_tail c (λ entered. counted a (Some (takes_len_of c)) (entered - left)))) there
      ∙ head_is_looked_up frame s c x (λ left. ask_tail c (λ entered. counted a (Some (takes_len_of c)) (entered - left))) there
      ∙ tail_is_looked_up frame s c x (λ entered. counted a (Some (takes_len_of c)) (entered - x.head)) there
      ∙ ap (λ n. leaf t (counted a (Some (takes_len_of c)) n)) (items_between x.head (length x.items))

  places_counted : (c : ChName) (x : Content) → s.channels c ≡ Some x → Ends frame s (take_cap a (Some c)) (counted a (Some (takes_cap_of c)) x.capacity)
  places_counted c x there = gate_is_looked_up frame s c x (λ gate. counted a (Some (takes_cap_of c)) gate.capacity) there

  pub counting_items : CountingItems frame s a
  counting_items c x there = counting (take_len a (Some c)) (Some (takes_len_of c)) (length x.items) (items_counted c x there)

  pub counting_places : CountingPlaces frame s a
  counting_places c x there = counting (take_cap a (Some c)) (Some (takes_cap_of c)) x.capacity (places_counted c x there)

  pub counting_items_of_nil : CountingItemsOfNil frame s a
  counting_items_of_nil = counting (take_len a None) None 0 refl

  pub counting_places_of_nil : CountingPlacesOfNil frame s a
  counting_places_of_nil = counting (take_cap a None) None 0 refl

  pub counting_items_goes_on : CountingItemsGoesOn frame s a
  counting_items_goes_on c sound =
      let x = gate_is_there frame s c (λ gate. ask_head c (λ left. ask_tail c (λ entered. counted a (Some (takes_len_of c)) (entered - left)))) sound in
      (x.0, x.1, λ e. sound (items_counted c (x.0) (x.1) ∙ ap (λ o. leaf t (counted_as (Some (takes_len_of c)) o)) e))

  pub counting_places_goes_on : CountingPlacesGoesOn frame s a
  counting_places_goes_on c sound =
      let x = gate_is_there frame s c (λ gate. counted a (Some (takes_cap_of c)) gate.capacity) sound in
      (x.0, x.1, λ e. sound (places_counted c (x.0) (x.1) ∙ ap (λ o. leaf t (counted_as (Some (takes_cap_of c)) o)) e))
