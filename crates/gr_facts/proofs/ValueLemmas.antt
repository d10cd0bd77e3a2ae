-- The value that a communication moves, by what a store contains.
use Rattle.std.proofs.Common.{◌≡◌, ℕ, suc, zero, ◌%◌, Bool, true, false, if◌then◌else◌, List, [], ◌∷◌, map, slice_get, Option, Some, None, refl, sym, ap, subst, ◌∙◌, eq-eqb}
use Rattle.std.specs.Prelude.{option_map, option_and_then}
use Rattle.std.specs.Option.{option_map_or, option_or}
use Rattle.gr_base.specs.declared.events.Choice.{Choice}
use Rattle.gr_base.specs.declared.events.Choice.TheVariants as choices
use Rattle.gr_base.specs.declared.events.Event.{Event}
use Rattle.gr_base.specs.declared.kinds.Kind.{Kind}
use Rattle.gr_base.specs.declared.names.ChName.{ChName}
use Rattle.gr_base.specs.declared.values.Value.{Value}
use Rattle.gr_channels.specs.Channels.{Content}
use Rattle.gr_channels.specs.Objects.{gate_of, head_of, slot_of, slot_from}
use Rattle.gr_code.specs.CodeFrames.{ProgramCode, CodeFrame, Task, Steps, Wants}
use Rattle.gr_code.specs.Code.{Meanings}
use Rattle.gr_code.specs.Goroutines.{CodeGoroutine, task_of}
use Rattle.gr_code.specs.Programs.{ProgramFits, deed_meant, frame_of}
use Rattle.gr_depend.specs.Histories.{is_fault}
use Rattle.gr_goros.specs.Needs.{NeedIs}
use Rattle.gr_goros.specs.Views.{communication_of, communications_of}
use Rattle.gr_goros.specs.declared.needs.Clause.{Clause}
use Rattle.gr_goros.specs.declared.needs.Need.{Need}
use Rattle.gr_goros.specs.declared.needs.Need.TheVariants as needs
use Rattle.gr_lower.specs.Lowered.{lowered, meaning}
use Rattle.gr_program.specs.Programs.{Program}
use Rattle.gr_record.specs.Listings.{frame_in, state_in}
use Rattle.gr_record.specs.Running.{Running}
use Rattle.gr_refine.specs.Attempting
use Rattle.gr_refine.specs.Contents.{Contents, goroutine_of}
use Rattle.gr_refine.specs.Standing.{AllStand}
use Rattle.gr_refine.specs.Tasks.{stays_within}
use Rattle.gr_refine.proofs.TaskLemmas.{deed_is}
use Rattle.gr_refine.proofs.WithinLemmas.{local_stays_within}
use Rattle.gr_rules.specs.Actors.{clause_at}
use Rattle.gr_rules.specs.Deeds.{Communication, Receiving, Deed, Moves, Prints, Enters, Leaves, Starts, Makes, TakesLen, TakesCap, Closes, Communicates, Chooses}
use Rattle.gr_rules.specs.Outcomes.{Outcome, gives, faults, wrong}
use Rattle.gr_step.specs.Guard.{IsUp, Needs}
use Rattle.type_safety.proofs.CodeOfPrograms.{checked_fits}
use Rattle.gr_facts.specs.Moved.{communication_by, communication_in, first_sent, value_in, value_moved}
use Rattle.gr_facts.specs.Wanted.{communication_wanted, next_value}

-- the front item stands in the slot of the head
front_value : (capacity head : ℕ) (items : List Value)
    → slice_get items 0 ≡ option_map (λ item. item.1) (slot_from capacity (head % capacity) head items)
front_value capacity head [] = refl
front_value capacity head (v ∷ vs) = rw (eq-eqb (head % capacity) (head % capacity) refl) refl

-- what the rules say that a receive gets from the channel of a name, if there is one
abbrev got_by_rules : Value → Option Content → Option Value
got_by_rules initial o = option_and_then (λ gate. option_or
    (option_map (λ item. item.1) (option_and_then (λ x. slot_of x (option_map_or head_of o 0 % gate.capacity)) o))
    (option_or (first_sent gate.senders) (if gate.closed then Some initial else None))) (option_map gate_of o)

module _ (p : Program) (s : Contents) (c : ChName) (initial : Value) where
  either : (a b d : Option Value) → option_or (option_or a b) d ≡ option_or a (option_or b d)
  either None b d = refl
  either (Some a) b d = refl

  module _ (x : Content) (there : Some x ≡ s.channels c) where
    received : option_or (next_value x) (if x.closed then Some initial else None) ≡ value_in (state_in p s) (Receiving (Some c) initial)
    received =
        either (slice_get x.items 0) (first_sent x.senders) (if x.closed then Some initial else None)
        ∙ ap (λ (o : Option Value). option_or o (option_or (first_sent x.senders) (if x.closed then Some initial else None)))
        (front_value x.capacity x.head x.items)
        ∙ ap (got_by_rules initial) there

    -- a value that was sent, or what a channel gives that holds none
    pub got_sent : (v w : Value) → Some v ≡ next_value x → w ≡ v → Some w ≡ value_in (state_in p s) (Receiving (Some c) initial)
    got_sent v w is same =
        ap Some same ∙ ap (λ o. option_or o (if x.closed then Some initial else None)) is ∙ received

    pub got_left : (w : Option Value) → None ≡ next_value x → w ≡ (if x.closed then Some initial else None) → w ≡ value_in (state_in p s) (Receiving (Some c) initial)
    got_left w none is = is ∙ ap (λ o. option_or o (if x.closed then Some initial else None)) none ∙ received

  pub no_channel : None ≡ s.channels c → None ≡ value_in (state_in p s) (Receiving (Some c) initial)
  no_channel none = ap (got_by_rules initial) none

-- the clause of a select with a number
pub clause_here : (cs : List Clause) (place : ℕ) (o : Option Clause) → o ≡ slice_get cs place
    → option_map communication_of o ≡ slice_get (communications_of cs) place
clause_here cs place o is = ap (option_map communication_of) is ∙ by_place cs place
  where
    by_place : (cs : List Clause) (place : ℕ) → option_map communication_of (slice_get cs place) ≡ slice_get (communications_of cs) place
    by_place [] place = refl
    by_place (c ∷ cs) zero = refl
    by_place (c ∷ cs) (suc place) = by_place cs place

pub clause_numbered : (cs : List Clause) (number place : ℕ) (o : Option Clause) → number ≡ suc place → o ≡ slice_get cs place
    → option_map communication_of o ≡ clause_at (communications_of cs) number
clause_numbered cs number place o is at = clause_here cs place o at ∙ sym (ap (clause_at (communications_of cs)) is)

-- whether a deed is a communication, or a choice among some
abbrev speaks : Outcome Deed → Bool
speaks (gives (Communicates c)) = true
speaks (gives (Chooses cs)) = true
speaks _ = false

-- any other sends and receives nothing
silent : (choice : Choice) (o : Outcome Deed) → speaks o ≡ false → None ≡ communication_by choice o
silent choices.Default o h = refl
silent choices.Park o h = refl
silent choices.Plain (gives (Moves on)) h = refl
silent choices.Plain (gives (Prints line)) h = refl
silent choices.Plain (gives (Enters function vs)) h = refl
silent choices.Plain (gives (Leaves v)) h = refl
silent choices.Plain (gives (Starts function vs)) h = refl
silent choices.Plain (gives (Makes n)) h = refl
silent choices.Plain (gives (TakesLen c)) h = refl
silent choices.Plain (gives (TakesCap c)) h = refl
silent choices.Plain (gives (Closes c)) h = refl
silent choices.Plain (gives (Communicates c)) h = absurd (let no : true ≡ false = h in cc)
silent choices.Plain (gives (Chooses cs)) h = refl
silent choices.Plain (faults x) h = refl
silent choices.Plain wrong h = refl
silent (choices.Pick i) (gives (Moves on)) h = refl
silent (choices.Pick i) (gives (Prints line)) h = refl
silent (choices.Pick i) (gives (Enters function vs)) h = refl
silent (choices.Pick i) (gives (Leaves v)) h = refl
silent (choices.Pick i) (gives (Starts function vs)) h = refl
silent (choices.Pick i) (gives (Makes n)) h = refl
silent (choices.Pick i) (gives (TakesLen c)) h = refl
silent (choices.Pick i) (gives (TakesCap c)) h = refl
silent (choices.Pick i) (gives (Closes c)) h = refl
silent (choices.Pick i) (gives (Communicates c)) h = refl
silent (choices.Pick i) (gives (Chooses cs)) h = absurd (let no : true ≡ false = h in cc)
silent (choices.Pick i) (faults x) h = refl
silent (choices.Pick i) wrong h = refl

module _ (means : ℕ → Meanings) (p : Program) (code : ProgramCode) (fits : ProgramFits means p code) (choice : Choice) (g : CodeGoroutine)
    (f : CodeFrame) (below : List CodeFrame) (frames : g.frames ≡ f ∷ below) (stand : AllStand means code g.frames) where
  -- a task that stays within its goroutine is no communication
  within_silent : (o : Outcome Task) → stays_within below o ≡ true → speaks (deed_meant means code o) ≡ false
  within_silent (gives (Steps on)) h = refl
  within_silent (gives (Wants (Moves on))) h = refl
  within_silent (gives (Wants (Prints line))) h = refl
  within_silent (gives (Wants (Enters function vs))) h = refl
  within_silent (gives (Wants (Leaves v))) h = refl
  within_silent (gives (Wants (Starts function vs))) h = refl
  within_silent (gives (Wants (Makes n))) h = refl
  within_silent (gives (Wants (TakesLen c))) h = refl
  within_silent (gives (Wants (TakesCap c))) h = refl
  within_silent (gives (Wants (Closes c))) h = refl
  within_silent (gives (Wants (Communicates c))) h = absurd (let no : false ≡ true = h in cc)
  within_silent (gives (Wants (Chooses cs))) h = absurd (let no : false ≡ true = h in cc)
  within_silent (faults x) h = refl
  within_silent wrong h = refl

  abbrev meant : Outcome Task → Option Communication
  meant o = communication_by choice (deed_meant means code o)

  -- what a need asks for is the communication of the task
  by_need : (need : Need) → NeedIs need code g → communication_wanted choice need ≡ meant (task_of code g)
  by_need needs.Local is =
      silent choice (deed_meant means code (task_of code g)) (within_silent (task_of code g) (local_stays_within code g f below frames is))
  by_need needs.Exit is = silent choice (gives (Leaves is.1)) refl ∙ sym (ap meant is.3)
  by_need (needs.Start function vs) is = silent choice (gives (Starts function vs.items)) refl ∙ sym (ap meant is)
  by_need (needs.Make n) is = silent choice (gives (Makes n)) refl ∙ sym (ap meant is)
  by_need (needs.Len c) is = silent choice (gives (TakesLen c)) refl ∙ sym (ap meant is)
  by_need (needs.Cap c) is = silent choice (gives (TakesCap c)) refl ∙ sym (ap meant is)
  by_need (needs.Close c) is = silent choice (gives (Closes c)) refl ∙ sym (ap meant is)
  by_need (needs.Send c v) is = sym (ap meant is)
  by_need (needs.Receive c initial) is = sym (ap meant is)
  by_need (needs.Select cs) is = sym (ap meant is)
  by_need (needs.Fault x) is = silent choice (faults x) refl ∙ sym (ap meant is.1)

  -- and that of the goroutine's frames
  pub wanted_is : (need : Need) → NeedIs need code g → communication_wanted choice need ≡ communication_in choice (map (frame_of means code) g.frames)
  wanted_is need is =
      by_need need is ∙ ap (communication_by choice) (sym (deed_is means p code g f below fits frames stand))
      ∙ sym (ap (λ fs. communication_in choice (map (frame_of means code) fs)) frames)

some_is : {A : Type 0} (a b : A) → Some a ≡ Some b → a ≡ b
some_is a b e = cc

-- of a goroutine that is up, with its innermost frame
module _ (p : Program) (s : Contents) (running : Running p s) (e : Event) (g : CodeGoroutine) (f : CodeFrame) (below : List CodeFrame)
    (up : Attempting.IsUp s e g f below) (kind : Kind) where
  -- what it moves, by the goroutine that is there
  abbrev moved_by : Bool → Option CodeGoroutine → Option Value
  moved_by stops o =
      if stops
      then None
      else option_and_then (λ x. option_and_then (value_in (state_in p s)) (communication_in e.choice x.frames)) (option_map (goroutine_of (frame_in p)) o)

  pub fault_moves_none : true ≡ is_fault kind → None ≡ value_moved (state_in p s) e kind
  fault_moves_none stops = ap (λ b. moved_by b (s.goroutines e.go)) stops

  pub is_there : (IsUp s e.go → ⊥) → ⊥
  is_there none = none (record { runs = up.runs; goroutine = g; there = up.there; is_ready = up.is_ready })

  pub need_moves : false ≡ is_fault kind → (need : Need) → Needs p s e.go need
      → option_and_then (value_in (state_in p s)) (communication_wanted e.choice need) ≡ value_moved (state_in p s) e kind
  need_moves goes need needs =
      let one : needs.goroutine ≡ g = some_is needs.goroutine g (sym needs.has.there ∙ up.there) in
      let asks = subst (NeedIs need (lowered p)) one needs.asks in
      ap (option_and_then (value_in (state_in p s)))
      (wanted_is (meaning p) p (lowered p) (checked_fits running.program.file p running.program.checked) e.choice g f below up.frames
      (running.stand e.go g up.there) need asks)
      ∙ ap (moved_by false) (sym up.there) ∙ ap (λ b. moved_by b (s.goroutines e.go)) goes
