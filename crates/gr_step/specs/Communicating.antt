-- What is left by a communication that proceeds, and by one that cannot.
use Rattle.std.specs.Prelude.{◌≡◌, ℕ, Bool, if◌then◌else◌, List, map, Option, Some, None}
use Rattle.gr_base.specs.declared.events.Event.{Event}
use Rattle.gr_program.specs.Programs.{Program}
use Rattle.gr_rules.specs.Attempts.{Attempt, no_such_choice}
use Rattle.gr_rules.specs.Steps.{attempt}
use Rattle.gr_rules.specs.Actors.{Actor}
use Rattle.gr_rules.specs.Deeds.{Communication}
use Rattle.gr_base.specs.declared.values.Value.{Value}
use Rattle.gr_rules.specs.Outcomes.{gives}
use Rattle.gr_rules.specs.Selects.{numbered, values_of}
use Rattle.gr_goros.specs.declared.needs.Clause.{Clause}
use Rattle.gr_goros.specs.Views.{communications_of}
use Rattle.gr_refine.specs.Contents.{Contents}
use Rattle.gr_refine.specs.Leaves.{Refuses}
use Rattle.gr_refine.specs.Looks.{Ends}
use Rattle.gr_refine.specs.Presence.{Sound}
use Rattle.gr_record.specs.Effects.{Effect}
use Rattle.gr_record.specs.Listings.{frame_in, state_in}
use Rattle.gr_step.specs.Premises.{OfActor}
use Rattle.gr_record.specs.Taking.{Takes}

-- what is attempted, and what else where that cannot proceed
abbrev pub Trial : Type 0
Trial = Actor → Attempt → Attempt

-- it is not refused as unsound
abbrev pub TrialIsSound : Program → Event → Contents → Trial → Type 0
TrialIsSound p e s trial = OfActor p e s (λ a. (otherwise : Attempt) × Sound (frame_in p) s (trial a otherwise))

-- it proceeds with a change, or cannot, and then nothing has changed
abbrev pub Tried : Program → Event → Trial → Contents → Option Effect → Contents → Type 0
Tried p e trial s (Some c) t = OfActor p e s (λ a. (otherwise : Attempt) → Takes p e (trial a otherwise) s c t)
Tried p e trial s None t = (t ≡ s) × OfActor p e s (λ a. (otherwise : Attempt) → Ends (frame_in p) s (trial a otherwise) otherwise)

-- the clauses of a select with their numbers, and a communication by itself
abbrev pub pending : Bool → List Communication → List (Option ℕ × Communication)
pending select cs = if select then numbered 1 cs else map (λ c. (None, c)) cs

-- each value to send is there
abbrev pub HasValues : List Clause → Type 0
HasValues cs = (vs : List Value) × (values_of (communications_of cs) ≡ gives vs)

-- the choice of an event is taken, or is not possible here, and then nothing has changed
abbrev pub Chosen : Program → Event → Contents → Option Effect → Contents → Type 0
Chosen p e s (Some c) t = Takes p e (attempt p e) s c t
Chosen p e s None t = (t ≡ s) × Refuses (attempt p e) (state_in p s) no_such_choice
