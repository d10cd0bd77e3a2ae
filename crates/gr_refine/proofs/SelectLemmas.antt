-- The steps of a select, by what the store contains.
use Rattle.std.proofs.Common.{◌≡◌, ℕ, Bool, true, false, ◌||◌, if◌then◌else◌, List, [], ◌∷◌, Option, Some, None, refl, ◌∙◌, ap, inl, inr}
use Rattle.std.specs.List.{list_any}
use Rattle.std.proofs.lemmas.Bool.{cases_Bool, and_from, or_parts}
use Rattle.gr_base.specs.declared.values.Value.{Value}
use Rattle.gr_base.specs.declared.events.Choice.TheVariants as choices
use Rattle.gr_base.specs.declared.kinds.Fault.{Fault}
use Rattle.gr_base.specs.declared.kinds.Kind.TheVariants as kinds
use Rattle.gr_rules.specs.Outcomes.{Outcome, gives, faults, wrong}
use Rattle.gr_rules.specs.Frames.{Frame}
use Rattle.gr_rules.specs.Deeds.{Communication, past}
use Rattle.gr_rules.specs.States.{State}
use Rattle.gr_rules.specs.Attempts.{no_such_choice, Attempt, refuse}
use Rattle.gr_rules.specs.Actors.{Actor, onward, simply, fault, given, clause_at}
use Rattle.gr_rules.specs.Communications.{wait}
use Rattle.gr_rules.specs.Selects.{values_of, if_none_ready, pick, default_from, numbered, default, park, choose}
use Rattle.gr_code.specs.CodeFrames.{CodeFrame}
use Rattle.gr_refine.specs.Contents.{Contents, state_of, with_goroutine}
use Rattle.gr_refine.specs.Leaves.{leaf}
use Rattle.gr_refine.specs.Looks.{Ends}
use Rattle.gr_refine.specs.Partners.{AreChannels, can_proceed}
use Rattle.gr_refine.specs.Presence.{Sound}
use Rattle.gr_refine.specs.Choosing.{NoneReadyIsMade, SomeReadyIsSound, PickingCommunicates, PickingOfNone, PickingFaults, PickingCannot, PickingHasValues, DefaultIsTaken, DefaultFaults, DefaultIsNone, DefaultIsLate, DefaultHasValues, ParkingWaits, ParkingFaults, ParkingHasDefault, ParkingIsLate, ParkingHasValues}
use Rattle.gr_refine.proofs.PartnerLemmas.{readiness_is_looked_up, none_ready_is_looked_up}
use Rattle.gr_refine.proofs.PresenceLemmas.{communication_is_made}
use Rattle.gr_refine.proofs.PerformingLemmas.{same_end_same_step, doing_is_a_step, fault_is_a_step}

abbrev if_not : List Communication → Attempt → Bool → Attempt
if_not ws then_this b = if b then refuse no_such_choice else if_none_ready ws then_this

-- the first of some clauses, in an attempt that is not refused as unsound
first_clause : (frame : CodeFrame → Frame) (s : Contents) (w : Communication) (ws : List Communication) (then_this : Attempt) → AreChannels s
    → Sound frame s (if_none_ready (w ∷ ws) then_this) → (b : Bool) → can_proceed s w ≡ b
    → Ends frame s (if_none_ready (w ∷ ws) then_this) (if_not ws then_this b)
first_clause frame s w ws then_this valid sound b can =
    readiness_is_looked_up frame s w (if_not ws then_this) valid (communication_is_made frame s w (if_not ws then_this) sound)
    ∙ ap (λ b. leaf (state_of frame s) (if_not ws then_this b)) can

pub none_ready_is_made : NoneReadyIsMade
none_ready_is_made frame s [] then_this valid sound none = refl
none_ready_is_made frame s (w ∷ ws) then_this valid sound none =
    let parts = or_parts (can_proceed s w) (list_any (can_proceed s) ws) none in
    let ends = first_clause frame s w ws then_this valid sound false (parts.0) in
    and_from _ _ (communication_is_made frame s w (if_not ws then_this) sound)
    (none_ready_is_made frame s ws then_this valid (λ e. sound (ends ∙ e)) (parts.1))

other_ready : (a b : Bool) → (a || b) ≡ true → a ≡ false → b ≡ true
other_ready true b h f = absurd (let no : true ≡ false = f in cc)
other_ready false b h f = h

pub some_ready_is_sound : SomeReadyIsSound
some_ready_is_sound frame s [] then_this valid sound some = absurd (let no : false ≡ true = some in cc)
some_ready_is_sound frame s (w ∷ ws) then_this valid sound some = elim (cases_Bool (can_proceed s w)) [
  | inl can ↦ first_clause frame s w ws then_this valid sound true can
  | inr not_this ↦
      let ends = first_clause frame s w ws then_this valid sound false not_this in
      ends ∙ some_ready_is_sound frame s ws then_this valid (λ e. sound (ends ∙ e))
      (other_ready (can_proceed s w) (list_any (can_proceed s) ws) some not_this)
]

none_ready : (frame : CodeFrame → Frame) (s : Contents) (ws : List Communication) (then_this : Attempt) → AreChannels s
    → Sound frame s (if_none_ready ws then_this)
    → list_any (can_proceed s) ws ≡ false → Ends frame s (if_none_ready ws then_this) then_this
none_ready frame s ws then_this valid sound none = none_ready_is_looked_up frame s ws then_this valid
    (none_ready_is_made frame s ws then_this valid sound none) none

module _ (frame : CodeFrame → Frame) (s : Contents) (a : Actor) (ws : List Communication) where
  abbrev t : State
  t = state_of frame s

  picked : (i : ℕ) (o : Outcome (List Value)) (w : Option Communication) → values_of ws ≡ o → clause_at ws i ≡ w
      → Ends frame s (choose a ws (choices.Pick i)) (pick a i o w)
  picked i o w values clause =
      ap (λ o. leaf t (pick a i o (clause_at ws i))) values ∙ ap (λ (w : Option Communication). leaf t (pick a i o w)) clause

  pub picking_communicates : PickingCommunicates frame s a ws
  picking_communicates i vs w values clause = picked i (gives vs) (Some w) values clause

  pub picking_of_none : PickingOfNone frame s a ws
  picking_of_none i none = ap (λ (w : Option Communication). leaf t (pick a i (values_of ws) w)) none

  abbrev fault_if : Fault → Bool → Attempt
  fault_if e b = if b then fault a None e else refuse no_such_choice

  picked_fault : (i : ℕ) (w : Communication) (e : Fault) (b : Bool) → AreChannels s → Sound frame s (choose a ws (choices.Pick i)) → values_of ws ≡ faults e
      → clause_at ws i ≡ Some w → can_proceed s w ≡ b → Ends frame s (choose a ws (choices.Pick i)) (fault_if e b)
  picked_fault i w e b valid sound values clause can =
      let ends = picked i (faults e) (Some w) values clause in
      ends ∙ readiness_is_looked_up frame s w (fault_if e) valid (communication_is_made frame s w (fault_if e) (λ q. sound (ends ∙ q)))
      ∙ ap (λ b. leaf t (fault_if e b)) can

  pub picking_faults : PickingFaults frame s a ws
  picking_faults i w e g valid sound values clause can is =
      same_end_same_step frame _ _ s _ _ (picked_fault i w e true valid sound values clause can) (fault_is_a_step frame s a None e g is)

  pub picking_cannot : PickingCannot frame s a ws
  picking_cannot i w e valid sound values clause cannot = picked_fault i w e false valid sound values clause cannot

  pub picking_has_values : PickingHasValues frame s a ws
  picking_has_values i w sound clause e = sound (picked i wrong (Some w) e clause)

  -- the default clause
  abbrev taken : ℕ → Attempt
  taken i = given a (past a.frame (Some i) None) (λ f. simply a kinds.Default (onward a f) [])

  abbrev by_values : ℕ → Outcome (List Value) → Attempt
  by_values i o = given a o (λ vs. taken i)

  defaulted : (i : ℕ) → default_from 1 ws ≡ Some i → Ends frame s (choose a ws choices.Default) (if_none_ready ws (by_values i (values_of ws)))
  defaulted i there = ap (λ o. leaf t (default a ws o)) there

  default_values : (i : ℕ) (o : Outcome (List Value)) → AreChannels s → Sound frame s (choose a ws choices.Default) → default_from 1 ws ≡ Some i
      → list_any (can_proceed s) ws ≡ false → values_of ws ≡ o → Ends frame s (choose a ws choices.Default) (by_values i o)
  default_values i o valid sound there none values =
      let ends = defaulted i there in
      ends ∙ none_ready frame s ws (by_values i (values_of ws)) valid (λ e. sound (ends ∙ e)) none ∙ ap (λ o. leaf t (by_values i o)) values

  pub default_is_taken : DefaultIsTaken frame s a ws
  default_is_taken i vs on g valid sound there none values passes is =
      same_end_same_step frame _ _ s _ _
      (default_values i (gives vs) valid sound there none values ∙ ap (λ o. leaf t (given a o (λ f. simply a kinds.Default (onward a f) []))) passes)
      (doing_is_a_step frame s (with_goroutine s a.name (Some g)) a None None kinds.Default (onward a on) g [] is refl)

  pub default_faults : DefaultFaults frame s a ws
  default_faults i e g valid sound there none values is =
      same_end_same_step frame _ _ s _ _ (default_values i (faults e) valid sound there none values) (fault_is_a_step frame s a None e g is)

  pub default_is_none : DefaultIsNone frame s a ws
  default_is_none none = ap (λ o. leaf t (default a ws o)) none

  pub default_is_late : DefaultIsLate frame s a ws
  default_is_late i valid sound there some =
      let ends = defaulted i there in
      ends ∙ some_ready_is_sound frame s ws (by_values i (values_of ws)) valid (λ e. sound (ends ∙ e)) some

  pub default_has_values : DefaultHasValues frame s a ws
  default_has_values i valid sound there none = (
    λ e. sound (default_values i wrong valid sound there none e),
    λ vs values e. sound (default_values i (gives vs) valid sound there none values
        ∙ ap (λ o. leaf t (given a o (λ f. simply a kinds.Default (onward a f) []))) e),
  )

  -- it waits
  abbrev waits_by : Outcome (List Value) → Attempt
  waits_by o = given a o (λ vs. wait a None kinds.SelectWait (numbered 1 ws))

  parked : default_from 1 ws ≡ None → Ends frame s (choose a ws choices.Park) (if_none_ready ws (waits_by (values_of ws)))
  parked none = ap (λ o. leaf t (park a ws o)) none

  park_values : (o : Outcome (List Value)) → AreChannels s → Sound frame s (choose a ws choices.Park) → default_from 1 ws ≡ None
      → list_any (can_proceed s) ws ≡ false → values_of ws ≡ o → Ends frame s (choose a ws choices.Park) (waits_by o)
  park_values o valid sound there none values =
      let ends = parked there in
      ends ∙ none_ready frame s ws (waits_by (values_of ws)) valid (λ e. sound (ends ∙ e)) none ∙ ap (λ o. leaf t (waits_by o)) values

  pub parking_waits : ParkingWaits frame s a ws
  parking_waits vs valid sound there none values = park_values (gives vs) valid sound there none values

  pub parking_faults : ParkingFaults frame s a ws
  parking_faults e g valid sound there none values is =
      same_end_same_step frame _ _ s _ _ (park_values (faults e) valid sound there none values) (fault_is_a_step frame s a None e g is)

  pub parking_has_default : ParkingHasDefault frame s a ws
  parking_has_default i there = ap (λ o. leaf t (park a ws o)) there

  pub parking_is_late : ParkingIsLate frame s a ws
  parking_is_late valid sound there some =
      let ends = parked there in
      ends ∙ some_ready_is_sound frame s ws (waits_by (values_of ws)) valid (λ e. sound (ends ∙ e)) some

  pub parking_has_values : ParkingHasValues frame s a ws
  parking_has_values valid sound there none e = sound (park_values wrong valid sound there none e)
