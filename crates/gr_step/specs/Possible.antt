-- Which choices of a select are possible, by its clauses, and by the arms of its instruction (Go: Select statements).
use Rattle.std.specs.Prelude.{ℕ, zero, suc, ◌+◌, if◌then◌else◌, Bool, true, false, ◌&&◌, not, is_some, is_none, List, [], ◌∷◌, slice_get, Option, Some, None}
use Rattle.std.specs.List.{list_any}
use Rattle.std.specs.Option.{option_map_or}
use Rattle.gr_base.specs.declared.names.ChName.{ChName}
use Rattle.gr_base.specs.declared.events.Choice.{Choice}
use Rattle.gr_base.specs.declared.events.Choice.TheVariants.{Plain, Pick, Default, Park}
use Rattle.gr_rules.specs.Outcomes.{Outcome, gives}
use Rattle.gr_rules.specs.Evaluation.{Variables}
use Rattle.gr_rules.specs.Deeds.{Communication}
use Rattle.gr_rules.specs.Actors.{clause_at}
use Rattle.gr_rules.specs.Selects.{default_from}
use Rattle.gr_code.specs.Instructions.{Arm, DefaultArm}
use Rattle.gr_refine.specs.Contents.{Contents}
use Rattle.gr_refine.specs.Partners.{can_proceed}
use Rattle.gr_goros.specs.Needs.{clause_by}

abbrev pub is_given : {A : Type 0} → Outcome A → Bool
is_given o = elim o [ gives x ↦ true | _ ↦ false ]

-- the channel that is given, if one is
abbrev pub channel_given : Outcome (Option ChName) → Option ChName
channel_given o = elim o [ gives c ↦ c | _ ↦ None ]

-- whether a choice of a select with these clauses is possible
abbrev pub choice_goes : Contents → List Communication → Choice → Bool
choice_goes s ws Plain = false
choice_goes s ws (Pick i) = option_map_or (can_proceed s) (clause_at ws i) false
choice_goes s ws Default = is_some (default_from 1 ws) && not (list_any (can_proceed s) ws)
choice_goes s ws Park = is_none (default_from 1 ws) && not (list_any (can_proceed s) ws)

-- an arm whose clause is there, one whose clause can proceed, and the default one
abbrev pub arm_given : Variables → Arm → Bool
arm_given cells a = is_given (clause_by cells a)

abbrev pub goes_by : Contents → Outcome Communication → Bool
goes_by s o = elim o [ gives w ↦ can_proceed s w | _ ↦ false ]

abbrev pub arm_goes : Contents → Variables → Arm → Bool
arm_goes s cells a = goes_by s (clause_by cells a)

abbrev pub is_default : Arm → Bool
is_default a = elim a [ DefaultArm on ↦ true | _ ↦ false ]

-- the arm with a number, counted from 1
abbrev pub arm_at : List Arm → ℕ → Option Arm
arm_at arms zero = None
arm_at arms (suc i) = slice_get arms i

-- whether a choice can be taken, by the arms of its select
abbrev pub arms_go : Contents → Variables → List Arm → Choice → Bool
arms_go s cells arms Plain = false
arms_go s cells arms (Pick i) = option_map_or (arm_goes s cells) (arm_at arms i) false
arms_go s cells arms Default = list_any is_default arms && not (list_any (arm_goes s cells) arms)
arms_go s cells arms Park = not (list_any is_default arms) && not (list_any (arm_goes s cells) arms)

-- the number of the first arm whose clause can proceed, counted from i
abbrev pub first_going : Contents → Variables → ℕ → List Arm → Option ℕ
first_going s cells i [] = None
first_going s cells i (a ∷ arms) = if arm_goes s cells a then Some i else first_going s cells (i + 1) arms

-- the choice that is taken where none is asked for: the first clause that can proceed, else default, else to wait
abbrev pub usual_of : Contents → Variables → List Arm → Choice
usual_of s cells arms = elim (first_going s cells 1 arms) [ Some i ↦ Pick i | None ↦ if list_any is_default arms then Default else Park ]
