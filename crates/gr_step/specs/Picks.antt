-- A pick of a clause that receives at a select in which no clause sends (Go: Select statements).
use Rattle.std.specs.Prelude.{◌≡◌, ℕ, Bool, true, false, List, Some}
use Rattle.std.specs.List.{list_any}
use Rattle.gr_base.specs.declared.events.Event.{Event}
use Rattle.gr_program.specs.Programs.{Program}
use Rattle.gr_program.specs.TypeViews.{literal_of}
use Rattle.gr_rules.specs.Outcomes.{gives}
use Rattle.gr_rules.specs.Operands.{value_of}
use Rattle.gr_rules.specs.Evaluation.{Variables}
use Rattle.gr_rules.specs.Deeds.{Receiving}
use Rattle.gr_rules.specs.Attempts.{refuse, no_such_choice}
use Rattle.gr_rules.specs.Communications.{receive}
use Rattle.gr_rules.specs.Steps.{attempt}
use Rattle.gr_code.specs.Instructions.{Arm, SendArm}
use Rattle.gr_code.specs.Programs.{IsClause}
use Rattle.gr_refine.specs.Arriving.{HasClauseHere}
use Rattle.gr_refine.specs.Contents.{Contents}
use Rattle.gr_refine.specs.Looks.{Ends}
use Rattle.gr_goros.specs.Needs.{clause_by}
use Rattle.gr_lower.specs.Lowered.{lowered}
use Rattle.gr_step.specs.declared.picking.Picked.{Picked}
use Rattle.gr_record.specs.Listings.{frame_in}
use Rattle.gr_step.specs.Possible.{arm_at}
use Rattle.gr_step.specs.Premises.{OfGoroutine, OfActor}

abbrev pub is_send : Arm → Bool
is_send a = elim a [ SendArm channel value on ↦ true | _ ↦ false ]

-- the arm with the number receives from this channel, and no arm sends
pub record PicksArm (cells : Variables) (arms : List Arm) (number : ℕ) (x : Picked) : Type 0 where
  pub arm : Arm
  pub numbered : x.case ≡ number
  pub there : arm_at arms number ≡ Some arm
  pub clause : clause_by cells arm ≡ gives (Receiving (Some x.channel) (value_of (literal_of x.zero)))
  pub none_sends : list_any is_send arms ≡ false

-- the step of the event is that its goroutine receives in this clause, where it is refused as no choice if it cannot
pub record PicksReceive (p : Program) (e : Event) (s : Contents) (x : Picked) : Type 0 where
  pub clause : OfGoroutine e s (λ g. IsClause (Some x.case) × HasClauseHere (lowered p) g.frames (Some x.case))
  pub step : OfActor p e s
      (λ a. Ends (frame_in p) s (attempt p e) (receive a (Some x.case) x.channel (value_of (literal_of x.zero)) (refuse no_such_choice)))
