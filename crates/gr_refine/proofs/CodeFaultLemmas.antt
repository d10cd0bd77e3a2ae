-- Faults of goroutines of code that the rules find beyond the goroutine, and counts of nil.
use Rattle.std.proofs.Common.{ℕ, pos, negsuc, List, length, Some, None, refl}
use Rattle.gr_base.specs.declared.values.Value.TheVariants.{Int}
use Rattle.gr_base.specs.declared.events.Event.{Event}
use Rattle.gr_program.specs.Programs.{Program}
use Rattle.gr_rules.specs.Deeds.{Starts, Makes, TakesLen, TakesCap, Closes}
use Rattle.gr_rules.specs.Actors.{Actor}
use Rattle.gr_code.specs.Code.{Meanings}
use Rattle.gr_code.specs.CodeFrames.{ProgramCode, CodeFrame}
use Rattle.gr_code.specs.Goroutines.{CodeGoroutine, faulted}
use Rattle.gr_code.specs.Programs.{frame_of}
use Rattle.gr_refine.specs.Contents.{Contents}
use Rattle.gr_refine.specs.Looks.{actor_of}
use Rattle.gr_refine.specs.CodeFaults.{MakeOfNegative, MakeOfGreat, MakeOfTooMany, GoTooDeep, GoTooMany, CloseNil, CloseTwice, LenOfNil, CapOfNil}
use Rattle.gr_refine.specs.CodeFaults.{LenCanArrive, CapCanArrive}
use Rattle.gr_refine.proofs.MakeLemmas.{making_of_negative_faults, making_of_great_faults, making_too_many_faults, starting_too_deep_faults}
use Rattle.gr_refine.proofs.MakeLemmas.{starting_too_many_faults, counting_items_of_nil, counting_places_of_nil, counting_items_goes_on}
use Rattle.gr_refine.proofs.MakeLemmas.{counting_places_goes_on}
use Rattle.gr_refine.proofs.CloseLemmas.{closing_of_nil_faults, closing_of_closed_faults}
use Rattle.gr_refine.proofs.TaskLemmas.{rule_is_a_step, rule_is_sound}
use Rattle.gr_refine.proofs.ArrivingLemmas.{value_arrives, value_can_arrive}
use Rattle.gr_refine.proofs.CodeStepLemmas.{is_in}

module _ (means : ℕ → Meanings) (p : Program) (code : ProgramCode) (s : Contents) (e : Event) (g : CodeGoroutine) (f : CodeFrame)
    (below : List CodeFrame) where
  abbrev a : Actor
  a = actor_of (frame_of means code) p e g f below

  pub make_of_negative : MakeOfNegative means p code s e g f below
  make_of_negative n acts is plain =
      rule_is_a_step means p code s e g f below (Makes (negsuc n)) _ _ acts is refl plain
      (making_of_negative_faults (frame_of means code) s a n (faulted g) refl)

  pub make_of_great : MakeOfGreat means p code s e g f below
  make_of_great n acts is plain great =
      rule_is_a_step means p code s e g f below (Makes (pos n)) _ _ acts is refl plain
      (making_of_great_faults (frame_of means code) s a n (faulted g) great refl)

  pub make_of_too_many : MakeOfTooMany means p code s e g f below
  make_of_too_many n acts is plain small many =
      rule_is_a_step means p code s e g f below (Makes (pos n)) _ _ acts is refl plain
      (making_too_many_faults (frame_of means code) s a n (faulted g) small many refl)

  pub go_too_deep : GoTooDeep means p code s e g f below
  go_too_deep function vs acts is plain long =
      rule_is_a_step means p code s e g f below (Starts function vs) _ _ acts is refl plain
      (starting_too_deep_faults (frame_of means code) s a function vs (faulted g) long refl)

  pub go_too_many : GoTooMany means p code s e g f below
  go_too_many function vs acts is plain short many =
      rule_is_a_step means p code s e g f below (Starts function vs) _ _ acts is refl plain
      (starting_too_many_faults (frame_of means code) s a function vs (faulted g) short many refl)

  pub close_nil : CloseNil means p code s e g f below
  close_nil acts is plain =
      rule_is_a_step means p code s e g f below (Closes None) _ _ acts is refl plain
      (closing_of_nil_faults (frame_of means code) s a (faulted g) refl)

  pub close_twice : CloseTwice means p code s e g f below
  close_twice c x acts is plain there shut =
      rule_is_a_step means p code s e g f below (Closes (Some c)) _ _ acts is refl plain
      (closing_of_closed_faults (frame_of means code) s a c x (faulted g) there shut refl)

  pub len_of_nil : LenOfNil means p code s e g f below
  len_of_nil after acts is plain arrives =
      let y = value_arrives means p code e g f below (Int (pos 0)) after (is_in means p code s e g f below acts) arrives in
      rule_is_a_step means p code s e g f below (TakesLen None) _ _ acts is refl plain
      (counting_items_of_nil (frame_of means code) s a y.on after y.is y.after)

  pub cap_of_nil : CapOfNil means p code s e g f below
  cap_of_nil after acts is plain arrives =
      let y = value_arrives means p code e g f below (Int (pos 0)) after (is_in means p code s e g f below acts) arrives in
      rule_is_a_step means p code s e g f below (TakesCap None) _ _ acts is refl plain
      (counting_places_of_nil (frame_of means code) s a y.on after y.is y.after)

  pub len_can_arrive : LenCanArrive means p code s e g f below
  len_can_arrive c acts is plain sound =
      let x = counting_items_goes_on (frame_of means code) s a c
      (rule_is_sound means p code s e g f below (TakesLen (Some c)) acts is refl plain sound) in
      (x.0, x.1, (value_can_arrive means p code e g f below (Int (pos (length x.0.items))) (is_in means p code s e g f below acts) x.2).0)

  pub cap_can_arrive : CapCanArrive means p code s e g f below
  cap_can_arrive c acts is plain sound =
      let x = counting_places_goes_on (frame_of means code) s a c
      (rule_is_sound means p code s e g f below (TakesCap (Some c)) acts is refl plain sound) in
      (x.0, x.1, (value_can_arrive means p code e g f below (Int (pos x.0.capacity)) (is_in means p code s e g f below acts) x.2).0)
