-- Steps of goroutines of code that reach beyond themselves, but for communications.
use Rattle.std.proofs.Common.{◌≡◌, ℕ, pos, true, false, List, [], ◌∷◌, length, Some, refl, ap, subst, ◌∙◌}
use Rattle.gr_base.specs.declared.values.Value.TheVariants.{Int, Chan}
use Rattle.gr_base.specs.declared.events.Event.{Event}
use Rattle.gr_program.specs.Programs.{Program}
use Rattle.gr_rules.specs.Deeds.{Leaves, Starts, Makes, TakesLen, TakesCap, Closes}
use Rattle.gr_rules.specs.Goroutines.{Status, waiting}
use Rattle.gr_rules.specs.Actors.{Actor}
use Rattle.gr_code.specs.Code.{Meanings}
use Rattle.gr_code.specs.CodeFrames.{ProgramCode, CodeFrame}
use Rattle.gr_code.specs.Goroutines.{CodeGoroutine, started, finished}
use Rattle.gr_code.specs.Programs.{frame_of}
use Rattle.gr_refine.specs.Contents.{Contents}
use Rattle.gr_refine.specs.Looks.{actor_of}
use Rattle.gr_refine.specs.Partners.{is_waiting}
use Rattle.gr_refine.specs.Tasks.{Acts}
use Rattle.gr_refine.specs.Arriving.{IsIn}
use Rattle.gr_refine.specs.CodeSteps.{next_channel, MakeOfCode, MakeCanArrive, GoOfCode, GoIsNew, LenOfCode, CapOfCode, CloseOfCode}
use Rattle.gr_refine.specs.CodeSteps.{CloseFindsWaiters, FinishOfCode, ExitOfCode}
use Rattle.gr_refine.proofs.MakeLemmas.{making_makes, making_goes_on, starting_starts, starting_is_new, counting_items, counting_places}
use Rattle.gr_refine.proofs.CloseLemmas.{closing_wakes, closing_finds_waiters}
use Rattle.gr_refine.proofs.GoingLemmas.{finishing_ends, finishing_ends_the_program}
use Rattle.gr_refine.proofs.TaskLemmas.{rule_is_a_step, rule_is_sound}
use Rattle.gr_refine.proofs.ArrivingLemmas.{value_arrives, channel_arrives, value_can_arrive, completion_arrives, completion_can_arrive, child_arrives}
use Rattle.gr_refine.proofs.ArrivingLemmas.{child_can_arrive}
use Rattle.gr_refine.proofs.StartingLemmas.{entered_is_ruled, can_be_entered}

module _ (means : ℕ → Meanings) (p : Program) (code : ProgramCode) (s : Contents) (e : Event) (g : CodeGoroutine) (f : CodeFrame)
    (below : List CodeFrame) where
  abbrev a : Actor
  a = actor_of (frame_of means code) p e g f below

  pub is_in : Acts means p code s e g f below → IsIn means p code g f below
  is_in acts = record { fits = acts.fits; frames = acts.up.frames; stand = acts.stand }

  pub make_of_code : MakeOfCode means p code s e g f below
  make_of_code n after acts is plain small few new arrives =
      let x = channel_arrives means p code e g f below (Chan (Some (next_channel e g))) after (is_in acts) arrives in
      rule_is_a_step means p code s e g f below (Makes (pos n)) _ _ acts is refl plain
      (making_makes (frame_of means code) s a n x.on after small few new x.is x.after)

  pub make_can_arrive : MakeCanArrive means p code s e g f below
  make_can_arrive n acts is plain sound small few =
      (value_can_arrive means p code e g f below (Chan (Some (next_channel e g))) (is_in acts)
      (making_goes_on (frame_of means code) s a n (rule_is_sound means p code s e g f below (Makes (pos n)) acts is refl plain sound) small few)).1

  pub go_of_code : GoOfCode means p code s e g f below
  go_of_code function vs first after acts is plain short few new enters arrives =
      rule_is_a_step means p code s e g f below (Starts function vs) _ _ acts is refl plain
      (starting_starts (frame_of means code) s a function vs (frame_of means code first) after (started first) short few new
      (entered_is_ruled means p code function vs first acts.fits enters).0 (child_arrives means p code e g f below after (is_in acts) arrives) refl)

  pub go_is_new : GoIsNew means p code s e g f below
  go_is_new function vs acts is plain sound short few =
      let new = starting_is_new (frame_of means code) s a function vs
      (rule_is_sound means p code s e g f below (Starts function vs) acts is refl plain sound) short few in
      (new.0, can_be_entered means p code function vs acts.fits new.1, child_can_arrive means p code e g f below function vs (is_in acts) is)

  pub len_of_code : LenOfCode means p code s e g f below
  len_of_code c x after acts is plain there arrives =
      let y = value_arrives means p code e g f below (Int (pos (length x.items))) after (is_in acts) arrives in
      rule_is_a_step means p code s e g f below (TakesLen (Some c)) _ _ acts is refl plain
      (counting_items (frame_of means code) s a c x there y.on after y.is y.after)

  pub cap_of_code : CapOfCode means p code s e g f below
  cap_of_code c x after acts is plain there arrives =
      let y = value_arrives means p code e g f below (Int (pos x.capacity)) after (is_in acts) arrives in
      rule_is_a_step means p code s e g f below (TakesCap (Some c)) _ _ acts is refl plain
      (counting_places (frame_of means code) s a c x there y.on after y.is y.after)

  -- one that is up waits for nothing
  not_waiting : Acts means p code s e g f below → is_waiting (s.goroutines e.go) ≡ false
  not_waiting acts = ap is_waiting acts.up.there ∙ ap (λ (status : Status). elim status [ waiting ws ↦ true | _ ↦ false ]) acts.up.is_ready

  pub close_of_code : CloseOfCode means p code s e g f below
  close_of_code c x after acts is plain there open_yet wait there_all arrives =
      rule_is_a_step means p code s e g f below (Closes (Some c)) _ _ acts is refl plain
      (closing_wakes (frame_of means code) s a c x after there open_yet (not_waiting acts) wait there_all
      (completion_arrives means p code e g f below after (is_in acts) arrives))

  pub close_finds_waiters : CloseFindsWaiters means p code s e g f below
  close_finds_waiters c x acts is plain sound there open_yet =
      let found = closing_finds_waiters (frame_of means code) s a c x there open_yet
      (rule_is_sound means p code s e g f below (Closes (Some c)) acts is refl plain sound) in
      (found.0, found.1, completion_can_arrive means p code e g f below (Some c) (is_in acts) is)

no_more : (c : CodeFrame) (cs : List CodeFrame) → ¬ (c ∷ cs ≡ [])
no_more c cs e = subst {0, 0} (λ fs. elim fs [ [] ↦ ⊥ | c ∷ cs ↦ Unit {0} ]) e tt

-- with no caller
pub finish_of_code : (means : ℕ → Meanings) (p : Program) (code : ProgramCode) (s : Contents) (e : Event) (g : CodeGoroutine) (f : CodeFrame)
    (below : List CodeFrame) → FinishOfCode means p code s e g f below
finish_of_code means p code s e g f [] v n ns acts is plain none name =
    rule_is_a_step means p code s e g f [] (Leaves v) _ _ acts is refl plain
    (finishing_ends (frame_of means code) s (actor_of (frame_of means code) p e g f []) v n ns (finished g) name refl)
finish_of_code means p code s e g f (c ∷ cs) v n ns acts is plain none name = absurd (no_more c cs none)

pub exit_of_code : (means : ℕ → Meanings) (p : Program) (code : ProgramCode) (s : Contents) (e : Event) (g : CodeGoroutine) (f : CodeFrame)
    (below : List CodeFrame) → ExitOfCode means p code s e g f below
exit_of_code means p code s e g f [] v acts is plain none name =
    rule_is_a_step means p code s e g f [] (Leaves v) _ _ acts is refl plain
    (finishing_ends_the_program (frame_of means code) s (actor_of (frame_of means code) p e g f []) v (finished g) name refl)
exit_of_code means p code s e g f (c ∷ cs) v acts is plain none name = absurd (no_more c cs none)
