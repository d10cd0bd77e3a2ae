-- What arrives for a goroutine of code leaves it as the rules leave theirs.
use Rattle.std.proofs.Common.{◌≡◌, ℕ, ◌+◌, Bool, List, ◌∷◌, Option, Some, None, refl, sym, ap, subst, ◌∙◌}
use Rattle.gr_base.specs.declared.values.Value as values
use Rattle.gr_base.specs.declared.events.Event.{Event}
use Rattle.gr_program.specs.Programs.{Program}
use Rattle.gr_rules.specs.Outcomes.{Outcome, gives, faults, wrong, ◌>>=◌}
use Rattle.gr_rules.specs.Frames.{Frame, goes_on}
use Rattle.gr_rules.specs.Deeds.{resumed, past}
use Rattle.gr_rules.specs.Goroutines.{Goroutine}
use Rattle.gr_rules.specs.Actors.{Actor, onward}
use Rattle.gr_code.specs.Instructions.{Instruction}
use Rattle.gr_code.specs.Code.{Meanings, HasClause, IfGiven}
use Rattle.gr_code.specs.CodeFrames.{ProgramCode, CodeFrame, instruction_at, task, after_in, resumed_in, past_in}
use Rattle.gr_code.specs.Goroutines.{CodeGoroutine, task_of, with_frames, Arrival, Value, Channel, Completion, Child, Passes, past_arrival}
use Rattle.gr_code.specs.Goroutines.{frames_past, with_arrival, arrived}
use Rattle.gr_code.specs.Programs.{Stands, IsClause, frame_of, frame_meant, deed_meant}
use Rattle.gr_code.proofs.Standing.{after as after_alike, resumed_alike, past_alike}
use Rattle.gr_code.proofs.Choices.{goes_past, has_clause}
use Rattle.gr_refine.specs.Contents.{goroutine_of}
use Rattle.gr_refine.specs.Looks.{actor_of}
use Rattle.gr_refine.specs.Arriving.{IsIn, HasClauseHere, ValueArrives, ChannelArrives, ValueCanArrive, CompletionArrives, ChildArrives}
use Rattle.gr_refine.specs.Arriving.{CompletionCanArrive, ChildCanArrive, PassingArrives, PassingCanArrive, SelectHasClauses, ParkedIsRuled}
use Rattle.gr_refine.specs.Arriving.{FinishedIsRuled, FaultedIsRuled}
use Rattle.gr_refine.proofs.TaskLemmas.{all_stand, instruction, at_it, task_is, deed_is}
use Rattle.gr_refine.proofs.LocalLemmas.{given_is, never, faults_never}
use Rattle.gr_refine.proofs.WithinLemmas.{HasAfter, has_after}

-- frames past an arrival, taken apart
pub taken : (o : Outcome CodeFrame) (below : List CodeFrame) (k : List CodeFrame → CodeGoroutine) (after : CodeGoroutine)
    → ((o >>= λ on. gives (on ∷ below)) >>= λ fs. gives (k fs)) ≡ gives after → (on : CodeFrame) × (o ≡ gives on) × (k (on ∷ below) ≡ after)
taken (gives on) below k after e = (on, refl, given_is e)
taken (faults x) below k after e = absurd (faults_never x e)
taken wrong below k after e = absurd (never e)

-- frames past an arrival that are wrong
pub untaken : (o : Outcome CodeFrame) (below : List CodeFrame) (k : List CodeFrame → CodeGoroutine)
    → ((o >>= λ on. gives (on ∷ below)) >>= λ fs. gives (k fs)) ≡ wrong → o ≡ wrong
untaken (gives on) below k e = absurd (never (sym e))
untaken (faults x) below k e = absurd (subst {0, 0} (λ (o : Outcome CodeGoroutine). elim o [ faults _ ↦ Unit {0} | _ ↦ ⊥ ]) e tt)
untaken wrong below k e = refl

module _ (means : ℕ → Meanings) (p : Program) (code : ProgramCode) (g : CodeGoroutine) (f : CodeFrame) (below : List CodeFrame)
    (is_in : IsIn means p code g f below) where
  pub here : Instruction
  here = instruction means p code g f below is_in.fits is_in.frames is_in.stand

  pub at_here : instruction_at code f ≡ Some here
  unfolding here
  at_here = at_it means p code g f below is_in.fits is_in.frames is_in.stand

  pub task_here : task_of code g ≡ task f here
  unfolding here
  task_here = task_is means p code g f below is_in.fits is_in.frames is_in.stand

  stands_here : Stands means code f
  stands_here = (all_stand means p code g f below is_in.fits is_in.frames is_in.stand).0

  -- what arrives, by the instruction
  pub arrives_here : (a : Arrival) → arrived code a g ≡ (past_arrival a f here >>= λ on. gives (on ∷ below)) >>= λ fs. gives (with_arrival a g fs)
  arrives_here a =
      ap (λ fs. frames_past code a fs >>= λ fs. gives (with_arrival a g fs)) is_in.frames
      ∙ ap (λ o. (elim o [ Some k ↦ gives k | None ↦ wrong ] >>= λ i. past_arrival a f i >>= λ on. gives (on ∷ below))
      >>= λ fs. gives (with_arrival a g fs)) at_here

  resumes_here : (v : values.Value) (r : Outcome CodeFrame) → resumed_in f here v ≡ r
      → resumed (frame_of means code f) v ≡ frame_meant means code r
  resumes_here v r is = resumed_alike means p code is_in.fits f stands_here here at_here v ∙ ap (frame_meant means code) is

  after_here : (on : CodeFrame) → after_in f here ≡ gives on → goes_on (frame_of means code f) ≡ frame_of means code on
  after_here on is = subst {_, _} (IfGiven (λ h. goes_on (frame_of means code f) ≡ frame_of means code h)) is
      (after_alike means p code is_in.fits f stands_here here at_here)

  pub past_here : (clause : Option ℕ) (got : Option (values.Value × Bool)) (on : CodeFrame) → IsClause clause → past_in f here clause got ≡ gives on
      → past (frame_of means code f) clause got ≡ gives (frame_of means code on)
  past_here clause got on h is = subst {_, _} (IfGiven (λ h. past (frame_of means code f) clause got ≡ gives (frame_of means code h))) is
      (goes_past means p code is_in.fits f stands_here here at_here clause got h)

  clause_here : (clause : Option ℕ) → HasClauseHere code g.frames clause → HasClause here clause
  clause_here clause h = subst {_, _} (λ (o : Option Instruction). IfGiven (λ i. HasClause i clause) (elim o [ Some k ↦ gives k | None ↦ wrong ])) at_here
      (subst {_, _} (λ fs. HasClauseHere code fs clause) is_in.frames h)

  has_here : (clause : Option ℕ) → HasClause here clause → HasClauseHere code g.frames clause
  has_here clause h = subst {_, _} (λ fs. HasClauseHere code fs clause) (sym is_in.frames)
      (subst {_, _} (λ (o : Option Instruction). IfGiven (λ i. HasClause i clause) (elim o [ Some k ↦ gives k | None ↦ wrong ])) (sym at_here) h)

  pub not_past_here : (clause : Option ℕ) (got : Option (values.Value × Bool)) → HasClauseHere code g.frames clause → past_in f here clause got ≡ wrong
      → past (frame_of means code f) clause got ≡ wrong
  not_past_here clause got h is =
      past_alike means p code is_in.fits f stands_here here at_here clause got (clause_here clause h) ∙ ap (frame_meant means code) is

module _ (means : ℕ → Meanings) (p : Program) (code : ProgramCode) (e : Event) (g : CodeGoroutine) (f : CodeFrame) (below : List CodeFrame) where
  abbrev a : Actor
  a = actor_of (frame_of means code) p e g f below

  abbrev as_ruled : CodeGoroutine → Goroutine
  as_ruled = goroutine_of (frame_of means code)

  pub value_arrives : ValueArrives means p code e g f below
  value_arrives v after k is =
      let t = taken (resumed_in f (here means p code g f below k) v) below (with_frames g) after (sym (arrives_here means p code g f below k (Value v)) ∙ is) in
      record { on = frame_of means code t.0; is = resumes_here means p code g f below k v (gives t.0) t.1; after = ap as_ruled (sym t.2) }

  pub channel_arrives : ChannelArrives means p code e g f below
  channel_arrives v after k is =
      let t = taken (resumed_in f (here means p code g f below k) v) below (with_arrival (Channel v) g) after
      (sym (arrives_here means p code g f below k (Channel v)) ∙ is) in
      record { on = frame_of means code t.0; is = resumes_here means p code g f below k v (gives t.0) t.1; after = ap as_ruled (sym t.2) }

  pub value_can_arrive : ValueCanArrive means p code e g f below
  value_can_arrive v k goes = (
    λ is. goes (resumes_here means p code g f below k v wrong
        (untaken (resumed_in f (here means p code g f below k) v) below (with_frames g) (sym (arrives_here means p code g f below k (Value v)) ∙ is))),
    λ is. goes (resumes_here means p code g f below k v wrong
        (untaken (resumed_in f (here means p code g f below k) v) below (with_arrival (Channel v) g)
        (sym (arrives_here means p code g f below k (Channel v)) ∙ is))),
  )

  pub completion_arrives : CompletionArrives means p code e g f below
  completion_arrives after k is =
      let t = taken (after_in f (here means p code g f below k)) below (with_frames g) after (sym (arrives_here means p code g f below k Completion) ∙ is) in
      ap as_ruled (sym t.2) ∙ ap (onward a) (sym (after_here means p code g f below k t.0 t.1))

  pub child_arrives : ChildArrives means p code e g f below
  child_arrives after k is =
      let t = taken (after_in f (here means p code g f below k)) below (with_arrival Child g) after (sym (arrives_here means p code g f below k Child) ∙ is) in
      ap as_ruled (sym t.2) ∙ ap (λ (h : Frame). record (onward a h) { children = g.children + 1 }) (sym (after_here means p code g f below k t.0 t.1))

  pub completion_can_arrive : CompletionCanArrive means p code e g f below
  completion_can_arrive c k is none =
      subst {_, _} (IfGiven (HasAfter (after_in f (here means p code g f below k)))) (sym (task_here means p code g f below k) ∙ is)
      (has_after f (here means p code g f below k))
      (untaken (after_in f (here means p code g f below k)) below (with_frames g) (sym (arrives_here means p code g f below k Completion) ∙ none))

  pub child_can_arrive : ChildCanArrive means p code e g f below
  child_can_arrive function vs k is none =
      subst {_, _} (IfGiven (HasAfter (after_in f (here means p code g f below k)))) (sym (task_here means p code g f below k) ∙ is)
      (has_after f (here means p code g f below k))
      (untaken (after_in f (here means p code g f below k)) below (with_arrival Child g) (sym (arrives_here means p code g f below k Child) ∙ none))

  pub passing_arrives : PassingArrives means p code e g f below
  passing_arrives clause got after k h is =
      let t = taken (past_in f (here means p code g f below k) clause got) below (with_frames g) after
      (sym (arrives_here means p code g f below k (Passes clause got)) ∙ is) in
      record { on = frame_of means code t.0; is = past_here means p code g f below k clause got t.0 h t.1; after = ap as_ruled (sym t.2) }

  pub passing_can_arrive : PassingCanArrive means p code e g f below
  passing_can_arrive clause got k h goes none =
      goes (not_past_here means p code g f below k clause got h (untaken (past_in f (here means p code g f below k) clause got) below (with_frames g)
      (sym (arrives_here means p code g f below k (Passes clause got)) ∙ none)))

  pub select_has_clauses : SelectHasClauses means p code e g f below
  select_has_clauses cs number k is h =
      has_here means p code g f below k (Some number)
      (has_clause means code f p k.fits (stands_here means p code g f below k) (here means p code g f below k) (at_here means p code g f below k) cs number
      (deed_is means p code g f below k.fits k.frames k.stand ∙ ap (deed_meant means code) is) h)

  pub parked_is_ruled : ParkedIsRuled means p code e g f below
  parked_is_ruled ws = refl

  pub finished_is_ruled : FinishedIsRuled means p code e g f below
  finished_is_ruled = refl

  pub faulted_is_ruled : FaultedIsRuled means p code e g f below
  faulted_is_ruled = refl
