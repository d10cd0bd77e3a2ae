-- A communication that proceeds, or cannot and is waited for.
use Rattle.std.proofs.Common.{◌≡◌, ℕ, List, ◌∷◌, Option, Some, None, refl, sym, ap, subst, ◌∙◌}
use Rattle.gr_base.specs.declared.events.Choice.TheVariants as choices
use Rattle.gr_base.specs.declared.events.Event.{Event}
use Rattle.gr_base.specs.declared.names.ChName.{ChName}
use Rattle.gr_base.specs.declared.values.Value.{Value}
use Rattle.gr_program.specs.Programs.{Program}
use Rattle.gr_rules.specs.Outcomes.{gives}
use Rattle.gr_rules.specs.Deeds.{Communication, Communicates}
use Rattle.gr_rules.specs.Attempts.{Attempt}
use Rattle.gr_rules.specs.Actors.{Actor}
use Rattle.gr_rules.specs.Communications.{proceed_or_wait}
use Rattle.gr_rules.specs.Steps.{attempt}
use Rattle.gr_code.specs.CodeFrames.{CodeFrame, Wants}
use Rattle.gr_code.specs.Goroutines.{CodeGoroutine, task_of}
use Rattle.gr_refine.specs.Contents.{Contents}
use Rattle.gr_refine.specs.Looks.{Ends, actor_of}
use Rattle.gr_refine.specs.Presence.{Sound}
use Rattle.gr_refine.specs.Tasks.{Acts}
use Rattle.gr_refine.proofs.PerformingLemmas.{same_end_same_step}
use Rattle.gr_refine.proofs.TaskLemmas.{attempt_is_of_the_rule}
use Rattle.gr_lower.specs.Lowered.{lowered, meaning}
use Rattle.gr_step.specs.declared.objects.Objects.{Objects}
use Rattle.gr_record.specs.Effects.{Effect}
use Rattle.gr_record.specs.Listings.{frame_in}
use Rattle.gr_step.specs.Objects.{contents_in}
use Rattle.gr_step.specs.Premises.{Acting, OfGoroutine, OfActor}
use Rattle.gr_record.specs.Taking.{Takes}
use Rattle.gr_step.specs.Communicating.{Trial, TrialIsSound, Tried}
use Rattle.gr_step.proofs.RunningLemmas.{code_fits, never_unsound, acts_here}
use Rattle.gr_step.proofs.EventLemmas.{some_is}

-- an attempt that ends in the same is the same step
pub takes_as : (p : Program) (e : Event) (a b : Attempt) (s t : Contents) (c : Effect)
    → Ends (frame_in p) s a b → Takes p e b s c t → Takes p e a s c t
takes_as p e a b s t c same h = record {
  report = h.report;
  steps = same_end_same_step (frame_in p) a b s t h.report same h.steps;
  ordinal = h.ordinal;
  kind = h.kind;
  printed = h.printed;
  operation = h.operation;
  writes = h.writes;
  reads = h.reads;
  back = h.back;
  fits = h.fits;
  stand = h.stand;
  within = h.within;
}

-- what is asked for, by which channel it is
pub task_at : (p : Program) (e : Event) (s : Contents) (make : Option ChName → Communication) (channel known : Option ChName) → channel ≡ known
    → OfGoroutine e s (λ g. task_of (lowered p) g ≡ gives (Wants (Communicates (make channel))))
    → OfGoroutine e s (λ g. task_of (lowered p) g ≡ gives (Wants (Communicates (make known))))
task_at p e s make channel known is task =
    subst (λ o. OfGoroutine e s (λ g. task_of (lowered p) g ≡ gives (Wants (Communicates (make o))))) is task

-- what was tried, by the value and by how it ended
pub tried_as : (p : Program) (e : Event) (s : Contents) (trial : Value → Trial) (copy v : Value) → copy ≡ v → (o known : Option Effect) → o ≡ known
    → (t : Contents) → Tried p e (trial copy) s o t → Tried p e (trial v) s known t
tried_as p e s trial copy v same o known is t tried =
    subst (λ c. Tried p e (trial v) s c t) is (subst (λ w. Tried p e (trial w) s o t) same tried)

module _ (p : Program) (e : Event) (number : ℕ) (o : Objects) (a : Acting p e number o) (plain : e.choice ≡ choices.Plain) (c : Communication)
    (task : OfGoroutine e (contents_in o) (λ g. task_of (lowered p) g ≡ gives (Wants (Communicates c)))) (trial : Trial) (rest : Actor → Attempt)
    (is : (b : Actor) → proceed_or_wait b c ≡ trial b (rest b)) where
  abbrev s : Contents
  s = contents_in o

  acts_as : (g : CodeGoroutine) (f : CodeFrame) (below : List CodeFrame) → s.goroutines e.go ≡ Some g → g.frames ≡ f ∷ below
      → Acts (meaning p) p (lowered p) s e g f below
  acts_as g f below there frames = record {
    fits = code_fits p s a.running;
    up = record {
      runs = a.runs;
      there = there;
      is_ready = ap (λ (x : CodeGoroutine). x.status) (some_is (sym there ∙ a.there)) ∙ a.is_ready;
      frames = frames;
    };
    stand = a.running.stand e.go g there;
  }

  -- the attempt is the trial of what is wanted
  tries : OfActor p e s (λ b. Ends (frame_in p) s (attempt p e) (trial b (rest b)))
  tries g f below there frames =
      subst (Ends (frame_in p) s (attempt p e)) (is (actor_of (frame_in p) p e g f below))
      (attempt_is_of_the_rule (meaning p) p (lowered p) s e g f below (Communicates c) (acts_as g f below there frames) (task g there) refl plain)

  tried_soundly : OfActor p e s (λ b. Sound (frame_in p) s (trial b (rest b)))
  tried_soundly g f below there frames bad = never_unsound p s a.running e (tries g f below there frames ∙ bad)

  pub trial_is_sound : TrialIsSound p e s trial
  trial_is_sound g f below there frames = (rest (actor_of (frame_in p) p e g f below), tried_soundly g f below there frames)

  -- it proceeds
  pub took : (change : Effect) (t : Contents) → Tried p e trial s (Some change) t → Takes p e (attempt p e) s change t
  took change t tried =
      let h = acts_here p e number o a in
      takes_as p e _ _ s t change (tries a.goroutine h.f h.below a.there h.acts.up.frames)
      (tried a.goroutine h.f h.below a.there h.acts.up.frames (rest (actor_of (frame_in p) p e a.goroutine h.f h.below)))

  -- it cannot, and is waited for
  module _ (m : Contents) (tried : Tried p e trial s None m) where
    pub rest_is_sound : OfActor p e m (λ b. Sound (frame_in p) m (rest b))
    rest_is_sound = subst (λ x. OfActor p e x (λ b. Sound (frame_in p) x (rest b))) (sym tried.0)
        (λ g f below there frames bad. tried_soundly g f below there frames
        (tried.1 g f below there frames (rest (actor_of (frame_in p) p e g f below)) ∙ bad))

    pub waited : (change : Effect) (t : Contents) → OfActor p e m (λ b. Takes p e (rest b) m change t) → Takes p e (attempt p e) s change t
    waited change t takes =
        let h = acts_here p e number o a in
        let b = actor_of (frame_in p) p e a.goroutine h.f h.below in
        let rested = subst (λ x. OfActor p e x (λ b. Takes p e (rest b) x change t)) tried.0 takes in
        takes_as p e _ _ s t change
        (tries a.goroutine h.f h.below a.there h.acts.up.frames ∙ tried.1 a.goroutine h.f h.below a.there h.acts.up.frames (rest b))
        (rested a.goroutine h.f h.below a.there h.acts.up.frames)
