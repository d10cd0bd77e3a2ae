-- Events that are no steps, and steps that the rules allow.
use Rattle.std.proofs.Common.{◌≡◌, ℕ, List, Option, None, sym, ap, subst, ◌∙◌}
use Rattle.gr_base.specs.declared.events.Choice.{Choice}
use Rattle.gr_base.specs.declared.events.Event.{Event}
use Rattle.gr_program.specs.Programs.{Program}
use Rattle.gr_rules.specs.Steps.{refusal}
use Rattle.gr_refine.specs.Contents.{Contents}
use Rattle.gr_step.specs.Record.{Record}
use Rattle.gr_step.specs.declared.refusal.StepRefused.{StepRefused}
use Rattle.gr_step.specs.declared.refusal.StepRefused.TheVariants as refusals
use Rattle.gr_step.specs.Listings.{frame_in, state_in}
use Rattle.gr_step.specs.Running.{Running}
use Rattle.gr_step.specs.Records.{event_of}
use Rattle.gr_step.specs.Stores.{program_at, contents_at, state_at}
use Rattle.gr_step.specs.Taking.{IsRecord}
use Rattle.gr_step.specs.Refusals.{SaysWhy}
use Rattle.gr_rollback.specs.declared.course.Course.{Course}
use Rattle.gr_rollback.specs.Courses.{Holds}
use Rattle.gr_rollback.specs.Pasts.{Past}
use Rattle.gr_rollback.specs.Stepping.{event_meant}
use Rattle.gr_rollback.specs.Steps.{IsNoStep}
use Rattle.gr_rollback.proofs.OwnerLemmas.{step_is_allowed}

-- a run leads to what the store of a course contains
pub running_of : (p : Program) (w : Past p) (c : Course) → Holds p w c → Running p (contents_at c.store)
running_of p w c s = subst (λ q. Running q (contents_at c.store)) s.program s.run.running

-- why the store refuses an event is why it is no step
says_here : (p : Program) (s : Contents) (w : Past p) (e : Event) (why : StepRefused) → w.state ≡ state_in p s → SaysWhy p s e why → IsNoStep p w e why
says_here p s w e refusals.Over same says = ap (λ t. refusal p t e) same ∙ says
says_here p s w e refusals.NotThere same says = ap (λ t. refusal p t e) same ∙ says
says_here p s w e refusals.Done same says = ap (λ t. refusal p t e) same ∙ says
says_here p s w e refusals.Waits same says = ap (λ t. refusal p t e) same ∙ says
says_here p s w e refusals.NoChoice same says = ap (λ t. refusal p t e) same ∙ says
says_here p s w e refusals.NoMemory same says = ap (λ t. refusal p t e) same ∙ says

is_no_step : (p : Program) (w : Past p) (c : Course) (e : Event) (why : StepRefused) → Holds p w c
    → SaysWhy (program_at c.store) (contents_at c.store) e why → IsNoStep p w e why
is_no_step p w c e why s says = says_here p (contents_at c.store) w e why s.state (subst (λ q. SaysWhy q (contents_at c.store) e why) s.program says)

-- the event that is meant, by the store and by the past
pub meant_here : (p : Program) (w : Past p) (c : Course) (go : List ℕ) (choice : Option Choice) → Holds p w c
    → event_meant (program_at c.store) (state_at c.store) go choice ≡ event_meant p w.state go choice
meant_here p w c go choice s =
    ap (λ q. event_meant q (state_in q (contents_at c.store)) go choice) s.program ∙ ap (λ t. event_meant p t go choice) (sym s.state)

pub asked_no_step : (p : Program) (w : Past p) (c : Course) (go : List ℕ) (choice : Option Choice) (why : StepRefused) → Holds p w c
    → SaysWhy (program_at c.store) (contents_at c.store) (event_meant (program_at c.store) (state_at c.store) go choice) why
    → IsNoStep p w (event_meant p w.state go choice) why
asked_no_step p w c go choice why s says =
    subst (λ e. IsNoStep p w e why) (meant_here p w c go choice s)
    (is_no_step p w c (event_meant (program_at c.store) (state_at c.store) go choice) why s says)

-- the step of a record is one that the rules allow
pub record_is_allowed : (p : Program) (w : Past p) (c : Course) (r : Record) (t : Contents) → Holds p w c → IsRecord (program_at c.store) (contents_at c.store) r t
    → refusal p w.state (event_of r) ≡ None
record_is_allowed p w c r t s is =
    let here : IsRecord p (contents_at c.store) r t = subst (λ q. IsRecord q (contents_at c.store) r t) s.program is in
    ap (λ u. refusal p u (event_of r)) s.state ∙ step_is_allowed (frame_in p) p (event_of r) (contents_at c.store) t here.takes.report here.takes.steps
