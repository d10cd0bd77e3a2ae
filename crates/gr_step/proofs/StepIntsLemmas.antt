-- A step over whole numbers is taken, by its goroutine before and after it.
use Rattle.std.proofs.Common.{◌≡◌, ◌<◌, ◌+◌, ◌^◌, ℕ, true, false, Option, Some, None, refl, sym, ap, ◌∙◌}
use Rattle.std.specs.Prelude.{is_some, option_map}
use Rattle.gr_base.specs.declared.events.Choice.TheVariants.{Plain}
use Rattle.gr_base.specs.declared.events.Event.{Event}
use Rattle.gr_base.specs.declared.kinds.Fault.{Fault}
use Rattle.gr_base.specs.declared.kinds.Kind.TheVariants as kinds
use Rattle.gr_program.specs.Programs.{Program}
use Rattle.gr_rules.specs.Goroutines.{ready}
use Rattle.gr_rules.specs.Outcomes.{wrong}
use Rattle.gr_rules.specs.States.{live}
use Rattle.gr_rules.specs.Steps.{attempt, count}
use Rattle.gr_code.specs.Goroutines.{CodeGoroutine, local, task_of}
use Rattle.gr_goros.specs.Tasks.{IsStep}
use Rattle.gr_goros.specs.Views.{Seen}
use Rattle.gr_goros.specs.declared.kinds.LocalKind.TheVariants as locals
use Rattle.gr_goros.specs.declared.undo.GoUndo.{GoUndo}
use Rattle.gr_tables.specs.Counting.{CanTry, StepsOn}
use Rattle.gr_tables.specs.NamedChannels.{contents_of}
use Rattle.gr_tables.specs.NamedGoroutines.{At, ChangesBy, KeepsContents, name_at, seen_at, seen_of}
use Rattle.gr_tables.specs.declared.goroutines.Goroutines.{Goroutines}
use Rattle.gr_lower.specs.Lowered.{lowered}
use Rattle.gr_step.specs.declared.objects.Objects.{Objects}
use Rattle.gr_record.specs.Effects.{Effect}
use Rattle.gr_record.specs.Listings.{state_in}
use Rattle.gr_step.specs.Objects.{contents_in, run_of}
use Rattle.gr_step.specs.Premises.{Acting, CanCount}
use Rattle.gr_record.specs.Running.{Running}
use Rattle.gr_step.specs.Room.{HasRoom}
use Rattle.gr_record.specs.Taking.{Takes}
use Rattle.gr_step.proofs.ChoiceLemmas.{task_there}
use Rattle.gr_step.proofs.LocalLemmas.{local_takes, local_room}
use Rattle.gr_step.proofs.PlaceLemmas.{at_named, was_content}
use Rattle.gr_step.proofs.TakesLemmas.{counted}

-- a goroutine that is there has a content
content_there : (x : Option Seen) → true ≡ is_some x → (g : CodeGoroutine) × (option_map (λ (y : Seen). y.content) x ≡ Some g)
content_there None e = absurd (let no : true ≡ false = e in cc)
content_there (Some x) e = (x.content, refl)

-- where no goroutine has changed, nothing has
pub nothing_changed : (o : Objects) (new : Goroutines) → KeepsContents o.goroutines new → contents_in (record o { goroutines = new }) ≡ contents_in o
nothing_changed o new keeps = λ j. record { run = run_of o.run; goroutines = keeps.goroutines j; channels = contents_of o.channels }

-- the change that such a step leaves in its record
abbrev pub counted_by : GoUndo → Effect
counted_by u = record { kind = kinds.Pure; own = u; beyond = None }

module _ (p : Program) (e : Event) (number : ℕ) (o : Objects) (running : Running p (contents_in o)) (counts : CanCount (contents_in o))
    (runs : (contents_in o).run ≡ live) (named : name_at o.goroutines number ≡ Some e.go) (present : true ≡ is_some (seen_of o.goroutines e.go)) where
  there : (g : CodeGoroutine) × ((contents_in o).goroutines e.go ≡ Some g)
  there = content_there (seen_of o.goroutines e.go) present

  -- its next step can be tried
  pub can_try : At (CanTry (lowered p)) (seen_at o.goroutines number)
  can_try = at_named o.goroutines number e.go there.0 named there.1
      (λ g. (g.status ≡ ready → ¬ (task_of (lowered p) g ≡ wrong)) × (g.steps + 1 < 2 ^ 64)) (
        (λ is_ready. task_there p (contents_in o) running e.go there.0 runs there.1 is_ready),
        counts.steps e.go there.0 there.1,
      )

  module _ (plain : e.choice ≡ Plain) (r : ℕ × GoUndo) (new : Goroutines) (change : ChangesBy number (StepsOn (lowered p) r) o.goroutines new) where
    same : change.0.content ≡ there.0
    same = was_content number e.go o.goroutines new named there.0 there.1 change.0 change.1 change.2

    acting : Acting p e number o
    acting = record {
      running = running;
      counted = counts;
      runs = runs;
      named = named;
      goroutine = there.0;
      there = there.1;
      is_ready = ap (λ (g : CodeGoroutine). g.status) (sym same) ∙ change.3.is_ready;
    }

    as_step : ChangesBy number (λ a b. IsStep (locals.Pure, r.1) (local (lowered p) a.content) a b) o.goroutines new
    as_step = (change.0, change.1, change.2, change.3.is)

    -- a step over whole numbers is a step of the rules
    pub count_takes : Takes p e (attempt p e) (contents_in o) (counted_by r.1) (contents_in (record o { goroutines = new }))
    count_takes = local_takes p e number o acting locals.Pure r.1 new as_step plain (λ (f : Fault) is. let no : locals.Pure ≡ locals.Fault f = is in cc)

    pub count_room : HasRoom e.go (counted_by r.1) (record o { goroutines = new })
    count_room = local_room p e number o acting locals.Pure r.1 new as_step plain

    pub count_ordinal : r.0 ≡ count (state_in p (contents_in o)) e.go + 1
    count_ordinal =
        change.3.ordinal
        ∙ ap (λ n. n + 1) (ap (λ (g : CodeGoroutine). g.steps) same ∙ sym (counted p (contents_in o) e.go there.0 there.1))
