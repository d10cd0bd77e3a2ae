-- Why a store refuses an event.
use Rattle.std.specs.Prelude.{◌≡◌, Some, None}
use Rattle.gr_base.specs.declared.events.Event.{Event}
use Rattle.gr_program.specs.Programs.{Program}
use Rattle.gr_rules.specs.Attempts as rules
use Rattle.gr_rules.specs.Steps.{refusal}
use Rattle.gr_refine.specs.Contents.{Contents}
use Rattle.gr_step.specs.declared.refusal.StepRefused.{StepRefused}
use Rattle.gr_step.specs.declared.refusal.StepRefused.TheVariants as refusals
use Rattle.gr_record.specs.Listings.{state_in}

-- why an event is refused: the reason of the rules, or out of memory, which they do not know
abbrev pub SaysWhy : Program → Contents → Event → StepRefused → Type 0
SaysWhy p s e refusals.Over = refusal p (state_in p s) e ≡ Some rules.program_is_over
SaysWhy p s e refusals.NotThere = refusal p (state_in p s) e ≡ Some rules.no_such_goroutine
SaysWhy p s e refusals.Done = refusal p (state_in p s) e ≡ Some rules.goroutine_is_done
SaysWhy p s e refusals.Waits = refusal p (state_in p s) e ≡ Some rules.goroutine_waits
SaysWhy p s e refusals.NoChoice = refusal p (state_in p s) e ≡ Some rules.no_such_choice
SaysWhy p s e refusals.NoMemory = refusal p (state_in p s) e ≡ None
