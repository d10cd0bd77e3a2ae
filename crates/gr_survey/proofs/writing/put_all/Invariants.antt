use Rattle.std.proofs.Common.{◌≡◌, ◌++◌, map, drop}
use Rattle.gr_step.specs.Records.{event_of}
use Rattle.gr_survey.specs.StepTexts.{commands_text, Grows}
use Rattle.gr_survey.proofs.writing.put_all.Given as goal

abbrev pub invariant-loop-step : goal.invariant-loop-step
invariant-loop-step l = record {
  all : l.text.items ++ commands_text (map event_of (drop l.step-index l.steps)) ≡ l.fn.text.items ++ commands_text (map event_of l.steps);
  grows : Grows l.fn.text.items l.text.items;
}
