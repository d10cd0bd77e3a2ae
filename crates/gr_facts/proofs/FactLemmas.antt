-- What the record of a step tells is what the rules tell of the step.
use Rattle.std.proofs.Common.{◌≡◌, List, ◌++◌, sym, ap, ap₂, ◌∙◌, true, false}
use Rattle.gr_base.specs.declared.events.Event.{Event}
use Rattle.gr_base.specs.declared.objects.Object.{Object}
use Rattle.gr_program.specs.Programs.{Program}
use Rattle.gr_rules.specs.Assigned.{assigned}
use Rattle.gr_rules.specs.Attempts.{Report}
use Rattle.gr_rules.specs.States.{State}
use Rattle.gr_rules.specs.Turns.{line_of}
use Rattle.gr_rules.specs.Touches.{table}
use Rattle.gr_laws.specs.Reached.{Logged}
use Rattle.gr_laws.specs.Touched.{each_once}
use Rattle.gr_refine.specs.Contents.{Contents}
use Rattle.gr_lower.specs.Lowered.{lowered}
use Rattle.gr_record.specs.declared.record.Record.{Record}
use Rattle.gr_record.specs.Kept.{Tells}
use Rattle.gr_record.specs.Listings.{state_in}
use Rattle.gr_record.specs.Records.{event_of, operation_in}
use Rattle.gr_record.specs.Running.{Running}
use Rattle.gr_record.proofs.RecordLemmas.{report_is, reads_are, writes_are}
use Rattle.type_safety.proofs.CodeOfPrograms.{checked_fits}
use Rattle.gr_depend.proofs.AssignmentLemmas.{record_gave}
use Rattle.gr_depend.proofs.HistoryLemmas.{name_is}
use Rattle.gr_facts.specs.Facts.{facts, function_at, last_writer, others_in, made_in, sources_of}
use Rattle.gr_facts.specs.Recorded.{facts_by, writer_in}
use Rattle.gr_facts.proofs.StoodLemmas.{StoodIn, stood_in, line_is, function_is}

module _ (p : Program) (s : Contents) (r : Record) (l : Logged p) (t : Contents) (tells : Tells p s r l t) (running : Running p s)
    (before : List Record) (front : List (Logged p)) (writer : (o : Object) → writer_in before o ≡ last_writer p front o) where
  abbrev S : State
  S = state_in p s

  event_is : event_of r ≡ l.event
  event_is = sym tells.event

  go_is : r.id.go ≡ l.event.go
  go_is = ap (λ (e : Event). e.go) event_is

  operation_is : operation_in r.change ≡ l.note.kind.operation
  operation_is = tells.is.takes.operation ∙ ap (λ (k : Report). k.operation) (report_is p s r l t tells)

  -- where its goroutine stood
  abbrev stood_before : StoodIn p s r
  stood_before = stood_in p s r t tells.is running.stand

  pub facts_alike : facts_by p (lowered p) before r ≡ facts p front S l
  facts_alike =
      let id = name_is p s r l t tells in
      let kind = sym tells.kind in
      let operation = operation_is in
      let prints = sym tells.printed in
      let function = function_is p s r stood_before ∙ ap (λ g. function_at p (S.goroutines g)) go_is in
      let line = line_is p s r stood_before (checked_fits running.program.file p running.program.checked) ∙ ap (λ g. line_of (S.goroutines g)) go_is in
      let given = record_gave p s t r running tells.is ∙ ap (assigned p S) event_is in
      let reached = ap₂ others_in go_is (writes_are p s r l t tells) in
      let made = ap₂ made_in kind (writes_are p s r l t tells) in
      let reads = reads_are p s r l t tells ∙ ap (λ e. each_once l.note.writes (table S e l.note.kind).reads) event_is in
      λ j. record {
        id = id j;
        kind = kind j;
        operation = operation j;
        prints = prints j;
        function = function j;
        line = line j;
        given = given j;
        reached = reached j;
        made = made j;
        sources = sources_of false (λ o. writer o j) (reads j) ++ sources_of true (λ o. writer o j) (writes_are p s r l t tells j);
      }
