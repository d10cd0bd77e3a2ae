-- The record of a step is that of the same step from other contents, which agree on what it touches.
use Rattle.std.specs.Prelude.{is_some}
use Rattle.std.proofs.Common.{◌≡◌, ◌+◌, [], ◌∷◌, ◌++◌, Some, refl, sym, ap, subst, ◌∙◌}
use Rattle.gr_causal.proofs.PathLemmas.{log_of}
use Rattle.gr_causal.proofs.StepLemmas.{Goes}
use Rattle.gr_program.specs.Programs.{Program}
use Rattle.gr_rules.specs.Attempts.{Report, kind_of}
use Rattle.gr_rules.specs.Steps.{machine, attempt, count}
use Rattle.gr_rules.specs.Touches.{table, AsTheTable}
use Rattle.gr_laws.specs.Reached.{Logged}
use Rattle.gr_laws.specs.Touched.{each_once}
use Rattle.gr_laws.proofs.AttemptTouches.{touched_as}
use Rattle.gr_refine.specs.Contents.{Contents}
use Rattle.gr_refine.specs.Leaves.{Performs}
use Rattle.gr_refine.specs.Standing.{ContentsStand}
use Rattle.gr_refine.proofs.MachineLemmas.{step_is_performed}
use Rattle.gr_lower.specs.Lowered.{lowered, meaning}
use Rattle.gr_record.specs.declared.record.Record.{Record}
use Rattle.gr_record.specs.Kept.{Tells}
use Rattle.gr_record.specs.Listings.{state_in}
use Rattle.gr_record.specs.Records.{event_of, taken_back, CanGoBack}
use Rattle.gr_record.specs.Taking.{Takes}
use Rattle.gr_record.specs.Within.{ChangesWithin}
use Rattle.gr_record.proofs.RecordLemmas.{report_is, writes_are, reads_are, row_is_touched}
use Rattle.gr_record.proofs.TableLemmas.{Agree, reads_alike, count_alike}

module _ (p : Program) (s : Contents) (r : Record) (l : Logged p) (t : Contents) (tells : Tells p s r l t) (x y : Contents)
    (goes : Goes (machine p) (state_in p x) l (state_in p y)) (agree : Agree (state_in p s) (state_in p x) (l.note.reads ++ l.note.writes)) where
  does_so : (machine p).step (state_in p x) (event_of r) ≡ Some (state_in p y, l.note)
  does_so = subst {_, _} (λ e. (machine p).step (state_in p x) e ≡ Some (state_in p y, l.note)) tells.event goes.does

  of_row : Agree (state_in p s) (state_in p x)
      ((table (state_in p s) (event_of r) l.note.kind).reads ++ (table (state_in p s) (event_of r) l.note.kind).writes)
  of_row o i = agree o (row_is_touched p s r l t tells o i)

  counted : count (state_in p x) r.id.go ≡ count (state_in p s) r.id.go
  counted = count_alike (state_in p s) (state_in p x) (event_of r) l.note.kind of_row

  as_table : AsTheTable (state_in p x) (event_of r) l.note
  as_table = touched_as p (state_in p x) (event_of r) (state_in p y) l.note does_so

  steps : Performs (attempt p (event_of r)) (state_in p x) (state_in p y) l.note.kind
  steps =
      let performs = step_is_performed p (state_in p x) (state_in p y) (event_of r) l.note does_so in
      record { cells = performs.0; ends = performs.1; after = performs.2 }

  moved_takes : taken_back r.id.go r.change y ≡ x → CanGoBack r.id.go r.change y → ContentsStand (meaning p) (lowered p) y → ChangesWithin r.id.go r.change y
      → Takes p (event_of r) (attempt p (event_of r)) x r.change y
  moved_takes back fits stand within =
      let takes = tells.is.takes in
      let report = report_is p s r l t tells in
      record {
        report = l.note.kind;
        steps = steps;
        ordinal = ap (λ (k : Report). k.ordinal) (sym report) ∙ takes.ordinal ∙ ap (λ n. n + 1) (sym counted);
        kind = takes.kind ∙ ap kind_of report;
        printed = takes.printed ∙ ap (λ (k : Report). is_some k.printed) report;
        operation = takes.operation ∙ ap (λ (k : Report). k.operation) report;
        writes = writes_are p s r l t tells ∙ as_table.written;
        reads = reads_are p s r l t tells
            ∙ (λ i. each_once (as_table.written i) (sym (reads_alike (state_in p s) (state_in p x) (event_of r) l.note.kind of_row) i));
        back = back;
        fits = fits;
        stand = stand;
        within = within;
      }

  pub moved_tells : taken_back r.id.go r.change y ≡ x → CanGoBack r.id.go r.change y → ContentsStand (meaning p) (lowered p) y → ChangesWithin r.id.go r.change y
      → Tells p x r l y
  moved_tells back fits stand within = record {
    is = record { takes = moved_takes back fits stand within; named = tells.is.named ∙ ap (λ n. n + 1) (sym counted) };
    step = log_of (machine p) (state_in p x) (l ∷ []) (state_in p y) (state_in p y, goes, refl);
    event = tells.event;
    kind = tells.kind;
    ordinal = tells.ordinal;
    printed = tells.printed;
  }
