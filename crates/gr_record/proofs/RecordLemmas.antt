-- What the record of a step tells of it.
use Rattle.std.proofs.Common.{◌≡◌, false, [], ◌∷◌, ◌++◌, Option, Some, None, refl, sym, ap, subst, ◌∙◌, inl}
use Rattle.gr_base.specs.declared.objects.Object.{Object}
use Rattle.gr_base.specs.declared.objects.Object.TheVariants.{Run}
use Rattle.gr_causal.specs.Rules.{Note}
use Rattle.gr_causal.specs.Sequences.{In, Distinct}
use Rattle.gr_causal.proofs.ListLemmas.{In-append_left, In-append_right}
use Rattle.gr_causal.proofs.PathLemmas.{path_of}
use Rattle.gr_causal.proofs.StepLemmas.{Goes, free}
use Rattle.gr_program.specs.Programs.{Program}
use Rattle.gr_rules.specs.Attempts.{Report}
use Rattle.gr_rules.specs.States.{State, same}
use Rattle.gr_rules.specs.Steps.{machine}
use Rattle.gr_rules.specs.Touches.{table, AsTheTable}
use Rattle.gr_laws.specs.Dependence.{clash}
use Rattle.gr_laws.specs.Reached.{Logged}
use Rattle.gr_laws.specs.Touched.{AreTouched, TellTouches, each_once}
use Rattle.gr_laws.proofs.AttemptTouches.{touched_as}
use Rattle.gr_laws.proofs.CellLemmas.{machine_laws, same_is, same_self}
use Rattle.gr_laws.proofs.TouchedLemmas.{any_in, in_any, touched_each, told_alike, clash_by_lists, writes_once}
use Rattle.gr_refine.specs.Contents.{Contents}
use Rattle.gr_refine.proofs.MachineLemmas.{performed_is_step}
use Rattle.gr_record.specs.Conflicts.{written_by, read_by, touched_by, conflict_of}
use Rattle.gr_record.specs.declared.record.Record.{Record}
use Rattle.gr_record.specs.Kept.{Tells}
use Rattle.gr_record.specs.Listings.{state_in}
use Rattle.gr_record.specs.Records.{event_of}
use Rattle.gr_record.specs.Within.{IsAmong}

abbrev Next : Type 0
Next = State × Note Object Report

step_note : (x y : Next) → Some x ≡ Some y → x.1 ≡ y.1
step_note x y e = ap (λ (o : Option Next). elim o [ Some z ↦ z.1 | None ↦ x.1 ]) e

module _ (p : Program) (s : Contents) (r : Record) (l : Logged p) (t : Contents) (tells : Tells p s r l t) where
  -- the step of the rules
  pub goes : Goes (machine p) (state_in p s) l (state_in p t)
  goes =
      let path = path_of (machine p) (state_in p s) (l ∷ []) (state_in p t) tells.step in
      subst {_, _} (Goes (machine p) (state_in p s) l) path.2 path.1

  pub does : (machine p).step (state_in p s) (event_of r) ≡ Some (state_in p t, l.note)
  does = subst {_, _} (λ e. (machine p).step (state_in p s) e ≡ Some (state_in p t, l.note)) tells.event goes.does

  -- what the record says is noted
  pub report_is : tells.is.takes.report ≡ l.note.kind
  report_is =
      let performs = tells.is.takes.steps in
      let step = performed_is_step p (state_in p s) (event_of r) tells.is.takes.report performs.cells performs.ends in
      ap (λ (n : Note Object Report). n.kind) (step_note _ _ (sym step ∙ does))

  abbrev rows : State → Report → Type 0
  rows x k = AreTouched (table x (event_of r) k) (each_once (table x (event_of r) k).writes (table x (event_of r) k).reads) (table x (event_of r) k).writes

  as_table : AsTheTable (state_in p s) (event_of r) l.note
  as_table = touched_as p (state_in p s) (event_of r) (state_in p t) l.note does

  pub writes_are : written_by r ≡ l.note.writes
  writes_are = tells.is.takes.writes ∙ ap (λ k. (table (state_in p s) (event_of r) k).writes) report_is ∙ sym as_table.written

  -- the row of the table, each object once
  row_touched : AreTouched (table (state_in p s) (event_of r) l.note.kind) (each_once l.note.writes (table (state_in p s) (event_of r) l.note.kind).reads) l.note.writes
  row_touched =
      let row = table (state_in p s) (event_of r) l.note.kind in
      let n : Note Object Report = record { kind = l.note.kind; reads = row.reads; writes = l.note.writes } in
      let tells_row : AsTheTable (state_in p s) (event_of r) n = record {
        written = as_table.written;
        touched = λ o. (
          λ i. subst {_, _} (λ ws. In o (row.reads ++ ws)) as_table.written i,
          λ i. subst {_, _} (λ ws. In o (row.reads ++ ws)) (sym as_table.written) i,
        );
      } in
      touched_each (state_in p s) (event_of r) n tells_row (writes_once p (state_in p s) (state_in p t) (event_of r) l.note does)

  pub reads_are : read_by r ≡ each_once l.note.writes (table (state_in p s) (event_of r) l.note.kind).reads
  reads_are = tells.is.takes.reads
      ∙ ap (λ k. each_once (table (state_in p s) (event_of r) k).writes (table (state_in p s) (event_of r) k).reads) report_is
      ∙ ap (λ ws. each_once ws (table (state_in p s) (event_of r) l.note.kind).reads) (sym as_table.written)

  touched : AreTouched (table (state_in p s) (event_of r) l.note.kind) (read_by r) (written_by r)
  touched =
      subst {_, _} (λ rs. AreTouched (table (state_in p s) (event_of r) l.note.kind) rs (written_by r)) (sym reads_are)
      (subst {_, _} (λ ws. AreTouched (table (state_in p s) (event_of r) l.note.kind)
      (each_once l.note.writes (table (state_in p s) (event_of r) l.note.kind).reads) ws) (sym writes_are) row_touched)

  pub no_object_twice : Distinct (touched_by r)
  no_object_twice = touched.once

  pub told : TellTouches (read_by r) (written_by r) l.note
  told = told_alike (state_in p s) (event_of r) l.note (read_by r) (written_by r) as_table touched

  -- between lists of objects
  pub is_written : (o : Object) → IsAmong o (written_by r) → In o l.note.writes
  is_written o h = (told.written o).0 (any_in same same_is same_self o (written_by r) h)

  pub was_written : (o : Object) → In o l.note.writes → IsAmong o (written_by r)
  was_written o i = in_any same same_is same_self o (written_by r) ((told.written o).1 i)

  pub is_touched : (o : Object) → IsAmong o (touched_by r) → In o (l.note.reads ++ l.note.writes)
  is_touched o h = (told.touched o).0 (any_in same same_is same_self o (touched_by r) h)

  pub was_touched : (o : Object) → In o (l.note.reads ++ l.note.writes) → IsAmong o (touched_by r)
  was_touched o i = in_any same same_is same_self o (touched_by r) ((told.touched o).1 i)

  pub written_is_touched : (o : Object) → IsAmong o (written_by r) → IsAmong o (touched_by r)
  written_is_touched o h = was_touched o (In-append_right o l.note.reads l.note.writes (is_written o h))

  -- each step looks whether the program runs
  pub run_is_touched : IsAmong Run (touched_by r)
  run_is_touched =
      let row = table (state_in p s) (event_of r) l.note.kind in
      was_touched Run ((as_table.touched Run).1 (In-append_left Run row.reads row.writes (inl refl)))

  -- what the table's row has is touched
  pub row_is_touched : (o : Object) → In o ((table (state_in p s) (event_of r) l.note.kind).reads ++ (table (state_in p s) (event_of r) l.note.kind).writes)
      → In o (l.note.reads ++ l.note.writes)
  row_is_touched o i = (as_table.touched o).1 i

-- records tell whether their steps conflict
pub conflicts_alike : (p : Program) (s t u v : Contents) (a b : Record) (k l : Logged p) → Tells p s a k t → Tells p u b l v → conflict_of a b ≡ clash p k l
conflicts_alike p s t u v a b k l first second =
    sym (clash_by_lists p k l (read_by a) (written_by a) (read_by b) (written_by b) (told p s a k t first) (told p u b l v second))

-- neither of two steps wrote what the other touched
pub record Apart (a b : Record) : Type 0 where
  pub first : (o : Object) → IsAmong o (written_by a) → IsAmong o (touched_by b) → ⊥
  pub second : (o : Object) → IsAmong o (written_by b) → IsAmong o (touched_by a) → ⊥

pub are_apart : (p : Program) (s t u v : Contents) (a b : Record) (k l : Logged p) → Tells p s a k t → Tells p u b l v → clash p k l ≡ false → Apart a b
are_apart p s t u v a b k l first second none =
    let f = free (machine p) (machine_laws p) k l none in
    record {
      first = λ o w h. f.first o (is_written p s a k t first o w) (is_touched p u b l v second o h);
      second = λ o w h. f.second o (is_written p u b l v second o w) (is_touched p s a k t first o h);
    }
