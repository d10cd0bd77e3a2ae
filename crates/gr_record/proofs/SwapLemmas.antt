-- Two steps that follow each other and do not conflict, in the other order.
use Rattle.std.proofs.Common.{◌≡◌, true, false, map, fold, refl, sym, ap, subst, ◌∙◌}
use Rattle.gr_base.specs.declared.objects.Object.{Object}
use Rattle.gr_base.specs.declared.objects.Object.TheVariants as objects
use Rattle.gr_causal.specs.Sequences.{In}
use Rattle.gr_causal.proofs.StepLemmas.{Goes, free, swapped, unstep}
use Rattle.gr_program.specs.Programs.{Program}
use Rattle.gr_rules.specs.States.{Cell, Run, State, look, put, run_has}
use Rattle.gr_rules.specs.Steps.{machine}
use Rattle.gr_laws.specs.Dependence.{clash}
use Rattle.gr_laws.specs.Reached.{Logged}
use Rattle.gr_laws.proofs.CellLemmas.{machine_laws}
use Rattle.gr_refine.specs.Contents.{Contents}
use Rattle.gr_refine.specs.Standing.{ContentsStand}
use Rattle.gr_refine.specs.TakingBack.{TakesBack}
use Rattle.gr_refine.proofs.BackLemmas.{taking_back_puts_back}
use Rattle.gr_lower.specs.Lowered.{lowered, meaning}
use Rattle.gr_record.specs.Conflicts.{written_by, touched_by}
use Rattle.gr_record.specs.declared.record.Record.{Record}
use Rattle.gr_record.specs.Kept.{Tells}
use Rattle.gr_record.specs.Listings.{frame_in, state_in}
use Rattle.gr_record.specs.Records.{taken_back}
use Rattle.gr_record.specs.Within.{IsAmong}
use Rattle.gr_record.proofs.MovedLemmas.{moved_tells}
use Rattle.gr_record.proofs.NeighbourLemmas.{AreNeighbours, first_goes_back, second_goes_back, first_within, second_within, still_stand, run_is_kept, second_back_at_start, go_is_back, go_is_kept, one_channel}
use Rattle.gr_record.proofs.RecordLemmas.{Apart, are_apart, goes, writes_are, was_written, was_touched, written_is_touched, run_is_touched}

run_of_cell : (x y : Run) → run_has x ≡ run_has y → x ≡ y
run_of_cell x y e = ap (λ (c : Cell). elim c [ run_has r ↦ r | _ ↦ x ]) e

module _ (p : Program) (s m t : Contents) (a b : Record) (k l : Logged p) (stand : ContentsStand (meaning p) (lowered p) s)
    (first : Tells p s a k m) (second : Tells p m b l t) (none : clash p k l ≡ false) where
  abbrev u : Contents
  u = taken_back a.id.go a.change t

  apart : Apart a b
  apart = are_apart p s m m t a b k l first second none

  touches_a : (o : Object) → IsAmong o (written_by a) → IsAmong o (touched_by a)
  touches_a = written_is_touched p s a k m first

  touches_b : (o : Object) → IsAmong o (written_by b) → IsAmong o (touched_by b)
  touches_b = written_is_touched p m b l t second

  -- what the steps did not write stands
  first_keeps : (o : Object) → (In o k.note.writes → ⊥) → look (state_in p m) o ≡ look (state_in p s) o
  first_keeps o out = (machine_laws p).only_writes (state_in p s) (state_in p m) k.event k.note (goes p s a k m first).does o out

  second_keeps : (o : Object) → (In o l.note.writes → ⊥) → look (state_in p t) o ≡ look (state_in p m) o
  second_keeps o out = (machine_laws p).only_writes (state_in p m) (state_in p t) l.event l.note (goes p m b l t second).does o out

  not_by_first : (o : Object) → IsAmong o (touched_by b) → In o k.note.writes → ⊥
  not_by_first o h i = apart.first o (was_written p s a k m first o i) h

  not_by_second : (o : Object) → IsAmong o (touched_by a) → In o l.note.writes → ⊥
  not_by_second o h i = apart.second o (was_written p m b l t second o i) h

  first_runs : m.run ≡ s.run
  first_runs = run_of_cell m.run s.run (first_keeps objects.Run (not_by_first objects.Run (run_is_touched p m b l t second)))

  second_runs : t.run ≡ m.run
  second_runs = run_of_cell t.run m.run (second_keeps objects.Run (not_by_second objects.Run (run_is_touched p s a k m first)))

  near : AreNeighbours s m t a b
  near = record {
    wa = first.is.takes.within;
    wb = second.is.takes.within;
    back_a = first.is.takes.back;
    back_b = second.is.takes.back;
    fits_a = first.is.takes.fits;
    fits_b = second.is.takes.fits;
    apart = apart;
    touches_a = touches_a;
    touches_b = touches_b;
    first_runs = first_runs;
    second_runs = second_runs;
  }

  -- the first taken back puts back what it wrote
  takes_back : TakesBack (frame_in p) (written_by a) s m t u
  takes_back = record {
    stands = λ o h. second_keeps o (not_by_second o (touches_a o h));
    run_back = λ h. absurd (apart.first objects.Run h (run_is_touched p m b l t second));
    run_kept = λ h. run_is_kept s m t a b near;
    goroutine_back = λ n h. go_is_back s m t a b near n h;
    goroutine_kept = λ n h. go_is_kept s m t a b near n (λ i. let no : true ≡ false = sym i ∙ h in cc);
    channel = λ c. (one_channel s m t a b near c).taken;
  }

  -- the first taken back gives the state between the two steps in the other order
  other_way : (x : State) × Goes (machine p) (state_in p s) l x × Goes (machine p) x k (state_in p t)
  other_way = swapped (machine p) (machine_laws p) (state_in p s) k (state_in p m) l (state_in p t) (goes p s a k m first) (goes p m b l t second)
      (free (machine p) (machine_laws p) k l none)

  between : other_way.0 ≡ state_in p u
  between =
      sym (unstep (machine p) (machine_laws p) other_way.0 k (state_in p t) other_way.2)
      ∙ ap (λ cs. fold put (state_in p t) cs) ((goes p s a k m first).keeps ∙ ap (λ os. map (look (state_in p s)) os) (sym (writes_are p s a k m first)))
      ∙ sym (taking_back_puts_back (frame_in p) (written_by a) s m t u takes_back)

  second_goes : Goes (machine p) (state_in p s) l (state_in p u)
  second_goes = subst {_, _} (Goes (machine p) (state_in p s) l) between other_way.1

  first_goes : Goes (machine p) (state_in p u) k (state_in p t)
  first_goes = subst {_, _} (λ x. Goes (machine p) x k (state_in p t)) between other_way.2

  second_keeps_alone : (o : Object) → (In o l.note.writes → ⊥) → look (state_in p u) o ≡ look (state_in p s) o
  second_keeps_alone o out = (machine_laws p).only_writes (state_in p s) (state_in p u) l.event l.note second_goes.does o out

  second_tells : Tells p s b l u
  second_tells = moved_tells p m b l t second s u second_goes
      (λ o i. sym (first_keeps o (not_by_first o (was_touched p m b l t second o i))))
      (second_back_at_start s m t a b near)
      (second_goes_back s m t a b near)
      (still_stand s m t a b near p stand second.is.takes.stand)
      (second_within s m t a b near)

  first_tells : Tells p u a k t
  first_tells = moved_tells p s a k m first u t first_goes
      (λ o i. second_keeps_alone o (not_by_second o (was_touched p s a k m first o i)))
      refl
      (first_goes_back s m t a b near)
      second.is.takes.stand
      (first_within s m t a b near)

  pub neighbours : Tells p s b l u × Tells p u a k t
  neighbours = (second_tells, first_tells)
