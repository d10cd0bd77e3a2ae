-- Type safety of checked programs, as progress and preservation. In every state that a run reaches, a ready goroutine has a
-- step, no event is unsound, and goroutines stand at operations and calls.
use Rattle.std.proofs.Common.{◌≡◌, ℕ, List, [], ◌∷◌, Option, Some, None, refl, sym, subst}
use Rattle.gr_tree.specs.Files.{FileTree}
use Rattle.gr_base.specs.declared.events.Event.{Event}
use Rattle.gr_program.specs.Programs.{Program}
use Rattle.gr_typing.specs.FileChecks.{ProgramOf}
use Rattle.gr_rules.specs.Outcomes.{Outcome, gives}
use Rattle.gr_rules.specs.Frames.{Frame}
use Rattle.gr_rules.specs.Goroutines.{ready, Goroutine, started}
use Rattle.gr_rules.specs.States.{live, State, call_of, main_of, started_in, start}
use Rattle.gr_rules.specs.Attempts.{unsound, Refusal, Attempt, refusal_in}
use Rattle.gr_rules.specs.Steps.{attempt, refusal}
use Rattle.gr_rules.specs.Tells.{how_many_clauses, usual_choice}
use Rattle.gr_laws.specs.Reached.{Reached}
use Rattle.type_safety.specs.Standing.{StandsAs, FrameSends, AreFresh}
use Rattle.type_safety.proofs.Sorts.{Sort, Made, nothing_made}
use Rattle.type_safety.proofs.Running.{SortedFrames, GoesOn, on_as}
use Rattle.type_safety.proofs.Promises.{Going}
use Rattle.type_safety.proofs.CheckedPrograms.{program_is_sorted}
use Rattle.type_safety.proofs.FineSelects.{Within}
use Rattle.type_safety.proofs.FineEvents.{Sounds, Never, ready_goes, attempt_fine}
use Rattle.type_safety.proofs.SortedRuns.{refused_for, main_frame, reached_going}
use Rattle.type_safety.proofs.StandingFrames.{frame_sends, frames_stand}
use Rattle.type_safety.proofs.UsualChoices.{usual_goes}

-- an attempt that may not be refused is not
not_refused : (s : State) (x : Attempt) → ((r : Refusal) → refusal_in s x ≡ Some r → ⊥) → refusal_in s x ≡ None
not_refused s x h = by_refusal (refusal_in s x) refl
  where
    by_refusal : (o : Option Refusal) → refusal_in s x ≡ o → refusal_in s x ≡ None
    by_refusal None e = e
    by_refusal (Some r) e = absurd (h r e)

module _ (file : FileTree) (p : Program) (t : State) where
  reached : (checked : ProgramOf file p) → Reached p t → (made : Made)
      × Going (program_is_sorted file p checked).0 p made t
  reached checked l =
      let fs = program_is_sorted file p checked in
      reached_going fs.0 p fs.1 t l.log l.leads

  pub checked_goes : (name : List ℕ) (g : Goroutine) → ProgramOf file p → Reached p t → t.run ≡ live
      → t.goroutines name ≡ Some g → g.status ≡ ready
      → refusal p t (record { go = name; choice = usual_choice p t name }) ≡ None
  checked_goes name g checked l runs here calm =
      let r = reached checked l in
      let h = ready_goes (program_is_sorted file p checked).0 p r.0 t r.1 name g here runs calm in
      let x = attempt p (record { go = name; choice = h.0 }) in
      usual_goes p t name h.0 (subst (λ x. Within (how_many_clauses x) h.0) (sym here) h.2)
      (not_refused t x (λ q e. refused_for Never (program_is_sorted file p checked).0 r.0 t x q (h.1.fine) e))

  pub checked_sounds : (e : Event) → ProgramOf file p → Reached p t → refusal p t e ≡ Some unsound → ⊥
  checked_sounds e checked l q =
      let r = reached checked l in
      refused_for Sounds (program_is_sorted file p checked).0 r.0 t (attempt p e) unsound
      (attempt_fine (program_is_sorted file p checked).0 p r.0 t e r.1) q refl

  pub checked_stands : (name : List ℕ) (g : Goroutine) → ProgramOf file p → Reached p t → t.goroutines name ≡ Some g
      → StandsAs g.status g.frames
  checked_stands name g checked l here =
      let r = reached checked l in
      frames_stand (program_is_sorted file p checked).0 r.0 (r.1.sorted.goroutines name g here)

  pub checked_sends : (name : List ℕ) (g : Goroutine) (f : Frame) (below : List Frame) → ProgramOf file p → Reached p t
      → t.goroutines name ≡ Some g → g.frames ≡ f ∷ below → FrameSends f
  checked_sends name g f below checked l here is =
      let r = reached checked l in
      let fs = (program_is_sorted file p checked).0 in
      frame_sends fs r.0 f below (subst (SortedFrames fs r.0 g.status) is (r.1.sorted.goroutines name g here))

  pub checked_names : ProgramOf file p → Reached p t → AreFresh t
  checked_names checked l = (reached checked l).1.sorted.fresh

pub checked_begins : (file : FileTree) (p : Program) → ProgramOf file p
    → (f : Frame) × (call_of p (main_of p) [] ≡ gives f) × ((start p).goroutines [] ≡ Some (started f))
checked_begins file p checked =
    let fs = program_is_sorted file p checked in
    begun (call_of p (main_of p) []) (main_frame fs.0 p fs.1)
  where
    begun : {k : Sort} {n : ℕ} (o : Outcome Frame) → GoesOn (program_is_sorted file p checked).0 nothing_made k n o
        → (f : Frame) × (o ≡ gives f) × (started_in o ≡ Some (started f))
    begun o (on_as {on} e h) = (on, refl, refl)
