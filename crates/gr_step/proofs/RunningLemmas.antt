-- What follows where a run of a checked program leads to what a store contains.
use Rattle.std.proofs.Common.{◌≡◌, ℕ, List, [], ◌∷◌, Some, refl, ap}
use Rattle.std.specs.Prelude.{map, option_map}
use Rattle.gr_base.specs.declared.events.Event.{Event}
use Rattle.gr_program.specs.Programs.{Program}
use Rattle.gr_rules.specs.Attempts.{unsound}
use Rattle.gr_rules.specs.Steps.{attempt}
use Rattle.gr_laws.specs.Soundness as laws
use Rattle.gr_laws.proofs.RuleSound.{reached_sound}
use Rattle.gr_laws.proofs.RuleWaits.{reached_waits}
use Rattle.gr_code.specs.CodeFrames.{CodeFrame}
use Rattle.gr_code.specs.Goroutines.{CodeGoroutine}
use Rattle.gr_code.specs.Programs.{ProgramFits}
use Rattle.gr_refine.specs.Contents.{Contents, goroutine_of}
use Rattle.gr_refine.specs.Presence.{Sound}
use Rattle.gr_refine.specs.Tasks.{Acts}
use Rattle.gr_refine.proofs.AttemptLemmas.{ready_has_a_frame}
use Rattle.gr_refine.proofs.MachineLemmas.{refusal_is_leaf}
use Rattle.gr_lower.specs.Lowered.{lowered, meaning}
use Rattle.type_safety.specs.Standing.{StandsAs, AreFresh}
use Rattle.type_safety.proofs.CheckedRuns.{checked_sounds, checked_stands, checked_names}
use Rattle.type_safety.proofs.CodeOfPrograms.{checked_fits}
use Rattle.gr_step.specs.declared.objects.Objects.{Objects}
use Rattle.gr_record.specs.Listings.{frame_in, state_in}
use Rattle.gr_step.specs.Objects.{contents_in}
use Rattle.gr_record.specs.Running.{Running}
use Rattle.gr_step.specs.Premises.{Acting}

module _ (p : Program) (s : Contents) (run : Running p s) where
  -- the code is that of the program
  pub code_fits : ProgramFits (meaning p) p (lowered p)
  code_fits = checked_fits run.program.file p run.program.checked

  -- no event is refused as unsound
  pub never_unsound : (e : Event) → Sound (frame_in p) s (attempt p e)
  never_unsound e bad = checked_sounds run.program.file p (state_in p s) e run.program.checked run.reached
      ((refusal_is_leaf p (state_in p s) e unsound).1 bad)

  -- channels are sound, and goroutines stand in the queues of what they wait for
  pub channels_sound : laws.Sound (state_in p s)
  channels_sound = reached_sound p (state_in p s) run.reached.log run.reached.leads

  pub waits_sound : laws.SoundWaits (state_in p s)
  waits_sound = reached_waits p (state_in p s) run.reached.log run.reached.leads

  -- frames stand at the operations and calls for which they wait
  pub stands_as : (n : List ℕ) (g : CodeGoroutine) → s.goroutines n ≡ Some g → StandsAs g.status (map (frame_in p) g.frames)
  stands_as n g there = checked_stands run.program.file p (state_in p s) n (goroutine_of (frame_in p) g) run.program.checked run.reached
      (ap (option_map (goroutine_of (frame_in p))) there)

  -- names of goroutines that are not yet started are free
  pub names_fresh : AreFresh (state_in p s)
  names_fresh = checked_names run.program.file p (state_in p s) run.program.checked run.reached

-- the goroutine that acts has an innermost frame
pub record ActsHere (p : Program) (s : Contents) (e : Event) (g : CodeGoroutine) : Type 0 where
  pub f : CodeFrame
  pub below : List CodeFrame
  pub acts : Acts (meaning p) p (lowered p) s e g f below

pub acts_here : (p : Program) (e : Event) (number : ℕ) (o : Objects) (a : Acting p e number o) → ActsHere p (contents_in o) e a.goroutine
acts_here p e number o a = by_frames a.goroutine.frames refl
  where
    by_frames : (fs : List CodeFrame) → a.goroutine.frames ≡ fs → ActsHere p (contents_in o) e a.goroutine
    by_frames [] is = absurd (ready_has_a_frame (frame_in p) (contents_in o) p e a.goroutine a.runs a.there a.is_ready
        (never_unsound p (contents_in o) a.running e) is)
    by_frames (f ∷ below) is = record {
      f = f;
      below = below;
      acts = record {
        fits = code_fits p (contents_in o) a.running;
        up = record { runs = a.runs; there = a.there; is_ready = a.is_ready; frames = is };
        stand = a.running.stand e.go a.goroutine a.there;
      };
    }
