-- Frames of code that stand at instructions, in goroutines and in all that a store contains.
use Rattle.std.specs.Prelude.{◌≡◌, ℕ, List, [], ◌∷◌, Some, None}
use Rattle.gr_base.specs.declared.kinds.Kind.{Kind}
use Rattle.gr_program.specs.Programs.{Program}
use Rattle.gr_rules.specs.Outcomes.{gives}
use Rattle.gr_code.specs.Code.{Meanings}
use Rattle.gr_code.specs.CodeFrames.{ProgramCode, CodeFrame}
use Rattle.gr_code.specs.Goroutines.{CodeGoroutine, Arrival, local, arrived}
use Rattle.gr_code.specs.Programs.{ProgramFits, Stands}
use Rattle.gr_refine.specs.Contents.{Contents, with_goroutine}
use Rattle.gr_refine.specs.Meetings.{with_woken}

module _ (means : ℕ → Meanings) (code : ProgramCode) where
  -- each of these frames stands at an instruction of its function
  abbrev pub AllStand : List CodeFrame → Type 0
  AllStand [] = Unit {0}
  AllStand (f ∷ fs) = Stands means code f × AllStand fs

  -- the frames of all goroutines stand
  abbrev pub ContentsStand : Contents → Type 0
  ContentsStand s = (n : List ℕ) (g : CodeGoroutine) → s.goroutines n ≡ Some g → AllStand g.frames

  -- a local step leaves the frames of its goroutine standing
  abbrev pub LocalStepKeepsStanding : Type 0
  LocalStepKeepsStanding = (p : Program) (g after : CodeGoroutine) (kind : Kind)
      → ProgramFits means p code → AllStand g.frames → local code g ≡ gives (kind, after) → AllStand after.frames

  -- what arrives leaves the frames of its goroutine standing
  abbrev pub ArrivalKeepsStanding : Type 0
  ArrivalKeepsStanding = (p : Program) (a : Arrival) (g after : CodeGoroutine)
      → ProgramFits means p code → AllStand g.frames → arrived code a g ≡ gives after → AllStand after.frames

  -- a goroutine that changes or starts, with frames that stand, and one that goes away, leave the frames of all standing
  abbrev pub ChangeKeepsStanding : Type 0
  ChangeKeepsStanding = (s : Contents) (n : List ℕ) (g : CodeGoroutine)
      → ContentsStand s → AllStand g.frames → ContentsStand (with_goroutine s n (Some g))

  abbrev pub GoneKeepsStanding : Type 0
  GoneKeepsStanding = (s : Contents) (n : List ℕ) → ContentsStand s → ContentsStand (with_goroutine s n None)

  -- goroutines that are made ready again leave the frames of all standing, and so do changes of channels alone
  abbrev pub WakingKeepsStanding : Type 0
  WakingKeepsStanding = (s : Contents) (names : List (List ℕ)) → ContentsStand s → ContentsStand (with_woken s names)

  abbrev pub SameGoroutinesStand : Type 0
  SameGoroutinesStand = (s t : Contents) → ((n : List ℕ) → t.goroutines n ≡ s.goroutines n) → ContentsStand s → ContentsStand t

-- P holds of each code of a program
abbrev pub OfEachCode : ((ℕ → Meanings) → ProgramCode → Type 0) → Type 0
OfEachCode P = (means : ℕ → Meanings) (code : ProgramCode) → P means code
