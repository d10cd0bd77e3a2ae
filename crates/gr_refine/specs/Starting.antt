-- How a program of code starts (Go: Program execution).
use Rattle.std.specs.Prelude.{◌≡◌, ℕ, [], Some, None, if◌then◌else◌}
use Rattle.gr_program.specs.Programs.{Program}
use Rattle.gr_rules.specs.Outcomes.{gives}
use Rattle.gr_rules.specs.States.{live, same_go, start}
use Rattle.gr_code.specs.Code.{Meanings}
use Rattle.gr_code.specs.CodeFrames.{ProgramCode, CodeFrame, entered}
use Rattle.gr_code.specs.Goroutines.{started}
use Rattle.gr_code.specs.Programs.{ProgramFits, frame_of}
use Rattle.gr_refine.specs.Contents.{Contents, state_of}
use Rattle.gr_refine.specs.Partners.{AreChannels}
use Rattle.gr_refine.specs.Standing.{ContentsStand}

-- a program that runs, with one goroutine, named by the empty list, in this frame, and no channel
abbrev pub begun : CodeFrame → Contents
begun f = record { run = live; goroutines = λ n. if same_go n [] then Some (started f) else None; channels = λ c. None }

module _ (means : ℕ → Meanings) (p : Program) (code : ProgramCode) where
  -- with `main` entered it is the state in which the program starts
  abbrev pub BegunIsTheStart : Type 0
  BegunIsTheStart = (first : CodeFrame) → ProgramFits means p code → entered code code.main [] ≡ gives first
      → state_of (frame_of means code) (begun first) ≡ start p

  -- in the contents with `main` entered all frames stand, and no channel is there
  abbrev pub BegunStands : Type 0
  BegunStands = (first : CodeFrame) → ProgramFits means p code → entered code code.main [] ≡ gives first
      → ContentsStand means code (begun first) × AreChannels (begun first)

  -- where the program starts with a goroutine, `main` can be entered
  abbrev pub MainIsEntered : Type 0
  MainIsEntered = ProgramFits means p code → ¬ ((start p).goroutines [] ≡ None) → (first : CodeFrame) × (entered code code.main [] ≡ gives first)
