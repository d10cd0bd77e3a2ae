-- What a contract sees of a store.
use Rattle.std.specs.Prelude.{◌≡◌, ℕ}
use Rattle.gr_program.specs.Programs.{Program}
use Rattle.gr_rules.specs.States.{State, start}
use Rattle.gr_refine.specs.Contents.{Contents}
use Rattle.gr_step.specs.declared.store.Store.{Store}
use Rattle.gr_record.specs.declared.record.Record.{Record}
use Rattle.gr_record.specs.Listings.{program_in, state_in, IsCoded}
use Rattle.gr_step.specs.Objects.{contents_in}
use Rattle.gr_step.specs.Room.{HasRoom}
use Rattle.gr_record.specs.Running.{Running}

-- the program that runs, what the store contains, and the state of the rules that this is
abbrev pub program_at : Store → Program
program_at s = program_in s.listing

abbrev pub contents_at : Store → Contents
contents_at s = contents_in s.objects

abbrev pub state_at : Store → State
state_at s = state_in (program_at s) (contents_at s)

-- how many steps it has taken
abbrev pub taken_at : Store → ℕ
taken_at s = s.taken

-- the code is that of the program, and a run of the program leads to what the store contains
pub record IsRun (s : Store) : Type 0 where
  pub coded : IsCoded s.listing
  pub running : Running (program_at s) (contents_at s)

-- the program and its code stay
abbrev pub SameListing : Store → Store → Type 0
SameListing old new = new.listing ≡ old.listing

-- there is room for taking the step of a record back
abbrev pub HasRoomFor : Record → Store → Type 0
HasRoomFor r s = HasRoom r.id.go r.change s.objects

-- a store of this program before its first step
pub record IsStart (p : Program) (s : Store) : Type 0 where
  pub program : program_at s ≡ p
  pub run : IsRun s
  pub state : state_at s ≡ start p
  pub taken : taken_at s ≡ 0
