-- What a key is: the bytes of a listing of goroutines and channels, which tell what matters of a state.
use Rattle.std.specs.Prelude.{◌≡◌, ℕ, Bool, List, [], ◌∷◌, ◌++◌, map, if◌then◌else◌, Option, None}
use Rattle.gr_base.specs.declared.names.ChName.{ChName}
use Rattle.gr_base.specs.declared.kinds.Fault.{Fault}
use Rattle.gr_base.specs.declared.kinds.Fault.TheVariants.{DivideByZero, NegativeShift, SendOnClosed, CloseOfClosed, CloseOfNil, BadSize, CallDepth, NameDepth, NameCount}
use Rattle.gr_channels.specs.Channels.{Content}
use Rattle.gr_program.specs.Programs.{Program}
use Rattle.gr_rules.specs.Operators.{same_channel}
use Rattle.gr_rules.specs.States.{Run, live, ended, faulted, same_go}
use Rattle.gr_code.specs.Goroutines.{CodeGoroutine}
use Rattle.gr_refine.specs.Contents.{Contents}
use Rattle.gr_record.specs.Listings.{state_in}
use Rattle.gr_keys.specs.Codes.{option_code, list_code, pair_code}
use Rattle.gr_keys.specs.ValueCodes.{name_code, channel_name_code}
use Rattle.gr_keys.specs.GoroutineCodes.{goroutine_code, channel_code}
use Rattle.gr_schedules.specs.Matters.{Matter, matter}

abbrev pub fault_number : Fault → ℕ
fault_number DivideByZero = 2
fault_number NegativeShift = 3
fault_number SendOnClosed = 4
fault_number CloseOfClosed = 5
fault_number CloseOfNil = 6
fault_number BadSize = 7
fault_number CallDepth = 8
fault_number NameDepth = 9
fault_number NameCount = 10

abbrev pub run_number : Run → ℕ
run_number live = 0
run_number ended = 1
run_number (faulted f) = fault_number f

-- goroutines and channels by their names; of a name that is there twice the first counts
abbrev pub found : {K X : Type 0} → (K → K → Bool) → List (K × Option X) → K → Option X
found equal [] q = None
found equal (e ∷ es) q = if equal q e.0 then e.1 else found equal es q

pub record Listing : Type 0 where
  pub run : Run
  pub goroutines : List (List ℕ × Option CodeGoroutine)
  pub channels : List (ChName × Option Content)

abbrev pub contents_listed : Listing → Contents
contents_listed l = record { run = l.run; goroutines = found same_go l.goroutines; channels = found same_channel l.channels }

abbrev pub goroutine_entry_code : List ℕ × Option CodeGoroutine → List ℕ
goroutine_entry_code e = pair_code name_code (option_code goroutine_code) e

abbrev pub channel_entry_code : ChName × Option Content → List ℕ
channel_entry_code e = pair_code channel_name_code (option_code channel_code) e

abbrev pub listing_code : Listing → List ℕ
listing_code l = run_number l.run ∷ list_code goroutine_entry_code l.goroutines ++ list_code channel_entry_code l.channels

-- contents, listed by these names
abbrev pub entries : {K X : Type 0} → (K → Option X) → List K → List (K × Option X)
entries f names = map (λ n. (n, f n)) names

-- the key has the bytes of a listing of a state of which this matters
pub record IsKey (p : Program) (key : List ℕ) (m : Matter) : Type 0 where
  pub listing : Listing
  pub bytes : key ≡ listing_code listing
  pub is : m ≡ matter (state_in p (contents_listed listing))
