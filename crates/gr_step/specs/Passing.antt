-- Goroutines that go on with what arrives, and what the change of a step tells that reached beyond its goroutine.
use Rattle.std.specs.Prelude.{◌≡◌, ℕ, Bool, List, ◌∷◌, Option, Some, None, false}
use Rattle.std.specs.Option.{option_map_or}
use Rattle.gr_base.specs.declared.names.ChName.{ChName}
use Rattle.gr_base.specs.declared.kinds.Kind.{Kind}
use Rattle.gr_base.specs.declared.kinds.Kind.TheVariants.{Pick}
use Rattle.gr_base.specs.declared.objects.Object.{Object}
use Rattle.gr_base.specs.declared.objects.Object.TheVariants as objects
use Rattle.gr_base.specs.declared.values.Value.{Value}
use Rattle.gr_channels.specs.declared.changes.ChanUndo.{ChanUndo}
use Rattle.gr_rules.specs.Outcomes.{gives, wrong}
use Rattle.gr_rules.specs.States.{same_go, updated}
use Rattle.gr_rules.specs.Attempts.{Operation}
use Rattle.gr_code.specs.CodeFrames.{ProgramCode}
use Rattle.gr_code.specs.Goroutines.{CodeGoroutine, Arrival, CanCount, arrived}
use Rattle.gr_goros.specs.Undoing.{undone, Fits}
use Rattle.gr_goros.specs.declared.arrivals.Arrival.TheVariants.{Passes, IsMet}
use Rattle.gr_goros.specs.declared.undo.GoUndo.{GoUndo}
use Rattle.gr_tables.specs.NamedChannels.{contents_of, withdrawn, Follows, MoreAtGates}
use Rattle.gr_tables.specs.NamedGoroutines.{At, goroutines_of}
use Rattle.gr_step.specs.declared.objects.Objects.{Objects}
use Rattle.gr_step.specs.declared.crossing.Crossing.{Crossing}
use Rattle.gr_step.specs.declared.turn.Meeting.{Meeting}
use Rattle.gr_record.specs.Effects.{Effect}
use Rattle.gr_record.specs.Records.{operation_in, stops, writes_of, reads_of, goroutines_changed, channels_changed, begun_by, made_by, NeedNoFrame, FramesStay}

-- what arrives fits the instruction of the goroutine that is there
abbrev pub CanArriveAt : ProgramCode → Arrival → Option CodeGoroutine → Type 0
CanArriveAt code arrival g = At (λ g. (¬ (arrived code arrival g ≡ wrong)) × CanCount arrival g) g

-- what arrives takes the goroutine of the name past its instruction, which this undoes, and no other goroutine changes
pub record ArrivesAt (code : ProgramCode) (n : List ℕ) (arrival : Arrival) (u : GoUndo) (f h : List ℕ → Option CodeGoroutine) : Type 0 where
  pub before : CodeGoroutine
  pub after : CodeGoroutine
  pub was : f n ≡ Some before
  pub is : h ≡ updated same_go f n (Some after)
  pub arrives : arrived code arrival before ≡ gives after
  pub back : undone u after ≡ before
  pub fits : Fits u after

-- what is told by a change that reached beyond its goroutine, started and made nothing, and left the program running
pub record Tells (c : Effect) (kind : Kind) (operation : Option Operation) (reads writes : List Object) (own : GoUndo) (met : List (List ℕ × GoUndo))
    (changed : List (ChName × ChanUndo)) : Type 0 where
  pub kind_is : c.kind ≡ kind
  pub own_is : c.own ≡ own
  pub operation_is : operation_in c ≡ operation
  pub reads_are : reads_of c ≡ objects.Run ∷ reads
  pub writes_are : (n : List ℕ) → writes_of n c ≡ objects.Go n ∷ writes
  pub goroutines_are : (n : List ℕ) → goroutines_changed n c ≡ (n, own) ∷ met
  pub channels_are : channels_changed c ≡ changed
  pub begins_none : begun_by c ≡ None
  pub makes_none : made_by c ≡ None
  pub runs_on : stops c ≡ false
  pub frames : (n : List ℕ) → NeedNoFrame ((n, own) ∷ met) → FramesStay n c

-- two goroutines go past their communication, one after the other
pub record BothArrive (code : ProgramCode) (n m : List ℕ) (passes meets : Arrival) (own met : GoUndo) (f h : List ℕ → Option CodeGoroutine) : Type 0 where
  pub between : List ℕ → Option CodeGoroutine
  pub goes : ArrivesAt code n passes own f between
  pub meeting : ArrivesAt code m meets met between h

-- two goroutines go past their communication, and the second waits on none of these channels any more
pub record Exchanges (code : ProgramCode) (n m : List ℕ) (passes meets : Arrival) (names : List ChName) (own met : GoUndo)
    (done changed : List (ChName × ChanUndo)) (old new : Objects) : Type 0 where
  pub both : BothArrive code n m passes meets own met (goroutines_of old.goroutines) (goroutines_of new.goroutines)
  pub withdraws : contents_of new.channels ≡ withdrawn m names (contents_of old.channels)
  pub follows : Follows done changed old.channels new.channels
  pub gates : MoreAtGates names done changed
  pub run : new.run ≡ old.run

-- two goroutines go past a meeting: the kind of the step, or the clause that it picks, and what each of them gets
abbrev pub crossing : Meeting → Kind → Option (Value × Bool) → Option ℕ → Option (Value × Bool) → Crossing
crossing m kind got case given = record { kind = option_map_or Pick m.clause kind; passes = Passes m.clause got; meets = IsMet case given }
