-- What steps that meet no other goroutine reach beyond their own, and how a fault stops the program.
use Rattle.std.specs.Prelude.{◌≡◌, ◌+◌, ◌≤◌, ℕ, ℤ, pos, negsuc, Bool, true, false, List, [], ◌∷◌, Option, Some, None}
use Rattle.gr_base.specs.declared.names.ChName.{ChName}
use Rattle.gr_base.specs.declared.kinds.Fault.{Fault}
use Rattle.gr_base.specs.declared.kinds.Kind.TheVariants as kinds
use Rattle.gr_base.specs.declared.objects.Object.{Object}
use Rattle.gr_base.specs.declared.objects.Object.TheVariants as objects
use Rattle.gr_rules.specs.Limits.{most_places}
use Rattle.gr_rules.specs.States as rules
use Rattle.gr_code.specs.Goroutines.{CodeGoroutine, faulted, finished}
use Rattle.gr_goros.specs.Undoing.{undone, Fits}
use Rattle.gr_refine.specs.Contents.{Contents, with_goroutine}
use Rattle.gr_goros.specs.declared.undo.GoUndo.{GoUndo}
use Rattle.gr_tables.specs.NamedGoroutines.{ChangesBy, ComesTo}
use Rattle.gr_tables.specs.declared.goroutines.Goroutines.{Goroutines}
use Rattle.gr_step.specs.declared.objects.Objects.{Objects}
use Rattle.gr_step.specs.declared.objects.Run.{Run}
use Rattle.gr_step.specs.declared.objects.Run.TheVariants.{Ended, Faulted}
use Rattle.gr_record.specs.declared.record.Operation.{Operation}
use Rattle.gr_record.specs.declared.record.Beyond.{Beyond}
use Rattle.gr_record.specs.Effects.{Effect}
use Rattle.gr_record.specs.Fews.{members}
use Rattle.gr_record.specs.Parts.{reads_in, writes_in, begun_in, made_in}

-- what it did with a channel, read, wrote, started and made, and whether it ended or stopped the program; it reached nothing
-- else
pub record ReachesAll (did : Option Operation) (read written : List Object) (begun : Option (List ℕ)) (made : Option ChName) (stopped : Bool)
    (b : Beyond) : Type 0 where
  pub operation : b.operation ≡ did
  pub reads : reads_in b ≡ read
  pub writes : writes_in b ≡ written
  pub met : members b.met ≡ []
  pub channels : members b.channels ≡ []
  pub begins : begun_in b ≡ begun
  pub makes : made_in b ≡ made
  pub stops : b.stops ≡ stopped

-- it reached this, and started and made nothing
abbrev pub Reaches : Option Operation → List Object → List Object → Bool → Beyond → Type 0
Reaches did read written stopped b = ReachesAll did read written None None stopped b

-- the change reached beyond its goroutine: what it did, read and wrote, and whether it stopped the program
abbrev pub ReachesBeyond : Option Operation → List Object → List Object → Bool → Effect → Type 0
ReachesBeyond did read written stopped c = elim c.beyond [ Some b ↦ Reaches did read written stopped b | None ↦ ⊥ ]

-- it made a channel of this name, or started a goroutine of this name, and reached nothing else
abbrev pub ReachesChannel : ChName → Beyond → Type 0
ReachesChannel name b = ReachesAll None [] (objects.Gate name ∷ []) None (Some name) false b

abbrev pub ReachesChild : List ℕ → Beyond → Type 0
ReachesChild child b = ReachesAll None [] (objects.Go child ∷ []) (Some child) None false b

-- a size that no channel can have (Go: Making slices, maps and channels)
abbrev pub IsBadSize : ℤ → Type 0
IsBadSize (pos n) = most_places + 1 ≤ n
IsBadSize (negsuc n) = Unit {0}

-- the goroutine of this name stopped the program with a fault: what it did with a channel, and what it read
pub record Stops (n : List ℕ) (fault : Fault) (did : Option Operation) (read : List Object) (s : Contents) (g : CodeGoroutine) (c : Effect)
    (t : Contents) : Type 0 where
  pub after : t ≡ record (with_goroutine s n (Some (faulted g))) { run = rules.faulted fault }
  pub kind : c.kind ≡ kinds.Fault fault
  pub beyond : ReachesBeyond did read (objects.Run ∷ []) true c
  pub back : undone c.own (faulted g) ≡ g
  pub fits : Fits c.own (faulted g)

-- the goroutines have these changes, and this says whether the program runs
pub record ChangesObjects (change : Goroutines → Goroutines → Type 0) (run : Run) (old new : Objects) : Type 0 where
  pub goroutines : change old.goroutines new.goroutines
  pub runs : new.run ≡ run
  pub channels : new.channels ≡ old.channels

-- a step that was a fault stopped the program
pub record HasStopped (fault : Fault) (undo : GoUndo) (c : Effect) (old new : Objects) : Type 0 where
  pub kind : c.kind ≡ kinds.Fault fault
  pub own : c.own ≡ undo
  pub beyond : ReachesBeyond None [] (objects.Run ∷ []) true c
  pub after : new ≡ record old { run = Faulted fault }

-- the goroutine with this number is done, and the program has ended
pub record HasEnded (number : ℕ) (c : Effect) (old new : Objects) : Type 0 where
  pub kind : c.kind ≡ kinds.Exit
  pub beyond : ReachesBeyond None [] (objects.Run ∷ []) true c
  pub after : ChangesObjects (ChangesBy number (ComesTo finished c.own)) Ended old new
