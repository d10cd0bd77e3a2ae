-- A frame that went on or made a channel stood there, and leaves the status of its goroutine.
use Rattle.std.proofs.Common.{◌≡◌, Some, refl}
use Rattle.gr_code.specs.Goroutines.{CodeGoroutine}
use Rattle.gr_goros.specs.Before.{spot_in}
use Rattle.gr_goros.specs.Keeping.{in_frame}
use Rattle.gr_goros.specs.Undoing.{undone}
use Rattle.gr_goros.specs.declared.kept.How.{How}
use Rattle.gr_goros.specs.declared.kept.How.TheVariants.{Went, Made}
use Rattle.gr_goros.specs.declared.undo.Former.{Former}
use Rattle.gr_goros.specs.declared.undo.Spot.{Spot}

pub kept_in_frame : (how : How) (s : Spot) (before : Former) → Some s ≡ spot_in (in_frame how s before)
kept_in_frame Went s before = refl
kept_in_frame Made s before = refl

pub same_in_frame : (how : How) (s : Spot) (before : Former) (g : CodeGoroutine) → (undone (in_frame how s before) g).status ≡ g.status
same_in_frame Went s before g = refl
same_in_frame Made s before g = refl
