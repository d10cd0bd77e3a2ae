-- Objects that belong to no channel.
use Rattle.std.proofs.Common.{◌≡◌, ℕ, List, Option, None, refl}
use Rattle.gr_base.specs.declared.objects.Object.{Object}
use Rattle.gr_record.specs.declared.record.Parts.{Parts}
use Rattle.gr_record.specs.declared.record.Parts.TheVariants as parts
use Rattle.gr_record.specs.Parts.{parts_before}

-- without a channel there are no parts of it
pub no_channel : (p : Parts) (slot : Option ℕ) (os : List Object) → parts_before p slot None os ≡ os
no_channel parts.Nothing slot os = refl
no_channel parts.Gate slot os = refl
no_channel parts.Entrance slot os = refl
no_channel parts.Exit slot os = refl
no_channel parts.GateAndExit slot os = refl
no_channel parts.All slot os = refl
