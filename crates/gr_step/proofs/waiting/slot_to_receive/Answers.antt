use Rattle.std.proofs.Common.{rules}
use Rattle.gr_base.specs.declared.values.Value.TheVariants.{Unit}
use Rattle.gr_step.proofs.waiting.slot_to_receive.Goals as goal

pub unwrap-requires : goal.unwrap-requires
unwrap-requires c = let made = c.requires Unit in search (rules, made)
