use Rattle.std.proofs.Common.{rules}
use Rattle.gr_base.specs.declared.values.Value.TheVariants.{Unit}
use Rattle.gr_step.proofs.queues.queue_to_receive.Goals as goal

pub park_receiver-requires : goal.park_receiver-requires
park_receiver-requires c = let made = c.requires Unit in search (rules, made)
