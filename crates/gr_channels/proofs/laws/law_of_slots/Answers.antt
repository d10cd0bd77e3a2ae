use Rattle.std.proofs.Common.{◌≡◌, ◌+◌, ◌-◌, ◌%◌, Some, arith, ap, ◌∙◌}
use Rattle.gr_channels.proofs.Slots.{slot_found, slot_held}
use Rattle.gr_channels.proofs.laws.law_of_slots.Goals as goal

pub returns : goal.returns
returns c channel i k v valid = (
  λ e. slot_found channel.capacity i channel.head channel.items k v e,
  λ h. let same : channel.head + (k - channel.head) ≡ k = omega (arith, h.0) in
      slot_held channel.capacity i channel.head channel.items (k - channel.head) v (valid.within) (h.1) (ap (λ m. m % channel.capacity) same ∙ h.2) ∙ ap (λ m. Some (m, v)) same,
)
