use Rattle.std.proofs.Common.{◌≡◌, length, arith, ap, ◌∙◌, sym}
use Rattle.gr_channels.specs.Channels.{Content}
use Rattle.gr_channels.specs.Objects.{GateContent, gate_of, slot_from}
use Rattle.gr_channels.proofs.Slots.{slots_same}
use Rattle.gr_channels.proofs.laws.law_of_objects.Goals as goal

content_same : (a b : Content) → gate_of a ≡ gate_of b → a.head ≡ b.head → a.items ≡ b.items → a ≡ b
content_same a b gate head items =
    λ i. record { capacity = (gate i).capacity; closed = (gate i).closed; senders = (gate i).senders; receivers = (gate i).receivers; head = head i; items = items i }

pub returns : goal.returns
returns c a b va vb gate tail head slots =
    let long : length a.items ≡ length b.items = omega arith in
    let one_capacity : b.capacity ≡ a.capacity = ap (λ (g : GateContent). g.capacity) (sym gate) in
    content_same a b gate head (slots_same a.capacity a.head a.items b.items long (va.within) (λ i less.
    slots i less ∙ ap (λ n. slot_from n i b.head b.items) one_capacity ∙ ap (λ n. slot_from a.capacity i n b.items) (sym head)))
