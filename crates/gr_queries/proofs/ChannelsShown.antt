-- What is shown of a channel's content is what the rules show of its objects.
use Rattle.std.proofs.Common.{◌≡◌, ℕ, suc, ◌+◌, ◌-◌, ◌%◌, Bool, List, [], ◌∷◌, length, slice_get, Option, Some, refl, sym, ap, ◌∙◌, subst}
use Rattle.std.proofs.Common.{arith, add-zero}
use Rattle.std.specs.Prelude.{option_map, option_and_then}
use Rattle.std.specs.List.{filter_map, cons_option}
use Rattle.std.specs.Option.{option_map_or}
use Rattle.gr_base.specs.declared.names.ChName.{ChName}
use Rattle.gr_base.specs.declared.values.Value.{Value}
use Rattle.gr_channels.specs.declared.waiter.Waiter.{Waiter}
use Rattle.gr_channels.specs.Channels.{Content, IsChannel, tail_of}
use Rattle.gr_channels.specs.Objects.{gate_of, head_of, slot_of}
use Rattle.gr_channels.proofs.Slots.{slot_held}
use Rattle.gr_program.specs.Programs.{Program}
use Rattle.gr_rules.specs.States.{State}
use Rattle.gr_rules.specs.Tells.{ChannelShown, items_from}
use Rattle.gr_refine.specs.Contents.{Contents}
use Rattle.gr_command.specs.Replies as said
use Rattle.gr_step.specs.Listings.{state_in}
use Rattle.gr_queries.specs.Said.{channel_said}

-- the values of these slots
abbrev values_from : State → ChName → ℕ → ℕ → ℕ → List Value
values_from t c capacity number n = filter_map (option_map (λ item. item.1)) (items_from t c capacity number n)

-- where each item stands in the slot of its number, these are the items
items_are : (t : State) (c : ChName) (capacity number : ℕ) (vs : List Value)
    → ((i : ℕ) (v : Value) → slice_get vs i ≡ Some v → t.slots c ((number + i) % capacity) ≡ Some (number + i, v))
    → values_from t c capacity number (length vs) ≡ vs
items_are t c capacity number [] held = refl
items_are t c capacity number (v ∷ vs) held =
    let first : t.slots c (number % capacity) ≡ Some (number, v) =
    subst (λ k. t.slots c (k % capacity) ≡ Some (k, v)) (add-zero number) (held 0 v refl) in
    ap (λ (o : Option (ℕ × Value)). cons_option (option_map (λ item. item.1) o) (values_from t c capacity (suc number) (length vs))) first
    ∙ ap (λ l. v ∷ l) (items_are t c capacity (suc number) vs later)
  where
    later : (i : ℕ) (w : Value) → slice_get vs i ≡ Some w → t.slots c ((suc number + i) % capacity) ≡ Some (suc number + i, w)
    later i w e = subst (λ k. t.slots c (k % capacity) ≡ Some (k, w)) (omega arith) (held (suc i) w e)

-- what is shown of a channel
abbrev shown_as : ℕ → Bool → List Value → List (Waiter Value) → List (Waiter (Unit {0})) → ChannelShown
shown_as capacity closed items senders receivers =
    record { capacity = capacity; closed = closed; items = items; senders = senders; receivers = receivers }

module _ (p : Program) (s : Contents) (c : ChName) (x : Content) (there : Some x ≡ s.channels c) (valid : IsChannel x) where
  held : (i : ℕ) (v : Value) → slice_get x.items i ≡ Some v → (state_in p s).slots c ((x.head + i) % x.capacity) ≡ Some (x.head + i, v)
  held i v e = ap (λ o. option_and_then (λ y. slot_of y ((x.head + i) % x.capacity)) o) (sym there)
      ∙ slot_held x.capacity ((x.head + i) % x.capacity) x.head x.items i v valid.within e refl

  -- the items of the buffer
  items_of : values_from (state_in p s) c x.capacity ((state_in p s).heads c) ((state_in p s).tails c - (state_in p s).heads c) ≡ x.items
  items_of =
      let head : (state_in p s).heads c ≡ x.head = ap (λ o. option_map_or head_of o 0) (sym there) in
      let tail : (state_in p s).tails c ≡ x.head + length x.items = ap (λ o. option_map_or tail_of o 0) (sym there) in
      let many : (state_in p s).tails c - (state_in p s).heads c ≡ length x.items = omega (arith, head, tail) in
      ap (values_from (state_in p s) c x.capacity ((state_in p s).heads c)) many
      ∙ ap (λ n. values_from (state_in p s) c x.capacity n (length x.items)) head
      ∙ items_are (state_in p s) c x.capacity x.head x.items held

  pub channel_answer : (capacity : ℕ) (closed : Bool) (items : List Value) (senders : List (Waiter Value)) (receivers : List (Waiter (Unit {0})))
      → capacity ≡ x.capacity → closed ≡ x.closed → items ≡ x.items → senders ≡ x.senders → receivers ≡ x.receivers
      → said.Channel (record { capacity = capacity; closed = closed; items = items; senders = senders; receivers = receivers })
      ≡ channel_said (state_in p s) c ((state_in p s).gates c)
  channel_answer capacity closed items senders receivers holds is_closed has sends receives =
      let its_items = has ∙ sym items_of in
      let values = values_from (state_in p s) c x.capacity ((state_in p s).heads c) ((state_in p s).tails c - (state_in p s).heads c) in
      let same : shown_as capacity closed items senders receivers ≡ shown_as x.capacity x.closed values x.senders x.receivers =
      λ j. shown_as (holds j) (is_closed j) (its_items j) (sends j) (receives j) in
      ap said.Channel same ∙ ap (λ o. channel_said (state_in p s) c (option_map gate_of o)) there
