use Rattle.std.proofs.Common.{◌≡◌, ◌+◌, ◌%◌, ◌<◌, ◌≤◌, ℕ, List, [], ◌∷◌, length, None, arith, ap, subst, ◌∙◌, sym, refl, inl, inr}
use Rattle.gr_channels.specs.Objects.{slot_from}
use Rattle.std.proofs.Math.Nat.{add-mod_right}
use Rattle.gr_channels.proofs.Slots.{le_or_more, some_is_not_none, slot_after, slot_first}
use Rattle.gr_channels.proofs.laws.law_of_ends.Goals as goal

has_room : {X : Type 0} → (n h : ℕ) (xs : List X) → length xs ≤ n → 0 < n → slot_from n ((h + length xs) % n) h xs ≡ None → length xs < n
has_room n h [] most some none = some
has_room n h (x ∷ xs) most some none =
    elim (le_or_more n (length (x ∷ xs))) [
      | inl full ↦
          let round : h + length (x ∷ xs) ≡ h + n = omega arith in
          let own : (h + length (x ∷ xs)) % n ≡ h % n = ap (λ k. k % n) round ∙ add-mod_right h n in
          absurd (some_is_not_none (sym (slot_first n h x xs) ∙ subst (λ k. slot_from n k h (x ∷ xs) ≡ None) own none))
      | inr less ↦ omega arith
    ]

no_item : {X : Type 0} → (n h : ℕ) (xs : List X) → slot_from n (h % n) h xs ≡ None → xs ≡ []
no_item n h [] none = refl
no_item n h (x ∷ xs) none = absurd (some_is_not_none (sym (slot_first n h x xs) ∙ none))

pub returns-clause-room : goal.returns-clause-room
returns-clause-room c channel valid some =
    (λ none. has_room channel.capacity channel.head channel.items (valid.within) some none, λ room. slot_after channel.capacity channel.head channel.items room)

pub returns-clause-front : goal.returns-clause-front
returns-clause-front c channel valid = (
  λ none. no_item channel.capacity channel.head channel.items none,
  λ empty. subst (λ xs. slot_from channel.capacity (channel.head % channel.capacity) channel.head xs ≡ None) (sym empty) refl,
)
