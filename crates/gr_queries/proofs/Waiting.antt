-- A waiter that is copied.
use Rattle.std.proofs.Common.{◌≡◌, ℕ, List, ap, ap₂}
use Rattle.gr_base.specs.declared.values.Value.{Value}
use Rattle.gr_channels.specs.declared.waiter.Waiter.{Waiter}

-- a waiter at the same clause
waiter : {X : Type 0} → (w : Waiter X) → List ℕ → X → Waiter X
waiter w go v = record { go = go; case = w.case; value = v }

pub sender_is : (w : Waiter Value) (go : List ℕ) (v : Value) → go ≡ w.go → v ≡ w.value → record { go = go; case = w.case; value = v } ≡ w
unfolding waiter
sender_is w go v named is = ap₂ (waiter w) named is

pub receiver_is : (w : Waiter (Unit {0})) (go : List ℕ) → go ≡ w.go → record { go = go; case = w.case; value = tt } ≡ w
receiver_is w go named = ap (λ (n : List ℕ). record w { go = n }) named
