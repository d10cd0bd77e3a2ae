-- The clauses of a select: the values that they send, their numbers, and what they look at.
use Rattle.std.proofs.Common.{◌≡◌, ◌≤◌, ◌+◌, ℕ, true, false, List, [], ◌∷◌, Some, None, Ok, Err, refl, sym, ap, arith}
use Rattle.std.specs.List.{list_any, flat_map}
use Rattle.gr_base.specs.declared.kinds.Fault.{Fault}
use Rattle.gr_base.specs.declared.objects.Object.{Object}
use Rattle.gr_base.specs.declared.objects.Object.TheVariants as objects
use Rattle.gr_rules.specs.Outcomes.{gives, faults, ◌>>=◌}
use Rattle.gr_rules.specs.Deeds.{Communication, Sending, Receiving, Otherwise}
use Rattle.gr_rules.specs.States.{State, same}
use Rattle.gr_rules.specs.Selects.{values_of, default_from}
use Rattle.gr_rules.specs.Touches.{side}
use Rattle.gr_laws.specs.Touched.{each_once}
use Rattle.gr_goros.specs.declared.needs.Clause.{Clause}
use Rattle.gr_goros.specs.declared.needs.Clause.TheVariants as clauses
use Rattle.gr_goros.specs.Views.{communications_of}
use Rattle.gr_step.specs.Choices.{fault_in}
use Rattle.gr_step.specs.Communicating.{HasValues}
use Rattle.gr_step.proofs.EachOnceLemmas.{AlikeFor, alike_after}
use Rattle.gr_step.proofs.WaitTouchLemmas.{of_channel, sides_of_channels}

-- the values to send, where none is at fault, and the fault of the first that has one
pub values_given : (cs : List Clause) → fault_in cs ≡ None → HasValues cs
values_given [] none = ([], refl)
values_given (clauses.Default ∷ cs) none = values_given cs none
values_given (clauses.Send c (Ok v) ∷ cs) none =
    let others = values_given cs none in (v ∷ others.0, ap (λ o. o >>= λ xs. gives (v ∷ xs)) others.1)
values_given (clauses.Send c (Err fault) ∷ cs) none = absurd (let never : Some fault ≡ None = none in cc)
values_given (clauses.Receive c v ∷ cs) none = values_given cs none

pub some_is : {X : Type 0} {x y : X} → Some x ≡ Some y → x ≡ y
some_is {X} {x} h = ap (λ o. elim o [ Some z ↦ z | None ↦ x ]) h

pub value_faults : (cs : List Clause) (fault : Fault) → fault_in cs ≡ Some fault → values_of (communications_of cs) ≡ faults fault
value_faults [] fault some = absurd (let never : None ≡ Some fault = some in cc)
value_faults (clauses.Default ∷ cs) fault some = value_faults cs fault some
value_faults (clauses.Send c (Ok v) ∷ cs) fault some = ap (λ o. o >>= λ xs. gives (v ∷ xs)) (value_faults cs fault some)
value_faults (clauses.Send c (Err e) ∷ cs) fault some = ap faults (some_is some)
value_faults (clauses.Receive c v ∷ cs) fault some = value_faults cs fault some

-- the default clause has a number from the first on
pub default_above : (k i : ℕ) (ws : List Communication) → default_from k ws ≡ Some i → k ≤ i
default_above k i [] there = absurd (let never : None ≡ Some i = there in cc)
default_above k i (Otherwise ∷ ws) there = let is : k ≡ i = some_is there in omega (arith, is)
default_above k i (Sending c v ∷ ws) there = omega (arith, default_above (k + 1) i ws there)
default_above k i (Receiving c v ∷ ws) there = omega (arith, default_above (k + 1) i ws there)

-- what communications look at, each once, has no goroutine, and not whether the program runs
no_other : (seen : List Object) → ((o : Object) → of_channel o ≡ true → list_any (same o) seen ≡ false) → AlikeFor of_channel [] seen
no_other seen none o among = sym (none o among)

fault_seen : (n : List ℕ) (o : Object) → of_channel o ≡ true → list_any (same o) (objects.Go n ∷ objects.Run ∷ []) ≡ false
fault_seen n objects.Run among = absurd (let never : false ≡ true = among in cc)
fault_seen n (objects.Go m) among = absurd (let never : false ≡ true = among in cc)
fault_seen n (objects.Gate c) among = refl
fault_seen n (objects.Tail c) among = refl
fault_seen n (objects.Head c) among = refl
fault_seen n (objects.Slot c i) among = refl

default_seen : (n : List ℕ) (o : Object) → of_channel o ≡ true → list_any (same o) (objects.Run ∷ objects.Go n ∷ []) ≡ false
default_seen n objects.Run among = absurd (let never : false ≡ true = among in cc)
default_seen n (objects.Go m) among = absurd (let never : false ≡ true = among in cc)
default_seen n (objects.Gate c) among = refl
default_seen n (objects.Tail c) among = refl
default_seen n (objects.Head c) among = refl
default_seen n (objects.Slot c i) among = refl

module _ (t : State) (ws : List Communication) (n : List ℕ) where
  pub once_in_fault : each_once [] (flat_map (side t) ws) ≡ each_once (objects.Go n ∷ objects.Run ∷ []) (flat_map (side t) ws)
  once_in_fault = alike_after of_channel [] (objects.Go n ∷ objects.Run ∷ []) (flat_map (side t) ws) (sides_of_channels t ws)
      (no_other (objects.Go n ∷ objects.Run ∷ []) (fault_seen n))

  pub once_in_default : each_once [] (flat_map (side t) ws) ≡ each_once (objects.Run ∷ objects.Go n ∷ []) (flat_map (side t) ws)
  once_in_default = alike_after of_channel [] (objects.Run ∷ objects.Go n ∷ []) (flat_map (side t) ws) (sides_of_channels t ws)
      (no_other (objects.Run ∷ objects.Go n ∷ []) (default_seen n))
