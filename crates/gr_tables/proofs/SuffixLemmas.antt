-- What the last ones of some changes need and free.
use Rattle.std.proofs.Common.{◌≡◌, ℕ, zero, suc, ◌-◌, ◌<◌, ◌≤◌, Bool, true, false, cond, List, [], ◌∷◌, length, drop, get_or, drop-cons, ap, sym, ◌∙◌, subst}
use Rattle.std.proofs.Common.{arith}
use Rattle.gr_base.specs.declared.names.ChName.{ChName}
use Rattle.gr_channels.specs.declared.changes.ChanUndo.{ChanUndo}
use Rattle.gr_channels.specs.declared.changes.ChanUndo.TheVariants.{Handed, Buffered, Took, Moved, Met, ParkedSender, ParkedReceiver, Withdrawn, Closed}
use Rattle.gr_channels.specs.Channels.{Room, Within, plus, each}
use Rattle.gr_channels.specs.Changes.{need, entered}
use Rattle.gr_rules.specs.Operators.{same_channel}
use Rattle.gr_tables.specs.NamedChannels.{minus, frees, needs}
use Rattle.gr_tables.proofs.RoomLemmas.{none_within, within_self, within_more}

within_sum : (a b : Room) → Within a (plus a b)
within_sum a b = record { items = omega arith; senders = omega arith; receivers = omega arith }

needs_rest : (e : ChName × ChanUndo) (es : List (ChName × ChanUndo)) (q : ChName) → Within (needs es q) (needs (e ∷ es) q)
needs_rest e es q = more (same_channel q e.0)
  where
    more : (b : Bool) → Within (needs es q) (cond b (plus (needs es q) (minus (need e.1) (frees es q))) (needs es q))
    more true = within_sum (needs es q) (minus (need e.1) (frees es q))
    more false = within_self (needs es q)

-- the last ones of them need no more than all
pub needs_all : (es : List (ChName × ChanUndo)) (j : ℕ) (q : ChName) → Within (needs (drop j es) q) (needs es q)
needs_all [] zero q = within_self _
needs_all [] (suc j) q = within_self _
needs_all (e ∷ es) zero q = within_self _
needs_all (e ∷ es) (suc j) q = within_more _ _ _ (needs_all es j q) (needs_rest e es q)

needs_from : (es : List (ChName × ChanUndo)) (i j : ℕ) (q : ChName) → i ≤ j → Within (needs (drop j es) q) (needs (drop i es) q)
needs_from [] zero zero q h = within_self _
needs_from [] zero (suc j) q h = within_self _
needs_from [] (suc i) zero q h = absurd (omega arith)
needs_from [] (suc i) (suc j) q h = within_self _
needs_from (e ∷ es) zero j q h = needs_all (e ∷ es) j q
needs_from (e ∷ es) (suc i) zero q h = absurd (omega arith)
needs_from (e ∷ es) (suc i) (suc j) q h = needs_from es i j q (omega arith)

pub first_of_rest : {X : Type 0} → (xs : List X) (place : ℕ) (e : X) → 0 < place → place ≤ length xs → e ≡ get_or xs (place - 1) e
    → drop (place - 1) xs ≡ e ∷ drop place xs
first_of_rest xs place e above within is =
    let next : suc (place - 1) ≡ place = omega arith in
    drop-cons xs (place - 1) e (omega arith) ∙ ap (λ x. x ∷ drop (suc (place - 1)) xs) (sym is) ∙ ap (λ n. e ∷ drop n xs) next

pub needed_sum : (us : List (ChName × ChanUndo)) (from place : ℕ) (e : ChName × ChanUndo) (q : ChName) (n x r : Room) → from < place → place ≤ length us
    → e ≡ get_or us (place - 1) e
    → true ≡ same_channel q e.0 → n ≡ needs (drop place us) q → x ≡ minus (need e.1) (frees (drop place us) q) → Within (needs (drop from us) q) r
    → Within (plus n x) r
needed_sum us from place e q n x r above within is at needed missing all =
    let rest = drop place us in
    let here : needs (drop (place - 1) us) q ≡ plus (needs rest q) (minus (need e.1) (frees rest q)) =
    ap (λ es. needs es q) (first_of_rest us place e (omega arith) within is)
    ∙ ap (λ b. cond b (plus (needs rest q) (minus (need e.1) (frees rest q))) (needs rest q)) (sym at) in
    let sum : needs (drop (place - 1) us) q ≡ plus n x = here ∙ ap (λ y. plus y (minus (need e.1) (frees rest q))) (sym needed) ∙ ap (plus n) (sym missing) in
    subst (λ y. Within y r) sum (within_more _ _ _ (needs_from us from (place - 1) q (omega arith)) all)

entered_once : (u : ChanUndo) → Within (entered u) (each 1)
entered_once (Handed w) = record { items = omega arith; senders = omega arith; receivers = omega arith }
entered_once Buffered = record { items = omega arith; senders = omega arith; receivers = omega arith }
entered_once (Took v) = record { items = omega arith; senders = omega arith; receivers = omega arith }
entered_once (Moved item go case) = record { items = omega arith; senders = omega arith; receivers = omega arith }
entered_once (Met w) = record { items = omega arith; senders = omega arith; receivers = omega arith }
entered_once ParkedSender = record { items = omega arith; senders = omega arith; receivers = omega arith }
entered_once ParkedReceiver = record { items = omega arith; senders = omega arith; receivers = omega arith }
entered_once (Withdrawn s r) = record { items = omega arith; senders = omega arith; receivers = omega arith }
entered_once (Closed s r) = record { items = omega arith; senders = omega arith; receivers = omega arith }

one_more : (e f n : Room) (k : ℕ) → Within e (each 1) → Within f (each k) → Within (plus e (minus f n)) (each (suc k))
one_more e f n k h i = record {
  items = omega (arith, h.items, i.items);
  senders = omega (arith, h.senders, i.senders);
  receivers =
      omega (arith, h.receivers, i.receivers);
}

few : (f : Room) (k : ℕ) → Within f (each k) → Within f (each (suc k))
few f k h = record { items = omega (arith, h.items); senders = omega (arith, h.senders); receivers = omega (arith, h.receivers) }

-- each change frees one place at most
frees_few : (us : List (ChName × ChanUndo)) (q : ChName) → Within (frees us q) (each (length us))
frees_few [] q = none_within _
frees_few (e ∷ us) q = more (frees us q) (length us) (frees_few us q) (same_channel q e.0)
  where
    more : (f : Room) (k : ℕ) → Within f (each k) → (b : Bool) → Within (cond b (plus (entered e.1) (minus f (need e.1))) f) (each (suc k))
    more f k h true = one_more (entered e.1) f (need e.1) k (entered_once e.1) h
    more f k h false = few f k h

length_rest : {X : Type 0} → (xs : List X) (i : ℕ) → length (drop i xs) ≤ length xs
length_rest [] zero = omega arith
length_rest [] (suc i) = omega arith
length_rest (x ∷ xs) zero = omega arith
length_rest (x ∷ xs) (suc i) = let h = length_rest xs i in omega arith

freed_within : (f : Room) (k m top : ℕ) → Within f (each k) → k ≤ m → m < top → Within f (each (top - 1))
freed_within f k m top h i j = record { items = omega (arith, h.items); senders = omega (arith, h.senders); receivers = omega (arith, h.receivers) }

pub freed_sum : (us : List (ChName × ChanUndo)) (place top : ℕ) (e : ChName × ChanUndo) (q : ChName) (f x : Room) → 0 < place → place ≤ length us
    → length us < top → e ≡ get_or us (place - 1) e
    → true ≡ same_channel q e.0 → f ≡ entered e.1 → x ≡ minus (frees (drop place us) q) (need e.1) → Within (plus f x) (each (top - 1))
freed_sum us place top e q f x above within small is at freed left =
    let rest = drop place us in
    let here : frees (drop (place - 1) us) q ≡ plus (entered e.1) (minus (frees rest q) (need e.1)) =
    ap (λ es. frees es q) (first_of_rest us place e above within is)
    ∙ ap (λ b. cond b (plus (entered e.1) (minus (frees rest q) (need e.1))) (frees rest q)) (sym at) in
    let sum : frees (drop (place - 1) us) q ≡ plus f x = here ∙ ap (λ y. plus y (minus (frees rest q) (need e.1))) (sym freed) ∙ ap (plus f) (sym left) in
    subst (λ y. Within y (each (top - 1))) sum (freed_within _ (length (drop (place - 1) us)) (length us) top (frees_few (drop (place - 1) us) q)
    (length_rest us (place - 1)) small)
