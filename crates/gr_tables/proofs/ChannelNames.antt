-- Names of channels: the test of the rules, and that of the map, tell whether two are one.
use Rattle.std.proofs.Common.{◌≡◌, ℕ, nat_eq, Bool, true, false, ◌==◌, ◌&&◌, cond, List, [], ◌∷◌, refl, ap, sym, subst, eqb-true, eq-eqb}
use Rattle.std.specs.BTreeMap.{is_at}
use Rattle.std.specs.Bool.{one_answer}
use Rattle.std.specs.Cmp.{tied_itself}
use Rattle.std.specs.Cmp.Lexicographic.{pointwise, same_text}
use Rattle.std.specs.Ordering.{is_eq}
use Rattle.std.specs.declared.cmp.Ordering.{Ordering}
use Rattle.std.specs.declared.cmp.Ordering.TheVariants.{Less, Equal, Greater}
use Rattle.gr_base.specs.Names.{ch_cmp}
use Rattle.gr_base.specs.declared.names.ChName.{ChName}
use Rattle.gr_base.proofs.Orders.{ch_exact, ch_total}
use Rattle.gr_rules.specs.Operators.{same_channel}

both_true : (a b : Bool) → (a && b) ≡ true → (a ≡ true) × (b ≡ true)
both_true true b h = (refl, h)
both_true false b h = absurd (let e : false ≡ true = h in cc)

and_true : (a b : Bool) → a ≡ true → b ≡ true → (a && b) ≡ true
and_true a b g h = rw (g, h) refl

go_self : (g : List ℕ) → pointwise nat_eq g g ≡ true
go_self [] = refl
go_self (n ∷ ns) = and_true (nat_eq n n) (pointwise nat_eq ns ns) (eq-eqb n n refl) (go_self ns)

pub channel_is : (c d : ChName) → same_channel c d ≡ true → c ≡ d
channel_is c d e =
    let h = both_true (pointwise nat_eq c.go d.go) (c.n == d.n) e in
    let p = same_text c.go d.go (sym h.0) in
    let q = eqb-true c.n d.n h.1 in
    λ i. record { go = p i; n = q i }

pub channel_self : (c : ChName) → same_channel c c ≡ true
channel_self c = and_true (pointwise nat_eq c.go c.go) (c.n == c.n) (go_self c.go) (eq-eqb c.n c.n refl)

tied : (k q : ChName) → is_at (ch_cmp k) q ≡ true → q ≡ k
tied k q h = sym (ch_exact k q (equal (ch_cmp k q) h))
  where
    equal : (o : Ordering) → is_eq o ≡ true → o ≡ Equal
    equal Less h = cc
    equal Equal h = refl
    equal Greater h = cc

-- the map finds a name exactly where the rules do
pub at_is_same : (k q : ChName) → is_at (ch_cmp k) q ≡ same_channel q k
at_is_same k q =
    one_answer {P = q ≡ k} (is_at (ch_cmp k) q) (same_channel q k)
    (tied k q, λ e. subst (λ x. is_at (ch_cmp k) x ≡ true) (sym e) (ap is_eq (tied_itself ch_total k)))
    (channel_is q k, λ e. subst (λ x. same_channel x k ≡ true) (sym e) (channel_self k))

-- what holds at the name k, and at each other name, holds at each name
pub at_each : (k q : ChName) (P : ChName → Type 0) → P k → (same_channel q k ≡ false → P q) → P q
at_each k q P here else =
    elim (same_channel q k) as (λ b. same_channel q k ≡ b → P q) [
      | true ↦ λ e. subst P (sym (channel_is q k e)) here
      | false ↦ else
    ] refl

-- an answer by cases on whether q is k
pub same_or : {X : Type 0} → (k q : ChName) (x y z : X) → (q ≡ k → x ≡ z) → (same_channel q k ≡ false → y ≡ z) → cond (same_channel q k) x y ≡ z
same_or k q x y z here else =
    elim (same_channel q k) as (λ b. same_channel q k ≡ b → cond b x y ≡ z) [
      | true ↦ λ e. here (channel_is q k e)
      | false ↦ else
    ] refl
