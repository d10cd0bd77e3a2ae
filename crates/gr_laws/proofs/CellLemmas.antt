-- A state is its contents: the laws of cells, from which the machine of a program meets the laws of machines. The crates above
-- use these lemmas too.
use Rattle.std.proofs.Common.{◌≡◌, ℕ, nat_eq, Bool, true, false, ◌==◌, ◌&&◌, if◌then◌else◌, List, [], ◌∷◌, Option, refl, sym, ◌∙◌, ap, eqb-true, eq-eqb, inl, inr}
use Rattle.std.specs.Cmp.Lexicographic.{pointwise, same_text}
use Rattle.gr_base.specs.declared.names.ChName.{ChName}
use Rattle.gr_base.specs.declared.values.Value.{Value}
use Rattle.gr_base.specs.declared.objects.Object.{Object}
use Rattle.gr_base.specs.declared.objects.Object.TheVariants as objects
use Rattle.gr_base.specs.declared.objects.Object.TheVariants.{Go, Gate, Tail, Head, Slot}
use Rattle.gr_causal.specs.Machine.{Laws}
use Rattle.gr_causal.proofs.ListLemmas.{true_or_false}
use Rattle.gr_causal.proofs.RuleLemmas.{laws_of_rules}
use Rattle.gr_channels.specs.Objects.{GateContent}
use Rattle.gr_program.specs.Programs.{Program}
use Rattle.gr_rules.specs.Operators.{same_channel}
use Rattle.gr_rules.specs.Goroutines.{Goroutine}
use Rattle.gr_rules.specs.States.{Run, Cell, run_has, go_has, gate_has, tail_has, head_has, slot_has, State, same_go, same, object_of, look, updated, put}
use Rattle.gr_rules.specs.Steps.{rulebook, machine}

pub no_truth : false ≡ true → ⊥
no_truth e = cc

pub go_name : (m n : List ℕ) → Go m ≡ Go n → m ≡ n
go_name m n e = cc

pub both_true : (a b : Bool) → (a && b) ≡ true → (a ≡ true) × (b ≡ true)
both_true true b h = (refl, h)
both_true false b h = absurd (let e : false ≡ true = h in cc)

pub and_true : (a b : Bool) → a ≡ true → b ≡ true → (a && b) ≡ true
and_true a b g h = rw (g, h) refl

pub go_is : (g h : List ℕ) → same_go g h ≡ true → g ≡ h
go_is g h e = same_text g h (sym e)

pub go_self : (g : List ℕ) → same_go g g ≡ true
go_self [] = refl
go_self (n ∷ ns) = and_true (nat_eq n n) (same_go ns ns) (eq-eqb n n refl) (go_self ns)

pub channel_is : (c d : ChName) → same_channel c d ≡ true → c ≡ d
channel_is c d e =
    let h = both_true (pointwise nat_eq c.go d.go) (c.n == d.n) e in
    let p = go_is c.go d.go h.0 in
    let q = eqb-true c.n d.n h.1 in
    λ i. record { go = p i; n = q i }

pub channel_self : (c : ChName) → same_channel c c ≡ true
channel_self c = and_true (pointwise nat_eq c.go c.go) (c.n == c.n) (go_self c.go) (eq-eqb c.n c.n refl)

pub same_is : (o p : Object) → same o p ≡ true → o ≡ p
same_is objects.Run objects.Run h = refl
same_is (Go a) (Go b) h = ap Go (go_is a b h)
same_is (Gate a) (Gate b) h = ap Gate (channel_is a b h)
same_is (Tail a) (Tail b) h = ap Tail (channel_is a b h)
same_is (Head a) (Head b) h = ap Head (channel_is a b h)
same_is (Slot a i) (Slot b j) h =
    let e = both_true (same_channel a b) (i == j) h in
    ap (λ c. Slot c i) (channel_is a b e.0) ∙ ap (Slot b) (eqb-true i j e.1)
same_is _ _ h = absurd (let e : false ≡ true = h in cc)

pub same_self : (o : Object) → same o o ≡ true
same_self objects.Run = refl
same_self (Go a) = go_self a
same_self (Gate a) = channel_self a
same_self (Tail a) = channel_self a
same_self (Head a) = channel_self a
same_self (Slot a i) = and_true (same_channel a a) (i == i) (channel_self a) (eq-eqb i i refl)

pub updated_here : {K X : Type 0} (equal : K → K → Bool) (self : (k : K) → equal k k ≡ true) (f : K → X) (k : K) (x : X)
    → updated equal f k x k ≡ x
updated_here equal self f k x = ap (λ b. if b then x else f k) (self k)

pub updated_else : {K X : Type 0} (equal : K → K → Bool) (is : (a b : K) → equal a b ≡ true → a ≡ b) (f : K → X) (k n : K) (x : X)
    → (n ≡ k → ⊥) → updated equal f k x n ≡ f n
updated_else equal is f k n x h = elim (true_or_false (equal n k)) [
  | inl t ↦ absurd (h (is n k t))
  | inr e ↦ ap (λ b. if b then x else f n) e
]

slots_here : (f : ChName → ℕ → Option (ℕ × Value)) (c : ChName) (i : ℕ) (x : Option (ℕ × Value))
    → updated same_channel f c (updated nat_eq (f c) i x) c i ≡ x
slots_here f c i x =
    ap (λ (g : ℕ → Option (ℕ × Value)). g i) (updated_here same_channel channel_self f c (updated nat_eq (f c) i x))
    ∙ updated_here nat_eq (λ n. eq-eqb n n refl) (f c) i x

slots_else : (f : ChName → ℕ → Option (ℕ × Value)) (c d : ChName) (i j : ℕ) (x : Option (ℕ × Value)) → (Slot d j ≡ Slot c i → ⊥)
    → updated same_channel f c (updated nat_eq (f c) i x) d j ≡ f d j
slots_else f c d i j x h = elim (true_or_false (same_channel d c)) [
  | inl t ↦
      let e = channel_is d c t in
      ap (λ b. (if b then updated nat_eq (f c) i x else f d) j) t
      ∙ updated_else nat_eq eqb-true (f c) i j x (λ q. h (ap (λ y. Slot y j) e ∙ ap (Slot c) q))
      ∙ ap (λ y. f y j) (sym e)
  | inr e ↦ ap (λ b. (if b then updated nat_eq (f c) i x else f d) j) e
]

pub put_here : (s : State) (c : Cell) → look (put s c) (object_of c) ≡ c
put_here s (run_has r) = refl
put_here s (go_has g x) = ap (go_has g) (updated_here same_go go_self s.goroutines g x)
put_here s (gate_has c x) = ap (gate_has c) (updated_here same_channel channel_self s.gates c x)
put_here s (tail_has c x) = ap (tail_has c) (updated_here same_channel channel_self s.tails c x)
put_here s (head_has c x) = ap (head_has c) (updated_here same_channel channel_self s.heads c x)
put_here s (slot_has c i x) = ap (slot_has c i) (slots_here s.slots c i x)

pub put_else : (s : State) (c : Cell) (o : Object) → (o ≡ object_of c → ⊥) → look (put s c) o ≡ look s o
put_else s (run_has r) objects.Run n = absurd (n refl)
put_else s (go_has g x) (Go h) n = ap (go_has h) (updated_else same_go go_is s.goroutines g h x (λ e. n (ap Go e)))
put_else s (gate_has c x) (Gate d) n = ap (gate_has d) (updated_else same_channel channel_is s.gates c d x (λ e. n (ap Gate e)))
put_else s (tail_has c x) (Tail d) n = ap (tail_has d) (updated_else same_channel channel_is s.tails c d x (λ e. n (ap Tail e)))
put_else s (head_has c x) (Head d) n = ap (head_has d) (updated_else same_channel channel_is s.heads c d x (λ e. n (ap Head e)))
put_else s (slot_has c i x) (Slot d j) n = ap (slot_has d j) (slots_else s.slots c d i j x n)
put_else s _ _ n = refl

pub name-look : (s : State) (o : Object) → object_of (look s o) ≡ o
name-look s objects.Run = refl
name-look s (Go g) = refl
name-look s (Gate c) = refl
name-look s (Tail c) = refl
name-look s (Head c) = refl
name-look s (Slot c i) = refl

pub run_is : (x y : Run) → run_has x ≡ run_has y → x ≡ y
run_is x y e = cc

pub goroutine_is : (g : List ℕ) (x y : Option Goroutine) → go_has g x ≡ go_has g y → x ≡ y
goroutine_is g x y e = cc

pub gate_is : (c : ChName) (x y : Option GateContent) → gate_has c x ≡ gate_has c y → x ≡ y
gate_is c x y e = cc

pub tail_is : (c : ChName) (x y : ℕ) → tail_has c x ≡ tail_has c y → x ≡ y
tail_is c x y e = cc

pub head_is : (c : ChName) (x y : ℕ) → head_has c x ≡ head_has c y → x ≡ y
head_is c x y e = cc

pub slot_is : (c : ChName) (i : ℕ) (x y : Option (ℕ × Value)) → slot_has c i x ≡ slot_has c i y → x ≡ y
slot_is c i x y e = cc

ext : (s t : State) → ((o : Object) → look s o ≡ look t o) → s ≡ t
ext s t h =
    let r = run_is _ _ (h objects.Run) in
    let g : (n : List ℕ) → s.goroutines n ≡ t.goroutines n = λ n. goroutine_is n _ _ (h (Go n)) in
    let c : (n : ChName) → s.gates n ≡ t.gates n = λ n. gate_is n _ _ (h (Gate n)) in
    let k : (n : ChName) → s.tails n ≡ t.tails n = λ n. tail_is n _ _ (h (Tail n)) in
    let d : (n : ChName) → s.heads n ≡ t.heads n = λ n. head_is n _ _ (h (Head n)) in
    let l : (n : ChName) (j : ℕ) → s.slots n j ≡ t.slots n j = λ n j. slot_is n j _ _ (h (Slot n j)) in
    λ i. record { run = r i; goroutines = λ n. g n i; gates = λ n. c n i; tails = λ n. k n i; heads = λ n. d n i; slots = λ n j. l n j i }

pub machine_laws : (p : Program) → Laws (machine p)
machine_laws p = laws_of_rules (rulebook p) (record { same_is = same_is; same_self = same_self; ext = ext; name-look = name-look; put_here = put_here; put_else = put_else })
