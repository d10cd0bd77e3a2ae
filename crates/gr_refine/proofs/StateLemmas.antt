-- A state is its contents, and putting a cell changes the content of its object alone.
use Rattle.std.proofs.Common.{◌≡◌, fold, ℕ, nat_eq, Bool, true, false, ◌==◌, ◌&&◌, ◌||◌, if◌then◌else◌, List, [], ◌∷◌, map, Option, refl, sym, ◌∙◌, ap, eqb-true, eq-eqb, inl, inr}
use Rattle.std.specs.List.{list_any}
use Rattle.std.proofs.lemmas.Bool.{cases_Bool, and_parts, and_from}
use Rattle.gr_base.specs.declared.names.ChName.{ChName}
use Rattle.gr_base.specs.declared.values.Value.{Value}
use Rattle.gr_base.specs.declared.objects.Object.{Object}
use Rattle.gr_base.specs.declared.objects.Object.TheVariants as objects
use Rattle.gr_base.specs.declared.objects.Object.TheVariants.{Go, Gate, Tail, Head, Slot}
use Rattle.gr_channels.specs.Objects.{GateContent}
use Rattle.gr_rules.specs.Operators.{same_channel}
use Rattle.gr_rules.specs.Goroutines.{Goroutine}
use Rattle.gr_rules.specs.States.{Run, Cell, run_has, go_has, gate_has, tail_has, head_has, slot_has, State, same_go, same, object_of, look, updated, put}
use Rattle.gr_refine.specs.TakingBack.{ContentsArePutBack}
use Rattle.gr_refine.proofs.NameLemmas.{go_is, go_self, channel_is, channel_self}

no_truth : false ≡ true → ⊥
no_truth e = cc

same_is : (o p : Object) → same o p ≡ true → o ≡ p
same_is objects.Run objects.Run h = refl
same_is (Go a) (Go b) h = ap Go (go_is a b h)
same_is (Gate a) (Gate b) h = ap Gate (channel_is a b h)
same_is (Tail a) (Tail b) h = ap Tail (channel_is a b h)
same_is (Head a) (Head b) h = ap Head (channel_is a b h)
same_is (Slot a i) (Slot b j) h =
    let e = and_parts (same_channel a b) (i == j) h in
    ap (λ c. Slot c i) (channel_is a b e.0) ∙ ap (Slot b) (eqb-true i j e.1)
same_is _ _ h = absurd (no_truth h)

same_self : (o : Object) → same o o ≡ true
same_self objects.Run = refl
same_self (Go a) = go_self a
same_self (Gate a) = channel_self a
same_self (Tail a) = channel_self a
same_self (Head a) = channel_self a
same_self (Slot a i) = and_from (same_channel a a) (i == i) (channel_self a) (eq-eqb i i refl)

updated_here : {K X : Type 0} (equal : K → K → Bool) (self : (k : K) → equal k k ≡ true) (f : K → X) (k : K) (x : X) → updated equal f k x k ≡ x
updated_here equal self f k x = ap (λ b. if b then x else f k) (self k)

updated_else : {K X : Type 0} (equal : K → K → Bool) (f : K → X) (k n : K) (x : X) → equal n k ≡ false → updated equal f k x n ≡ f n
updated_else equal f k n x other = ap (λ b. if b then x else f n) other

put_here : (s : State) (c : Cell) → look (put s c) (object_of c) ≡ c
put_here s (run_has r) = refl
put_here s (go_has g x) = ap (go_has g) (updated_here same_go go_self s.goroutines g x)
put_here s (gate_has c x) = ap (gate_has c) (updated_here same_channel channel_self s.gates c x)
put_here s (tail_has c x) = ap (tail_has c) (updated_here same_channel channel_self s.tails c x)
put_here s (head_has c x) = ap (head_has c) (updated_here same_channel channel_self s.heads c x)
put_here s (slot_has c i x) =
    ap (slot_has c i) (ap (λ (g : ℕ → Option (ℕ × Value)). g i) (updated_here same_channel channel_self s.slots c (updated nat_eq (s.slots c) i x))
    ∙ updated_here nat_eq (λ n. eq-eqb n n refl) (s.slots c) i x)

slots_else : (f : ChName → ℕ → Option (ℕ × Value)) (c d : ChName) (i j : ℕ) (x : Option (ℕ × Value)) → (same_channel d c && (j == i)) ≡ false
    → updated same_channel f c (updated nat_eq (f c) i x) d j ≡ f d j
slots_else f c d i j x other = elim (cases_Bool (same_channel d c)) [
  | inl t ↦
      let e = channel_is d c t in
      let place : (j == i) ≡ false = rw t at other in
      ap (λ b. (if b then updated nat_eq (f c) i x else f d) j) t ∙ updated_else nat_eq (f c) i j x place ∙ ap (λ y. f y j) (sym e)
  | inr n ↦ ap (λ b. (if b then updated nat_eq (f c) i x else f d) j) n
]

put_else : (s : State) (c : Cell) (o : Object) → same o (object_of c) ≡ false → look (put s c) o ≡ look s o
put_else s (run_has r) objects.Run other = absurd (let no : true ≡ false = other in cc)
put_else s (go_has g x) (Go h) other = ap (go_has h) (updated_else same_go s.goroutines g h x other)
put_else s (gate_has c x) (Gate d) other = ap (gate_has d) (updated_else same_channel s.gates c d x other)
put_else s (tail_has c x) (Tail d) other = ap (tail_has d) (updated_else same_channel s.tails c d x other)
put_else s (head_has c x) (Head d) other = ap (head_has d) (updated_else same_channel s.heads c d x other)
put_else s (slot_has c i x) (Slot d j) other = ap (slot_has d j) (slots_else s.slots c d i j x other)
put_else s _ _ other = refl

named_so : (s : State) (o : Object) → object_of (look s o) ≡ o
named_so s objects.Run = refl
named_so s (Go g) = refl
named_so s (Gate c) = refl
named_so s (Tail c) = refl
named_so s (Head c) = refl
named_so s (Slot c i) = refl

run_is : (x y : Run) → run_has x ≡ run_has y → x ≡ y
run_is x y e = cc

goroutine_is : (g : List ℕ) (x y : Option Goroutine) → go_has g x ≡ go_has g y → x ≡ y
goroutine_is g x y e = cc

pub gate_is : (c : ChName) (x y : Option GateContent) → gate_has c x ≡ gate_has c y → x ≡ y
gate_is c x y e = cc

pub tail_is : (c : ChName) (x y : ℕ) → tail_has c x ≡ tail_has c y → x ≡ y
tail_is c x y e = cc

pub head_is : (c : ChName) (x y : ℕ) → head_has c x ≡ head_has c y → x ≡ y
head_is c x y e = cc

pub slot_is : (c : ChName) (i : ℕ) (x y : Option (ℕ × Value)) → slot_has c i x ≡ slot_has c i y → x ≡ y
slot_is c i x y e = cc

ext : (s t : State) → ((o : Object) → look s o ≡ look t o) → s ≡ t
ext s t h =
    let r = run_is _ _ (h objects.Run) in
    let g : (n : List ℕ) → s.goroutines n ≡ t.goroutines n = λ n. goroutine_is n _ _ (h (Go n)) in
    let c : (n : ChName) → s.gates n ≡ t.gates n = λ n. gate_is n _ _ (h (Gate n)) in
    let k : (n : ChName) → s.tails n ≡ t.tails n = λ n. tail_is n _ _ (h (Tail n)) in
    let d : (n : ChName) → s.heads n ≡ t.heads n = λ n. head_is n _ _ (h (Head n)) in
    let l : (n : ChName) (j : ℕ) → s.slots n j ≡ t.slots n j = λ n j. slot_is n j _ _ (h (Slot n j)) in
    λ i. record { run = r i; goroutines = λ n. g n i; gates = λ n. c n i; tails = λ n. k n i; heads = λ n. d n i; slots = λ n j. l n j i }

-- what stands at an object after contents of s were put in t
looked_at : (s t : State) (os : List Object) (o : Object) → look (fold put t (map (look s) os)) o ≡ (if list_any (same o) os then look s o else look t o)
looked_at s t [] o = refl
looked_at s t (p ∷ os) o = looked_at s (put t (look s p)) os o ∙ elim (cases_Bool (same o p)) [
  | inl e ↦
      let is = same_is o p e in
      let here : look (put t (look s p)) o ≡ look s o =
      ap (look (put t (look s p))) (is ∙ sym (named_so s p)) ∙ put_here t (look s p) ∙ ap (look s) (sym is) in
      ap (λ x. if list_any (same o) os then look s o else x) here ∙ alike (list_any (same o) os) (look s o)
      ∙ sym (ap (λ b. if b || list_any (same o) os then look s o else look t o) e)
  | inr n ↦
      ap (λ x. if list_any (same o) os then look s o else x) (put_else t (look s p) o (ap (same o) (named_so s p) ∙ n))
      ∙ sym (ap (λ b. if b || list_any (same o) os then look s o else look t o) n)
]
  where
    alike : (b : Bool) (x : Cell) → (if b then x else x) ≡ x
    alike true x = refl
    alike false x = refl

pub contents_are_put_back : ContentsArePutBack
contents_are_put_back s t u os written kept = ext u (fold put t (map (look s) os)) (λ o. elim (cases_Bool (list_any (same o) os)) [
  | inl e ↦ written o e ∙ sym (looked_at s t os o ∙ ap (λ b. if b then look s o else look t o) e)
  | inr n ↦ kept o n ∙ sym (looked_at s t os o ∙ ap (λ b. if b then look s o else look t o) n)
])
