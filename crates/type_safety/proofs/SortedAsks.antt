-- The next part of operands that have sorts, and the operands with its value in its place.
use Rattle.std.proofs.Common.{◌≡◌, ℕ, Bool, true, false, if◌then◌else◌, List, refl, sym, subst}
use Rattle.gr_tree.specs.declared.expr.BinaryOp.{BinaryOp}
use Rattle.gr_base.specs.declared.values.Value.{Value}
use Rattle.gr_rules.specs.Operators.{settles}
use Rattle.gr_rules.specs.Operands.{Operand, Done, Unary, Binary, Receive, Call, Len, Cap, Make, Operands, also}
use Rattle.gr_rules.specs.Parts.{Ask, Calls, Receives, Makes, CountsItems, CountsPlaces, Decides, Next, Plain, Asks, within, is_logical, on_right, next, next_of}
use Rattle.type_safety.proofs.Sorts.{Sort, BoolSort, Made, More, HasSort, BinarySorts, Setting, SortedOperand, done, variable, unary, binary, receive, call, len, cap, make, SortedOperands, no_operand, one_operand}
use Rattle.type_safety.proofs.SortedValues.{sort_more, operand_more, operands_more, logical_sorts}
use Rattle.type_safety.proofs.Promises.{SortedAsk, calls, receives, makes, counts_items, counts_places, decides, AsksSorted}

module _ (d : Setting) (made : Made) (live : List ℕ) where
  -- what a part asks for, and that with its value in its place something stays as it is to be
  record Hole {A : Type 0} (S : Made → A → Type 0) (ask : Ask) (with : Value → A) : Type 0 where
    sort : Sort
    asks : SortedAsk d made live ask sort
    fills : (after : Made) (v : Value) → More made after → HasSort after v sort → S after (with v)

  abbrev Holes : {A : Type 0} → (Made → A → Type 0) → Next A → Type 0
  Holes S Plain = Unit {0}
  Holes S (Asks ask with) = Hole S ask with

  abbrev Is : Sort → Made → Operand → Type 0
  Is k after t = SortedOperand d after live t k

  abbrev Are : List Sort → Made → Operands → Type 0
  Are ks after ts = SortedOperands d after live ts ks

  within_holes : {A B : Type 0} (S : Made → A → Type 0) (T : Made → B → Type 0) (f : A → B) (x : Next A)
      (other : Next B) → Holes S x
      → ((after : Made) (a : A) → More made after → S after a → T after (f a)) → (x ≡ Plain → Holes T other)
      → Holes T (within f x other)
  within_holes S T f Plain other h w o = o refl
  within_holes S T f (Asks ask with) other h w o =
      record { sort = h.sort; asks = h.asks; fills = λ after v m g. w after (with v) m (h.fills after v m g) }

  -- a part whose value stands in its own place
  itself : {ask : Ask} {k : Sort} → SortedAsk d made live ask k → Holes (Is k) (Asks ask Done)
  itself {ask} {k} a = record { sort = k; asks = a; fills = λ after v m h. done h }

  -- the left operand decides, or the right one follows
  decided : (op : BinaryOp) (b : Operand) (after : Made) (v : Value) → SortedOperand d after live b BoolSort
      → HasSort after v BoolSort
      → SortedOperand d after live (if settles op v then Done v else b) BoolSort
  decided op b after v s h = by_settled (settles op v)
    where
      by_settled : (z : Bool) → SortedOperand d after live (if z then Done v else b) BoolSort
      by_settled true = done h
      by_settled false = s

  right_holes : (op : BinaryOp) (a b : Operand) {k l : Sort} (x : Next Operand) → BinarySorts op k l
      → SortedOperand d made live a k → SortedOperand d made live b k
      → next a ≡ Plain → Holes (Is k) x → Holes (Is l) (on_right op a b x)
  right_holes op a b Plain o s t p h = tt
  right_holes op a b {k} {l} (Asks ask with) o s t p h = by_op (is_logical op) refl
    where
      by_op : (z : Bool) → is_logical op ≡ z
          → Holes (Is l)
          (if z then Asks (Decides op a)
          (λ v. if settles op v then Done v else b) else Asks ask (λ v. Binary op a (with v)))
      by_op true e =
          let q = logical_sorts op e o in record {
            sort = BoolSort;
            asks = decides (subst (SortedOperand d made live a) (q.0) s) p;
            fills = λ after v m g. subst (SortedOperand d after live (if settles op v then Done v else b)) (sym q.1)
                (decided op b after v
                (operand_more made after m d live (subst (SortedOperand d made live b) (q.0) t)) g);
          }
      by_op false e =
          record { sort = h.sort; asks = h.asks; fills = λ after v m g. binary o (operand_more made after m d live s) (h.fills after v m g) }

  mutual
    operand_holes : {t : Operand} {k : Sort} → SortedOperand d made live t k → Holes (Is k) (next t)
    operand_holes (done h) = tt
    operand_holes (variable e i) = tt
    operand_holes (unary {op} {a} o s) =
        within_holes (Is _) (Is _) (Unary op) (next a) Plain (operand_holes s) (λ after t m g. unary o g) (λ e. tt)
    operand_holes (binary {op} {a} {b} o s t) =
        within_holes (Is _) (Is _) (λ x. Binary op x b) (next a) (on_right op a b (next b)) (operand_holes s)
        (λ after u m g. binary o g (operand_more made after m d live t))
        (λ e. right_holes op a b (next b) o s t e (operand_holes t))
    operand_holes (receive {c} {zero} s h) =
        within_holes (Is _) (Is _) (λ x. Receive x zero) (next c) (Asks (Receives c zero) Done) (operand_holes s)
        (λ after t m g. receive g (sort_more made after m h)) (λ e. itself (receives s h e))
    operand_holes (call {n} {arguments} g s) =
        within_holes (Are _) (Is _) (Call n) (next_of arguments) (Asks (Calls n arguments) Done) (operands_holes s)
        (λ after t m x. call g x) (λ e. itself (calls g s e))
    operand_holes (len {c} s) =
        within_holes (Is _) (Is _) Len (next c) (Asks (CountsItems c) Done) (operand_holes s) (λ after t m g. len g)
        (λ e. itself (counts_items s e))
    operand_holes (cap {c} s) =
        within_holes (Is _) (Is _) Cap (next c) (Asks (CountsPlaces c) Done) (operand_holes s) (λ after t m g. cap g)
        (λ e. itself (counts_places s e))
    operand_holes (make {n} s) =
        within_holes (Is _) (Is _) Make (next n) (Asks (Makes n) Done) (operand_holes s) (λ after t m g. make g)
        (λ e. itself (makes s e))

    operands_holes : {ts : Operands} {ks : List Sort} → SortedOperands d made live ts ks → Holes (Are ks) (next_of ts)
    operands_holes no_operand = tt
    operands_holes (one_operand {a} {rest} s others) =
        within_holes (Is _) (Are _) (λ x. also x rest) (next a) (within (also a) (next_of rest) Plain)
        (operand_holes s)
        (λ after t m g. one_operand g (operands_more d made after live rest _ m others))
        (λ e. within_holes (Are _) (Are _) (also a) (next_of rest) Plain (operands_holes others)
        (λ after ts m g. one_operand (operand_more made after m d live s) g) (λ q. tt))

pub asks_sorted : AsksSorted
asks_sorted d made live ts ks ask with s e =
    let h : Hole d made live (Are d made live ks) ask with =
    subst (Holes d made live (Are d made live ks)) e (operands_holes d made live s) in
    record { sort = h.sort; asks = h.asks; fills = h.fills }
