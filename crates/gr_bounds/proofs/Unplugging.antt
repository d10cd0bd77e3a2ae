-- Operands are within bounds where they are so with a temporary in place of their next part, and the part is.
use Rattle.std.proofs.Common.{◌≡◌, ℕ, Bool, true, false, if◌then◌else◌, List, [], ◌∷◌, Option, Some, None, sym, subst}
use Rattle.gr_tree.specs.declared.expr.BinaryOp.{BinaryOp}
use Rattle.gr_base.specs.declared.values.Value.{Value}
use Rattle.gr_causal.proofs.ListLemmas.{some_is, none_not}
use Rattle.gr_program.specs.Programs.{Program}
use Rattle.gr_rules.specs.Operators.{settles}
use Rattle.gr_rules.specs.Operands.{Operand, Done, Variable, Unary, Binary, Receive, Call, Len, Cap, Make, Decided, Operands, nothing, also}
use Rattle.gr_rules.specs.Parts.{Ask, Calls, Receives, CountsItems, CountsPlaces, Decides, Next, Plain, Asks, within, is_logical, on_right, next, next_of}
use Rattle.gr_rules.specs.Parts as parts
use Rattle.gr_code.specs.Plugging.{inside, plug_right, plug, plug_all}
use Rattle.gr_may.specs.Uses.{Uses, to_receive, to_count, no_use, only, Usage}
use Rattle.gr_may.specs.Demands.{parameter_uses, OperandFits, OperandsFit}
use Rattle.gr_bounds.specs.CodeUses.{AskFits, SlotFits}

module _ (p : Program) (usage : Usage) (n : List ℕ) (uses : ℕ → Uses) (function : ℕ) (d : ℕ) where
  abbrev F : Uses → Operand → Type 0
  F b a = OperandFits p usage n uses function b a

  abbrev Fs : List Uses → Operands → Type 0
  Fs bs es = OperandsFit p usage n uses function bs es

  abbrev A : Ask → Type 0
  A ask = AskFits p usage n uses function ask

  abbrev S : Ask → Type 0
  S ask = SlotFits p usage n uses function ask d

  -- the whole is within bounds where it is so with the temporary
  data Unplugs {X : Type 0} (P : X → Type 0) (whole : X) : Next X → Option X → Type 0 where
    no_part : Unplugs P whole Plain None
    one_part : {ask : Ask} {with : Value → X} {x : X} → (A ask → S ask → P x → P whole) → Unplugs P whole (Asks ask with) (Some x)

  inside_unplugs : {X Y : Type 0} {P : X → Type 0} {Q : Y → Type 0} (f : X → Y) (whole : X) {x : Next X} {y : Option X} {other : Next Y} {z : Option Y}
      → Unplugs P whole x y → ((a : X) → Q (f a) → P a) → ((a : X) → Q (f a) → P whole → Q (f whole)) → Unplugs Q (f whole) other z
      → Unplugs Q (f whole) (within f x other) (inside f y z)
  inside_unplugs f whole no_part down up h = h
  inside_unplugs f whole (one_part {x = x} g) down up h = one_part (λ a s q. up x q (g a s (down x q)))

  right_unplugs : (op : BinaryOp) (b : Uses) (x y : Operand) {z : Next Operand} {o : Option Operand} → Unplugs (F b) y z o
      → Unplugs (F b) (Binary op x y) (on_right op x y z) (plug_right d op x y o)
  right_unplugs op b x y no_part = no_part
  right_unplugs op b x y (one_part {ask} {with} {x = c} g) = by_logical (is_logical op)
    where
      by_logical : (l : Bool) → Unplugs (F b) (Binary op x y)
          (if l then Asks (Decides op x) (λ v. if settles op v then Done v else y) else Asks ask (λ v. Binary op x (with v)))
          (Some (if l then Decided op d y else Binary op x c))
      by_logical true = one_part (λ a s q. (a, q))
      by_logical false = one_part (λ a s q. (q.0, g a s q.1))

  mutual
    unplugs : (b : Uses) (a : Operand) → Unplugs (F b) a (next a) (plug d a)
    unplugs b (Done v) = no_part
    unplugs b (Variable x) = no_part
    unplugs b (Unary op a) = inside_unplugs (Unary op) a (unplugs no_use a) (λ x q. q) (λ x q h. h) no_part
    unplugs b (Binary op x y) = inside_unplugs (λ x. Binary op x y) x (unplugs no_use x) (λ a q. q.0) (λ a q h. (h, q.1)) (right_unplugs op b x y (unplugs b y))
    unplugs b (Receive c zero) = inside_unplugs (λ x. Receive x zero) c (unplugs (only to_receive) c) (λ a q. q.0) (λ a q h. (h, q.1))
        (one_part {ask = Receives c zero} (λ a s q. a))
    unplugs b (Call k arguments) = inside_unplugs (Call k) arguments (unplugs_all (parameter_uses p usage k) arguments) (λ a q. q.1) (λ a q h. (q.0, h))
        (one_part {ask = Calls k arguments} (λ a s q. ((λ u e. s u (q u e)), a)))
    unplugs b (Len c) = inside_unplugs Len c (unplugs (only to_count) c) (λ a q. q) (λ a q h. h) (one_part {ask = CountsItems c} (λ a s q. a))
    unplugs b (Cap c) = inside_unplugs Cap c (unplugs no_use c) (λ a q. q) (λ a q h. h) (one_part {ask = CountsPlaces c} (λ a s q. a))
    unplugs b (Make c) = inside_unplugs Make c (unplugs no_use c) (λ a q. q) (λ a q h. h) (one_part {ask = parts.Makes c} (λ a s q. a))
    unplugs b (Decided op x y) = inside_unplugs (Decided op x) y (unplugs b y) (λ a q. q) (λ a q h. h) no_part

    unplugs_all : (bs : List Uses) (es : Operands) → Unplugs (Fs bs) es (next_of es) (plug_all d es)
    unplugs_all bs nothing = no_part
    unplugs_all [] (also a rest) = inside_unplugs (λ x. also x rest) a (unplugs no_use a) (λ x q. q.0) (λ x q h. (h, q.1))
        (inside_unplugs (also a) rest (unplugs_all [] rest) (λ x q. q.1) (λ x q h. (q.0, h)) no_part)
    unplugs_all (b ∷ bs) (also a rest) = inside_unplugs (λ x. also x rest) a (unplugs b a) (λ x q. q.0) (λ x q h. (h, q.1))
        (inside_unplugs (also a) rest (unplugs_all bs rest) (λ x q. q.1) (λ x q h. (q.0, h)) no_part)

  by_step : {X : Type 0} {P : X → Type 0} {whole : X} {x : Next X} {y : Option X} (ask : Ask) (with : Value → X) (a : X) → Unplugs P whole x y
      → x ≡ Asks ask with → y ≡ Some a → A ask → S ask → P a → P whole
  by_step ask with a no_part e f h s q = absurd (none_not _ f)
  by_step {P = P} ask with a (one_part {ask = other} {x = x} g) e f h s q =
      let same : other ≡ ask = same_ask other ask _ with e in
      g (subst A (sym same) h) (subst S (sym same) s) (subst P (sym (some_is _ _ f)) q)
    where
      same_ask : {X : Type 0} (a b : Ask) (f g : Value → X) → Asks a f ≡ Asks b g → a ≡ b
      same_ask a b f g e = cc

  pub operands_step : (bs : List Uses) (es fs : Operands) (ask : Ask) (with : Value → Operands) → next_of es ≡ Asks ask with → plug_all d es ≡ Some fs
      → A ask → S ask → Fs bs fs → Fs bs es
  operands_step bs es fs ask with e f h s q = by_step {P = Fs bs} ask with fs (unplugs_all bs es) e f h s q
