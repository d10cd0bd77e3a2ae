-- The next part of operands within bounds, and the operands once it has a value.
use Rattle.std.proofs.Common.{ℕ, List, [], ◌∷◌}
use Rattle.gr_tree.specs.declared.expr.BinaryOp.{BinaryOp}
use Rattle.gr_base.specs.declared.values.Value.{Value}
use Rattle.gr_program.specs.Programs.{Program}
use Rattle.gr_rules.specs.Operators.{settles}
use Rattle.gr_rules.specs.Operands.{Operand, Done, Variable, Unary, Binary, Receive, Call, Len, Cap, Make, Decided, Operands, nothing, also}
use Rattle.gr_rules.specs.Parts.{Ask, Calls, Receives, Makes, CountsItems, CountsPlaces, Decides, Next, Plain, Asks, within, is_logical, on_right, next, next_of}
use Rattle.gr_may.specs.Uses.{Uses, to_receive, to_count, no_use, only, Usage, MayUse, Shared}
use Rattle.gr_may.specs.Demands.{parameter_uses, OperandFits, OperandsFit}
use Rattle.gr_may.proofs.Given.{if_either}
use Rattle.gr_may.proofs.FitValues.{may_less, shared_may, no_channel_may, settled_plain}

module _ (p : Program) (usage : Usage) (n : List ℕ) (uses : ℕ → Uses) (function : ℕ) where
  abbrev F : Uses → Operand → Type 0
  F b a = OperandFits p usage n uses function b a

  abbrev Fs : List Uses → Operands → Type 0
  Fs bs es = OperandsFit p usage n uses function bs es

  -- which values a part may have: what a call returns is used es results of the function are
  abbrev pub Allowed : Ask → Value → Type 0
  Allowed (Calls k arguments) v = MayUse usage n (usage.results k) v
  Allowed (Decides op left) v = Unit {0}
  Allowed _ v = Shared usage v

  abbrev pub AskFits : Ask → Type 0
  AskFits (Calls k arguments) = Fs (parameter_uses p usage k) arguments
  AskFits (Receives c zero) = F (only to_receive) c × Shared usage zero
  AskFits (CountsItems c) = F (only to_count) c
  AskFits _ = Unit {0}

  pub data NextFits {A : Type 0} (P : A → Type 0) : Next A → Type 0 where
    plain : NextFits P Plain
    asks : {ask : Ask} {with : Value → A} → AskFits ask → ((v : Value) → Allowed ask v → P (with v)) → NextFits P (Asks ask with)

  within_fits : {A B : Type 0} {P : A → Type 0} {Q : B → Type 0} (f : A → B) {x : Next A} {other : Next B}
      → NextFits P x → ((a : A) → P a → Q (f a)) → NextFits Q other → NextFits Q (within f x other)
  within_fits f plain g h = h
  within_fits f (asks {ask} {with} a k) g h = asks a (λ v allowed. g (with v) (k v allowed))

  right_fits : (op : BinaryOp) (b : Uses) (x y : Operand) (z : Next Operand) → F no_use x → F b y → NextFits (F b) z
      → NextFits (F b) (on_right op x y z)
  right_fits op b x y Plain h k g = plain
  right_fits op b x y (Asks ask with) h k (asks a f) = if_either (NextFits (F b)) (is_logical op)
      (λ e. asks {ask = Decides op x} tt (λ v u. if_either (F b) (settles op v) (λ t. no_channel_may usage n b v (settled_plain op v t)) (λ t. k)))
      (λ e. asks a (λ v allowed. (h, f v allowed)))

  mutual
    pub next_fits : (b : Uses) (a : Operand) → F b a → NextFits (F b) (next a)
    next_fits b (Done v) h = plain
    next_fits b (Variable x) h = plain
    next_fits b (Unary op a) h = within_fits (Unary op) (next_fits no_use a h) (λ a g. g) plain
    next_fits b (Binary op x y) h =
        within_fits (λ x. Binary op x y) (next_fits no_use x h.0) (λ a g. (g, h.1)) (right_fits op b x y (next y) h.0 h.1 (next_fits b y h.1))
    next_fits b (Receive c zero) h =
        within_fits (λ x. Receive x zero) (next_fits (only to_receive) c h.0) (λ a g. (g, h.1)) (asks {ask = Receives c zero} h (λ v s. shared_may usage n b v s))
    next_fits b (Call k arguments) h =
        within_fits (Call k) (nexts_fit (parameter_uses p usage k) arguments h.1) (λ a g. (h.0, g))
        (asks {ask = Calls k arguments} h.1 (λ v m. may_less usage n b (usage.results k) v h.0 m))
    next_fits b (Len c) h = within_fits Len (next_fits (only to_count) c h) (λ a g. g) (asks {ask = CountsItems c} h (λ v s. shared_may usage n b v s))
    next_fits b (Cap c) h = within_fits Cap (next_fits no_use c h) (λ a g. g) (asks {ask = CountsPlaces c} tt (λ v s. shared_may usage n b v s))
    next_fits b (Make size) h = within_fits Make (next_fits no_use size h) (λ a g. g) (asks {ask = Makes size} tt (λ v s. shared_may usage n b v s))
    next_fits b (Decided op x y) h = within_fits (Decided op x) (next_fits b y h) (λ a g. g) plain

    pub nexts_fit : (bs : List Uses) (es : Operands) → Fs bs es → NextFits (Fs bs) (next_of es)
    nexts_fit bs nothing h = plain
    nexts_fit [] (also a rest) h =
        within_fits (λ x. also x rest) (next_fits no_use a h.0) (λ a g. (g, h.1)) (within_fits (also a) (nexts_fit [] rest h.1) (λ r g. (h.0, g)) plain)
    nexts_fit (b ∷ bs) (also a rest) h =
        within_fits (λ x. also x rest) (next_fits b a h.0) (λ a g. (g, h.1)) (within_fits (also a) (nexts_fit bs rest h.1) (λ r g. (h.0, g)) plain)
