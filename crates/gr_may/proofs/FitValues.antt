-- Values within bounds, and what operands evaluate to.
use Rattle.std.proofs.Common.{◌≡◌, ℕ, ℤ, pos, negsuc, Bool, true, false, List, [], ◌∷◌, Option, Some, None, refl, sym, ◌∙◌}
use Rattle.std.specs.Prelude.{slice_get, int_div, int_rem}
use Rattle.std.specs.Ordering.{int_eq}
use Rattle.gr_tree.specs.declared.expr.UnaryOp.{UnaryOp}
use Rattle.gr_tree.specs.declared.expr.UnaryOp.TheVariants as unaries
use Rattle.gr_tree.specs.declared.expr.BinaryOp.{BinaryOp}
use Rattle.gr_tree.specs.declared.expr.BinaryOp.TheVariants as binaries
use Rattle.gr_const.specs.Bits.{shift_left, shift_right}
use Rattle.gr_base.specs.declared.names.ChName.{ChName}
use Rattle.gr_base.specs.declared.values.Value.{Value}
use Rattle.gr_base.specs.declared.values.Value.TheVariants.{Int, Bool as Truth, Unit as Empty, Chan}
use Rattle.gr_program.specs.Programs.{Literal, Number, Empty as Void, Nil, Program}
use Rattle.gr_program.specs.Programs as program
use Rattle.gr_rules.specs.Operators.{divided, shifted, on_ints, compared, on_truths, operate, apply, settles}
use Rattle.gr_rules.specs.Operands.{Operand, Done, Variable, Unary, Binary, Receive, Call, Len, Cap, Make, Decided, Operands, nothing, also, value_of}
use Rattle.gr_rules.specs.Evaluation.{Variables, held, evaluate, evaluate_all}
use Rattle.gr_may.specs.Uses.{Use, to_send, to_receive, to_close, to_count, to_share, Uses, only, Within, Usage, MayUse, Shared}
use Rattle.gr_may.specs.Demands.{OperandFits, OperandsFit}
use Rattle.gr_may.proofs.Given.{IfGives, given, faulty, stray, then_gives, in_any_case, gives_less, if_either}

pub only_self : (u : Use) → only u u ≡ true
only_self to_send = refl
only_self to_receive = refl
only_self to_close = refl
only_self to_count = refl
only_self to_share = refl

-- it is no channel
abbrev pub NoChannel : Value → Type 0
NoChannel (Chan (Some c)) = ⊥
NoChannel _ = Unit {0}

module _ (usage : Usage) where
  -- what was received may be used in every way
  abbrev pub GotFits : Option (Value × Bool) → Type 0
  GotFits None = Unit {0}
  GotFits (Some got) = Shared usage got.0

  pub may_less : (n : List ℕ) (some all : Uses) (v : Value) → Within some all → MayUse usage n all v → MayUse usage n some v
  may_less n some all (Int i) w h = tt
  may_less n some all (Truth b) w h = tt
  may_less n some all Empty w h = tt
  may_less n some all (Chan None) w h = tt
  may_less n some all (Chan (Some c)) w h = λ u e. h u (w u e)

  pub shared_may : (n : List ℕ) (uses : Uses) (v : Value) → Shared usage v → MayUse usage n uses v
  shared_may n uses (Int i) h = tt
  shared_may n uses (Truth b) h = tt
  shared_may n uses Empty h = tt
  shared_may n uses (Chan None) h = tt
  shared_may n uses (Chan (Some c)) h = λ u e. h n u

  pub no_channel_shared : (v : Value) → NoChannel v → Shared usage v
  no_channel_shared (Int i) h = tt
  no_channel_shared (Truth b) h = tt
  no_channel_shared Empty h = tt
  no_channel_shared (Chan None) h = tt
  no_channel_shared (Chan (Some c)) h = absurd h

  pub no_channel_may : (n : List ℕ) (uses : Uses) (v : Value) → NoChannel v → MayUse usage n uses v
  no_channel_may n uses v h = shared_may n uses v (no_channel_shared v h)

  pub literal_shared : (l : Literal) → Shared usage (value_of l)
  literal_shared (Number i) = tt
  literal_shared (program.Truth b) = tt
  literal_shared Void = tt
  literal_shared Nil = tt

  -- what may be shared may be used by all
  pub sent_shared : (n : List ℕ) (v : Value) → ((m : List ℕ) (c : ChName) → usage.permits m c to_share ≡ true → Shared usage (Chan (Some c)))
      → MayUse usage n (only to_share) v → Shared usage v
  sent_shared n (Int i) s h = tt
  sent_shared n (Truth b) s h = tt
  sent_shared n Empty s h = tt
  sent_shared n (Chan None) s h = tt
  sent_shared n (Chan (Some c)) s h = s n c (h to_share refl)

-- Operators give no channels.
divided_plain : (divide : ℤ → ℤ → ℤ) (x y : ℤ) → IfGives NoChannel (divided divide x y)
divided_plain divide x y = if_either (IfGives NoChannel) (int_eq y (pos 0)) (λ e. faulty) (λ e. given tt)

shifted_plain : (shift : ℤ → ℕ → ℤ) (x y : ℤ) → IfGives NoChannel (shifted shift x y)
shifted_plain shift x (pos i) = given tt
shifted_plain shift x (negsuc i) = faulty

ints_plain : (op : BinaryOp) (x y : ℤ) → IfGives NoChannel (on_ints op x y)
ints_plain binaries.Multiply x y = given tt
ints_plain binaries.Divide x y = divided_plain int_div x y
ints_plain binaries.Remainder x y = divided_plain int_rem x y
ints_plain binaries.ShiftLeft x y = shifted_plain shift_left x y
ints_plain binaries.ShiftRight x y = shifted_plain shift_right x y
ints_plain binaries.BitAnd x y = given tt
ints_plain binaries.AndNot x y = given tt
ints_plain binaries.Add x y = given tt
ints_plain binaries.Subtract x y = given tt
ints_plain binaries.BitOr x y = given tt
ints_plain binaries.BitXor x y = given tt
ints_plain binaries.Equal x y = given tt
ints_plain binaries.NotEqual x y = given tt
ints_plain binaries.Less x y = given tt
ints_plain binaries.LessEqual x y = given tt
ints_plain binaries.Greater x y = given tt
ints_plain binaries.GreaterEqual x y = given tt
ints_plain binaries.LogicalAnd x y = stray
ints_plain binaries.LogicalOr x y = stray

compared_plain : (op : BinaryOp) (b : Bool) → IfGives NoChannel (compared op b)
compared_plain binaries.Equal b = given tt
compared_plain binaries.NotEqual b = given tt
compared_plain _ b = stray

truths_plain : (op : BinaryOp) (a b : Bool) → IfGives NoChannel (on_truths op a b)
truths_plain binaries.LogicalAnd a b = given tt
truths_plain binaries.LogicalOr a b = given tt
truths_plain binaries.Equal a b = given tt
truths_plain binaries.NotEqual a b = given tt
truths_plain _ a b = stray

pub operate_plain : (op : BinaryOp) (v w : Value) → IfGives NoChannel (operate op v w)
operate_plain op (Int x) (Int y) = ints_plain op x y
operate_plain op (Truth a) (Truth b) = truths_plain op a b
operate_plain op Empty Empty = compared_plain op true
operate_plain op (Chan c) (Chan d) = compared_plain op _
operate_plain op _ _ = stray

apply_plain : (op : UnaryOp) (v : Value) → IfGives NoChannel (apply op v)
apply_plain unaries.Plus (Int x) = given tt
apply_plain unaries.Negate (Int x) = given tt
apply_plain unaries.Complement (Int x) = given tt
apply_plain unaries.Not (Truth b) = given tt
apply_plain _ _ = stray

never_settled : (op : BinaryOp) (c : Option ChName) → settles op (Chan c) ≡ false
never_settled binaries.LogicalAnd c = refl
never_settled binaries.LogicalOr c = refl
never_settled _ c = refl

-- what decides `&&` or `||` is no channel
pub settled_plain : (op : BinaryOp) (v : Value) → settles op v ≡ true → NoChannel v
settled_plain op (Int i) e = tt
settled_plain op (Truth b) e = tt
settled_plain op Empty e = tt
settled_plain op (Chan None) e = tt
settled_plain op (Chan (Some c)) e = let f : true ≡ false = sym e ∙ never_settled op (Some c) in cc

module _ (usage : Usage) (n : List ℕ) where
  -- values for these uses
  abbrev pub ValuesFit : List Uses → List Value → Type 0
  ValuesFit bs [] = Unit {0}
  ValuesFit [] (v ∷ vs) = Unit {0}
  ValuesFit (b ∷ bs) (v ∷ vs) = MayUse usage n b v × ValuesFit bs vs

  -- the variables hold what they may be used for
  abbrev pub Holds : (ℕ → Uses) → Variables → Type 0
  Holds uses vs = (x : ℕ) (v : Value) → slice_get vs x ≡ Some (Some v) → MayUse usage n (uses x) v

  module _ (p : Program) (uses : ℕ → Uses) (function : ℕ) (vs : Variables) (holds : Holds uses vs) where
    held_fits : (b : Uses) (x : ℕ) (o : Option (Option Value)) → slice_get vs x ≡ o → Within b (uses x) → IfGives (MayUse usage n b) (held o)
    held_fits b x None e w = stray
    held_fits b x (Some None) e w = stray
    held_fits b x (Some (Some v)) e w = given (may_less usage n b (uses x) v w (holds x v e))

    pub evaluate_fits : (b : Uses) (a : Operand) → OperandFits p usage n uses function b a → IfGives (MayUse usage n b) (evaluate vs a)
    evaluate_fits b (Done v) h = given h
    evaluate_fits b (Variable x) h = held_fits b x (slice_get vs x) refl h
    evaluate_fits b (Unary op a) h = then_gives (in_any_case (evaluate vs a)) (λ v u. gives_less (no_channel_may usage n b) (apply_plain op v))
    evaluate_fits b (Binary op x y) h = then_gives (in_any_case (evaluate vs x)) (λ v u.
        if_either (IfGives (MayUse usage n b)) (settles op v)
        (λ e. given (no_channel_may usage n b v (settled_plain op v e)))
        (λ e. then_gives (in_any_case (evaluate vs y)) (λ w k. gives_less (no_channel_may usage n b) (operate_plain op v w))))
    evaluate_fits b (Decided op x y) h = then_gives (in_any_case (held (slice_get vs x))) (λ v u.
        if_either (IfGives (MayUse usage n b)) (settles op v)
        (λ e. given (no_channel_may usage n b v (settled_plain op v e)))
        (λ e. evaluate_fits b y h))
    evaluate_fits b (Receive c zero) h = stray
    evaluate_fits b (Call k arguments) h = stray
    evaluate_fits b (Len c) h = stray
    evaluate_fits b (Cap c) h = stray
    evaluate_fits b (Make size) h = stray

    pub evaluate_all_fits : (bs : List Uses) (es : Operands) → OperandsFit p usage n uses function bs es → IfGives (ValuesFit bs) (evaluate_all vs es)
    evaluate_all_fits bs nothing h = given tt
    evaluate_all_fits [] (also a rest) h = then_gives (in_any_case (evaluate vs a)) (λ v u. then_gives (in_any_case (evaluate_all vs rest)) (λ ws k. given tt))
    evaluate_all_fits (b ∷ bs) (also a rest) h = then_gives (evaluate_fits b a h.0) (λ v u. then_gives (evaluate_all_fits bs rest h.1) (λ ws k. given (u, k)))
