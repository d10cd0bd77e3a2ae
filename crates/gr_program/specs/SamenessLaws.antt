-- Acts are the same exactly where they are equal, and so is all that stands in them.
use Rattle.std.proofs.Common.{◌≡◌, ℕ, Bool, true, false, List, refl, ap, sym, ◌∙◌, subst, true≢false}
use Rattle.std.specs.Prelude.{◌&&◌, Option, Some, None, nat_eq}
use Rattle.std.specs.Bool.{Decides, beq}
use Rattle.std.specs.Option.{option_eq}
use Rattle.std.specs.Cmp.Lexicographic.{pointwise, bytes_decides}
use Rattle.std.proofs.lemmas.Bool.Decides.{Decides-int_eq, Decides-eqb}
use Rattle.std.proofs.lemmas.Slice.Eq.{slice_eq-Decides}
use denote.Enum.Bare.{same_true, true_same}
use Rattle.gr_scan.specs.declared.token.Place.{Place}
use Rattle.gr_tree.specs.declared.expr.Direction.{Direction}
use Rattle.gr_tree.specs.declared.expr.Direction.TheVariants as directions
use Rattle.gr_tree.specs.declared.expr.UnaryOp.{UnaryOp}
use Rattle.gr_tree.specs.declared.expr.BinaryOp.{BinaryOp}
use Rattle.gr_tree.specs.contracts.expr.UnaryOp as unary
use Rattle.gr_tree.specs.contracts.expr.BinaryOp as binary
use Rattle.gr_program.specs.Types.{Ty, IntType, BoolType, UnitType, ChanType, same_direction, same_type}
use Rattle.gr_program.specs.Programs.{Literal, Number, Truth, Empty, Nil, Expr, Literally, Variable, Unary, Binary, Receive, Call, Len, Cap, Make, MakeSized, Exprs, none, more, Printed, PrintExpr, PrintText, Act, Assign, AssignReceive, Update, Eval, Close, Print, Send, Go, Return, Break, Continue, Opening, Opens}
use Rattle.gr_program.specs.Sameness.{same_place, same_unary, same_binary, same_literal, same_expr, same_exprs, same_printed, same_target, same_targets, same_act, same_opening}

-- both of two tests
pub both : {P : Type 0} (a b : Bool) → (a && b) ≡ true → (a ≡ true → b ≡ true → P) → P
both true b e k = k refl e
both false b e k = absurd (true≢false (sym e))

pub together : {a b : Bool} → a ≡ true → b ≡ true → (a && b) ≡ true
together {a = true} e f = f
together {a = false} e f = absurd (true≢false (sym e))

-- a test that is right where it holds, and holds of a value and itself
pub decided : {A : Type 0} (same : A → A → Bool) → ((a b : A) → same a b ≡ true → a ≡ b) → ((a : A) → same a a ≡ true) → (a b : A) → Decides (same a b) (a ≡ b)
decided same right itself a b = (right a b, λ e. subst (λ b. same a b ≡ true) e (itself a))

pub number : (m n : ℕ) → Decides (nat_eq m n) (m ≡ n)
number m n = Decides-eqb m n

pub number_itself : (m : ℕ) → nat_eq m m ≡ true
number_itself m = (number m m).1 refl

-- places
abbrev placed : (start last line : ℕ) → Place
placed start last line = record { start = start; end = last; line = line }

place_right : (p q : Place) → same_place p q ≡ true → p ≡ q
place_right p q e =
    both (nat_eq p.start q.start) (nat_eq p.end q.end && nat_eq p.line q.line) e (λ f g.
    both (nat_eq p.end q.end) (nat_eq p.line q.line) g (λ g h.
    let start = (number p.start q.start).0 f in
    let last = (number p.end q.end).0 g in
    let line = (number p.line q.line).0 h in
    ap (λ n. placed n p.end p.line) start ∙ ap (λ n. placed q.start n p.line) last ∙ ap (placed q.start q.end) line))

pub place_itself : (p : Place) → same_place p p ≡ true
place_itself p = together (number_itself p.start) (together (number_itself p.end) (number_itself p.line))

pub place : (p q : Place) → Decides (same_place p q) (p ≡ q)
place = decided same_place place_right place_itself

truth : (a b : Bool) → beq a b ≡ true → a ≡ b
truth true true e = refl
truth false false e = refl
truth true false e = absurd (true≢false (sym e))
truth false true e = absurd (true≢false (sym e))

truth_itself : (a : Bool) → beq a a ≡ true
truth_itself true = refl
truth_itself false = refl

pub option_right : {A : Type 0} (same : A → A → Bool) → ((a b : A) → same a b ≡ true → a ≡ b) → (x y : Option A) → option_eq same x y ≡ true → x ≡ y
option_right same right (Some a) (Some b) e = ap Some (right a b e)
option_right same right None None e = refl
option_right same right _ _ e = absurd (true≢false (sym e))

pub option_itself : {A : Type 0} (same : A → A → Bool) → ((a : A) → same a a ≡ true) → (x : Option A) → option_eq same x x ≡ true
option_itself same itself (Some a) = itself a
option_itself same itself None = refl

pub list_decided : {A : Type 0} (same : A → A → Bool) → ((a b : A) → Decides (same a b) (a ≡ b)) → (xs ys : List A) → Decides (pointwise same xs ys) (xs ≡ ys)
list_decided same is xs ys = slice_eq-Decides is xs ys (pointwise same xs ys) refl

pub target : (x y : Option ℕ) → Decides (same_target x y) (x ≡ y)
target = decided same_target (option_right nat_eq (λ m n. (number m n).0)) (option_itself nat_eq number_itself)

pub targets : (xs ys : List (Option ℕ)) → Decides (same_targets xs ys) (xs ≡ ys)
targets = list_decided same_target target

-- types
direction_right : (d e : Direction) → same_direction d e ≡ true → d ≡ e
direction_right directions.Both directions.Both q = refl
direction_right directions.Send directions.Send q = refl
direction_right directions.Receive directions.Receive q = refl
direction_right _ _ q = absurd (true≢false (sym q))

direction_itself : (d : Direction) → same_direction d d ≡ true
direction_itself directions.Both = refl
direction_itself directions.Send = refl
direction_itself directions.Receive = refl

pub type_right : (t u : Ty) → same_type t u ≡ true → t ≡ u
type_right IntType IntType e = refl
type_right BoolType BoolType e = refl
type_right UnitType UnitType e = refl
type_right (ChanType d t) (ChanType f u) e = both (same_direction d f) (same_type t u) e (λ p q. cc (direction_right d f p, type_right t u q))
type_right _ _ e = absurd (true≢false (sym e))

pub type_itself : (t : Ty) → same_type t t ≡ true
type_itself IntType = refl
type_itself BoolType = refl
type_itself UnitType = refl
type_itself (ChanType d t) = together (direction_itself d) (type_itself t)

pub type_decided : (t u : Ty) → Decides (same_type t u) (t ≡ u)
type_decided = decided same_type type_right type_itself

-- literals and operators
pub literal_right : (v w : Literal) → same_literal v w ≡ true → v ≡ w
literal_right (Number m) (Number n) e = ap Number ((Decides-int_eq m n).0 e)
literal_right (Truth a) (Truth b) e = ap Truth (truth a b e)
literal_right Empty Empty e = refl
literal_right Nil Nil e = refl
literal_right _ _ e = absurd (true≢false (sym e))

pub literal_itself : (v : Literal) → same_literal v v ≡ true
literal_itself (Number m) = (Decides-int_eq m m).1 refl
literal_itself (Truth a) = truth_itself a
literal_itself Empty = refl
literal_itself Nil = refl

unary_right : (o p : UnaryOp) → same_unary o p ≡ true → o ≡ p
unary_right o p e = same_true unary.the_type tt o p e

unary_itself : (o : UnaryOp) → same_unary o o ≡ true
unary_itself o = true_same unary.the_type o o refl

binary_right : (o p : BinaryOp) → same_binary o p ≡ true → o ≡ p
binary_right o p e = same_true binary.the_type tt o p e

binary_itself : (o : BinaryOp) → same_binary o o ≡ true
binary_itself o = true_same binary.the_type o o refl

-- expressions
mutual
  pub expr_right : (t u : Expr) → same_expr t u ≡ true → t ≡ u
  expr_right (Literally v) (Literally w) e = ap Literally (literal_right v w e)
  expr_right (Variable m) (Variable n) e = ap Variable ((number m n).0 e)
  expr_right (Unary o t) (Unary p u) e = both (same_unary o p) (same_expr t u) e (λ f g. cc (unary_right o p f, expr_right t u g))
  expr_right (Binary o t v) (Binary p u w) e = both (same_binary o p) (same_expr t u && same_expr v w) e (λ f g. both (same_expr t u) (same_expr v w) g (λ g h. cc (binary_right o p f, expr_right t u g, expr_right v w h)))
  expr_right (Receive t v) (Receive u w) e = both (same_literal v w) (same_expr t u) e (λ f g. cc (literal_right v w f, expr_right t u g))
  expr_right (Call m ts) (Call n us) e = both (nat_eq m n) (same_exprs ts us) e (λ f g. cc ((number m n).0 f, exprs_right ts us g))
  expr_right (Len t) (Len u) e = ap Len (expr_right t u e)
  expr_right (Cap t) (Cap u) e = ap Cap (expr_right t u e)
  expr_right Make Make e = refl
  expr_right (MakeSized t) (MakeSized u) e = ap MakeSized (expr_right t u e)
  expr_right _ _ e = absurd (true≢false (sym e))

  exprs_right : (ts us : Exprs) → same_exprs ts us ≡ true → ts ≡ us
  exprs_right none none e = refl
  exprs_right (more t ts) (more u us) e = both (same_expr t u) (same_exprs ts us) e (λ f g. cc (expr_right t u f, exprs_right ts us g))
  exprs_right _ _ e = absurd (true≢false (sym e))

mutual
  pub expr_itself : (t : Expr) → same_expr t t ≡ true
  expr_itself (Literally v) = literal_itself v
  expr_itself (Variable m) = number_itself m
  expr_itself (Unary o t) = together (unary_itself o) (expr_itself t)
  expr_itself (Binary o t v) = together (binary_itself o) (together (expr_itself t) (expr_itself v))
  expr_itself (Receive t v) = together (literal_itself v) (expr_itself t)
  expr_itself (Call m ts) = together (number_itself m) (exprs_itself ts)
  expr_itself (Len t) = expr_itself t
  expr_itself (Cap t) = expr_itself t
  expr_itself Make = refl
  expr_itself (MakeSized t) = expr_itself t

  exprs_itself : (ts : Exprs) → same_exprs ts ts ≡ true
  exprs_itself none = refl
  exprs_itself (more t ts) = together (expr_itself t) (exprs_itself ts)

printed_right : (v w : Printed) → same_printed v w ≡ true → v ≡ w
printed_right (PrintExpr t) (PrintExpr u) e = ap PrintExpr (expr_right t u e)
printed_right (PrintText t) (PrintText u) e = ap PrintText ((bytes_decides t u).0 e)
printed_right _ _ e = absurd (true≢false (sym e))

printed_itself : (v : Printed) → same_printed v v ≡ true
printed_itself (PrintExpr t) = expr_itself t
printed_itself (PrintText t) = (bytes_decides t t).1 refl

printed : (vs ws : List Printed) → Decides (pointwise same_printed vs ws) (vs ≡ ws)
printed = list_decided same_printed (decided same_printed printed_right printed_itself)

-- acts
pub act_right : (a b : Act) → same_act a b ≡ true → a ≡ b
act_right (Assign xs ts) (Assign ys us) e = both (same_targets xs ys) (same_exprs ts us) e (λ f g. cc ((targets xs ys).0 f, exprs_right ts us g))
act_right (AssignReceive x o t v) (AssignReceive y p u w) e = both (same_target x y) (same_target o p && (same_expr t u && same_literal v w)) e (λ f g.
    both (same_target o p) (same_expr t u && same_literal v w) g (λ g h.
    both (same_expr t u) (same_literal v w) h (λ h i. cc ((target x y).0 f, (target o p).0 g, expr_right t u h, literal_right v w i))))
act_right (Update m o t) (Update n p u) e = both (nat_eq m n) (same_binary o p && same_expr t u) e (λ f g. both (same_binary o p) (same_expr t u) g (λ g h. cc ((number m n).0 f, binary_right o p g, expr_right t u h)))
act_right (Eval t) (Eval u) e = ap Eval (expr_right t u e)
act_right (Close t) (Close u) e = ap Close (expr_right t u e)
act_right (Print vs) (Print ws) e = ap Print ((printed vs ws).0 e)
act_right (Send t v) (Send u w) e = both (same_expr t u) (same_expr v w) e (λ f g. cc (expr_right t u f, expr_right v w g))
act_right (Go m ts) (Go n us) e = both (nat_eq m n) (same_exprs ts us) e (λ f g. cc ((number m n).0 f, exprs_right ts us g))
act_right (Return t) (Return u) e = ap Return (option_right same_expr expr_right t u e)
act_right (Break m) (Break n) e = ap Break ((number m n).0 e)
act_right (Continue m) (Continue n) e = ap Continue ((number m n).0 e)
act_right _ _ e = absurd (true≢false (sym e))

pub target_itself : (x : Option ℕ) → same_target x x ≡ true
target_itself = option_itself nat_eq number_itself

pub act_itself : (a : Act) → same_act a a ≡ true
act_itself (Assign xs ts) = together ((targets xs xs).1 refl) (exprs_itself ts)
act_itself (AssignReceive x o t v) = together (target_itself x) (together (target_itself o) (together (expr_itself t) (literal_itself v)))
act_itself (Update m o t) = together (number_itself m) (together (binary_itself o) (expr_itself t))
act_itself (Eval t) = expr_itself t
act_itself (Close t) = expr_itself t
act_itself (Print vs) = (printed vs vs).1 refl
act_itself (Send t v) = together (expr_itself t) (expr_itself v)
act_itself (Go m ts) = together (number_itself m) (exprs_itself ts)
act_itself (Return t) = option_itself same_expr expr_itself t
act_itself (Break m) = number_itself m
act_itself (Continue m) = number_itself m

pub opening_right : (a b : Opening) → same_opening a b ≡ true → a ≡ b
opening_right (Opens m a) (Opens n b) e = both (same_place m n) (same_act a b) e (λ f g. cc ((place m n).0 f, act_right a b g))

pub opening_itself : (a : Opening) → same_opening a a ≡ true
opening_itself (Opens m a) = together (place_itself m) (act_itself a)
