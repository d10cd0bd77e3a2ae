-- What remains has the same point after it before temporaries are filled in and after that.
use Rattle.std.proofs.Common.{◌≡◌, ℕ, zero, suc, true, Option, Some, None, refl, sym, ap, ◌∙◌}
use Rattle.std.specs.Prelude.{unwrap_or}
use Rattle.std.specs.Option.{option_map_or, option_or}
use Rattle.gr_scan.specs.declared.token.Place.{Place}
use Rattle.gr_base.specs.declared.values.Value.TheVariants.{Bool as Truth}
use Rattle.gr_program.specs.Programs as program
use Rattle.gr_program.specs.Programs.{Expr, Act, Opening, Opens, Stmt, Does, Block, If, For, Stmts, stop, then, Cases}
use Rattle.gr_rules.specs.Operands.{Operand, Done, Variable, Unary, Binary, Decided, Receive, Call, Len, Cap, Make, Operands, nothing, also, one, operand_of}
use Rattle.gr_rules.specs.Points.{Rest, closing, following, looping, ranging, chosen, Work, Test, Range, Select, Point, at, case_operands, onto, outside, next_turn, going_on, act_at, opened, turn, first_of, first_in, point_after}
use Rattle.gr_code.specs.Filling.{Temporaries, fill, fill_all, fill_rest, fill_work, fill_point, variable_filled, decided}
use Rattle.gr_code.specs.Bounds.{Below, AllBelow, ActBelow, OpeningBelow, ConditionBelow, FirstBelow, EachFirstBelow, RestBelow, NoneBelow}
use Rattle.gr_code.proofs.FrameSimulation.{onto_fill}

abbrev pub filled_option : Temporaries → Option Point → Option Point
filled_option ts o = elim o [ Some p ↦ Some (fill_point ts p) | None ↦ None ]

module _ (n : ℕ) (ts : Temporaries) (above : NoneBelow n ts) where
  mutual
    pub static : (t : Operand) → Below n t → fill ts t ≡ t
    static (Done v) h = refl
    static (Variable x) h = ap (variable_filled x) (above x h)
    static (Unary op a) h = ap (Unary op) (static a h)
    static (Binary op a b) h = cc (static a h.0, static b h.1)
    static (Decided op x b) h = ap (decided op x (fill ts b)) (above x h.0) ∙ ap (Decided op x) (static b h.1)
    static (Receive c initial) h = ap (λ c. Receive c initial) (static c h)
    static (Call f arguments) h = ap (Call f) (static_all arguments h)
    static (Len c) h = ap Len (static c h)
    static (Cap c) h = ap Cap (static c h)
    static (Make a) h = ap Make (static a h)

    pub static_all : (t : Operands) → AllBelow n t → fill_all ts t ≡ t
    static_all nothing h = refl
    static_all (also a rest) h = cc (static a h.0, static_all rest h.1)

  -- what remains, filled, where something does
  abbrev rest_filled : Option Rest → Option Rest
  rest_filled o = elim o [ Some rest ↦ Some (fill_rest ts rest) | None ↦ None ]

  outside_fill : (d : ℕ) (rest : Rest) → outside d (fill_rest ts rest) ≡ rest_filled (outside d rest)
  outside_fill d (closing place) = refl
  outside_fill d (following ss rest) = outside_fill d rest
  outside_fill zero (looping again rest) = refl
  outside_fill (suc d) (looping again rest) = outside_fill d rest
  outside_fill zero (ranging place target channel body rest) = refl
  outside_fill (suc d) (ranging place target channel body rest) = outside_fill d rest
  outside_fill zero (chosen clause rest) = refl
  outside_fill (suc d) (chosen clause rest) = outside_fill d rest

  next_turn_fill : (d : ℕ) (rest : Rest) → next_turn d (fill_rest ts rest) ≡ rest_filled (next_turn d rest)
  next_turn_fill d (closing place) = refl
  next_turn_fill d (following ss rest) = next_turn_fill d rest
  next_turn_fill zero (looping again rest) = refl
  next_turn_fill (suc d) (looping again rest) = next_turn_fill d rest
  next_turn_fill zero (ranging place target channel body rest) = refl
  next_turn_fill (suc d) (ranging place target channel body rest) = next_turn_fill d rest
  next_turn_fill zero (chosen clause rest) = refl
  next_turn_fill (suc d) (chosen clause rest) = next_turn_fill d rest

  going_on_fill : (place : Place) (o : Option Rest) → going_on place (rest_filled o) ≡ fill_point ts (going_on place o)
  going_on_fill place (Some rest) = refl
  going_on_fill place None = refl

  plain_fill : (place : Place) (w : Work) (es : Operands) (rest : Rest) → fill_work ts w ≡ w → AllBelow n es → at place w es (fill_rest ts rest) ≡ fill_point ts (at place w es rest)
  plain_fill place w es rest e h = λ i. at place (sym e i) (sym (static_all es h) i) (fill_rest ts rest)

  act_fill : (place : Place) (act : Act) (rest : Rest) → ActBelow n act → act_at place act (fill_rest ts rest) ≡ fill_point ts (act_at place act rest)
  act_fill place (program.Assign targets values) rest h = plain_fill place _ _ rest refl h
  act_fill place (program.AssignReceive value ok channel initial) rest h = plain_fill place _ _ rest refl h
  act_fill place (program.Update x op value) rest h = plain_fill place _ _ rest refl h
  act_fill place (program.Eval value) rest h = plain_fill place _ _ rest refl h
  act_fill place (program.Close channel) rest h = plain_fill place _ _ rest refl h
  act_fill place (program.Print values) rest h = plain_fill place _ _ rest refl h
  act_fill place (program.Send channel value) rest h = plain_fill place _ _ rest refl h
  act_fill place (program.Go function arguments) rest h = plain_fill place _ _ rest refl h
  act_fill place (program.Return value) rest h = plain_fill place _ _ rest refl h
  act_fill place (program.Break depth) rest h = ap (going_on place) (outside_fill depth rest) ∙ going_on_fill place (outside depth rest)
  act_fill place (program.Continue depth) rest h = ap (going_on place) (next_turn_fill depth rest) ∙ going_on_fill place (next_turn depth rest)

  opened_fill : (init : Option Opening) (s : Stmt) (p q : Point) (rest : Rest) → OpeningBelow n init → q ≡ fill_point ts p
      → opened init s q (fill_rest ts rest) ≡ fill_point ts (opened init s p rest)
  opened_fill None s p q rest h e = e
  opened_fill (Some (Opens place act)) s p q rest h e = act_fill place act (following (then s stop) rest) h

  condition_fill : (c : Option Expr) → ConditionBelow n c → one (option_map_or operand_of c (Done (Truth true))) ≡ fill_all ts (one (option_map_or operand_of c (Done (Truth true))))
  condition_fill None h = refl
  condition_fill (Some t) h = ap one (sym (static (operand_of t) h))

  both_fill : (o q : Option Point) → option_or (filled_option ts o) (filled_option ts q) ≡ filled_option ts (option_or o q)
  both_fill (Some p) q = refl
  both_fill None q = refl

  either_fill : (o o' q q' : Option Point) → o' ≡ filled_option ts o → q' ≡ filled_option ts q → option_or o' q' ≡ filled_option ts (option_or o q)
  either_fill o o' q q' e f = cc (e, f, both_fill o q)

  mutual
    first_of_fill : (s : Stmt) (rest : Rest) → FirstBelow n s → first_of s (fill_rest ts rest) ≡ filled_option ts (first_of s rest)
    first_of_fill (Does place act) rest h = ap (λ p. Some p) (act_fill place act rest h)
    first_of_fill (Block body) rest h = first_in_fill body rest h
    first_of_fill (If place init condition body otherwise) rest h =
        ap (λ p. Some p) (opened_fill init (If place None condition body otherwise)
        (at place (Test (onto body rest)) (one (operand_of condition)) (onto otherwise rest)) _ rest h.0
        (cc (onto_fill ts body rest, onto_fill ts otherwise rest, static (operand_of condition) h.1)))
    first_of_fill (For place init condition post body) rest h =
        let again : Stmt = For place None condition post body in
        let inner : Rest = looping (turn post again) rest in
        ap (λ p. Some p) (opened_fill init again (at place (Test (onto body inner)) (one (option_map_or operand_of condition (Done (Truth true)))) rest) _ rest h.0
        (cc (onto_fill ts body inner, condition_fill condition h.1)))
    first_of_fill (program.Range place target channel body) rest h = ap (λ o. Some (at place (Range target body) (one o) (fill_rest ts rest))) (sym (static (operand_of channel) h))
    first_of_fill (program.Select place cases) rest h = ap (λ p. Some p) (plain_fill place (Select cases) (case_operands cases) rest refl h)

    first_in_fill : (ss : Stmts) (rest : Rest) → EachFirstBelow n ss → first_in ss (fill_rest ts rest) ≡ filled_option ts (first_in ss rest)
    first_in_fill stop rest h = refl
    first_in_fill (then s ss) rest h =
        ap (λ r. option_or (first_of s r) (first_in ss (fill_rest ts rest))) (sym (onto_fill ts ss rest))
        ∙ either_fill _ _ _ _ (first_of_fill s (onto ss rest) h.0) (first_in_fill ss rest h.1)

  else_fill : (o o' : Option Point) (p p' : Point) → o' ≡ filled_option ts o → p' ≡ fill_point ts p → unwrap_or o' p' ≡ fill_point ts (unwrap_or o p)
  else_fill o o' p p' e f = cc (e, f, elim o as (λ o. unwrap_or (filled_option ts o) (fill_point ts p) ≡ fill_point ts (unwrap_or o p)) [ Some q ↦ refl | None ↦ refl ])

  pub point_after_fill : (rest : Rest) → RestBelow n rest → point_after (fill_rest ts rest) ≡ fill_point ts (point_after rest)
  point_after_fill (closing place) h = refl
  point_after_fill (following ss rest) h = else_fill (first_in ss rest) _ (point_after rest) _ (first_in_fill ss rest h.0) (point_after_fill rest h.1)
  point_after_fill (looping again rest) h = else_fill (first_in again rest) _ (point_after rest) _ (first_in_fill again rest h.0) (point_after_fill rest h.1)
  point_after_fill (ranging place target channel body rest) h = refl
  point_after_fill (chosen clause rest) h = point_after_fill rest h
