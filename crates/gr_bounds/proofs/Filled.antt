-- A point stays within bounds where temporaries are filled with values that may be used as the temporaries are.
use Rattle.std.proofs.Common.{◌≡◌, ℕ, List, [], ◌∷◌, Option, Some, None, refl, subst}
use Rattle.gr_tree.specs.declared.expr.BinaryOp.{BinaryOp}
use Rattle.gr_base.specs.declared.values.Value.{Value}
use Rattle.gr_program.specs.Programs.{Program}
use Rattle.gr_rules.specs.Operators.{settles}
use Rattle.gr_rules.specs.Operands.{Operand, Done, Variable, Unary, Binary, Receive, Call, Len, Cap, Make, Decided, Operands, nothing, also}
use Rattle.gr_rules.specs.Points.{Rest, closing, following, looping, ranging, chosen, Work, Assign, AssignReceive, Update, Eval, Close, Print, Send, Go, Return, GoOn, Astray, Test, Range, Turn, Select, Point}
use Rattle.gr_code.specs.Filling.{Temporaries, variable_filled, decided, fill, fill_all, fill_rest, fill_work, fill_point}
use Rattle.gr_may.specs.Uses.{to_receive, to_count, Uses, no_use, only, Within, Usage, MayUse}
use Rattle.gr_may.specs.Demands.{parameter_uses, OperandFits, OperandsFit, work_uses, RestFits, WorkFits, PointFits}
use Rattle.gr_may.proofs.Given.{if_either}
use Rattle.gr_may.proofs.FitValues.{may_less, no_channel_may, settled_plain}

module _ (p : Program) (usage : Usage) (n : List ℕ) (uses : ℕ → Uses) (function : ℕ) (ts : Temporaries)
    (holds : (x : ℕ) (v : Value) → ts x ≡ Some v → MayUse usage n (uses x) v) where
  abbrev F : Uses → Operand → Type 0
  F b a = OperandFits p usage n uses function b a

  abbrev Fs : List Uses → Operands → Type 0
  Fs bs es = OperandsFit p usage n uses function bs es

  variable_fits : (b : Uses) (x : ℕ) (o : Option Value) → ts x ≡ o → Within b (uses x) → F b (variable_filled x o)
  variable_fits b x None e w = w
  variable_fits b x (Some v) e w = may_less usage n b (uses x) v w (holds x v e)

  decided_fits : (b : Uses) (op : BinaryOp) (x : ℕ) (a : Operand) (o : Option Value) → F b a → F b (decided op x a o)
  decided_fits b op x a None h = h
  decided_fits b op x a (Some v) h = if_either (F b) (settles op v) (λ e. no_channel_may usage n b v (settled_plain op v e)) (λ e. h)

  mutual
    fill_fits : (b : Uses) (a : Operand) → F b a → F b (fill ts a)
    fill_fits b (Done v) h = h
    fill_fits b (Variable x) h = variable_fits b x (ts x) refl h
    fill_fits b (Unary op a) h = fill_fits no_use a h
    fill_fits b (Binary op x y) h = (fill_fits no_use x h.0, fill_fits b y h.1)
    fill_fits b (Receive c zero) h = (fill_fits (only to_receive) c h.0, h.1)
    fill_fits b (Call k arguments) h = (h.0, fill_all_fit (parameter_uses p usage k) arguments h.1)
    fill_fits b (Len c) h = fill_fits (only to_count) c h
    fill_fits b (Cap c) h = fill_fits no_use c h
    fill_fits b (Make c) h = fill_fits no_use c h
    fill_fits b (Decided op x y) h = decided_fits b op x (fill ts y) (ts x) (fill_fits b y h)

    fill_all_fit : (bs : List Uses) (es : Operands) → Fs bs es → Fs bs (fill_all ts es)
    fill_all_fit bs nothing h = tt
    fill_all_fit [] (also a rest) h = (fill_fits no_use a h.0, fill_all_fit [] rest h.1)
    fill_all_fit (b ∷ bs) (also a rest) h = (fill_fits b a h.0, fill_all_fit bs rest h.1)

  rest_filled : (rest : Rest) → RestFits p usage n uses function rest → RestFits p usage n uses function (fill_rest ts rest)
  rest_filled (closing place) h = tt
  rest_filled (following ss rest) h = (h.0, rest_filled rest h.1)
  rest_filled (looping again rest) h = (h.0, rest_filled rest h.1)
  rest_filled (ranging place target channel body rest) h = (fill_fits (only to_receive) channel h.0, h.1, rest_filled rest h.2)
  rest_filled (chosen clause rest) h = rest_filled rest h

  -- the same statement, with the same uses of its operands
  record Filled (work : Work) : Type 0 where
    inner : WorkFits p usage n uses function (fill_work ts work)
    alike : work_uses p usage n uses function work ≡ work_uses p usage n uses function (fill_work ts work)

  work_filled : (work : Work) → WorkFits p usage n uses function work → Filled work
  work_filled (Assign targets) h = record { inner = tt; alike = refl }
  work_filled (AssignReceive value ok zero) h = record { inner = h; alike = refl }
  work_filled (Update x op) h = record { inner = tt; alike = refl }
  work_filled Eval h = record { inner = tt; alike = refl }
  work_filled Close h = record { inner = tt; alike = refl }
  work_filled (Print pieces) h = record { inner = tt; alike = refl }
  work_filled Send h = record { inner = tt; alike = refl }
  work_filled (Go k) h = record { inner = tt; alike = refl }
  work_filled Return h = record { inner = tt; alike = refl }
  work_filled GoOn h = record { inner = tt; alike = refl }
  work_filled Astray h = record { inner = tt; alike = refl }
  work_filled (Test holds) h = record { inner = rest_filled holds h; alike = refl }
  work_filled (Range target body) h = record { inner = h; alike = refl }
  work_filled (Turn target body) h = record { inner = h; alike = refl }
  work_filled (Select cases) h = record { inner = h; alike = refl }

  pub point_filled : (here : Point) → PointFits p usage n uses function here → PointFits p usage n uses function (fill_point ts here)
  point_filled here h =
      let w = work_filled here.work h.work in record {
        operands = subst (λ bs. Fs bs (fill_all ts here.operands)) w.alike (fill_all_fit (work_uses p usage n uses function here.work) here.operands h.operands);
        work = w.inner;
        rest = rest_filled here.rest h.rest;
      }
