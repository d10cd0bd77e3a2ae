-- Acts that have sorts have code: they name variables of their function, and an expression statement is a call or a receive.
use Rattle.std.proofs.Common.{ℕ, Bool, List, length, Option}
use Rattle.gr_program.specs.Programs.{Act, Opening, Declared}
use Rattle.gr_rules.specs.Operands.{Operand, Operands}
use Rattle.gr_code.specs.Bounds.{Below, AllBelow}
use Rattle.gr_code.specs.Vectors.{TargetsBelow}
use Rattle.gr_lower.specs.CanLower.{CanAct, CanOpen}
use Rattle.type_safety.proofs.Sorts as sorts
use Rattle.type_safety.proofs.Sorts.{Sort, Made, Setting, SortedOperand, SortedOperands, AreTargets}
use Rattle.type_safety.proofs.Bodies as bodies
use Rattle.type_safety.proofs.Bodies.{Nest, SortedAct, SortedOpening}
use Rattle.type_safety.proofs.SortedValues.{within_length}

pub targets_below : {ds : List Declared} {xs : List (Option ℕ)} {ks : List Sort} → AreTargets ds xs ks
    → TargetsBelow (length ds) xs
targets_below sorts.no_target = tt
targets_below (sorts.blank rest) = targets_below rest
targets_below {ds = ds} (sorts.target {x = x} {k = k} e rest) = (within_length ds x k e, targets_below rest)

module _ (d : Setting) where
  mutual
    pub operand_below : {made : Made} {live : List ℕ} {t : Operand} {k : Sort} → SortedOperand d made live t k
        → Below (length d.variables) t
    operand_below (sorts.done is) = tt
    operand_below (sorts.variable {x = x} {k = k} e holds) = within_length d.variables x k e
    operand_below (sorts.unary op a) = operand_below a
    operand_below (sorts.binary op a b) = (operand_below a, operand_below b)
    operand_below (sorts.receive c zero) = operand_below c
    operand_below (sorts.call is arguments) = operands_below arguments
    operand_below (sorts.len c) = operand_below c
    operand_below (sorts.cap c) = operand_below c
    operand_below (sorts.make n) = operand_below n

    pub operands_below : {made : Made} {live : List ℕ} {ts : Operands} {ks : List Sort}
        → SortedOperands d made live ts ks → AllBelow (length d.variables) ts
    operands_below sorts.no_operand = tt
    operands_below (sorts.one_operand a rest) = (operand_below a, operands_below rest)

  pub act_can : {nests : List Nest} {live : List ℕ} {act : Act} {z : Bool} → SortedAct d nests live act z
      → CanAct (length d.variables) act
  act_can (bodies.assigns targets values) = (operands_below values, targets_below targets)
  act_can (bodies.assigns_receive c zero targets) = ((operand_below c, tt), targets_below targets)
  act_can (bodies.updates {x = x} e holds arithmetic value) =
      ((operand_below value, tt), within_length d.variables x sorts.IntSort e)
  act_can (bodies.receives e) = ((operand_below e, tt), tt)
  act_can (bodies.calls e) = ((operand_below e, tt), tt)
  act_can (bodies.closes c) = ((operand_below c, tt), tt)
  act_can (bodies.prints pieces values) = (operands_below values, tt)
  act_can (bodies.sends c value) = ((operand_below c, (operand_below value, tt)), tt)
  act_can (bodies.goes is arguments) = (operands_below arguments, tt)
  act_can (bodies.returns is) = (tt, tt)
  act_can (bodies.returns_value is value) = ((operand_below value, tt), tt)
  act_can (bodies.breaks there on) = (tt, tt)
  act_can (bodies.continues there) = (tt, tt)

  pub opening_can : {nests : List Nest} {live : List ℕ} {init : Option Opening} → SortedOpening d nests live init
      → CanOpen (length d.variables) init
  opening_can bodies.no_opening = tt
  opening_can (bodies.opening h) = act_can h
