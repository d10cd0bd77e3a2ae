-- A call begins in a frame of code that means the frame in which it begins by the rules.
use Rattle.std.proofs.Common.{◌≡◌, ◌<◌, ◌≤◌, ℕ, zero, suc, true, false, List, length, take, Option, Some, None, refl, sym, ap, ◌∙◌, subst, arith}
use Rattle.std.proofs.lemmas.List.{length-replicate, take-replicate}
use Rattle.std.proofs.lemmas.Option.{slice_get_within, none-some}
use Rattle.std.specs.Prelude.{nat_lt, replicate, slice_get, if◌then◌else◌}
use Rattle.std.specs.Option.{option_map_or}
use Rattle.gr_base.specs.declared.values.Value.{Value}
use Rattle.gr_program.specs.Programs.{Function, FunctionIs, Program, ProgramIs}
use Rattle.gr_rules.specs.Outcomes.{Outcome, gives, wrong, ◌>>=◌}
use Rattle.gr_rules.specs.Operands.{Operand, Done, Variable, Unary, Binary, Receive, Call, Len, Cap, Make, Decided, Operands, nothing, also}
use Rattle.gr_rules.specs.Evaluation.{Variables}
use Rattle.gr_rules.specs.Points.{Rest, closing, following, looping, ranging, chosen, Work, Assign, AssignReceive, Update, Eval, Close, Print, Send, Go, Return, GoOn, Astray, Test, Range, Turn, Select, Point, at}
use Rattle.gr_rules.specs.Frames.{Frame, assigned, called}
use Rattle.gr_rules.specs.States.{call_of}
use Rattle.gr_code.specs.Filling.{Temporaries, variable_filled, decided, fill, fill_all, fill_rest, fill_work, fill_point}
use Rattle.gr_code.specs.Bounds.{NoneBelow}
use Rattle.gr_code.specs.Instructions.{spot}
use Rattle.gr_code.specs.Code.{Meanings, IfGiven, frame_at}
use Rattle.gr_code.specs.Vectors.{temporaries_in, spot_in, value_at, TargetsBelow}
use Rattle.gr_code.specs.CodeFrames.{FunctionCode, ProgramCode, CodeFrame, entered}
use Rattle.gr_code.specs.Programs.{parameter_variables, variable_count, first_point, FunctionFits, ProgramFits, functions_in, variables_in, Stands, frame_of, frame_meant}
use Rattle.gr_code.proofs.VectorLemmas.{assigns}
use Rattle.gr_code.proofs.CellLemmas.{shown_by}
use Rattle.gr_code.proofs.Places.{assigned_long, and_given}
use Rattle.gr_code.proofs.Standing.{none_below, there, function_fits}

-- filled in from no temporaries all is as it was
module _ (ts : Temporaries) (none : (x : ℕ) → ts x ≡ None) where
  mutual
    unfilled : (t : Operand) → fill ts t ≡ t
    unfilled (Done v) = refl
    unfilled (Variable x) = ap (variable_filled x) (none x)
    unfilled (Unary op a) = ap (Unary op) (unfilled a)
    unfilled (Binary op a b) = cc (unfilled a, unfilled b)
    unfilled (Decided op x b) = ap (decided op x (fill ts b)) (none x) ∙ ap (Decided op x) (unfilled b)
    unfilled (Receive c initial) = ap (λ c. Receive c initial) (unfilled c)
    unfilled (Call f arguments) = ap (Call f) (unfilled_all arguments)
    unfilled (Len c) = ap Len (unfilled c)
    unfilled (Cap c) = ap Cap (unfilled c)
    unfilled (Make a) = ap Make (unfilled a)

    unfilled_all : (t : Operands) → fill_all ts t ≡ t
    unfilled_all nothing = refl
    unfilled_all (also a rest) = cc (unfilled a, unfilled_all rest)

  unfilled_rest : (rest : Rest) → fill_rest ts rest ≡ rest
  unfilled_rest (closing place) = refl
  unfilled_rest (following ss rest) = ap (following ss) (unfilled_rest rest)
  unfilled_rest (looping again rest) = ap (looping again) (unfilled_rest rest)
  unfilled_rest (ranging place target channel body rest) = cc (unfilled channel, unfilled_rest rest)
  unfilled_rest (chosen clause rest) = ap (chosen clause) (unfilled_rest rest)

  unfilled_work : (work : Work) → fill_work ts work ≡ work
  unfilled_work (Assign targets) = refl
  unfilled_work (AssignReceive value ok initial) = refl
  unfilled_work (Update x op) = refl
  unfilled_work Eval = refl
  unfilled_work Close = refl
  unfilled_work (Print pieces) = refl
  unfilled_work Send = refl
  unfilled_work (Go f) = refl
  unfilled_work Return = refl
  unfilled_work GoOn = refl
  unfilled_work Astray = refl
  unfilled_work (Test holds) = ap Test (unfilled_rest holds)
  unfilled_work (Range target body) = refl
  unfilled_work (Turn target body) = refl
  unfilled_work (Select cases) = refl

  unfilled_point : (p : Point) → fill_point ts p ≡ p
  unfilled_point p = λ i. at p.place (unfilled_work p.work i) (unfilled_all p.operands i) (unfilled_rest p.rest i)

no_value : (m x : ℕ) → value_at (slice_get (replicate m None) x) ≡ None
no_value zero x = refl
no_value (suc m) zero = refl
no_value (suc m) (suc x) = no_value m x

no_temporaries : (n m x : ℕ) → temporaries_in n (replicate m None) x ≡ None
no_temporaries n m x = elim (nat_lt x n) as (λ b. (if b then None else value_at (slice_get (replicate m None) x)) ≡ None) [ true ↦ refl | false ↦ no_value m x ]

called_is : (number : ℕ) (vs : List Value) (function : Function)
    → called number vs function ≡ (assigned (parameter_variables function) vs (replicate (variable_count function) None)
    >>= λ held. gives (record { function = number; variables = held; point = first_point function }))
called_is number vs (FunctionIs name parameters result variables body last) = refl

module _ (means : ℕ → Meanings) (p : Program) (code : ProgramCode) (fits : ProgramFits means p code) (number : ℕ) (vs : List Value) where
  abbrev frame : List (Option Value) → Point → Outcome Frame
  frame held q = gives (record { function = number; variables = held; point = q })

  abbrev at_first : List (Option Value) → CodeFrame
  at_first held = record { function = number; number = 0; cells = held }

  -- the frame of code, where the function has this code
  abbrev begun : Option FunctionCode → Outcome CodeFrame
  begun o = elim o [ Some c ↦ assigned c.parameters vs (replicate c.cells None) >>= λ held. gives (at_first held) | None ↦ wrong ]

  abbrev called_if : Option Function → Outcome Frame
  called_if o = elim o [ Some function ↦ called number vs function | None ↦ wrong ]

  call_is : call_of p number vs ≡ called_if (slice_get (functions_in p) number)
  call_is = elim p as (λ p. call_of p number vs ≡ called_if (slice_get (functions_in p) number)) [ ProgramIs functions main ↦ refl ]

  module _ (function : Function) (c : FunctionCode) (is : slice_get code.functions number ≡ Some c) (fit : FunctionFits (means number) function c) where
    abbrev n : ℕ
    n = variables_in code number

    abbrev cells : Variables
    cells = replicate c.cells None

    same_variables : c.variables ≡ n
    same_variables = sym (ap (λ o. option_map_or (λ c. c.variables) o 0) is)

    takes : TargetsBelow n c.parameters
    takes = subst {_, _} (λ k. TargetsBelow k c.parameters) same_variables fit.takes

    same_point : first_point function ≡ fill_point (temporaries_in n cells) (means number 0)
    same_point = sym fit.begins ∙ sym (unfilled_point (temporaries_in n cells) (no_temporaries n c.cells) (means number 0))

    same_cells : replicate (variable_count function) None ≡ take n cells
    same_cells =
        ap (λ k. replicate k None) (sym fit.variables ∙ same_variables)
        ∙ sym (take-replicate n c.cells None (subst {_, _} (λ k. k ≤ c.cells) same_variables fit.cells))

    begins : called number vs function ≡ frame_meant means code (begun (Some c))
    begins =
        called_is number vs function
        ∙ ap (λ ks. assigned ks vs (replicate (variable_count function) None) >>= λ held. frame held (first_point function)) (sym fit.parameters)
        ∙ ap (λ us. assigned c.parameters vs us >>= λ held. frame held (first_point function)) same_cells
        ∙ ap (λ q. assigned c.parameters vs (take n cells) >>= λ held. frame held q) same_point
        ∙ shown_by (assigned c.parameters vs (take n cells)) (λ held. spot held (temporaries_in n cells) 0) (frame_at (means number) number)
        ∙ ap (λ o. o >>= λ t. gives (frame_at (means number) number t)) (sym (assigns n c.parameters vs cells 0 takes))
        ∙ sym (shown_by (assigned c.parameters vs cells) (λ held. spot_in n held 0) (frame_at (means number) number))
        ∙ shown_by (assigned c.parameters vs cells) at_first (frame_of means code)

    begins_standing : IfGiven (Stands means code) (begun (Some c))
    begins_standing =
        and_given (λ held. length held ≡ c.cells) (Stands means code) (assigned c.parameters vs cells) _
        (assigned_long c.cells c.parameters vs cells (length-replicate c.cells None))
        (λ held e. record {
          function = c;
          is = is;
          within = fit.some;
          cells = e;
          clear = fit.clear (temporaries_in n held) (subst {_, _} (λ k. NoneBelow k (temporaries_in n held)) (sym same_variables) (none_below n held));
        })

  -- where the code has no such function, the program has none
  no_function : slice_get code.functions number ≡ None → slice_get (functions_in p) number ≡ None
  no_function e = by_function (slice_get (functions_in p) number) refl
    where
      by_function : (o : Option Function) → slice_get (functions_in p) number ≡ o → o ≡ None
      by_function None q = refl
      by_function (Some function) q =
          let below : number < length (functions_in p) = slice_get_within (functions_in p) number function q in
          let each : length code.functions ≡ length (functions_in p) = fits.each in
          let x = there code.functions number (omega arith) in
          absurd (none-some x.0 (sym e ∙ x.1))

  enters_by : (o : Option FunctionCode) → slice_get code.functions number ≡ o → call_of p number vs ≡ frame_meant means code (begun o)
  enters_by None e = call_is ∙ ap called_if (no_function e)
  enters_by (Some c) e =
      let x = function_fits means p code fits number c e in
      call_is ∙ ap called_if x.1 ∙ begins x.0 c e x.2

  stands_by : (o : Option FunctionCode) → slice_get code.functions number ≡ o → IfGiven (Stands means code) (begun o)
  stands_by None e = tt
  stands_by (Some c) e =
      let x = function_fits means p code fits number c e in
      begins_standing x.0 c e x.2

  pub enters : call_of p number vs ≡ frame_meant means code (entered code number vs)
  enters = enters_by (slice_get code.functions number) refl

  pub enters_standing : IfGiven (Stands means code) (entered code number vs)
  enters_standing = stands_by (slice_get code.functions number) refl
