use Rattle.std.proofs.Common.{ℕ, ◌+◌, ◌<◌, ◌++◌, ◌∷◌, List, length, drop, map, ap, ◌∙◌, sym, arith}
use Rattle.gr_program.specs.Views.{function_of, functions_of}
use Rattle.gr_code.specs.CodeFrames.{ProgramCode, FunctionCode}
use Rattle.gr_code.specs.CodeViews.{function_codes_of}
use Rattle.gr_lower.specs.Lowered.{lowered_function}
use Rattle.gr_lower.proofs.Emits.{alone}
use Rattle.gr_lower.proofs.FunctionEmits.{drop_functions, drop_no_functions, codes_push}
use Rattle.gr_lower.proofs.lowering.lower.Goals as goal

pub loop-function-preserved : goal.loop-function-preserved
loop-function-preserved c =
    let i = c.loop-function.function-index in
    let fs = c.deref-function-items.result.now in
    let f = c.function-item.result in
    let lt : i < length fs = omega arith in
    let rest = map lowered_function (functions_of (drop (i + 1) fs)) in
    let m = drop_functions fs i f lt ∙ ap (λ y. function_of y ∷ functions_of (drop (i + 1) fs)) (sym c.function-item.is) in
    let found = c.loop-function.functions.items in
    ap (λ l. function_codes_of l ++ rest) c.in_ok-push.ensures.items ∙ codes_push found c.in_ok-code.code rest
    ∙ ap (λ x. function_codes_of found ++ x ∷ rest) c.in_ok-code.ensures
    ∙ ap (λ l. function_codes_of found ++ map lowered_function l) (sym m) ∙ c.loop-function.invariant

abbrev make : List FunctionCode → ℕ → ProgramCode
make functions main = record { functions = functions; main = main }

pub returns : goal.returns
returns c =
    let fs = c.deref-function-items.result.now in
    let z = drop_no_functions fs c.loop-function.function-index (omega arith) in
    let found = function_codes_of c.loop-function.functions.items in
    ap (make found) c.in_ok-main.ensures
    ∙ ap (λ l. make l c.args.program.now.main)
    (sym (alone found) ∙ ap (λ l. found ++ map lowered_function l) (sym z) ∙ c.loop-function.invariant
    ∙ ap (λ l. map lowered_function (functions_of l)) c.deref-function-items.ensures.value)
