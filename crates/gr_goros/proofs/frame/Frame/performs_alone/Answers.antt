use Rattle.std.proofs.Common.{◌≡◌, ◌∙◌, not, ap, sym, subst}
use Rattle.gr_code.specs.CodeViews.{action_of, operands_of, pieces_of}
use Rattle.gr_code.specs.declared.code.Action.{Action}
use Rattle.gr_eval.specs.Stops.{is_fault}
use Rattle.gr_goros.specs.Alone.{has_caller_at, is_deepest_at, stays}
use Rattle.gr_goros.specs.Tasks.{performed}
use Rattle.gr_goros.proofs.AloneLemmas.{print_stays}
use Rattle.gr_rules.specs.Evaluation.{evaluate_all}
use Rattle.gr_rules.specs.Outcomes.{wrong}
use Rattle.gr_goros.proofs.frame.Frame.performs_alone.Goals as goal

pub returns-in-Print : goal.returns-in-Print
returns-in-Print c =
    let f = c.args.self.now in
    let es = operands_of c.args.operands.now in
    ap not c.any_faults-in-Print.ensures ∙ ap (λ cells. not (is_fault (evaluate_all cells es))) c.cells-in-Print.ensures
    ∙ subst {_, _} (λ (a : Action). ¬ (performed f (action_of a) es ≡ wrong)
    → not (is_fault (evaluate_all f.cells es)) ≡ stays (has_caller_at c.args.depth) (is_deepest_at c.args.depth) (performed f (action_of a) es))
    (sym c.in-Print.is) (print_stays f es (has_caller_at c.args.depth) (is_deepest_at c.args.depth) (pieces_of c.in-Print.pieces.items) c.in-Print.on) c.requires
