use Rattle.std.proofs.Common.{rules, ap, ◌∙◌}
use Rattle.gr_program.specs.Views.{expr_of}
use Rattle.gr_program.proofs.Rows.{call_is}
use Rattle.gr_lower.proofs.parts.+counting.Goals as goal

pub count-returns-in_ok-count_all-in-Call : goal.count-returns-in_ok-count_all-in-Call
count-returns-in_ok-count_all-in-Call t c =
    let e = ap expr_of c.in-Call.is ∙ call_is c.in-Call.field-0 c.in-Call.arguments in
    rw e (search rules)
