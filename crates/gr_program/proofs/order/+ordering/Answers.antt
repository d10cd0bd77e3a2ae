use Rattle.std.proofs.Common.{rules, ap, ◌∙◌}
use Rattle.gr_program.specs.LastStarts.{case_body}
use Rattle.gr_program.specs.Views.{stmt_of}
use Rattle.gr_program.proofs.Rows.{held, block_is, if_is, for_is, range_is, select_is}
use Rattle.gr_program.proofs.order.+ordering.Goals as goal

pub after_case-returns-in-Default : goal.after_case-returns-in-Default
after_case-returns-in-Default t c =
    let k = c.in-Default in
    rw (ap case_body k.is ∙ held k.body) (search rules)

pub after_case-returns-in-Send : goal.after_case-returns-in-Send
after_case-returns-in-Send t c =
    let k = c.in-Send in
    rw (ap case_body k.is ∙ held k.body) (search rules)

pub after_case-returns-in-Receive : goal.after_case-returns-in-Receive
after_case-returns-in-Receive t c =
    let k = c.in-Receive in
    rw (ap case_body k.is ∙ held k.body) (search rules)

pub after_stmt-returns-in-Block : goal.after_stmt-returns-in-Block
after_stmt-returns-in-Block t c =
    let k = c.in-Block in
    rw (ap stmt_of k.is ∙ block_is k.body) (search rules)

pub after_stmt-returns-in_err-after_body-in-If : goal.after_stmt-returns-in_err-after_body-in-If
after_stmt-returns-in_err-after_body-in-If t c =
    let k = c.in-If in
    rw (ap stmt_of k.is ∙ if_is k.place k.init k.condition k.body k.otherwise) (search rules)

pub after_stmt-returns-in_ok-after_body-in-If : goal.after_stmt-returns-in_ok-after_body-in-If
after_stmt-returns-in_ok-after_body-in-If t c =
    let k = c.in-If in
    rw (ap stmt_of k.is ∙ if_is k.place k.init k.condition k.body k.otherwise) (search rules)

pub after_stmt-returns-in_ok-after_opening-in-For : goal.after_stmt-returns-in_ok-after_opening-in-For
after_stmt-returns-in_ok-after_opening-in-For t c =
    let k = c.in-For in
    rw (ap stmt_of k.is ∙ for_is k.place k.init k.condition k.post k.body) (search rules)

pub after_stmt-returns-in_ok-next_start-in-Range : goal.after_stmt-returns-in_ok-next_start-in-Range
after_stmt-returns-in_ok-next_start-in-Range t c =
    let k = c.in-Range in
    rw (ap stmt_of k.is ∙ range_is k.place k.target k.channel k.body) (search rules)

pub after_stmt-returns-in_ok-next_start-in-Select : goal.after_stmt-returns-in_ok-next_start-in-Select
after_stmt-returns-in_ok-next_start-in-Select t c =
    let k = c.in-Select in
    rw (ap stmt_of k.is ∙ select_is k.place k.cases) (search rules)
