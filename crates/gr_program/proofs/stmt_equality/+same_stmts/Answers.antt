use Rattle.std.proofs.Common.{rules, ap, sym, ◌∙◌, ◌+◌, drop}
use Rattle.std.specs.Prelude.{◌&&◌}
use Rattle.gr_program.specs.Programs.{no_case}
use Rattle.gr_program.specs.Views.{stmt_of, case_on, cases_of}
use Rattle.gr_program.specs.Sameness.{same_cases}
use Rattle.gr_program.proofs.SameLists.{cases_turn}
use Rattle.gr_program.proofs.Rows.{block_is, if_is, for_is, range_is, select_is, default_is, send_is, receive_is}
use Rattle.gr_program.proofs.stmt_equality.+same_stmts.Goals as goal

pub is_same_stmt-returns-in-Block-Block : goal.is_same_stmt-returns-in-Block-Block
is_same_stmt-returns-in-Block-Block t c =
    let k = c.in-Block-Block in
    rw (ap stmt_of k.is-0 ∙ block_is k.x, ap stmt_of k.is-1 ∙ block_is k.y) (search rules)

pub is_same_stmt-returns-then-are_same_stmts : goal.is_same_stmt-returns-then-are_same_stmts
is_same_stmt-returns-then-are_same_stmts t c =
    let k = c.in-If-If in
    rw (ap stmt_of k.is-0 ∙ if_is k.place-0 k.init-0 k.condition-0 k.x k.v, ap stmt_of k.is-1 ∙ if_is k.place-1 k.init-1 k.condition-1 k.y k.w) (search rules)

pub is_same_stmt-returns-else-are_same_stmts : goal.is_same_stmt-returns-else-are_same_stmts
is_same_stmt-returns-else-are_same_stmts t c =
    let k = c.in-If-If in
    rw (ap stmt_of k.is-0 ∙ if_is k.place-0 k.init-0 k.condition-0 k.x k.v, ap stmt_of k.is-1 ∙ if_is k.place-1 k.init-1 k.condition-1 k.y k.w) (search rules)

pub is_same_stmt-returns-in-For-For : goal.is_same_stmt-returns-in-For-For
is_same_stmt-returns-in-For-For t c =
    let k = c.in-For-For in
    rw (ap stmt_of k.is-0 ∙ for_is k.place-0 k.init-0 k.condition-0 k.post-0 k.x, ap stmt_of k.is-1 ∙ for_is k.place-1 k.init-1 k.condition-1 k.post-1 k.y) (search rules)

pub is_same_stmt-returns-in-Range-Range : goal.is_same_stmt-returns-in-Range-Range
is_same_stmt-returns-in-Range-Range t c =
    let k = c.in-Range-Range in
    rw (ap stmt_of k.is-0 ∙ range_is k.place-0 k.target-0 k.channel-0 k.x, ap stmt_of k.is-1 ∙ range_is k.place-1 k.target-1 k.channel-1 k.y) (search rules)

pub is_same_stmt-returns-in-Select-Select : goal.is_same_stmt-returns-in-Select-Select
is_same_stmt-returns-in-Select-Select t c =
    let k = c.in-Select-Select in
    rw (ap stmt_of k.is-0 ∙ select_is k.place-0 k.x, ap stmt_of k.is-1 ∙ select_is k.place-1 k.y) (search rules)

pub is_same_case-returns-in-Default-Default : goal.is_same_case-returns-in-Default-Default
is_same_case-returns-in-Default-Default t c =
    let k = c.in-Default-Default in
    rw (ap (λ k. case_on k no_case) k.is-0 ∙ default_is k.x no_case, ap (λ k. case_on k no_case) k.is-1 ∙ default_is k.y no_case) (search rules)

pub is_same_case-returns-in-Send-Send : goal.is_same_case-returns-in-Send-Send
is_same_case-returns-in-Send-Send t c =
    let k = c.in-Send-Send in
    rw (ap (λ k. case_on k no_case) k.is-0 ∙ send_is k.channel-0 k.value-0 k.x no_case, ap (λ k. case_on k no_case) k.is-1 ∙ send_is k.channel-1 k.value-1 k.y no_case) (search rules)

pub is_same_case-returns-in-Receive-Receive : goal.is_same_case-returns-in-Receive-Receive
is_same_case-returns-in-Receive-Receive t c =
    let k = c.in-Receive-Receive in
    rw (ap (λ k. case_on k no_case) k.is-0 ∙ receive_is k.targets-0 k.channel-0 k.zero-0 k.x no_case, ap (λ k. case_on k no_case) k.is-1 ∙ receive_is k.targets-1 k.channel-1 k.zero-1 k.y no_case) (search rules)

pub are_same_cases-returns-then-not-is_same_case : goal.are_same_cases-returns-then-not-is_same_case
are_same_cases-returns-then-not-is_same_case t c =
    let ks = c.args.a.now in
    let ls = c.args.b.now in
    let n = c.loop-number.number in
    let turn = cases_turn ks ls n c.index-a-number.result c.index-b-number.result c.is_same_case.result c.loop-number-test.true c.if-a-b.false c.index-a-number.is c.index-b-number.is c.is_same_case.ensures in
    sym (sym c.loop-number.invariant ∙ turn ∙ ap (λ b. b && same_cases (cases_of (drop (n + 1) ks)) (cases_of (drop (n + 1) ls))) c.if-not-is_same_case.true)

pub are_same_cases-loop-number-preserved : goal.are_same_cases-loop-number-preserved
are_same_cases-loop-number-preserved t c =
    let ks = c.args.a.now in
    let ls = c.args.b.now in
    let n = c.loop-number.number in
    let turn = cases_turn ks ls n c.index-a-number.result c.index-b-number.result c.is_same_case.result c.loop-number-test.true c.if-a-b.false c.index-a-number.is c.index-b-number.is c.is_same_case.ensures in
    sym (ap (λ b. b && same_cases (cases_of (drop (n + 1) ks)) (cases_of (drop (n + 1) ls))) c.if-not-is_same_case.false) ∙ sym turn ∙ c.loop-number.invariant
