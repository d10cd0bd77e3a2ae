use Rattle.std.proofs.Common.{◌≡◌, ◌+◌, ◌<◌, ◌++◌, length, drop, ap, ◌∙◌, sym, arith, append_assoc}
use Rattle.gr_tree.specs.Statements.{optional}
use Rattle.gr_program.specs.Programs.{Block, then}
use Rattle.gr_program.specs.Views.{expr_of, stmt_of, stmts_of, case_on, cases_of}
use Rattle.gr_program.proofs.Rows.{block_is, if_is, for_is, range_is, select_is, default_is, send_is, receive_is}
use Rattle.gr_rules.specs.Operands.{one, operand_of}
use Rattle.gr_rules.specs.Points.{case_operands}
use Rattle.gr_code.specs.Passing.{parts_in}
use Rattle.gr_lower.specs.Sizes.{tested, targets_size}
use Rattle.gr_lower.specs.Lines.{stmt_lines, stmts_lines, cases_lines}
use Rattle.gr_lower.proofs.Emits.{on_ok}
use Rattle.gr_lower.proofs.LineMarks.{two_more, three_more, four_more, marked}
use Rattle.gr_lower.proofs.StatementEmits.{drop_stmts, drop_cases}
use Rattle.gr_lower.proofs.placing.+marking.Goals as goal

pub mark_stmt-returns-in-Block : goal.mark_stmt-returns-in-Block
mark_stmt-returns-in-Block t c =
    let e = ap stmt_of c.in-Block.is ∙ block_is c.in-Block.body ∙ ap (λ l. Block (stmts_of l)) (sym c.deref.ensures.value) in
    on_ok c.mark_stmts.result c.mark_stmts.ensures (λ h. h ∙ ap (λ s. c.args.lines.now.items ++ stmt_lines s) (sym e))

pub mark_stmt-returns-in_ok-mark_stmts-in-If : goal.mark_stmt-returns-in_ok-mark_stmts-in-If
mark_stmt-returns-in_ok-mark_stmts-in-If t c =
    let k = c.in-If in
    let pre = c.args.lines.now.items in
    let a = c.mark_opening.new.lines.items in
    let b = c.mark-in-If.new.lines.items in
    let d = c.mark_stmts-in-If.new.lines.items in
    let n = parts_in (one (operand_of (expr_of k.condition))) + 1 in
    let eb = marked c.in_ok-size_of_use-in-If.field-0 n k.place.line a b c.in_ok-mark-in-If.ensures
    c.in_ok-size_of_use-in-If.ensures in
    let ed = c.in_ok-mark_stmts-in-If.ensures ∙ ap (λ l. b ++ stmts_lines (stmts_of l)) c.deref-in-If.ensures.value in
    let e = ap stmt_of k.is ∙ if_is k.place k.init k.condition k.body k.otherwise in
    on_ok c.mark_stmts-in-If-2.result c.mark_stmts-in-If-2.ensures
    (λ h. four_more _ _ _ _ pre a b d _ c.in_ok-mark_opening-in-If.ensures eb ed (h ∙ ap (λ l. d ++ stmts_lines (stmts_of l)) c.deref-in-If-2.ensures.value)
    ∙ ap (λ s. pre ++ stmt_lines s) (sym e))

pub mark_stmt-returns-in_ok-mark_stmts-in-For : goal.mark_stmt-returns-in_ok-mark_stmts-in-For
mark_stmt-returns-in_ok-mark_stmts-in-For t c =
    let k = c.in-For in
    let pre = c.args.lines.now.items in
    let a = c.mark_opening-in-For.new.lines.items in
    let b = c.mark-in-For.new.lines.items in
    let d = c.mark_stmts-in-For.new.lines.items in
    let n = parts_in (tested (optional expr_of k.condition)) + 1 in
    let eb = marked c.in_ok-size_of_test-in-For.field-0 n k.place.line a b c.in_ok-mark-in-For.ensures
    c.in_ok-size_of_test-in-For.ensures in
    let ed = c.in_ok-mark_stmts-in-For.ensures ∙ ap (λ l. b ++ stmts_lines (stmts_of l)) c.deref-in-For.ensures.value in
    let e = ap stmt_of k.is ∙ for_is k.place k.init k.condition k.post k.body in
    on_ok c.mark_opening-in-For-2.result c.mark_opening-in-For-2.ensures
    (λ h. four_more _ _ _ _ pre a b d _ c.in_ok-mark_opening-in-For.ensures eb ed h ∙ ap (λ s. pre ++ stmt_lines s) (sym e))

pub mark_stmt-returns-in_ok-mark-in-Range-2 : goal.mark_stmt-returns-in_ok-mark-in-Range-2
mark_stmt-returns-in_ok-mark-in-Range-2 t c =
    let k = c.in-Range in
    let pre = c.args.lines.now.items in
    let a = c.mark-in-Range.new.lines.items in
    let b = c.mark-in-Range-2.new.lines.items in
    let n = parts_in (one (operand_of (expr_of k.channel))) + 1 in
    let ea = marked c.in_ok-size_of_use-in-Range.field-0 n k.place.line pre a c.in_ok-mark-in-Range.ensures
    c.in_ok-size_of_use-in-Range.ensures in
    let e = ap stmt_of k.is ∙ range_is k.place k.target k.channel k.body in
    on_ok c.mark_stmts-in-Range.result c.mark_stmts-in-Range.ensures
    (λ h. three_more _ _ _ pre a b _ ea c.in_ok-mark-in-Range-2.ensures (h ∙ ap (λ l. b ++ stmts_lines (stmts_of l)) c.deref-in-Range.ensures.value)
    ∙ ap (λ s. pre ++ stmt_lines s) (sym e))

pub mark_stmt-returns-in_ok-mark-in-Select : goal.mark_stmt-returns-in_ok-mark-in-Select
mark_stmt-returns-in_ok-mark-in-Select t c =
    let k = c.in-Select in
    let pre = c.args.lines.now.items in
    let a = c.mark-in-Select.new.lines.items in
    let n = parts_in (case_operands (cases_of k.cases.items)) + 1 in
    let en = ap (λ l. parts_in (case_operands (cases_of l))) c.deref-in-Select.ensures.value in
    let ea = marked c.in_ok-sum-in-Select.field-0 n k.place.line pre a c.in_ok-mark-in-Select.ensures
    (omega (arith, en, c.in_ok-sum-in-Select.ensures, c.in_ok-count_cases-in-Select.ensures)) in
    let e = ap stmt_of k.is ∙ select_is k.place k.cases in
    on_ok c.mark_cases.result c.mark_cases.ensures
    (λ h. two_more _ _ pre a _ ea (h ∙ ap (λ l. a ++ cases_lines k.place.line (cases_of l)) c.deref-in-Select-2.ensures.value)
    ∙ ap (λ s. pre ++ stmt_lines s) (sym e))

pub mark_case-returns-in-Default : goal.mark_case-returns-in-Default
mark_case-returns-in-Default t c =
    let k = c.in-Default in
    let pre = c.args.lines.now.items in
    on_ok c.mark_stmts.result c.mark_stmts.ensures
    (λ h others. ap (λ l. l ++ cases_lines c.args.line others) (h ∙ ap (λ l. pre ++ stmts_lines (stmts_of l)) c.deref.ensures.value)
    ∙ append_assoc pre (stmts_lines (stmts_of k.body.items)) (cases_lines c.args.line others)
    ∙ ap (λ x. pre ++ cases_lines c.args.line x) (sym (ap (λ y. case_on y others) k.is ∙ default_is k.body others)))

pub mark_case-returns-in-Send : goal.mark_case-returns-in-Send
mark_case-returns-in-Send t c =
    let k = c.in-Send in
    let pre = c.args.lines.now.items in
    on_ok c.mark_stmts-in-Send.result c.mark_stmts-in-Send.ensures
    (λ h others. ap (λ l. l ++ cases_lines c.args.line others) (h ∙ ap (λ l. pre ++ stmts_lines (stmts_of l)) c.deref-in-Send.ensures.value)
    ∙ append_assoc pre (stmts_lines (stmts_of k.body.items)) (cases_lines c.args.line others)
    ∙ ap (λ x. pre ++ cases_lines c.args.line x) (sym (ap (λ y. case_on y others) k.is ∙ send_is k.channel k.value k.body others)))

pub mark_case-returns-in_ok-mark-in-Receive : goal.mark_case-returns-in_ok-mark-in-Receive
mark_case-returns-in_ok-mark-in-Receive t c =
    let k = c.in-Receive in
    let pre = c.args.lines.now.items in
    let a = c.mark.new.lines.items in
    let en = c.size_of_targets.ensures ∙ ap targets_size c.deref-in-Receive.ensures.value in
    let ea = marked c.size_of_targets.result (targets_size k.targets.items) c.args.line pre a c.in_ok-mark-in-Receive.ensures en in
    on_ok c.mark_stmts-in-Receive.result c.mark_stmts-in-Receive.ensures
    (λ h others. ap (λ l. l ++ cases_lines c.args.line others)
    (two_more _ _ pre a _ ea (h ∙ ap (λ l. a ++ stmts_lines (stmts_of l)) c.deref-in-Receive-2.ensures.value))
    ∙ append_assoc pre _ (cases_lines c.args.line others)
    ∙ ap (λ x. pre ++ cases_lines c.args.line x) (sym (ap (λ y. case_on y others) k.is ∙ receive_is k.targets k.channel k.zero k.body others)))

pub mark_stmts-loop-stmt-preserved : goal.mark_stmts-loop-stmt-preserved
mark_stmts-loop-stmt-preserved t c =
    let i = c.loop-stmt.stmt-index in
    let ss = c.args.stmts.now in
    let s = c.stmt-item.result in
    let rest = stmts_of (drop (i + 1) ss) in
    let lt : i < length ss = omega arith in
    let m : stmts_of (drop i ss) ≡ then (stmt_of s) rest = drop_stmts ss i s lt ∙ ap (λ y. then (stmt_of y) rest) (sym c.stmt-item.is) in
    let pre = c.loop-stmt.lines.items in
    ap (λ l. l ++ stmts_lines rest) c.in_ok-mark_stmt.ensures ∙ append_assoc pre (stmt_lines (stmt_of s)) (stmts_lines rest)
    ∙ ap (λ x. pre ++ stmts_lines x) (sym m) ∙ c.loop-stmt.invariant

pub mark_cases-loop-case-preserved : goal.mark_cases-loop-case-preserved
mark_cases-loop-case-preserved t c =
    let i = c.loop-case.case-index in
    let cs = c.args.cases.now in
    let x = c.case-item.result in
    let rest = cases_of (drop (i + 1) cs) in
    let lt : i < length cs = omega arith in
    let m : cases_of (drop i cs) ≡ case_on x rest = drop_cases cs i x lt ∙ ap (λ y. case_on y rest) (sym c.case-item.is) in
    c.in_ok-mark_case.ensures rest ∙ ap (λ y. c.loop-case.lines.items ++ cases_lines c.args.line y) (sym m) ∙ c.loop-case.invariant
