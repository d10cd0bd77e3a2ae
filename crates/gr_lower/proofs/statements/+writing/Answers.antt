use Rattle.std.proofs.Common.{◌≡◌, ◌+◌, ◌<◌, ◌++◌, ◌∷◌, length, drop, Some, None, refl, ap, ◌∙◌, sym, arith, vec_len}
use Rattle.gr_tree.specs.Statements.{optional}
use Rattle.gr_program.specs.Programs.{Block, then}
use Rattle.gr_program.specs.Views.{expr_of, opening_of, stmt_of, stmts_of, case_on, cases_of}
use Rattle.gr_program.proofs.Rows.{block_is, if_is, for_is, range_is, select_is, default_is, send_is, receive_is}
use Rattle.gr_rules.specs.Operands as rules
use Rattle.gr_rules.specs.Points.{case_operands}
use Rattle.gr_code.specs.Passing.{parts_in}
use Rattle.gr_code.specs.CodeViews.{instructions_of}
use Rattle.gr_lower.specs.Sizes.{targets_size, size, size_in, size_among}
use Rattle.gr_lower.specs.Asked.{clause_sizes, asked, asked_in, asked_among}
use Rattle.gr_lower.specs.StatementCode.{way, entry, targets_code, stmt_code, stmts_code, cases_code}
use Rattle.gr_lower.specs.Headings.{ways_of, if_heading, turn_of, for_heading}
use Rattle.gr_lower.specs.TurnHeadings.{range_heading, select_heading}
use Rattle.gr_lower.proofs.Emits.{alone, on_ok}
use Rattle.gr_lower.proofs.StatementEmits.{on_ok_both, drop_stmts, drop_no_stmts, drop_cases, drop_no_cases, if_emits, for_emits, range_emits, select_emits, stmts_on, case_on_code, received_on_code}
use Rattle.gr_lower.proofs.statements.+writing.Goals as goal

pub lower_stmt-returns-in-Act : goal.lower_stmt-returns-in-Act
lower_stmt-returns-in-Act t c =
    let o = vec_len c.args.out.now in
    let pre = instructions_of c.args.out.now.items in
    let e = ap stmt_of c.in-Act.is in
    on_ok_both c.lower_act.result c.lower_act.ensures.code c.lower_act.ensures.grown
    (λ h g rest q. (
      q ∙ ap (λ s. asked s rest) e,
      (
        h ∙ ap (λ s. pre ++ stmt_code s c.args.first o c.args.on (ways_of c.args.ways.now)) (sym e),
        g ∙ ap (λ s. o + size s) (sym e),
      ),
    ))

pub lower_stmt-returns-in-Block : goal.lower_stmt-returns-in-Block
lower_stmt-returns-in-Block t c =
    let o = vec_len c.args.out.now in
    let pre = instructions_of c.args.out.now.items in
    let e = ap stmt_of c.in-Block.is ∙ block_is c.in-Block.body ∙ ap (λ l. Block (stmts_of l)) (sym c.deref.ensures.value) in
    on_ok c.lower_stmts.result c.lower_stmts.ensures
    (λ h rest q.
    let r = h rest (q ∙ ap (λ s. asked s rest) e) in (
      r.0,
      (
        r.1.0 ∙ ap (λ s. pre ++ stmt_code s c.args.first o c.args.on (ways_of c.args.ways.now)) (sym e),
        r.1.1 ∙ ap (λ s. o + size s) (sym e),
      ),
    ))

pub lower_stmt-returns-in_ok-lower_stmts-in-If : goal.lower_stmt-returns-in_ok-lower_stmts-in-If
lower_stmt-returns-in_ok-lower_stmts-in-If t c =
    let k = c.in-If in
    let a = stmts_of k.body.items in
    let b = stmts_of k.otherwise.items in
    let init = optional opening_of k.init in
    let test = expr_of k.condition in
    let o = vec_len c.args.out.now in
    let d = c.args.first in
    let on = c.args.on in
    let ways = ways_of c.args.ways.now in
    let pre = instructions_of c.args.out.now.items in
    let out1 = instructions_of c.head_if.new.out.items in
    let out2 = instructions_of c.lower_stmts-in-If.new.out.items in
    let o1 = vec_len c.head_if.new.out in
    let o2 = vec_len c.lower_stmts-in-If.new.out in
    let e = ap stmt_of k.is ∙ if_is k.place k.init k.condition k.body k.otherwise in
    let da = ap stmts_of c.deref-in-If.ensures.value in
    let db = ap stmts_of c.deref-in-If-2.ensures.value in
    let g1 = c.in_ok-head_if-in-If.ensures.grown in
    on_ok c.lower_stmts-in-If-2.result c.lower_stmts-in-If-2.ensures
    (λ h rest q.
    let s1 = c.ask-many.ensures (size_in a) (size_in b ∷ asked_in a (asked_in b rest)) (q ∙ ap (λ s. asked s rest) e) in
    let s2 = c.ask-others.ensures (size_in b) (asked_in a (asked_in b rest)) s1.1 in
    let r1 = c.in_ok-lower_stmts-in-If.ensures (asked_in b rest) (s2.1 ∙ ap (λ l. asked_in l (asked_in b rest)) (sym da)) in
    let r2 = h rest (r1.0 ∙ ap (λ l. asked_in l rest) (sym db)) in
    let h1 = c.in_ok-head_if-in-If.ensures.code
    ∙ ap (λ n. pre ++ if_heading init (rules.operand_of test) n c.ask-others.result d o on ways) s1.0
    ∙ ap (λ n. pre ++ if_heading init (rules.operand_of test) (size_in a) n d o on ways) s2.0 in
    let h2 = r1.1.0 ∙ ap (λ l. out1 ++ stmts_code l d o1 on ways) da in
    let h3 = r2.1.0 ∙ ap (λ l. out2 ++ stmts_code l d o2 on ways) db in (
      r2.0,
      (
        if_emits k.place init test a b d o on ways o1 o2 pre out1 out2 _ h1 h2 h3
            (omega (arith, g1)) (omega (arith, g1, r1.1.1, ap size_in da))
            ∙ ap (λ s. pre ++ stmt_code s d o on ways) (sym e),
        omega (arith, r2.1.1, r1.1.1, g1, ap size_in da, ap size_in db, ap size e),
      ),
    ))

pub lower_stmt-returns-in_ok-lower_stmts-in-For : goal.lower_stmt-returns-in_ok-lower_stmts-in-For
lower_stmt-returns-in_ok-lower_stmts-in-For t c =
    let k = c.in-For in
    let a = stmts_of k.body.items in
    let init = optional opening_of k.init in
    let test = optional expr_of k.condition in
    let post = optional opening_of k.post in
    let o = vec_len c.args.out.now in
    let d = c.args.first in
    let on = c.args.on in
    let ways = ways_of c.args.ways.now in
    let pre = instructions_of c.args.out.now.items in
    let out1 = instructions_of c.head_for.new.out.items in
    let o1 = vec_len c.head_for.new.out in
    let o2 = vec_len c.lower_stmts-in-For.new.out in
    let turn = c.in_ok-turn-in-For.turn in
    let e = ap stmt_of k.is ∙ for_is k.place k.init k.condition k.post k.body in
    let da = ap stmts_of c.deref-in-For.ensures.value in
    let n2 = c.in_ok-after-in-For.ensures in
    let g1 = c.in_ok-turn-in-For.ensures.grown in
    on_ok_both c.lower_opening.result c.lower_opening.ensures.code c.lower_opening.ensures.grown
    (λ h g rest q.
    let s1 = c.ask-many-in-For.ensures (size_in a) (asked_in a rest) (q ∙ ap (λ s. asked s rest) e) in
    let r1 = c.in_ok-lower_stmts-in-For.ensures rest (s1.1 ∙ ap (λ l. asked_in l rest) (sym da)) in
    let h1 = c.in_ok-turn-in-For.ensures.code ∙ ap (λ n. pre ++ for_heading init test n c.in_ok-after-in-For.after d o on ways) s1.0
    ∙ ap (λ n. pre ++ for_heading init test (size_in a) n d o on ways) n2 in
    let ht = c.in_ok-turn-in-For.ensures.turn ∙ ap (λ n. turn_of init test n c.in_ok-after-in-For.after o) s1.0
    ∙ ap (λ n. turn_of init test (size_in a) n o) n2 in
    let h2 = r1.1.0 ∙ ap (λ l. out1 ++ stmts_code l d o1 turn (way on (Some turn) ∷ ways)) da in (
      r1.0,
      (
        for_emits k.place init test post a d o on ways o1 o2 turn c.in_ok-turn-in-For.test pre out1 _ _ h1 h2 h
            (omega (arith, g1)) (omega (arith, g1, r1.1.1, ap size_in da)) ht
            c.in_ok-turn-in-For.ensures.test
            ∙ ap (λ s. pre ++ stmt_code s d o on ways) (sym e),
        omega (arith, g, r1.1.1, g1, ap size_in da, ap size e),
      ),
    ))

pub lower_stmt-returns-in_ok-next-in-Range : goal.lower_stmt-returns-in_ok-next-in-Range
lower_stmt-returns-in_ok-next-in-Range t c =
    let k = c.in-Range in
    let a = stmts_of k.body.items in
    let channel = expr_of k.channel in
    let o = vec_len c.args.out.now in
    let d = c.args.first in
    let on = c.args.on in
    let ways = ways_of c.args.ways.now in
    let pre = instructions_of c.args.out.now.items in
    let out1 = instructions_of c.head_range.new.out.items in
    let o1 = vec_len c.head_range.new.out in
    let next = c.in_ok-next-in-Range.next in
    let turn = c.in_ok-turn-in-Range.turn in
    let e = ap stmt_of k.is ∙ range_is k.place k.target k.channel k.body in
    let da = ap stmts_of c.deref-in-Range.ensures.value in
    let g1 = c.in_ok-turn-in-Range.ensures.grown in
    on_ok c.lower_stmts-in-Range.result c.lower_stmts-in-Range.ensures
    (λ h rest q.
    let s1 = c.ask-many-in-Range.ensures (size_in a) (asked_in a rest) (q ∙ ap (λ s. asked s rest) e) in
    let r1 = h rest (s1.1 ∙ ap (λ l. asked_in l rest) (sym da)) in
    let h1 = c.in_ok-turn-in-Range.ensures.code ∙ ap (λ n. pre ++ range_heading k.target (rules.operand_of channel) n d o on) s1.0 in
    let h2 = r1.1.0 ∙ ap (λ l. out1 ++ stmts_code l next o1 turn (way on (Some turn) ∷ ways)) da in (
      r1.0,
      (
        range_emits k.place k.target channel a d o on ways o1 next turn pre out1 _ h1 h2 (omega (arith, g1)) c.in_ok-next-in-Range.ensures
            c.in_ok-turn-in-Range.ensures.value
            ∙ ap (λ s. pre ++ stmt_code s d o on ways) (sym e),
        omega (arith, r1.1.1, g1, ap size_in da, ap size e),
      ),
    ))

pub lower_stmt-returns-in_ok-head_select-in-Select : goal.lower_stmt-returns-in_ok-head_select-in-Select
lower_stmt-returns-in_ok-head_select-in-Select t c =
    let k = c.in-Select in
    let cs = cases_of k.cases.items in
    let o = vec_len c.args.out.now in
    let d = c.args.first in
    let on = c.args.on in
    let ways = ways_of c.args.ways.now in
    let pre = instructions_of c.args.out.now.items in
    let out1 = instructions_of c.head_select.new.out.items in
    let o1 = vec_len c.head_select.new.out in
    let d1 = ap cases_of c.deref-in-Select.ensures.value in
    let d2 = ap cases_of c.deref-in-Select-2.ensures.value in
    let g1 = c.in_ok-head_select-in-Select.ensures.grown ∙ ap (λ l. o + (parts_in (case_operands l) + 1)) d1 in
    let e = ap stmt_of k.is ∙ select_is k.place k.cases in
    on_ok c.lower_cases.result c.lower_cases.ensures
    (λ h rest q.
    let s1 = c.in_ok-head_select-in-Select.ensures.code (asked_among cs rest)
    (q ∙ ap (λ s. asked s rest) e ∙ ap (λ l. clause_sizes l ++ asked_among cs rest) (sym d1)) in
    let r1 = h rest (s1.0 ∙ ap (λ l. asked_among l rest) (sym d2)) in
    let h1 = s1.1 ∙ ap (λ l. pre ++ select_heading l d o on) d1 in
    let h2 = r1.1.0 ∙ ap (λ l. out1 ++ cases_code l d o1 on (way on None ∷ ways)) d2 in (
      r1.0,
      (
        select_emits k.place cs d o on ways o1 pre out1 _ h1 h2 g1 ∙ ap (λ s. pre ++ stmt_code s d o on ways) (sym e),
        omega (arith, r1.1.1, g1, ap size_among d2, ap size e),
      ),
    ))

pub lower_stmts-loop-stmt-init : goal.lower_stmts-loop-stmt-init
lower_stmts-loop-stmt-init t c rest q = (q, (refl, refl))

pub lower_stmts-loop-stmt-preserved : goal.lower_stmts-loop-stmt-preserved
lower_stmts-loop-stmt-preserved t c rest q =
    let i = c.loop-stmt.stmt-index in
    let ss = c.args.stmts.now in
    let x = c.stmt-item.result in
    let s = stmt_of x in
    let more = stmts_of (drop (i + 1) ss) in
    let lt : i < length ss = omega arith in
    let m : stmts_of (drop i ss) ≡ then s more = drop_stmts ss i x lt ∙ ap (λ y. then (stmt_of y) more) (sym c.stmt-item.is) in
    let p : size_in (stmts_of (drop i ss)) ≡ size s + size_in more = ap size_in m in
    let o = vec_len c.loop-stmt.out in
    let before = c.loop-stmt.invariant rest q in
    let s1 = c.ask-here.ensures (size s) (size_in more ∷ asked s (asked_in more rest)) (before.0 ∙ ap (λ l. asked_in l rest) m) in
    let s2 = c.ask-left.ensures (size_in more) (asked s (asked_in more rest)) s1.1 in
    let r = c.in_ok-lower_stmt.ensures (asked_in more rest) s2.1 in
    let n : c.in_ok-after.after ≡ o + size s = omega (arith, s1.0, c.in_ok-after.ensures, c.len.ensures) in
    let to : c.entry-next.result ≡ entry (size_in more) (o + size s) c.args.on =
    c.entry-next.ensures ∙ ap (λ k. entry k c.in_ok-after.after c.args.on) s2.0 ∙ ap (λ k. entry (size_in more) k c.args.on) n in (
      r.0,
      (
        stmts_on _ more s c.args.first o _ c.args.on c.entry-next.result (ways_of c.args.ways.now) _ _ _ m r.1.1 to r.1.0 before.1.0,
        omega (arith, p, r.1.1, before.1.1),
      ),
    )

pub lower_stmts-returns : goal.lower_stmts-returns
lower_stmts-returns t c rest q =
    let z = drop_no_stmts c.args.stmts.now c.loop-stmt.stmt-index (omega arith) in
    let p : size_in (stmts_of (drop c.loop-stmt.stmt-index c.args.stmts.now)) ≡ 0 = ap size_in z in
    let out = instructions_of c.loop-stmt.out.items in
    let o = vec_len c.loop-stmt.out in
    let before = c.loop-stmt.invariant rest q in (
      before.0 ∙ ap (λ l. asked_in l rest) z,
      (
        sym (alone out) ∙ ap (λ l. out ++ stmts_code l c.args.first o c.args.on (ways_of c.args.ways.now)) (sym z) ∙ before.1.0,
        omega (arith, p, before.1.1),
      ),
    )

pub lower_case-returns-in-Default : goal.lower_case-returns-in-Default
lower_case-returns-in-Default t c =
    let k = c.in-Default in
    let a = stmts_of k.body.items in
    let o = vec_len c.args.out.now in
    let d = c.args.first in
    let on = c.args.on in
    let ways = ways_of c.args.ways.now in
    let pre = instructions_of c.args.out.now.items in
    let da = ap stmts_of c.deref.ensures.value in
    on_ok c.lower_stmts.result c.lower_stmts.ensures
    (λ h others rest q.
    let e = ap (λ y. case_on y others) k.is ∙ default_is k.body others in
    let r = h (asked_among others rest) (q ∙ ap (λ x. asked_among x rest) e ∙ ap (λ l. asked_in l (asked_among others rest)) (sym da)) in (
      r.0,
      (
        case_on_code a others d o (vec_len c.lower_stmts.new.out) on ways pre (instructions_of c.lower_stmts.new.out.items)
            (r.1.0 ∙ ap (λ l. pre ++ stmts_code l d o on ways) da) (r.1.1 ∙ ap (λ l. o + size_in l) da)
            ∙ ap (λ x. pre ++ cases_code x d o on ways) (sym e),
        omega (arith, r.1.1, ap size_in da, ap size_among e),
      ),
    ))

pub lower_case-returns-in-Send : goal.lower_case-returns-in-Send
lower_case-returns-in-Send t c =
    let k = c.in-Send in
    let a = stmts_of k.body.items in
    let o = vec_len c.args.out.now in
    let d = c.args.first in
    let on = c.args.on in
    let ways = ways_of c.args.ways.now in
    let pre = instructions_of c.args.out.now.items in
    let da = ap stmts_of c.deref-in-Send.ensures.value in
    on_ok c.lower_stmts-in-Send.result c.lower_stmts-in-Send.ensures
    (λ h others rest q.
    let e = ap (λ y. case_on y others) k.is ∙ send_is k.channel k.value k.body others in
    let r = h (asked_among others rest) (q ∙ ap (λ x. asked_among x rest) e ∙ ap (λ l. asked_in l (asked_among others rest)) (sym da)) in (
      r.0,
      (
        case_on_code a others d o (vec_len c.lower_stmts-in-Send.new.out) on ways pre (instructions_of c.lower_stmts-in-Send.new.out.items)
            (r.1.0 ∙ ap (λ l. pre ++ stmts_code l d o on ways) da) (r.1.1 ∙ ap (λ l. o + size_in l) da)
            ∙ ap (λ x. pre ++ cases_code x d o on ways) (sym e),
        omega (arith, r.1.1, ap size_in da, ap size_among e),
      ),
    ))

pub lower_case-returns-in_ok-take_received-in-Receive : goal.lower_case-returns-in_ok-take_received-in-Receive
lower_case-returns-in_ok-take_received-in-Receive t c =
    let k = c.in-Receive in
    let a = stmts_of k.body.items in
    let ts = k.targets.items in
    let o = vec_len c.args.out.now in
    let d = c.args.first in
    let on = c.args.on in
    let ways = ways_of c.args.ways.now in
    let pre = instructions_of c.args.out.now.items in
    let out1 = instructions_of c.take_received.new.out.items in
    let out2 = instructions_of c.lower_stmts-in-Receive.new.out.items in
    let o1 = vec_len c.take_received.new.out in
    let o2 = vec_len c.lower_stmts-in-Receive.new.out in
    let to = c.entry-to.result in
    let d1 = c.deref-in-Receive.ensures.value in
    let d2 = c.deref-in-Receive-2.ensures.value in
    let da = ap stmts_of c.deref-in-Receive-3.ensures.value in
    let t1 : o1 ≡ o + targets_size ts = c.in_ok-take_received-in-Receive.ensures.grown ∙ ap (λ l. o + targets_size l) d2 in
    let h1 = c.in_ok-take_received-in-Receive.ensures.code ∙ ap (λ l. pre ++ targets_code l d to) d2 in
    let n2 : c.in_ok-next-in-Receive.next
    ≡ o + targets_size ts = omega (arith, c.in_ok-next-in-Receive.ensures, c.len.ensures, c.size_of_targets.ensures, ap targets_size d1) in
    on_ok c.lower_stmts-in-Receive.result c.lower_stmts-in-Receive.ensures
    (λ h others rest q.
    let e = ap (λ y. case_on y others) k.is ∙ receive_is k.targets k.channel k.zero k.body others in
    let s1 = c.ask-many.ensures (size_in a) (asked_in a (asked_among others rest)) (q ∙ ap (λ x. asked_among x rest) e) in
    let r = h (asked_among others rest) (s1.1 ∙ ap (λ l. asked_in l (asked_among others rest)) (sym da)) in
    let et : to ≡ entry (size_in a) (o + targets_size ts) on = c.entry-to.ensures ∙ ap (λ n. entry n c.in_ok-next-in-Receive.next on) s1.0
    ∙ ap (λ n. entry (size_in a) n on) n2 in (
      r.0,
      (
        received_on_code ts a others d o o1 o2 on to ways pre out1 out2 h1 (r.1.0 ∙ ap (λ l. out1 ++ stmts_code l d o1 on ways) da) et t1
            (omega (arith, r.1.1, ap size_in da, t1)) ∙ ap (λ x. pre ++ cases_code x d o on ways) (sym e),
        omega (arith, r.1.1, ap size_in da, t1, ap size_among e),
      ),
    ))

pub lower_cases-loop-case-init : goal.lower_cases-loop-case-init
lower_cases-loop-case-init t c rest q = (q, (refl, refl))

pub lower_cases-loop-case-preserved : goal.lower_cases-loop-case-preserved
lower_cases-loop-case-preserved t c rest q =
    let i = c.loop-case.case-index in
    let cs = c.args.cases.now in
    let x = c.case-item.result in
    let more = cases_of (drop (i + 1) cs) in
    let lt : i < length cs = omega arith in
    let m : cases_of (drop i cs) ≡ case_on x more = drop_cases cs i x lt ∙ ap (λ y. case_on y more) (sym c.case-item.is) in
    let o = vec_len c.loop-case.out in
    let before = c.loop-case.invariant rest q in
    let r = c.in_ok-lower_case.ensures more rest (before.0 ∙ ap (λ l. asked_among l rest) m) in (
      r.0,
      (
        r.1.0 ∙ ap (λ y. instructions_of c.loop-case.out.items ++ cases_code y c.args.first o c.args.on (ways_of c.args.ways.now)) (sym m) ∙ before.1.0,
        r.1.1 ∙ ap (λ y. o + size_among y) (sym m) ∙ before.1.1,
      ),
    )

pub lower_cases-returns : goal.lower_cases-returns
lower_cases-returns t c rest q =
    let z = drop_no_cases c.args.cases.now c.loop-case.case-index (omega arith) in
    let p : size_among (cases_of (drop c.loop-case.case-index c.args.cases.now)) ≡ 0 = ap size_among z in
    let out = instructions_of c.loop-case.out.items in
    let o = vec_len c.loop-case.out in
    let before = c.loop-case.invariant rest q in (
      before.0 ∙ ap (λ l. asked_among l rest) z,
      (
        sym (alone out) ∙ ap (λ l. out ++ cases_code l c.args.first o c.args.on (ways_of c.args.ways.now)) (sym z) ∙ before.1.0,
        omega (arith, p, before.1.1),
      ),
    )
