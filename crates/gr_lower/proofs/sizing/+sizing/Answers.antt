use Rattle.std.proofs.Common.{◌≡◌, ◌+◌, ◌++◌, ◌∷◌, ap, ◌∙◌, sym, arith}
use Rattle.gr_program.specs.Views.{stmt_of, stmts_of, case_on, cases_of}
use Rattle.gr_program.proofs.Rows.{block_is, if_is, for_is, range_is, select_is, default_is, send_is, receive_is}
use Rattle.gr_rules.specs.Points.{case_operands}
use Rattle.gr_code.specs.Passing.{parts_in}
use Rattle.gr_lower.specs.Sizes.{targets_size, size, size_in, size_among}
use Rattle.gr_lower.specs.Asked.{clause_sizes, asked, asked_in, asked_among}
use Rattle.gr_lower.proofs.Emits.{on_ok, if_ok}
use Rattle.gr_lower.proofs.StatementEmits.{always_ok}
use Rattle.gr_lower.proofs.sizing.+sizing.Goals as goal

pub size_of-returns-in-Block-clause-noted : goal.size_of-returns-in-Block-clause-noted
size_of-returns-in-Block-clause-noted t c =
    let e = ap stmt_of c.in-Block.is ∙ block_is c.in-Block.body in
    let d = ap stmts_of c.deref.ensures.value in
    on_ok c.size_of_all.result c.size_of_all.ensures.noted
    (λ h. h ∙ ap (λ l. asked_in l c.args.sizes.now) d ∙ ap (λ s. asked s c.args.sizes.now) (sym e))

pub size_of-returns-in-Block-clause-value : goal.size_of-returns-in-Block-clause-value
size_of-returns-in-Block-clause-value t c =
    let e = ap (λ s. size (stmt_of s)) c.in-Block.is ∙ ap size (block_is c.in-Block.body) ∙ ap (λ l. size_in (stmts_of l)) (sym c.deref.ensures.value) in
    if_ok c.size_of_all.result c.size_of_all.ensures.value (λ n h. h ∙ sym e)

pub size_of-returns-in_ok-note-in-If-2-clause-noted : goal.size_of-returns-in_ok-note-in-If-2-clause-noted
size_of-returns-in_ok-note-in-If-2-clause-noted t c =
    let k = c.in-If in
    let a = stmts_of k.body.items in
    let b = stmts_of k.otherwise.items in
    let old = c.args.sizes.now in
    let e = ap stmt_of k.is ∙ if_is k.place k.init k.condition k.body k.otherwise in
    let db = ap stmts_of c.deref-in-If.ensures.value in
    let da = ap stmts_of c.deref-in-If-2.ensures.value in
    let n1 = c.in_ok-others-in-If.ensures.noted ∙ ap (λ l. asked_in l old) db in
    let n2 = c.in_ok-many-in-If.ensures.noted ∙ ap (λ l. asked_in l c.size_of_all-in-If.new.sizes) da ∙ ap (asked_in a) n1 in
    let n3 = c.in_ok-note-in-If.ensures ∙ ap (λ m. m ∷ c.size_of_all-in-If-2.new.sizes) (c.in_ok-others-in-If.ensures.value ∙ ap size_in db)
    ∙ ap (λ l. size_in b ∷ l) n2 in
    let n4 = c.in_ok-note-in-If-2.ensures ∙ ap (λ m. m ∷ c.note.new.self) (c.in_ok-many-in-If.ensures.value ∙ ap size_in da)
    ∙ ap (λ l. size_in a ∷ l) n3 in
    always_ok c.size_of_if.result (n4 ∙ ap (λ s. asked s old) (sym e))

pub size_of-returns-in_ok-note-in-If-2-clause-value : goal.size_of-returns-in_ok-note-in-If-2-clause-value
size_of-returns-in_ok-note-in-If-2-clause-value t c =
    let k = c.in-If in
    let e = ap (λ s. size (stmt_of s)) k.is ∙ ap size (if_is k.place k.init k.condition k.body k.otherwise) in
    let eb = ap (λ l. size_in (stmts_of l)) c.deref-in-If.ensures.value in
    let ea = ap (λ l. size_in (stmts_of l)) c.deref-in-If-2.ensures.value in
    if_ok c.size_of_if.result c.size_of_if.ensures
    (λ n h. omega (
      arith,
      h,
      e,
      ea,
      eb,
      c.in_ok-many-in-If.ensures.value,
      c.in_ok-others-in-If.ensures.value,
    ))

pub size_of-returns-in_ok-note-in-For-clause-noted : goal.size_of-returns-in_ok-note-in-For-clause-noted
size_of-returns-in_ok-note-in-For-clause-noted t c =
    let k = c.in-For in
    let old = c.args.sizes.now in
    let e = ap stmt_of k.is ∙ for_is k.place k.init k.condition k.post k.body in
    let da = ap stmts_of c.deref-in-For.ensures.value in
    let n1 = c.in_ok-many-in-For.ensures.noted ∙ ap (λ l. asked_in l old) da in
    let n2 = c.in_ok-note-in-For.ensures ∙ ap (λ m. m ∷ c.size_of_all-in-For.new.sizes) (c.in_ok-many-in-For.ensures.value ∙ ap size_in da)
    ∙ ap (λ l. size_in (stmts_of k.body.items) ∷ l) n1 in
    always_ok c.size_of_for.result (n2 ∙ ap (λ s. asked s old) (sym e))

pub size_of-returns-in_ok-note-in-For-clause-value : goal.size_of-returns-in_ok-note-in-For-clause-value
size_of-returns-in_ok-note-in-For-clause-value t c =
    let k = c.in-For in
    let e = ap (λ s. size (stmt_of s)) k.is ∙ ap size (for_is k.place k.init k.condition k.post k.body) in
    let e1 = ap (λ l. size_in (stmts_of l)) c.deref-in-For.ensures.value in
    if_ok c.size_of_for.result c.size_of_for.ensures
    (λ n h. omega (arith, h, e, e1, c.in_ok-many-in-For.ensures.value))

pub size_of-returns-in_ok-note-in-Range-clause-noted : goal.size_of-returns-in_ok-note-in-Range-clause-noted
size_of-returns-in_ok-note-in-Range-clause-noted t c =
    let k = c.in-Range in
    let old = c.args.sizes.now in
    let e = ap stmt_of k.is ∙ range_is k.place k.target k.channel k.body in
    let da = ap stmts_of c.deref-in-Range.ensures.value in
    let n1 = c.in_ok-many-in-Range.ensures.noted ∙ ap (λ l. asked_in l old) da in
    let n2 = c.in_ok-note-in-Range.ensures ∙ ap (λ m. m ∷ c.size_of_all-in-Range.new.sizes) (c.in_ok-many-in-Range.ensures.value ∙ ap size_in da)
    ∙ ap (λ l. size_in (stmts_of k.body.items) ∷ l) n1 in
    always_ok c.size_of_range.result (n2 ∙ ap (λ s. asked s old) (sym e))

pub size_of-returns-in_ok-note-in-Range-clause-value : goal.size_of-returns-in_ok-note-in-Range-clause-value
size_of-returns-in_ok-note-in-Range-clause-value t c =
    let k = c.in-Range in
    let e = ap (λ s. size (stmt_of s)) k.is ∙ ap size (range_is k.place k.target k.channel k.body) in
    let e1 = ap (λ l. size_in (stmts_of l)) c.deref-in-Range.ensures.value in
    if_ok c.size_of_range.result c.size_of_range.ensures
    (λ n h. omega (arith, h, e, e1, c.in_ok-many-in-Range.ensures.value))

pub size_of-returns-in_ok-many-in-Select-clause-noted : goal.size_of-returns-in_ok-many-in-Select-clause-noted
size_of-returns-in_ok-many-in-Select-clause-noted t c =
    let k = c.in-Select in
    let old = c.args.sizes.now in
    let e = ap stmt_of k.is ∙ select_is k.place k.cases in
    let d = ap cases_of c.deref-in-Select.ensures.value in
    always_ok c.size_of_select.result
    (c.in_ok-many-in-Select.ensures.noted ∙ ap (λ l. clause_sizes l ++ asked_among l old) d ∙ ap (λ s. asked s old) (sym e))

pub size_of-returns-in_ok-many-in-Select-clause-value : goal.size_of-returns-in_ok-many-in-Select-clause-value
size_of-returns-in_ok-many-in-Select-clause-value t c =
    let k = c.in-Select in
    let e = ap (λ s. size (stmt_of s)) k.is ∙ ap size (select_is k.place k.cases) in
    let e1 = ap (λ l. size_among (cases_of l)) c.deref-in-Select.ensures.value in
    let e2 = ap (λ l. parts_in (case_operands (cases_of l))) c.deref-in-Select-2.ensures.value in
    if_ok c.size_of_select.result c.size_of_select.ensures
    (λ n h. omega (arith, h, e, e1, e2, c.in_ok-many-in-Select.ensures.value))

pub size_of_case-returns-in-Default-clause-noted : goal.size_of_case-returns-in-Default-clause-noted
size_of_case-returns-in-Default-clause-noted t c =
    let d = ap stmts_of c.deref.ensures.value in
    on_ok c.size_of_all.result c.size_of_all.ensures.noted
    (λ h others rest q.
    h ∙ ap (λ l. asked_in l c.args.sizes.now) d ∙ ap (asked_in (stmts_of c.in-Default.body.items)) q
    ∙ ap (λ x. asked_among x rest) (sym (ap (λ k. case_on k others) c.in-Default.is ∙ default_is c.in-Default.body others)))

pub size_of_case-returns-in-Default-clause-value : goal.size_of_case-returns-in-Default-clause-value
size_of_case-returns-in-Default-clause-value t c =
    let d = ap (λ l. size_in (stmts_of l)) c.deref.ensures.value in
    if_ok c.size_of_all.result c.size_of_all.ensures.value
    (λ n h others.
    let e = ap (λ k. case_on k others) c.in-Default.is ∙ default_is c.in-Default.body others in (
      ap clause_sizes e ∙ ap (λ m. m ∷ clause_sizes others) (sym d ∙ sym h),
      ap size_among e ∙ ap (λ m. m + size_among others) (sym d ∙ sym h),
    ))

pub size_of_case-returns-in-Send-clause-noted : goal.size_of_case-returns-in-Send-clause-noted
size_of_case-returns-in-Send-clause-noted t c =
    let k = c.in-Send in
    let d = ap stmts_of c.deref-in-Send.ensures.value in
    on_ok c.size_of_all-in-Send.result c.size_of_all-in-Send.ensures.noted
    (λ h others rest q.
    h ∙ ap (λ l. asked_in l c.args.sizes.now) d ∙ ap (asked_in (stmts_of k.body.items)) q
    ∙ ap (λ x. asked_among x rest) (sym (ap (λ y. case_on y others) k.is ∙ send_is k.channel k.value k.body others)))

pub size_of_case-returns-in-Send-clause-value : goal.size_of_case-returns-in-Send-clause-value
size_of_case-returns-in-Send-clause-value t c =
    let k = c.in-Send in
    let d = ap (λ l. size_in (stmts_of l)) c.deref-in-Send.ensures.value in
    if_ok c.size_of_all-in-Send.result c.size_of_all-in-Send.ensures.value
    (λ n h others.
    let e = ap (λ y. case_on y others) k.is ∙ send_is k.channel k.value k.body others in (
      ap clause_sizes e ∙ ap (λ m. m ∷ clause_sizes others) (sym d ∙ sym h),
      ap size_among e ∙ ap (λ m. m + size_among others) (sym d ∙ sym h),
    ))

pub size_of_case-returns-in_ok-note-in-Receive-clause-noted : goal.size_of_case-returns-in_ok-note-in-Receive-clause-noted
size_of_case-returns-in_ok-note-in-Receive-clause-noted t c =
    let k = c.in-Receive in
    let a = stmts_of k.body.items in
    let d = ap stmts_of c.deref-in-Receive.ensures.value in
    always_ok c.sum.result
    (λ others rest q.
    c.in_ok-note-in-Receive.ensures ∙ ap (λ m. m ∷ c.size_of_all-in-Receive.new.sizes) (c.in_ok-many-in-Receive.ensures.value ∙ ap size_in d)
    ∙ ap (λ l. size_in a ∷ l) (c.in_ok-many-in-Receive.ensures.noted ∙ ap (λ l. asked_in l c.args.sizes.now) d ∙ ap (asked_in a) q)
    ∙ ap (λ x. asked_among x rest) (sym (ap (λ y. case_on y others) k.is ∙ receive_is k.targets k.channel k.zero k.body others)))

pub size_of_case-returns-in_ok-note-in-Receive-clause-value : goal.size_of_case-returns-in_ok-note-in-Receive-clause-value
size_of_case-returns-in_ok-note-in-Receive-clause-value t c =
    let k = c.in-Receive in
    let d1 = ap (λ l. size_in (stmts_of l)) c.deref-in-Receive.ensures.value in
    let d2 = ap targets_size c.deref-in-Receive-2.ensures.value in
    if_ok c.sum.result c.sum.ensures
    (λ n h others.
    let e = ap (λ y. case_on y others) k.is ∙ receive_is k.targets k.channel k.zero k.body others in
    let m : targets_size k.targets.items + size_in (stmts_of k.body.items) ≡ n =
    omega (arith, h, d1, d2, c.size_of_targets.ensures, c.in_ok-many-in-Receive.ensures.value) in
    (ap clause_sizes e ∙ ap (λ m. m ∷ clause_sizes others) m, ap size_among e ∙ ap (λ m. m + size_among others) m))
