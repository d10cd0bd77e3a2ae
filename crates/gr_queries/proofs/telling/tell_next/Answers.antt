use Rattle.std.proofs.Common.{◌≡◌, ◌+◌, ◌∙◌, cond, Some, subst}
use Rattle.indexmap.specs.IndexMap.{get}
use Rattle.gr_rules.specs.States.{same_go}
use Rattle.gr_step.specs.Stores.{contents_at}
use Rattle.gr_queries.specs.Consoles.{texts_of, untold}
use Rattle.gr_queries.proofs.Copying.{is_there}
use Rattle.gr_queries.proofs.NextLines.{pass_nothing, no_text, none_untold, nothing_told, line_told, one_counted}
use Rattle.gr_queries.proofs.telling.tell_next.Goals as goal

pub returns-in_default-clause-counts : goal.returns-in_default-clause-counts
returns-in_default-clause-counts c =
    pass_nothing (untold c.args.counts.now (texts_of (contents_at c.args.store.now))) c.args.go.now
    (no_text c.args.counts.now (contents_at c.args.store.now) c.args.go.now c.in_default.ensures)

pub returns-in_default-get-clause-lines : goal.returns-in_default-get-clause-lines
returns-in_default-get-clause-lines c =
    nothing_told _ _ (none_untold c.args.counts.now (contents_at c.args.store.now) c.args.go.now c.in-Some.goroutine.now.content c.text.result.now _
    c.in-Some.ensures c.text.ensures c.in_default-get.ensures.lookup.3 c.count_of-count.ensures)

pub returns-in_default-get-clause-counts : goal.returns-in_default-get-clause-counts
returns-in_default-get-clause-counts c =
    pass_nothing (untold c.args.counts.now (texts_of (contents_at c.args.store.now))) c.args.go.now
    (none_untold c.args.counts.now (contents_at c.args.store.now) c.args.go.now c.in-Some.goroutine.now.content c.text.result.now _
    c.in-Some.ensures c.text.ensures c.in_default-get.ensures.lookup.3 c.count_of-count.ensures)

pub returns-clause-lines : goal.returns-clause-lines
returns-clause-lines c =
    let found = c.in-Some-get.ensures.lookup in
    line_told c.args.counts.now (contents_at c.args.store.now) c.args.go.now c.in-Some.goroutine.now.content c.text.result.now _
    c.in-Some-get.line.now c.in_ok-copy.copy _ _ c.in-Some.ensures c.text.ensures
    (is_there c.text.result.now _ c.in-Some-get.line.now found.3.0 found.1) c.count_of-count.ensures
    (c.in_ok-copy.ensures.items ∙ c.deref.ensures.value) c.in_ok-push.ensures.items

pub returns-clause-counts : goal.returns-clause-counts
returns-clause-counts c =
    one_counted c.args.counts.now c.insert.new.self (texts_of (contents_at c.args.store.now)) c.args.go.now _ c.count_of-count.ensures
    (λ q. subst (λ n. get same_go c.insert.new.self q ≡ cond (same_go n q) (Some (c.count_of-count.result + 1)) (get same_go c.args.counts.now q))
    c.in_ok-name.ensures (c.in_ok-insert.ensures.updates.0 q))
