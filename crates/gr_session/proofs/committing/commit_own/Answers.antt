use Rattle.std.proofs.Common.{true≢false, sym, subst, ◌∙◌}
use Rattle.std.specs.Prelude.{◌↔◌, IsTrue}
use Rattle.gr_rollback.specs.StepLeasing.{IsAsLent}
use Rattle.gr_session.proofs.CommitLemmas.{stale_by_grant}
use Rattle.gr_session.proofs.Outcomes.{comes_to_stale}
use Rattle.gr_session.specs.Debuggees.{store_in}
use Rattle.gr_session.proofs.committing.commit_own.Goals as goal

pub returns-then-not-has_as_lent : goal.returns-then-not-has_as_lent
returns-then-not-has_as_lent c = comes_to_stale c.args.debuggee.now c.args.lease c.changed.result
    (λ is. true≢false (sym (c.has_as_lent.ensures.1 is) ∙ c.if-not-has_as_lent.true))
    c.changed.ensures.kept c.changed.ensures.stood c.changed.ensures.memory c.changed.ensures.reply

pub returns : goal.returns
returns c = record {
  kept = c.into_run.ensures ∙ c.commit_lent-memory.ensures.loan;
  commits = c.commit_lent-memory.ensures.commits;
  as_lent = subst (λ b. IsTrue b ↔ IsAsLent c.args.lease (store_in c.args.debuggee.now)) c.if-not-has_as_lent.false c.has_as_lent.ensures;
  stale = stale_by_grant (c.has_as_lent.ensures.0 c.if-not-has_as_lent.false) c.commit_lent-memory.ensures.stale;
  joins = c.commit_lent-memory.ensures.joins;
  contents = c.commit_lent-memory.ensures.contents;
  listing = c.commit_lent-memory.ensures.listing;
}
