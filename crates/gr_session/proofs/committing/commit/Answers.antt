use Rattle.std.proofs.Common.{true≢false, sym, ◌∙◌}
use Rattle.gr_session.proofs.Outcomes.{comes_to_stale}
use Rattle.gr_session.proofs.committing.commit.Goals as goal

pub returns-then-not-has_program_of : goal.returns-then-not-has_program_of
returns-then-not-has_program_of c = comes_to_stale c.args.debuggee.now c.args.lease c.changed.result
    (λ is. true≢false (sym (c.has_program_of.ensures.1 is.program) ∙ c.if-not-has_program_of.true))
    c.changed.ensures.kept c.changed.ensures.stood c.changed.ensures.memory c.changed.ensures.reply
