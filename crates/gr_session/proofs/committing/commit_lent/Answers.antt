use Rattle.std.proofs.Common.{true≢false, length, refl, sym, ap, ◌∙◌, arith}
use Rattle.gr_command.specs.Replies.{Committed}
use Rattle.gr_rollback.specs.Logs.{records_of}
use Rattle.gr_rollback.specs.declared.TheConstants.{LOG_LIMIT}
use Rattle.gr_rollback.specs.StepLeasing.{loan_of}
use Rattle.gr_rollback.specs.Stores.{contents_at}
use Rattle.gr_session.specs.Debuggees.{log_in, store_in}
use Rattle.gr_session.specs.Journal.{course_of}
use Rattle.gr_session.proofs.CommitLemmas.{stale_past_grant, full_for_all, some_join, fits_all, is_stale, full_not_stale, joined_not_stale, none_without_memory, all_committed, not_all_committed, too_many, not_too_many, not_none, no_join_past_grant, no_join_without_room}
use Rattle.gr_session.proofs.DebuggeeLemmas.{log_length}
use Rattle.gr_session.proofs.committing.commit_lent.Goals as goal

pub returns-then-steps-debuggee-clause-commits : goal.returns-then-steps-debuggee-clause-commits
returns-then-steps-debuggee-clause-commits c = λ p w s.
    stale_past_grant p w c.args.debuggee.now s (loan_of c.args.lease.now) c.len-steps.result c.len-steps.ensures (omega arith)

pub returns-then-steps-room-clause-commits : goal.returns-then-steps-room-clause-commits
returns-then-steps-room-clause-commits c = λ p w s.
    full_for_all p w c.args.debuggee.now s (loan_of c.args.lease.now) c.requires.lent c.len-steps.result c.len-steps.ensures (omega arith)
    c.room.result (c.room.ensures p w s) (omega arith)

pub keep_all-requires-clause-room : goal.keep_all-requires-clause-room
keep_all-requires-clause-room c =
    let d = c.args.debuggee.now in
    let x = c.requires.debuggee in
    fits_all LOG_LIMIT c.room.result (length x.world.log) (length (records_of (log_in d))) c.len-steps.result (loan_of c.args.lease.now).steps
    (c.room.ensures _ x.world x.stands) (log_length _ x.world d x.stands) (omega arith) c.len-steps.ensures

pub returns-in-Ok-clause-commits : goal.returns-in-Ok-clause-commits
returns-in-Ok-clause-commits c = λ p w s.
    some_join p w c.args.debuggee.now s (loan_of c.args.lease.now) c.requires.lent c.len-steps.result c.len-steps.ensures (omega arith)
    _ refl s.lines (not_none _ _ c.len-steps.ensures c.requires.some) (c.in-Ok.ensures.kept p (course_of p w) s.machine)

pub returns-in-Err-clause-commits : goal.returns-in-Err-clause-commits
returns-in-Err-clause-commits c = λ p w s.
    none_without_memory p w c.args.debuggee.now s (loan_of c.args.lease.now) c.requires.lent c.len-steps.result c.len-steps.ensures (omega arith)
    c.room.result (c.room.ensures p w s) (omega arith) (not_none _ _ c.len-steps.ensures c.requires.some) _
    (record { machine = c.in-Err.ensures.kept p (course_of p w) s.machine; lines = s.lines; grant = s.grant })

pub returns-then-steps-debuggee-clause-stale : goal.returns-then-steps-debuggee-clause-stale
returns-then-steps-debuggee-clause-stale c = is_stale (too_many _ _ _ c.len-steps.ensures (omega arith))

pub returns-then-steps-room-clause-stale : goal.returns-then-steps-room-clause-stale
returns-then-steps-room-clause-stale c = full_not_stale (not_too_many _ _ _ c.len-steps.ensures (omega arith))

pub returns-in-Ok-clause-stale : goal.returns-in-Ok-clause-stale
returns-in-Ok-clause-stale c = joined_not_stale _ (not_too_many _ _ _ c.len-steps.ensures (omega arith))

pub returns-in-Err-clause-stale : goal.returns-in-Err-clause-stale
returns-in-Err-clause-stale c = joined_not_stale 0 (not_too_many _ _ _ c.len-steps.ensures (omega arith))

pub returns-in-Ok-clause-contents : goal.returns-in-Ok-clause-contents
returns-in-Ok-clause-contents c =
    c.in-Ok.ensures.contents ∙ all_committed c.len-steps.result c.args.lease.now (contents_at (store_in c.args.debuggee.now)) c.len-steps.ensures

pub returns-in-Err-clause-contents : goal.returns-in-Err-clause-contents
returns-in-Err-clause-contents c =
    ap contents_at c.in-Err.ensures.store
    ∙ not_all_committed 0 c.args.lease.now (contents_at (store_in c.args.debuggee.now)) (λ e. not_none _ _ refl c.requires.some (sym e))

pub returns-then-steps-debuggee-clause-joins : goal.returns-then-steps-debuggee-clause-joins
returns-then-steps-debuggee-clause-joins c = λ p w s may room. absurd
    (no_join_past_grant p w c.args.debuggee.now s (loan_of c.args.lease.now) c.len-steps.result c.len-steps.ensures (omega arith) may)

pub returns-then-steps-room-clause-joins : goal.returns-then-steps-room-clause-joins
returns-then-steps-room-clause-joins c = λ p w s may room. absurd
    (no_join_without_room p w c.args.debuggee.now s (loan_of c.args.lease.now) c.len-steps.result c.room.result c.len-steps.ensures
    (c.room.ensures p w s) (omega arith) may)

pub returns-in-Ok-clause-joins : goal.returns-in-Ok-clause-joins
returns-in-Ok-clause-joins c = λ p w s may room. ap Committed c.len-steps.ensures

pub returns-in-Err-clause-joins : goal.returns-in-Err-clause-joins
returns-in-Err-clause-joins c = λ p w s may room. absurd (true≢false (sym (c.in-Err.ensures.succeeds room)))
