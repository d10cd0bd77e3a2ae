use Rattle.std.proofs.Common.{◌≡◌, ◌<◌, ◌≤◌, length, refl, ap, ◌∙◌, arith}
use Rattle.std.specs.Prelude.{option_copied}
use Rattle.gr_rules.specs.Turns as turns
use Rattle.gr_rollback.specs.Logs.{records_of}
use Rattle.gr_rollback.specs.declared.TheConstants.{LOG_LIMIT}
use Rattle.gr_session.specs.Journal.{course_of}
use Rattle.gr_session.specs.Debuggees.{log_in}
use Rattle.gr_session.proofs.RunLemmas.{ended_now, faulted_now, all_taken_now, none_ready_now, full_now, goes_first, goes_now, breaks_now}
use Rattle.gr_session.proofs.running.next_turn.Goals as goal

pub returns-in-Ended-clause-end : goal.returns-in-Ended-clause-end
returns-in-Ended-clause-end c = λ p w s.
    let turn = c.next_turn-turn.ensures p (course_of p w) s.machine in
    (turns.program_ended, ended_now p w c.args.debuggee.now s _ turn c.args.wanted c.args.taken (rw c.store.ensures at c.in-Ended.ensures), refl)

pub returns-in-Faulted-clause-end : goal.returns-in-Faulted-clause-end
returns-in-Faulted-clause-end c = λ p w s.
    let turn = c.next_turn-turn.ensures p (course_of p w) s.machine in (
      turns.program_faulted c.in-Faulted.fault,
      faulted_now p w c.args.debuggee.now s _ turn c.args.wanted c.args.taken c.in-Faulted.fault (rw c.store.ensures at c.in-Faulted.ensures),
      refl,
    )

pub returns-then-taken-wanted-clause-end : goal.returns-then-taken-wanted-clause-end
returns-then-taken-wanted-clause-end c = λ p w s.
    let turn = c.next_turn-turn.ensures p (course_of p w) s.machine in (
      turns.all_taken,
      all_taken_now p w c.args.debuggee.now s _ turn c.args.wanted c.args.taken (rw c.store.ensures at c.in-Live.ensures) c.if-taken-wanted.true,
      refl,
    )

pub returns-in_default-clause-end : goal.returns-in_default-clause-end
returns-in_default-clause-end c = λ p w s.
    let turn = c.next_turn-turn.ensures p (course_of p w) s.machine in (
      turns.none_ready,
      none_ready_now p w c.args.debuggee.now s _ turn c.args.wanted c.args.taken (rw c.store.ensures at c.in-Live.ensures) c.if-taken-wanted.false
          (ap option_copied c.in_default.is),
      refl,
    )

pub returns-then-len-ge-LOG_LIMIT-clause-end : goal.returns-then-len-ge-LOG_LIMIT-clause-end
returns-then-len-ge-LOG_LIMIT-clause-end c = λ p w s.
    let turn = c.next_turn-turn.ensures p (course_of p w) s.machine in
    let counted : c.len.result ≡ length (records_of (log_in c.args.debuggee.now)) = c.len.ensures ∙ ap (λ l. length (records_of l)) c.log.ensures in
    let full : LOG_LIMIT ≤ length (records_of (log_in c.args.debuggee.now)) = omega (arith, counted) in (
      turns.log_full,
      full_now p w c.args.debuggee.now s _ turn c.args.wanted c.args.taken (rw c.store.ensures at c.in-Live.ensures) c.if-taken-wanted.false
          c.in-Some.go.now (ap option_copied c.in-Some.is) full,
      refl,
    )

pub returns-then-taken-eq0-clause-turn : goal.returns-then-taken-eq0-clause-turn
returns-then-taken-eq0-clause-turn c = λ p w s.
    let turn = c.next_turn-turn.ensures p (course_of p w) s.machine in
    let counted : c.len.result ≡ length (records_of (log_in c.args.debuggee.now)) = c.len.ensures ∙ ap (λ l. length (records_of l)) c.log.ensures in
    let room : length (records_of (log_in c.args.debuggee.now)) < LOG_LIMIT = omega (arith, counted) in
    goes_first p w c.args.debuggee.now s _ turn c.args.wanted c.args.taken (rw c.store.ensures at c.in-Live.ensures) c.if-taken-wanted.false
    c.in-Some.go.now (ap option_copied c.in-Some.is) room c.if-taken-eq0.true

pub returns-in-None-clause-turn : goal.returns-in-None-clause-turn
returns-in-None-clause-turn c = λ p w s.
    let turn = c.next_turn-turn.ensures p (course_of p w) s.machine in
    let counted : c.len.result ≡ length (records_of (log_in c.args.debuggee.now)) = c.len.ensures ∙ ap (λ l. length (records_of l)) c.log.ensures in
    let room : length (records_of (log_in c.args.debuggee.now)) < LOG_LIMIT = omega (arith, counted) in
    goes_now p w c.args.debuggee.now s _ turn c.args.wanted c.args.taken (rw c.store.ensures at c.in-Live.ensures) c.if-taken-wanted.false
    c.in-Some.go.now (ap option_copied c.in-Some.is) room c.if-taken-eq0.false (c.in-None.ensures p w s)

pub returns-in-Some-breakpoint_at-clause-end : goal.returns-in-Some-breakpoint_at-clause-end
returns-in-Some-breakpoint_at-clause-end c = λ p w s.
    let turn = c.next_turn-turn.ensures p (course_of p w) s.machine in
    let counted : c.len.result ≡ length (records_of (log_in c.args.debuggee.now)) = c.len.ensures ∙ ap (λ l. length (records_of l)) c.log.ensures in
    let room : length (records_of (log_in c.args.debuggee.now)) < LOG_LIMIT = omega (arith, counted) in (
      turns.at_break c.in-Some-breakpoint_at.line,
      breaks_now p w c.args.debuggee.now s _ turn c.args.wanted c.args.taken (rw c.store.ensures at c.in-Live.ensures) c.if-taken-wanted.false
          c.in-Some.go.now (ap option_copied c.in-Some.is) room c.if-taken-eq0.false c.in-Some-breakpoint_at.line
          (c.in-Some-breakpoint_at.ensures p w s),
      refl,
    )
