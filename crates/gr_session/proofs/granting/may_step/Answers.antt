use Rattle.std.proofs.Common.{refl}
use Rattle.gr_session.proofs.GrantLemmas.{without_grant, without_room, with_both}
use Rattle.gr_session.proofs.granting.may_step.Goals.{then-debuggee-eq0-via-then-debuggee-eq0, then-debuggee-eq0-via-else-debuggee-eq0+then-room-eq0}
use Rattle.gr_session.proofs.granting.may_step.Goals as goal

pub returns-then-debuggee-eq0 : goal.returns-then-debuggee-eq0
returns-then-debuggee-eq0 c = λ p w s.
    elim c.then-debuggee-eq0.branch [
      | then-debuggee-eq0-via-then-debuggee-eq0 b ↦ without_grant p w c.args.debuggee.now s b.if-debuggee-eq0.true
      | then-debuggee-eq0-via-else-debuggee-eq0+then-room-eq0 b ↦ without_room p w c.args.debuggee.now s b.room.result (b.room.ensures p w s) b.if-room-eq0.true
    ]

pub returns : goal.returns
returns c = λ p w s. (λ is. with_both p w c.args.debuggee.now s c.room.result c.if-debuggee-eq0.false (c.room.ensures p w s) c.if-room-eq0.false, λ may. refl)
