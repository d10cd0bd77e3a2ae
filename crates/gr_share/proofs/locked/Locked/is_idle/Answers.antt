use Rattle.std.proofs.Common.{false, not, subst}
use Rattle.gr_program.specs.Views.{program_of}
use Rattle.gr_share.specs.Seats.{Held}
use Rattle.gr_share.proofs.Lending.{TellsIdle, closed_now, can_lend_now, turn_now}
use Rattle.gr_share.proofs.locked.Locked.is_idle.Goals.{then-self-via-then-self, then-self-via-else-self+then-can_lend}
use Rattle.gr_share.proofs.locked.Locked.is_idle.Goals as goal

pub returns-then-self : goal.returns-then-self
returns-then-self g c =
    let s = c.self.inside.session in
    let p = program_of s.program in
    let one = c.law_of_journals.ensures.whole p s.journal in
    subst (λ (h : Held). TellsIdle h false) c.self.view_is
    (elim c.then-self.branch [
      | then-self-via-then-self w ↦ closed_now p s.journal one c.self.inside.closed w.if-self.true
      | then-self-via-else-self+then-can_lend w ↦ can_lend_now p s.journal one c.self.inside.closed w.can_lend.result w.if-can_lend.true w.can_lend.ensures
    ])

pub returns : goal.returns
returns g c =
    let s = c.self.inside.session in
    let p = program_of s.program in
    subst (λ (h : Held). TellsIdle h (not c.turn_due.result)) c.self.view_is
    (turn_now p s.journal (c.law_of_journals.ensures.whole p s.journal) c.self.inside.closed c.can_lend.result c.turn_due.result
    c.if-self.false c.if-can_lend.false c.can_lend.ensures c.turn_due.ensures)
