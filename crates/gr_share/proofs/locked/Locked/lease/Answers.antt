use Rattle.std.proofs.Common.{◌≡◌, ℕ, IfSome, sym, subst}
use Rattle.std.specs.declared.option.Option.{Option}
use Rattle.gr_program.specs.Programs.{Program}
use Rattle.gr_program.specs.Views.{program_of}
use Rattle.gr_session.specs.Copies.{Lent}
use Rattle.gr_session.specs.Entries.{InItsWorld}
use Rattle.gr_session.specs.Granting.{IsLoan, CanLend}
use Rattle.gr_share.specs.Seats.{Held}
use Rattle.gr_share.specs.Works.{Lends}
use Rattle.gr_command.proofs.Errors.{on_err}
use Rattle.gr_share.proofs.Lending.{lends}
use Rattle.gr_share.proofs.locked.Locked.lease.Goals as goal

pub returns-in-Some-clause-limit : goal.returns-in-Some-clause-limit
returns-in-Some-clause-limit g c =
    let s = c.self.inside.session in
    let p = program_of s.program in
    let lease = c.in-Some.lease in
    let place = c.args.place in
    let at : lease.place ≡ place = subst (λ (o : Option Lent). IfSome o (λ l. l.place ≡ place)) c.in-Some.is c.in_ok-lease.ensures.place in
    let loan : InItsWorld p s.journal (λ w. IsLoan p w place lease.copy) =
    subst (λ (o : Option Lent). IfSome o (λ l. InItsWorld p s.journal (λ w. IsLoan p w place l.copy))) c.in-Some.is c.in_ok-lease.ensures.lent in
    let told = lends p s.journal (c.law_of_journals.ensures.whole p s.journal) place lease c.room.result c.grant.result at loan c.room.ensures c.grant.ensures in
    let limited : Lends p s.journal place lease c.min-limit.result = subst (λ (n : ℕ). Lends p s.journal place lease n) (sym c.min-limit.ensures) told in
    subst (λ (h : Held). Lends g.B.Room.program h.session.journal place lease c.min-limit.result) c.self.view_is
    (subst (λ (q : Program). Lends q s.journal place lease c.min-limit.result) c.self.invariant.3 limited)

pub returns-in_err-lease-clause-memory : goal.returns-in_err-lease-clause-memory
returns-in_err-lease-clause-memory g c =
    on_err c.from_residual.result
    (subst (λ (h : Held). InItsWorld (program_of h.session.program) h.session.journal (CanLend (program_of h.session.program))) c.self.view_is c.in_err-lease.ensures.memory)
