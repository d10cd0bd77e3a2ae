use Rattle.std.proofs.Common.{ap, subst, sym}
use Rattle.gr_command.specs.Replies.{said_of}
use Rattle.gr_session.specs.Copies.{loan_of}
use Rattle.gr_session.specs.declared.journal.Receipt.{Receipt}
use Rattle.gr_share.specs.declared.desk.Asked.TheVariants.{Batch}
use Rattle.gr_share.specs.Calls.{Asker, Staff}
use Rattle.gr_share.specs.Works.{WasLent}
use Rattle.gr_share.specs.Finding.{WorksOnce}
use Rattle.gr_share.proofs.Calling.{rested, called, not_cut, at_work}
use Rattle.gr_share.proofs.desk.Worker.take_steps.Goals.{in-Ok-commit, in-Err}
use Rattle.gr_share.proofs.desk.Worker.take_steps.Goals as goal

-- the worker has a call more, or none
works : (g : _) (c : goal.Joined-commit g) → WorksOnce g.B.Room.program c.args.self.now.place c.match-commit.result c.self.inside.seat c.commit.new.self
works g c =
    let p = g.B.Room.program in
    let place = c.args.self.now.place in
    let loan = loan_of c.in-Ok.batch in
    let lent : WasLent p place loan.name loan.steps = record {
      journal = c.requires.lent.0;
      lease = c.args.lease;
      limit = c.args.limit;
      lends = c.requires.lent.1;
      name = sym c.in-Ok.ensures.loan.name;
      few = c.in-Ok.ensures.few;
    } in
    elim c.match-commit.branch [
      | in-Ok-commit w ↦
          let gained = w.in-Ok-commit.ensures.call in
          let last = w.last-receipt.ensures c.self.inside.seat.calls (record { asked = Batch loan.name loan.steps; receipt = gained.0 })
          (ap (λ (a : Asker). a.calls) gained.1.0) in
          called p place c.match-commit.result c.self.inside.seat c.commit.new.self (Batch loan.name loan.steps) gained lent
          (not_cut c.match-commit.result w.is_cut.result c.len-steps.result loan.steps _ (said_of gained.0.reply) w.result-is w.is_cut.ensures c.len-steps.ensures
          (ap (λ (r : Receipt). said_of r.reply) last))
      | in-Err w ↦ rested p place c.match-commit.result w.in-Err.field-0 c.self.inside.seat c.commit.new.self w.in-Err.ensures.err
    ]

pub returns-clause-works : goal.returns-clause-works
returns-clause-works g c =
    subst (λ (s : Staff). WorksOnce g.B.Room.program c.args.self.now.place c.match-commit.result s.seat c.commit.new.self) c.self.view_is (works g c)

pub invariant_of-self : goal.invariant_of-self
invariant_of-self g c =
    let p = g.B.Room.program in
    let here = ap (λ (s : Staff). s.place) c.self.view_is in
    at_work p c.self.inside.place c.match-commit.result c.self.inside.seat c.commit.new.self c.self.invariant
    (subst (λ place. WorksOnce p place c.match-commit.result c.self.inside.seat c.commit.new.self) (sym here) (works g c))
