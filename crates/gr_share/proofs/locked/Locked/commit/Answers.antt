use Rattle.std.proofs.Common.{◌≡◌, [], ◌∷◌, ◌++◌, ap, sym, subst, ◌∙◌, arith}
use mathlib.Core.List.{IsPrefix}
use Rattle.gr_program.specs.declared.program.Program.{Program}
use Rattle.gr_program.specs.Views.{program_of}
use Rattle.gr_command.specs.Replies.{said_of}
use Rattle.gr_share.specs.Lines.{Line}
use Rattle.gr_session.specs.Copies.{loan_of}
use Rattle.gr_share.specs.Calls.{EntersCall}
use Rattle.gr_share.specs.declared.desk.Asked.TheVariants.{Batch}
use Rattle.gr_share.specs.declared.desk.Call.{Call}
use Rattle.gr_share.specs.declared.views.View.{View}
use Rattle.gr_session.specs.declared.journal.Receipt.{Receipt}
use Rattle.gr_share.specs.Ties.{asked, keeping, told, IsFull}
use Rattle.gr_share.proofs.Answering.{begins_on, tells_on, full_on, refused_with, rises_on}
use Rattle.gr_share.proofs.locked.Locked.commit.Goals as goal

pub invariant_of-self-in-Ok : goal.invariant_of-self-in-Ok
invariant_of-self-in-Ok g c =
    let i = c.self.invariant in
    let s = c.self.inside.session in
    let t = c.commit_own.new.self in
    let log = c.self.inside.keeper.me.0.log in
    let r = c.in-Ok.receipt in
    let call : Call = record { asked = Batch c.args.go c.len-steps.result; receipt = r } in
    let x : Line = told c.args.number call in
    let before = c.compare.ensures.keeper.1 in
    let now : c.give.new.keeper.me.0 ≡ keeping (log ++ x ∷ []) c.self.inside.keeper.me.0.askers =
    c.give.ensures.keeper.1 ∙ (λ k. keeping ((before k).log ++ x ∷ []) (before k).askers) in
    let lines : c.give.new.keeper.me.0.log ≡ log ++ x ∷ [] = ap (λ (v : View). v.log) now in
    let askers : c.self.inside.keeper.me.0.askers ≡ t.askers = ap (λ (v : View). v.askers) i.1 ∙ sym c.in-Ok.ensures.others.1 in
    let entered : EntersCall (program_of s.program) c.args.number call.asked s.journal t.journal r.number (said_of r.reply) =
    record { loan = loan_of c.args.batch; name = sym c.requires.kept; count = sym c.len-steps.ensures; enters = c.in-Ok.ensures.entry } in (
      c.give.ensures.keeper.0 ∙ (c.compare.ensures.keeper.0 ∙ i.0),
      now ∙ (λ k. keeping (sym lines k) (askers k)),
      tells_on s c.args.number call log i.2 t c.give.new.keeper.me.0.log c.in-Ok.ensures.others.0 lines entered,
      ap (λ (p : Program). program_of p) c.in-Ok.ensures.others.0 ∙ i.3,
      omega (arith, i.4, c.in-Ok.ensures.others.1),
      begins_on g.B.Room.before s c.args.number call t.journal i.5 entered,
      omega (arith, i.6, c.in-Ok.ensures.others.1),
    )

pub returns-in-Ok-clause-rises : goal.returns-in-Ok-clause-rises
returns-in-Ok-clause-rises g c =
    let s = c.self.inside.session in
    let t = c.commit_own.new.self in
    let r = c.in-Ok.receipt in
    let call : Call = record { asked = Batch c.args.go c.len-steps.result; receipt = r } in
    let calls = c.args.seat.now.me.0.calls in
    let begins : IsPrefix calls (asked c.args.number c.self.inside.keeper.me.0.log) =
    subst (λ (v : View). IsPrefix calls (asked v.asker c.self.inside.keeper.me.0.log)) c.requires.seat.2 c.compare.ensures.begins in
    let entered : EntersCall (program_of s.program) c.args.number call.asked s.journal t.journal r.number (said_of r.reply) =
    record { loan = loan_of c.args.batch; name = sym c.requires.kept; count = sym c.len-steps.ensures; enters = c.in-Ok.ensures.entry } in
    rises_on s c.args.number call c.self.inside.keeper.me.0.log c.self.invariant.2 t.journal calls begins entered

pub refuse-requires-clause-full : goal.refuse-requires-clause-full
refuse-requires-clause-full g c = λ is.
    let s = c.self.inside.session in
    let full = c.in-Err.ensures.full.0 (refused_with {A = Receipt} is) in
    subst (λ (v : View). IsFull v.log) (sym c.compare.ensures.keeper.1) (full_on s c.self.inside.keeper.me.0.log c.self.invariant.2 full)
