use Rattle.std.proofs.Common.{true, subst, refl}
use Rattle.gr_command.specs.declared.command.Command.TheVariants.{Turn}
use Rattle.gr_share.specs.declared.desk.Asked.TheVariants.{Command}
use Rattle.gr_share.specs.Calls.{Asker, Staff}
use Rattle.gr_share.specs.Finding.{WorksOnce}
use Rattle.gr_share.proofs.Calling.{called}
use Rattle.gr_share.proofs.desk.Worker.act.Goals as goal

pub returns-in-Turned-clause-works : goal.returns-in-Turned-clause-works
returns-in-Turned-clause-works g c =
    subst (λ (s : Staff). WorksOnce g.B.Room.program c.args.self.now.place true s.seat c.look.new.self) c.self.view_is
    (called g.B.Room.program c.args.self.now.place true c.self.inside.seat c.look.new.self (Command Turn) c.in-Turned.ensures.looks refl (λ _ x. x))

pub returns-in-Lends-clause-works : goal.returns-in-Lends-clause-works
returns-in-Lends-clause-works g c =
    let p = g.B.Room.program in
    let new = c.take_steps.new.self.seat in
    subst (λ (s : Staff). WorksOnce p s.place c.take_steps.result s.seat new) c.self.view_is
    (subst (λ (a : Asker). WorksOnce p c.self.inside.place c.take_steps.result a new) c.in-Lends.ensures.looks c.take_steps.ensures.works)
