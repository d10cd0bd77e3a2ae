use Rattle.std.proofs.Common.{ap, ◌∙◌, List, ◌++◌, ◌∷◌, [], subst}
use Rattle.gr_command.specs.declared.command.Command.TheVariants.{Turn}
use Rattle.gr_share.specs.declared.desk.Asked.TheVariants.{Command}
use Rattle.gr_share.specs.declared.desk.Call.{Call}
use Rattle.gr_share.specs.declared.views.View.{View}
use Rattle.gr_share.specs.Ties.{calls_of, numbers_of, AllBelow}
use Rattle.gr_share.proofs.Telling.{before_calls}
use Rattle.gr_share.proofs.Calling.{gains}
use Rattle.gr_share.proofs.desk.Desk.look.Goals as goal

pub returns-in-Turned-clause-looks : goal.returns-in-Turned-clause-looks
returns-in-Turned-clause-looks g c =
    let calls = c.self.inside.calls.items in
    let call = c.in-Turned.turn in
    let r = call.receipt in
    let found = c.in-Turned.ensures.finds in
    let before : AllBelow r.number (numbers_of (calls_of c.self.inside.number calls)) =
    subst (λ (v : View). AllBelow r.number (numbers_of v.calls)) c.self.invariant.2 found.2 in
    gains c.args.self.now c.self.inside.number calls c.push_reserved.new.self.items c.self.inside.seat.me.0.told_full _ (Command Turn) call.asked r c.self.view_is
    (c.push_reserved.ensures.items ∙ ap (λ (l : List Call). l ++ call ∷ []) c.reserve.ensures.items)
    found.0 (ap (λ (v : View). v.told_full) found.1) (before_calls c.self.inside.number r.number calls before)
