use Rattle.std.proofs.Common.{ap, ◌∙◌, List, ◌++◌, ◌∷◌, [], subst}
use Rattle.gr_share.specs.declared.desk.Asked.TheVariants.{Batch}
use Rattle.gr_session.specs.Copies.{loan_of}
use Rattle.gr_share.specs.declared.desk.Call.{Call}
use Rattle.gr_share.specs.declared.views.View.{View}
use Rattle.gr_share.specs.Ties.{calls_of, numbers_of, AllBelow}
use Rattle.gr_share.proofs.Telling.{before_calls}
use Rattle.gr_share.proofs.Calling.{gains}
use Rattle.gr_share.proofs.desk.Desk.commit.Goals as goal

pub returns-in-Ok-asked-clause-call : goal.returns-in-Ok-asked-clause-call
returns-in-Ok-asked-clause-call g c =
    let calls = c.self.inside.calls.items in
    let call = c.in-Ok-asked.kept in
    let r = call.receipt in
    let before : AllBelow r.number (numbers_of (calls_of c.self.inside.number calls)) =
    subst (λ (v : View). AllBelow r.number (numbers_of v.calls)) c.self.invariant.2 c.in-Ok-asked.ensures.rises in
    gains c.args.self.now c.self.inside.number calls c.push_reserved.new.self.items c.self.inside.seat.me.0.told_full _ (Batch (loan_of c.args.batch).name (loan_of c.args.batch).steps) call.asked r c.self.view_is
    (c.push_reserved.ensures.items ∙ ap (λ (l : List Call). l ++ call ∷ []) c.reserve.ensures.items)
    c.in-Ok-asked.ensures.call.0 (ap (λ (v : View). v.told_full) c.in-Ok-asked.ensures.call.1) (before_calls c.self.inside.number r.number calls before)
