use Rattle.std.proofs.Common.{ap, sym, ◌∙◌}
use Rattle.gr_program.specs.Views.{stmts_of}
use Rattle.gr_types.specs.ActViews.{awaited_of}
use Rattle.gr_types.proofs.forms.awaited_case.Goals as goal

pub returns-in-Send : goal.returns-in-Send
returns-in-Send c =
    c.send_case.ensures ∙ sym (ap (λ a. awaited_of a (stmts_of c.args.body.items)) c.in-Send.is)

pub returns-in-Receive : goal.returns-in-Receive
returns-in-Receive c =
    c.receive_case.ensures ∙ sym (ap (λ a. awaited_of a (stmts_of c.args.body.items)) c.in-Receive.is)
