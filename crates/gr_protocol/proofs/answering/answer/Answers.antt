use Rattle.std.proofs.Common.{ap}
use Rattle.gr_program.specs.Views.{program_of}
use Rattle.serde_json.specs.View.{view}
use Rattle.gr_protocol.proofs.Replying.{query_told}
use Rattle.gr_protocol.proofs.answering.answer.Goals as goal

pub returns-in_ok-value-in-Ask-clause-ok : goal.returns-in_ok-value-in-Ask-clause-ok
returns-in_ok-value-in-Ask-clause-ok c =
    rw c.in-Ask.is (query_told (program_of c.args.client.now.session.program) c.args.client.now.desk.number c.in-Ask.query c.args.client.now.session.journal
    c.told.new.client.session.journal c.write_line.result (view c.in_ok-value-in-Ask.value) c.args.text.now.items c.write_line.new.text.items
    (ap (λ s. s.journal) c.told.ensures.client.session) c.in_ok-value-in-Ask.ensures.tells c.requires.empty c.write_line.ensures.ok)
