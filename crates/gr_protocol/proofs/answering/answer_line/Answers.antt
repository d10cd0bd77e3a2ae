use Rattle.gr_command.proofs.Errors.{on_err}
use Rattle.gr_command.specs.Requests.{request_meant}
use Rattle.gr_program.specs.Views.{program_of}
use Rattle.gr_protocol.proofs.Replying.{nothing_left}
use Rattle.gr_protocol.proofs.answering.answer_line.Goals as goal

pub returns-in_err-request-clause-err : goal.returns-in_err-request-clause-err
returns-in_err-request-clause-err c = on_err c.from_residual.result
    (nothing_left (program_of c.args.client.now.session.program) c.args.client.now.desk.number (request_meant c.args.line.now) c.args.client.now.session.journal)
