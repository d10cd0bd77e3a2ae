use Rattle.gr_lines.specs.Devices.{change, known}
use Rattle.gr_serve.proofs.Debugging.{unserved}
use Rattle.gr_protocol.proofs.SoFar.{none_served}
use Rattle.gr_protocol.proofs.serving.debug.Goals as goal

pub returns-in-Err-clause-unserved : goal.returns-in-Err-clause-unserved
returns-in-Err-clause-unserved g c =
    let source = change g.S.Read.remaining c.args.source.now c.open_text.new.source in
    let reader = known g.R.Read.remaining c.args.reader.now in
    let writer = known g.W.Write.contents c.args.writer.now in
    none_served c.in-Err.fault source (record { old = reader; new = reader }) (record { old = writer; new = writer })
    (unserved c.in-Err.fault source reader writer c.in-Err.ensures.err)
