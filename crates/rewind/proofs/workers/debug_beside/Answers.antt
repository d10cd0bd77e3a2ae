use Rattle.gr_lines.specs.Devices.{change, known}
use Rattle.gr_serve.specs.declared.stream.ServeFault.TheVariants.{Memory}
use Rattle.gr_serve.specs.declared.debug.DebugFault.TheVariants.{Serve}
use Rattle.gr_serve.proofs.Debugging.{read_in_part, source_blamed}
use Rattle.rewind.proofs.Sharing.{unshared}
use Rattle.rewind.proofs.workers.debug_beside.Goals as goal

pub returns-in-Err-clause-err : goal.returns-in-Err-clause-err
returns-in-Err-clause-err g c =
    unshared c.in-Err.fault (change g.S.Read.remaining c.args.source.now c.open_source.new.source)
    (known g.R.Read.remaining c.args.reader.now) (known g.W.Write.contents c.args.writer.now) c.in-Err.ensures.err

pub returns-in-Err-clause-blames : goal.returns-in-Err-clause-blames
returns-in-Err-clause-blames g c =
    let source = change g.S.Read.remaining c.args.source.now c.open_source.new.source in
    let reader = known g.R.Read.remaining c.args.reader.now in
    let writer = known g.W.Write.contents c.args.writer.now in
    source_blamed c.in-Err.fault source reader writer c.in-Err.ensures.err c.in-Err.ensures.source

pub returns-in_default-clause-err : goal.returns-in_default-clause-err
returns-in_default-clause-err g c =
    unshared (Serve Memory) (change g.S.Read.remaining c.args.source.now c.open_source.new.source)
    (known g.R.Read.remaining c.args.reader.now) (known g.W.Write.contents c.args.writer.now) (read_in_part c.in-Ok.ensures.program)
