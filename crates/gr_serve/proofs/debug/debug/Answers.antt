use Rattle.std.proofs.Common.{rules, ◌≡◌, []}
use Rattle.gr_program.specs.Views.{program_of}
use Rattle.gr_lines.specs.Devices.{change, known, device_of}
use Rattle.gr_serve.specs.Stream.{of_session}
use Rattle.gr_serve.specs.Served.{ServedAll}
use Rattle.gr_serve.proofs.Debugging.{stopped, unserved, source_blamed, legal_served}
use Rattle.gr_serve.proofs.debug.debug.Goals as goal

pub returns-in-Err-clause-err : goal.returns-in-Err-clause-err
returns-in-Err-clause-err g c =
    unserved c.in-Err.fault (change g.S.Read.remaining c.args.source.now c.open_source.new.source)
    (known g.R.Read.remaining c.args.reader.now) (known g.W.Write.contents c.args.writer.now) c.in-Err.ensures.err

pub returns-in-Err-clause-blames : goal.returns-in-Err-clause-blames
returns-in-Err-clause-blames g c =
    source_blamed c.in-Err.fault (change g.S.Read.remaining c.args.source.now c.open_source.new.source)
    (known g.R.Read.remaining c.args.reader.now) (known g.W.Write.contents c.args.writer.now) c.in-Err.ensures.err c.in-Err.ensures.source

pub returns-in-Ok-served-clause-ok : goal.returns-in-Ok-served-clause-ok
returns-in-Ok-served-clause-ok g c =
    let number : c.in-Ok-enrol.desk.number ≡ 1 = search rules in
    let empty : c.enrol.new.self.journal ≡ [] = search rules in
    let same : c.enrol.new.self.program ≡ c.in-Ok.session.program = search rules in
    let served : ServedAll (of_session (program_of c.in-Ok.session.program) 1) (g.R.Read.remaining (device_of c.args.reader.now)) (g.R.Read.remaining (device_of c.serve-served.new.reader))
    [] c.serve-served.new.session.journal (g.W.Write.contents (device_of c.args.writer.now)) (g.W.Write.contents (device_of c.serve-served.new.writer)) =
    rw (number, empty, same) at c.in-Ok-served.ensures.ok in
    record {
      program = program_of c.in-Ok.session.program;
      opened = c.in-Ok.ensures.program;
      journal = c.serve-served.new.session.journal;
      served = served;
      legal = legal_served served.served;
    }

pub returns-in-Err-served-clause-err : goal.returns-in-Err-served-clause-err
returns-in-Err-served-clause-err g c =
    let number : c.in-Ok-enrol.desk.number ≡ 1 = search rules in
    let empty : c.enrol.new.self.journal ≡ [] = search rules in
    let same : c.enrol.new.self.program ≡ c.in-Ok.session.program = search rules in
    stopped c.in-Err-served.fault (change g.S.Read.remaining c.args.source.now c.open_source.new.source)
    (change g.R.Read.remaining c.args.reader.now c.serve-served.new.reader) (change g.W.Write.contents c.args.writer.now c.serve-served.new.writer)
    (program_of c.in-Ok.session.program) c.serve-served.new.session.journal c.in-Ok.ensures.program
    (rw (number, empty, same) at c.in-Err-served.ensures.err)
