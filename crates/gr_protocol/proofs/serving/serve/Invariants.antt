use Rattle.std.proofs.Common.{◌≡◌}
use Rattle.gr_lines.specs.Devices.{device_of, failures_of, left_of}
use Rattle.gr_program.specs.Views.{program_of}
use Rattle.gr_protocol.proofs.SoFar.{SoFar}
use Rattle.gr_protocol.specs.Clients.{IsClient}
use Rattle.gr_protocol.proofs.serving.serve.Given as goal

abbrev pub invariant-loop-text : goal.invariant-loop-text
invariant-loop-text g l = record {
  so_far : SoFar (program_of l.fn.client.session.program) l.fn.client.desk.number (g.R.Read.remaining (device_of l.fn.reader)) (g.R.Read.remaining (device_of l.reader))
      l.fn.client.session.journal l.client.session.journal (g.W.Write.contents (device_of l.fn.writer)) (g.W.Write.contents (device_of l.writer));
  is : IsClient l.client;
  program : l.client.session.program ≡ l.fn.client.session.program;
  desk : l.client.desk ≡ l.fn.client.desk;
  reads : failures_of l.reader ≡ failures_of l.fn.reader;
  writes : failures_of l.writer ≡ failures_of l.fn.writer;
}

abbrev pub decreases-loop-text : goal.decreases-loop-text
decreases-loop-text g l = left_of l.reader
