use Rattle.std.proofs.Common.{◌≡◌}
use Rattle.gr_lines.specs.Devices.{device_of, failures_of, left_of}
use Rattle.gr_serve.proofs.SoFar.{SoFar}
use Rattle.gr_serve.proofs.client.serve_client.Given as goal

abbrev pub invariant-loop-text : goal.invariant-loop-text
invariant-loop-text g l = record {
  so_far : SoFar (g.C.Client.gets (g.C.Client.fixed l.fn.client)) (g.R.Read.remaining (device_of l.fn.reader)) (g.R.Read.remaining (device_of l.reader))
      (g.C.Client.state l.fn.client) (g.C.Client.state l.client) (g.W.Write.contents (device_of l.fn.writer)) (g.W.Write.contents (device_of l.writer));
  fixed : g.C.Client.fixed l.client ≡ g.C.Client.fixed l.fn.client;
  reads : failures_of l.reader ≡ failures_of l.fn.reader;
  writes : failures_of l.writer ≡ failures_of l.fn.writer;
}

abbrev pub decreases-loop-text : goal.decreases-loop-text
decreases-loop-text g l = left_of l.reader
