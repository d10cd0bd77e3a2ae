use Rattle.std.proofs.Common.{rules, ◌≡◌, ◌<◌, ◌≤◌, sym, ◌∙◌, true, false, length, arith, inl}
use Rattle.gr_command.specs.Commands.{meaning}
use Rattle.gr_serve.specs.Lines.{is_quit}
use Rattle.gr_lines.specs.Bytes.{LineRead}
use Rattle.gr_lines.specs.Devices.{change, known, one_more, device_of, failures_of}
use Rattle.gr_lines.specs.declared.counted.LineEnd.TheVariants.{Newline, End}
use Rattle.gr_serve.proofs.SoFar.{SoFar-broken, SoFar-end, SoFar-last, SoFar-line, SoFar-quit, line_left, last_left, line_blames, failed_now, not_empty}
use Rattle.gr_serve.proofs.client.serve_client.Goals as goal

pub returns-in-Err-Read-clause-ends : goal.returns-in-Err-Read-clause-ends
returns-in-Err-Read-clause-ends g c =
    let failed : failures_of c.read_line.new.reader ≡ one_more (failures_of c.loop-text.reader) = search rules in
    let fails = failed_now _ _ _ c.loop-text.invariant.reads failed in
    ((SoFar-broken c.loop-text.invariant.so_far c.in-Err-Read.ensures.err, fails), (fails, c.loop-text.invariant.writes))

pub returns-in-Err-Memory-clause-ends : goal.returns-in-Err-Memory-clause-ends
returns-in-Err-Memory-clause-ends g c =
    let same : failures_of c.read_line.new.reader ≡ failures_of c.loop-text.reader = search rules in
    (inl (SoFar-broken c.loop-text.invariant.so_far c.in-Err-Memory.ensures.err), (same ∙ c.loop-text.invariant.reads, c.loop-text.invariant.writes))

pub returns-then-is_empty-clause-ends : goal.returns-then-is_empty-clause-ends
returns-then-is_empty-clause-ends g c =
    let read : LineRead (g.R.Read.remaining (device_of c.loop-text.reader)) (g.R.Read.remaining (device_of c.read_line.new.reader)) c.read_line.new.line.items End = rw c.in-Ok-End.field-0-is at c.in-Ok-End.ensures.ok in
    let none : length c.read_line.new.line.items ≡ 0 = search rules in
    (SoFar-end c.loop-text.invariant.so_far read none, (c.in-Ok-End.ensures.same ∙ c.loop-text.invariant.reads, c.loop-text.invariant.writes))

pub returns-in-Err-clause-ends : goal.returns-in-Err-clause-ends
returns-in-Err-clause-ends g c =
    let read : LineRead (g.R.Read.remaining (device_of c.loop-text.reader)) (g.R.Read.remaining (device_of c.read_line.new.reader)) c.read_line.new.line.items End = rw c.in-Ok-End.field-0-is at c.in-Ok-End.ensures.ok in
    let some : 0 < length c.read_line.new.line.items = rw (← c.as_slice.ensures.value) (not_empty _ _ _ c.is_empty.ensures c.if-is_empty.false c.as_slice.ensures.len) in
    let writes : failures_of c.args.writer.now ≤ failures_of c.loop-text.writer = omega (arith, c.loop-text.invariant.writes) in (
      last_left c.in-Err.fault _ _ _ _ _ _ c.loop-text.invariant.so_far read some writes
          (rw (c.as_slice.ensures.value, c.loop-text.invariant.fixed) at c.in-Err.ensures.ends.0),
      line_blames c.in-Err.fault (change g.R.Read.remaining c.args.reader.now c.read_line.new.reader)
          (known g.W.Write.contents c.args.writer.now) (known g.W.Write.contents c.loop-text.writer) (known g.W.Write.contents c.serve_line.new.writer)
          (c.in-Ok-End.ensures.same ∙ c.loop-text.invariant.reads) c.loop-text.invariant.writes c.in-Err.ensures.ends.1,
    )

pub returns-in-Ok-clause-ends : goal.returns-in-Ok-clause-ends
returns-in-Ok-clause-ends g c =
    let read : LineRead (g.R.Read.remaining (device_of c.loop-text.reader)) (g.R.Read.remaining (device_of c.read_line.new.reader)) c.read_line.new.line.items End = rw c.in-Ok-End.field-0-is at c.in-Ok-End.ensures.ok in
    let some : 0 < length c.read_line.new.line.items = rw (← c.as_slice.ensures.value) (not_empty _ _ _ c.is_empty.ensures c.if-is_empty.false c.as_slice.ensures.len) in (
      SoFar-last c.loop-text.invariant.so_far read some (rw (c.as_slice.ensures.value, c.loop-text.invariant.fixed) at c.in-Ok.ensures.ends.0),
      (c.in-Ok-End.ensures.same ∙ c.loop-text.invariant.reads, c.in-Ok.ensures.ends.1.1 ∙ c.loop-text.invariant.writes),
    )

pub returns-in-Err-serve_line-clause-ends : goal.returns-in-Err-serve_line-clause-ends
returns-in-Err-serve_line-clause-ends g c =
    let read : LineRead (g.R.Read.remaining (device_of c.loop-text.reader)) (g.R.Read.remaining (device_of c.read_line.new.reader)) c.read_line.new.line.items Newline = rw c.in-Ok-Newline.field-0-is at c.in-Ok-Newline.ensures.ok in
    let writes : failures_of c.args.writer.now ≤ failures_of c.loop-text.writer = omega (arith, c.loop-text.invariant.writes) in (
      line_left c.in-Err-serve_line.fault _ _ _ _ _ _ c.loop-text.invariant.so_far read writes
          (rw (c.as_slice-in-Ok-Newline.ensures.value, c.loop-text.invariant.fixed) at c.in-Err-serve_line.ensures.ends.0),
      line_blames c.in-Err-serve_line.fault (change g.R.Read.remaining c.args.reader.now c.read_line.new.reader)
          (known g.W.Write.contents c.args.writer.now) (known g.W.Write.contents c.loop-text.writer) (known g.W.Write.contents c.serve_line-in-Ok-Newline.new.writer)
          (c.in-Ok-Newline.ensures.same ∙ c.loop-text.invariant.reads) c.loop-text.invariant.writes c.in-Err-serve_line.ensures.ends.1,
    )

pub returns-in-Ok-true-clause-ends : goal.returns-in-Ok-true-clause-ends
returns-in-Ok-true-clause-ends g c =
    let read : LineRead (g.R.Read.remaining (device_of c.loop-text.reader)) (g.R.Read.remaining (device_of c.read_line.new.reader)) c.read_line.new.line.items Newline = rw c.in-Ok-Newline.field-0-is at c.in-Ok-Newline.ensures.ok in
    let quit : is_quit (meaning c.read_line.new.line.items) ≡ true = rw (← c.as_slice-in-Ok-Newline.ensures.value) (sym c.in-Ok-true.ensures.ends.1.0 ∙ c.in-Ok-true.field-0-test) in (
      SoFar-quit c.loop-text.invariant.so_far read (rw (c.as_slice-in-Ok-Newline.ensures.value, c.loop-text.invariant.fixed) at c.in-Ok-true.ensures.ends.0) quit,
      (c.in-Ok-Newline.ensures.same ∙ c.loop-text.invariant.reads, c.in-Ok-true.ensures.ends.1.1 ∙ c.loop-text.invariant.writes),
    )

pub loop-text-preserved : goal.loop-text-preserved
loop-text-preserved g c =
    let read : LineRead (g.R.Read.remaining (device_of c.loop-text.reader)) (g.R.Read.remaining (device_of c.read_line.new.reader)) c.read_line.new.line.items Newline = rw c.in-Ok-Newline.field-0-is at c.in-Ok-Newline.ensures.ok in
    let quit : is_quit (meaning c.read_line.new.line.items) ≡ false = rw (← c.as_slice-in-Ok-Newline.ensures.value) (sym c.in-Ok-false.ensures.ends.1.0 ∙ c.in-Ok-false.field-0-test) in
    record {
      so_far = SoFar-line c.loop-text.invariant.so_far read (rw (c.as_slice-in-Ok-Newline.ensures.value, c.loop-text.invariant.fixed) at c.in-Ok-false.ensures.ends.0) quit;
      fixed = c.in-Ok-false.ensures.fixed ∙ c.loop-text.invariant.fixed;
      reads = c.in-Ok-Newline.ensures.same ∙ c.loop-text.invariant.reads;
      writes = c.in-Ok-false.ensures.ends.1.1 ∙ c.loop-text.invariant.writes;
    }
