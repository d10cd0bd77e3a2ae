use Rattle.std.proofs.Common.{rules, ◌≡◌, ◌<◌, sym, ◌∙◌, true, false, length}
use Rattle.gr_command.specs.Requests.{request_meant}
use Rattle.gr_lines.specs.Bytes.{LineRead}
use Rattle.gr_lines.specs.Devices.{change, known, one_more, device_of, failures_of}
use Rattle.gr_lines.specs.declared.counted.LineEnd.TheVariants.{Newline, End}
use Rattle.gr_serve.proofs.SoFar.{failed_now, line_blames, not_empty}
use Rattle.gr_protocol.specs.Answers.{is_quit}
use Rattle.gr_protocol.proofs.SoFar.{so_far_line, ends_in_quit, ends_in_line, ends_after}
use Rattle.gr_protocol.proofs.serving.serve.Goals as goal

pub returns-in-Err-Read-clause-answered : goal.returns-in-Err-Read-clause-answered
returns-in-Err-Read-clause-answered g c =
    let failed : failures_of c.read_line.new.reader ≡ one_more (failures_of c.loop-text.reader) = search rules in
    (failed_now _ _ _ c.loop-text.invariant.reads failed, c.loop-text.invariant.writes)

pub returns-in-Err-Memory-clause-answered : goal.returns-in-Err-Memory-clause-answered
returns-in-Err-Memory-clause-answered g c =
    let same : failures_of c.read_line.new.reader ≡ failures_of c.loop-text.reader = search rules in
    (same ∙ c.loop-text.invariant.reads, c.loop-text.invariant.writes)

pub returns-then-is_empty-clause-answered : goal.returns-then-is_empty-clause-answered
returns-then-is_empty-clause-answered g c =
    let read : LineRead (g.R.Read.remaining (device_of c.loop-text.reader)) (g.R.Read.remaining (device_of c.read_line.new.reader)) c.read_line.new.line.items End = rw c.in-Ok-End.field-0-is at c.in-Ok-End.ensures.ok in
    let none : length c.read_line.new.line.items ≡ 0 = search rules in (
      ends_after _ _ _ _ _ _ _ _ _ _ c.loop-text.invariant.so_far read none,
      (c.in-Ok-End.ensures.same ∙ c.loop-text.invariant.reads, c.loop-text.invariant.writes),
    )

pub returns-in-Err-clause-answered : goal.returns-in-Err-clause-answered
returns-in-Err-clause-answered g c =
    line_blames c.in-Err.fault (change g.R.Read.remaining c.args.reader.now c.read_line.new.reader)
    (known g.W.Write.contents c.args.writer.now) (known g.W.Write.contents c.loop-text.writer) (known g.W.Write.contents c.serve_line.new.writer)
    (c.in-Ok-End.ensures.same ∙ c.loop-text.invariant.reads) c.loop-text.invariant.writes c.in-Err.ensures.blames

pub returns-in-Ok-clause-answered : goal.returns-in-Ok-clause-answered
returns-in-Ok-clause-answered g c =
    let read : LineRead (g.R.Read.remaining (device_of c.loop-text.reader)) (g.R.Read.remaining (device_of c.read_line.new.reader)) c.read_line.new.line.items End = rw c.in-Ok-End.field-0-is at c.in-Ok-End.ensures.ok in
    let some : 0 < length c.read_line.new.line.items = rw (← c.as_slice.ensures.value) (not_empty _ _ _ c.is_empty.ensures c.if-is_empty.false c.as_slice.ensures.len) in
    let line = rw (c.as_slice.ensures.value, c.loop-text.invariant.program, c.loop-text.invariant.desk) at c.in-Ok.ensures.answered in (
      ends_in_line _ _ _ _ _ _ _ _ _ _ _ _ _ c.loop-text.invariant.so_far line.answers line.written read some,
      (c.in-Ok-End.ensures.same ∙ c.loop-text.invariant.reads, c.in-Ok.ensures.same ∙ c.loop-text.invariant.writes),
    )

pub returns-in-Err-serve_line-clause-answered : goal.returns-in-Err-serve_line-clause-answered
returns-in-Err-serve_line-clause-answered g c =
    line_blames c.in-Err-serve_line.fault (change g.R.Read.remaining c.args.reader.now c.read_line.new.reader)
    (known g.W.Write.contents c.args.writer.now) (known g.W.Write.contents c.loop-text.writer) (known g.W.Write.contents c.serve_line-in-Ok-Newline.new.writer)
    (c.in-Ok-Newline.ensures.same ∙ c.loop-text.invariant.reads) c.loop-text.invariant.writes c.in-Err-serve_line.ensures.blames

pub returns-in-Ok-true-clause-answered : goal.returns-in-Ok-true-clause-answered
returns-in-Ok-true-clause-answered g c =
    let read : LineRead (g.R.Read.remaining (device_of c.loop-text.reader)) (g.R.Read.remaining (device_of c.read_line.new.reader)) c.read_line.new.line.items Newline = rw c.in-Ok-Newline.field-0-is at c.in-Ok-Newline.ensures.ok in
    let quit : is_quit (request_meant c.read_line.new.line.items) ≡ true = rw (← c.as_slice-in-Ok-Newline.ensures.value) (sym c.in-Ok-true.ensures.quit ∙ c.in-Ok-true.field-0-test) in
    let line = rw (c.as_slice-in-Ok-Newline.ensures.value, c.loop-text.invariant.program, c.loop-text.invariant.desk) at c.in-Ok-true.ensures.answered in (
      ends_in_quit _ _ _ _ _ _ _ _ _ _ _ _ _ c.loop-text.invariant.so_far line.answers line.written read quit,
      (c.in-Ok-Newline.ensures.same ∙ c.loop-text.invariant.reads, c.in-Ok-true.ensures.same ∙ c.loop-text.invariant.writes),
    )

pub loop-text-preserved : goal.loop-text-preserved
loop-text-preserved g c =
    let read : LineRead (g.R.Read.remaining (device_of c.loop-text.reader)) (g.R.Read.remaining (device_of c.read_line.new.reader)) c.read_line.new.line.items Newline = rw c.in-Ok-Newline.field-0-is at c.in-Ok-Newline.ensures.ok in
    let quit : is_quit (request_meant c.read_line.new.line.items) ≡ false = rw (← c.as_slice-in-Ok-Newline.ensures.value) (sym c.in-Ok-false.ensures.quit ∙ c.in-Ok-false.field-0-test) in
    let line = rw (c.as_slice-in-Ok-Newline.ensures.value, c.loop-text.invariant.program, c.loop-text.invariant.desk) at c.in-Ok-false.ensures.answered in
    record {
      so_far = so_far_line _ _ _ _ _ _ _ _ _ _ _ _ _ c.loop-text.invariant.so_far line.answers line.written read quit;
      is = c.in-Ok-false.ensures.client.is;
      program = c.in-Ok-false.ensures.client.program ∙ c.loop-text.invariant.program;
      desk = c.in-Ok-false.ensures.client.desk ∙ c.loop-text.invariant.desk;
      reads = c.in-Ok-Newline.ensures.same ∙ c.loop-text.invariant.reads;
      writes = c.in-Ok-false.ensures.same ∙ c.loop-text.invariant.writes;
    }
