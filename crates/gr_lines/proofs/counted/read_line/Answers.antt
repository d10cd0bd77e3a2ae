use Rattle.std.proofs.Common.{arith, ◌+◌, ◌++◌, None, Some}
use Rattle.gr_command.specs.declared.read.TheConstants.{LINE_LIMIT}
use Rattle.gr_lines.specs.Bytes.{Comes}
use Rattle.gr_lines.proofs.Reading.{Part-more, Part-ended, kept-short}
use Rattle.gr_lines.proofs.counted.read_line.Goals as goal

pub returns-in-Ok-Some-clause-ok : goal.returns-in-Ok-Some-clause-ok
returns-in-Ok-Some-clause-ok g c =
    let comes : Comes (g.R.Read.remaining c.loop-error.reader.inner) (g.R.Read.remaining c.read_on.new.self.inner) c.loop-error.line.items c.read_on.new.line.items (Some c.in-Ok-Some.end) =
    rw c.in-Ok-Some.field-0-is at c.in-Ok-Some.ensures.ok in
    Part-ended c.in-Ok-Some.end c.loop-error.invariant.part comes

pub loop-error-preserved : goal.loop-error-preserved
loop-error-preserved g c =
    let comes : Comes (g.R.Read.remaining c.loop-error.reader.inner) (g.R.Read.remaining c.read_on.new.self.inner) c.loop-error.line.items c.read_on.new.line.items None =
    rw c.in-Ok-None.field-0-is at c.in-Ok-None.ensures.ok in
    record {
      part = Part-more c.loop-error.invariant.part comes;
      short = kept-short (LINE_LIMIT + 1) (c.loop-error.line.items ++ comes.text) c.read_on.new.line.items comes.kept_is;
      same = omega (arith, c.in-Ok-None.ensures.same);
      left = omega (arith, c.in-Ok-None.ensures.left);
    }
