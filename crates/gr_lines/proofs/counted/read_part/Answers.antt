use Rattle.std.proofs.Common.{subst}
use Rattle.std.specs.Io.BufRead.{FillKeeps}
use Rattle.gr_lines.proofs.Reading.{shown_comes, nothing_comes}
use Rattle.gr_lines.proofs.counted.read_part.Goals as goal

pub returns-then-eq-clause-ok : goal.returns-then-eq-clause-ok
returns-then-eq-clause-ok g c = nothing_comes _ _ c.args.line.now.items c.requires c.fill_buf.follows.holds-at-none.0

pub returns : goal.returns
returns g c =
    let rested = c.fill_buf.follows.lender-at-none in
    let filled = subst (FillKeeps _ (g.R.Read.remaining rested) (g.R.BufRead.consumable_len rested)) c.in-Ok.is c.fill_buf.follows.holds-at-none in
    let ends = c.end_after-end in
    record {
      ok = shown_comes _ _ _ _ c.in-Ok.ahead.now c.split_line.result.0.now c.split_line.result.1.now c.args.line.now.items c.keep.new.line.items ends.result.0 ends.result.1
          c.split_line.ensures.cut c.split_line.ensures.plain c.in-Ok-keep.ensures ends.ensures.bound ends.ensures.read ends.ensures.end
          c.in-Ok.ensures.front c.in-Ok.ensures.end filled.0 filled.1 c.consume.ensures.bytes;
      err = tt;
    }
