use Rattle.std.proofs.Common.{rules, ◌≤◌, ◌++◌, length, take}
use Rattle.gr_scan.specs.declared.scan.TheConstants.{TEXT_LIMIT}
use Rattle.gr_serve.specs.declared.debug.TheConstants.{BLOCK}
use Rattle.gr_lines.proofs.Known.{Consumes-then}
use Rattle.gr_serve.proofs.Debugging.{one_block_more}
use Rattle.gr_serve.proofs.debug.read_source.Goals as goal

pub returns-then-is_err-clause-part : goal.returns-then-is_err-clause-part
returns-then-is_err-clause-part g c =
    let few : length c.loop-block.text.items ≤ TEXT_LIMIT = search rules in
    let short : length c.read.new.bytes ≤ BLOCK = search rules in
    record {
      text = c.loop-block.text.items ++ take c.in-Ok.count c.read.new.bytes;
      taken = Consumes-then _ _ _ _ _ c.loop-block.invariant.taken c.in-Ok.ensures.ok.0;
      bound = one_block_more c.loop-block.text.items c.read.new.bytes c.in-Ok.count TEXT_LIMIT BLOCK few short;
    }
