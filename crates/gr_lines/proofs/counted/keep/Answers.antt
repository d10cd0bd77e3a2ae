use Rattle.std.proofs.Common.{◌-◌, ◌+◌, ◌∙◌, ap, min, length}
use Rattle.gr_command.specs.declared.read.TheConstants.{LINE_LIMIT}
use Rattle.gr_lines.proofs.Reading.{kept-within}
use Rattle.gr_lines.proofs.counted.keep.Goals as goal

pub returns : goal.returns
returns c =
    kept-within (LINE_LIMIT + 1) c.min-count.result c.args.line.now.items c.extend_from_slice.new.self.items c.args.bytes.now c.requires
    (c.min-count.ensures ∙ ap (λ k. min (length c.args.bytes.now) (LINE_LIMIT + 1 - k)) (c.len.ensures ∙ c.args.line.now.ok.0)) c.in_ok-extend_from_slice.ensures.items
