use Rattle.std.proofs.Common.{arith}
use Rattle.gr_command.proofs.Growing.{puts_all, puts_none}
use Rattle.gr_command.proofs.pieces.put.Goals as goal

pub returns : goal.returns
returns c = puts_all c.in_ok-extend_from_slice.ensures.items c.in_ok-extend_from_slice.ensures.capacity

pub returns-in_err-extend_from_slice : goal.returns-in_err-extend_from_slice
returns-in_err-extend_from_slice c =
    let told = c.in_err-extend_from_slice.ensures in
    puts_none c.args.text.now c.extend_from_slice.new.self c.from_residual.ensures.0 told.items (omega (arith, told.full)) told.capacity
