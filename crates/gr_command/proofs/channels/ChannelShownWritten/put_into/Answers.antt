use Rattle.gr_command.proofs.Growing.{puts_then, puts_within}
use Rattle.gr_command.proofs.channels.ChannelShownWritten.put_into.Goals as goal

pub returns-in_err-put_into : goal.returns-in_err-put_into
returns-in_err-put_into c = puts_within _ c.from_residual.ensures.0 c.in_err-put_into.ensures

pub returns : goal.returns
returns c =
    let lists = rw (c.as_slice.ensures.value, c.as_slice-2.ensures.value, c.as_slice-3.ensures.value) at c.put_three.ensures in
    puts_then c.in_ok-put_into.ensures lists
