use Rattle.std.proofs.Common.{◌++◌, ◌∙◌, ap}
use Rattle.gr_keys.proofs.Writing.{on_ok}
use Rattle.gr_keys.proofs.WaitLemmas.{waits_alike}
use Rattle.gr_keys.proofs.goroutines.write_waits.Goals as goal

pub returns : goal.returns
returns c = on_ok c.write_list.result (λ e. e ∙ ap (λ xs. c.args.bytes.now.items ++ xs) (waits_alike c.args.waits.now)) c.write_list.ensures
