use Rattle.std.proofs.Common.{◌∙◌, ◌-◌, ap, sym, length}
use Rattle.gr_depend.specs.Logs.{records_of}
use Rattle.gr_explore.specs.Exploring.{events_at}
use Rattle.gr_explore.proofs.ListLemmas.{count_since}
use Rattle.gr_explore.proofs.StepLemmas.{as_many}
use Rattle.gr_explore.proofs.stepping.taken_since.Goals as goal

pub returns : goal.returns
returns c =
    ap (λ n. n - c.args.base) (c.len.ensures ∙ ap (λ l. length (records_of l)) c.log.ensures ∙ sym (as_many c.args.machine.now))
    ∙ sym (count_since c.args.base (events_at c.args.machine.now))
