use Rattle.std.proofs.Common.{◌∙◌, ap}
use Rattle.gr_command.specs.Replies.{Lines}
use Rattle.gr_step.specs.Stores.{program_at, contents_at}
use Rattle.gr_queries.proofs.ConsoleOfLogs.{console_told}
use Rattle.gr_queries.proofs.telling.console.Goals as goal

pub returns : goal.returns
returns c = λ s log starts kept.
    ap Lines (c.in_ok-lines.ensures ∙ console_told (program_at c.args.store.now) s c.args.records.now log (contents_at c.args.store.now) starts kept)
