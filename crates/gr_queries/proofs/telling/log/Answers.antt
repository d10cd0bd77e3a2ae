use Rattle.std.proofs.Common.{◌∙◌, ap}
use Rattle.gr_command.specs.Replies.{Log}
use Rattle.gr_queries.proofs.Logs.{kept_tells}
use Rattle.gr_queries.proofs.telling.log.Goals as goal

pub returns-clause-kept : goal.returns-clause-kept
returns-clause-kept c p s t log kept = ap Log (c.in_ok-steps.ensures ∙ kept_tells p s c.args.records.now log t kept)
