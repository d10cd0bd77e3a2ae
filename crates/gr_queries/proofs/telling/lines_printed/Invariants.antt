use Rattle.std.proofs.Common.{◌≡◌, ◌++◌, drop}
use Rattle.gr_command.specs.Replies.{lines_in}
use Rattle.gr_step.specs.Stores.{contents_at}
use Rattle.gr_queries.specs.Consoles.{texts_of, untold, lines_told}
use Rattle.gr_queries.proofs.telling.lines_printed.Given as goal

abbrev pub invariant-loop-record : goal.invariant-loop-record
invariant-loop-record l =
    lines_in l.lines.items ++ lines_told (untold l.counts (texts_of (contents_at l.store))) (drop l.record-index l.records)
    ≡ lines_told (texts_of (contents_at l.store)) l.records
