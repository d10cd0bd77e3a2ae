use Rattle.gr_survey.proofs.ScriptLemmas.{last_line, first_line}
use Rattle.gr_survey.proofs.script.cut_line.Goals as goal

pub returns-in-empty-clause-lines : goal.returns-in-empty-clause-lines
returns-in-empty-clause-lines c =
    last_line c.args.bytes.now c.split_line.result.0.now c.split_line.result.1.now c.split_line.ensures.cut c.split_line.ensures.plain c.in-empty.len_below c.requires

pub returns-in-len1-up-clause-lines : goal.returns-in-len1-up-clause-lines
returns-in-len1-up-clause-lines c =
    first_line c.args.bytes.now c.split_line.result.0.now c.split_line.result.1.now c.split_line.ensures.cut c.split_line.ensures.plain c.split_line.ensures.rest
    c.in-len1-up.len_at_least
