use Rattle.std.proofs.Common.{ap, map, refl, ◌∙◌}
use Rattle.std.proofs.lemmas.Result.{IfErr-weaker}
use Rattle.std.proofs.lemmas.Result.{IfOk-weaker}
use Rattle.clap.specs.Words.{App, takes}
use Rattle.gr_console.proofs.CommandLines.{matched, none_failed}
use Rattle.gr_console.proofs.command_line.matches.Goals as goal

pub returns-clause-err : goal.returns-clause-err
returns-clause-err c = IfErr-weaker c.try_get_matches_from.result _ _
    (λ error passes taken. passes (ap (λ (a : App). takes a (map (λ w. w.now) c.args.words.now)) c.in_ok-command.ensures ∙ taken))
    c.try_get_matches_from.ensures.passes

pub returns-clause-ok : goal.returns-clause-ok
returns-clause-ok c = IfOk-weaker c.try_get_matches_from.result _ _
    (λ found has. matched _ (map (λ w. w.now) c.args.words.now) found c.in_ok-command.ensures has)
    c.try_get_matches_from.ensures.matches

pub returns-clause-taken : goal.returns-clause-taken
returns-clause-taken c = none_failed _ _ (map (λ w. w.now) c.args.words.now) c.in_ok-command.ensures refl c.try_get_matches_from.ensures.kinds
