use Rattle.std.proofs.Common.{ap, sym, ◌∙◌, option_map}
use Rattle.std.proofs.lemmas.Result.{err_from_is_err_and}
use Rattle.clap.specs.Words.{found_of}
use Rattle.gr_console.specs.CommandLine.{asked_of}
use Rattle.gr_console.proofs.CommandLines.{found_asks, nothing_asked}
use Rattle.gr_console.proofs.command_line.settings.Goals as goal

pub returns-in-Some-clause-asked : goal.returns-in-Some-clause-asked
returns-in-Some-clause-asked c =
    sym (found_asks (found_of c.in_ok-found.found) _ c.in_ok-found.ensures.ok) ∙ (sym c.asked.ensures.asked ∙ ap (λ o. option_map asked_of o) c.in-Some.is)

pub returns-clause-err : goal.returns-clause-err
returns-clause-err c = λ taken asks.
    absurd (nothing_asked _ (sym (ap (λ o. option_map asked_of o) c.in-None.is) ∙ (c.asked.ensures.asked ∙ found_asks (found_of c.in_ok-found.found) _ c.in_ok-found.ensures.ok)) asks)

pub returns-in_err-found-clause-err : goal.returns-in_err-found-clause-err
returns-in_err-found-clause-err c =
    let told = err_from_is_err_and c.from_residual.result c.from_residual.ensures.1 in
    rw (told.1, told.2) (λ taken asks. c.in_err-found.ensures.err taken)
