use Rattle.std.proofs.Common.{take, ap, sym, ◌∙◌}
use Rattle.std.specs.Prelude.{option_copied, slice_get}
use Rattle.gr_program.specs.Views.{program_of}
use Rattle.gr_code.specs.CodeViews.{program_code_of}
use Rattle.gr_lower.specs.Lowered.{lowered}
use Rattle.gr_depend.specs.Logs.{records_of}
use Rattle.gr_step.specs.Stores.{program_at}
use Rattle.gr_facts.specs.Recorded.{facts_by}
use Rattle.gr_facts.specs.Views.{facts_in}
use Rattle.gr_facts.proofs.AskLemmas.{ended, no_place, tells_of}
use Rattle.gr_facts.proofs.asking.about_at.Goals as goal

pub returns-in_default : goal.returns-in_default
returns-in_default c = λ p w s.
    let rs = c.step_at.ensures ∙ ap (λ l. slice_get (records_of l) c.args.place) c.log-log.ensures in
    no_place p w c.args.machine.now s c.args.place (ended _ c.args.place (sym (ap option_copied c.in_default.is) ∙ rs))

pub returns : goal.returns
returns c = λ p w s.
    let rs = c.step_at.ensures ∙ ap (λ l. slice_get (records_of l) c.args.place) c.log-log.ensures in
    let program = program_of c.program.result.now in
    let code = program_code_of c.code.result.now in
    tells_of p w c.args.machine.now s c.args.place c.in-Some.step.now (sym (sym (ap option_copied c.in-Some.is) ∙ rs)) (facts_in c.in_ok-told.told) program code
    (c.program.ensures ∙ ap program_at c.store-store.ensures ∙ s.holds.program)
    (c.code.ensures ∙ ap (λ st. program_code_of st.listing.code.value) c.store-store.ensures ∙ s.holds.run.coded ∙ ap lowered s.holds.program)
    (c.in_ok-told.ensures ∙ ap (λ l. facts_by program code (take c.args.place (records_of l)) c.in-Some.step.now) c.log-log.ensures)
