use Rattle.std.proofs.Common.{◌≡◌, ◌∙◌, sym, ap, subst}
use Rattle.gr_code.specs.CodeFrames.{ProgramCode}
use Rattle.gr_code.specs.CodeViews.{program_code_of}
use Rattle.gr_code.specs.Goroutines.{task_of}
use Rattle.gr_goros.specs.Alone.{stays_alone}
use Rattle.gr_rules.specs.Outcomes.{wrong}
use Rattle.gr_step.specs.Stores.{contents_at, program_at}
use Rattle.gr_step.proofs.ChoiceLemmas.{task_there}
use Rattle.gr_step.proofs.OwnStepLemmas.{down_goes_not, stays_is}
use Rattle.gr_step.proofs.store.Store.has_own_step.Goals as goal

pub goes_alone-requires : goal.goes_alone-requires
goes_alone-requires c =
    let s = c.args.self.now in
    let g = c.in-Ok.ready.goroutine.now.content in
    let has = c.in-Ok.ensures.ok.has in
    let code = ap program_code_of c.deref.ensures ∙ c.requires.coded in
    subst {_, _} (λ (code : ProgramCode). ¬ (task_of code g ≡ wrong)) (sym code)
    (task_there (program_at s) (contents_at s) c.requires.running c.args.go.now g has.runs has.there has.is_ready)

pub returns-in-Ok : goal.returns-in-Ok
returns-in-Ok c =
    let s = c.args.self.now in
    let g = c.in-Ok.ready.goroutine.now.content in
    let has = c.in-Ok.ensures.ok.has in
    let code = ap program_code_of c.deref.ensures ∙ c.requires.coded in
    c.goes_alone.ensures ∙ ap (λ (code : ProgramCode). stays_alone code g) code
    ∙ stays_is (program_at s) (contents_at s) c.args.go.now c.requires.running has.runs g has.there has.is_ready

pub returns-in-Err : goal.returns-in-Err
returns-in-Err c = sym (down_goes_not (program_at c.args.self.now) (contents_at c.args.self.now) c.args.go.now c.in-Err.ensures.none)
