use Rattle.std.proofs.Common.{◌≡◌, ◌≤◌, ◌^◌, ℕ, suc, List, [], ◌∷◌, length, refl, sym, ap, subst, ◌∙◌}
use Rattle.std.proofs.lemmas.Result.{IfOk-weaker, on_err_weaker}
use Rattle.gr_code.specs.CodeViews.{arms_of, program_code_of}
use Rattle.gr_code.specs.declared.code.Arm as declared
use Rattle.gr_goros.specs.Needs.{SelectsIn, is_select_in}
use Rattle.gr_rules.specs.Tells.{usual_choice}
use Rattle.gr_lower.specs.Lowered.{lowered}
use Rattle.gr_record.specs.Listings.{program_in, state_in}
use Rattle.gr_step.specs.Choices.{IsAtSelect}
use Rattle.gr_step.specs.Guard.{HasReady}
use Rattle.gr_step.specs.Objects.{contents_in}
use Rattle.gr_step.specs.Possible.{usual_of}
use Rattle.gr_step.proofs.ChoiceLemmas.{are_channels, task_there}
use Rattle.gr_step.proofs.NoChoiceLemmas.{no_select, none_other, plain_choice}
use Rattle.gr_step.proofs.UsualLemmas.{usual_at_fault, usual_here}
use Rattle.gr_step.proofs.objects.Objects.usual_choice_at.Goals as goal
use Rattle.gr_step.proofs.objects.Objects.usual_choice_at.Goals.{After-deref}

-- the code that runs is that of the program
code : (c : After-deref) → program_code_of c.deref.result.now ≡ lowered (program_in c.args.listing.now)
code c = ap program_code_of c.deref.ensures ∙ c.requires.coded

pub is_select-requires : goal.is_select-requires
is_select-requires c =
    let is = code (goal.at.is_select-requires c).After-deref in
    let at = c.requires.ready.1 in
    rw is (task_there (program_in c.args.listing.now) (contents_in c.args.self.now) c.requires.running c.requires.ready.0
    c.args.goroutine.now.content at.runs at.there at.is_ready)

pub arms-requires : goal.arms-requires
arms-requires c =
    let is = ap program_code_of c.deref-2.ensures ∙ c.requires.coded in
    let at = c.requires.ready.1 in
    rw is (task_there (program_in c.args.listing.now) (contents_in c.args.self.now) c.requires.running c.requires.ready.0
    c.args.goroutine.now.content at.runs at.there at.is_ready)

pub returns-then-not-is_select-clause-choice : goal.returns-then-not-is_select-clause-choice
returns-then-not-is_select-clause-choice c = λ n has.
    let is = code (goal.at.returns-then-not-is_select-clause-choice c).After-deref in
    let p = program_in c.args.listing.now in
    let s = contents_in c.args.self.now in
    let g = c.args.goroutine.now.content in
    sym (plain_choice p s n (none_other p s n g c.requires.running has.runs has.there has.is_ready
    (no_select (lowered p) g.frames (ap (λ code. is_select_in code g.frames) (sym is) ∙ sym c.is_select.ensures ∙ c.if-not-is_select.true))))

pub returns-then-not-have_channels-clause-choice : goal.returns-then-not-have_channels-clause-choice
returns-then-not-have_channels-clause-choice c = λ n has.
    let is = ap program_code_of c.deref-2.ensures ∙ c.requires.coded in
    let code = ap program_code_of c.deref.ensures ∙ c.requires.coded in
    let p = program_in c.args.listing.now in
    let s = contents_in c.args.self.now in
    let g = c.args.goroutine.now.content in
    let at : IsAtSelect p s n g = record {
      runs = has.runs;
      there = has.there;
      is_ready = has.is_ready;
      select = ap (λ code. is_select_in code g.frames) (sym code) ∙ sym c.is_select.ensures ∙ c.if-not-is_select.false;
    } in
    sym (plain_choice p s n (usual_at_fault p s c.requires.running (are_channels c.args.self.now) n g at _ is c.in-Some-frame.frame.now
    c.cells-cells.result.now (arms_of c.in-Some.arms.now) c.in-Some.ensures (sym c.in-Some-frame.ensures) c.cells-cells.ensures
    (sym c.if-not-have_channels.ensures)))

pub returns-clause-choice : goal.returns-clause-choice
returns-clause-choice c =
    let is = ap program_code_of c.deref-2.ensures ∙ c.requires.coded in
    let code = ap program_code_of c.deref.ensures ∙ c.requires.coded in
    let p = program_in c.args.listing.now in
    let s = contents_in c.args.self.now in
    let g = c.args.goroutine.now.content in
    let select = ap (λ code. is_select_in code g.frames) (sym code) ∙ sym c.is_select.ensures ∙ c.if-not-is_select.false in
    IfOk-weaker c.usual_of.result
    (λ choice. choice ≡ usual_of s c.cells-cells.result.now (arms_of c.in-Some.arms.now))
    (λ choice. (n : List ℕ) → HasReady s n g → choice ≡ usual_choice p (state_in p s) n)
    (λ choice chosen n has. chosen ∙ usual_here p s c.requires.running (are_channels c.args.self.now) n g
    (record { runs = has.runs; there = has.there; is_ready = has.is_ready; select = select }) _ is c.in-Some-frame.frame.now
    c.cells-cells.result.now (arms_of c.in-Some.arms.now) c.in-Some.ensures (sym c.in-Some-frame.ensures) c.cells-cells.ensures
    (sym c.if-not-have_channels.ensures))
    c.usual_of.ensures.choice

-- as many arms as in the code
arms_count : (arms : List declared.Arm) → length (arms_of arms) ≡ length arms
arms_count [] = refl
arms_count (a ∷ arms) = ap suc (arms_count arms)

pub returns-clause-refused : goal.returns-clause-refused
returns-clause-refused c =
    let arms = c.in-Some.arms.now in
    let is = ap program_code_of c.deref-2.ensures ∙ c.requires.coded in
    let p = program_in c.args.listing.now in
    let s = contents_in c.args.self.now in
    let g = c.args.goroutine.now.content in
    on_err_weaker c.usual_of.result
    (λ (many : 2 ^ 32 ≤ length arms) (n : List ℕ) (has : HasReady s n g). record {
      goroutine = g;
      there = has.there;
      arms = arms_of arms;
      select = subst (λ k. SelectsIn k g.frames (arms_of arms)) is c.in-Some.ensures;
      many = subst (λ k. 2 ^ 32 ≤ k) (sym (arms_count arms)) many;
    })
    c.usual_of.ensures.refused
