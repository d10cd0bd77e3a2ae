use Rattle.std.proofs.Common.{◌≡◌, not, ap, sym, ◌∙◌}
use Rattle.std.specs.Prelude.{nat_eq, nat_le}
use Rattle.gr_code.specs.CodeViews.{program_code_of}
use Rattle.gr_code.specs.Goroutines.{task_in}
use Rattle.gr_goros.specs.Alone.{stays_in}
use Rattle.gr_goros.specs.Views.{frames_of, is_finished, status_of}
use Rattle.gr_goros.proofs.AloneLemmas.{alone_by, caller_told, depth_told}
use Rattle.gr_goros.proofs.goroutine.Goroutine.goes_alone.Goals as goal

pub returns : goal.returns
returns c =
    let g = c.self.inside in
    let code = program_code_of c.args.code.now in
    let frames : frames_of (status_of g.status) g.top g.below.items ≡ c.args.self.now.content.frames = ap (λ g. g.content.frames) c.self.view_is in
    let caller = c.depth_above-depth.ensures.caller ∙ ap (λ n. not (nat_eq n 0)) c.len.ensures ∙ caller_told g.below.items g.below.len g.below.ok.0 in
    let deepest = c.depth_above-depth.ensures.deepest ∙ ap (nat_le 999) c.len.ensures ∙ depth_told g.top g.below.items g.below.len g.below.ok.0 in
    alone_by code (is_finished (status_of g.status)) g.top g.below.items _ _ _ _
    (λ bad. c.requires (ap (task_in code) (sym frames) ∙ bad))
    c.instruction-instruction.ensures caller deepest c.goes_alone.ensures
    ∙ ap (λ fs. stays_in fs (task_in code fs)) frames
