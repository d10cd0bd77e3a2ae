use Rattle.std.proofs.Common.{◌≡◌, ap, sym, ◌∙◌}
use Rattle.gr_code.specs.CodeViews.{operands_of, program_code_of}
use Rattle.gr_code.specs.Goroutines.{is_local_in, local, local_in}
use Rattle.gr_goros.specs.Calls.{calls}
use Rattle.gr_goros.specs.Views.{frames_of, is_finished, status_of}
use Rattle.gr_goros.proofs.CallLemmas.{live_if_local, local_is}
use Rattle.gr_goros.proofs.goroutine.Goroutine.take_task.Goals as goal

pub returns-in-Some-clause-step : goal.returns-in-Some-clause-step
returns-in-Some-clause-step c =
    let g = c.self.inside in
    let code = program_code_of c.args.code.now in
    let old = c.args.self.now.content in
    let es = operands_of c.in-Some.operands.now in
    let frames : frames_of (status_of g.status) g.top g.below.items ≡ old.frames = ap (λ g. g.content.frames) c.self.view_is in
    let live = live_if_local code (status_of g.status) g.top g.below.items (ap (is_local_in code) frames ∙ c.requires.here) in
    let is : local code old ≡ calls code old c.in-Some.function es old.frames =
    ap (local_in code old) (sym frames)
    ∙ local_is code old c.in-Some.function es (status_of g.status) g.top g.below.items live _ c.instruction-instruction.ensures c.in-Some.ensures
    ∙ ap (calls code old c.in-Some.function es) frames in
    rw is c.call.ensures.step

pub call-requires-clause-right : goal.call-requires-clause-right
call-requires-clause-right c w =
    let g = c.self.inside in
    let code = program_code_of c.args.code.now in
    let old = c.args.self.now.content in
    let es = operands_of c.in-Some.operands.now in
    let frames : frames_of (status_of g.status) g.top g.below.items ≡ old.frames = ap (λ g. g.content.frames) c.self.view_is in
    let live = live_if_local code (status_of g.status) g.top g.below.items (ap (is_local_in code) frames ∙ c.requires.here) in
    let is : local code old ≡ calls code old c.in-Some.function es old.frames =
    ap (local_in code old) (sym frames)
    ∙ local_is code old c.in-Some.function es (status_of g.status) g.top g.below.items live _ c.instruction-instruction.ensures c.in-Some.ensures
    ∙ ap (calls code old c.in-Some.function es) frames in
    c.requires.right (is ∙ w)

pub call-requires-clause-live : goal.call-requires-clause-live
call-requires-clause-live c =
    let g = c.self.inside in
    let code = program_code_of c.args.code.now in
    let old = c.args.self.now.content in
    let frames : frames_of (status_of g.status) g.top g.below.items ≡ old.frames = ap (λ g. g.content.frames) c.self.view_is in
    let live = live_if_local code (status_of g.status) g.top g.below.items (ap (is_local_in code) frames ∙ c.requires.here) in
    sym (ap (λ g. is_finished g.content.status) c.self.view_is) ∙ live
