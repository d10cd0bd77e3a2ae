use Rattle.std.proofs.Common.{◌<◌, ◌∙◌, ap, ap₂, arith, length, slice_get}
use Rattle.gr_program.specs.TypeViews.{declared_of}
use Rattle.gr_rules.specs.Tells.{holding}
use Rattle.gr_queries.proofs.Copying.{is_there}
use Rattle.gr_queries.proofs.FramesShown.{has_function, frame_told}
use Rattle.gr_queries.proofs.showing.frame_shown.Goals as goal
use Rattle.gr_queries.proofs.showing.frame_shown.Goals.{After-function}

within : (c : After-function) → c.function.result < length c.args.program.now.functions.items
within c =
    let below : c.args.frame.now.function < length c.args.program.now.functions.items =
    has_function c.args.program.now c.args.frame.now c.requires.checked c.requires.stands in
    omega (arith, below, c.function.ensures)

pub index-function-requires : goal.index-function-requires
index-function-requires c =
    let below = within c in
    omega (arith, below, c.args.program.now.functions.ok.0)

pub returns : goal.returns
returns c =
    frame_told c.args.program.now c.args.frame.now c.index-function.result.now _ _ c.requires.checked c.requires.stands
    (is_there c.args.program.now.functions.items c.function.result c.index-function.result.now (within (goal.at.returns c).After-function)
    c.index-function.ensures ∙ ap (slice_get c.args.program.now.functions.items) c.function.ensures)
    (c.in_ok-name.ensures.items ∙ c.deref.ensures.value)
    (c.in_ok-variables.ensures ∙ ap₂ (λ ds cells. holding (declared_of ds) cells) c.deref-2.ensures.value c.cells.ensures)
