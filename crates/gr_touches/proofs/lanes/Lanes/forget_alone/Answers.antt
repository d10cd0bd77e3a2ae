use Rattle.std.proofs.Common.{[], ◌∷◌}
use Rattle.gr_base.specs.declared.objects.Object.TheVariants.{Run, Go}
use Rattle.gr_touches.proofs.NoteLemmas.{step_taken, read_alone, written_alone}
use Rattle.gr_touches.proofs.lanes.Lanes.forget_alone.Goals as goal

pub returns-clause-lists : goal.returns-clause-lists
returns-clause-lists c =
    let step = c.args.step.now in
    step_taken c.args.self.now c.take_from_lane.new.self c.take_from_run.new.self step (Go step.id.go ∷ []) (Run ∷ []) (written_alone step c.requires)
    c.take_from_lane.ensures.lists (read_alone step c.requires) c.take_from_run.ensures.lists
