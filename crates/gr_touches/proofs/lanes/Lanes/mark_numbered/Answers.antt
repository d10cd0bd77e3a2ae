use Rattle.gr_touches.proofs.WalkLemmas.{numbered_ascends, numbered_in_reach}
use Rattle.gr_touches.proofs.lanes.Lanes.mark_numbered.Goals as goal

pub mark_list-requires-clause-ascending : goal.mark_list-requires-clause-ascending
mark_list-requires-clause-ascending c =
    numbered_ascends c.args.self.now c.args.origin c.args.wanted c.requires.numbered.0 c.args.number c.args.touches.now c.requires.numbered.1
    c.args.walked.now c.args.marks.now c.args.marks.now c.requires.reach.ascending

pub mark_list-requires-clause-reach : goal.mark_list-requires-clause-reach
mark_list-requires-clause-reach c =
    numbered_in_reach c.args.self.now c.args.origin c.args.wanted c.requires.numbered.0 c.args.number c.args.touches.now c.requires.numbered.1
    c.args.walked.now c.args.marks.now c.args.marks.now _ c.requires.reach.reach
