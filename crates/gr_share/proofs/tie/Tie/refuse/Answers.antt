use Rattle.std.proofs.Common.{subst, sym}
use Rattle.gr_share.specs.declared.views.View.{View}
use Rattle.gr_share.specs.Ties.{IsFull}
use Rattle.gr_share.proofs.tie.Tie.refuse.Goals as goal

pub note-requires-clause-full : goal.note-requires-clause-full
note-requires-clause-full c = subst (λ (v : View). IsFull v.seen) (sym c.show.ensures.desk.1) (c.requires.full c.in-JournalFull.is)
