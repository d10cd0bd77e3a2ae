use Rattle.gr_tables.proofs.ByNumber.{on_ok}
use Rattle.gr_step.proofs.UnstepLemmas.{fits_there, room_there, one_back}
use Rattle.gr_step.proofs.unstepping.undo_at.Goals as goal

pub undo_kept-requires : goal.undo_kept-requires
undo_kept-requires c = fits_there c.args.undo c.args.goroutines.now c.in-Some.number c.args.name.now c.in-Some.ensures.named c.requires.0

pub returns-clause-ok : goal.returns-clause-ok
returns-clause-ok c =
    on_ok c.undo_kept.result _ _ (one_back c.args.undo c.in-Some.number c.args.name.now c.args.goroutines.now c.undo_kept.new.self c.in-Some.ensures.named)
    c.undo_kept.ensures.ok

pub returns-clause-succeeds : goal.returns-clause-succeeds
returns-clause-succeeds c room =
    c.undo_kept.ensures.succeeds (room_there c.args.undo c.args.goroutines.now c.in-Some.number c.args.name.now c.in-Some.ensures.named c.requires.0 room)
