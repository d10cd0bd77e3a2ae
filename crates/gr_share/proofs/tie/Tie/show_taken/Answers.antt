use Rattle.std.proofs.Common.{ap, ◌∙◌, arith}
use Rattle.gr_share.proofs.Moves.{shows_taken, hears}
use Rattle.gr_share.proofs.tie.Tie.show_taken.Goals as goal

pub split_seat-note-requires : goal.split_seat-note-requires
split_seat-note-requires c = (c.requires.tables.0, omega (arith, c.args.self.now.one_word), shows_taken _ _ c.requires.keeper.0 c.requires.keeper.1)

pub join_seat-requires : goal.join_seat-requires
join_seat-requires c =
    let e = c.split_seat-note.ensures in
    (c.requires.tables.1, e.3 ∙ c.requires.tables.0, ap (λ m. m.1) e.4, omega (arith, c.args.self.now.one_word), hears _ _ _ _)
