use Rattle.gr_keys.proofs.Writing.{on_ok}
use Rattle.gr_explore.specs.declared.book.Book.{Book}
use Rattle.gr_explore.specs.Books.{Describes}
use Rattle.gr_explore.proofs.BookLemmas.{described}
use Rattle.gr_explore.proofs.book.Book.note_all.Goals as goal

pub returns-clause-describes : goal.returns-clause-describes
returns-clause-describes c p s t apart d =
    let new : Book = record { goroutines = c.note_goroutines.new.pages; channels = c.note_channels.new.pages; is_whole = c.args.self.now.is_whole } in
    on_ok {Q = Describes p t new} c.note_channels.result (λ e. described p s t c.args.step.now apart c.args.self.now new c.note_goroutines.ensures.written
    c.in_ok-note_goroutines.ensures.changed c.note_channels.ensures.written e d) c.note_channels.ensures.changed
