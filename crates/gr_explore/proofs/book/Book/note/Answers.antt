use Rattle.std.proofs.Common.{◌∙◌, sym}
use Rattle.gr_explore.proofs.book.Book.note.Goals as goal

pub returns-in-Ok : goal.returns-in-Ok
returns-in-Ok c p s t apart f whole = c.in-Ok.ensures.describes p s t apart (f (sym c.note_all.ensures.whole ∙ whole))
