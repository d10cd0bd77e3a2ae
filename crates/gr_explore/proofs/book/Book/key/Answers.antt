use Rattle.std.proofs.Common.{◌++◌, ◌∙◌, ◌∷◌, [], ap}
use Rattle.std.proofs.lemmas.Result.{IfOk-weaker}
use Rattle.gr_step.specs.Stores.{contents_at, program_at}
use Rattle.gr_rollback.specs.Machines.{store_of}
use Rattle.gr_schedules.specs.Keys.{run_number}
use Rattle.gr_explore.specs.Keeping.{pages_code}
use Rattle.gr_explore.proofs.BookLemmas.{key_by_book}
use Rattle.gr_explore.proofs.book.Book.key.Goals as goal

pub returns-clause-key : goal.returns-clause-key
returns-clause-key c =
    let m = c.args.machine.now in
    let b = c.update.new.self in
    IfOk-weaker c.bytes_of.result _ _
    (λ bytes written.
    key_by_book (program_at (store_of m)) (contents_at (store_of m)) b c.in_ok-update.ensures.is c.in_ok-update.ensures.goroutines c.in_ok-update.ensures.channels bytes.items
    (written ∙ ap (λ store. run_number (contents_at store).run
    ∷ ((pages_code b.goroutines.written.items ++ 0 ∷ []) ++ (pages_code b.channels.written.items ++ 0 ∷ []))) c.store.ensures))
    c.bytes_of.ensures
