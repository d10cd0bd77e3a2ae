use Rattle.std.proofs.Common.{◌∙◌, ap, slice_set}
use Rattle.gr_goros.specs.Undoing.{each_restored}
use Rattle.gr_goros.proofs.CellLemmas.{set_back, restored_last}
use Rattle.gr_goros.proofs.cells.note.Goals as goal

pub returns-then-place-len-clause-back : goal.returns-then-place-len-clause-back
returns-then-place-len-clause-back c =
    let ws = c.args.written.now.items in
    let held = c.replace-held.result in
    let now = slice_set c.args.cells.now.items c.args.slot c.replace-held.new.dest in
    ap (λ ws. each_restored ws now) c.push_reserved.ensures.items
    ∙ restored_last ws (c.args.slot, held) now
    ∙ ap (each_restored ws) (set_back c.args.cells.now.items c.args.slot c.replace-held.new.dest held _ c.replace-held.ensures.value c.index_mut.ensures.value)
