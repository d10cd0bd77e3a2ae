use Rattle.std.proofs.Common.{◌∙◌, refl}
use Rattle.gr_goros.proofs.CellLemmas.{set_back}
use Rattle.gr_goros.proofs.cells.write.Goals as goal

pub returns-then-place-len-clause-back : goal.returns-then-place-len-clause-back
returns-then-place-len-clause-back c =
    c.in_ok-former.ensures _ ∙ set_back c.args.cells.now.items c.args.slot _ c.index.result.now _ refl c.index.ensures
