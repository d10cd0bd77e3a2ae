use Rattle.std.proofs.Common.{rules}
use Rattle.gr_console.proofs.Telling.{first_page}
use Rattle.gr_console.proofs.pages.page_in.Goals as goal

pub returns-then-eq-clause-page : goal.returns-then-eq-clause-page
returns-then-eq-clause-page c =
    first_page (λ e. e.0.now) (λ e. e.1.now) c.args.code.now c.loop-table.table.now _ c.in-len1-up.len_at_least c.loop-table.invariant.0 (search rules)
