use Rattle.std.proofs.Common.{◌≡◌, ◌++◌, drop}
use Rattle.gr_explore.specs.Keeping.{pages_code}
use Rattle.gr_explore.proofs.pages.Pages.append.Given as goal

abbrev pub invariant-loop-page : goal.invariant-loop-page
invariant-loop-page g l = l.bytes.items ++ pages_code (drop l.page-index l.page-items) ≡ l.fn.bytes.items ++ pages_code l.self.written.items
