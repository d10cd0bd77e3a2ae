-- Names that tie in their order are one, and the orders are total.
use Rattle.std.proofs.Common.{ℕ, List, ap}
use Rattle.std.specs.Ordering.{nat_cmp}
use Rattle.std.specs.Cmp.{IsTotalOrder, nat_cmp_total}
use Rattle.std.specs.Cmp.Lexicographic.{nat_list_cmp_total}
use Rattle.std.proofs.lemmas.Cmp.{on_total, then_total}
use Rattle.std.proofs.lemmas.Map.Lookups.{exact_pairs, exact_unsigned, exact_bytes}
use Rattle.gr_base.specs.Names.{go_cmp, ch_cmp, step_cmp, TiesAreEqual}

-- goroutines that tie are one
pub go_exact : TiesAreEqual go_cmp
go_exact = exact_bytes

-- the order of goroutines is total
pub go_total : IsTotalOrder go_cmp
go_total = nat_list_cmp_total

-- channels that tie are one
pub ch_exact : TiesAreEqual ch_cmp
ch_exact a b h = ap (λ (p : List ℕ × ℕ). record { go = p.0; n = p.1 }) (exact_pairs go_cmp nat_cmp go_exact exact_unsigned (a.go, a.n) (b.go, b.n) h)

-- the order of channels is total
pub ch_total : IsTotalOrder ch_cmp
ch_total = then_total (on_total (λ s. s.go) go_total) (on_total (λ s. s.n) nat_cmp_total)

-- steps that tie are one
pub step_exact : TiesAreEqual step_cmp
step_exact a b h = ap (λ (p : List ℕ × ℕ). record { go = p.0; n = p.1 }) (exact_pairs go_cmp nat_cmp go_exact exact_unsigned (a.go, a.n) (b.go, b.n) h)

-- the order of steps is total
pub step_total : IsTotalOrder step_cmp
step_total = then_total (on_total (λ s. s.go) go_total) (on_total (λ s. s.n) nat_cmp_total)
