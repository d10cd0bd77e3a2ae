use Rattle.std.proofs.Common.{◌∙◌, ap, arith}
use Rattle.gr_pool.specs.Goroutines.{Goroutines}
use Rattle.gr_pool.proofs.Sets.{known_names, known_within, known_order, known_long}
use Rattle.gr_pool.proofs.pool.Pool.know.Goals as goal

pub invariant_of-self-2 : goal.invariant_of-self-2
invariant_of-self-2 c =
    rw (c.in_ok-insert.ensures.keys, c.in_ok-reserve.ensures.items) (
      known_within c.self.inside.known.keys _ c.self.inside.ready.items (c.self.invariant.0),
      known_order c.self.inside.known.keys _ c.self.inside.ready.items (c.self.invariant.0) (c.self.invariant.1),
      omega (arith, (known_long c.self.inside.known.keys c.in_ok-name.name).1, c.in_ok-reserve.ensures.ok, c.in_ok-reserve.ensures.len, c.saturating_sub-unready.ensures, c.len.ensures.len, c.len-2.ensures),
    )

pub returns-clause-ready : goal.returns-clause-ready
returns-clause-ready c =
    rw (c.in_ok-insert.ensures.keys, c.in_ok-reserve.ensures.items) (known_names c.self.inside.known.keys _ c.self.inside.ready.items (c.self.invariant.0) ∙ ap (λ (p : Goroutines). p.ready) c.self.view_is)
