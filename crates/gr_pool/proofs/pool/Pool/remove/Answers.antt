use Rattle.std.proofs.Common.{length, ◌∙◌, ap, arith}
use Rattle.gr_pool.specs.Goroutines.{Goroutines, without_name}
use Rattle.gr_pool.proofs.Sets.{removed_names, removed_order, all_remove}
use Rattle.gr_pool.proofs.pool.Pool.remove.Goals as goal

pub invariant_of-self : goal.invariant_of-self
invariant_of-self c =
    let stands = rw (c.as_slice.ensures.keys, c.as_slice-2.ensures.value) at c.in-Ok.ensures.found in
    rw c.remove.ensures.items (
      all_remove (length c.self.inside.known.keys) c.self.inside.ready.items c.in-Ok.place (c.self.invariant.0),
      removed_order c.self.inside.known.keys c.self.inside.ready.items c.args.name.now c.in-Ok.place stands (c.self.invariant.1),
      omega (arith, c.remove.ensures.capacity, c.self.invariant.2),
    )

pub returns-clause-ready : goal.returns-clause-ready
returns-clause-ready c =
    let stands = rw (c.as_slice.ensures.keys, c.as_slice-2.ensures.value) at c.in-Ok.ensures.found in
    rw c.remove.ensures.items (removed_names c.self.inside.known.keys c.self.inside.ready.items c.args.name.now c.in-Ok.place stands
    ∙ ap (λ (p : Goroutines). without_name c.args.name.now p.ready) c.self.view_is)
