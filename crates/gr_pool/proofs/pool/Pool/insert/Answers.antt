use Rattle.std.proofs.Common.{◌<◌, length, sym, ◌∙◌, ap, arith}
use Rattle.gr_pool.specs.Goroutines.{Goroutines, with_name}
use Rattle.gr_pool.proofs.Sets.{with_standing, inserted_names, inserted_within, inserted_order, inserted_room}
use Rattle.gr_pool.proofs.pool.Pool.insert.Goals as goal

pub returns-then-stands_at-clause-ready : goal.returns-then-stands_at-clause-ready
returns-then-stands_at-clause-ready c =
    let stands = rw (c.as_slice.ensures.keys, c.as_slice-2.ensures.value) at (c.stands_at.ensures c.if-stands_at.true) in
    let ready = ap (λ (p : Goroutines). p.ready) c.self.view_is in
    sym ready ∙ with_standing _ _ _ stands ∙ ap (with_name c.args.name.now) ready

pub returns-in_default-clause-ready : goal.returns-in_default-clause-ready
returns-in_default-clause-ready c =
    let stands = rw (c.as_slice-3.ensures.keys, c.as_slice-4.ensures.value) at c.in_default.ensures.found in
    let ready = ap (λ (p : Goroutines). p.ready) c.self.view_is in
    sym ready ∙ with_standing _ _ _ stands ∙ ap (with_name c.args.name.now) ready

pub unwrap-requires : goal.unwrap-requires
unwrap-requires c =
    let belongs = rw (c.as_slice-3.ensures.keys, c.as_slice-4.ensures.value) at c.in-Err.ensures.missing in
    let found = c.known_place-known.ensures in
    let room : length c.self.inside.ready.items < length c.self.inside.known.keys =
    inserted_room c.self.inside.known.keys c.self.inside.ready.items c.args.name.now c.in-Err.place c.known_place-known.result belongs found (c.self.invariant.0) (c.self.invariant.1) in
    c.insert.ensures.succeeds (omega (arith, room, c.self.invariant.2))

pub invariant_of-self : goal.invariant_of-self
invariant_of-self c =
    let belongs = rw (c.as_slice-3.ensures.keys, c.as_slice-4.ensures.value) at c.in-Err.ensures.missing in
    let found = c.known_place-known.ensures in
    let items = rw c.unwrap.ensures at c.insert.ensures.items in
    rw items (
      inserted_within c.self.inside.known.keys c.self.inside.ready.items c.args.name.now c.in-Err.place c.known_place-known.result (c.self.invariant.0) found,
      inserted_order c.self.inside.known.keys c.self.inside.ready.items c.args.name.now c.in-Err.place c.known_place-known.result belongs found (c.self.invariant.1),
      omega (arith, c.insert.ensures.capacity, c.self.invariant.2),
    )

pub returns-clause-ready : goal.returns-clause-ready
returns-clause-ready c =
    let belongs = rw (c.as_slice-3.ensures.keys, c.as_slice-4.ensures.value) at c.in-Err.ensures.missing in
    let found = c.known_place-known.ensures in
    let items = rw c.unwrap.ensures at c.insert.ensures.items in
    rw items (inserted_names c.self.inside.known.keys c.self.inside.ready.items c.args.name.now c.in-Err.place c.known_place-known.result belongs found
    ∙ ap (λ (p : Goroutines). with_name c.args.name.now p.ready) c.self.view_is)
