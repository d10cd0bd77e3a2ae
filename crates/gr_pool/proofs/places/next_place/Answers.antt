use Rattle.std.proofs.Common.{arith}
use Rattle.gr_pool.specs.Goroutines.{names_at}
use Rattle.gr_pool.proofs.Order.{length_names}
use Rattle.gr_pool.proofs.Sets.{next_within, next_past}
use Rattle.gr_pool.proofs.places.next_place.Goals as goal

pub returns-then-place-ready : goal.returns-then-place-ready
returns-then-place-ready c = next_within c.args.name.now (names_at c.args.known.now c.args.ready.now) c.place_after-place.result c.place_after-place.ensures.after (omega (arith, length_names c.args.known.now c.args.ready.now))

pub returns : goal.returns
returns c = next_past c.args.name.now (names_at c.args.known.now c.args.ready.now) c.place_after-place.result c.place_after-place.ensures.after (omega (arith, length_names c.args.known.now c.args.ready.now))
