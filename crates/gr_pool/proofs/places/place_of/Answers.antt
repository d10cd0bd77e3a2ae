use Rattle.std.proofs.Common.{◌≡◌, ◌<◌, ◌≤◌, ◌+◌, ◌-◌, ◌/◌, ℕ, List, length, arith}
use Rattle.std.specs.Prelude.{slice_index_or}
use Rattle.std.specs.declared.cmp.Ordering.TheVariants.{Less, Equal, Greater}
use Rattle.gr_base.specs.Names.{go_cmp}
use Rattle.gr_pool.specs.Goroutines.{names_at}
use Rattle.gr_pool.proofs.Order.{less_up_to, greater_from, gap_at, length_names, compared, stands}
use Rattle.gr_pool.proofs.places.place_of.Goals as goal

pub loop-low-preserved : goal.loop-low-preserved
loop-low-preserved c =
    let m = c.loop-low.low + (c.loop-low.high - c.loop-low.low) / 2 in
    let names = names_at c.args.known.now c.args.ready.now in
    let less : m < length c.args.ready.now = omega arith in
    let more : (d : List ℕ) → go_cmp (slice_index_or names m d) c.args.name.now ≡ Greater =
    compared c.args.known.now c.args.ready.now m c.args.name.now c.index-known-ready.result Greater less (c.requires.within m 0 less) c.index-known-ready.is c.in-Greater.ensures in
    record {
      order = omega arith;
      within = omega arith;
      before = c.loop-low.invariant.before;
      after = λ k d h w. greater_from names c.args.name.now m (c.requires.ordered) more k d h (omega (arith, length_names c.args.known.now c.args.ready.now));
    }

pub loop-low-preserved-in-Less : goal.loop-low-preserved-in-Less
loop-low-preserved-in-Less c =
    let m = c.loop-low.low + (c.loop-low.high - c.loop-low.low) / 2 in
    let names = names_at c.args.known.now c.args.ready.now in
    let less : m < length c.args.ready.now = omega arith in
    let fewer : (d : List ℕ) → go_cmp (slice_index_or names m d) c.args.name.now ≡ Less =
    compared c.args.known.now c.args.ready.now m c.args.name.now c.index-known-ready.result Less less (c.requires.within m 0 less) c.index-known-ready.is c.in-Less.ensures in
    record {
      order = omega arith;
      within = omega arith;
      before = λ k d h. less_up_to names c.args.name.now m (c.requires.ordered) (omega (arith, length_names c.args.known.now c.args.ready.now)) fewer k d h;
      after = c.loop-low.invariant.after;
    }

pub returns-in-Equal-clause-found : goal.returns-in-Equal-clause-found
returns-in-Equal-clause-found c =
    let m = c.loop-low.low + (c.loop-low.high - c.loop-low.low) / 2 in
    let less : m < length c.args.ready.now = omega arith in
    stands (names_at c.args.known.now c.args.ready.now) c.args.name.now m (c.requires.ordered) (omega (arith, length_names c.args.known.now c.args.ready.now))
    (compared c.args.known.now c.args.ready.now m c.args.name.now c.index-known-ready.result Equal less (c.requires.within m 0 less) c.index-known-ready.is c.in-Equal.ensures)

pub returns-clause-missing : goal.returns-clause-missing
returns-clause-missing c =
    let names = names_at c.args.known.now c.args.ready.now in
    let long = length_names c.args.known.now c.args.ready.now in
    let all : c.loop-low.low ≤ length names = omega (arith, long) in
    let parts = gap_at names c.args.name.now c.loop-low.low all (c.loop-low.invariant.before) (λ k d h w. c.loop-low.invariant.after k d (omega arith) (omega (arith, long))) in
    record { within = all; before = parts.0; after = parts.1 }
