use Rattle.std.proofs.Common.{◌<◌, length, sym, ◌∙◌, arith}
use Rattle.gr_pool.proofs.Sets.{stands_same}
use Rattle.gr_pool.proofs.places.stands_at.Goals as goal

pub returns : goal.returns
returns c = λ same.
    let less : c.args.place < length c.args.ready.now = omega arith in
    stands_same c.args.known.now c.args.ready.now c.args.place c.args.name.now c.index-known-ready.result c.requires.ordered less (c.requires.within c.args.place 0 less) c.index-known-ready.is (sym c.eq.ensures ∙ same)
