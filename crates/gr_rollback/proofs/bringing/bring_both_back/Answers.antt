use Rattle.std.proofs.Common.{◌∷◌, [], ap, ◌∙◌}
use Rattle.gr_pool.specs.Goroutines.{is_among}
use Rattle.gr_rollback.proofs.PoolBackLemmas.{brings_more}
use Rattle.gr_rollback.proofs.bringing.bring_both_back.Goals as goal

pub bring_back-requires-2 : goal.bring_back-requires-2
bring_back-requires-2 c = ap (is_among c.args.go.now) c.bring_back.ensures.known ∙ c.requires.own

pub returns : goal.returns
returns c =
    brings_more (c.args.go.now, c.args.own.now) (c.args.met.now ∷ []) c.args.pool.now c.bring_back.new.pool c.bring_back-2.new.pool
    c.bring_back.ensures c.bring_back-2.ensures
