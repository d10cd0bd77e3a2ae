use Rattle.std.proofs.Common.{ap, subst, ◌∙◌}
use Rattle.gr_pool.specs.Goroutines.{is_among}
use Rattle.gr_step.specs.Fews.{members}
use Rattle.gr_rollback.specs.Prior.{BringsBack, Loses}
use Rattle.gr_rollback.proofs.PoolBackLemmas.{brings_more}
use Rattle.gr_rollback.proofs.bringing.bring_beyond_back.Goals as goal

pub bring_back-requires : goal.bring_back-requires
bring_back-requires c = ap (is_among c.args.go.now) c.bring_all_back.ensures.known ∙ c.requires.own

pub returns : goal.returns
returns c = record {
  mid = c.bring_back.new.pool;
  back = brings_more (c.args.go.now, c.args.own.now) (members c.args.beyond.now.met) c.args.pool.now c.bring_all_back.new.pool c.bring_back.new.pool
      (subst (λ us. BringsBack us c.args.pool.now c.bring_all_back.new.pool) c.as_slice.ensures c.bring_all_back.ensures) c.bring_back.ensures;
  loses = subst (λ o. Loses o c.bring_back.new.pool c.lose.new.pool) c.begins.ensures c.lose.ensures;
}
