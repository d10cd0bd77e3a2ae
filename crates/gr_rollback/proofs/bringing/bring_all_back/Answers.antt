use Rattle.std.proofs.Common.{◌≡◌, ◌-◌, drop, ap, sym, subst, ◌∙◌, arith}
use Rattle.std.proofs.lemmas.List.{drop_all}
use Rattle.gr_pool.specs.Goroutines.{is_among}
use Rattle.gr_rollback.specs.Prior.{BringsBack}
use Rattle.gr_rollback.specs.Readiness.{names_met}
use Rattle.gr_rollback.proofs.PoolBackLemmas.{brings_none, brings_on}
use Rattle.gr_rollback.proofs.PoolLemmas.{among_here, met_here}
use Rattle.gr_rollback.proofs.bringing.bring_all_back.Goals as goal

pub loop-left-init : goal.loop-left-init
loop-left-init c = record {
  within = omega arith;
  brings = subst (λ us. BringsBack us c.args.pool.now c.args.pool.now) (sym (drop_all _ c.args.changes.now (omega arith))) (brings_none c.args.pool.now);
}

pub bring_back-requires : goal.bring_back-requires
bring_back-requires c =
    let e = c.index-changes-left.result in
    let at = met_here c.args.changes.now (c.loop-left.left - 1) e (omega arith) c.index-changes-left.is in
    ap (is_among e.0) c.loop-left.invariant.brings.known
    ∙ c.requires e.0 (among_here (names_met c.args.changes.now) (c.loop-left.left - 1) e.0 at.0 at.1)

pub loop-left-preserved : goal.loop-left-preserved
loop-left-preserved c = record {
  within = omega arith;
  brings = brings_on c.args.changes.now (c.loop-left.left - 1) c.loop-left.left c.index-changes-left.result c.args.pool.now c.loop-left.pool c.bring_back.new.pool
      (omega arith) (omega arith) c.index-changes-left.is c.loop-left.invariant.brings c.bring_back.ensures;
}

pub returns : goal.returns
returns c =
    let done : c.loop-left.left ≡ 0 = omega arith in
    subst (λ n. BringsBack (drop n c.args.changes.now) c.args.pool.now c.loop-left.pool) done c.loop-left.invariant.brings
