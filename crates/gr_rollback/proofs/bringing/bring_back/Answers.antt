use Rattle.std.proofs.Common.{refl}
use Rattle.gr_rollback.proofs.PoolBackLemmas.{brings_ready, brings_unready, brings_same}
use Rattle.gr_rollback.proofs.bringing.bring_back.Goals as goal

pub returns-in-Ready : goal.returns-in-Ready
returns-in-Ready c = record {
  known = c.insert.ensures.known;
  ready = λ s fits all. brings_ready c.args.go.now c.args.undo.now c.args.pool.now c.insert.new.self s fits all c.in-Ready.ensures c.insert.ensures.ready;
}

pub returns-in-Unready : goal.returns-in-Unready
returns-in-Unready c = record {
  known = c.remove.ensures.known;
  ready = λ s fits all. brings_unready c.args.go.now c.args.undo.now c.args.pool.now c.remove.new.self s fits all c.in-Unready.ensures c.remove.ensures.ready;
}

pub returns-in-Same : goal.returns-in-Same
returns-in-Same c = record {
  known = refl;
  ready = λ s fits all. brings_same c.args.go.now c.args.undo.now c.args.pool.now c.args.pool.now s fits all c.in-Same.ensures refl;
}
