use Rattle.gr_syntax.proofs.ClauseTurns.{select_is}
use Rattle.gr_syntax.proofs.assembly.select_stmt.Goals as goal

pub returns : goal.returns
returns c = select_is c.args.place c.args.clauses
