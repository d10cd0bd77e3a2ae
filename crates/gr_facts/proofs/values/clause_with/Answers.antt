use Rattle.std.proofs.Common.{◌≡◌, suc, arith}
use Rattle.gr_facts.proofs.ValueLemmas.{clause_numbered}
use Rattle.gr_facts.proofs.values.clause_with.Goals as goal

pub returns : goal.returns
returns c =
    let is : c.args.number ≡ suc c.in_ok-place.place = omega (arith, c.in_ok-place.ensures) in
    clause_numbered c.args.clauses.now c.args.number c.in_ok-place.place _ is c.clause_at.ensures
