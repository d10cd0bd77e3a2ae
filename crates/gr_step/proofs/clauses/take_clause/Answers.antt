use Rattle.std.proofs.Common.{◌≡◌, suc, ◌<◌, ◌≤◌, length, arith}
use Rattle.gr_step.proofs.ClauseLemmas.{clause_numbered, none_numbered}
use Rattle.gr_step.proofs.clauses.take_clause.Goals as goal

pub returns-then-place-len : goal.returns-then-place-len
returns-then-place-len c =
    let is : c.args.number ≡ suc c.in_ok-place.place = omega (arith, c.in_ok-place.ensures) in
    let below : c.in_ok-place.place < length c.args.clauses.items = omega (arith, c.args.clauses.ok) in
    clause_numbered c.args.clauses.items c.args.number c.in_ok-place.place is c.swap_remove.result below c.swap_remove.ensures.value

pub returns : goal.returns
returns c =
    let is : c.args.number ≡ suc c.in_ok-place.place = omega (arith, c.in_ok-place.ensures) in
    let above : length c.args.clauses.items ≤ c.in_ok-place.place = omega (arith, c.args.clauses.ok) in
    none_numbered c.args.clauses.items c.args.number c.in_ok-place.place is above
