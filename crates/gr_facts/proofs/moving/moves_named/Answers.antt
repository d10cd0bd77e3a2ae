use Rattle.std.proofs.lemmas.Result.{IfOk-weaker}
use Rattle.gr_facts.proofs.MovedLemmas.{named_row, no_row}
use Rattle.gr_facts.proofs.moving.moves_named.Goals as goal

pub returns-in-Some-clause-moves : goal.returns-in-Some-clause-moves
returns-in-Some-clause-moves c =
    let found = rw c.log.ensures at c.in-Some.ensures.found in
    IfOk-weaker c.moves_from.result _ _
    (λ rows moves p w s. named_row p w c.args.leader.now s c.args.id.now c.in-Some.place found rows.items (moves p w s)) c.moves_from.ensures.moves

pub returns-in-None-clause-moves : goal.returns-in-None-clause-moves
returns-in-None-clause-moves c = λ p w s.
    let none = rw c.log.ensures at c.in-None.ensures.missing in
    no_row p w c.args.leader.now s c.args.id.now none c.new.result.items c.new.ensures.items
