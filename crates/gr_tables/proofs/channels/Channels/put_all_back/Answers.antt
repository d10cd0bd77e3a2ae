use Rattle.std.proofs.Common.{◌∙◌, [], ◌∷◌}
use Rattle.gr_tables.proofs.Returning.{last_fit, last_have_rooms, first_fit, first_back, first_have_rooms, first_spent}
use Rattle.gr_tables.proofs.channels.Channels.put_all_back.Goals as goal

pub put_back-requires-clause-fits : goal.put_back-requires-clause-fits
put_back-requires-clause-fits c =
    (last_fit c.loop-name.undos.items c.pop.new.self.items ((c.in-Some.name, c.in-Some.undo) ∷
    []) c.in-Some.ensures.items c.loop-name.self c.loop-name.invariant.fits).0

pub put_back-requires-clause-room : goal.put_back-requires-clause-room
put_back-requires-clause-room c =
    last_have_rooms c.loop-name.undos.items c.pop.new.self.items
    ((c.in-Some.name, c.in-Some.undo) ∷ []) c.in-Some.ensures.items c.loop-name.self c.loop-name.invariant.room

pub loop-name-preserved : goal.loop-name-preserved
loop-name-preserved c =
    let undos = c.loop-name.undos.items in
    let rest = c.pop.new.self.items in
    let last = (c.in-Some.name, c.in-Some.undo) ∷ [] in
    let are = c.in-Some.ensures.items in
    let old = c.loop-name.self in
    let new = c.put_back.new.self in
    record {
      back = λ q. first_back undos rest last are old new c.put_back.ensures q ∙ c.loop-name.invariant.back q;
      fits = first_fit undos rest last are old new c.put_back.ensures c.loop-name.invariant.fits;
      room = first_have_rooms undos rest last are old new c.put_back.ensures c.loop-name.invariant.room;
      spent = λ q. first_spent undos rest last are old new c.put_back.ensures c.args.self.now c.args.undos.items q (c.loop-name.invariant.spent q);
    }
