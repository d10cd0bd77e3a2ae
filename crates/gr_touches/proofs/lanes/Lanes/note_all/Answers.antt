use Rattle.std.proofs.Common.{◌≡◌, true, false, List, [], ◌∷◌, refl, sym, ◌∙◌, subst, append-nil, arith}
use Rattle.std.proofs.lemmas.List.{take_all}
use Rattle.gr_base.specs.declared.objects.Object.{Object}
use Rattle.gr_touches.specs.Lists.{list_of, AddsFor}
use Rattle.gr_touches.specs.Room.{FitsFor}
use Rattle.gr_touches.proofs.NoteLemmas.{added_more}
use Rattle.gr_touches.proofs.RoomLemmas.{fits_next}
use Rattle.gr_touches.proofs.lanes.Lanes.note_all.Goals as goal

pub loop-i-init : goal.loop-i-init
loop-i-init c = record {
  lists = λ q. sym (append-nil (list_of c.args.self.now q));
  room = λ lists fits. fits;
}

pub loop-i-preserved : goal.loop-i-preserved
loop-i-preserved c = record {
  lists = added_more c.args.objects.now c.loop-i.i c.index-objects-i.result (omega arith) c.index-objects-i.is
      c.args.self.now c.loop-i.self c.add-added.new.self c.args.touch c.loop-i.invariant.lists
      (subst (λ o. AddsFor (o ∷ []) c.args.touch c.loop-i.self c.add-added.new.self) c.of.ensures c.in_default.ensures.ok);
  room = λ lists fits. c.add-added.ensures.room lists (c.loop-i.invariant.room lists fits);
}

pub returns-in-Err : goal.returns-in-Err
returns-in-Err c = record {
  ok = tt;
  err = c.forget_all.ensures.lists (list_of c.args.self.now) c.args.touch (λ q. c.in-Err.ensures.err q ∙ c.loop-i.invariant.lists q);
  succeeds = λ fits.
      let no : false ≡ true = c.in-Err.ensures.succeeds
      (subst (λ o. FitsFor (o ∷ []) c.args.touch c.loop-i.self) (sym c.of.ensures)
      (fits_next c.args.self.now c.loop-i.self c.args.touch c.args.objects.now c.loop-i.i c.index-objects-i.result (omega arith) c.index-objects-i.is
      c.loop-i.invariant.lists c.loop-i.invariant.room fits)) in
      absurd (let never : false ≡ true = no in cc);
  room = λ lists fits. c.forget_all.ensures.room lists (c.add-added.ensures.room lists (c.loop-i.invariant.room lists fits));
}

pub returns : goal.returns
returns c = record {
  ok = subst (λ (l : List Object). AddsFor l c.args.touch c.args.self.now c.loop-i.self) (take_all _ c.args.objects.now (omega arith)) c.loop-i.invariant.lists;
  err = tt;
  succeeds = λ fits. refl;
  room = c.loop-i.invariant.room;
}
