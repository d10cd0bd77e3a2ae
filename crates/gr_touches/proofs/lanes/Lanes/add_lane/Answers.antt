use Rattle.std.proofs.Common.{◌≡◌, cond, Some, [], ◌∷◌, ◌++◌, ap, subst, ◌∙◌, rules}
use Rattle.std.proofs.lemmas.Result.{err_from_is_err_and}
use Rattle.std.specs.Prelude.{OnOk}
use Rattle.std.specs.Option.{unwrap_or}
use Rattle.indexmap.specs.IndexMap.{get}
use Rattle.gr_base.specs.declared.objects.Object.{Object}
use Rattle.gr_rules.specs.States.{same}
use Rattle.gr_touches.specs.Lists.{list_of, nothing}
use Rattle.gr_touches.specs.ObjectRefs.{seen}
use Rattle.gr_touches.proofs.LaneLemmas.{changed, on_ok, with_run}
use Rattle.gr_touches.proofs.NoteLemmas.{one_added}
use Rattle.gr_touches.proofs.RoomLemmas.{no_room, room_after_insert}
use Rattle.gr_touches.proofs.AddingLemmas.{none_refused}
use Rattle.gr_touches.proofs.lanes.Lanes.add_lane.Goals as goal

pub returns-in_err-key : goal.returns-in_err-key
returns-in_err-key c =
    let told = err_from_is_err_and c.from_residual.result c.from_residual.ensures.1 in
    none_refused c.args.self.now c.args.touch (seen c.args.object.now) c.requires.other c.requires.absent told.1

pub returns-in_err-push : goal.returns-in_err-push
returns-in_err-push c =
    let told = err_from_is_err_and c.from_residual-in_err-push.result c.from_residual-in_err-push.ensures.1 in
    none_refused c.args.self.now c.args.touch (seen c.args.object.now) c.requires.other c.requires.absent told.1

pub returns : goal.returns
returns c = record {
  ok = on_ok c.insert.result _ _
      (λ all. one_added (seen c.args.object.now) (list_of c.args.self.now) (list_of c.insert.new.self) c.args.touch
      (with_run c.args.self.now c.insert.new.self (λ ts. ts ++ c.args.touch ∷ []) (seen c.args.object.now) c.insert.ensures.run
      (changed (λ k. k.0) c.args.self.now.run.items c.args.self.now.map c.insert.new.self.map (λ ts. ts ++ c.args.touch ∷ []) (seen c.args.object.now) c.requires.other
      nothing c.push.new.self (ap (λ o. unwrap_or o nothing) c.requires.absent) (c.in_ok-push.ensures.ok ∙ ap (λ ts. ts ++ c.args.touch ∷ []) c.new-lane.ensures)
      (subst (λ k. (p : Object) → get same c.insert.new.self.map p ≡ cond (same k p) (Some c.push.new.self) (get same c.args.self.now.map p)) c.in_ok-key.ensures all))))
      c.insert.ensures.ok;
  err = search rules;
  succeeds = λ fits. absurd (no_room c.args.self.now (seen c.args.object.now) c.requires.other c.requires.absent c.args.touch fits);
  room = room_after_insert c.args.self.now c.insert.new.self (seen c.args.object.now) c.push.new.self c.requires.absent c.insert.ensures.run c.insert.ensures.stops c.insert.result
      (subst (λ k. OnOk c.insert.result ((p : Object) → get same c.insert.new.self.map p ≡ cond (same k p) (Some c.push.new.self) (get same c.args.self.now.map p)))
      c.in_ok-key.ensures c.insert.ensures.ok)
      c.insert.ensures.err;
}
