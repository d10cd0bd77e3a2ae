use Rattle.std.proofs.Common.{vec_capacity, arith, [], ◌∷◌, ◌++◌, sym, ap, ◌∙◌}
use Rattle.std.specs.Option.{option_copied_mut}
use Rattle.gr_touches.specs.Lists.{list_of}
use Rattle.gr_touches.proofs.LaneLemmas.{written_unique, wrote, wrote_nothing, on_ok, on_err}
use Rattle.gr_touches.proofs.NoteLemmas.{one_added}
use Rattle.gr_touches.proofs.RoomLemmas.{keeps_room, grown, has_room}
use Rattle.gr_touches.proofs.lanes.Lanes.add_to_lane.Goals as goal

pub invariant_of-self : goal.invariant_of-self
invariant_of-self g c = record { unique = written_unique c.args.self.now.map _ _ c.args.self.now.unique; writers = c.args.self.now.writers }

pub returns-in-Some : goal.returns-in-Some
returns-in-Some g c =
    let o = g.N.Named.object c.args.object.now in
    let m = c.args.self.now.map in
    let unique = c.args.self.now.unique in
    let value = sym (ap option_copied_mut c.unwrap.ensures) ∙ c.get_index_mut.ensures.value in
    record {
      ok = on_ok c.push.result _ _
          (λ e. one_added o (list_of c.args.self.now) _ c.args.touch
          (wrote (λ k. k.0) c.args.self.now.run.items m unique o c.requires c.in-Some.number c.in-Some.ensures.named c.unwrap.result.now c.push.new.self value
          (λ ts. ts ++ c.args.touch ∷ []) e))
          c.push.ensures.ok;
      err = on_err c.push.result _ _
          (λ e. wrote_nothing (λ k. k.0) c.args.self.now.run.items m unique o c.requires c.in-Some.number c.in-Some.ensures.named c.unwrap.result.now c.push.new.self value e)
          c.push.ensures.err;
      succeeds = λ fits. c.push.ensures.succeeds
          (has_room c.args.self.now o c.requires c.in-Some.number c.in-Some.ensures.named c.unwrap.result.now value c.args.touch fits);
      room = keeps_room c.args.self.now _
          (grown (vec_capacity c.args.self.now.run) m unique o c.requires c.in-Some.number c.in-Some.ensures.named c.unwrap.result.now c.push.new.self value
          c.push.ensures.room)
          (omega arith);
    }
