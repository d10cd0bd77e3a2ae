use Rattle.std.proofs.Common.{vec_capacity, arith, sym, ap, ◌∙◌}
use Rattle.std.specs.Option.{option_copied_mut}
use Rattle.gr_touches.specs.Touches.{without_last}
use Rattle.gr_touches.specs.Lists.{list_of}
use Rattle.gr_touches.proofs.LaneLemmas.{written_unique, wrote}
use Rattle.gr_touches.proofs.NoteLemmas.{one_taken}
use Rattle.gr_touches.proofs.RoomLemmas.{keeps_room, grown, none_taken}
use Rattle.gr_touches.proofs.lanes.Lanes.take_from_lane.Goals as goal

pub invariant_of-self : goal.invariant_of-self
invariant_of-self g c = record { unique = written_unique c.args.self.now.map _ _ c.args.self.now.unique; writers = c.args.self.now.writers }

pub returns-in-Some-clause-lists : goal.returns-in-Some-clause-lists
returns-in-Some-clause-lists g c =
    one_taken (g.N.Named.object c.args.object.now) (list_of c.args.self.now) _
    (wrote (λ k. k.0) c.args.self.now.run.items c.args.self.now.map c.args.self.now.unique (g.N.Named.object c.args.object.now) c.requires c.in-Some.number c.in-Some.ensures.named
    c.unwrap.result.now c.pop.new.self (sym (ap option_copied_mut c.unwrap.ensures) ∙ c.get_index_mut.ensures.value) without_last c.pop.ensures.touches)

pub returns-in-Some-clause-room : goal.returns-in-Some-clause-room
returns-in-Some-clause-room g c =
    keeps_room c.args.self.now _
    (grown (vec_capacity c.args.self.now.run) c.args.self.now.map c.args.self.now.unique (g.N.Named.object c.args.object.now) c.requires c.in-Some.number c.in-Some.ensures.named
    c.unwrap.result.now c.pop.new.self (sym (ap option_copied_mut c.unwrap.ensures) ∙ c.get_index_mut.ensures.value) c.pop.ensures.room)
    (omega arith)

pub returns-in_default-clause-lists : goal.returns-in_default-clause-lists
returns-in_default-clause-lists g c = none_taken c.args.self.now (g.N.Named.object c.args.object.now) c.requires c.in_default.ensures.absent
