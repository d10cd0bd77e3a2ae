use Rattle.std.proofs.Common.{List, [], ◌∷◌, Some, refl, subst}
use Rattle.std.proofs.lemmas.Result.{err_from_is_err_and}
use Rattle.gr_base.specs.declared.objects.Object.{Object}
use Rattle.gr_base.specs.declared.objects.Object.TheVariants.{Go}
use Rattle.gr_touches.specs.Lists.{TakesFor}
use Rattle.gr_touches.specs.Told.{written_on}
use Rattle.gr_touches.proofs.AddingLemmas.{noted_as, first_refused, second_refused, both_noted, parts_split}
use Rattle.gr_touches.proofs.lanes.Lanes.note_pair.Goals as goal

pub returns-in_err-note_parts : goal.returns-in_err-note_parts
returns-in_err-note_parts c =
    let parts = written_on c.args.channel.now c.args.touched in
    let told = err_from_is_err_and c.from_residual.result c.from_residual.ensures.1 in
    noted_as c.args.self.now c.note_parts.new.self c.args.touch _ _
    (parts_split c.args.touched.written c.args.touched.slot (Some c.args.channel.now) (Go c.args.partner.now ∷ []))
    (first_refused c.args.self.now c.note_parts.new.self c.args.touch parts (Go c.args.partner.now ∷ []) refl told.1 c.in_err-note_parts.ensures)

pub returns-in-Err : goal.returns-in-Err
returns-in-Err c =
    let parts = written_on c.args.channel.now c.args.touched in
    noted_as c.args.self.now c.forget_list.new.self c.args.touch _ _
    (parts_split c.args.touched.written c.args.touched.slot (Some c.args.channel.now) (Go c.args.partner.now ∷ []))
    (second_refused c.args.self.now c.note_parts.new.self c.add_to_lane-noted.new.self c.forget_list.new.self c.args.touch parts
    (Go c.args.partner.now ∷ []) refl refl refl c.in_ok-note_parts.ensures c.in-Err.ensures
    (subst (λ (os : List Object). TakesFor os c.add_to_lane-noted.new.self c.forget_list.new.self) c.parts_of.ensures c.forget_list.ensures.lists)
    c.forget_list.ensures.room)

pub returns : goal.returns
returns c =
    let parts = written_on c.args.channel.now c.args.touched in
    noted_as c.args.self.now c.add_to_lane-noted.new.self c.args.touch _ _
    (parts_split c.args.touched.written c.args.touched.slot (Some c.args.channel.now) (Go c.args.partner.now ∷ []))
    (both_noted c.args.self.now c.note_parts.new.self c.add_to_lane-noted.new.self c.args.touch parts (Go c.args.partner.now ∷ []) refl refl refl
    c.in_ok-note_parts.ensures c.in_default.ensures)
