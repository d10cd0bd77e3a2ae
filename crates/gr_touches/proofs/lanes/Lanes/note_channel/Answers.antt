use Rattle.std.proofs.Common.{List, [], Some, refl, subst}
use Rattle.std.proofs.lemmas.Result.{err_from_is_err_and}
use Rattle.gr_base.specs.declared.objects.Object.{Object}
use Rattle.gr_record.specs.Parts.{parts_before}
use Rattle.gr_touches.specs.Lists.{TakesFor}
use Rattle.gr_touches.proofs.AddingLemmas.{noted_as, first_refused, second_refused, both_noted, parts_first, parts_none}
use Rattle.gr_touches.proofs.lanes.Lanes.note_channel.Goals as goal

pub returns-in_default : goal.returns-in_default
returns-in_default c =
    noted_as c.args.self.now c.note_all.new.self c.args.touch c.args.others.now _
    (parts_none c.args.parts c.args.beyond.now.touched.slot c.args.beyond.now.operation c.args.others.now c.in_default.is) c.note_all.ensures

pub returns-in_err-note_parts : goal.returns-in_err-note_parts
returns-in_err-note_parts c =
    let parts = parts_before c.args.parts c.args.beyond.now.touched.slot (Some c.channel-channel.result.now) [] in
    let told = err_from_is_err_and c.from_residual.result c.from_residual.ensures.1 in
    noted_as c.args.self.now c.note_parts-2.new.self c.args.touch _ _ (parts_first c.args.parts c.args.beyond.now.touched.slot c.args.beyond.now.operation c.in-Some.operation c.channel-channel.result.now c.args.others.now
    c.in-Some.is c.channel-channel.ensures)
    (first_refused c.args.self.now c.note_parts-2.new.self c.args.touch parts c.args.others.now refl told.1 c.in_err-note_parts.ensures)

pub returns-in-Err : goal.returns-in-Err
returns-in-Err c =
    let parts = parts_before c.args.parts c.args.beyond.now.touched.slot (Some c.channel-channel.result.now) [] in
    noted_as c.args.self.now c.forget_list.new.self c.args.touch _ _ (parts_first c.args.parts c.args.beyond.now.touched.slot c.args.beyond.now.operation c.in-Some.operation c.channel-channel.result.now c.args.others.now
    c.in-Some.is c.channel-channel.ensures)
    (second_refused c.args.self.now c.note_parts-2.new.self c.note_all-noted.new.self c.forget_list.new.self c.args.touch parts c.args.others.now refl refl refl c.in_ok-note_parts.ensures c.in-Err.ensures
    (subst (λ (os : List Object). TakesFor os c.note_all-noted.new.self c.forget_list.new.self) c.parts_of.ensures c.forget_list.ensures.lists)
    c.forget_list.ensures.room)

pub returns : goal.returns
returns c =
    let parts = parts_before c.args.parts c.args.beyond.now.touched.slot (Some c.channel-channel.result.now) [] in
    noted_as c.args.self.now c.note_all-noted.new.self c.args.touch _ _ (parts_first c.args.parts c.args.beyond.now.touched.slot c.args.beyond.now.operation c.in-Some.operation c.channel-channel.result.now c.args.others.now
    c.in-Some.is c.channel-channel.ensures)
    (both_noted c.args.self.now c.note_parts-2.new.self c.note_all-noted.new.self c.args.touch parts c.args.others.now refl refl refl c.in_ok-note_parts.ensures c.in_default-noted.ensures)
