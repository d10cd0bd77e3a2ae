use Rattle.std.proofs.Common.{List, [], ◌∷◌, refl, subst}
use Rattle.std.specs.Prelude.{option_map}
use Rattle.std.proofs.lemmas.Result.{err_from_is_err_and}
use Rattle.gr_base.specs.declared.objects.Object.{Object}
use Rattle.gr_base.specs.declared.objects.Object.TheVariants.{Go}
use Rattle.gr_record.specs.Parts.{channel_in, parts_before}
use Rattle.gr_touches.specs.Lists.{TakesFor}
use Rattle.gr_touches.proofs.AddingLemmas.{noted_as, first_refused, second_refused, both_noted, writes_met, writes_unmet}
use Rattle.gr_touches.proofs.lanes.Lanes.note_written_beyond.Goals as goal

pub returns-in_default : goal.returns-in_default
returns-in_default c =
    noted_as c.args.self.now c.note_channel.new.self c.args.touch _ _ (writes_unmet c.args.beyond.now c.others_written-others.result.now c.others_written-others.ensures c.in_default.is) c.note_channel.ensures

pub returns-in_err-note_channel : goal.returns-in_err-note_channel
returns-in_err-note_channel c =
    let parts = parts_before c.args.beyond.now.touched.written c.args.beyond.now.touched.slot (option_map channel_in c.args.beyond.now.operation) [] in
    let met = Go c.in-Some.partner ∷ c.others_written-others.result.now in
    let told = err_from_is_err_and c.from_residual.result c.from_residual.ensures.1 in
    noted_as c.args.self.now c.note_channel-2.new.self c.args.touch _ _ (writes_met c.args.beyond.now c.in-Some.partner c.others_written-others.result.now c.others_written-others.ensures c.in-Some.is)
    (first_refused c.args.self.now c.note_channel-2.new.self c.args.touch parts met refl told.1 c.in_err-note_channel.ensures)

pub returns-in-Err : goal.returns-in-Err
returns-in-Err c =
    let parts = parts_before c.args.beyond.now.touched.written c.args.beyond.now.touched.slot (option_map channel_in c.args.beyond.now.operation) [] in
    let met = Go c.in-Some.partner ∷ c.others_written-others.result.now in
    noted_as c.args.self.now c.forget_list.new.self c.args.touch _ _ (writes_met c.args.beyond.now c.in-Some.partner c.others_written-others.result.now c.others_written-others.ensures c.in-Some.is)
    (second_refused c.args.self.now c.note_channel-2.new.self c.note_partner-noted.new.self c.forget_list.new.self c.args.touch parts met refl refl refl c.in_ok-note_channel.ensures c.in-Err.ensures
    (subst (λ (os : List Object). TakesFor os c.note_partner-noted.new.self c.forget_list.new.self) c.parts_written.ensures c.forget_list.ensures.lists)
    c.forget_list.ensures.room)

pub returns : goal.returns
returns c =
    let parts = parts_before c.args.beyond.now.touched.written c.args.beyond.now.touched.slot (option_map channel_in c.args.beyond.now.operation) [] in
    let met = Go c.in-Some.partner ∷ c.others_written-others.result.now in
    noted_as c.args.self.now c.note_partner-noted.new.self c.args.touch _ _ (writes_met c.args.beyond.now c.in-Some.partner c.others_written-others.result.now c.others_written-others.ensures c.in-Some.is)
    (both_noted c.args.self.now c.note_channel-2.new.self c.note_partner-noted.new.self c.args.touch parts met refl refl refl c.in_ok-note_channel.ensures c.in_default-noted.ensures)
