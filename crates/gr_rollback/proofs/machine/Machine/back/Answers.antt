use Rattle.std.proofs.Common.{Bool, List, ap, sym, subst, ◌∙◌}
use Rattle.std.specs.Prelude.{slice_get}
use Rattle.gr_step.specs.Stores.{contents_at}
use Rattle.gr_depend.specs.Logs.{records_of}
use Rattle.gr_depend.specs.Room.{CanTake}
use Rattle.gr_rollback.specs.Walks.{IsNew}
use Rattle.gr_rollback.proofs.BackLemmas.{none_is_back, within_list, marks_count, marks_tell, rolls, takes_none, takes_all, takes_some, named_here, not_named, aside_is_kept}
use Rattle.gr_rollback.proofs.UnwindLemmas.{way_begins}
use Rattle.gr_rollback.proofs.machine.Machine.back.Goals as goal

pub returns-in_default-clause-back : goal.returns-in_default-clause-back
returns-in_default-clause-back c = λ p w s.
    ((λ place named. not_named p w.past c.args.self.now.course s.holds c.args.id.now place (c.in_default.ensures.missing place) named), s)

pub dependents-requires : goal.dependents-requires
dependents-requires c = within_list (records_of c.args.self.now.course.log) c.in-Some.at c.in-Some.ensures.found.step c.in-Some.ensures.found.there

pub returns-in_default-dependents-clause-back : goal.returns-in_default-dependents-clause-back
returns-in_default-dependents-clause-back c = λ p w s.
    takes_none p w c.args.self.now s c.args.id.now c.in-Some.at c.in-Some.ensures.found c.new.result.items c.new.ensures.items

pub returns-in_default-with_room-clause-back : goal.returns-in_default-with_room-clause-back
returns-in_default-with_room-clause-back c = λ p w s.
    takes_none p w c.args.self.now s c.args.id.now c.in-Some.at c.in-Some.ensures.found c.new-in_default-with_room.result.items c.new-in_default-with_room.ensures.items

pub unwind-done-requires : goal.unwind-done-requires
unwind-done-requires c =
    let old = c.args.self.now.course in
    let at = c.in-Some.at in
    let marks = c.deref-2.result.now in
    let count = marks_count old at marks c.in-Ok.marks.items c.deref-2.ensures.value c.in-Ok.ensures.count
    (within_list (records_of old.log) at c.in-Some.ensures.found.step c.in-Some.ensures.found.there) in
    let members = marks_tell old at marks c.in-Ok.marks.items c.deref-2.ensures.value c.in-Ok.ensures.members in
    let goes = rolls _ c.requires.world.past old c.requires.stands.holds at marks count members in
    let begins = way_begins old at marks c.in-Ok-with_room.rollback goes
    (subst (λ ms. IsNew ms c.in-Ok-with_room.rollback) (c.deref.ensures.value ∙ sym c.deref-2.ensures.value) c.in-Ok-with_room.ensures) c.law_of_no_steps.ensures in
    record { start = old; rolls = goes; way = begins }

pub finish-ids-requires-clause-room : goal.finish-ids-requires-clause-room
finish-ids-requires-clause-room c =
    let old = c.args.self.now.course in
    let at = c.in-Some.at in
    let marks = c.deref-2.result.now in
    let count = marks_count old at marks c.in-Ok.marks.items c.deref-2.ensures.value c.in-Ok.ensures.count
    (within_list (records_of old.log) at c.in-Some.ensures.found.step c.in-Some.ensures.found.there) in
    let members = marks_tell old at marks c.in-Ok.marks.items c.deref-2.ensures.value c.in-Ok.ensures.members in
    let goes = rolls _ c.requires.world.past old c.requires.stands.holds at marks count members in
    let begins = way_begins old at marks c.in-Ok-with_room.rollback goes
    (subst (λ ms. IsNew ms c.in-Ok-with_room.rollback) (c.deref.ensures.value ∙ sym c.deref-2.ensures.value) c.in-Ok-with_room.ensures) c.law_of_no_steps.ensures in
    let way = c.unwind-done.ensures.way old goes begins in
    subst (CanTake c.unwind-done.new.self.log) (sym way.aside) way.log_room

pub finish-ids-requires-clause-once : goal.finish-ids-requires-clause-once
finish-ids-requires-clause-once c = λ r i.
    let old = c.args.self.now.course in
    let at = c.in-Some.at in
    let marks = c.deref-2.result.now in
    let count = marks_count old at marks c.in-Ok.marks.items c.deref-2.ensures.value c.in-Ok.ensures.count
    (within_list (records_of old.log) at c.in-Some.ensures.found.step c.in-Some.ensures.found.there) in
    let members = marks_tell old at marks c.in-Ok.marks.items c.deref-2.ensures.value c.in-Ok.ensures.members in
    let goes = rolls _ c.requires.world.past old c.requires.stands.holds at marks count members in
    let begins = way_begins old at marks c.in-Ok-with_room.rollback goes
    (subst (λ ms. IsNew ms c.in-Ok-with_room.rollback) (c.deref.ensures.value ∙ sym c.deref-2.ensures.value) c.in-Ok-with_room.ensures) c.law_of_no_steps.ensures in
    let way = c.unwind-done.ensures.way old goes begins in
    goes.once r (aside_is_kept old at marks c.unwind-done.new.self c.unwind-done.new.rollback way r i)

pub returns-in-Ok-done-clause-back : goal.returns-in-Ok-done-clause-back
returns-in-Ok-done-clause-back c = λ p w s.
    let old = c.args.self.now.course in
    let at = c.in-Some.at in
    let marks = c.deref-2.result.now in
    let count = marks_count old at marks c.in-Ok.marks.items c.deref-2.ensures.value c.in-Ok.ensures.count
    (within_list (records_of old.log) at c.in-Some.ensures.found.step c.in-Some.ensures.found.there) in
    let members = marks_tell old at marks c.in-Ok.marks.items c.deref-2.ensures.value c.in-Ok.ensures.members in
    let goes = rolls _ c.requires.world.past old c.requires.stands.holds at marks count members in
    let begins = way_begins old at marks c.in-Ok-with_room.rollback goes
    (subst (λ ms. IsNew ms c.in-Ok-with_room.rollback) (c.deref.ensures.value ∙ sym c.deref-2.ensures.value) c.in-Ok-with_room.ensures) c.law_of_no_steps.ensures in
    let way = c.unwind-done.ensures.way old goes begins in
    takes_all p w c.args.self.now s at marks count members c.unwind-done.new.self c.unwind-done.new.rollback way c.unwind-done.ensures.listing c.finish-ids.new.self c.finish-ids.ensures.records
    c.finish-ids.ensures.store c.finish-ids.ensures.pool c.finish-ids.ensures.first c.finish-ids.ensures.again c.args.id.now
    (named_here p w.past c.args.self.now.course s.holds c.args.id.now c.in-Some.at c.in-Some.ensures.found) c.in-Ok-done.ensures.whole
    c.finish-ids.result.items c.finish-ids.ensures.ids

pub returns-clause-back : goal.returns-clause-back
returns-clause-back c = λ p w s.
    let old = c.args.self.now.course in
    let at = c.in-Some.at in
    let marks = c.deref-2.result.now in
    let count = marks_count old at marks c.in-Ok.marks.items c.deref-2.ensures.value c.in-Ok.ensures.count
    (within_list (records_of old.log) at c.in-Some.ensures.found.step c.in-Some.ensures.found.there) in
    let members = marks_tell old at marks c.in-Ok.marks.items c.deref-2.ensures.value c.in-Ok.ensures.members in
    let goes = rolls _ c.requires.world.past old c.requires.stands.holds at marks count members in
    let begins = way_begins old at marks c.in-Ok-with_room.rollback goes
    (subst (λ ms. IsNew ms c.in-Ok-with_room.rollback) (c.deref.ensures.value ∙ sym c.deref-2.ensures.value) c.in-Ok-with_room.ensures) c.law_of_no_steps.ensures in
    let way = c.unwind-done.ensures.way old goes begins in
    takes_some p w c.args.self.now s at marks count members c.unwind-done.new.self c.unwind-done.new.rollback way c.unwind-done.ensures.listing c.finish-ids.new.self c.finish-ids.ensures.records
    c.finish-ids.ensures.store c.finish-ids.ensures.pool c.finish-ids.ensures.first c.finish-ids.ensures.again c.args.id.now
    (named_here p w.past c.args.self.now.course s.holds c.args.id.now c.in-Some.at c.in-Some.ensures.found)
    (ap (λ (ms : List Bool). slice_get ms 0) c.deref-2.ensures.value ∙ c.in-Ok.ensures.first) c.in-Err.ensures.left
    c.finish-ids.result.items c.finish-ids.ensures.ids

pub returns-clause-err : goal.returns-clause-err
returns-clause-err c = λ none.
    let old = c.args.self.now.course in
    let at = c.in-Some.at in
    let marks = c.deref-2.result.now in
    let count = marks_count old at marks c.in-Ok.marks.items c.deref-2.ensures.value c.in-Ok.ensures.count
    (within_list (records_of old.log) at c.in-Some.ensures.found.step c.in-Some.ensures.found.there) in
    let members = marks_tell old at marks c.in-Ok.marks.items c.deref-2.ensures.value c.in-Ok.ensures.members in
    let goes = rolls _ c.requires.world.past old c.requires.stands.holds at marks count members in
    let begins = way_begins old at marks c.in-Ok-with_room.rollback goes
    (subst (λ ms. IsNew ms c.in-Ok-with_room.rollback) (c.deref.ensures.value ∙ sym c.deref-2.ensures.value) c.in-Ok-with_room.ensures) c.law_of_no_steps.ensures in
    let way = c.unwind-done.ensures.way old goes begins in
    ap contents_at c.finish-ids.ensures.store
    ∙ none_is_back old at marks c.unwind-done.new.self c.unwind-done.new.rollback way c.finish-ids.result.items c.finish-ids.ensures.ids none
