use Rattle.std.proofs.Common.{◌∙◌, sym, ap, refl, option_map}
use Rattle.std.specs.Option.{option_copied_mut}
use Rattle.gr_channels.specs.Changes.{CloseNeedsMemory}
use Rattle.gr_tables.specs.NamedChannels.{once_closed}
use Rattle.gr_tables.proofs.SeenLemmas.{lent}
use Rattle.gr_tables.proofs.AnswerLemmas.{back_at_ok, changes_at, content_at_err, rooms_at_err, same_at_err}
use Rattle.gr_tables.proofs.Validity.{lent_valid, gate_valid}
use Rattle.gr_tables.proofs.channels.Channels.close.Goals as goal

pub returns-clause-change : goal.returns-clause-change
returns-clause-change c =
    let new = c.get_mut.follows.lender c.close.new.self in
    let writes = (c.get_mut.follows.holds c.close.new.self).3 in
    changes_at c.args.self.now _ (lent c.args.name.now c.get_mut.result c.unwrap.result c.close.new.self c.args.self.now.map new c.get_mut.ensures.value
    c.unwrap.ensures writes)
    once_closed c.close.result c.close.ensures.ok

pub returns-clause-back : goal.returns-clause-back
returns-clause-back c =
    let new = c.get_mut.follows.lender c.close.new.self in
    let writes = (c.get_mut.follows.holds c.close.new.self).3 in
    back_at_ok c.args.self.now _ (lent c.args.name.now c.get_mut.result c.unwrap.result c.close.new.self c.args.self.now.map new c.get_mut.ensures.value
    c.unwrap.ensures writes)
    c.close.result c.close.ensures.undone

pub returns-clause-err : goal.returns-clause-err
returns-clause-err c =
    let new = c.get_mut.follows.lender c.close.new.self in
    let writes = (c.get_mut.follows.holds c.close.new.self).3 in
    same_at_err (lent c.args.name.now c.get_mut.result c.unwrap.result c.close.new.self c.args.self.now.map new c.get_mut.ensures.value c.unwrap.ensures writes)
    c.close.result c.close.ensures.err

pub returns-clause-err_rooms : goal.returns-clause-err_rooms
returns-clause-err_rooms c =
    let new = c.get_mut.follows.lender c.close.new.self in
    let writes = (c.get_mut.follows.holds c.close.new.self).3 in
    rooms_at_err (lent c.args.name.now c.get_mut.result c.unwrap.result c.close.new.self c.args.self.now.map new c.get_mut.ensures.value
    c.unwrap.ensures writes)
    c.close.result c.close.ensures.err_room

pub returns-clause-needed : goal.returns-clause-needed
returns-clause-needed c =
    let new = c.get_mut.follows.lender c.close.new.self in
    let writes = (c.get_mut.follows.holds c.close.new.self).3 in
    content_at_err (lent c.args.name.now c.get_mut.result c.unwrap.result c.close.new.self c.args.self.now.map new c.get_mut.ensures.value
    c.unwrap.ensures writes)
    c.close.result CloseNeedsMemory c.close.ensures.needed

pub invariant_of-self : goal.invariant_of-self
invariant_of-self c =
    let old = c.args.self.now in
    let was = sym c.get_mut.ensures.value ∙ ap option_copied_mut c.unwrap.ensures in
    let seen = ap (option_map (λ x. x.content)) was in
    record {
      are_channels = lent_valid old.map (c.get_mut.follows.lender c.close.new.self) c.args.name.now c.unwrap.result.now
          c.close.new.self old.are_channels was (c.get_mut.follows.holds c.close.new.self).3
          (λ valid. gate_valid c.unwrap.result.now.content c.close.new.self.content
          (once_closed c.unwrap.result.now.content) c.close.result valid refl refl refl c.close.ensures.ok c.close.ensures.err);
    }
