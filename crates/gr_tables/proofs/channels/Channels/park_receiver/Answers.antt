use Rattle.std.proofs.Common.{◌∙◌, sym, ap, refl, option_map}
use Rattle.std.specs.Option.{option_copied_mut}
use Rattle.gr_tables.specs.NamedChannels.{with_receiver}
use Rattle.gr_tables.proofs.SeenLemmas.{lent}
use Rattle.gr_tables.proofs.AnswerLemmas.{back_at_ok, changes_at, same_at_err}
use Rattle.gr_tables.proofs.Validity.{lent_valid, gate_valid}
use Rattle.gr_tables.proofs.channels.Channels.park_receiver.Goals as goal

pub returns-clause-change : goal.returns-clause-change
returns-clause-change c =
    let new = c.get_mut.follows.lender c.park_receiver.new.self in
    let writes = (c.get_mut.follows.holds c.park_receiver.new.self).3 in
    changes_at c.args.self.now _ (lent c.args.name.now c.get_mut.result c.unwrap.result c.park_receiver.new.self c.args.self.now.map new
    c.get_mut.ensures.value c.unwrap.ensures writes)
    (with_receiver c.args.waiter) c.park_receiver.result c.park_receiver.ensures.ok

pub returns-clause-back : goal.returns-clause-back
returns-clause-back c =
    let new = c.get_mut.follows.lender c.park_receiver.new.self in
    let writes = (c.get_mut.follows.holds c.park_receiver.new.self).3 in
    back_at_ok c.args.self.now _ (lent c.args.name.now c.get_mut.result c.unwrap.result c.park_receiver.new.self c.args.self.now.map new
    c.get_mut.ensures.value c.unwrap.ensures writes)
    c.park_receiver.result c.park_receiver.ensures.undone

pub returns-clause-err : goal.returns-clause-err
returns-clause-err c =
    let new = c.get_mut.follows.lender c.park_receiver.new.self in
    let writes = (c.get_mut.follows.holds c.park_receiver.new.self).3 in
    same_at_err (lent c.args.name.now c.get_mut.result c.unwrap.result c.park_receiver.new.self c.args.self.now.map new c.get_mut.ensures.value
    c.unwrap.ensures writes)
    c.park_receiver.result c.park_receiver.ensures.err

pub invariant_of-self : goal.invariant_of-self
invariant_of-self c =
    let old = c.args.self.now in
    let was = sym c.get_mut.ensures.value ∙ ap option_copied_mut c.unwrap.ensures in
    let seen = ap (option_map (λ x. x.content)) was in
    record {
      are_channels = lent_valid old.map (c.get_mut.follows.lender c.park_receiver.new.self) c.args.name.now c.unwrap.result.now
          c.park_receiver.new.self old.are_channels was (c.get_mut.follows.holds c.park_receiver.new.self).3
          (λ valid. gate_valid c.unwrap.result.now.content c.park_receiver.new.self.content
          (with_receiver c.args.waiter c.unwrap.result.now.content) c.park_receiver.result valid refl refl refl c.park_receiver.ensures.ok
          c.park_receiver.ensures.err);
    }
