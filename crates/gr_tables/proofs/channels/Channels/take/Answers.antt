use Rattle.std.proofs.Common.{◌∙◌, sym, ap, option_map}
use Rattle.std.specs.Option.{option_copied_mut}
use Rattle.gr_channels.specs.Changes.{TakeNeedsMemory}
use Rattle.gr_tables.proofs.SeenLemmas.{lent}
use Rattle.gr_tables.proofs.AnswerLemmas.{content_at_err, seen_at_err, take_at, undo_all}
use Rattle.gr_tables.proofs.Validity.{lent_valid, taken_valid, can_enter}
use Rattle.gr_tables.proofs.channels.Channels.take.Goals as goal

pub returns-clause-rule : goal.returns-clause-rule
returns-clause-rule c =
    let new = c.get_mut.follows.lender c.take.new.self in
    let writes = (c.get_mut.follows.holds c.take.new.self).3 in
    take_at c.args.self.now _ (lent c.args.name.now c.get_mut.result c.unwrap.result c.take.new.self c.args.self.now.map new c.get_mut.ensures.value
    c.unwrap.ensures writes)
    c.take.result c.take.ensures.rule

pub returns-clause-back : goal.returns-clause-back
returns-clause-back c =
    let new = c.get_mut.follows.lender c.take.new.self in
    let writes = (c.get_mut.follows.holds c.take.new.self).3 in
    undo_all c.args.self.now _ (lent c.args.name.now c.get_mut.result c.unwrap.result c.take.new.self c.args.self.now.map new c.get_mut.ensures.value
    c.unwrap.ensures writes)
    c.take.result c.take.ensures.rule c.take.ensures.undone

pub returns-clause-err : goal.returns-clause-err
returns-clause-err c =
    let new = c.get_mut.follows.lender c.take.new.self in
    let writes = (c.get_mut.follows.holds c.take.new.self).3 in
    seen_at_err (lent c.args.name.now c.get_mut.result c.unwrap.result c.take.new.self c.args.self.now.map new c.get_mut.ensures.value c.unwrap.ensures writes)
    c.take.result c.take.ensures.err

pub returns-clause-needed : goal.returns-clause-needed
returns-clause-needed c =
    let new = c.get_mut.follows.lender c.take.new.self in
    let writes = (c.get_mut.follows.holds c.take.new.self).3 in
    content_at_err (lent c.args.name.now c.get_mut.result c.unwrap.result c.take.new.self c.args.self.now.map new c.get_mut.ensures.value
    c.unwrap.ensures writes)
    c.take.result TakeNeedsMemory c.take.ensures.needed

pub invariant_of-self : goal.invariant_of-self
invariant_of-self c =
    let old = c.args.self.now in
    let was = sym c.get_mut.ensures.value ∙ ap option_copied_mut c.unwrap.ensures in
    let seen = ap (option_map (λ x. x.content)) was in
    record {
      are_channels = lent_valid old.map (c.get_mut.follows.lender c.take.new.self) c.args.name.now c.unwrap.result.now
          c.take.new.self old.are_channels was (c.get_mut.follows.holds c.take.new.self).3
          (λ valid. taken_valid c.unwrap.result.now c.take.new.self c.take.result valid (can_enter _ _ c.requires seen) c.take.ensures.rule c.take.ensures.err);
    }
