use Rattle.std.proofs.Common.{◌∙◌, sym, ap, option_map}
use Rattle.std.specs.Option.{option_copied_mut}
use Rattle.gr_channels.specs.Changes.{Fits, undone}
use Rattle.gr_tables.proofs.SeenLemmas.{lent, took_back}
use Rattle.gr_tables.proofs.Validity.{lent_valid, either_valid, undone_valid, it_is}
use Rattle.gr_tables.proofs.channels.Channels.put_back.Goals as goal

pub returns : goal.returns
returns c =
    let new = c.get_mut.follows.lender c.undo.new.self in
    let writes = (c.get_mut.follows.holds c.undo.new.self).3 in
    took_back c.args.self.now _ (lent c.args.name.now c.get_mut.result c.unwrap.result c.undo.new.self c.args.self.now.map new c.get_mut.ensures.value
    c.unwrap.ensures writes)
    c.args.undo (rw c.unwrap-2.ensures at c.undo.ensures.ok) (rw c.unwrap-2.ensures at c.undo.ensures.spends)

pub invariant_of-self : goal.invariant_of-self
invariant_of-self c =
    let old = c.args.self.now in
    let was = sym c.get_mut.ensures.value ∙ ap option_copied_mut c.unwrap.ensures in
    let fits = it_is (Fits c.args.undo) _ _ c.requires.fits (ap (option_map (λ x. x.content)) was) in
    let a = c.unwrap.result.now.content in
    record {
      are_channels = lent_valid old.map (c.get_mut.follows.lender c.undo.new.self) c.args.name.now c.unwrap.result.now
          c.undo.new.self old.are_channels was (c.get_mut.follows.holds c.undo.new.self).3
          (λ valid. either_valid a c.undo.new.self.content (undone c.args.undo a) c.undo.result valid
          (undone_valid c.args.undo a valid fits) c.undo.ensures.ok c.undo.ensures.err);
    }
