use Rattle.std.proofs.Common.{Some, refl, sym, ap, ◌∙◌}
use Rattle.std.specs.Option.{option_copied_mut}
use Rattle.gr_tables.specs.NamedGoroutines.{CanPark}
use Rattle.gr_tables.proofs.ByNumber.{written_unique, changed}
use Rattle.gr_tables.proofs.goroutines.Goroutines.park_to_send.Goals as goal

pub invariant_of-self : goal.invariant_of-self
invariant_of-self c = record { unique = written_unique c.args.self.now.map c.args.number _ c.args.self.now.unique }

pub returns : goal.returns
returns c =
    changed c.args.self.now _ c.args.number c.unwrap-slot.result.now (Some c.park_to_send.new.self)
    refl (sym (ap option_copied_mut c.unwrap-slot.ensures) ∙ c.get_index_mut.ensures.value)
    CanPark c.requires _ (c.in-Some.goroutine, c.park_to_send.new.self, c.in-Some.is, refl, (c.park_to_send.ensures.after, c.park_to_send.ensures.undone))
