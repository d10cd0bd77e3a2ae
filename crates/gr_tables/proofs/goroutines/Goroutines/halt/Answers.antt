use Rattle.std.proofs.Common.{Some, refl, sym, ap, ◌∙◌, arith}
use Rattle.std.specs.Option.{option_copied_mut}
use Rattle.gr_tables.specs.NamedGoroutines.{CanEnd}
use Rattle.gr_tables.proofs.ByNumber.{written_unique, changed, kept, if_ok, both_ok, on_err}
use Rattle.gr_tables.proofs.goroutines.Goroutines.halt.Goals as goal

pub invariant_of-self : goal.invariant_of-self
invariant_of-self c = record { unique = written_unique c.args.self.now.map c.args.number _ c.args.self.now.unique }

pub returns-clause-ok : goal.returns-clause-ok
returns-clause-ok c =
    if_ok c.halt.result _ _ (λ r s. changed c.args.self.now _ c.args.number c.unwrap-slot.result.now (Some c.halt.new.self)
    refl (sym (ap option_copied_mut c.unwrap-slot.ensures) ∙ c.get_index_mut.ensures.value)
    (CanEnd c.args.how) c.requires _
    (c.in-Some.goroutine, c.halt.new.self, c.in-Some.is, refl, s)) (both_ok c.halt.result _ _ c.halt.ensures.after c.halt.ensures.undone)

pub returns-clause-err : goal.returns-clause-err
returns-clause-err c =
    on_err c.halt.result _ _ (λ s. kept c.args.self.now _ c.args.number c.unwrap-slot.result.now (Some c.halt.new.self)
    refl (sym (ap option_copied_mut c.unwrap-slot.ensures) ∙ c.get_index_mut.ensures.value)
    (CanEnd c.args.how) c.requires
    (c.in-Some.goroutine, c.halt.new.self, c.in-Some.is, refl, ap (λ g. g.content) s, rw s (omega arith))) c.halt.ensures.err
