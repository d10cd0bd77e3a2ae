use Rattle.std.proofs.Common.{Some, refl, sym, ap, ◌∙◌, arith}
use Rattle.std.specs.Option.{option_copied_mut}
use Rattle.gr_code.specs.CodeViews.{program_code_of}
use Rattle.gr_goros.specs.Views.{arrival_of}
use Rattle.gr_tables.specs.NamedGoroutines.{CanArrive}
use Rattle.gr_tables.proofs.ByNumber.{written_unique, changed, kept, if_ok, both_ok, on_err}
use Rattle.gr_tables.proofs.goroutines.Goroutines.deliver.Goals as goal

pub invariant_of-self : goal.invariant_of-self
invariant_of-self c = record { unique = written_unique c.args.self.now.map c.args.number _ c.args.self.now.unique }

pub returns-clause-after : goal.returns-clause-after
returns-clause-after c =
    if_ok c.deliver.result _ _ (λ r s. changed c.args.self.now _ c.args.number c.unwrap-slot.result.now (Some c.deliver.new.self)
    refl (sym (ap option_copied_mut c.unwrap-slot.ensures) ∙ c.get_index_mut.ensures.value)
    (CanArrive (program_code_of c.args.code.now) (arrival_of c.args.arrival)) c.requires _
    (c.in-Some.goroutine, c.deliver.new.self, c.in-Some.is, refl, s)) (both_ok c.deliver.result _ _ c.deliver.ensures.after c.deliver.ensures.undone)

pub returns-clause-err : goal.returns-clause-err
returns-clause-err c =
    on_err c.deliver.result _ _ (λ s. kept c.args.self.now _ c.args.number c.unwrap-slot.result.now (Some c.deliver.new.self)
    refl (sym (ap option_copied_mut c.unwrap-slot.ensures) ∙ c.get_index_mut.ensures.value)
    (CanArrive (program_code_of c.args.code.now) (arrival_of c.args.arrival)) c.requires
    (c.in-Some.goroutine, c.deliver.new.self, c.in-Some.is, refl, ap (λ g. g.content) s, rw s (omega arith))) c.deliver.ensures.err
