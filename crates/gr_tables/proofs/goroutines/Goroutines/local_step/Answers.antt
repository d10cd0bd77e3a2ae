use Rattle.std.proofs.Common.{Some, refl, sym, ap, ◌∙◌}
use Rattle.std.specs.Option.{option_copied_mut}
use Rattle.gr_code.specs.CodeViews.{program_code_of}
use Rattle.gr_tables.specs.NamedGoroutines.{StepsAlone}
use Rattle.gr_tables.proofs.ByNumber.{written_unique, changed, kept, if_ok, on_err, both_err}
use Rattle.gr_tables.proofs.goroutines.Goroutines.local_step.Goals as goal

pub invariant_of-self : goal.invariant_of-self
invariant_of-self c = record { unique = written_unique c.args.self.now.map c.args.number _ c.args.self.now.unique }

pub returns-clause-step : goal.returns-clause-step
returns-clause-step c =
    if_ok c.local_step.result _ _ (λ r s. changed c.args.self.now _ c.args.number c.unwrap-slot.result.now (Some c.local_step.new.self)
    refl (sym (ap option_copied_mut c.unwrap-slot.ensures) ∙ c.get_index_mut.ensures.value)
    (StepsAlone (program_code_of c.args.code.now)) c.requires _
    (c.in-Some.goroutine, c.local_step.new.self, c.in-Some.is, refl, s)) c.local_step.ensures.step

pub returns-clause-err : goal.returns-clause-err
returns-clause-err c =
    on_err c.local_step.result _ _ (λ s. kept c.args.self.now _ c.args.number c.unwrap-slot.result.now (Some c.local_step.new.self)
    refl (sym (ap option_copied_mut c.unwrap-slot.ensures) ∙ c.get_index_mut.ensures.value)
    (StepsAlone (program_code_of c.args.code.now)) c.requires
    (c.in-Some.goroutine, c.local_step.new.self, c.in-Some.is, refl, s.0, s.1)) (both_err c.local_step.result _ _ c.local_step.ensures.err c.local_step.ensures.err_room)
