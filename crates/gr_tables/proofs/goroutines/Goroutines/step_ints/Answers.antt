use Rattle.std.proofs.Common.{Some, refl, sym, ap, ◌∙◌, arith}
use Rattle.std.specs.Option.{option_copied_mut}
use Rattle.gr_code.specs.CodeViews.{program_code_of}
use Rattle.gr_tables.specs.Counting.{CanTry}
use Rattle.gr_tables.proofs.ByNumber.{written_unique, changed, kept}
use Rattle.gr_tables.proofs.CountLemmas.{counts_on, if_some, if_none}
use Rattle.gr_tables.proofs.goroutines.Goroutines.step_ints.Goals as goal

pub invariant_of-self : goal.invariant_of-self
invariant_of-self c = record { unique = written_unique c.args.self.now.map c.args.number _ c.args.self.now.unique }

pub returns-clause-step : goal.returns-clause-step
returns-clause-step c =
    if_some c.step_ints.result _ _ (λ r s. changed c.args.self.now _ c.args.number c.unwrap-slot.result.now (Some c.step_ints.new.self)
    refl (sym (ap option_copied_mut c.unwrap-slot.ensures) ∙ c.get_index_mut.ensures.value)
    (CanTry (program_code_of c.args.code.now)) c.requires _
    (c.in-Some.goroutine, c.step_ints.new.self, c.in-Some.is, refl, s))
    (counts_on (program_code_of c.args.code.now) c.step_ints.result c.in-Some.goroutine c.step_ints.new.self c.step_ints.ensures.step
    c.step_ints.ensures.ordinal c.step_ints.ensures.ready c.step_ints.ensures.alone c.step_ints.ensures.stays)

pub returns-clause-none : goal.returns-clause-none
returns-clause-none c =
    if_none c.step_ints.result _ _ (λ s. kept c.args.self.now _ c.args.number c.unwrap-slot.result.now (Some c.step_ints.new.self)
    refl (sym (ap option_copied_mut c.unwrap-slot.ensures) ∙ c.get_index_mut.ensures.value)
    (CanTry (program_code_of c.args.code.now)) c.requires
    (c.in-Some.goroutine, c.step_ints.new.self, c.in-Some.is, refl, ap (λ g. g.content) s, rw s (omega arith))) c.step_ints.ensures.none
