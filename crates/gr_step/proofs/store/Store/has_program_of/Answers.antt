use Rattle.std.proofs.Common.{◌≡◌, ◌∙◌, sym, ap}
use Rattle.gr_program.specs.Sameness.{same_program}
use Rattle.gr_program.specs.SameProgramLaws.{program}
use Rattle.gr_program.specs.Views.{program_of}
use Rattle.gr_step.specs.declared.leasing.Lent.{Lent}
use Rattle.gr_step.specs.Leasing.{program_lent}
use Rattle.gr_step.specs.Stores.{program_at}
use Rattle.gr_step.proofs.store.Store.has_program_of.Goals as goal

pub returns : goal.returns
returns c =
    let l = c.args.lease.now in
    let s = c.args.self.now in
    let test : c.eq.result ≡ same_program (program_at s) (program_lent l) =
    c.eq.ensures ∙ ap (λ x. same_program (program_of x) (program_of c.deref-3.result.now)) c.deref.ensures
    ∙ ap (λ x. same_program (program_at s) (program_of x)) (c.deref-3.ensures ∙ ap (λ (lent : Lent). lent.listing.program.value) c.deref-2.ensures) in
    let decided = program (program_at s) (program_lent l) in (
      (λ same. sym (decided.0 (sym test ∙ same))),
      (λ is. test ∙ decided.1 (sym is)),
    )
