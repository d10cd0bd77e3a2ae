use Rattle.std.proofs.Common.{ap, ◌∙◌, refl}
use Rattle.gr_step.specs.declared.leasing.Lent.{Lent}
use Rattle.gr_step.proofs.ChoiceLemmas.{are_channels}
use Rattle.gr_step.proofs.LeaseLemmas.{loan_is_lease}
use Rattle.gr_step.proofs.store.Store.lend.Goals as goal

pub returns-clause-lease : goal.returns-clause-lease
returns-clause-lease c =
    let s = c.args.self.now in
    let has = c.in-Ok.ensures.ok.has in
    let boxed = c.in_ok-lent.ensures.ok in
    loan_is_lease s
    (record {
      batch = record { lent = c.in_ok-lent.lent; len = 0 };
      reached = c.in_ok-copy-2.field-0;
      records = c.new-2.result;
    })
    c.args.go.now c.in-Ok.ready.goroutine.now.content c.requires (are_channels s.objects)
    (ap (λ (lent : Lent). lent.listing.program.value) boxed ∙ c.in_ok-clone.ensures.cases)
    (ap (λ (lent : Lent). lent.listing.code.value) boxed ∙ c.in_ok-clone-2.ensures.cases)
    (ap (λ (lent : Lent). lent.go) boxed ∙ c.in_ok-own_name.ensures)
    (ap (λ (lent : Lent). lent.goroutine.content) boxed ∙ c.in_ok-copy.ensures)
    c.in_ok-copy-2.ensures c.new-2.ensures.items refl has.runs has.there has.is_ready
