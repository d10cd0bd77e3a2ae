use Rattle.std.proofs.Common.{◌≡◌, ◌∙◌, true, false, Some, sym, ap}
use Rattle.std.proofs.lemmas.Option.{same_Some}
use Rattle.std.specs.Prelude.{option_map}
use Rattle.gr_step.specs.declared.leasing.Lent.{Lent}
use Rattle.gr_step.specs.Leasing.{loan_of}
use Rattle.gr_step.specs.Stores.{contents_at}
use Rattle.gr_step.proofs.PlaceLemmas.{present_there}
use Rattle.gr_step.proofs.store.Store.has_as_lent.Goals as goal

pub returns : goal.returns
returns c =
    let is = c.in-Ok.ensures.ok in
    let named = is.named ∙ ap (λ (lent : Lent). Some lent.go) c.deref.ensures in
    let there = ap (option_map (λ g. g.content)) (sym (c.at-goroutine.ensures.named c.args.lease.now.batch.lent.value.go named)) in
    let as_lent = ap (λ (lent : Lent). lent.goroutine.content) c.deref-2.ensures in (
      (λ like. record { program = c.requires; runs = is.runs; there = there ∙ ap Some (c.is_like.ensures.0 like ∙ as_lent) }),
      (λ lent. c.is_like.ensures.1 (same_Some _ _ (sym there ∙ lent.there) ∙ sym as_lent)),
    )

pub returns-in_default : goal.returns-in_default
returns-in_default c = (
  (λ no. absurd (let e : false ≡ true = no in cc)),
  (λ lent. absurd (c.in_default.ensures.none (record {
    runs = lent.runs;
    goroutine = (loan_of c.args.lease.now).goroutine;
    there = ap (λ (l : Lent). (contents_at c.args.self.now).goroutines l.go) c.deref.ensures ∙ lent.there;
  }))),
)

pub at-goroutine-requires : goal.at-goroutine-requires
at-goroutine-requires c =
    present_there c.args.self.now.objects.goroutines c.in-Ok.number c.deref.result.now.go c.in-Ok.ensures.ok.named c.in-Ok.ensures.ok.present
