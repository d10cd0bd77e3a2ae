use Rattle.std.proofs.Common.{◌≡◌, ◌<◌, ◌∙◌, length, Some, None, refl, sym, ap, subst}
use Rattle.std.specs.Prelude.{option_map}
use Rattle.gr_refine.specs.Contents.{with_goroutine}
use Rattle.gr_goros.specs.Views.{Seen}
use Rattle.gr_tables.specs.NamedGoroutines.{goroutines_of}
use Rattle.gr_tables.proofs.ByNumber.{seen_named}
use Rattle.gr_step.specs.declared.leasing.Lent.{Lent}
use Rattle.gr_step.specs.Leasing.{goroutine_lent, name_lent}
use Rattle.gr_step.specs.Stores.{contents_at}
use Rattle.gr_step.proofs.LeaseLemmas.{exchanged}
use Rattle.gr_step.proofs.StartNextLemmas.{within_names}
use Rattle.gr_step.proofs.store.Store.take_over.Goals as goal

pub unreachable-requires-in_default-remove : goal.unreachable-requires-in_default-remove
unreachable-requires-in_default-remove c =
    let table = c.args.self.now.objects.goroutines in
    let l = c.args.lease.now in
    let named = c.in-Some.ensures.named ∙ ap (λ (lent : Lent). Some lent.go) c.deref.ensures in
    let gone : goroutines_of table (name_lent l) ≡ None =
    ap (option_map (λ (g : Seen). g.content))
    (sym (seen_named table c.in-Some.number (name_lent l) named) ∙ sym c.remove.ensures.value ∙ c.in_default-remove.is) in
    let none : None ≡ Some (goroutine_lent l) = sym gone ∙ c.requires.there in
    cc

pub put-requires : goal.put-requires
put-requires c =
    let table = c.args.self.now.objects.goroutines in
    subst (λ names. c.in-Some.number < length names) (sym c.in-Some-remove.ensures.after.names)
    (within_names _ c.in-Some.number c.deref.result.now.go c.in-Some.ensures.named)

pub returns : goal.returns
returns c = record {
  after = exchanged c.args.self.now.objects c.in-Some.number (name_lent c.args.lease.now) c.replace-reached.result c.remove.new.self c.put.new.self
      (c.in-Some.ensures.named ∙ ap (λ (lent : Lent). Some lent.go) c.deref.ensures) c.in-Some-remove.ensures.after c.put.ensures
      ∙ ap (λ (x : Seen). with_goroutine (contents_at c.args.self.now) (name_lent c.args.lease.now) (Some x.content)) c.replace-reached.ensures.value;
  loan = refl;
  records = refl;
  taken = refl;
  listing = refl;
}
