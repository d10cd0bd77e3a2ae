-- Whether two objects are the same is an equivalence.
use Rattle.std.proofs.Common.{◌≡◌, sym, ap, ◌∙◌}
use Rattle.std.specs.Bool.{one_answer}
use Rattle.std.specs.Cmp.{IsEquivalence}
use Rattle.gr_base.specs.declared.objects.Object.{Object}
use Rattle.gr_rules.specs.States.{same}
use Rattle.gr_laws.proofs.CellLemmas.{same_is, same_self}

pub same_sym : (o p : Object) → same o p ≡ same p o
same_sym o p = one_answer {P = o ≡ p} (same o p) (same p o)
    (same_is o p, λ e. ap (same o) (sym e) ∙ same_self o)
    (λ h. sym (same_is p o h), λ e. ap (same p) e ∙ same_self p)

pub same_equiv : IsEquivalence same
same_equiv = record {
  refl = same_self;
  symm = same_sym;
  congr = λ o p q e. ap (λ x. same x q) (same_is o p e);
}
