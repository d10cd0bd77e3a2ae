-- Objects by names that are borrowed.
use Rattle.std.specs.Prelude.{◌≡◌, IsTrue}
use Rattle.std.proofs.Common.{refl, sym, ap, ◌∙◌}
use Rattle.gr_rules.specs.States.{same}
use Rattle.gr_laws.proofs.CellLemmas.{same_is}
use Rattle.gr_base.specs.contracts.objects.ObjectPartialEq.TheImpl as derived
use Rattle.gr_base.specs.declared.objects.Object.{Object}
use Rattle.gr_base.specs.declared.objects.Object.TheVariants as objects
use Rattle.gr_base.specs.declared.objects.Object.TheVariants.{Go, Gate, Tail, Head, Slot}
use Rattle.gr_touches.specs.declared.object_ref.ObjectRef.{ObjectRef}
use Rattle.gr_touches.specs.declared.object_ref.ObjectRef.TheVariants as refs

-- the object that is seen by its names
abbrev pub seen : ObjectRef → Object
seen refs.Run = objects.Run
seen (refs.Go g) = Go g.now
seen (refs.Gate c) = Gate c.now
seen (refs.Tail c) = Tail c.now
seen (refs.Head c) = Head c.now
seen (refs.Slot c i) = Slot c.now i

-- the derived test of two objects
pub derived_is : (o p : Object) → derived.eq-value.it o p ≡ same o p
derived_is objects.Run objects.Run = refl
derived_is (Go g) (Go h) = refl
derived_is (Gate g) (Gate h) = refl
derived_is (Tail g) (Tail h) = refl
derived_is (Head g) (Head h) = refl
derived_is (Slot g i) (Slot h j) = refl
derived_is _ _ = refl

pub tested_as_same : (q : ObjectRef) (x y : Object) → IsTrue (same (seen q) x) → same (seen q) y ≡ derived.eq-value.it x y
tested_as_same q x y h = ap (λ o. same o y) (same_is (seen q) x h) ∙ sym (derived_is x y)
