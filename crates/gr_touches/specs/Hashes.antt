-- An object is hashed as it is where it is named.
use Rattle.std.specs.Prelude.{◌≡◌, IsTrue}
use Rattle.std.proofs.Common.{refl, ap, ◌∙◌}
use Rattle.gr_rules.specs.States.{same}
use Rattle.gr_laws.proofs.CellLemmas.{same_is}
use Rattle.gr_base.specs.declared.objects.Object.{Object}
use Rattle.gr_touches.specs.declared.object_ref.ObjectRef.{ObjectRef}
use Rattle.gr_touches.specs.declared.object_ref.ObjectRef.TheVariants as refs
use Rattle.gr_touches.specs.ObjectRefs.{seen}
use Rattle.gr_base.specs.contracts.objects.ObjectHash.TheImpl as object
use Rattle.gr_touches.specs.contracts.object_ref.ObjectRefHash.TheImpl as ref

alike : (q : ObjectRef) → ref.hash_input-value.it q ≡ object.hash_input-value.it (seen q)
alike refs.Run = refl
alike (refs.Go g) = refl
alike (refs.Gate c) = refl
alike (refs.Tail c) = refl
alike (refs.Head c) = refl
alike (refs.Slot c i) = refl

pub hashed_as_seen : (q : ObjectRef) (k : Object) → IsTrue (same (seen q) k) → ref.hash_input-value.it q ≡ object.hash_input-value.it k
hashed_as_seen q k h = alike q ∙ ap object.hash_input-value.it (same_is (seen q) k h)
