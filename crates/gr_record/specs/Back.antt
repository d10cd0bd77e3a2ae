-- Records taken back one after the other, and records that marks choose.
use Rattle.std.specs.Prelude.{◌≡◌, Bool, true, false, List, [], ◌∷◌}
use Rattle.gr_causal.specs.Sequences.{In}
use Rattle.gr_refine.specs.Contents.{Contents}
use Rattle.gr_record.specs.declared.record.Record.{Record}
use Rattle.gr_record.specs.Records.{taken_back}

-- the contents with the steps of these records taken back, the last first
abbrev pub all_back : List Record → Contents → Contents
all_back [] t = t
all_back (r ∷ rs) t = taken_back r.id.go r.change (all_back rs t)

module _ {A : Type 0} where
  -- the items that are marked, and those that are not; an item beyond the marks is not
  abbrev pub marked : List Bool → List A → List A
  marked marks [] = []
  marked [] (x ∷ xs) = []
  marked (true ∷ marks) (x ∷ xs) = x ∷ marked marks xs
  marked (false ∷ marks) (x ∷ xs) = marked marks xs

  abbrev pub unmarked : List Bool → List A → List A
  unmarked marks [] = []
  unmarked [] (x ∷ xs) = x ∷ xs
  unmarked (true ∷ marks) (x ∷ xs) = unmarked marks xs
  unmarked (false ∷ marks) (x ∷ xs) = x ∷ unmarked marks xs

  -- no item that is not marked conflicts with an earlier one that is
  abbrev pub AreFree : (A → A → Bool) → List Bool → List A → Type 0
  AreFree clash marks [] = Unit {0}
  AreFree clash [] (x ∷ xs) = Unit {0}
  AreFree clash (true ∷ marks) (x ∷ xs) = ((y : A) → In y (unmarked marks xs) → clash x y ≡ false) × AreFree clash marks xs
  AreFree clash (false ∷ marks) (x ∷ xs) = AreFree clash marks xs
