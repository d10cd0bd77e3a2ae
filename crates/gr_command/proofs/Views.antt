-- Texts of what a reply holds are those of what it says.
use Rattle.std.proofs.Common.{◌≡◌, List, map}
use Rattle.std.specs.List.{flat_map}
use Rattle.std.proofs.lemmas.List.Folds.{flat_map-map}

pub each_of_views : {A B C : Type 0} (text_of : B → List C) (view : A → B) (xs : List A) → flat_map text_of (map view xs) ≡ flat_map (λ x. text_of (view x)) xs
each_of_views text_of view xs = flat_map-map text_of view xs
