-- Lists of what is told, and what may be missing.
use Rattle.std.proofs.Common.{◌≡◌, List, [], ◌∷◌, map, Option, Some, None, option_map, refl, ap}
use Rattle.serde_json.specs.Data.{Data, item, array}
use Rattle.serde_json.specs.View.{items_of}
use Rattle.gr_json.specs.Parts.{list, perhaps}

items_of_map : {A B : Type 0} (f : B → Data) (g : A → B) (xs : List A) → items_of (map (λ x. f (g x)) xs) ≡ items_of (map f (map g xs))
items_of_map f g [] = refl
items_of_map f g (x ∷ xs) = ap (item (f (g x))) (items_of_map f g xs)

-- the list of what is told of views
pub list_of_map : {A B : Type 0} (f : B → Data) (g : A → B) (xs : List A) → list (λ x. f (g x)) xs ≡ list f (map g xs)
list_of_map f g xs = ap array (items_of_map f g xs)

-- what is told of a view that may be missing
pub perhaps_of_map : {A B : Type 0} (f : B → Data) (g : A → B) (o : Option A) → perhaps (λ x. f (g x)) o ≡ perhaps f (option_map g o)
perhaps_of_map f g None = refl
perhaps_of_map f g (Some a) = refl
