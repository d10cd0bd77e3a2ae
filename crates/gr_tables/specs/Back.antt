-- What taking changes back, the last first, leaves at each key. Each change is an undo value at its key.
use Rattle.std.specs.Prelude.{Bool, if◌then◌else◌, List, [], ◌∷◌, Option}

module _ {K U X : Type 0} (equal : K → K → Bool) (undo : U → Option X → Option X) where
  -- what stands at the key q once they are taken back, given what stood there
  abbrev pub back_at : List (K × U) → K → Option X → Option X
  back_at [] q x = x
  back_at (e ∷ es) q x = if equal q e.0 then undo e.1 (back_at es q x) else back_at es q x

  -- each change stands when its turn comes
  abbrev pub AllFit : (U → Option X → Type 0) → List (K × U) → (K → Option X) → Type 0
  AllFit fits [] f = Unit {0}
  AllFit fits (e ∷ es) f = fits e.1 (back_at es e.0 (f e.0)) × AllFit fits es f
