-- A channel that is there is found.
use Rattle.std.proofs.Common.{◌≡◌, Option, Some, None, sym, ap, ◌∙◌, rules}
use Rattle.std.specs.Prelude.{option_map, option_copied, IsSome}
use Rattle.std.specs.Borrow.{Bor}
use Rattle.gr_channels.specs.Channels.{Content, Seen}

pub same_there : (o : Option Seen) (x : Content) (y : Seen) → option_map (λ c. c.content) o ≡ Some x → o ≡ Some y → y.content ≡ x
same_there o x y is there = ap (λ (z : Option Content). elim z [ Some c ↦ c | None ↦ x ]) (sym (ap (option_map (λ c. c.content)) there) ∙ is)

pub some_there : (o : Option Seen) (x : Content) → option_map (λ c. c.content) o ≡ Some x → (y : Seen) × (o ≡ Some y) × (y.content ≡ x)
some_there None x is = absurd (let none : None ≡ Some x = is in cc)
some_there (Some y) x is = (y, λ j. Some y, same_there (Some y) x y is (λ j. Some y))

pub some_found : {T : Type 0} (r : Option (Bor T)) (y : T) → option_copied r ≡ Some y → IsSome r
some_found None y e = absurd (let none : None ≡ Some y = e in cc)
some_found (Some b) y e = search rules
