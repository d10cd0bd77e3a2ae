-- Lists that hold one thing without memory of their own.
use Rattle.std.specs.Prelude.{List, [], ◌∷◌}
use Rattle.gr_record.specs.declared.few.Few.{Few}
use Rattle.gr_record.specs.declared.few.Few.TheVariants.{Empty, One, Many}

-- the things in it, in their order
abbrev pub members : {T : Type 0} → Few T → List T
members Empty = []
members (One item) = item ∷ []
members (Many items) = items.items
