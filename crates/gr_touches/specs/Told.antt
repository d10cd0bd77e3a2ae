-- Objects as the record of a step tells them.
use Rattle.std.specs.Prelude.{ℕ, ◌+◌, List, [], ◌∷◌, Option, Some, option_copied}
use Rattle.std.specs.Option.{option_map_or}
use Rattle.gr_base.specs.declared.names.ChName.{ChName}
use Rattle.gr_base.specs.declared.objects.Object.{Object}
use Rattle.gr_base.specs.declared.objects.Object.TheVariants.{Go, Gate, Tail, Head, Slot}
use Rattle.gr_record.specs.declared.record.Touched.{Touched}
use Rattle.gr_record.specs.Parts.{parts_before, partner_before}
use Rattle.gr_touches.specs.declared.objects.TouchedObjects.{TouchedObjects}
use Rattle.gr_touches.specs.ObjectRefs.{seen}

-- an object of that name, if there is one, and then these
abbrev pub named : {N : Type 0} → (N → Object) → Option N → List Object → List Object
named object o os = option_map_or (λ n. object n ∷ os) o os

-- the objects, in their order
abbrev pub seen_in : TouchedObjects → List Object
seen_in o = named seen o.front (named Gate (option_copied o.gate) (named Head (option_copied o.head) (named Tail (option_copied o.tail)
    (named (λ s. Slot s.0.now s.1) o.slot (partner_before (option_copied o.partner) o.others.now)))))

-- what a step read of a channel and did not write, and what it wrote of it
abbrev pub read_on : ChName → Touched → List Object
read_on c t = parts_before t.read t.slot (Some c) []

abbrev pub written_on : ChName → Touched → List Object
written_on c t = parts_before t.written t.slot (Some c) []

-- what it wrote of it, and the goroutine that it met
abbrev pub written_on_with : ChName → Touched → List ℕ → List Object
written_on_with c t n = parts_before t.written t.slot (Some c) (Go n ∷ [])

-- how many of them there are, but for the others
abbrev pub one_of : {N : Type 0} → Option N → ℕ
one_of o = option_map_or (λ n. 1) o 0

abbrev pub count_in : TouchedObjects → ℕ
count_in o = one_of o.front + one_of o.gate + one_of o.head + one_of o.tail + one_of o.slot + one_of o.partner
