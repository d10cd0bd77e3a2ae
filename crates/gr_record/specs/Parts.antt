-- What a step touched, as its record tells it: parts of one channel, a goroutine that it met, and what few steps touch.
use Rattle.std.specs.Prelude.{◌≡◌, ℕ, List, [], ◌∷◌, ◌++◌, Option, Some, None, option_map, Box}
use Rattle.std.proofs.Common.{Global}
use Rattle.std.specs.Option.{option_map_or}
use Rattle.gr_base.specs.declared.names.ChName.{ChName}
use Rattle.gr_base.specs.declared.objects.Object.{Object}
use Rattle.gr_base.specs.declared.objects.Object.TheVariants.{Go, Gate, Tail, Head, Slot}
use Rattle.gr_rules.specs.Deeds.{Communication, Sending, Receiving, Otherwise}
use Rattle.gr_record.specs.declared.record.Operation.{Operation}
use Rattle.gr_record.specs.declared.record.Operation.TheVariants.{SendsOn, ReceivesFrom, TakesLenOf, TakesCapOf, Closes}
use Rattle.gr_record.specs.declared.record.Parts.{Parts}
use Rattle.gr_record.specs.declared.record.Parts.TheVariants as parts
use Rattle.gr_record.specs.declared.record.Touched.{Touched}
use Rattle.gr_record.specs.declared.record.More.{More}
use Rattle.gr_record.specs.declared.record.Beyond.{Beyond}

-- the channel of an operation
abbrev pub channel_in : Operation → ChName
channel_in (SendsOn c) = c
channel_in (ReceivesFrom c) = c
channel_in (TakesLenOf c) = c
channel_in (TakesCapOf c) = c
channel_in (Closes c) = c

-- the channel of a communication, if it is on one
abbrev pub channel_on : Communication → Option ChName
channel_on (Sending c value) = c
channel_on (Receiving c initial) = c
channel_on Otherwise = None

-- the slot with a place, if there is one, and then these
abbrev pub slot_before : ChName → Option ℕ → List Object → List Object
slot_before c None os = os
slot_before c (Some place) os = Slot c place ∷ os

-- parts of a channel, and then these; without a channel these alone
abbrev pub parts_before : Parts → Option ℕ → Option ChName → List Object → List Object
parts_before parts.Nothing slot o os = os
parts_before parts.Gate slot o os = option_map_or (λ c. Gate c ∷ os) o os
parts_before parts.Entrance slot o os = option_map_or (λ c. Tail c ∷ slot_before c slot os) o os
parts_before parts.Exit slot o os = option_map_or (λ c. Head c ∷ slot_before c slot os) o os
parts_before parts.GateAndExit slot o os = option_map_or (λ c. Gate c ∷ Head c ∷ slot_before c slot os) o os
parts_before parts.All slot o os = option_map_or (λ c. Gate c ∷ Head c ∷ Tail c ∷ slot_before c slot os) o os

-- a goroutine, if there is one, and then these
abbrev pub partner_before : Option (List ℕ) → List Object → List Object
partner_before o os = option_map_or (λ n. Go n ∷ os) o os

-- what few steps reach
abbrev pub read_by_more : Option (Box More Global) → List Object
read_by_more o = option_map_or (λ m. m.value.reads.items) o []

abbrev pub written_by_more : Option (Box More Global) → List Object
written_by_more o = option_map_or (λ m. m.value.writes.items) o []

abbrev pub begun_by_more : Option (Box More Global) → Option (List ℕ)
begun_by_more o = option_map_or (λ m. m.value.begins) o None

abbrev pub made_by_more : Option (Box More Global) → Option ChName
made_by_more o = option_map_or (λ m. m.value.makes) o None

-- what the step read and did not write, but for whether the program runs, and what it wrote, but for its goroutine
abbrev pub reads_in : Beyond → List Object
reads_in b = parts_before b.touched.read b.touched.slot (option_map channel_in b.operation) (read_by_more b.more)

abbrev pub writes_in : Beyond → List Object
writes_in b = parts_before b.touched.written b.touched.slot (option_map channel_in b.operation) (partner_before b.partner (written_by_more b.more))

-- the goroutine that it started, and the channel that it made
abbrev pub begun_in : Beyond → Option (List ℕ)
begun_in b = begun_by_more b.more

abbrev pub made_in : Beyond → Option ChName
made_in b = made_by_more b.more

-- these parts of the channel were read, and these written, before anything else
pub record AreTouched (t : Touched) (c : Option ChName) (reads writes : List Object) : Type 0 where
  pub read : parts_before t.read t.slot c [] ≡ reads
  pub written : parts_before t.written t.slot c [] ≡ writes
  pub before : (os : List Object) → parts_before t.written t.slot c os ≡ writes ++ os
