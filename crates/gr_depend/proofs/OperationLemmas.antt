-- What a step sent on and received from, by the channel of its operation.
use Rattle.std.proofs.Common.{◌≡◌, Bool, false, not, ◌&&◌, Option, Some, None, refl, ap, ◌∙◌}
use Rattle.std.specs.Prelude.{option_and_then}
use Rattle.std.specs.Option.{option_map_or}
use Rattle.gr_base.specs.declared.names.ChName.{ChName}
use Rattle.gr_rules.specs.Attempts.{Operation, sends_on, receives_from, takes_len_of, takes_cap_of, closes}
use Rattle.gr_rules.specs.Operators.{same_channel}
use Rattle.gr_record.specs.declared.record.Record.{Record}
use Rattle.gr_record.specs.Records.{operation_in}
use Rattle.gr_depend.specs.Histories.{is_fault, sends_to, receives_of, sends_over, receives_over}

-- whether it is this channel, and the step is no fault
abbrev is_over : ChName → Option ChName → Bool → Bool
is_over c o fault = option_map_or (λ d. same_channel c d && not fault) o false

-- whether an operation that is a fault or none sends on the channel, or receives from it
abbrev pub sends_by : ChName → Option Operation → Bool → Bool
sends_by c o fault = elim o [ Some (sends_on d) ↦ same_channel c d && not fault | _ ↦ false ]

abbrev pub receives_by : ChName → Option Operation → Bool → Bool
receives_by c o fault = elim o [ Some (receives_from d) ↦ same_channel c d && not fault | _ ↦ false ]

sends_so : (c : ChName) (o : Option Operation) (fault : Bool) → is_over c (option_and_then sends_over o) fault ≡ sends_by c o fault
sends_so c None fault = refl
sends_so c (Some (sends_on d)) fault = refl
sends_so c (Some (receives_from d)) fault = refl
sends_so c (Some (takes_len_of d)) fault = refl
sends_so c (Some (takes_cap_of d)) fault = refl
sends_so c (Some (closes d)) fault = refl

receives_so : (c : ChName) (o : Option Operation) (fault : Bool) → is_over c (option_and_then receives_over o) fault ≡ receives_by c o fault
receives_so c None fault = refl
receives_so c (Some (sends_on d)) fault = refl
receives_so c (Some (receives_from d)) fault = refl
receives_so c (Some (takes_len_of d)) fault = refl
receives_so c (Some (takes_cap_of d)) fault = refl
receives_so c (Some (closes d)) fault = refl

module _ (c : ChName) (r : Record) where
  -- the step sent on d, or on no channel
  pub sent_over : (d : ChName) → Some d ≡ option_and_then sends_over (operation_in r.change)
      → (same_channel c d && not (is_fault r.change.kind)) ≡ sends_to c r
  sent_over d on = ap (λ o. is_over c o (is_fault r.change.kind)) on ∙ sends_so c (operation_in r.change) (is_fault r.change.kind)

  pub none_sent : None ≡ option_and_then sends_over (operation_in r.change) → false ≡ sends_to c r
  none_sent none = ap (λ o. is_over c o (is_fault r.change.kind)) none ∙ sends_so c (operation_in r.change) (is_fault r.change.kind)

  -- it received from d, or from no channel
  pub received_over : (d : ChName) → Some d ≡ option_and_then receives_over (operation_in r.change)
      → (same_channel c d && not (is_fault r.change.kind)) ≡ receives_of c r
  received_over d from = ap (λ o. is_over c o (is_fault r.change.kind)) from ∙ receives_so c (operation_in r.change) (is_fault r.change.kind)

  pub none_received : None ≡ option_and_then receives_over (operation_in r.change) → false ≡ receives_of c r
  none_received none = ap (λ o. is_over c o (is_fault r.change.kind)) none ∙ receives_so c (operation_in r.change) (is_fault r.change.kind)
