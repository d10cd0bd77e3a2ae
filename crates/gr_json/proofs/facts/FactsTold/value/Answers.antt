use Rattle.std.proofs.Common.{ℕ, Global, Vec, ◌∙◌}
use Rattle.gr_record.specs.Records.{operation_of}
use Rattle.gr_json.specs.Facts.{operation_data}
use Rattle.gr_json.specs.Parts.{text}
use Rattle.gr_json.proofs.Lists.{list_of_map, perhaps_of_map}
use Rattle.gr_json.proofs.facts.FactsTold.value.Goals as goal

pub returns : goal.returns
returns c =
    let channel = c.in_ok-perhaps.ensures ∙ perhaps_of_map operation_data operation_of c.args.self.now.operation in
    let names = rw c.as_slice.ensures.value at c.in_ok-list.ensures in
    let given = names ∙ list_of_map text (λ (name : Vec ℕ Global). name.items) c.args.self.now.given.items in
    let reached = rw c.as_slice-2.ensures.value at c.in_ok-list-2.ensures in
    let sources = rw c.as_slice-3.ensures.value at c.in_ok-list-3.ensures in
    rw (c.in_ok-place.ensures, channel, given, c.in_ok-value.ensures, c.in_ok-value-2.ensures, c.in_ok-perhaps-2.ensures, reached, sources) at c.in_ok-value-3.ensures
