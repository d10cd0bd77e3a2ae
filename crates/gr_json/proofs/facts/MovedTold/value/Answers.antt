use Rattle.std.proofs.Common.{ℕ, Global, Vec, ◌∙◌}
use Rattle.gr_json.specs.Parts.{text}
use Rattle.gr_json.proofs.Lists.{perhaps_of_map}
use Rattle.gr_json.proofs.facts.MovedTold.value.Goals as goal

pub returns : goal.returns
returns c =
    let printed = c.in_ok-printed.ensures ∙ perhaps_of_map text (λ (line : Vec ℕ Global). line.items) c.args.self.now.printed in
    rw (c.in_ok-id.ensures, printed, c.in_ok-moved.ensures) at c.in_ok-value.ensures
