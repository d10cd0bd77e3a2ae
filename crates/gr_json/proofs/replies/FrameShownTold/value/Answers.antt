use Rattle.std.proofs.Common.{[], ◌∷◌, codes, ap₂, ◌∙◌}
use Rattle.gr_command.specs.Replies.{variable_in}
use Rattle.gr_json.specs.Parts.{fields}
use Rattle.gr_json.specs.Replies.{variable_data}
use Rattle.gr_json.proofs.Lists.{list_of_map}
use Rattle.gr_json.proofs.replies.FrameShownTold.value.Goals as goal

pub returns : goal.returns
returns c =
    let variables = rw c.as_slice.ensures.value at c.in_ok-variables.ensures in
    c.in_ok-value.ensures
    ∙ ap₂ (λ f v. fields ((codes "function", f) ∷ (codes "variables", v) ∷ [])) c.in_ok-function.ensures
    (variables ∙ list_of_map variable_data variable_in c.args.self.now.variables.items)
