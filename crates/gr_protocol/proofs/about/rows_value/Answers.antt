use Rattle.std.proofs.Common.{[], ◌∷◌, codes, ap₂, ◌∙◌}
use Rattle.gr_facts.specs.Views.{facts_in}
use Rattle.gr_json.specs.Facts.{facts_data}
use Rattle.gr_json.specs.Parts.{fields}
use Rattle.gr_json.proofs.Lists.{list_of_map}
use Rattle.gr_protocol.proofs.about.rows_value.Goals as goal

pub returns : goal.returns
returns c =
    c.in_ok-value.ensures
    ∙ ap₂ (λ a n. fields ((codes "about", a) ∷ (codes "next", n) ∷ [])) (c.in_ok-rows.ensures ∙ list_of_map facts_data facts_in c.args.rows.now)
    c.in_ok-next.ensures
