use Rattle.std.proofs.Common.{Global, Vec, ℕ, [], ◌∷◌, codes, ap, ◌∙◌}
use Rattle.gr_json.specs.Parts.{text}
use Rattle.gr_json.specs.Replies.{answer}
use Rattle.gr_json.proofs.Lists.{list_of_map}
use Rattle.gr_json.proofs.replies.lines.Goals as goal

pub returns : goal.returns
returns c =
    c.in_ok-value.ensures
    ∙ ap (λ l. answer (codes "lines") ((codes "lines", l) ∷ []))
    (c.in_ok-lines.ensures ∙ list_of_map text (λ (line : Vec ℕ Global). line.items) c.args.lines.now)
