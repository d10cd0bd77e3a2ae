use Rattle.std.proofs.Common.{rules, ap, ◌∙◌, sym}
use Rattle.gr_tree.specs.Statements.{statements_of}
use Rattle.gr_typing.specs.Labels.{labels_in, uses_in}
use Rattle.gr_types.specs.LabelTables.{names_of, with_names, fit_after}
use Rattle.gr_types.proofs.LabelNames.{body_fits}
use Rattle.gr_types.proofs.labels.unfit_label.Goals as goal

pub returns : goal.returns
returns c =
    let body = statements_of c.args.body.now in
    let used = names_of c.gather.new.used in
    let e = c.in_ok-gather.ensures ∙ ap (λ n. with_names n (uses_in body)) c.new-used.ensures in
    let g = ap (λ n. fit_after used n (labels_in body)) c.new-declared.ensures ∙ body_fits used (uses_in body) (labels_in body) e in
    rw (sym g) (search rules)
