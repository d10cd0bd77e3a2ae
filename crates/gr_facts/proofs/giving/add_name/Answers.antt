use Rattle.std.proofs.Common.{◌++◌, ◌∷◌, [], ap, sym, ◌∙◌}
use Rattle.std.specs.Prelude.{option_copied}
use Rattle.gr_program.specs.TypeViews.{declared_of}
use Rattle.gr_rules.specs.Assigned.{names_of}
use Rattle.gr_facts.proofs.NameLemmas.{bytes_of, no_name, name_pushed}
use Rattle.gr_facts.proofs.giving.add_name.Goals as goal

pub returns-in_default-variable_at : goal.returns-in_default-variable_at
returns-in_default-variable_at c =
    let vs = c.args.function.now.variables.items in
    no_name vs c.in-Some.number c.args.names.now.items (sym (ap option_copied c.in_default-variable_at.is) ∙ c.variable_at.ensures)
    ∙ ap (λ k. bytes_of c.args.names.now.items ++ names_of (declared_of vs) (k ∷ [])) (sym c.in-Some.is)

pub returns : goal.returns
returns c =
    let vs = c.args.function.now.variables.items in
    name_pushed vs c.in-Some.number c.in-Some-variable_at.variable.now c.args.names.now.items c.push.new.self.items c.in_ok-name.name
    (sym (ap option_copied c.in-Some-variable_at.is) ∙ c.variable_at.ensures) (c.in_ok-name.ensures.items ∙ c.deref.ensures.value) c.in_ok-push.ensures.items
    ∙ ap (λ k. bytes_of c.args.names.now.items ++ names_of (declared_of vs) (k ∷ [])) (sym c.in-Some.is)
