use Rattle.std.proofs.Common.{◌≡◌, ◌∙◌, [], true, false, refl}
use Rattle.gr_base.specs.declared.objects.Object.TheVariants.{Go}
use Rattle.gr_depend.proofs.NamedLemmas.{not_named, if_none}
use Rattle.gr_depend.proofs.log.Log.place_of.Goals as goal

pub returns-clause-missing : goal.returns-clause-missing
returns-clause-missing c =
    if_none c.find_named.result _ _
    (λ none. not_named c.args.self.now.records.items c.args.id.now 0 [] c.list-touches.result.now c.list-touches.result.now
    (c.list-touches.ensures ∙ c.args.self.now.touches (Go c.args.id.now.go)) refl refl none (λ p t named. let e : false ≡ true = t in cc))
    c.find_named.ensures.missing
