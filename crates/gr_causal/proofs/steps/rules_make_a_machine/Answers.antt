use Rattle.gr_causal.specs.Rules.{rulebook_by}
use Rattle.gr_causal.proofs.RuleLemmas.{laws_of_rules}
use Rattle.gr_causal.proofs.steps.rules_make_a_machine.Goals as goal

pub returns : goal.returns
returns g c same name look put rule laws = laws_of_rules (rulebook_by same name look put rule) laws
