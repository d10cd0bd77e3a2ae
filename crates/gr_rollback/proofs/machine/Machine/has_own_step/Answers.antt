use Rattle.std.proofs.Common.{◌∙◌, true≢false, refl, sym, ap}
use Rattle.std.specs.Prelude.{option_copied}
use Rattle.gr_rollback.proofs.LendingLemmas.{some_alone, none_alone}
use Rattle.gr_rollback.proofs.machine.Machine.has_own_step.Goals as goal

pub returns-in-Some : goal.returns-in-Some
returns-in-Some c = λ p w s. (
  (λ _. some_alone p w c.args.self.now s c.in-Some.field-0.now (sym (ap option_copied c.in-Some.is) ∙ c.nth_alone.ensures.which)),
  (λ _. refl),
)

pub returns-in-None : goal.returns-in-None
returns-in-None c = λ p w s. (
  (λ bad. absurd (true≢false (sym bad))),
  (λ some. absurd (none_alone p w c.args.self.now s (sym (ap option_copied c.in-None.is) ∙ c.nth_alone.ensures.which) some)),
)
