use Rattle.std.proofs.Common.{ap, ◌∙◌, sym}
use Rattle.gr_rules.specs.Goroutines.{waiting}
use Rattle.gr_goros.specs.Views.{waits_of}
use Rattle.gr_goros.proofs.AlikeLemmas.{same_waits}
use Rattle.gr_goros.proofs.comparing.is_waiting.Goals as goal

pub returns-in-Waiting : goal.returns-in-Waiting
returns-in-Waiting c =
    let other = c.deref-in-Waiting.ensures.value ∙ ap (λ v. v.items) c.deref.ensures in
    rw c.in-Waiting.is (
      (λ like. ap (λ ws. waiting (waits_of ws)) (c.all_alike.ensures.0 like ∙ other)),
      (λ same. c.all_alike.ensures.1 (same_waits _ _ same ∙ sym other)),
    )
