use Rattle.std.proofs.Common.{[], ap, ◌∙◌}
use Rattle.std.proofs.lemmas.Result.{IfOk-weaker}
use Rattle.gr_laws.specs.Touched.{each_once}
use Rattle.gr_goros.specs.Views.{communications_of}
use Rattle.gr_step.specs.Objects.{contents_in}
use Rattle.gr_step.proofs.WaitTouchLemmas.{sides_by_channels}
use Rattle.gr_step.proofs.objects.Objects.looked_at.Goals as goal

pub returns : goal.returns
returns c = IfOk-weaker c.each_once.result _ _ (λ objects is frame.
    is ∙ ap (each_once []) (c.deref.ensures.value ∙ c.in_ok-touched.ensures frame
    ∙ sides_by_channels frame (contents_in c.args.self.now) (communications_of c.args.clauses.now))) c.each_once.ensures
