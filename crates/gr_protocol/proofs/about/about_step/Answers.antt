use Rattle.std.proofs.Common.{Some, None, subst}
use Rattle.std.proofs.lemmas.Result.{IfOk-weaker}
use Rattle.gr_facts.specs.Asked.{TellsNamed}
use Rattle.gr_protocol.proofs.about.about_step.Goals as goal

pub returns-in-Some : goal.returns-in-Some
returns-in-Some c =
    let value = rw c.from_ref.ensures.value at c.rows_value.ensures in
    IfOk-weaker c.rows_value.result _ _
    (λ v is p w s. record {
      row = Some c.in-Some.facts;
      tells = subst {_, _} (λ o. TellsNamed p w.past.log c.args.id.now o) c.in-Some.is (c.in_ok-told.ensures p w s);
      is = is;
    }) value

pub returns-in-None : goal.returns-in-None
returns-in-None c =
    IfOk-weaker c.rows_value-in-None.result _ _
    (λ v is p w s. record {
      row = None;
      tells = subst {_, _} (λ o. TellsNamed p w.past.log c.args.id.now o) c.in-None.is (c.in_ok-told.ensures p w s);
      is = is;
    }) c.rows_value-in-None.ensures
