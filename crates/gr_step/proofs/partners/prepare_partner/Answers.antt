use Rattle.std.proofs.Common.{◌∙◌, ◌++◌, ◌∷◌, sym, subst}
use Rattle.gr_base.specs.declared.objects.Object.TheVariants as objects
use Rattle.std.specs.Prelude.{map}
use Rattle.gr_step.specs.Preparing.{before_exchange, IsReached}
use Rattle.gr_record.specs.Records.{operation_of}
use Rattle.gr_step.proofs.partners.prepare_partner.Goals as goal

pub returns-then-waits_alone : goal.returns-then-waits_alone
returns-then-waits_alone c = λ ws reads writes status t.
    let alone = c.waits_alone.ensures ws status c.if-waits_alone.true in
    record {
      go_is = c.in_ok-exchange.ensures.partner;
      channel_is = c.in_ok-exchange.ensures.channel ∙ c.requires;
      names_are = alone.0;
      reached = subst {_, _} (λ l. IsReached (operation_of c.args.contact.operation) reads (writes ++ objects.Go c.args.go.now ∷ map objects.Gate l)
          (before_exchange c.in_ok-exchange.field-0.value)) (sym alone.1) (c.in_ok-exchange.ensures.told reads writes t);
    }
