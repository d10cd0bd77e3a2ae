use Rattle.std.proofs.Common.{◌≡◌, ◌∙◌, ◌++◌, ◌∷◌, [], ap, subst}
use Rattle.gr_base.specs.declared.objects.Object.TheVariants as objects
use Rattle.gr_rules.specs.Actors.{channels_but}
use Rattle.gr_refine.specs.Partners.{waits_in}
use Rattle.std.specs.Prelude.{map}
use Rattle.gr_step.specs.Preparing.{IsReached}
use Rattle.gr_record.specs.Records.{operation_of}
use Rattle.gr_step.proofs.partners.prepare_selecting.Goals as goal

pub returns : goal.returns
returns c = λ ws reads writes status t.
    let others : c.in_ok-others.others.items ≡ channels_but (c.args.channel.now ∷ []) ws =
    c.in_ok-others.ensures ∙ ap (λ s. channels_but (c.args.channel.now ∷ []) (waits_in s)) status in
    record {
      go_is = c.in_ok-copy.ensures;
      channel_is = c.in_ok-copy-2.ensures;
      names_are = c.in_ok-names.ensures ws status;
      reached = subst {_, _} (λ l. IsReached (operation_of c.args.contact.operation) reads (writes ++ objects.Go c.args.go.now ∷ map objects.Gate l)
          c.in_ok-further.further.value.beyond)
          (c.deref.ensures.value ∙ others) (c.in_ok-further.ensures reads writes t);
    }
