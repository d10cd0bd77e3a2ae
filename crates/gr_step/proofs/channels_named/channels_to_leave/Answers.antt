use Rattle.std.proofs.Common.{◌∙◌, ◌++◌, ◌∷◌, [], sym, ap, subst}
use Rattle.gr_rules.specs.Actors.{channels_but}
use Rattle.gr_goros.specs.Views.{waits_of}
use Rattle.gr_step.specs.Preparing.{AreToLeave}
use Rattle.gr_step.proofs.PrepareLemmas.{none_to_leave, all_to_leave}
use Rattle.gr_step.proofs.channels_named.channels_to_leave.Goals as goal

pub returns-then-waits-eq1 : goal.returns-then-waits-eq1
returns-then-waits-eq1 c =
    subst {_, _} (λ l. AreToLeave l c.args.channel.now (waits_of c.args.waits.now)) (sym c.new.ensures.items)
    (none_to_leave c.args.channel.now c.args.waits.now c.if-waits-eq1.true)

pub returns : goal.returns
returns c =
    let names = c.in_ok-push.ensures.items ∙ ap (λ l. l ++ c.in_ok-copy.field-0 ∷ []) c.requires
    ∙ ap (λ k. channels_but (c.args.channel.now ∷ []) (waits_of c.args.waits.now) ++ k ∷ []) c.in_ok-copy.ensures in
    subst {_, _} (λ l. AreToLeave l c.args.channel.now (waits_of c.args.waits.now)) (sym names)
    (all_to_leave c.args.channel.now c.args.waits.now c.if-waits-eq1.false)
