use Rattle.std.proofs.Common.{◌∙◌, ap}
use Rattle.gr_base.specs.declared.values.Value.{Value}
use Rattle.gr_rules.specs.Deeds.{as_channel}
use Rattle.gr_rules.specs.Outcomes.{Outcome, ◌>>=◌}
use Rattle.gr_goros.proofs.needs.only_channel.Goals as goal

pub only-requires : goal.only-requires
only-requires c w = c.requires (ap (λ (o : Outcome Value). o >>= as_channel) w)

pub as_channel-requires : goal.as_channel-requires
as_channel-requires c w =
    c.requires (ap (λ (o : Outcome Value). o >>= as_channel) c.in_ok-only-in_default.ensures.ok ∙ w)

pub returns-in_ok-only-in_default-clause-ok : goal.returns-in_ok-only-in_default-clause-ok
returns-in_ok-only-in_default-clause-ok c =
    ap (λ (o : Outcome Value). o >>= as_channel) c.in_ok-only-in_default.ensures.ok ∙ c.as_channel.ensures
