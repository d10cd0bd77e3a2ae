use Rattle.std.proofs.Common.{◌≡◌, true, false, sym, ◌∙◌, ap}
use Rattle.gr_causal.proofs.PathLemmas.{path_of}
use Rattle.gr_rules.specs.Steps.{machine}
use Rattle.gr_laws.proofs.RuleSound.{reached_sound}
use Rattle.gr_laws.proofs.RuleWaits.{reached_waits}
use Rattle.gr_may.proofs.DeadLemmas.{none_acts, all_stay, dead_later}
use Rattle.gr_may.proofs.Together.{both_dead}
use Rattle.gr_may.proofs.law_of_the_dead.Goals as goal

pub returns-clause-steps : goal.returns-clause-steps
returns-clause-steps c p s t steps r n reached d l i e =
    let alive = none_acts p d.usage d.dead s t steps r d.are (reached_sound p s reached.log reached.leads) (reached_waits p s reached.log reached.leads)
    (path_of (machine p) s steps t l) i in
    let f : true ≡ false = sym d.member ∙ ap d.dead (sym e) ∙ alive in cc

pub returns-clause-stays : goal.returns-clause-stays
returns-clause-stays c p s t steps n reached d l =
    all_stay p d.usage d.dead s t steps n d.are (reached_sound p s reached.log reached.leads) (reached_waits p s reached.log reached.leads)
    (path_of (machine p) s steps t l) d.member

pub returns-clause-remains : goal.returns-clause-remains
returns-clause-remains c p s t steps n reached d l = record {
  usage = d.usage;
  dead = d.dead;
  are = dead_later p d.usage d.dead s t steps d.are (reached_sound p s reached.log reached.leads) (reached_waits p s reached.log reached.leads)
      (path_of (machine p) s steps t l);
  member = d.member;
}

pub returns-clause-together : goal.returns-clause-together
returns-clause-together c = both_dead
