-- A run has one end, so its steps fix a past.
use Rattle.std.proofs.Common.{◌≡◌, subst}
use Rattle.gr_causal.proofs.PathLemmas.{one_end}
use Rattle.gr_program.specs.Programs.{Program}
use Rattle.gr_rules.specs.States.{start}
use Rattle.gr_rules.specs.Steps.{machine}
use Rattle.gr_laws.specs.Reached.{IsRun}
use Rattle.gr_rollback.specs.Pasts.{Past}

module _ (p : Program) (u v : Past p) where
  -- pasts with one log and one state are one
  pub same_past : u.log ≡ v.log → u.state ≡ v.state → u ≡ v
  same_past a b = λ i. record { log = a i; state = b i }

  -- the pasts of two runs with one log are one
  pub one_past : IsRun p u.log u.state → IsRun p v.log v.state → u.log ≡ v.log → u ≡ v
  one_past a b same = same_past same (one_end (machine p) (start p) u.state v.state v.log (subst (λ l. IsRun p l u.state) same a) b)
