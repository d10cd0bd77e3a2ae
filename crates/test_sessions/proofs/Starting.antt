-- That the counts of a store before its first step are small.
use Rattle.std.proofs.Common.{◌≡◌, ℕ, ◌+◌, ◌≤◌, ◌<◌, ◌^◌, List, [], Option, Some, refl, sym, ap, subst, ◌∙◌, arith}
use Rattle.std.specs.Prelude.{option_map}
use Rattle.std.specs.Option.{option_map_or}
use Rattle.gr_program.specs.Programs.{Program}
use Rattle.gr_rules.specs.States.{start}
use Rattle.gr_rules.specs.Steps.{count, steps_of}
use Rattle.gr_laws.specs.Reached.{IsRun}
use Rattle.gr_laws.proofs.BoundLemmas.{steps_within, entered_within}
use Rattle.gr_refine.specs.Contents.{goroutine_of}
use Rattle.gr_record.specs.Listings.{frame_in}
use Rattle.gr_channels.specs.Channels.{tail_of}
use Rattle.gr_step.specs.declared.store.Store.{Store}
use Rattle.gr_step.specs.Premises.{CanCount}
use Rattle.gr_step.specs.Stores.{program_at, contents_at, state_at, IsStart}

small : (n top : ℕ) → n ≤ 0 → 1 < top → n + 1 < top
small n top a b = omega arith

module _ (s : Store) (h : IsStart (program_at s) s) where
  run : IsRun (program_at s) [] (state_at s)
  run = subst (λ t. IsRun (program_at s) [] t) (sym h.state) refl

  pub counted : CanCount (contents_at s)
  counted = record {
    steps = λ n g there.
        let is : count (state_at s) n ≡ g.steps = ap (λ o. steps_of (option_map (goroutine_of (frame_in (program_at s))) o)) there in
        small g.steps (2 ^ 64) (subst (λ n. n ≤ 0) is (steps_within (program_at s) (state_at s) [] n run)) (omega arith);
    values = λ k x there.
        let is : (state_at s).tails k ≡ tail_of x = ap (λ o. option_map_or tail_of o 0) there in
        small (tail_of x) (2 ^ 64) (subst (λ n. n ≤ 0) is (entered_within (program_at s) (state_at s) [] k run)) (omega arith);
  }
