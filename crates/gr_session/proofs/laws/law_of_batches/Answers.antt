use Rattle.std.proofs.Common.{◌≤◌, Some, sym, ap, ◌∙◌, inl, inr, arith}
use Rattle.std.specs.Prelude.{min}
use Rattle.std.proofs.Math.Nat.{min-le_left, max-le}
use Rattle.gr_session.specs.declared.TheConstants.{BATCH_LIMIT}
use Rattle.gr_session.proofs.laws.law_of_batches.Goals as goal

pub returns : goal.returns
returns c = λ p s lent led grant limit as_lent some within batch must.
    elim must [
      | inl none ↦ none (record {
        program = batch.loan.program ∙ as_lent.program;
        runs = as_lent.runs;
        there = ap s.goroutines batch.loan.name ∙ as_lent.there ∙ ap Some (sym batch.loan.lent);
      })
      | inr more ↦ let few = batch.few in
          let least : min limit BATCH_LIMIT ≤ grant = omega (arith, min-le_left limit BATCH_LIMIT, within) in
          let most = max-le least some in
          omega (arith, few, most, more)
    ]
