use Rattle.std.proofs.Common.{refl, sym, true≢false, arith, ◌∙◌}
use Rattle.gr_goros.proofs.AlikeLemmas.{one_more_alike, no_more_alike, all_places_alike}
use Rattle.gr_goros.proofs.comparing.all_alike.Goals as goal

pub loop-i-preserved : goal.loop-i-preserved
loop-i-preserved c = λ c'.
    one_more_alike c'.args.one.now c'.args.other.now c'.loop-i.i c'.index-one-i.result c'.index-other-i.result c'.if-one-other.false
    c'.loop-i-test.true c'.index-one-i.is c'.index-other-i.is (c'.is_like.ensures.0 c'.if-not-is_like.false) c'.loop-i.invariant

pub returns-then-not-is_like : goal.returns-then-not-is_like
returns-then-not-is_like c = λ c'. (
  (λ bad. absurd (true≢false (sym bad))),
  (λ same. sym c'.if-not-is_like.true ∙ c'.is_like.ensures.1 (no_more_alike c'.args.one.now c'.args.other.now c'.loop-i.i c'.index-one-i.result c'.index-other-i.result c'.if-one-other.false
      c'.loop-i-test.true c'.index-one-i.is c'.index-other-i.is c'.loop-i.invariant same)),
)

pub returns : goal.returns
returns c = λ c'. (
  (λ _. all_places_alike c'.args.one.now c'.args.other.now c'.loop-i.i c'.if-one-other.false
      (omega (arith, c'.loop-i-test.false, c'.loop-i.auto.i-end)) c'.loop-i.invariant),
  (λ _. refl),
)
