use Rattle.std.proofs.Common.{◌∙◌, ap, drop}
use Rattle.std.proofs.lemmas.List.{drop-drop}
use Rattle.gr_search.proofs.search.go_back.Goals as goal

pub loop-preserved : goal.loop-preserved
loop-preserved g c = record {
  stands = c.back.ensures.stands;
  fixed = c.back.ensures.fixed ∙ c.loop.invariant.fixed;
  log = c.in-Ok.ensures.log ∙ ap (drop 1) c.loop.invariant.log ∙ drop-drop 1 c.loop.counter _;
}
