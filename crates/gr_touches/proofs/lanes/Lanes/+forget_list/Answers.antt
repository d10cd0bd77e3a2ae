use Rattle.std.proofs.Common.{[], ◌∷◌, ◌++◌, sym, ap, subst, ◌∙◌}
use Rattle.gr_touches.specs.ObjectRefs.{seen}
use Rattle.gr_touches.specs.Lists.{TakesFor}
use Rattle.gr_touches.specs.Told.{seen_in}
use Rattle.gr_touches.specs.Touches.{touches_for}
use Rattle.gr_touches.proofs.NoteLemmas.{taken_both}
use Rattle.gr_touches.proofs.lanes.Lanes.+forget_list.Goals as goal

pub returns-in_default-clause-lists : goal.returns-in_default-clause-lists
returns-in_default-clause-lists n c before t had =
    c.forget_all.ensures.lists before t (λ q. had q ∙ ap (λ os. before q ++ touches_for q t os) c.in_default.ensures.first)

pub returns-clause-lists : goal.returns-clause-lists
returns-clause-lists n c =
    subst {_, _} (λ os. TakesFor os c.args.self.now c.retract.new.self) (sym c.in-Some.ensures.first)
    (taken_both c.args.self.now c.forget_list.new.self c.retract.new.self (seen c.in-Some.first ∷ []) (seen_in c.next.new.self) c.forget_list.ensures.lists
    c.retract.ensures.lists)
