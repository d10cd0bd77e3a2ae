use Rattle.std.proofs.Common.{refl, ◌≡◌, cond, Some, true, ◌++◌, ap, subst, ◌∙◌}
use Rattle.std.specs.Option.{unwrap_or}
use Rattle.indexmap.specs.IndexMap.{get}
use Rattle.gr_base.specs.declared.objects.Object.TheVariants.{Go}
use Rattle.gr_base.specs.declared.objects.Object.{Object}
use Rattle.gr_rules.specs.States.{same}
use Rattle.gr_touches.specs.Lists.{nothing}
use Rattle.gr_touches.specs.Touches.{stretch}
use Rattle.gr_touches.proofs.LaneLemmas.{changed, on_ok, with_run}
use Rattle.gr_touches.proofs.lanes.Lanes.note_first_writes.Goals as goal

pub returns-clause-ok : goal.returns-clause-ok
returns-clause-ok c =
    on_ok c.insert.result _ _
    (λ all q. with_run c.args.self.now c.insert.new.self (λ ts. ts ++ stretch true c.args.place c.args.count) (Go c.args.go.now) c.insert.ensures.run
    (changed (λ k. k.0) c.args.self.now.run.items c.args.self.now.map c.insert.new.self.map (λ ts. ts ++ stretch true c.args.place c.args.count) (Go c.args.go.now) refl
    nothing c.extend.new.self (ap (λ o. unwrap_or o nothing) c.requires.absent)
    (c.in_ok-extend.ensures.ok ∙ ap (λ ts. ts ++ stretch true c.args.place c.args.count) c.new-lane.ensures)
    (subst (λ k. (p : Object) → get same c.insert.new.self.map p ≡ cond (same k p) (Some c.extend.new.self) (get same c.args.self.now.map p)) (ap Go c.in_ok-copy.ensures) all)) q)
    c.insert.ensures.ok
