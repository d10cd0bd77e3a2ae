use Rattle.std.proofs.Common.{refl, sym, subst}
use Rattle.gr_base.specs.declared.objects.Object.TheVariants.{Run}
use Rattle.gr_touches.specs.declared.marks.Wanted.TheVariants as which_are
use Rattle.gr_touches.specs.Lists.{IsNumbered}
use Rattle.gr_touches.proofs.LaneLemmas.{run_numbered, whole_run_numbered}
use Rattle.gr_touches.proofs.lanes.Lanes.numbered_run.Goals as goal

pub returns-in-All : goal.returns-in-All
returns-in-All c =
    subst (λ w. IsNumbered c.args.self.now Run w c.len.result c.as_slice.result.now) (sym c.in-All.is)
    (whole_run_numbered c.args.self.now Run which_are.All c.len.result c.as_slice.result.now refl c.len.ensures.len c.as_slice.ensures.value)

pub returns-in-Writes : goal.returns-in-Writes
returns-in-Writes c =
    let n = c.len-in-Writes.result in
    let ts = c.as_slice-in-Writes.result.now in
    subst (λ w. IsNumbered c.args.self.now Run w n ts) (sym c.in-Writes.is)
    (run_numbered c.args.self.now Run n ts refl c.len-in-Writes.ensures.len c.as_slice-in-Writes.ensures.value)
