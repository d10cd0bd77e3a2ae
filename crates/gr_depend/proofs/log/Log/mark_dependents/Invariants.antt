use Rattle.std.proofs.Common.{◌-◌}
use Rattle.gr_touches.specs.declared.marks.LogSide.TheVariants.{Later}
use Rattle.gr_depend.specs.Marked.{IsSpread}
use Rattle.gr_touches.specs.declared.marks.Wanted.TheVariants as which_are
use Rattle.gr_touches.specs.Walks.{AreWalked}
use Rattle.gr_depend.proofs.log.Log.mark_dependents.Given as goal

abbrev pub invariant-loop-place : goal.invariant-loop-place
invariant-loop-place l = record {
  spread : IsSpread l.self.records.items l.at l.place l.marks;
  read : AreWalked l.self.lanes (record { side = Later; place = l.place - 1; base = l.at }) which_are.Writes l.read l.marks;
  written : AreWalked l.self.lanes (record { side = Later; place = l.place - 1; base = l.at }) which_are.All l.written l.marks;
}
