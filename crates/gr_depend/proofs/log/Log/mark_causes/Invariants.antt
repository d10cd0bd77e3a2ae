use Rattle.std.proofs.Common.{◌≤◌}
use Rattle.gr_touches.specs.declared.marks.LogSide.TheVariants.{Earlier}
use Rattle.gr_depend.specs.Marked.{IsTraced}
use Rattle.gr_touches.specs.declared.marks.Wanted.TheVariants as which_are
use Rattle.gr_touches.specs.Walks.{AreWalked}
use Rattle.gr_depend.proofs.log.Log.mark_causes.Given as goal

abbrev pub invariant-loop-left : goal.invariant-loop-left
invariant-loop-left l = record {
  within : l.left ≤ l.at;
  traced : IsTraced l.self.records.items l.at l.left l.marks;
  read : AreWalked l.self.lanes (record { side = Earlier; place = l.left; base = 0 }) which_are.Writes l.read l.marks;
  written : AreWalked l.self.lanes (record { side = Earlier; place = l.left; base = 0 }) which_are.All l.written l.marks;
}

abbrev pub decreases-loop-left : goal.decreases-loop-left
decreases-loop-left l = l.left
