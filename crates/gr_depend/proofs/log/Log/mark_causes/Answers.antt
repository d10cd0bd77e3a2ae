use Rattle.std.proofs.Common.{◌+◌, true, arith}
use Rattle.std.proofs.lemmas.List.{length-set}
use Rattle.gr_touches.specs.declared.marks.Wanted.TheVariants as which_are
use Rattle.gr_depend.proofs.SpreadLemmas.{count_of}
use Rattle.gr_depend.proofs.TraceLemmas.{earlier_walked, traced_init, traced_pass, traced_take}
use Rattle.gr_depend.proofs.log.Log.mark_causes.Goals as goal

pub loop-left-init : goal.loop-left-init
loop-left-init c =
    let rs = c.args.self.now.records.items in
    record {
      within = omega arith;
      traced = traced_init rs c.args.at c.args.marks.now c.mark_from.new.marks c.requires.within c.requires.marks c.mark_from.auto.marks (rw c.earlier.ensures at c.mark_from.ensures.marks);
      read = rw c.earlier.ensures at c.mark_from.ensures.read_walked;
      written = rw c.earlier.ensures at c.mark_from.ensures.written_walked;
    }

pub loop-left-preserved-then-not-marks-left : goal.loop-left-preserved-then-not-marks-left
loop-left-preserved-then-not-marks-left c =
    let rs = c.args.self.now.records.items in
    let lanes = c.args.self.now.lanes in
    let count = count_of c.args.marks.now (c.args.at + 1) c.requires.marks in
    let one = length-set c.args.marks.now c.args.at true in
    record {
      within = omega arith;
      traced = traced_pass rs c.args.at c.loop-left.left c.loop-left.marks (omega arith) (omega arith) c.requires.within (omega arith) c.loop-left.invariant.traced
          c.if-not-marks-left.true;
      read = earlier_walked rs c.args.at lanes which_are.Writes c.loop-left.read c.loop-left.marks _ _ (omega arith) c.loop-left.invariant.read;
      written = earlier_walked rs c.args.at lanes which_are.All c.loop-left.written c.loop-left.marks _ _ (omega arith) c.loop-left.invariant.written;
    }

pub loop-left-preserved : goal.loop-left-preserved
loop-left-preserved c =
    let rs = c.args.self.now.records.items in
    let n = c.mark_from-in-loop-left in
    let count = count_of c.args.marks.now (c.args.at + 1) c.requires.marks in
    let one = length-set c.args.marks.now c.args.at true in
    record {
      within = omega arith;
      traced = traced_take rs c.args.at c.loop-left.left c.loop-left.marks (omega arith) (omega arith) c.requires.within (omega arith) c.loop-left.invariant.traced
          n.new.marks n.auto.marks c.if-not-marks-left.false (rw c.earlier-in-loop-left.ensures at n.ensures.marks);
      read = rw c.earlier-in-loop-left.ensures at n.ensures.read_walked;
      written = rw c.earlier-in-loop-left.ensures at n.ensures.written_walked;
    }
