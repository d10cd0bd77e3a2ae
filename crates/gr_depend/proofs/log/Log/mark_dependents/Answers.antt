use Rattle.std.proofs.Common.{◌-◌, true, length, arith}
use Rattle.std.proofs.lemmas.List.{length-set}
use Rattle.gr_touches.specs.declared.marks.Wanted.TheVariants as which_are
use Rattle.gr_depend.proofs.SpreadLemmas.{count_of, later_walked, spread_init, spread_pass, spread_take}
use Rattle.gr_depend.proofs.log.Log.mark_dependents.Goals as goal

pub loop-place-init : goal.loop-place-init
loop-place-init c =
    let rs = c.args.self.now.records.items in
    let lanes = c.args.self.now.lanes in
    record {
      spread = spread_init rs c.args.at c.args.marks.now c.mark_from.new.marks c.requires.within c.requires.marks c.mark_from.auto.marks (rw c.later.ensures at c.mark_from.ensures.marks);
      read = later_walked rs c.args.at lanes which_are.Writes c.mark_from.new.read c.mark_from.new.marks c.args.at _ (omega arith) (rw c.later.ensures at c.mark_from.ensures.read_walked);
      written = later_walked rs c.args.at lanes which_are.All c.mark_from.new.written c.mark_from.new.marks c.args.at _ (omega arith) (rw c.later.ensures at c.mark_from.ensures.written_walked);
    }

pub loop-place-preserved-then-not-marks-place : goal.loop-place-preserved-then-not-marks-place
loop-place-preserved-then-not-marks-place c =
    let rs = c.args.self.now.records.items in
    let lanes = c.args.self.now.lanes in
    let count = count_of c.args.marks.now (length rs - c.args.at) c.requires.marks in
    let small = c.args.self.now.records.ok.0 in
    let one = length-set c.args.marks.now 0 true in
    record {
      spread = spread_pass rs c.args.at c.loop-place.place c.loop-place.marks (omega arith) (omega arith) (omega arith) c.loop-place.invariant.spread
          c.if-not-marks-place.true;
      read = later_walked rs c.args.at lanes which_are.Writes c.loop-place.read c.loop-place.marks _ _ (omega arith) c.loop-place.invariant.read;
      written = later_walked rs c.args.at lanes which_are.All c.loop-place.written c.loop-place.marks _ _ (omega arith) c.loop-place.invariant.written;
    }

pub loop-place-preserved : goal.loop-place-preserved
loop-place-preserved c =
    let rs = c.args.self.now.records.items in
    let lanes = c.args.self.now.lanes in
    let n = c.mark_from-in-loop-place in
    let count = count_of c.args.marks.now (length rs - c.args.at) c.requires.marks in
    let small = c.args.self.now.records.ok.0 in
    let one = length-set c.args.marks.now 0 true in
    record {
      spread = spread_take rs c.args.at c.loop-place.place c.loop-place.marks (omega arith) (omega arith) (omega arith) c.loop-place.invariant.spread
          n.new.marks n.auto.marks c.if-not-marks-place.false (rw c.later-in-loop-place.ensures at n.ensures.marks);
      read = later_walked rs c.args.at lanes which_are.Writes n.new.read n.new.marks c.loop-place.place _ (omega arith) (rw c.later-in-loop-place.ensures at n.ensures.read_walked);
      written = later_walked rs c.args.at lanes which_are.All n.new.written n.new.marks c.loop-place.place _ (omega arith) (rw c.later-in-loop-place.ensures at n.ensures.written_walked);
    }
