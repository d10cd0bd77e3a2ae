use Rattle.std.proofs.Common.{◌≡◌, ◌+◌, ◌-◌, nat_lt, ap, sym, subst, ◌∙◌, arith, rules, of_calls}
use Rattle.std.specs.Prelude.{option_copied, slice_get}
use Rattle.std.proofs.lemmas.Fn.{always_returns_same}
use Rattle.gr_touches.specs.Touches.{touches_in}
use Rattle.gr_depend.specs.Logs.{records_of}
use Rattle.gr_facts.proofs.WriterLemmas.{Covers, at_index, before_first, covers_first, covers_next, found_covered, has_step, none_any, none_covered, none_touched, parted, some_any}
use Rattle.gr_facts.proofs.sources.writer_before.Goals as goal

pub returns-in_err-touches : goal.returns-in_err-touches
returns-in_err-touches c =
    let rs = records_of c.args.log.now in
    let o = c.args.object.now in
    ap option_copied c.from_residual.ensures
    ∙ sym (none_touched rs o c.args.place (none_any (touches_in o 0 rs) (sym (ap option_copied c.in_err-touches.was) ∙ c.touched.ensures)))

pub loop-left-init : goal.loop-left-init
loop-left-init c =
    let rs = records_of c.args.log.now in
    let o = c.args.object.now in
    let ts = c.in_ok-touches.touches.now in
    let are = some_any (touches_in o 0 rs) ts (sym (ap option_copied c.in_ok-touches.was) ∙ c.touched.ensures) in
    let point = c.partition_point-left.ensures.partitioned (λ t. nat_lt t.place c.args.place)
    (always_returns_same _ _ _ (λ a r f k. search (rules, of_calls))) (parted rs o ts are c.args.place) in
    record {
      within = c.partition_point-left.ensures.bound;
      covers = covers_first rs o ts are c.args.place c.partition_point-left.result point;
      before = before_first ts c.args.place c.partition_point-left.result point;
    }

pub record-requires : goal.record-requires
record-requires c =
    let rs = records_of c.args.log.now in
    let o = c.args.object.now in
    let ts = c.in_ok-touches.touches.now in
    let are = some_any (touches_in o 0 rs) ts (sym (ap option_copied c.in_ok-touches.was) ∙ c.touched.ensures) in
    let n = c.loop-left.left - 1 in
    let touch = c.index-touches-left in
    let at = at_index ts n touch.result (omega arith) touch.is in
    let less = has_step rs o ts are c.args.place n touch.result at in
    let same = c.place.ensures in
    omega (arith, less, same)

pub returns-then-writes : goal.returns-then-writes
returns-then-writes c =
    let rs = records_of c.args.log.now in
    let o = c.args.object.now in
    let ts = c.in_ok-touches.touches.now in
    let are = some_any (touches_in o 0 rs) ts (sym (ap option_copied c.in_ok-touches.was) ∙ c.touched.ensures) in
    let n = c.loop-left.left - 1 in
    let touch = c.index-touches-left in
    let at = at_index ts n touch.result (omega arith) touch.is in
    let more : c.loop-left.left ≡ n + 1 = omega arith in
    sym (found_covered rs o ts are c.args.place n touch.result c.record.result.now at
    (c.loop-left.invariant.before n touch.result (omega arith) at)
    (ap (slice_get rs) (sym c.place.ensures) ∙ c.record.ensures)
    (sym c.writes.ensures ∙ c.if-writes.true)
    (subst (Covers rs o ts c.args.place) more c.loop-left.invariant.covers))

pub loop-left-preserved : goal.loop-left-preserved
loop-left-preserved c =
    let rs = records_of c.args.log.now in
    let o = c.args.object.now in
    let ts = c.in_ok-touches.touches.now in
    let are = some_any (touches_in o 0 rs) ts (sym (ap option_copied c.in_ok-touches.was) ∙ c.touched.ensures) in
    let n = c.loop-left.left - 1 in
    let touch = c.index-touches-left in
    let at = at_index ts n touch.result (omega arith) touch.is in
    let more : c.loop-left.left ≡ n + 1 = omega arith in
    record {
      within = omega arith;
      covers = covers_next rs o ts are c.args.place n touch.result at (sym c.writes.ensures ∙ c.if-writes.false)
          (subst (Covers rs o ts c.args.place) more c.loop-left.invariant.covers);
      before = λ j t lt there. c.loop-left.invariant.before j t (omega (arith, lt)) there;
    }

pub returns : goal.returns
returns c =
    let rs = records_of c.args.log.now in
    let o = c.args.object.now in
    let ts = c.in_ok-touches.touches.now in
    let are = some_any (touches_in o 0 rs) ts (sym (ap option_copied c.in_ok-touches.was) ∙ c.touched.ensures) in
    let none : c.loop-left.left ≡ 0 = omega arith in
    sym (none_covered rs o ts are c.args.place c.loop-left.left none c.loop-left.invariant.covers)
