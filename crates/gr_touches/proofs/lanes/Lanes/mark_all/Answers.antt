use Rattle.std.proofs.Common.{subst, take, arith}
use Rattle.gr_touches.specs.Lists.{list_of}
use Rattle.gr_touches.specs.Marks.{hits, Marks}
use Rattle.gr_touches.specs.Walks.{hits_any}
use Rattle.gr_touches.proofs.WalkLemmas.{marks_both, marks_as, hits_more}
use Rattle.gr_touches.proofs.lanes.Lanes.mark_all.Goals as goal

pub loop-i-preserved : goal.loop-i-preserved
loop-i-preserved c =
    let l = c.args.self.now in
    let before = take c.loop-i.i c.args.objects.now in
    record {
      marks = marks_as c.args.origin _ _ c.args.marks.now c.mark_object.new.marks
          (hits_more l c.args.wanted c.args.objects.now c.loop-i.i c.index-objects-i.result (omega arith) c.index-objects-i.is)
          (marks_both c.args.origin (hits_any l c.args.wanted before) (hits c.args.wanted (list_of l c.index-objects-i.result)) c.args.marks.now c.loop-i.marks c.mark_object.new.marks
          c.loop-i.auto.marks c.loop-i.invariant.marks
          (subst (λ o. Marks c.args.origin (hits c.args.wanted (list_of l o)) c.loop-i.marks c.mark_object.new.marks) c.of-object.ensures c.mark_object.ensures.marks));
      walked = c.mark_object.ensures.walked;
    }
