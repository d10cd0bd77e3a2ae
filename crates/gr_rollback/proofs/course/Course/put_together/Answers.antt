use Rattle.std.proofs.Common.{◌≡◌, [], ◌∷◌, ◌++◌, reverse, inl, inr, refl, sym, ap, subst, ◌∙◌, append_assoc}
use Rattle.gr_causal.specs.Sequences.{In}
use Rattle.gr_depend.specs.Logs.{records_of}
use Rattle.gr_depend.specs.Room.{CanTake}
use Rattle.gr_rollback.proofs.UnwindLemmas.{turned}
use Rattle.gr_rollback.proofs.course.Course.put_together.Goals as goal

pub push_reserved-requires-clause-once : goal.push_reserved-requires-clause-once
push_reserved-requires-clause-once c =
    c.loop-step.invariant.once c.in-Some.step
    (subst (In c.in-Some.step) (sym (ap reverse c.in-Some.ensures.items ∙ turned c.pop.new.self.items c.in-Some.step)) (inl refl))

pub push_reserved-requires-clause-room : goal.push_reserved-requires-clause-room
push_reserved-requires-clause-room c =
    let rest = reverse c.pop.new.self.items in
    let are : reverse c.loop-step.stay.items ≡ c.in-Some.step ∷ rest = ap reverse c.in-Some.ensures.items ∙ turned c.pop.new.self.items c.in-Some.step in
    (rest, subst (CanTake c.loop-step.self.log) are c.loop-step.invariant.room)

pub loop-step-preserved : goal.loop-step-preserved
loop-step-preserved c =
    let rest = reverse c.pop.new.self.items in
    let step = c.in-Some.step in
    let are : reverse c.loop-step.stay.items ≡ step ∷ rest = ap reverse c.in-Some.ensures.items ∙ turned c.pop.new.self.items step in
    let old = c.loop-step.self.log in
    record {
      room = c.push_reserved.ensures.room rest (subst (CanTake old) are c.loop-step.invariant.room);
      once = λ r i. c.loop-step.invariant.once r (subst (In r) (sym are) (inr i));
      records = ap (λ rs. rs ++ rest) c.push_reserved.ensures.records ∙ append_assoc (records_of old) (step ∷ []) rest ∙ ap (λ rs. records_of old ++ rs) (sym are)
          ∙ c.loop-step.invariant.records;
      store = c.loop-step.invariant.store;
      pool = c.loop-step.invariant.pool;
      first = c.loop-step.invariant.first;
    }
