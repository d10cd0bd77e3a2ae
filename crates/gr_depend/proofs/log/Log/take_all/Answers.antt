use Rattle.std.proofs.Common.{◌++◌, ◌∷◌, [], Some, length, ap, subst, sym, ◌∙◌, arith}
use Rattle.std.proofs.lemmas.List.{length-append}
use Rattle.gr_depend.specs.Room.{CanTake}
use Rattle.gr_depend.proofs.ArrangeLemmas.{AreTaken, none_taken, one_taken_out, all_taken}
use Rattle.gr_depend.proofs.log.Log.take_all.Goals as goal

pub loop-step-init : goal.loop-step-init
loop-step-init c = record {
  taken = none_taken c.args.self.now c.args.steps.now.items c.requires.empty;
  room = let e = ap length c.requires.empty in omega (arith, e, c.requires.room);
}

pub push_reserved-requires : goal.push_reserved-requires
push_reserved-requires c =
    let e = ap length c.in-Some.ensures.taken in
    let f = length-append c.pop.new.self.records.items (c.in-Some.step ∷ []) in
    let g = c.loop-step.invariant.room in
    omega (arith, e, f, g, c.loop-step.steps.ok.0)

pub loop-step-smaller : goal.loop-step-smaller
loop-step-smaller c = let e = ap length c.in-Some.ensures.taken in let f = length-append c.pop.new.self.records.items (c.in-Some.step ∷ []) in omega (arith, e, f)

pub loop-step-preserved : goal.loop-step-preserved
loop-step-preserved c = record {
  taken = subst (AreTaken c.args.self.now c.pop.new.self) (sym c.push_reserved.ensures.items)
      (one_taken_out c.args.self.now c.loop-step.self c.pop.new.self c.loop-step.steps.items c.in-Some.step c.loop-step.invariant.taken c.in-Some.ensures.taken
      (λ rest can. c.in-Some.ensures.room rest can));
  room =
      let e = ap length c.in-Some.ensures.taken in
      let f = length-append c.pop.new.self.records.items (c.in-Some.step ∷ []) in
      let g = c.loop-step.invariant.room in
      let h = ap length c.push_reserved.ensures.items in
      let k = length-append c.loop-step.steps.items (Some c.in-Some.step ∷ []) in
      omega (arith, e, f, g, h, k, c.push_reserved.ensures.capacity);
}

pub returns-clause-steps : goal.returns-clause-steps
returns-clause-steps c =
    all_taken c.args.self.now c.loop-step.self c.loop-step.steps.items c.reverse.new.self.items c.loop-step.invariant.taken c.in_default.ensures.taken c.reverse.ensures.items

pub returns-clause-room : goal.returns-clause-room
returns-clause-room c rest can =
    let taken = c.loop-step.invariant.taken in
    subst (λ l. CanTake c.pop.new.self (l ++ rest)) (ap (λ l. l ++ taken.gone) (sym c.in_default.ensures.taken) ∙ taken.split)
    (c.in_default.ensures.room_none (taken.gone ++ rest) (taken.room rest can))
