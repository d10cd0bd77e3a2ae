use Rattle.std.proofs.Common.{◌≡◌, ◌+◌, ◌++◌, ◌∷◌, [], true, length, subst, sym, ap, ◌∙◌, append_assoc, length-append, arith}
use Rattle.std.specs.List.{list_all}
use Rattle.gr_record.specs.Conflicts.{touched_by}
use Rattle.gr_touches.specs.Touches.{touches_in, none_twice}
use Rattle.gr_touches.specs.Lists.{list_of}
use Rattle.gr_touches.proofs.TouchLemmas.{without_step, all_once_split}
use Rattle.gr_depend.proofs.RoomLemmas.{takes_on}
use Rattle.gr_depend.proofs.log.Log.pop.Goals as goal

pub invariant_of-self-2 : goal.invariant_of-self-2
invariant_of-self-2 c =
    let log = c.args.self.now in
    let rs = c.pop.new.self.items in
    let once = all_once_split rs c.in_ok-step.step (subst (λ l. list_all (λ r. none_twice (touched_by r)) l ≡ true) c.in_ok-step.ensures.items log.once) in
    record {
      touches = c.forget.ensures.lists (λ q. touches_in q 0 rs) (0 + length rs)
          (λ q. without_step rs c.in_ok-step.step once.1 q (list_of log.lanes q) (log.touches q ∙ ap (touches_in q 0) c.in_ok-step.ensures.items));
      once = once.0;
      few =
          let long = ap length c.in_ok-step.ensures.items in let one_more = length-append rs (c.in_ok-step.step ∷ []) in let few = log.few in
          omega (arith, long, one_more, few);
    }

pub returns-clause-room : goal.returns-clause-room
returns-clause-room c rest can =
    takes_on c.args.self.now _ rest (c.in_ok-step.step ∷ rest)
    (sym (append_assoc c.pop.new.self.items (c.in_ok-step.step ∷ []) rest) ∙ ap (λ l. l ++ rest) (sym c.in_ok-step.ensures.items))
    (omega (arith, c.pop.ensures.capacity)) c.forget.ensures.room can
