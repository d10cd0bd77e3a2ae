use Rattle.std.proofs.Common.{◌≡◌, ◌+◌, ◌++◌, ◌∷◌, [], true, length, subst, sym, ap, ◌∙◌, append_assoc, length-append, arith}
use Rattle.std.specs.List.{list_all}
use Rattle.std.specs.Option.{option_to_list}
use Rattle.gr_record.specs.Conflicts.{touched_by}
use Rattle.gr_touches.specs.Touches.{touches_in, none_twice}
use Rattle.gr_touches.specs.Lists.{list_of}
use Rattle.gr_touches.proofs.TouchLemmas.{without_step, all_once_split}
use Rattle.gr_depend.proofs.RoomLemmas.{takes_on}
use Rattle.gr_depend.proofs.log.Log.lay_aside.Goals as goal

pub invariant_of-self : goal.invariant_of-self
invariant_of-self c =
    let log = c.args.self.now in
    let rs = c.pop.new.self.items in
    let step = c.unwrap-step.result in
    let items : log.records.items ≡ rs ++ step ∷ [] = c.pop.ensures.items ∙ ap (λ r. rs ++ option_to_list r) c.unwrap-step.ensures in
    let once = all_once_split rs step (subst (λ l. list_all (λ r. none_twice (touched_by r)) l ≡ true) items log.once) in
    record {
      touches = c.forget.ensures.lists (λ q. touches_in q 0 rs) (0 + length rs)
          (λ q. without_step rs step once.1 q (list_of log.lanes q) (log.touches q ∙ ap (touches_in q 0) items));
      once = once.0;
      few = let long = ap length items in let one_more = length-append rs (step ∷ []) in let few = log.few in omega (arith, long, one_more, few);
    }

pub returns : goal.returns
returns c =
    let log = c.args.self.now in
    let rs = c.pop.new.self.items in
    let step = c.unwrap-step.result in
    let items : log.records.items ≡ rs ++ step ∷ [] = c.pop.ensures.items ∙ ap (λ r. rs ++ option_to_list r) c.unwrap-step.ensures in
    record {
      step = step;
      records = items;
      room = λ rest can. takes_on log _ rest (step ∷ rest) (sym (append_assoc rs (step ∷ []) rest) ∙ ap (λ l. l ++ rest) (sym items))
          (omega (arith, c.pop.ensures.capacity)) c.forget.ensures.room can;
      items = c.push_reserved.ensures.items;
      len = c.push_reserved.ensures.len;
      capacity = c.push_reserved.ensures.capacity;
    }
