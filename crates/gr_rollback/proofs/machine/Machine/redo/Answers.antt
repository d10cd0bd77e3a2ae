use Rattle.std.proofs.Common.{◌≡◌, ◌<◌, [], length, vec_len, ap, sym, subst, ◌∙◌, arith, rules}
use Rattle.gr_step.specs.Stores.{taken_at}
use Rattle.gr_rollback.specs.Machines.{store_of}
use Rattle.gr_rollback.specs.Stepping.{counted, MayCountOne}
use Rattle.gr_rollback.proofs.RedoLemmas.{takes_again, takes_some_again, something_again, no_items}
use Rattle.gr_rollback.proofs.machine.Machine.redo.Goals as goal

pub returns-in-Ok-take_all-clause-again : goal.returns-in-Ok-take_all-clause-again
returns-in-Ok-take_all-clause-again c = λ p w s.
    let more : 0 < vec_len c.args.self.now.again = search rules in
    let some : c.args.self.now.again.items ≡ [] → ⊥ = λ e. let n : vec_len c.args.self.now.again ≡ 0 = c.args.self.now.again.ok.0 ∙ ap length e in omega (arith, more) in
    takes_again p w _ _ _ (something_again p w c.args.self.now s some) c.in-Ok.ensures.items (c.in-Ok-take_all.ensures.goes p w s)
    (no_items c.take_all.new.self.again.items (sym c.take_all.new.self.again.ok.0 ∙ c.in-Ok-take_all.ensures.all))

pub returns-in-Err-clause-again : goal.returns-in-Err-clause-again
returns-in-Err-clause-again c = λ p w s.
    let more : 0 < vec_len c.args.self.now.again = search rules in
    let some : c.args.self.now.again.items ≡ [] → ⊥ = λ e. let n : vec_len c.args.self.now.again ≡ 0 = c.args.self.now.again.ok.0 ∙ ap length e in omega (arith, more) in
    let left = c.in-Err.ensures.left in
    takes_some_again p w _ _ _ (something_again p w c.args.self.now s some) c.in-Ok.ensures.items (c.in-Err.ensures.goes p w s)
    (λ e. let n : vec_len c.take_all.new.self.again ≡ 0 = c.take_all.new.self.again.ok.0 ∙ ap length e in omega (arith, left))

pub returns-in-Ok-take_all-clause-taken : goal.returns-in-Ok-take_all-clause-taken
returns-in-Ok-take_all-clause-taken c =
    c.in-Ok-take_all.ensures.taken ∙ ap (λ n. counted n (taken_at (store_of c.args.self.now))) c.take_all.new.ids.ok.0

pub returns-in-Err-clause-taken : goal.returns-in-Err-clause-taken
returns-in-Err-clause-taken c =
    subst (λ n. MayCountOne n (taken_at (store_of c.args.self.now)) (taken_at (store_of c.take_all.new.self))) c.take_all.new.ids.ok.0
    c.in-Err.ensures.not_taken

pub returns-in-Err-clause-err : goal.returns-in-Err-clause-err
returns-in-Err-clause-err c = λ none. c.in-Err.ensures.stays (c.take_all.new.ids.ok.0 ∙ ap length none)
