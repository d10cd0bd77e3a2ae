use Rattle.std.proofs.Common.{◌≡◌, ◌∷◌, [], ◌++◌, ap, ◌∙◌}
use Rattle.gr_tables.proofs.Withdrawals.{none_after, none_at_gate}
use Rattle.gr_step.proofs.channels_named.leave_after.Goals as goal

pub returns-then-is_empty-clause-back : goal.returns-then-is_empty-clause-back
returns-then-is_empty-clause-back c = none_after (c.args.change ∷ []) c.args.channels.now

pub returns-then-is_empty-clause-gates : goal.returns-then-is_empty-clause-gates
returns-then-is_empty-clause-gates c = none_at_gate c.args.names.now (c.args.change ∷ [])

pub put_back-requires-clause-fits : goal.put_back-requires-clause-fits
put_back-requires-clause-fits c = c.requires.fits

pub put_back-requires-clause-room : goal.put_back-requires-clause-room
put_back-requires-clause-room c = c.requires.room

pub returns-in_default-clause-err : goal.returns-in_default-clause-err
returns-in_default-clause-err c = c.put_back.ensures

pub withdraw_after-requires-clause-fits : goal.withdraw_after-requires-clause-fits
withdraw_after-requires-clause-fits c =
    let pushed : c.push_reserved.new.self.items ≡ c.args.change ∷ [] =
    c.push_reserved.ensures.items ∙ ap (λ done. done ++ c.args.change ∷ []) c.in-Ok.ensures.items in
    rw pushed c.requires.fits

pub withdraw_after-requires-clause-room : goal.withdraw_after-requires-clause-room
withdraw_after-requires-clause-room c =
    let pushed : c.push_reserved.new.self.items ≡ c.args.change ∷ [] =
    c.push_reserved.ensures.items ∙ ap (λ done. done ++ c.args.change ∷ []) c.in-Ok.ensures.items in
    rw pushed c.requires.room

pub returns-clause-contents : goal.returns-clause-contents
returns-clause-contents c = c.in_ok-done.ensures.contents

pub returns-clause-back : goal.returns-clause-back
returns-clause-back c =
    let pushed : c.push_reserved.new.self.items ≡ c.args.change ∷ [] =
    c.push_reserved.ensures.items ∙ ap (λ done. done ++ c.args.change ∷ []) c.in-Ok.ensures.items in
    rw c.of_many.ensures (rw pushed at c.in_ok-done.ensures.back)

pub returns-clause-gates : goal.returns-clause-gates
returns-clause-gates c =
    let pushed : c.push_reserved.new.self.items ≡ c.args.change ∷ [] =
    c.push_reserved.ensures.items ∙ ap (λ done. done ++ c.args.change ∷ []) c.in-Ok.ensures.items in
    rw c.of_many.ensures (rw pushed at c.in_ok-done.ensures.gates)
