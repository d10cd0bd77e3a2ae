use Rattle.std.proofs.Common.{◌≡◌, OnOk, ap, take, rules, subst}
use Rattle.gr_step.specs.Stores.{program_at}
use Rattle.gr_rollback.specs.Machines.{store_of}
use Rattle.gr_explore.specs.Blaming.{IsOf}
use Rattle.gr_explore.specs.Exploring.{events_at}
use Rattle.gr_explore.proofs.MoveLemmas.{still_of, if_home}
use Rattle.gr_explore.proofs.moving.back_to.Goals as goal

pub returns-clause-of : goal.returns-clause-of
returns-clause-of c =
    let there : c.take_all_back.new.machine.machine.now ≡ c.machine-1.given.0 = search rules in
    subst (IsOf (program_at (store_of c.args.machine.now))) there
    (still_of c.args.machine.now c.take_all_back.new.machine.machine.now c.args.place c.take_all_back.new.machine.base c.take_all_back.ensures.stands.0
    (ap (λ f. f.1) c.take_all_back.ensures.fixed) (ap (λ f. f.2) c.take_all_back.ensures.fixed))

pub returns-clause-back : goal.returns-clause-back
returns-clause-back c =
    let there : c.take_all_back.new.machine.machine.now ≡ c.machine-1.given.0 = search rules in
    subst (λ n. OnOk c.take_all_back.result (events_at n ≡ take c.args.place (events_at c.args.machine.now))) there
    (if_home c.args.machine.now c.take_all_back.new.machine.machine.now c.args.place c.take_all_back.new.machine.base c.take_all_back.ensures.stands.0
    (ap (λ f. f.1) c.take_all_back.ensures.fixed) (ap (λ f. f.2) c.take_all_back.ensures.fixed) c.take_all_back.result c.take_all_back.ensures.home)
