use Rattle.std.proofs.Common.{sym, ◌∙◌, ap}
use Rattle.std.specs.List.{list_any}
use Rattle.gr_depend.specs.Logs.{records_of}
use Rattle.gr_step.specs.Objects.{run_of}
use Rattle.gr_step.specs.Stores.{contents_at, state_at}
use Rattle.gr_schedules.specs.Aims.{is_left}
use Rattle.gr_schedules.specs.Names.{goroutines_begun}
use Rattle.gr_explore.specs.Exploring.{state_seen}
use Rattle.gr_explore.proofs.LeakLemmas.{leaks_are}
use Rattle.gr_explore.proofs.leaking.leaks.Goals as goal

pub returns-then-is_stuck : goal.returns-then-is_stuck
returns-then-is_stuck c =
    leaks_are c.args.machine.now c.requires c.any_left.result
    (ap (λ store. (contents_at store).run) (sym c.store.ensures) ∙ sym c.run.ensures ∙ ap run_of c.in-Ended.is)
    (c.is_stuck.ensures.0 c.if-is_stuck.true)
    (c.any_left.ensures ∙ ap (λ store. list_any (is_left (state_at store)) (goroutines_begun c.as_slice.result.now)) c.store-then-is_stuck.ensures
    ∙ ap (λ rs. list_any (is_left (state_seen c.args.machine.now)) (goroutines_begun rs)) (c.as_slice.ensures ∙ ap records_of c.log.ensures))
