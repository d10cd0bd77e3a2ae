use Rattle.std.proofs.Common.{◌≡◌, ◌∙◌, ◌+◌, ap, length, rules, subst}
use Rattle.gr_program.specs.Programs.{Program}
use Rattle.gr_rollback.specs.Machines.{Stands}
use Rattle.gr_rollback.specs.Pasts.{Timeline}
use Rattle.gr_depend.specs.Logs.{records_of}
use Rattle.gr_search.specs.Going.{HasClosed}
use Rattle.gr_search.specs.Shortest.{IsCut}
use Rattle.gr_schedules.specs.Aims.{schedules_to}
use Rattle.gr_schedules.specs.Choices.{AreChoices}
use Rattle.gr_schedules.specs.Keys.{IsKey}
use Rattle.gr_explore.specs.Exploring.{origin_of, longest_after}
use Rattle.gr_explore.specs.Fewest.{ComesByFewest, IsHomeAfter}
use Rattle.gr_explore.proofs.EndLemmas.{shortest_closed, shortest_nothing, shortest_found, shortest_known, shortest_cut, shortest_home}
use Rattle.gr_explore.proofs.searching.explore_shortest.Goals as goal

pub returns-clause-nothing : goal.returns-clause-nothing
returns-clause-nothing c p w states s e =
    shortest_nothing c.args.machine.now c.search_shortest.new.machine.machine.now c.len-base.result c.search_shortest.new.machine.base (c.len-base.ensures ∙ ap (λ l. length (records_of l)) c.log.ensures) c.requires c.search_shortest.ensures.stands.0
    (ap (λ f. f.1) c.search_shortest.ensures.fixed) (ap (λ f. f.2) c.search_shortest.ensures.fixed) c.args.aim
    (IsKey (origin_of c.args.machine.now c.len-base.result).program) (AreChoices (origin_of c.args.machine.now c.len-base.result).program) (longest_after (origin_of c.args.machine.now c.len-base.result))
    c.args.limits.now.states c.args.limits.now.turns c.search_shortest.result c.search_shortest.ensures.ends states e p w s

pub returns-clause-found : goal.returns-clause-found
returns-clause-found c p w s e =
    let there : c.search_shortest.new.machine.machine.now ≡ c.machine-1.given.0 = search rules in
    subst (ComesByFewest c.args.aim p w) there
    (shortest_found c.args.machine.now c.search_shortest.new.machine.machine.now c.len-base.result c.search_shortest.new.machine.base (c.len-base.ensures ∙ ap (λ l. length (records_of l)) c.log.ensures) c.requires c.search_shortest.ensures.stands.0
    (ap (λ f. f.1) c.search_shortest.ensures.fixed) (ap (λ f. f.2) c.search_shortest.ensures.fixed) c.args.aim
    (IsKey (origin_of c.args.machine.now c.len-base.result).program) (AreChoices (origin_of c.args.machine.now c.len-base.result).program) (longest_after (origin_of c.args.machine.now c.len-base.result))
    c.args.limits.now.states c.args.limits.now.turns c.search_shortest.result c.search_shortest.ensures.ends c.search_shortest.ensures.leads e p w s)

pub returns-clause-home : goal.returns-clause-home
returns-clause-home c =
    let there : c.search_shortest.new.machine.machine.now ≡ c.machine-1.given.0 = search rules in
    subst (λ n. (p : Program) (w : Timeline p) → Stands p w c.args.machine.now → IsHomeAfter p w c.search_shortest.result n) there
    (shortest_home c.args.machine.now c.search_shortest.new.machine.machine.now c.len-base.result c.search_shortest.new.machine.base (c.len-base.ensures ∙ ap (λ l. length (records_of l)) c.log.ensures) c.requires c.search_shortest.ensures.stands.0
    (ap (λ f. f.1) c.search_shortest.ensures.fixed) (ap (λ f. f.2) c.search_shortest.ensures.fixed) c.args.aim
    (IsKey (origin_of c.args.machine.now c.len-base.result).program) (AreChoices (origin_of c.args.machine.now c.len-base.result).program) (longest_after (origin_of c.args.machine.now c.len-base.result))
    c.args.limits.now.states c.args.limits.now.turns c.search_shortest.result c.search_shortest.ensures.ends)

pub returns-clause-known : goal.returns-clause-known
returns-clause-known c p w u s e =
    shortest_known c.args.machine.now c.search_shortest.new.machine.machine.now c.len-base.result c.search_shortest.new.machine.base (c.len-base.ensures ∙ ap (λ l. length (records_of l)) c.log.ensures) c.requires c.search_shortest.ensures.stands.0
    (ap (λ f. f.1) c.search_shortest.ensures.fixed) (ap (λ f. f.2) c.search_shortest.ensures.fixed) c.args.aim
    (IsKey (origin_of c.args.machine.now c.len-base.result).program) (AreChoices (origin_of c.args.machine.now c.len-base.result).program) (longest_after (origin_of c.args.machine.now c.len-base.result))
    c.args.limits.now.states c.args.limits.now.turns c.search_shortest.result c.search_shortest.ensures.ends u e p w s

pub returns-clause-closed : goal.returns-clause-closed
returns-clause-closed c states e =
    subst (λ k. HasClosed (schedules_to c.args.aim (origin_of c.args.machine.now k)) (IsKey (origin_of c.args.machine.now k).program) states)
    (c.len-base.ensures ∙ ap (λ l. length (records_of l)) c.log.ensures)
    (shortest_closed c.args.machine.now c.search_shortest.new.machine.machine.now c.len-base.result c.search_shortest.new.machine.base (c.len-base.ensures ∙ ap (λ l. length (records_of l)) c.log.ensures) c.requires c.search_shortest.ensures.stands.0
    (ap (λ f. f.1) c.search_shortest.ensures.fixed) (ap (λ f. f.2) c.search_shortest.ensures.fixed) c.args.aim
    (IsKey (origin_of c.args.machine.now c.len-base.result).program) (AreChoices (origin_of c.args.machine.now c.len-base.result).program) (longest_after (origin_of c.args.machine.now c.len-base.result))
    c.args.limits.now.states c.args.limits.now.turns c.search_shortest.result c.search_shortest.ensures.ends states e)

pub returns-clause-limited : goal.returns-clause-limited
returns-clause-limited c u e =
    subst (λ k.
    IsCut (schedules_to c.args.aim (origin_of c.args.machine.now k)) (IsKey (origin_of c.args.machine.now k).program) (AreChoices (origin_of c.args.machine.now k).program)
    (longest_after (origin_of c.args.machine.now k)) c.args.limits.now.states c.args.limits.now.turns (u.safe + 1) u.limit) (c.len-base.ensures ∙ ap (λ l. length (records_of l)) c.log.ensures)
    (shortest_cut c.args.machine.now c.search_shortest.new.machine.machine.now c.len-base.result c.search_shortest.new.machine.base (c.len-base.ensures ∙ ap (λ l. length (records_of l)) c.log.ensures) c.requires c.search_shortest.ensures.stands.0
    (ap (λ f. f.1) c.search_shortest.ensures.fixed) (ap (λ f. f.2) c.search_shortest.ensures.fixed) c.args.aim
    (IsKey (origin_of c.args.machine.now c.len-base.result).program) (AreChoices (origin_of c.args.machine.now c.len-base.result).program) (longest_after (origin_of c.args.machine.now c.len-base.result))
    c.args.limits.now.states c.args.limits.now.turns c.search_shortest.result c.search_shortest.ensures.ends u e)
