use Rattle.std.proofs.Common.{◌≡◌, List, ◌++◌, ◌∙◌, [], ◌∷◌, map, if◌then◌else◌, ap}
use Rattle.gr_base.specs.declared.events.Choice.TheVariants.{Pick}
use Rattle.gr_base.specs.declared.events.Event.{Event}
use Rattle.gr_step.specs.Stores.{program_at, state_at}
use Rattle.gr_rules.specs.Tells.{usual_choice, ready_clauses}
use Rattle.gr_schedules.specs.Choices.{choices_of, event_by, is_pick}
use Rattle.gr_keys.proofs.Writing.{on_ok}
use Rattle.gr_explore.proofs.ChoiceLists.{put_together}
use Rattle.gr_explore.proofs.offers.push_choices.Goals as goal

pub returns : goal.returns
returns c =
    on_ok {Q = c.push_picks.new.events.items ≡ c.args.events.now.items ++ choices_of (program_at c.args.store.now) (state_at c.args.store.now) c.args.go.now} c.push_picks.result (λ e.
    let go = c.args.go.now in
    let usual = usual_choice (program_at c.args.store.now) (state_at c.args.store.now) go in
    let cases = ready_clauses (program_at c.args.store.now) (state_at c.args.store.now) go in
    let first : List Event = if is_pick usual then [] else event_by go usual ∷ [] in
    let picks : List Event = map (λ i. event_by go (Pick i)) cases in
    let one : c.push_unless_pick.new.events.items ≡ c.args.events.now.items ++ first =
    c.in_ok-push_unless_pick.ensures ∙ ap (λ choice. c.args.events.now.items ++ (if is_pick choice then [] else event_by go choice ∷ [])) c.in_ok-usual.ensures.choice in
    let two : c.push_picks.new.events.items ≡ c.push_unless_pick.new.events.items ++ picks =
    e ∙ ap (λ ns. c.push_unless_pick.new.events.items ++ map (λ i. event_by go (Pick i)) ns) (c.as_slice.ensures.value ∙ c.in_ok-cases.ensures) in
    put_together c.args.events.now.items first picks c.push_unless_pick.new.events.items c.push_picks.new.events.items one two) c.push_picks.ensures
