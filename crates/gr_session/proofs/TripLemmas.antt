-- Each trip can be had by commands of one move.
use Rattle.std.proofs.Common.{◌≡◌, ◌⊎◌, ℕ, suc, ◌-◌, ◌<◌, List, [], ◌∷◌, ◌++◌, map, length, Option, Some, None, refl, sym, ◌∙◌, ap, subst, append_assoc, inl, inr, arith}
use Rattle.std.proofs.lemmas.List.{append-nil, length-append}
use Rattle.std.proofs.lemmas.List.Elements.{All-nil, All-cons}
use Rattle.gr_base.specs.declared.events.Choice.{Choice}
use Rattle.gr_base.specs.declared.events.Choice.TheVariants.{Pick}
use Rattle.gr_causal.specs.Machine.{IsLog}
use Rattle.gr_causal.specs.Orders.{Swaps}
use Rattle.gr_causal.specs.OrderByNames.Ordered.{accepted}
use Rattle.gr_causal.specs.Trips.{Move, IsLogFrom}
use Rattle.gr_causal.specs.Trips.Move.{forth, back}
use Rattle.gr_causal.proofs.MoveLemmas.{turned, back_shorter, trip_from}
use Rattle.gr_causal.proofs.OrderByNamesLemmas.{accepts}
use Rattle.gr_causal.proofs.OrderLemmas.{swaps_order}
use Rattle.gr_causal.proofs.PathLemmas.{path_of, log_split, one_end}
use Rattle.gr_program.specs.Programs.{Program}
use Rattle.gr_rules.specs.Limits.{most_steps}
use Rattle.gr_rules.specs.States.{start}
use Rattle.gr_rules.specs.Steps.{machine}
use Rattle.gr_rules.specs.Tells.{usual_choice}
use Rattle.gr_laws.specs.Dependence.{clash, step_name, same_name, ordered_by}
use Rattle.gr_laws.specs.Reached.{Logged, IsRun}
use Rattle.gr_laws.proofs.MoveLemmas as trips
use Rattle.gr_laws.proofs.MoveLemmas.{runs_are_logs}
use Rattle.gr_laws.proofs.RunLemmas.{distinct_steps, distinct_log, same_name_is}
use Rattle.gr_laws.proofs.UsualLemmas.{step_is_usual}
use Rattle.gr_command.specs.declared.command.Command.{Command}
use Rattle.gr_command.specs.declared.command.Command.TheVariants as commands
use Rattle.gr_command.specs.Replies.{Said}
use Rattle.gr_rollback.specs.Backs.{LosesLast, names_in}
use Rattle.gr_rollback.specs.Pasts.{ids_of}
use Rattle.gr_session.specs.declared.journal.Entry.{Entry}
use Rattle.gr_session.specs.declared.journal.Memory.TheVariants.{Enough}
use Rattle.gr_session.specs.Journal.{World, event_asked, Leads}
use Rattle.gr_session.specs.Journal as leads
use Rattle.gr_session.specs.Entries.{by_command, Lead, no_entry, one_more}
use Rattle.gr_session.specs.Moves.{LogHasRoom, IsOfOneMove, entries_of, CommandsLead}
use Rattle.gr_session.proofs.ReachedWorlds.{next_of_run}

module _ (p : Program) where
  -- entries one after the other
  leads_on : (w u v : World p) (first second : List Entry) → Lead p w first u → Lead p u second v → Lead p w (first ++ second) v
  leads_on w u v first second lead no_entry = subst (λ es. Lead p w es u) (sym (append-nil first)) lead
  leads_on w u v first second lead (one_more {u = x} {before = before} e more next) =
      subst (λ es. Lead p w es v) (append_assoc first before (e ∷ [])) (one_more e (leads_on w u x first before lead more) next)

  -- one command more, in front
  then_more : (w u : World p) (command : Command) (a : Said) (log : List (Logged p)) → IsOfOneMove command → Leads p w command Enough u a
      → CommandsLead p u log → CommandsLead p w log
  then_more w u command a log is leads more = record {
    asked = command ∷ more.asked;
    only = All-cons IsOfOneMove command more.asked is more.only;
    world = more.world;
    lead = leads_on w u more.world (entries_of (command ∷ [])) (entries_of more.asked) (one_more _ no_entry (by_command leads)) more.lead;
    log_is = more.log_is;
  }

  -- the names of steps
  named : (new : List (Logged p)) → map (step_name p) new ≡ names_in (ids_of p new)
  named [] = refl
  named (r ∷ new) = ap (λ names. step_name p r ∷ names) (named new)

  module _ (w : World p) (run : IsRun p w.log w.state) where
    -- to another order of the log
    to_order : (new : List (Logged p)) → Swaps (clash p) w.log new
        → (u : World p) × (a : Said) × Leads p w (commands.Order (ids_of p new)) Enough u a × (u.log ≡ new)
    to_order new swaps =
        let order = swaps_order (clash p) w.log new swaps (distinct_log p w.log w.state run) in
        let taken : ordered_by p (names_in (ids_of p new)) w.log ≡ accepted new =
        accepts (clash p) (step_name p) same_name (λ m n. (same_name_is m n).0) (λ n. (same_name_is n n).1 refl)
        w.log (distinct_steps p w.log w.state run) (names_in (ids_of p new)) new order (named new) in
        (_, _, leads.orders new taken, refl)

    -- without the last step
    to_before : (before : List (Logged p)) (r : Logged p) → w.log ≡ before ++ r ∷ []
        → (u : World p) × (a : Said) × Leads p w commands.Undo Enough u a × (u.log ≡ before)
    to_before before r e =
        let parts = log_split (machine p) (start p) before (r ∷ []) w.state (subst (λ log. IsRun p log w.state) e run) in
        let loses : LosesLast p (record { log = w.log; state = w.state }) r (record { log = before; state = parts.0 }) =
        record { log = e; run = parts.1; led = parts.2 } in
        (_, _, leads.undoes r loses, refl)

    -- with one step more
    clause_of : (choice : Choice) (go : List ℕ) → (choice ≡ usual_choice p w.state go) ⊎ ((i : ℕ) × (choice ≡ Pick i))
        → (clause : Option ℕ) × (record { go = go; choice = choice } ≡ event_asked p w.state go clause)
    clause_of choice go (inl e) = (None, ap (λ c. record { go = go; choice = c }) e)
    clause_of choice go (inr k) = (Some k.0, ap (λ c. record { go = go; choice = c }) k.1)

    to_step : (r : Logged p) → IsLogFrom (machine p) (start p) (w.log ++ r ∷ []) → length w.log < most_steps
        → (u : World p) × (command : Command) × (a : Said) × IsOfOneMove command × Leads p w command Enough u a × (u.log ≡ w.log ++ r ∷ [])
    to_step r more room =
        let parts = log_split (machine p) (start p) w.log (r ∷ []) more.0 more.1 in
        let here : parts.0 ≡ w.state = one_end (machine p) (start p) parts.0 w.state w.log parts.1 run in
        let step : IsLog (machine p) w.state (r ∷ []) more.0 = subst (λ s. IsLog (machine p) s (r ∷ []) more.0) here parts.2 in
        let path = path_of (machine p) w.state (r ∷ []) more.0 step in
        let clause = clause_of r.event.choice r.event.go (step_is_usual p w.state path.0 r.event r.note path.1.does) in
        (_, commands.Step r.event.go clause.0, _, tt, leads.steps r (record { event = clause.1; leads = step; room = room }), refl)

  -- each trip, by commands
  pub by_commands : (moves : List (Move (Logged p))) (w : World p) (log : List (Logged p)) → IsRun p w.log w.state
      → trips.Went p w.log moves log → LogHasRoom (length w.log) moves → CommandsLead p w log
  by_commands [] w log run swaps room =
      let k = to_order w run log swaps in
      then_more w k.0 (commands.Order (ids_of p log)) k.1 log tt k.2
      (record { asked = []; only = All-nil IsOfOneMove; world = k.0; lead = no_entry; log_is = k.3 })
  by_commands (forth r ∷ moves) w log run trip room =
      let back_again = turned (clash p) (trips.Runs p) (runs_are_logs p) (w.log ++ r ∷ []) trip.0 trip.1.1 in
      let k = to_step w run r ((runs_are_logs p).kept trip.0 (w.log ++ r ∷ []) back_again trip.1.0) room.0 in
      let after = next_of_run p w k.0 k.1 Enough k.2 run k.4 in
      let rest = trip_from (clash p) (trips.Runs p) (runs_are_logs p) trip.0 k.0.log moves log
      (subst (Swaps (clash p) trip.0) (sym k.5) back_again) trip.2 in
      let count : length k.0.log ≡ suc (length w.log) =
      let c = length-append w.log (r ∷ []) in ap length k.5 ∙ c ∙ omega arith in
      then_more w k.0 k.1 k.2 log k.3 k.4 (by_commands moves k.0 log after rest (subst (λ n. LogHasRoom n moves) (sym count) room.1))
  by_commands (back r ∷ moves) w log run trip room =
      let k = to_order w run (trip.0 ++ r ∷ []) (turned (clash p) (trips.Runs p) (runs_are_logs p) (trip.0 ++ r ∷ []) w.log trip.1) in
      let between = next_of_run p w k.0 (commands.Order (ids_of p (trip.0 ++ r ∷ []))) Enough k.1 run k.2 in
      let m = to_before k.0 between trip.0 r k.3 in
      let after = next_of_run p k.0 m.0 commands.Undo Enough m.1 between m.2 in
      let rest = subst (λ before. trips.Went p before moves log) (sym m.3) trip.2 in
      let shorter : length w.log ≡ suc (length trip.0) = back_shorter (clash p) (trips.Runs p) (runs_are_logs p) r w.log trip.0 trip.1 in
      let count : length m.0.log ≡ length w.log - 1 = ap length m.3 ∙ omega arith in
      then_more w k.0 (commands.Order (ids_of p (trip.0 ++ r ∷ []))) k.1 log tt k.2
      (then_more k.0 m.0 commands.Undo m.1 log tt m.2 (by_commands moves m.0 log after rest (subst (λ n. LogHasRoom n moves) (sym count) room)))
