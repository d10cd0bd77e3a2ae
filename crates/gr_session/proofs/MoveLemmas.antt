-- The moves of each entry of a journal.
use Rattle.std.proofs.Common.{◌≡◌, ◌↔◌, ℕ, ◌+◌, Bool, List, [], ◌∷◌, ◌++◌, length, reverse, refl, sym, ◌∙◌, ap, subst, append_assoc, arith}
use Rattle.std.proofs.lemmas.List.{append-nil, length-map, length-replicate}
use Rattle.gr_causal.specs.Dependence.{dependents}
use Rattle.gr_causal.specs.Machine.{IsLog}
use Rattle.gr_causal.specs.Orders.{IsOrder, Swaps}
use Rattle.gr_causal.specs.Orders.Swaps.{none as as_it_is}
use Rattle.gr_causal.specs.Trips.{Move, taking, taking_back, EquivalentFrom}
use Rattle.gr_causal.proofs.AsideLemmas.{aside}
use Rattle.gr_causal.proofs.ConsistencyLemmas.{consistent}
use Rattle.gr_causal.proofs.MoveLemmas.{trip_append, trip_possible}
use Rattle.gr_causal.proofs.OrderByNamesLemmas.{is_order}
use Rattle.gr_causal.proofs.OrderLemmas.{reached, swaps_order}
use Rattle.gr_causal.proofs.PathLemmas.{log_join}
use Rattle.gr_program.specs.Programs.{Program}
use Rattle.gr_rules.specs.States.{State, start}
use Rattle.gr_rules.specs.Steps.{machine}
use Rattle.gr_rules.specs.Turns as rounds
use Rattle.gr_rules.specs.Turns.{Runs, stops, goes}
use Rattle.gr_laws.specs.Dependence.{clash, step_name, same_name}
use Rattle.gr_laws.specs.Reached.{Logged, IsRun}
use Rattle.gr_laws.proofs.MoveLemmas as trips
use Rattle.gr_laws.proofs.MoveLemmas.{runs_are_logs, run_changes, steps_forth, steps_back, last_to_end, order_is_one}
use Rattle.gr_laws.proofs.RunLemmas.{distinct_steps, distinct_log, same_name_is}
use Rattle.gr_command.specs.declared.command.Command.{Command}
use Rattle.gr_command.specs.declared.reply.RunEnd.{RunEnd}
use Rattle.gr_command.specs.Replies.{Said, Ran, Steps, PartlyDone, Committed}
use Rattle.gr_rollback.specs.Backs.{names_in}
use Rattle.gr_rollback.specs.LocalRun.{LocalRun}
use Rattle.gr_rollback.specs.StepLeasing.{loan_kept}
use Rattle.gr_rollback.specs.Pasts.{Past}
use Rattle.gr_session.specs.declared.journal.Asked.{Asked}
use Rattle.gr_session.specs.declared.journal.Asked.TheVariants as asks
use Rattle.gr_session.specs.declared.journal.Entry.{Entry}
use Rattle.gr_session.specs.declared.journal.Memory.{Memory}
use Rattle.gr_session.specs.Journal.{World, first_world, ByTurns, until_end, until_want, Leads}
use Rattle.gr_session.specs.Journal as leads
use Rattle.gr_session.specs.Batches.{Commits}
use Rattle.gr_session.specs.Batches as commits
use Rattle.gr_session.specs.Entries.{Means, by_command, by_batch, Lead, no_entry, one_more}
use Rattle.gr_session.specs.Moves.{Travels, Makes, Journey, no_move, one_more_entry}
use Rattle.gr_session.specs.Moves as moves
use Rattle.gr_session.proofs.OneMeaningJournals.{means_on, all_of_runs}

module _ (p : Program) where
  -- an entry makes its moves
  abbrev Moved : Asked → Said → World p → World p → Type 0
  Moved asked a w u = (ms : List (Move (Logged p))) × Makes p asked a ms × Travels p w ms u

  -- the configuration and the state are as they were
  reordered : (asked : Asked) (a : Said) (w u : World p) → Swaps (clash p) w.log u.log → w.state ≡ u.state → Moved asked a w u
  reordered asked a w u order same = ([], moves.stays, record { trip = order; changes = same })

  still : (asked : Asked) (a : Said) (w : World p) → Moved asked a w w
  still asked a w = reordered asked a w w as_it_is refl

  -- forth by steps, and back by steps that can stand at the end
  go_forth : (w u : World p) (steps : List (Logged p)) → IsRun p w.log w.state → u.log ≡ w.log ++ steps → IsLog (machine p) w.state steps u.state
      → Travels p w (taking steps) u
  go_forth w u steps run e leads =
      let trip : trips.Went p w.log (taking steps) u.log =
      subst (λ log. trips.Went p w.log (taking steps) log) (sym e) (steps_forth p w.log steps w.state u.state run leads) in
      let after : IsRun p u.log u.state =
      subst (λ log. IsRun p log u.state) (sym e) (log_join (machine p) (start p) w.state u.state w.log steps run leads) in
      record { trip = trip; changes = run_changes p w.log u.log (taking steps) w.state u.state run after trip }

  go_back : (w u : World p) (gone : List (Logged p)) → IsRun p w.log w.state → IsRun p u.log u.state → Swaps (clash p) w.log (u.log ++ gone)
      → Travels p w (taking_back (reverse gone)) u
  go_back w u gone run after order =
      let trip = steps_back p w.log gone u.log w.state run order in
      record { trip = trip; changes = run_changes p w.log u.log (taking_back (reverse gone)) w.state u.state run after trip }

  -- the steps of a round robin
  steps_of : (breaks : List ℕ) (wanted taken : ℕ) (s u : State) (log after : List (Logged p)) (all : ℕ) (why : rounds.RunEnd)
      → Runs p breaks wanted taken s log u after all why
      → (steps : List (Logged p)) × (after ≡ log ++ steps) × IsLog (machine p) s steps u × (all ≡ taken + length steps)
  steps_of breaks wanted taken s u log after all why (stops turn is ends) = ([], sym (append-nil log), refl, omega arith)
  steps_of breaks wanted taken s u log after all why (goes g mid r turn on event step rest) =
      let k = steps_of breaks wanted (taken + 1) mid u (log ++ r ∷ []) after all why rest in
      let count = k.3 in
      (r ∷ k.0, k.1 ∙ append_assoc log (r ∷ []) k.0, log_join (machine p) s mid u (r ∷ []) k.0 step k.2, omega arith)

  by_turns : (w : World p) (wanted : ℕ) (memory : Memory) (x : Past p) (taken : ℕ) (why : RunEnd) → ByTurns p w wanted memory x taken why
      → (steps : List (Logged p)) × (x.log ≡ w.log ++ steps) × IsLog (machine p) w.state steps x.state × (taken ≡ length steps)
  by_turns w wanted memory x taken why (until_end reason all told) =
      let k = steps_of w.lines wanted 0 w.state x.state w.log x.log taken reason all in
      let count = k.3 in
      (k.0, k.1, k.2, omega arith)
  by_turns w wanted memory x taken why (until_want g all turn on) =
      let k = steps_of w.lines taken 0 w.state x.state w.log x.log taken rounds.all_taken all in
      let count = k.3 in
      (k.0, k.1, k.2, omega arith)

  -- what a command makes
  command_moves : (w u : World p) (command : Command) (memory : Memory) (a : Said) → IsRun p w.log w.state → Leads p w command memory u a
      → Moved (asks.Command command) a w u
  command_moves w u command memory a run (leads.steps r joins) = (_, moves.takes r, go_forth w u (r ∷ []) run refl joins.leads)
  command_moves w u command memory a run (leads.is_no_step reason refused told) = still (asks.Command command) a w
  command_moves w u command memory a run (leads.has_no_room allowed full) = still (asks.Command command) a w
  command_moves w u command memory a run (leads.has_no_memory allowed room) = still (asks.Command command) a w
  command_moves w u command memory a run (leads.runs {wanted = wanted} {taken = m} {after = x} {why = why} turns) =
      let k = by_turns w wanted memory x m why turns in (
        taking k.0,
        subst (λ n. Makes p (asks.Command command) (Ran n why) (taking k.0)) (sym k.3) (moves.runs k.0),
        go_forth w u k.0 run k.1 k.2,
      )
  command_moves w u command memory a run (leads.takes_turn {taken = m} {after = x} {why = why} turns) =
      let k = by_turns w _ memory x m why turns in (
        taking k.0,
        subst (λ n. Makes p (asks.Command command) (Ran n why) (taking k.0)) (sym k.3) (moves.turns k.0),
        go_forth w u k.0 run k.1 k.2,
      )
  command_moves w u command memory a run leads.frees = reordered (asks.Command command) a w u as_it_is refl
  command_moves w u command memory a run (leads.undoes {u = x} r loses) =
      (_, moves.undoes r, go_back w u (r ∷ []) run loses.run (subst (Swaps (clash p) w.log) loses.log as_it_is))
  command_moves w u command memory a run (leads.has_no_step none) = still (asks.Command command) a w
  command_moves w u command memory a run (leads.cannot_undo some) = still (asks.Command command) a w
  command_moves w u command memory a run (leads.takes_back {u = x} i asked loses) = (
    _,
    moves.takes_back (dependents (clash p) w.log i),
    go_back w u (dependents (clash p) w.log i) run loses.run
        (subst (λ log. Swaps (clash p) w.log (log ++ dependents (clash p) w.log i)) (sym loses.log) (aside (clash p) w.log i)),
  )
  command_moves w u command memory a run (leads.takes_some_back {u = x} i gone asked loses count) = (
    _,
    moves.takes_some_back gone,
    go_back w u gone run loses.run (last_to_end p w.log loses.left gone x.log i w.state run loses.last loses.others),
  )
  command_moves w u command memory a run (leads.asks_for_none none) = still (asks.Command command) a w
  command_moves w u command memory a run (leads.takes_again {ids = ids} {u = x} some redoes) = (
    _,
    subst (λ ids. Makes p (asks.Command command) (Steps ids) (taking redoes.steps)) (sym redoes.names) (moves.takes_again redoes.steps),
    go_forth w u redoes.steps run redoes.log redoes.leads,
  )
  command_moves w u command memory a run (leads.takes_some_again {ids = ids} {u = x} left redoes count) = (
    _,
    subst (λ ids. Makes p (asks.Command command) (PartlyDone ids) (taking redoes.steps)) (sym redoes.names) (moves.takes_some_again redoes.steps),
    go_forth w u redoes.steps run redoes.log redoes.leads,
  )
  command_moves w u command memory a run (leads.has_none_again none) = still (asks.Command command) a w
  command_moves w u command memory a run (leads.orders {ids = ids} log taken) =
      let order = is_order (clash p) (step_name p) same_name (λ m n. (same_name_is m n).0) (λ n. (same_name_is n n).1 refl)
      w.log (distinct_steps p w.log w.state run) (names_in ids) log taken in
      reordered (asks.Command command) a w u (order_is_one p w.log log w.state run order.0) refl
  command_moves w u command memory a run (leads.has_other_steps others) = still (asks.Command command) a w
  command_moves w u command memory a run (leads.breaks_dependence x y broken) = still (asks.Command command) a w
  command_moves w u command memory a run (leads.cannot_order many) = still (asks.Command command) a w
  command_moves w u command memory a run leads.breaks = reordered (asks.Command command) a w u as_it_is refl
  command_moves w u command memory a run leads.clears = reordered (asks.Command command) a w u as_it_is refl
  command_moves w u command memory a run (leads.tells_dependents i named) = still (asks.Command command) a w
  command_moves w u command memory a run (leads.has_no_dependents none) = still (asks.Command command) a w
  command_moves w u command memory a run (leads.tells_causes i named) = still (asks.Command command) a w
  command_moves w u command memory a run (leads.has_no_causes none) = still (asks.Command command) a w
  command_moves w u command memory a run leads.shows = still (asks.Command command) a w
  command_moves w u command memory a run leads.shows_channel = still (asks.Command command) a w
  command_moves w u command memory a run leads.tells_text = still (asks.Command command) a w
  command_moves w u command memory a run leads.tells_console = still (asks.Command command) a w
  command_moves w u command memory a run leads.tells_log = still (asks.Command command) a w

  -- what a batch makes
  batch_moves : (w u : World p) (batch : LocalRun) (stood : Bool) (memory : Memory) (a : Said) → IsRun p w.log w.state
      → Commits p w (loan_kept batch) stood memory u a
      → Moved (asks.Batch batch stood) a w u
  batch_moves w u batch stood _ a run (commits.all_join {t = t} s steps contains lent some few join) =
      let count : length steps ≡ (loan_kept batch).steps = sym (length-map steps (λ r. r.event)) ∙ ap length join.events ∙ length-replicate _ _ in (
        taking steps,
        subst (λ n. Makes p (asks.Batch batch stood) (Committed n) (taking steps)) count (moves.commits steps),
        go_forth w u steps run refl join.leads,
      )
  batch_moves w u batch stood _ a run (commits.has_no_room_for_all s contains lent few full) = still (asks.Batch batch stood) a w
  batch_moves w u batch stood _ a run (commits.has_changed s contains other) = still (asks.Batch batch stood) a w
  batch_moves w u batch stood _ a run (commits.passes_grant more) = still (asks.Batch batch stood) a w
  batch_moves w u batch stood _ a run (commits.has_no_memory s contains joins) = still (asks.Batch batch stood) a w

  pub entry_moves : (w u : World p) (asked : Asked) (memory : Memory) (a : Said) → IsRun p w.log w.state → Means p w asked memory u a
      → (ms : List (Move (Logged p))) × Makes p asked a ms × Travels p w ms u
  entry_moves w u _ memory a run (by_command {command} leads) = command_moves w u command memory a run leads
  entry_moves w u _ memory a run (by_batch {batch} {stood} commits) = batch_moves w u batch stood memory a run commits

  -- what a journal makes
  pub journal_moves : (w u : World p) (journal : List Entry) → IsRun p w.log w.state → Lead p w journal u
      → (ms : List (Move (Logged p))) × Journey p w journal ms u × Travels p w ms u
  journal_moves w u journal run no_entry = ([], no_move, record { trip = as_it_is; changes = refl })
  journal_moves w u journal run (one_more {u = x} {before = before} {reply = a} e lead next) =
      let k = journal_moves w x before run lead in
      let after = all_of_runs p w x before run lead in
      let m = entry_moves x u e.asked e.memory a after next in
      let trip = trip_append (clash p) (trips.Runs p) (runs_are_logs p) w.log k.0 m.0 x.log u.log k.2.trip m.2.trip in (
        k.0 ++ m.0,
        one_more_entry e k.1 next m.1 m.2,
        record { trip = trip; changes = run_changes p w.log u.log (k.0 ++ m.0) w.state u.state run (means_on p x u e.asked e.memory a after next) trip },
      )

  -- the moves of the entries of a journal are a trip
  journey_trip : (w u : World p) (journal : List Entry) (ms : List (Move (Logged p))) → Journey p w journal ms u → trips.Went p w.log ms u.log
  journey_trip w u journal ms no_move = as_it_is
  journey_trip w u journal _ (one_more_entry {u = x} {before = before} {moves = ms} {more = more} e first next makes travels) =
      trip_append (clash p) (trips.Runs p) (runs_are_logs p) w.log ms more x.log u.log (journey_trip w x before ms first) travels.trip

  -- those of two journals are causally equivalent exactly where one log is an order of the other
  pub journeys_alike : (u v : World p) (one two : List Entry) (ms ns : List (Move (Logged p)))
      → Journey p (first_world p) one ms u → Journey p (first_world p) two ns v
      → EquivalentFrom (machine p) (start p) [] ms ns ↔ IsOrder (clash p) u.log v.log
  journeys_alike u v one two ms ns first second =
      let trip = journey_trip (first_world p) u one ms first in
      let other = journey_trip (first_world p) v two ns second in
      let run = trip_possible (clash p) (trips.Runs p) (runs_are_logs p) [] ms u.log (start p, refl) trip in
      let d = distinct_log p u.log run.0 run.1 in
      let alike = consistent (clash p) (trips.Runs p) (runs_are_logs p) [] ms ns u.log v.log (start p, refl) trip other in (
        λ e. swaps_order (clash p) u.log v.log (alike.0 e) d,
        λ o. alike.1 (reached (clash p) u.log v.log d o),
      )
