-- What an entry of a journal keeps fixes the next world and the reply.
use Rattle.std.proofs.Common.{◌≡◌, ℕ, ◌-◌, min, [], ◌∷◌, Some, refl, sym, ◌∙◌, ap, ap₂, arith}
use Rattle.gr_causal.specs.Dependence.{dependents, causes}
use Rattle.gr_causal.proofs.ListLemmas.{some_is, none_not}
use Rattle.gr_causal.proofs.OrderByNamesLemmas.{accepted_is, broken_is}
use Rattle.gr_program.specs.Programs.{Program}
use Rattle.gr_rules.specs.Turns as turns
use Rattle.gr_laws.specs.Dependence.{clash}
use Rattle.gr_laws.specs.Reached.{IsRun}
use Rattle.gr_command.specs.declared.command.Command.{Command}
use Rattle.gr_command.specs.declared.reply.RunEnd.{RunEnd}
use Rattle.gr_command.specs.declared.reply.RunEnd.TheVariants as ends
use Rattle.gr_command.specs.Replies.{Said, Stepped, Ran, Undone, Steps, PartlyDone, BreaksDependence, No, end_in, refusal_told}
use Rattle.gr_queries.specs.Said.{step_kind}
use Rattle.gr_rollback.specs.Backs.{again_after}
use Rattle.gr_rollback.specs.Pasts.{Past, id_of, ids_of, events_in}
use Rattle.gr_rollback.specs.Steps.{with_step}
use Rattle.gr_session.specs.declared.journal.Memory.{Memory}
use Rattle.gr_session.specs.Journal.{World, past_of, course_of, moved, event_asked, ByTurns, until_end, until_want, turned, Leads}
use Rattle.gr_session.specs.Journal as leads
use Rattle.gr_session.proofs.OneMeaningSteps.{one_step, step_is_not_refused}
use Rattle.gr_session.proofs.OneMeaningTurns.{one_end_of_run}
use Rattle.gr_session.proofs.OneMeaningPasts.{same_past}
use Rattle.gr_session.proofs.OneMeaningUndo.{one_before, has_last}
use Rattle.gr_session.proofs.OneMeaningBack.{one_named, one_asked, one_left, one_gone, one_left_of_some}
use Rattle.gr_session.proofs.OneMeaningRedo.{one_redo, one_redo_of_some}
use Rattle.gr_session.proofs.OneMeaningOrders.{accepted_not_other, accepted_not_broken, other_not_broken}

-- the word of a reply for a reason of the rules
abbrev reply_end : turns.RunEnd → RunEnd
reply_end turns.program_ended = ends.Ended
reply_end (turns.program_faulted fault) = ends.Fault fault
reply_end turns.all_taken = ends.Count
reply_end turns.none_ready = ends.Stuck
reply_end turns.log_full = ends.Full
reply_end (turns.at_break line) = ends.Break line

-- a reply tells the one word for a reason
told_by : (why : RunEnd) (reason : turns.RunEnd) → end_in why ≡ Some reason → why ≡ reply_end reason
told_by ends.Ended reason e = ap reply_end (some_is _ _ e)
told_by (ends.Fault fault) reason e = ap reply_end (some_is _ _ e)
told_by ends.Count reason e = ap reply_end (some_is _ _ e)
told_by ends.Stuck reason e = ap reply_end (some_is _ _ e)
told_by ends.Full reason e = ap reply_end (some_is _ _ e)
told_by (ends.Break line) reason e = ap reply_end (some_is _ _ e)
told_by ends.Memory reason e = absurd (none_not _ e)

module _ (p : Program) where
  -- one world and one reply
  abbrev pub Same : World p → World p → Said → Said → Type 0
  Same u v a b = (u ≡ v) × (a ≡ b)

  -- one place has one list of consequences
  consequences : (w : World p) (i j : ℕ) → i ≡ j → ids_of p (dependents (clash p) w.log i) ≡ ids_of p (dependents (clash p) w.log j)
  consequences w i j same = ap (λ i. ids_of p (dependents (clash p) w.log i)) same

  -- as far as memory allowed, steps by the round robin come to one end
  one_end : (w : World p) (wanted : ℕ) (memory : Memory) (x y : Past p) (m n : ℕ) (why because : RunEnd)
      → ByTurns p w wanted memory x m why → ByTurns p w wanted memory y n because → (x ≡ y) × (m ≡ n) × (why ≡ because)
  one_end w wanted memory x y m n why because (until_end reason all told) (until_end cause every said) =
      let one = one_end_of_run p w.lines wanted 0 w.state x.state y.state w.log x.log y.log m n reason cause all every in
      (same_past p x y one.log one.state, one.taken, told_by why reason told ∙ ap reply_end one.reason ∙ sym (told_by because cause said))
  one_end w wanted memory x y m n why because (until_want g all turn on) (until_want h every next more) =
      let one = one_end_of_run p w.lines m 0 w.state x.state y.state w.log x.log y.log m m turns.all_taken turns.all_taken all every in
      (same_past p x y one.log one.state, refl, refl)

  -- what the entry keeps fixes the next world and the reply
  pub one_next : (w u v : World p) (command : Command) (memory : Memory) (a b : Said) → IsRun p w.log w.state
      → Leads p w command memory u a → Leads p w command memory v b → Same u v a b
  -- a step
  one_next w u v command memory a b run (leads.steps {t = t} r first) (leads.steps {t = s} q second) =
      let one = one_step p w.state t s r q (first.event ∙ sym second.event) first.leads second.leads in
      (ap₂ (λ r t. moved p w (with_step p (past_of p w) r t) []) one.0 one.1, ap (λ r. Stepped (id_of p r) (step_kind p r)) one.0)
  one_next w u v command memory a b run (leads.steps {go = go} {clause = clause} {t = t} r first) (leads.is_no_step reason refused told) =
      absurd (step_is_not_refused p w.state t (event_asked p w.state go clause) r reason first.event first.leads refused)
  one_next w u v command memory a b run (leads.steps r first) (leads.has_no_room allowed full) = let room = first.room in absurd (omega arith)
  one_next w u v command memory a b run (leads.is_no_step {go = go} {clause = clause} reason refused told) (leads.steps {t = t} r second) =
      absurd (step_is_not_refused p w.state t (event_asked p w.state go clause) r reason second.event second.leads refused)
  one_next w u v command memory a b run (leads.is_no_step {why = why} reason refused told) (leads.is_no_step {why = because} cause denied said) =
      let one = some_is reason cause (sym refused ∙ denied) in
      (refl, ap No (some_is why because (sym told ∙ ap refusal_told one ∙ said)))
  one_next w u v command memory a b run (leads.is_no_step reason refused told) (leads.has_no_room allowed full) = absurd (none_not reason (sym allowed ∙ refused))
  one_next w u v command memory a b run (leads.has_no_room allowed full) (leads.steps r second) = let room = second.room in absurd (omega arith)
  one_next w u v command memory a b run (leads.has_no_room allowed full) (leads.is_no_step reason refused told) = absurd (none_not reason (sym allowed ∙ refused))
  one_next w u v command memory a b run (leads.has_no_room allowed full) (leads.has_no_room also more) = (refl, refl)
  one_next w u v command memory a b run (leads.has_no_memory allowed room) (leads.has_no_memory also space) = (refl, refl)
  -- steps by turns
  one_next w u v command memory a b run (leads.runs {wanted = wanted} {taken = m} {after = x} {why = why} first) (leads.runs {taken = n} {after = y} {why = because} second) =
      let one = one_end w wanted memory x y m n why because first second in
      (ap₂ (λ x n. turned p w x n) one.0 one.1, ap₂ Ran one.1 one.2)
  one_next w u v command memory a b run (leads.takes_turn {taken = m} {after = x} {why = why} first) (leads.takes_turn {taken = n} {after = y} {why = because} second) =
      let one = one_end w (min w.grant 1) memory x y m n why because first second in
      (ap₂ (λ x n. record (turned p w x n) { grant = w.grant - n }) one.0 one.1, ap₂ Ran one.1 one.2)
  one_next w u v command memory a b run leads.frees leads.frees = (refl, refl)
  -- the last step taken back
  one_next w u v command memory a b run (leads.undoes {u = x} r first) (leads.undoes {u = y} q second) =
      let one = one_before p (past_of p w) x y r q first second in
      (ap₂ (λ x r. moved p w x (r.event ∷ [])) one.0 one.1, ap (λ r. Undone (id_of p r)) one.1)
  one_next w u v command memory a b run (leads.undoes {u = x} r first) (leads.has_no_step none) = absurd (has_last w.log x.log r first.log none)
  one_next w u v command memory a b run (leads.has_no_step none) (leads.undoes {u = y} q second) = absurd (has_last w.log y.log q second.log none)
  one_next w u v command memory a b run (leads.has_no_step none) (leads.has_no_step nothing) = (refl, refl)
  one_next w u v command memory a b run (leads.cannot_undo some) (leads.cannot_undo any) = (refl, refl)
  -- a step taken back with its consequences
  one_next w u v command memory a b run (leads.takes_back {target = target} {u = x} i asked first) (leads.takes_back {u = y} j also second) =
      let same = one_asked p w.log w.state run target i j asked also in (
        ap₂ (λ x i. moved p w x (events_in p (dependents (clash p) w.log i))) (one_left p (past_of p w) x y i j same first second) same,
        ap Steps (consequences w i j same),
      )
  one_next w u v command memory a b run (leads.takes_back i asked first) (leads.asks_for_none none) = absurd (none i asked)
  one_next w u v command memory a b run (leads.asks_for_none none) (leads.takes_back j also second) = absurd (none j also)
  one_next w u v command memory a b run (leads.asks_for_none none) (leads.asks_for_none nothing) = (refl, refl)
  one_next w u v command memory a b run (leads.takes_some_back {target = target} {u = x} i gone asked first count) (leads.takes_some_back {u = y} j other also second number) =
      let same = one_asked p w.log w.state run target i j asked also in
      let alike = one_gone p (past_of p w) x y i j same gone other (count ∙ sym number) first second in
      let past = one_left_of_some p (past_of p w) x y i j same gone other run alike first second in
      (ap₂ (λ x gone. moved p w x (again_after (events_in p gone) w.again)) past alike, ap (λ gone. PartlyDone (ids_of p gone)) alike)
  -- steps taken again
  one_next w u v command memory a b run (leads.takes_again {ids = ids} {u = x} some first) (leads.takes_again {ids = others} {u = y} any second) =
      let one = one_redo p (course_of p w) (record { past = x; again = [] }) (record { past = y; again = [] }) ids others first second refl refl in
      (ap (λ x. moved p w x []) one.past, ap Steps one.names)
  one_next w u v command memory a b run (leads.takes_again some first) (leads.has_none_again none) = absurd (some none)
  one_next w u v command memory a b run (leads.has_none_again none) (leads.takes_again any second) = absurd (any none)
  one_next w u v command memory a b run (leads.has_none_again none) (leads.has_none_again nothing) = (refl, refl)
  one_next w u v command memory a b run (leads.takes_some_again {ids = ids} {u = x} left first count) (leads.takes_some_again {ids = others} {u = y} more second number) =
      let one = one_redo_of_some p (course_of p w) x y ids others first second (count ∙ sym number) in
      (ap₂ (λ x again. moved p w x again) one.past one.again, ap PartlyDone one.names)
  -- another order
  one_next w u v command memory a b run (leads.orders log taken) (leads.orders new also) =
      (ap (λ log. moved p w (record { log = log; state = w.state }) []) (accepted_is log new (sym taken ∙ also)), refl)
  one_next w u v command memory a b run (leads.orders log taken) (leads.has_other_steps others) = absurd (accepted_not_other p log (sym taken ∙ others))
  one_next w u v command memory a b run (leads.orders log taken) (leads.breaks_dependence x y broken) = absurd (accepted_not_broken p log x y (sym taken ∙ broken))
  one_next w u v command memory a b run (leads.has_other_steps others) (leads.orders new also) = absurd (accepted_not_other p new (sym also ∙ others))
  one_next w u v command memory a b run (leads.has_other_steps others) (leads.has_other_steps also) = (refl, refl)
  one_next w u v command memory a b run (leads.has_other_steps others) (leads.breaks_dependence x y broken) = absurd (other_not_broken p x y (sym others ∙ broken))
  one_next w u v command memory a b run (leads.breaks_dependence x y broken) (leads.orders new also) = absurd (accepted_not_broken p new x y (sym also ∙ broken))
  one_next w u v command memory a b run (leads.breaks_dependence x y broken) (leads.has_other_steps others) = absurd (other_not_broken p x y (sym others ∙ broken))
  one_next w u v command memory a b run (leads.breaks_dependence x y broken) (leads.breaks_dependence s t also) =
      let one = broken_is x y s t (sym broken ∙ also) in
      (refl, ap₂ (λ x y. BreaksDependence (id_of p x) (id_of p y)) one.0 one.1)
  one_next w u v command memory a b run (leads.cannot_order many) (leads.cannot_order also) = (refl, refl)
  -- breakpoints
  one_next w u v command memory a b run leads.breaks leads.breaks = (refl, refl)
  one_next w u v command memory a b run leads.clears leads.clears = (refl, refl)
  -- queries
  one_next w u v command memory a b run (leads.tells_dependents {id = id} i named) (leads.tells_dependents j also) =
      (refl, ap Steps (consequences w i j (one_named p w.log w.state run id id i j refl named also)))
  one_next w u v command memory a b run (leads.tells_dependents i named) (leads.has_no_dependents none) = absurd (none i named)
  one_next w u v command memory a b run (leads.has_no_dependents none) (leads.tells_dependents j also) = absurd (none j also)
  one_next w u v command memory a b run (leads.has_no_dependents none) (leads.has_no_dependents nothing) = (refl, refl)
  one_next w u v command memory a b run (leads.tells_causes {id = id} i named) (leads.tells_causes j also) =
      (refl, ap (λ i. Steps (ids_of p (causes (clash p) w.log i))) (one_named p w.log w.state run id id i j refl named also))
  one_next w u v command memory a b run (leads.tells_causes i named) (leads.has_no_causes none) = absurd (none i named)
  one_next w u v command memory a b run (leads.has_no_causes none) (leads.tells_causes j also) = absurd (none j also)
  one_next w u v command memory a b run (leads.has_no_causes none) (leads.has_no_causes nothing) = (refl, refl)
  one_next w u v command memory a b run leads.shows leads.shows = (refl, refl)
  one_next w u v command memory a b run leads.shows_channel leads.shows_channel = (refl, refl)
  one_next w u v command memory a b run leads.tells_text leads.tells_text = (refl, refl)
  one_next w u v command memory a b run leads.tells_console leads.tells_console = (refl, refl)
  one_next w u v command memory a b run leads.tells_log leads.tells_log = (refl, refl)
