-- Steps of the ready goroutines, round robin, and why they end.
use Rattle.std.proofs.Common.{◌≡◌, ℕ, suc, ◌+◌, ◌≤◌, ◌<◌, true, false, if◌then◌else◌, nat_eq, eq-eqb, eqb-true, le-leb, leb-true, List, length, Option, Some, None, inl, inr, refl, sym, ap, subst, ◌∙◌, arith}
use Rattle.std.specs.Prelude.{nat_le}
use Rattle.std.proofs.lemmas.Bool.{cases_Bool}
use Rattle.gr_base.specs.declared.kinds.Fault.{Fault}
use Rattle.gr_program.specs.Programs.{Program}
use Rattle.gr_rules.specs.Limits.{most_steps}
use Rattle.gr_rules.specs.States.{Run, live, ended, faulted, State}
use Rattle.gr_rules.specs.Turns as turns
use Rattle.gr_rules.specs.Turns.{IsTurn, last_owner, break_at, line_of, at_break, ends_at_turn, ends_live, ends_by, why_end, Runs, stops, goes}
use Rattle.gr_command.specs.declared.reply.RunEnd.{RunEnd}
use Rattle.gr_command.specs.declared.reply.RunEnd.TheVariants as ends
use Rattle.gr_command.specs.Replies.{end_in}
use Rattle.gr_rollback.specs.Stores.{contents_at}
use Rattle.gr_rollback.specs.Logs.{records_of}
use Rattle.gr_rollback.specs.declared.TheConstants.{LOG_LIMIT}
use Rattle.gr_rollback.specs.Pasts.{Past}
use Rattle.gr_rollback.specs.Steps.{with_step}
use Rattle.gr_session.specs.declared.debuggee.Debuggee.{Debuggee}
use Rattle.gr_session.specs.declared.journal.Memory.TheVariants.{Enough}
use Rattle.gr_session.specs.Journal.{World, past_of, moved, again_past, ByTurns, until_end, until_want}
use Rattle.gr_session.specs.Debuggees.{store_in, log_in, Stands}
use Rattle.gr_session.specs.Turning.{HasTurn, TakesTurn, EndsBy, Ends, GoesByTurns, memory_at}
use Rattle.gr_session.proofs.DebuggeeLemmas.{log_length}

same_is : (n m : ℕ) → n ≡ m → nat_eq n m ≡ true
same_is n m e = eq-eqb n m e

other_is : (n m : ℕ) → (n ≡ m → ⊥) → nat_eq n m ≡ false
other_is n m other = elim (cases_Bool (nat_eq n m)) [ inl e ↦ absurd (other (eqb-true n m e)) | inr e ↦ e ]

is_most : (n m : ℕ) → n ≤ m → nat_le n m ≡ true
is_most n m e = le-leb n m e

not_most : (n m : ℕ) → m < n → nat_le n m ≡ false
not_most n m e = elim (cases_Bool (nat_le n m)) [ inl t ↦ absurd (let most : n ≤ m = leb-true n m t in omega arith) | inr f ↦ f ]

module _ (p : Program) (w : World p) (d : Debuggee) (s : Stands p w d) (owner : Option (List ℕ)) (turn : IsTurn w.state (last_owner p w.log) owner)
    (wanted taken : ℕ) where
  by_run : (r : Run) (o : Option turns.RunEnd) → r ≡ (contents_at (store_in d)).run
      → ends_by r (ends_live w.state w.lines wanted taken (length w.log) owner) ≡ o
      → why_end w.state w.lines wanted taken (length w.log) owner ≡ o
  by_run r o is e =
      ap (λ x. ends_by x (ends_live w.state w.lines wanted taken (length w.log) owner)) (ap (λ (t : State). t.run) s.machine.holds.state ∙ sym is) ∙ e

  pub ended_now : ended ≡ (contents_at (store_in d)).run → EndsBy p w wanted taken turns.program_ended
  ended_now is = record { owner = owner; turn = turn; why = by_run ended (Some turns.program_ended) is refl }

  pub faulted_now : (fault : Fault) → faulted fault ≡ (contents_at (store_in d)).run → EndsBy p w wanted taken (turns.program_faulted fault)
  faulted_now fault is = record { owner = owner; turn = turn; why = by_run (faulted fault) (Some (turns.program_faulted fault)) is refl }

  pub all_taken_now : live ≡ (contents_at (store_in d)).run → taken ≡ wanted → EndsBy p w wanted taken turns.all_taken
  all_taken_now is all = record { owner = owner; turn = turn; why = by_run live (Some turns.all_taken) is (rw (same_is taken wanted all) refl) }

  pub none_ready_now : live ≡ (contents_at (store_in d)).run → (taken ≡ wanted → ⊥) → owner ≡ None → EndsBy p w wanted taken turns.none_ready
  none_ready_now is more none = record { owner = owner; turn = turn; why = by_run live (Some turns.none_ready) is (rw (other_is taken wanted more, none) refl) }

  pub full_now : live ≡ (contents_at (store_in d)).run → (taken ≡ wanted → ⊥) → (g : List ℕ) → owner ≡ Some g
      → LOG_LIMIT ≤ length (records_of (log_in d)) → EndsBy p w wanted taken turns.log_full
  full_now is more g own full =
      let long : nat_le most_steps (length w.log) ≡ true = is_most most_steps (length w.log) (subst (λ n. most_steps ≤ n) (log_length p w d s) full) in
      record { owner = owner; turn = turn; why = by_run live (Some turns.log_full) is (rw (other_is taken wanted more, own, long) refl) }

  module _ (is : live ≡ (contents_at (store_in d)).run) (more : taken ≡ wanted → ⊥) (g : List ℕ) (own : owner ≡ Some g)
      (room : length (records_of (log_in d)) < LOG_LIMIT) where
    short : nat_le most_steps (length w.log) ≡ false
    short = not_most most_steps (length w.log) (subst (λ n. n < most_steps) (log_length p w d s) room)

    by_break : (o : Option turns.RunEnd) → (if nat_eq taken 0 then None else break_at w.lines (line_of (w.state.goroutines g))) ≡ o
        → why_end w.state w.lines wanted taken (length w.log) owner ≡ o
    by_break o e = by_run live o is (rw (other_is taken wanted more, own, short) e)

    goes_by : why_end w.state w.lines wanted taken (length w.log) owner ≡ None → HasTurn p w wanted taken g
    goes_by e = record {
      turn = subst (IsTurn w.state (last_owner p w.log)) own turn;
      goes = subst (λ o. why_end w.state w.lines wanted taken (length w.log) o ≡ None) own e;
    }

    -- before the first step no breakpoint counts
    pub goes_first : taken ≡ 0 → HasTurn p w wanted taken g
    goes_first e = goes_by (by_break None (rw (same_is taken 0 e) refl))

    -- after the first step, the line has no breakpoint or has one
    pub goes_now : (taken ≡ 0 → ⊥) → break_at w.lines (line_of (w.state.goroutines g)) ≡ None → HasTurn p w wanted taken g
    goes_now e none = goes_by (by_break None (rw (other_is taken 0 e) none))

    pub breaks_now : (taken ≡ 0 → ⊥) → (line : ℕ) → break_at w.lines (line_of (w.state.goroutines g)) ≡ Some (at_break line)
        → EndsBy p w wanted taken (at_break line)
    breaks_now e line at = record { owner = owner; turn = turn; why = by_break (Some (at_break line)) (rw (other_is taken 0 e) at) }

-- where more steps are wanted than were taken, only their number says how many are wanted
goes_however : (p : Program) (w : World p) (wanted other taken : ℕ) (g : List ℕ) → taken < wanted → taken < other
    → why_end w.state w.lines wanted taken (length w.log) (Some g) ≡ None → why_end w.state w.lines other taken (length w.log) (Some g) ≡ None
goes_however p w wanted other taken g less few none = by_state w.state.run none
  where
    rest : Option turns.RunEnd
    rest = ends_at_turn w.state w.lines taken (length w.log) g

    fewer : (n : ℕ) → taken < n → nat_eq taken n ≡ false
    fewer n low = other_is taken n (λ e. omega arith)

    by_state : (r : Run) → ends_by r (ends_live w.state w.lines wanted taken (length w.log) (Some g)) ≡ None
        → ends_by r (ends_live w.state w.lines other taken (length w.log) (Some g)) ≡ None
    by_state ended e = e
    by_state (faulted fault) e = e
    by_state live e = rw (fewer other few) (rw (fewer wanted less) at e)

-- a run that went on would have ended here, had just the steps taken so far been wanted
all_however : (p : Program) (w : World p) (wanted taken : ℕ) (g : List ℕ) → why_end w.state w.lines wanted taken (length w.log) (Some g) ≡ None
    → why_end w.state w.lines taken taken (length w.log) (Some g) ≡ Some turns.all_taken
all_however p w wanted taken g none = by_state w.state.run none
  where
    by_state : (r : Run) → ends_by r (ends_live w.state w.lines wanted taken (length w.log) (Some g)) ≡ None
        → ends_by r (ends_live w.state w.lines taken taken (length w.log) (Some g)) ≡ Some turns.all_taken
    by_state ended e = absurd (let f : Some turns.program_ended ≡ None = e in cc)
    by_state (faulted fault) e = absurd (let f : Some (turns.program_faulted fault) ≡ None = e in cc)
    by_state live e = rw (same_is taken taken refl) refl

-- what comes of the steps from a world on, put after those that led to it, comes of them all
abbrev pub LeadsOn : (p : Program) → World p → Past p → ℕ → Type 0
LeadsOn p w v taken = (wanted : ℕ) → taken ≤ wanted → (u : Past p) (all : ℕ) (why : turns.RunEnd)
    → Runs p w.lines wanted taken v.state v.log u.state u.log all why
    → Runs p w.lines wanted 0 w.state w.log u.state u.log all why

-- where a program stands after this many steps, round robin
pub record HasGone (p : Program) (w : World p) (taken : ℕ) (d : Debuggee) : Type 0 where
  pub past : Past p
  pub stands : Stands p (moved p w past (again_past taken w.again)) d
  pub leads : LeadsOn p w past taken

-- the world there
abbrev pub world_gone : (p : Program) (w : World p) (taken : ℕ) (d : Debuggee) → HasGone p w taken d → World p
world_gone p w taken d was = moved p w was.past (again_past taken w.again)

pub gone_nowhere : (p : Program) (w : World p) (d : Debuggee) → Stands p w d → HasGone p w 0 d
gone_nowhere p w d s = record { past = past_of p w; stands = s; leads = λ wanted few u all why rest. rest }

-- where fewer than those wanted were taken
pub one_is_wanted : (taken count wanted : ℕ) → taken ≤ count → wanted ≡ count → (taken ≡ wanted → ⊥) → taken < count
one_is_wanted taken count wanted few same more = omega (arith, few, same, more)

past_one : {A : Type 0} (taken : ℕ) (P : ℕ → A → Type 0) (x : A) → P (suc taken) x → P (taken + 1) x
past_one taken P x h = let one : suc taken ≡ taken + 1 = omega arith in subst (λ n. P n x) one h

-- one step more
pub gone_on : (p : Program) (w : World p) (wanted taken : ℕ) (old new : Debuggee) (was : HasGone p w taken old) → taken < wanted
    → TakesTurn p (world_gone p w taken old was) wanted taken new → HasGone p w (taken + 1) new
gone_on p w wanted taken old new was less takes =
    let before : World p = world_gone p w taken old was in
    let after : Past p = with_step p was.past takes.step takes.state in
    record {
      past = after;
      stands = past_one taken (λ n d. Stands p (moved p w after (again_past n w.again)) d) new takes.stands;
      leads = λ other few u all why rest.
          let low : taken < other = omega arith in
          was.leads other (omega arith) u all why
          (goes takes.owner takes.state takes.step takes.has_turn.turn
          (goes_however p before wanted other taken takes.owner less low takes.has_turn.goes) takes.joins.event takes.joins.leads rest);
    }

module _ (p : Program) (w : World p) (wanted taken : ℕ) (old new : Debuggee) (was : HasGone p w taken old) (few : taken ≤ wanted) where
  abbrev here : World p
  here = world_gone p w taken old was

  by_rules : (why : RunEnd) (reason : turns.RunEnd) → EndsBy p here wanted taken reason → end_in why ≡ Some reason
      → ByTurns p w wanted Enough was.past taken why
  by_rules why reason by told = until_end reason (was.leads wanted few was.past taken reason (stops by.owner by.turn by.why)) told

  by_end : (why : RunEnd) → Ends p here wanted taken why → ByTurns p w wanted (memory_at taken why) was.past taken why
  by_end ends.Memory (g, has) = until_want g
      (was.leads taken (omega arith) was.past taken turns.all_taken (stops (Some g) has.turn (all_however p here wanted taken g has.goes)))
      has.turn has.goes
  by_end ends.Ended (reason, by, told) = by_rules ends.Ended reason by told
  by_end (ends.Fault fault) (reason, by, told) = by_rules (ends.Fault fault) reason by told
  by_end ends.Count (reason, by, told) = by_rules ends.Count reason by told
  by_end ends.Stuck (reason, by, told) = by_rules ends.Stuck reason by told
  by_end ends.Full (reason, by, told) = by_rules ends.Full reason by told
  by_end (ends.Break line) (reason, by, told) = by_rules (ends.Break line) reason by told

  -- the steps end
  pub gone_to_end : (why : RunEnd) → Ends p here wanted taken why → Stands p here new → GoesByTurns p w wanted taken why new
  gone_to_end why reason s = record { after = was.past; by_turns = by_end why reason; stands = s }
