-- What each `undo` and `back` of a legal journal comes to.
use Rattle.std.proofs.Common.{◌≡◌, ◌⊎◌, ℕ, List, [], ◌∷◌, ◌++◌, Some, refl, sym, ◌∙◌, ap, subst, inl, inr, append_assoc}
use Rattle.std.proofs.lemmas.List.{same_from_push}
use Rattle.gr_causal.proofs.PlaceLemmas.{In-at, place_of, IsAt-get, get-IsAt}
use Rattle.gr_program.specs.Programs.{Program}
use Rattle.gr_laws.specs.Claim.{GoesWithAll}
use Rattle.gr_laws.specs.Reached.{Logged, IsRun}
use Rattle.gr_laws.proofs.ClaimLemmas.{with_all, in_part, alone}
use Rattle.gr_command.specs.declared.command.Command.{Command}
use Rattle.gr_command.specs.declared.target.Target.{Target}
use Rattle.gr_command.specs.Replies.{Said}
use Rattle.gr_rollback.specs.Pasts.{id_of}
use Rattle.gr_session.specs.declared.journal.Asked.{Asked}
use Rattle.gr_session.specs.declared.journal.Asked.TheVariants as asks
use Rattle.gr_session.specs.declared.journal.Entry.{Entry}
use Rattle.gr_session.specs.declared.journal.Memory.{Memory}
use Rattle.gr_session.specs.Journal.{World, first_world, IsAsked, Leads}
use Rattle.gr_session.specs.Journal as leads
use Rattle.gr_session.specs.Entries.{Means, by_command, by_batch, Lead, no_entry, one_more}
use Rattle.gr_session.specs.Claim.{IsStepAsked, last_goes, none_is_kept, undo_finds_no_memory, all_go, some_go, none_is_asked, IsAsClaimed, MeetsTheClaim}
use Rattle.gr_session.proofs.OneMeaningJournals.{all_of_runs}

-- a list is empty, or has a last element
with_last : {A : Type 0} (xs : List A) → (xs ≡ []) ⊎ ((front : List A) × (x : A) × (xs ≡ front ++ x ∷ []))
with_last [] = inl refl
with_last (x ∷ xs) = elim (with_last xs) [
  | inl e ↦ inr ([], x, ap (λ ys. x ∷ ys) e)
  | inr w ↦ inr (x ∷ w.0, w.1, ap (λ ys. x ∷ ys) w.2)
]

none_between : {A : Type 0} (front behind : List A) (x : A) → [] ≡ front ++ x ∷ behind → ⊥
none_between [] behind x e = cc
none_between (y ∷ front) behind x e = cc

module _ (p : Program) where
  -- the step that is asked for, at its place
  asked_step : (log : List (Logged p)) (target : Target) (place : ℕ) (a : IsAsked p log target place) → IsStepAsked p log target a.named.step
  asked_step log target place a =
      (In-at log place a.named.step (IsAt-get log place a.named.step a.named.there), a.asked ∙ ap Some (sym a.named.named))

  is_asked : (log : List (Logged p)) (target : Target) (x : Logged p) → IsStepAsked p log target x → (place : ℕ) × IsAsked p log target place
  is_asked log target x h =
      let w = place_of log x h.0 in
      (w.0, record { id = id_of p x; asked = h.1; named = record { step = x; there = get-IsAt log w.0 x w.1; named = refl } })

  -- what a command comes to
  comes_by : (w u : World p) (command : Command) (memory : Memory) (a : Said) → IsRun p w.log w.state → Leads p w command memory u a
      → IsAsClaimed p (asks.Command command) w u a
  comes_by w u command memory a run (leads.steps r joins) = tt
  comes_by w u command memory a run (leads.is_no_step reason refused told) = tt
  comes_by w u command memory a run (leads.has_no_room allowed full) = tt
  comes_by w u command memory a run (leads.has_no_memory allowed room) = tt
  comes_by w u command memory a run (leads.runs goes) = tt
  comes_by w u command memory a run (leads.takes_turn goes) = tt
  comes_by w u command memory a run leads.frees = tt
  comes_by w u command memory a run (leads.undoes {u = x} r loses) =
      let goes : GoesWithAll p w.log r (r ∷ []) x.log x.state =
      subst (λ log. GoesWithAll p log r (r ∷ []) x.log x.state) (sym loses.log)
      (alone p x.log r w.state x.state (subst (λ log. IsRun p log w.state) loses.log run) loses.run) in
      last_goes r loses.log goes loses.led
  comes_by w u command memory a run (leads.has_no_step none) = none_is_kept none refl
  comes_by w u command memory a run (leads.cannot_undo some) = undo_finds_no_memory some refl
  comes_by w u command memory a run (leads.takes_back {target = target} {u = x} i asked loses) =
      let step = asked.named.step in
      all_go step _ (asked_step w.log target i asked)
      (with_all p w.state w.log run i step x.log x.state (IsAt-get w.log i step asked.named.there) loses.log loses.run)
  comes_by w u command memory a run (leads.takes_some_back {target = target} {u = x} i gone asked loses count) =
      let step = asked.named.step in
      some_go step gone (asked_step w.log target i asked)
      (in_part p w.state w.log run i step loses.left gone x.log x.state (IsAt-get w.log i step asked.named.there) loses.last loses.some_left loses.others loses.run)
  comes_by w u command memory a run (leads.asks_for_none {target = target} none) =
      none_is_asked (λ x h. let w = is_asked w.log target x h in none w.0 w.1) refl
  comes_by w u command memory a run (leads.takes_again some redoes) = tt
  comes_by w u command memory a run (leads.takes_some_again left redoes count) = tt
  comes_by w u command memory a run (leads.has_none_again none) = tt
  comes_by w u command memory a run (leads.orders log taken) = tt
  comes_by w u command memory a run (leads.has_other_steps others) = tt
  comes_by w u command memory a run (leads.breaks_dependence x y broken) = tt
  comes_by w u command memory a run (leads.cannot_order many) = tt
  comes_by w u command memory a run leads.breaks = tt
  comes_by w u command memory a run leads.clears = tt
  comes_by w u command memory a run (leads.tells_dependents i named) = tt
  comes_by w u command memory a run (leads.has_no_dependents none) = tt
  comes_by w u command memory a run (leads.tells_causes i named) = tt
  comes_by w u command memory a run (leads.has_no_causes none) = tt
  comes_by w u command memory a run leads.shows = tt
  comes_by w u command memory a run leads.shows_channel = tt
  comes_by w u command memory a run leads.tells_text = tt
  comes_by w u command memory a run leads.tells_console = tt
  comes_by w u command memory a run leads.tells_log = tt

  comes : (w u : World p) (asked : Asked) (memory : Memory) (a : Said) → IsRun p w.log w.state → Means p w asked memory u a → IsAsClaimed p asked w u a
  comes w u _ memory a run (by_command {command} leads) = comes_by w u command memory a run leads
  comes w u _ _ a run (by_batch commits) = tt

  -- an entry of a legal journal leads from one world to the next
  pub at_entry : (w v : World p) (journal before after : List Entry) (e : Entry) → Lead p w journal v → journal ≡ before ++ e ∷ after
      → (old : World p) × (new : World p) × (reply : Said) × Lead p w before old × Means p old e.asked e.memory new reply
  at_entry w v journal before after e no_entry same = absurd (none_between before after e same)
  at_entry w v journal before after e (one_more {u = x} {before = front} {reply = a} f lead next) same = elim (with_last after) [
    | inl none ↦
        let both = same_from_push front before f e (same ∙ ap (λ ys. before ++ e ∷ ys) none) in
        (x, v, a, subst (λ es. Lead p w es x) both.0 lead, subst (λ e. Means p x e.asked e.memory v a) both.1 next)
    | inr w' ↦
        let longer : front ++ f ∷ [] ≡ (before ++ e ∷ w'.0) ++ w'.1 ∷ [] =
        same ∙ ap (λ ys. before ++ e ∷ ys) w'.2 ∙ sym (append_assoc before (e ∷ w'.0) (w'.1 ∷ [])) in
        at_entry w x front before w'.0 e lead (same_from_push front (before ++ e ∷ w'.0) f w'.1 longer).0
  ]

  pub meets : (v : World p) (before after : List Entry) (e : Entry) → Lead p (first_world p) (before ++ e ∷ after) v → MeetsTheClaim p before e
  meets v before after e lead =
      let k = at_entry (first_world p) v (before ++ e ∷ after) before after e lead refl in record {
        old = k.0;
        new = k.1;
        reply = k.2;
        stood = k.3;
        meant = k.4;
        comes = comes k.0 k.1 e.asked e.memory k.2 (all_of_runs p (first_world p) k.0 before refl k.3) k.4;
      }
