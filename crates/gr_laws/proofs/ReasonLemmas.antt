-- Why an event is refused, both ways, in the order of the reasons.
use Rattle.std.proofs.Common.{◌≡◌, ◌⊎◌, ◌↔◌, false, List, [], ◌∷◌, Option, Some, None, refl, sym, ◌∙◌, ap, subst, inl, inr}
use Rattle.gr_base.specs.declared.events.Choice.{Choice}
use Rattle.gr_base.specs.declared.events.Choice.TheVariants as choices
use Rattle.gr_base.specs.declared.events.Event.{Event}
use Rattle.gr_base.specs.declared.kinds.Fault.{Fault}
use Rattle.gr_causal.proofs.ListLemmas.{some_is}
use Rattle.gr_program.specs.Programs.{Program}
use Rattle.gr_rules.specs.Outcomes.{Outcome, gives, faults, wrong}
use Rattle.gr_rules.specs.Frames.{Frame}
use Rattle.gr_rules.specs.Deeds.{Communication, Deed, Chooses, deed}
use Rattle.gr_rules.specs.Goroutines.{Wait, Status, ready, waiting, finished, Goroutine}
use Rattle.gr_rules.specs.States.{Run, live, ended, faulted, State}
use Rattle.gr_rules.specs.Attempts.{Refusal, program_is_over, no_such_goroutine, goroutine_is_done, goroutine_waits, no_such_choice, unsound, Attempt, refusal_in, ask_go}
use Rattle.gr_rules.specs.Actors.{Actor}
use Rattle.gr_rules.specs.Steps.{act_by, act_in, if_ready, if_known, if_live, refusal}
use Rattle.gr_laws.specs.Refusals.{HasStatus, StandsReady, is_select, HasNoSuch}
use Rattle.gr_laws.proofs.CellLemmas.{no_truth}
use Rattle.gr_laws.proofs.ChoiceLemmas.{among, Unsound, NoChoice, has_not, refused_choice}
use Rattle.gr_laws.proofs.RuleRefusals.{R, not_sound, done, refused, act_r, choose_r}

-- what a goroutine that is ready is refused for
abbrev Late : Refusal → Type 0
Late r = (r ≡ no_such_choice) ⊎ (r ≡ unsound)

module _ (s : State) where
  abbrev L : Attempt → Type 0
  L = R s Late (inr refl)

  late_deed : (a : Actor) (choice : Choice) (d : Deed) → L (act_by a choice (gives d))
  late_deed a choice (Chooses cs) = choose_r s Late (inr refl) a (inl refl) cs choice
  late_deed a choices.Plain d = act_r s Late (inr refl) a d
  late_deed a _ d = refused s Late (inr refl) (inl refl)

  late_act : (a : Actor) (choice : Choice) (d : Outcome Deed) → L (act_by a choice d)
  late_act a choice (gives d) = late_deed a choice d
  late_act a choices.Plain (faults e) = done s Late (inr refl)
  late_act a choices.Plain wrong = not_sound s Late (inr refl)
  late_act a _ (faults e) = refused s Late (inr refl) (inl refl)
  late_act a _ wrong = refused s Late (inr refl) (inl refl)

  late_in : (p : Program) (e : Event) (g : Goroutine) (fs : List Frame) → L (act_in p e g fs)
  late_in p e g [] = not_sound s Late (inr refl)
  late_in p e g (f ∷ fs) = late_act (record { program = p; name = e.go; before = g; frame = f; below = fs }) e.choice (deed f)

  late_is : (x : Attempt) → L x → (r : Refusal) → refusal_in s x ≡ Some r → Late r
  late_is x h = among s Late (inr refl) x h.refuses

  -- a statement that is no select has the plain choice alone
  abbrev U : Attempt → Type 0
  U = R s Unsound refl

  plain_deed : (a : Actor) (d : Deed) → is_select (gives d) ≡ false → U (act_by a choices.Plain (gives d))
  plain_deed a (Chooses cs) n = absurd (no_truth (sym n))
  plain_deed a d n = act_r s Unsound refl a d

  plain_act : (a : Actor) (d : Outcome Deed) → is_select d ≡ false → U (act_by a choices.Plain d)
  plain_act a (gives d) n = plain_deed a d n
  plain_act a (faults e) n = done s Unsound refl
  plain_act a wrong n = not_sound s Unsound refl

  other_deed : (a : Actor) (choice : Choice) (d : Deed) → is_select (gives d) ≡ false → (choice ≡ choices.Plain → ⊥)
      → refusal_in s (act_by a choice (gives d)) ≡ Some no_such_choice
  other_deed a choice (Chooses cs) n k = absurd (no_truth (sym n))
  other_deed a choices.Plain d n k = absurd (k refl)
  other_deed a _ d n k = refl

  other_act : (a : Actor) (choice : Choice) (d : Outcome Deed) → is_select d ≡ false → (choice ≡ choices.Plain → ⊥)
      → refusal_in s (act_by a choice d) ≡ Some no_such_choice
  other_act a choice (gives d) n k = other_deed a choice d n k
  other_act a choices.Plain d n k = absurd (k refl)
  other_act a _ (faults e) n k = refl
  other_act a _ wrong n k = refl

module _ (p : Program) (s : State) (e : Event) where
  -- what each refusal says of the state
  abbrev pub Reason : Refusal → Type 0
  Reason program_is_over = s.run ≡ live → ⊥
  Reason no_such_goroutine = (s.run ≡ live) × (s.goroutines e.go ≡ None)
  Reason goroutine_is_done = HasStatus s e.go finished
  Reason goroutine_waits = (ws : List Wait) × HasStatus s e.go (waiting ws)
  Reason no_such_choice = HasStatus s e.go ready
  Reason unsound = HasStatus s e.go ready

  says : (r : Refusal) → Reason r → (q : Refusal) → Some r ≡ Some q → Reason q
  says r h q d = subst Reason (some_is r q d) h

  by_status : (g : Goroutine) (x : Status) → s.run ≡ live → s.goroutines e.go ≡ Some g → g.status ≡ x → (q : Refusal)
      → refusal_in s (if_ready p e g x) ≡ Some q → Reason q
  by_status g finished l h w q d = says goroutine_is_done (record { runs = l; goroutine = g; here = h; has = w }) q d
  by_status g (waiting ws) l h w q d = says goroutine_waits (ws, record { runs = l; goroutine = g; here = h; has = w }) q d
  by_status g ready l h w q d =
      let at : HasStatus s e.go ready = record { runs = l; goroutine = g; here = h; has = w } in
      elim (late_is s (act_in p e g g.frames) (late_in s p e g g.frames) q d) [ inl k ↦ subst Reason (sym k) at | inr k ↦ subst Reason (sym k) at ]

  by_known : (x : Option Goroutine) → s.run ≡ live → s.goroutines e.go ≡ x → (q : Refusal)
      → refusal_in s (if_known p e x) ≡ Some q → Reason q
  by_known None l h q d = says no_such_goroutine (l, h) q d
  by_known (Some g) l h q d = by_status g g.status l h refl q d

  not_ended : ended ≡ live → ⊥
  not_ended d = cc

  not_faulted : (f : Fault) → faulted f ≡ live → ⊥
  not_faulted f d = cc

  by_run : (r : Run) → s.run ≡ r → (q : Refusal) → refusal_in s (if_live (ask_go e.go (if_known p e)) r) ≡ Some q → Reason q
  by_run live l q d = by_known (s.goroutines e.go) l refl q d
  by_run ended l q d = says program_is_over (λ k. not_ended (sym l ∙ k)) q d
  by_run (faulted f) l q d = says program_is_over (λ k. not_faulted f (sym l ∙ k)) q d

  pub reason : (q : Refusal) → refusal p s e ≡ Some q → Reason q
  reason q d = by_run s.run refl q d

  -- what of the state makes each refusal come
  pub if_over : (s.run ≡ live → ⊥) → refusal p s e ≡ Some program_is_over
  if_over n = by_state s.run n
    where
      by_state : (r : Run) → (r ≡ live → ⊥) → refusal_in s (if_live (ask_go e.go (if_known p e)) r) ≡ Some program_is_over
      by_state live k = absurd (k refl)
      by_state ended k = refl
      by_state (faulted f) k = refl

  pub if_unknown : (s.run ≡ live) × (s.goroutines e.go ≡ None) → refusal p s e ≡ Some no_such_goroutine
  if_unknown h = ap (λ r. refusal_in s (if_live (ask_go e.go (if_known p e)) r)) h.0 ∙ ap (λ x. refusal_in s (if_known p e x)) h.1

  at_status : (x : Status) → HasStatus s e.go x → (g : Goroutine) × (refusal p s e ≡ refusal_in s (if_ready p e g x))
  at_status x h = (
    h.goroutine,
    ap (λ r. refusal_in s (if_live (ask_go e.go (if_known p e)) r)) h.runs ∙ ap (λ x. refusal_in s (if_known p e x)) h.here
        ∙ ap (λ y. refusal_in s (if_ready p e h.goroutine y)) h.has,
  )

  pub if_done : HasStatus s e.go finished → refusal p s e ≡ Some goroutine_is_done
  if_done h = (at_status finished h).1

  pub if_waits : (ws : List Wait) → HasStatus s e.go (waiting ws) → refusal p s e ≡ Some goroutine_waits
  if_waits ws h = (at_status (waiting ws) h).1

  module _ (f : Frame) (h : StandsReady s e.go f) where
    abbrev actor : Actor
    actor = record { program = p; name = e.go; before = h.goroutine; frame = f; below = h.below }

    at_frame : refusal p s e ≡ refusal_in s (act_by actor e.choice (deed f))
    at_frame = ap (λ r. refusal_in s (if_live (ask_go e.go (if_known p e)) r)) h.runs ∙ ap (λ x. refusal_in s (if_known p e x)) h.here
        ∙ ap (λ y. refusal_in s (if_ready p e h.goroutine y)) h.is_ready ∙ ap (λ fs. refusal_in s (act_in p e h.goroutine fs)) h.frames

    pub if_plain : is_select (deed f) ≡ false → (refusal p s e ≡ Some no_such_choice) ↔ (e.choice ≡ choices.Plain → ⊥)
    if_plain n = (
      λ d k.
          let late : no_such_choice ≡ unsound =
          among s Unsound refl (act_by actor choices.Plain (deed f)) (plain_act s actor (deed f) n).refuses no_such_choice
          (ap (λ c. refusal_in s (act_by actor c (deed f))) (sym k) ∙ sym at_frame ∙ d) in cc,
      λ k. at_frame ∙ other_act s actor e.choice (deed f) n k,
    )

    pub if_select : (cs : List Communication) → deed f ≡ gives (Chooses cs)
        → ((refusal p s e ≡ Some no_such_choice) → HasNoSuch s cs e.choice) × (HasNoSuch s cs e.choice → NoChoice (refusal p s e))
    if_select cs q =
        let at = at_frame ∙ ap (λ d. refusal_in s (act_by actor e.choice d)) q in
        (λ d. has_not s actor cs e.choice (sym at ∙ d), λ k. subst NoChoice (sym at) (refused_choice s actor cs e.choice k))
