-- Each rule keeps within bounds.
use Rattle.std.proofs.Common.{◌≡◌, ℕ, zero, suc, ℤ, pos, negsuc, ◌+◌, ◌-◌, nat_le, Bool, false, if◌then◌else◌, List, [], ◌∷◌, ◌++◌, length, ◌||◌, is_some, Option, Some, None, refl, sym, ◌∙◌, ap, subst, arith}
use Rattle.gr_base.specs.declared.names.ChName.{ChName}
use Rattle.gr_base.specs.declared.values.Value.{Value}
use Rattle.gr_base.specs.declared.values.Value.TheVariants as values
use Rattle.gr_base.specs.declared.events.Choice.{Choice}
use Rattle.gr_base.specs.declared.events.Choice.TheVariants as choices
use Rattle.gr_base.specs.declared.events.Event.{Event}
use Rattle.gr_base.specs.declared.kinds.Fault.TheVariants.{BadSize, CallDepth, NameDepth, NameCount}
use Rattle.gr_base.specs.declared.kinds.Kind.TheVariants as kinds
use Rattle.std.proofs.lemmas.Option.{none-some}
use Rattle.gr_causal.proofs.ListLemmas.{some_is}
use Rattle.gr_channels.specs.Objects.{has_any}
use Rattle.gr_program.specs.Programs.{Program}
use Rattle.gr_rules.specs.Outcomes.{Outcome, gives, faults, wrong}
use Rattle.gr_rules.specs.Frames.{Frame, goes_on}
use Rattle.gr_rules.specs.Deeds.{Communication, Sending, Receiving, Otherwise, Deed, Moves, Prints, Enters, Leaves, Starts, Makes, TakesLen, TakesCap, Closes, Communicates, Chooses, deed}
use Rattle.gr_rules.specs.Goroutines.{Status, ready, waiting, finished, Goroutine, started}
use Rattle.gr_rules.specs.States.{Run, live, ended, faulted, go_has, State, call_of}
use Rattle.gr_rules.specs.Attempts.{no_such_choice, Refusal, Operation, takes_len_of, takes_cap_of, Attempt, refuse, ask_go}
use Rattle.gr_rules.specs.Actors.{Actor, onward, simply, fault, given as given_by, clause_at}
use Rattle.gr_rules.specs.Selects.{values_of, ask_ready, if_none_ready, pick, default_from, numbered, default, park, choose}
use Rattle.gr_rules.specs.Limits.{most_places, most_counts, greatest_count}
use Rattle.gr_rules.specs.Steps.{is_deepest, enter, finish, leave, child, if_absent, go, new_channel, make, counted, take_len, take_cap, print, act, act_by, act_in, if_ready, if_known, if_live, attempt}
use Rattle.gr_laws.specs.Soundness.{made_by, Sound}
use Rattle.gr_may.specs.Uses.{to_count, Uses, Usage, MayUse}
use Rattle.gr_may.specs.Demands.{parameter_uses}
use Rattle.gr_may.specs.Covers.{AwaitsResultOf, ReturnsTo, FrameFits, FramesFit, GoFits, Covers}
use Rattle.gr_may.proofs.Given.{IfGives, given, in_any_case}
use Rattle.gr_may.proofs.FitValues.{ValuesFit}
use Rattle.gr_may.proofs.FitFrames.{On, called_fits, goes_on_fits, resumed_on, returned_on, past_on}
use Rattle.gr_may.proofs.FitDeeds.{MayDo, CommunicationFits, ClausesFit, DeedFits, deed_fits}
use Rattle.gr_may.proofs.FitAttempts.{OperationFits, Begins, K, refused, asked, if_keeps, gate_keeps, room_keeps, item_keeps, returns_same, Acts, G, all_frames, onward_fits, does_keeps, fault_keeps, given_keeps}
use Rattle.gr_may.proofs.FitCommunications.{NumberedFit, communicate_keeps, wait_keeps, alone_keeps, close_keeps}

-- values that one goroutine may use so, another may that is permitted the same
may_alike : (usage : Usage) (n m : List ℕ) (b : Uses) (v : Value) → usage.permits m ≡ usage.permits n → MayUse usage n b v → MayUse usage m b v
may_alike usage n m b (values.Int i) e h = tt
may_alike usage n m b (values.Bool t) e h = tt
may_alike usage n m b values.Unit e h = tt
may_alike usage n m b (values.Chan None) e h = tt
may_alike usage n m b (values.Chan (Some c)) e h = λ u t. ap (λ (f : ChName → Uses). f c u) e ∙ h u t

values_alike : (usage : Usage) (n m : List ℕ) (bs : List Uses) (vs : List Value) → usage.permits m ≡ usage.permits n → ValuesFit usage n bs vs
    → ValuesFit usage m bs vs
values_alike usage n m bs [] e h = tt
values_alike usage n m [] (v ∷ vs) e h = tt
values_alike usage n m (b ∷ bs) (v ∷ vs) e h = (may_alike usage n m b v e h.0, values_alike usage n m bs vs e h.1)

clause_there : (usage : Usage) (n : List ℕ) (xs : List Communication) (i : ℕ) (x : Communication) → ClausesFit usage n xs → clause_at xs i ≡ Some x
    → CommunicationFits usage n x
clause_there usage n xs zero x h e = absurd (none-some _ e)
clause_there usage n [] (suc i) x h e = absurd (none-some _ e)
clause_there usage n (y ∷ ys) (suc zero) x h e = subst (CommunicationFits usage n) (some_is _ _ e) h.0
clause_there usage n (y ∷ ys) (suc (suc i)) x h e = clause_there usage n ys (suc i) x h.1 e

numbered_fit : (usage : Usage) (n : List ℕ) (i : ℕ) (xs : List Communication) → ClausesFit usage n xs → NumberedFit usage n (numbered i xs)
numbered_fit usage n i [] h = tt
numbered_fit usage n i (x ∷ xs) h = (h.0, numbered_fit usage n (i + 1) xs h.1)

module _ (usage : Usage) (s : State) (a : Actor) (acts : Acts usage s a) where
  abbrev A : Attempt → Type 0
  A x = G usage s a acts x

  no : {r : Refusal} → A (refuse r)
  no = refused a.program usage s a.name

  either_way : (b : Bool) {x y : Attempt} → A x → A y → A (if b then x else y)
  either_way b h k = if_keeps a.program usage s a.name b h k

  ready_keeps : (x : Communication) (k : Bool → Attempt) → ((b : Bool) → A (k b)) → A (ask_ready x k)
  ready_keeps (Sending (Some c) v) k h = gate_keeps a.program usage s a.name acts.covers (λ gate q.
      room_keeps a.program usage s a.name acts.covers c gate (λ room. k (gate.closed || has_any gate.receivers || is_some room)) (h _) (λ i. h _))
  ready_keeps (Sending None v) k h = h false
  ready_keeps (Receiving (Some c) initial) k h = gate_keeps a.program usage s a.name acts.covers (λ gate q.
      item_keeps a.program usage s a.name acts.covers c gate (λ item. k (gate.closed || has_any gate.senders || is_some item)) (h _) (λ i v f. h _))
  ready_keeps (Receiving None initial) k h = h false
  ready_keeps Otherwise k h = h false

  none_ready_keeps : (xs : List Communication) (x : Attempt) → A x → A (if_none_ready xs x)
  none_ready_keeps [] x h = h
  none_ready_keeps (c ∷ cs) x h = ready_keeps c (λ b. if b then refuse no_such_choice else if_none_ready cs x) (λ b. either_way b no (none_ready_keeps cs x h))

  pick_keeps : (i : ℕ) (vs : Outcome (List Value)) (o : Option Communication) → ((x : Communication) → o ≡ Some x → CommunicationFits usage a.name x)
      → A (pick a i vs o)
  pick_keeps i vs None h = no
  pick_keeps i (gives vs) (Some x) h = communicate_keeps usage s a acts (Some i) x (refuse no_such_choice) (h x refl) no
  pick_keeps i (faults e) (Some x) h =
      ready_keeps x (λ b. if b then fault a None e else refuse no_such_choice) (λ b. either_way b (fault_keeps usage s a acts None e tt) no)
  pick_keeps i wrong (Some x) h = no

  default_keeps : (xs : List Communication) (o : Option ℕ) → A (default a xs o)
  default_keeps xs (Some i) = none_ready_keeps xs _ (given_keeps usage s a acts (in_any_case (values_of xs)) (λ vs u.
      given_keeps usage s a acts (past_on a.program usage a.name a.frame acts.frame (Some i) None tt)
      (λ f on. does_keeps usage s a acts {operation = None} tt tt (onward_fits usage s a acts f on) tt)))
  default_keeps xs None = no

  park_keeps : (xs : List Communication) (o : Option ℕ) → ClausesFit usage a.name xs → A (park a xs o)
  park_keeps xs (Some i) h = no
  park_keeps xs None h = none_ready_keeps xs _ (given_keeps usage s a acts (in_any_case (values_of xs))
      (λ vs u. wait_keeps usage s a acts None kinds.SelectWait (numbered 1 xs) tt tt (numbered_fit usage a.name 1 xs h)))

  choose_keeps : (xs : List Communication) (x : Choice) → ClausesFit usage a.name xs → A (choose a xs x)
  choose_keeps xs choices.Plain h = no
  choose_keeps xs (choices.Pick i) h = pick_keeps i (values_of xs) (clause_at xs i) (λ x e. clause_there usage a.name xs i x h e)
  choose_keeps xs choices.Default h = default_keeps xs (default_from 1 xs)
  choose_keeps xs choices.Park h = park_keeps xs (default_from 1 xs) h

  enter_keeps : (k : ℕ) (vs : List Value) → DeedFits a.program usage a.name acts.covers.sharing a.frame acts.frame (Enters k vs) → A (enter a k vs)
  enter_keeps k vs h = either_way (is_deepest a.before.frames) (fault_keeps usage s a acts None CallDepth tt)
      (given_keeps usage s a acts (called_fits a.program usage a.name k vs (λ f e. acts.covers.code k f e) h.1) (λ f on.
      does_keeps usage s a acts {operation = None} tt tt (record { frames = entered f on; status = acts.status }) tt))
    where
      entered : (f : Frame) → FrameFits a.program usage a.name f × (f.function ≡ k) → FramesFit a.program usage a.name (f ∷ a.before.frames)
      entered f on = (on.0, subst (ReturnsTo f) (sym acts.stands) (subst (λ i. AwaitsResultOf i a.frame) (sym on.1) h.0), all_frames usage s a acts)

  finish_keeps : (name : List ℕ) → A (finish a name)
  finish_keeps [] = does_keeps usage s a acts {operation = None} tt tt (record { frames = tt; status = tt }) (tt, tt)
  finish_keeps (n ∷ ns) = does_keeps usage s a acts {operation = None} tt tt (record { frames = tt; status = tt }) tt

  leave_keeps : (v : Value) (fs : List Frame) → MayUse usage a.name (usage.results a.frame.function) v → ReturnsTo a.frame fs
      → FramesFit a.program usage a.name fs → A (leave a v fs)
  leave_keeps v [] m r h = finish_keeps a.name
  leave_keeps v (f ∷ fs) m r h = given_keeps usage s a acts (returned_on a.program usage a.name f h.0 a.frame.function v r m) (λ g on.
      does_keeps usage s a acts {operation = None} tt tt (record { frames = (on.fits, returns_same f g fs on.same h.1, h.2); status = acts.status }) tt)

  on_now : On a.program usage a.name a.frame (goes_on a.frame)
  on_now = goes_on_fits a.program usage a.name a.frame acts.frame

  go_keeps : (k : ℕ) (vs : List Value) → ValuesFit usage a.name (parameter_uses a.program usage k) vs → A (go a k vs)
  go_keeps k vs h = either_way (nat_le most_counts (length a.name)) (fault_keeps usage s a acts None NameDepth tt)
      (either_way (nat_le greatest_count a.before.children) (fault_keeps usage s a acts None NameCount tt)
      (asked a.program usage s a.name (by_child (s.goroutines (child a)) refl)))
    where
      by_child : (x : Option Goroutine) → s.goroutines (child a) ≡ x → A (if_absent (given_by a (call_of a.program k vs) (λ f.
          simply a kinds.Go (record (onward a (goes_on a.frame)) { children = a.before.children + 1 }) (go_has (child a) (Some (started f)) ∷ []))) x)
      by_child None e =
          let same : usage.permits (child a) ≡ usage.permits a.name = acts.covers.unstarted a.name (a.before.children + 1) e in
          let values : ValuesFit usage (child a) (parameter_uses a.program usage k) vs = values_alike usage a.name (child a) (parameter_uses a.program usage k) vs same h in
          let fresh : Begins a.program usage s a.name kinds.Go =
          λ g at. subst (λ (g : Goroutine). s.goroutines (a.name ++ (g.children + 1) ∷ []) ≡ None) (some_is _ _ (sym acts.at ∙ at)) e in
          given_keeps usage s a acts (called_fits a.program usage (child a) k vs (λ f e. acts.covers.code k f e) values) (λ f on.
          does_keeps usage s a acts {operation = None} {kind = kinds.Go} fresh tt
          (record { frames = (onward_fits usage s a acts (goes_on a.frame) on_now).frames; status = acts.status })
          (record { frames = (on.0, tt, tt); status = tt }, tt))
      by_child (Some g) e = no

  counted_keeps : (operation : Option Operation) (i : ℕ) → OperationFits a.program usage a.name operation → A (counted a operation i)
  counted_keeps operation i o = given_keeps usage s a acts (resumed_on a.program usage a.name a.frame acts.frame (values.Int (pos i)) tt)
      (λ f on. does_keeps usage s a acts {operation = operation} tt o (onward_fits usage s a acts f on) tt)

  len_keeps : (c : Option ChName) → MayDo usage a.name to_count c → A (take_len a c)
  len_keeps None h = counted_keeps None 0 tt
  len_keeps (Some c) h = gate_keeps a.program usage s a.name acts.covers (λ gate q. asked a.program usage s a.name (asked a.program usage s a.name
      (counted_keeps (Some (takes_len_of c)) (s.tails c - s.heads c) h)))

  cap_keeps : (c : Option ChName) → A (take_cap a c)
  cap_keeps None = counted_keeps None 0 tt
  cap_keeps (Some c) = gate_keeps a.program usage s a.name acts.covers (λ gate q. counted_keeps (Some (takes_cap_of c)) gate.capacity tt)

  print_keeps : (line : List ℕ) → A (print a line)
  print_keeps line = record {
    keeps = (tt, tt, (record { frames = (onward_fits usage s a acts (goes_on a.frame) on_now).frames; status = acts.status }, tt));
  }

  module _ (sound : Sound s) where
    fresh : s.gates (new_channel a) ≡ None
    fresh = let count : made_by (s.goroutines a.name) ≡ a.before.channels = ap made_by acts.at in sound.named (new_channel a) (omega arith)

    make_keeps : (i : ℤ) → A (make a i)
    make_keeps (negsuc i) = fault_keeps usage s a acts None BadSize tt
    make_keeps (pos i) = either_way (nat_le (most_places + 1) i) (fault_keeps usage s a acts None BadSize tt)
        (either_way (nat_le greatest_count a.before.channels) (fault_keeps usage s a acts None NameCount tt)
        (given_keeps usage s a acts (resumed_on a.program usage a.name a.frame acts.frame (values.Chan (Some (new_channel a))) (acts.covers.unmade (new_channel a) fresh)) (λ f on.
        does_keeps usage s a acts {operation = None} tt tt
        (record { frames = (onward_fits usage s a acts f on).frames; status = acts.status }) ((λ w i. absurd i), tt))))

    abbrev Asked : Deed → Type 0
    Asked d = DeedFits a.program usage a.name acts.covers.sharing a.frame acts.frame d

    act_keeps : (d : Deed) → Asked d → A (act a d)
    act_keeps (Moves f) h = does_keeps usage s a acts {operation = None} tt tt (onward_fits usage s a acts f h) tt
    act_keeps (Prints line) h = print_keeps line
    act_keeps (Enters k vs) h = enter_keeps k vs h
    act_keeps (Leaves v) h = leave_keeps v a.below h acts.returns acts.below
    act_keeps (Starts k vs) h = go_keeps k vs h
    act_keeps (Makes i) h = make_keeps i
    act_keeps (TakesLen c) h = len_keeps c h
    act_keeps (TakesCap c) h = cap_keeps c
    act_keeps (Closes c) h = close_keeps usage s a acts c h
    act_keeps (Communicates c) h = alone_keeps usage s a acts c h
    act_keeps (Chooses cs) h = no

    plain_keeps : (choice : Choice) (d : Deed) → Asked d → A (act_by a choice (gives d))
    plain_keeps choice (Chooses cs) h = choose_keeps cs choice h
    plain_keeps choices.Plain d h = act_keeps d h
    plain_keeps _ d h = no

    pub by_keeps : (choice : Choice) (d : Outcome Deed) → IfGives Asked d → A (act_by a choice d)
    by_keeps choice (gives d) (given h) = plain_keeps choice d h
    by_keeps choices.Plain (faults e) h = fault_keeps usage s a acts None e tt
    by_keeps choices.Plain wrong h = no
    by_keeps _ (faults e) h = no
    by_keeps _ wrong h = no

-- the attempt of an event
module _ (p : Program) (usage : Usage) (s : State) (covers : Covers p usage s) (sound : Sound s) (e : Event) where
  abbrev E : Attempt → Type 0
  E x = K p usage s e.go x

  frames_keep : (g : Goroutine) (fs : List Frame) → s.goroutines e.go ≡ Some g → g.frames ≡ fs → GoFits p usage e.go g → E (act_in p e g fs)
  frames_keep g [] at q h = refused p usage s e.go
  frames_keep g (f ∷ fs) at q h =
      let a : Actor = record { program = p; name = e.go; before = g; frame = f; below = fs } in
      let parts : FramesFit p usage e.go (f ∷ fs) = subst (FramesFit p usage e.go) q h.frames in
      let acts : Acts usage s a = record { covers = covers; at = at; stands = q; status = h.status; frame = parts.0; returns = parts.1; below = parts.2 } in
      by_keeps usage s a acts sound e.choice (deed f) (deed_fits p usage e.go covers.sharing f parts.0)

  status_keeps : (g : Goroutine) (x : Status) → s.goroutines e.go ≡ Some g → E (if_ready p e g x)
  status_keeps g finished at = refused p usage s e.go
  status_keeps g (waiting ws) at = refused p usage s e.go
  status_keeps g ready at = frames_keep g g.frames at refl (covers.goroutines e.go g at)

  known_keeps : (x : Option Goroutine) → s.goroutines e.go ≡ x → E (if_known p e x)
  known_keeps None at = refused p usage s e.go
  known_keeps (Some g) at = status_keeps g g.status at

  run_keeps : (r : Run) → E (if_live (ask_go e.go (if_known p e)) r)
  run_keeps live = asked p usage s e.go (known_keeps (s.goroutines e.go) refl)
  run_keeps ended = refused p usage s e.go
  run_keeps (faulted f) = refused p usage s e.go

  pub attempt_keeps : E (attempt p e)
  attempt_keeps = asked p usage s e.go (run_keeps s.run)
