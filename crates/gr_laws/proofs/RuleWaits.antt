-- Each rule leaves goroutines in the queues of what they wait for, and changes all that it writes. The crates above use this
-- too: of one step, and of a run.
use Rattle.std.proofs.Common.{fold, ◌≡◌, ◌↔◌, ℕ, ℤ, pos, negsuc, ◌+◌, ◌-◌, ◌^◌, nat_le, if◌then◌else◌, arith, Bool, true, false, List, [], ◌∷◌, ◌++◌, map, length, Option, Some, None, refl, sym, ◌∙◌, ap, subst, inl, inr}
use Rattle.std.specs.List.{AllByRecursion}
use Rattle.gr_base.specs.declared.names.ChName.{ChName}
use Rattle.gr_base.specs.declared.values.Value.{Value}
use Rattle.gr_base.specs.declared.values.Value.TheVariants as values
use Rattle.gr_base.specs.declared.events.Choice.{Choice}
use Rattle.gr_base.specs.declared.events.Choice.TheVariants as choices
use Rattle.gr_base.specs.declared.events.Event.{Event}
use Rattle.gr_base.specs.declared.kinds.Fault.TheVariants.{BadSize, CallDepth, NameDepth, NameCount}
use Rattle.gr_base.specs.declared.kinds.Kind.TheVariants as kinds
use Rattle.gr_base.specs.declared.objects.Object.{Object}
use Rattle.gr_causal.specs.Sequences.{In}
use Rattle.std.proofs.lemmas.Option.{none-some, same_Some}
use Rattle.gr_causal.specs.Rules.{Plan, Note, plan, carried, with_read}
use Rattle.gr_causal.specs.Machine.{StepOf, IsLog}
use Rattle.gr_causal.proofs.PathLemmas.{Path, path_of}
use Rattle.gr_program.specs.Programs.{Program}
use Rattle.gr_rules.specs.Outcomes.{Outcome, gives, faults, wrong}
use Rattle.gr_rules.specs.Goroutines.{Wait, ToSend, ToReceive, Status, ready, waiting, finished, Goroutine, started}
use Rattle.gr_rules.specs.Frames.{Frame, goes_on}
use Rattle.gr_rules.specs.Deeds.{Deed, Moves, Prints, Enters, Leaves, Starts, Makes, TakesLen, TakesCap, Closes, Communicates, Chooses, deed, resumed}
use Rattle.gr_rules.specs.Attempts.{Operation, takes_len_of, takes_cap_of, Report, Attempt, refuse, perform, ask, rule_of, ask_go}
use Rattle.gr_rules.specs.Actors.{Actor, onward, simply, given}
use Rattle.gr_rules.specs.States.{object_of, Run, live, ended, faulted, Cell, go_has, State, same_go, look, put, call_of, main_of, started_in, start}
use Rattle.gr_rules.specs.Touches.{waits_at}
use Rattle.gr_laws.specs.Soundness.{made_by, Sound, Stands, SoundWaits, SoundQueues}
use Rattle.gr_rules.specs.Steps.{enter, finish, leave, child, if_absent, go, new_channel, make, counted, take_len, take_cap, print, act, act_by, act_in, if_ready, if_known, if_live, attempt, rulebook, machine}
use Rattle.gr_laws.proofs.CellLemmas.{run_is, goroutine_is, gate_is, name-look, machine_laws}
use Rattle.gr_laws.proofs.RuleSound.{after_sound, started_sound}
use Rattle.gr_laws.proofs.WaitLemmas.{known_object, settled}
use Rattle.gr_laws.proofs.LeafLemmas.{Written, freeing, queues_after}
use Rattle.gr_laws.proofs.WaitAttempts.{Keeps, K, Acts, calm_is, refused, asked, if_keeps, gate_keeps, stays, own_changed, own_fit, does_keeps, fault_keeps, given_keeps}
use Rattle.gr_laws.proofs.WaitCommunications.{alone_keeps, close_keeps}
use Rattle.gr_laws.proofs.WaitSelects.{choose_keeps}

nobody : (n : ℕ) (name : List ℕ) (w : Wait) → Stands (Some (record { capacity = n; closed = false; senders = []; receivers = [] })) name w → ⊥
nobody n name (ToSend c i) h = absurd h.1
nobody n name (ToReceive c i) h = absurd h.1

not_ended : live ≡ ended → ⊥
not_ended e = cc

module _ {s : State} {a : Actor} (acts : Acts s a) where
  enter_keeps : (function : ℕ) (vs : List Value) → K s (enter a function vs)
  enter_keeps function vs = if_keeps (nat_le 1000 (length a.before.frames)) (fault_keeps acts None CallDepth)
      (λ e. given_keeps acts (call_of a.program function vs) (λ f e. does_keeps acts (calm_is a.before acts.calm) refl tt))

  finish_keeps : (name : List ℕ) → K s (finish a name)
  finish_keeps [] = does_keeps acts refl refl ((tt, tt, ((λ q. not_ended (sym acts.lives ∙ run_is _ _ q)), tt)), tt)
  finish_keeps (n ∷ ns) = does_keeps acts refl refl tt

  leave_keeps : (v : Value) (fs : List Frame) → K s (leave a v fs)
  leave_keeps v [] = finish_keeps a.name
  leave_keeps v (f ∷ fs) = given_keeps acts (resumed f v) (λ f e. does_keeps acts (calm_is a.before acts.calm) refl tt)

  go_keeps : (function : ℕ) (vs : List Value) → K s (go a function vs)
  go_keeps function vs = if_keeps (nat_le 32 (length a.name)) (fault_keeps acts None NameDepth)
      (λ e. if_keeps (nat_le (2 ^ 32 - 1) a.before.children) (fault_keeps acts None NameCount) (λ e. asked (by_child (s.goroutines (child a)) refl)))
    where
      by_child : (x : Option Goroutine) → s.goroutines (child a) ≡ x → K s (if_absent (given a (call_of a.program function vs) (λ f.
          simply a kinds.Go (record (onward a (goes_on a.frame)) { children = a.before.children + 1 }) (go_has (child a) (Some (started f)) ∷ []))) x)
      by_child None e = given_keeps acts (call_of a.program function vs) (λ f d. does_keeps acts (calm_is a.before acts.calm) refl
          (((λ k. sym (ap waits_at e)), (λ i. absurd i), ((λ q. none-some _ (sym e ∙ goroutine_is (child a) _ _ q)), tt)), tt))
      by_child (Some g) e = refused

  make_keeps : (n : ℤ) → K s (make a n)
  make_keeps (negsuc n) = fault_keeps acts None BadSize
  make_keeps (pos n) = if_keeps (nat_le 1000001 n) (fault_keeps acts None BadSize)
      (λ e. if_keeps (nat_le (2 ^ 32 - 1) a.before.channels) (fault_keeps acts None NameCount) (λ e.
      let count : made_by (s.goroutines a.name) ≡ a.before.channels = ap made_by acts.here in
      let none : s.gates (new_channel a) ≡ None = acts.sound.named (new_channel a) (omega arith) in
      given_keeps acts (resumed a.frame (values.Chan (Some (new_channel a)))) (λ f e. does_keeps acts (calm_is a.before acts.calm) refl (
        (
          (λ m w z k. ((λ st. absurd (nobody n m w st)), (λ st. absurd (subst (λ x. Stands x m w) none st)))),
          (λ m w z i st. absurd i),
          ((λ q. none-some _ (sym none ∙ gate_is (new_channel a) _ _ q)), (λ q. (tt, tt))),
        ),
        tt,
      ))))

  counted_keeps : (operation : Option Operation) (n : ℕ) → K s (counted a operation n)
  counted_keeps operation n = given_keeps acts (resumed a.frame (values.Int (pos n))) (λ f e. does_keeps acts (calm_is a.before acts.calm) refl tt)

  len_keeps : (c : Option ChName) → K s (take_len a c)
  len_keeps None = counted_keeps None 0
  len_keeps (Some c) = gate_keeps (λ gate at. asked (asked (counted_keeps (Some (takes_len_of c)) (s.tails c - s.heads c))))

  cap_keeps : (c : Option ChName) → K s (take_cap a c)
  cap_keeps None = counted_keeps None 0
  cap_keeps (Some c) = gate_keeps (λ gate at. counted_keeps (Some (takes_cap_of c)) gate.capacity)

  print_keeps : (line : List ℕ) → K s (print a line)
  print_keeps line =
      let g : Goroutine = record (onward a (goes_on a.frame)) { text = a.before.text ++ line ∷ [] } in record {
        keeps = (
          freeing s acts.waits [] (go_has a.name (Some g) ∷ []) (own_fit acts [] g (calm_is g acts.calm) refl, tt) (λ n i. absurd i) (λ n w i. absurd i),
          ((own_changed acts g refl, tt), tt),
        );
      }

  act_keeps : (d : Deed) → K s (act a d)
  act_keeps (Moves f) = does_keeps acts (stays acts f) refl tt
  act_keeps (Prints line) = print_keeps line
  act_keeps (Enters function vs) = enter_keeps function vs
  act_keeps (Leaves v) = leave_keeps v a.below
  act_keeps (Starts function vs) = go_keeps function vs
  act_keeps (Makes n) = make_keeps n
  act_keeps (TakesLen c) = len_keeps c
  act_keeps (TakesCap c) = cap_keeps c
  act_keeps (Closes c) = close_keeps acts c
  act_keeps (Communicates c) = alone_keeps acts c
  act_keeps (Chooses cs) = refused

  plain_keeps : (choice : Choice) (d : Deed) → K s (act_by a choice (gives d))
  plain_keeps choice (Chooses cs) = choose_keeps acts cs choice
  plain_keeps choices.Plain d = act_keeps d
  plain_keeps _ d = refused

  by_keeps : (choice : Choice) (d : Outcome Deed) → K s (act_by a choice d)
  by_keeps choice (gives d) = plain_keeps choice d
  by_keeps choices.Plain (faults e) = fault_keeps acts None e
  by_keeps choices.Plain wrong = refused
  by_keeps _ (faults e) = refused
  by_keeps _ wrong = refused

module _ (p : Program) (s : State) (sound : Sound s) (waits : SoundWaits s) (e : Event) where
  ready_frames : (g : Goroutine) (fs : List Frame) → s.goroutines e.go ≡ Some g → g.status ≡ ready → s.run ≡ live → Keeps s (act_in p e g fs)
  ready_frames g [] h r l = tt
  ready_frames g (f ∷ fs) h r l =
      let a : Actor = record { program = p; name = e.go; before = g; frame = f; below = fs } in
      let acts : Acts s a = record { sound = sound; waits = waits; here = h; calm = r; lives = l } in
      (by_keeps acts e.choice (deed f)).keeps

  by_status : (g : Goroutine) (x : Status) → s.goroutines e.go ≡ Some g → g.status ≡ x → s.run ≡ live → Keeps s (if_ready p e g x)
  by_status g finished h r l = tt
  by_status g (waiting ws) h r l = tt
  by_status g ready h r l = ready_frames g g.frames h r l

  by_known : (x : Option Goroutine) → s.goroutines e.go ≡ x → s.run ≡ live → Keeps s (if_known p e x)
  by_known None h l = tt
  by_known (Some g) h l = by_status g g.status h refl l

  by_run : (r : Run) → s.run ≡ r → Keeps s (if_live (ask_go e.go (if_known p e)) r)
  by_run live l = by_known (s.goroutines e.go) refl l
  by_run ended l = tt
  by_run (faulted f) l = tt

  -- what a step's attempt comes to
  record Went (y : Plan Object Cell Report) : Type 0 where
    queues : SoundWaits (fold put s y.cells)
    written : AllByRecursion (Written s) y.cells

  went : (x : Attempt) (y : Plan Object Cell Report) → Keeps s x → plan (rulebook p) s (rule_of x) ≡ Some y → Went y
  went (refuse r) y c h = absurd (none-some _ h)
  went (perform report cells) y c h = subst Went (same_Some _ _ h) (record { queues = c.0; written = c.1 })
  went (ask o f) y c h = by_rest (λ z. went (f (look s o)) z c) (plan (rulebook p) s (rule_of (f (look s o)))) refl h
    where
      by_rest : ((z : Plan Object Cell Report) → plan (rulebook p) s (rule_of (f (look s o))) ≡ Some z → Went z)
          → (x : Option (Plan Object Cell Report)) → plan (rulebook p) s (rule_of (f (look s o))) ≡ x → with_read o x ≡ Some y → Went y
      by_rest ih None d g = absurd (none-some _ g)
      by_rest ih (Some z) d g = let w = ih z d in subst Went (same_Some _ _ g) (record { queues = w.queues; written = w.written })

  -- what was written has changed
  all_changed : (cells : List Cell) → AllByRecursion (Written s) cells
      → (o : Object) → In o (map object_of cells) → look (fold put s cells) o ≡ look s o → ⊥
  all_changed cells h o i q =
      (settled (Written s) o s cells h (inl i)).0 (ap (look s) (name-look (fold put s cells) o) ∙ sym q)

  pub stepped_queues : (t : State) (n : Note Object Report) → (machine p).step s e ≡ Some (t, n) → SoundQueues s → SoundQueues t
  stepped_queues t n h q = by_plan (plan (rulebook p) s (rule_of (attempt p e))) refl h
    where
      by_plan : (x : Option (Plan Object Cell Report)) → plan (rulebook p) s (rule_of (attempt p e)) ≡ x
          → carried (rulebook p) s x ≡ Some (t, n) → SoundQueues t
      by_plan None d g = absurd (none-some _ g)
      by_plan (Some y) d g =
          let w = went (attempt p e) y (by_run s.run refl) d in
          subst (λ (r : State × Note Object Report). SoundQueues r.0) (same_Some _ _ g) (queues_after s y.cells w.written q)

  pub stepped : (t : State) (n : Note Object Report) → (machine p).step s e ≡ Some (t, n) → SoundWaits t × ((o : Object) → In o n.writes → look t o ≡ look s o → ⊥)
  stepped t n h = by_plan (plan (rulebook p) s (rule_of (attempt p e))) refl h
    where
      by_plan : (x : Option (Plan Object Cell Report)) → plan (rulebook p) s (rule_of (attempt p e)) ≡ x → carried (rulebook p) s x ≡ Some (t, n)
          → SoundWaits t × ((o : Object) → In o n.writes → look t o ≡ look s o → ⊥)
      by_plan None d g = absurd (none-some _ g)
      by_plan (Some y) d g =
          let w = went (attempt p e) y (by_run s.run refl) d in
          subst (λ (r : State × Note Object Report). SoundWaits r.0 × ((o : Object) → In o r.1.writes → look r.0 o ≡ look s o → ⊥)) (same_Some _ _ g) (w.queues, all_changed y.cells w.written)

module _ (p : Program) where
  -- nobody waits at the start
  start_calm : (n : List ℕ) → waits_at ((start p).goroutines n) ≡ []
  start_calm n = by_name (same_go n []) (call_of p (main_of p) [])
    where
      by_name : (b : Bool) (x : Outcome Frame) → waits_at (if b then started_in x else None) ≡ []
      by_name true (gives f) = refl
      by_name true (faults e) = refl
      by_name true wrong = refl
      by_name false x = refl

  start_waits : SoundWaits (start p)
  start_waits n w = ((λ i. absurd (subst (In w) (start_calm n) i)), (λ st. absurd st))

  -- what holds of every state of a run
  record Holds (s : State) : Type 0 where
    sound : Sound s
    waits : SoundWaits s
    queues : SoundQueues s

  along : (s t : State) (log : List (StepOf (machine p))) → Holds s → Path (machine p) s log t → Holds t
  along s t [] h q = subst Holds q h
  along s t (r ∷ log) h q =
      along q.0 t log (record {
        sound = after_sound p s h.sound r.event q.0 r.note q.1.does;
        waits = (stepped p s h.sound h.waits r.event q.0 r.note q.1.does).0;
        queues = stepped_queues p s h.sound h.waits r.event q.0 r.note q.1.does h.queues;
      }) q.2

  all_hold : (t : State) (log : List (StepOf (machine p))) → IsLog (machine p) (start p) log t → Holds t
  all_hold t log l =
      along (start p) t log (record { sound = started_sound p; waits = start_waits; queues = λ c. tt }) (path_of (machine p) (start p) log t l)

  pub reached_waits : (t : State) (log : List (StepOf (machine p))) → IsLog (machine p) (start p) log t → SoundWaits t
  reached_waits t log l = (all_hold t log l).waits

  pub reached_queues : (t : State) (log : List (StepOf (machine p))) → IsLog (machine p) (start p) log t → SoundQueues t
  reached_queues t log l = (all_hold t log l).queues

  pub reached_writes : (t u : State) (log : List (StepOf (machine p))) (e : Event) (n : Note Object Report) → IsLog (machine p) (start p) log t → (machine p).step t e ≡ Some (u, n)
      → (o : Object) → In o n.writes ↔ (look u o ≡ look t o → ⊥)
  reached_writes t u log e n l h o =
      let b = all_hold t log l in (
        λ i. (stepped p t b.sound b.waits e u n h).1 o i,
        λ k. elim (known_object o n.writes) [ inl i ↦ i | inr z ↦ absurd (k ((machine_laws p).only_writes t u e n h o z)) ],
      )
