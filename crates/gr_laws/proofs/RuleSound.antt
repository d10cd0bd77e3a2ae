-- Each rule leaves a sound state sound. The crates above use this too: of one step, and of a run.
use Rattle.std.proofs.Common.{fold, ◌≡◌, ℕ, ℤ, pos, negsuc, ◌+◌, ◌-◌, ◌^◌, nat_le, arith, false, List, [], ◌∷◌, ◌++◌, length, Option, Some, None, refl, sym, ◌∙◌, ap, subst, inl, inr}
use Rattle.gr_base.specs.declared.names.ChName.{ChName}
use Rattle.gr_base.specs.declared.values.Value.{Value}
use Rattle.gr_base.specs.declared.values.Value.TheVariants as values
use Rattle.gr_base.specs.declared.events.Choice.{Choice}
use Rattle.gr_base.specs.declared.events.Choice.TheVariants as choices
use Rattle.gr_base.specs.declared.events.Event.{Event}
use Rattle.gr_base.specs.declared.kinds.Fault.TheVariants.{BadSize, CallDepth, NameDepth, NameCount}
use Rattle.gr_base.specs.declared.kinds.Kind.TheVariants as kinds
use Rattle.gr_base.specs.declared.objects.Object.{Object}
use Rattle.gr_causal.specs.Rules.{Plan, Note, plan, carried, with_read}
use Rattle.gr_causal.specs.Machine.{StepOf, IsLog}
use Rattle.std.proofs.lemmas.Bool.{cases_Bool}
use Rattle.std.proofs.lemmas.Option.{none-some, same_Some}
use Rattle.gr_causal.proofs.PathLemmas.{Path, path_of}
use Rattle.gr_program.specs.Programs.{Program}
use Rattle.gr_rules.specs.Outcomes.{Outcome, gives, faults, wrong}
use Rattle.gr_rules.specs.Operators.{same_channel}
use Rattle.gr_rules.specs.Frames.{Frame, goes_on}
use Rattle.gr_rules.specs.Deeds.{Deed, Moves, Prints, Enters, Leaves, Starts, Makes, TakesLen, TakesCap, Closes, Communicates, Chooses, deed, resumed}
use Rattle.gr_rules.specs.Goroutines.{Status, ready, waiting, finished, Goroutine, started}
use Rattle.gr_rules.specs.States.{Run, live, ended, faulted, Cell, go_has, gate_has, State, same_go, look, updated, put, call_of, start}
use Rattle.gr_rules.specs.Attempts.{Operation, takes_len_of, takes_cap_of, Report, Attempt, refuse, perform, ask, rule_of, ask_go}
use Rattle.gr_rules.specs.Actors.{Actor, onward, simply, given}
use Rattle.gr_laws.specs.Soundness.{SoundBuffer, EmptyBuffer, SoundChannel, made_by, Sound}
use Rattle.gr_rules.specs.Steps.{enter, finish, leave, child, if_absent, go, new_channel, make, counted, take_len, take_cap, print, act, act_by, act_in, if_ready, if_known, if_live, attempt, rulebook, machine}
use Rattle.gr_laws.proofs.CellLemmas.{go_self, channel_is, updated_here}
use Rattle.gr_laws.proofs.BufferLemmas.{fresh}
use Rattle.gr_laws.proofs.SoundLemmas.{sound_from, Keeps, K, refused, asked, if_keeps, gate_keeps, Any, does_keeps, fault_keeps, given_keeps}
use Rattle.gr_laws.proofs.SoundCommunications.{mine, from_mine, alone_keeps, close_keeps}
use Rattle.gr_laws.proofs.SoundSelects.{choose_keeps}

module _ (s : State) (sound : Sound s) (a : Actor) (here : s.goroutines a.name ≡ Some a.before) where
  abbrev G : Attempt → Type 0
  G = K s sound

  enter_keeps : (function : ℕ) (vs : List Value) → G (enter a function vs)
  enter_keeps function vs = if_keeps s sound (nat_le 1000 (length a.before.frames)) (λ e. fault_keeps s sound a here None CallDepth)
      (λ e. given_keeps s sound a here (call_of a.program function vs) (λ f. does_keeps s sound a here (omega arith) tt))

  finish_keeps : (name : List ℕ) → G (finish a name)
  finish_keeps [] = does_keeps s sound a here (omega arith) tt
  finish_keeps (n ∷ ns) = does_keeps s sound a here (omega arith) tt

  leave_keeps : (v : Value) (fs : List Frame) → G (leave a v fs)
  leave_keeps v [] = finish_keeps a.name
  leave_keeps v (f ∷ fs) = given_keeps s sound a here (resumed f v) (λ f. does_keeps s sound a here (omega arith) tt)

  none_made : (n : List ℕ) → s.goroutines n ≡ None → made_by (s.goroutines n) ≡ 0
  none_made n e = ap made_by e

  go_keeps : (function : ℕ) (vs : List Value) → G (go a function vs)
  go_keeps function vs = if_keeps s sound (nat_le 32 (length a.name)) (λ e. fault_keeps s sound a here None NameDepth)
      (λ e. if_keeps s sound (nat_le (2 ^ 32 - 1) a.before.children) (λ e. fault_keeps s sound a here None NameCount) (λ e. asked s sound (by_child (s.goroutines (child a)) refl)))
    where
      by_child : (x : Option Goroutine) → s.goroutines (child a) ≡ x → G (if_absent (given a (call_of a.program function vs) (λ f.
          simply a kinds.Go (record (onward a (goes_on a.frame)) { children = a.before.children + 1 }) (go_has (child a) (Some (started f)) ∷ []))) x)
      by_child None e = let z = none_made (child a) e in given_keeps s sound a here (call_of a.program function vs) (λ f. does_keeps s sound a here (omega arith) (omega arith, tt))
      by_child (Some g) e = refused s sound

  -- a channel of a name that none has yet
  made_anew : (n : ℕ) (g : Goroutine) → g.channels ≡ a.before.channels + 1 → Sound (put (mine s a g) (gate_has (new_channel a) (Some (record { capacity = n; closed = false; senders = []; receivers = [] }))))
  made_anew n g more =
      let count : made_by (s.goroutines a.name) ≡ a.before.channels = ap made_by here in
      let f = from_mine s sound a here (Any s sound a here) g (omega arith) in
      let none : s.gates (new_channel a) ≡ None = sound.named (new_channel a) (omega arith) in
      let empty : EmptyBuffer (s.heads (new_channel a)) (s.tails (new_channel a)) (s.slots (new_channel a))
      = subst (λ x. SoundChannel x (s.heads (new_channel a)) (s.tails (new_channel a)) (s.slots (new_channel a))) none (sound.channels (new_channel a)) in
      record {
        channels = λ d. elim (cases_Bool (same_channel d (new_channel a))) [
          | inl e ↦ rw e (subst (λ d. SoundBuffer (record { capacity = n; closed = false; senders = []; receivers = [] }) (s.heads d) (s.tails d) (s.slots d)) (sym (channel_is d (new_channel a) e)) (fresh n empty))
          | inr e ↦ rw e (sound.channels d)
        ];
        named = λ d l. elim (cases_Bool (same_channel d (new_channel a))) [
          | inl e ↦
              let name : d.go ≡ a.name = ap (λ (x : ChName). x.go) (channel_is d (new_channel a) e) in
              let number : d.n ≡ a.before.channels + 1 = ap (λ (x : ChName). x.n) (channel_is d (new_channel a) e) in
              let now : made_by (updated same_go s.goroutines a.name (Some g) d.go) ≡ g.channels
              = ap (λ m. made_by (updated same_go s.goroutines a.name (Some g) m)) name ∙ ap made_by (updated_here same_go go_self s.goroutines a.name (Some g)) in
              absurd (omega arith)
          | inr e ↦ rw e (sound.named d (let k = f.counts d.go in omega arith))
        ];
      }

  make_keeps : (n : ℤ) → G (make a n)
  make_keeps (negsuc n) = fault_keeps s sound a here None BadSize
  make_keeps (pos n) = if_keeps s sound (nat_le 1000001 n) (λ e. fault_keeps s sound a here None BadSize)
      (λ e. if_keeps s sound (nat_le (2 ^ 32 - 1) a.before.channels) (λ e. fault_keeps s sound a here None NameCount)
      (λ e. given_keeps s sound a here (resumed a.frame (values.Chan (Some (new_channel a))))
      (λ f. record { keeps = made_anew n (record (onward a f) { channels = a.before.channels + 1 }) refl })))

  counted_keeps : (operation : Option Operation) (n : ℕ) → G (counted a operation n)
  counted_keeps operation n = given_keeps s sound a here (resumed a.frame (values.Int (pos n))) (λ f. does_keeps s sound a here (omega arith) tt)

  len_keeps : (c : Option ChName) → G (take_len a c)
  len_keeps None = counted_keeps None 0
  len_keeps (Some c) = gate_keeps s sound (λ gate at. asked s sound (asked s sound (counted_keeps (Some (takes_len_of c)) (s.tails c - s.heads c))))

  cap_keeps : (c : Option ChName) → G (take_cap a c)
  cap_keeps None = counted_keeps None 0
  cap_keeps (Some c) = gate_keeps s sound (λ gate at. counted_keeps (Some (takes_cap_of c)) gate.capacity)

  print_keeps : (line : List ℕ) → G (print a line)
  print_keeps line = record {
    keeps = sound_from s (Any s sound a here) sound _ (from_mine s sound a here (Any s sound a here) (record (onward a (goes_on a.frame)) { text = a.before.text ++ line ∷ [] }) (omega arith));
  }

  act_keeps : (d : Deed) → G (act a d)
  act_keeps (Moves f) = does_keeps s sound a here (omega arith) tt
  act_keeps (Prints line) = print_keeps line
  act_keeps (Enters function vs) = enter_keeps function vs
  act_keeps (Leaves v) = leave_keeps v a.below
  act_keeps (Starts function vs) = go_keeps function vs
  act_keeps (Makes n) = make_keeps n
  act_keeps (TakesLen c) = len_keeps c
  act_keeps (TakesCap c) = cap_keeps c
  act_keeps (Closes c) = close_keeps s sound a here c
  act_keeps (Communicates c) = alone_keeps s sound a here c
  act_keeps (Chooses cs) = refused s sound

  plain_keeps : (choice : Choice) (d : Deed) → G (act_by a choice (gives d))
  plain_keeps choice (Chooses cs) = choose_keeps s sound a here cs choice
  plain_keeps choices.Plain d = act_keeps d
  plain_keeps _ d = refused s sound

  by_keeps : (choice : Choice) (d : Outcome Deed) → G (act_by a choice d)
  by_keeps choice (gives d) = plain_keeps choice d
  by_keeps choices.Plain (faults e) = fault_keeps s sound a here None e
  by_keeps choices.Plain wrong = refused s sound
  by_keeps _ (faults e) = refused s sound
  by_keeps _ wrong = refused s sound

module _ (p : Program) (s : State) (sound : Sound s) (e : Event) where
  ready_frames : (g : Goroutine) (fs : List Frame) → s.goroutines e.go ≡ Some g → Keeps s sound (act_in p e g fs)
  ready_frames g [] h = tt
  ready_frames g (f ∷ fs) h =
      let a : Actor = record { program = p; name = e.go; before = g; frame = f; below = fs } in
      (by_keeps s sound a h e.choice (deed f)).keeps

  by_status : (g : Goroutine) (x : Status) → s.goroutines e.go ≡ Some g → Keeps s sound (if_ready p e g x)
  by_status g finished h = tt
  by_status g (waiting ws) h = tt
  by_status g ready h = ready_frames g g.frames h

  by_known : (x : Option Goroutine) → s.goroutines e.go ≡ x → Keeps s sound (if_known p e x)
  by_known None h = tt
  by_known (Some g) h = by_status g g.status h

  by_run : (r : Run) → Keeps s sound (if_live (ask_go e.go (if_known p e)) r)
  by_run live = by_known (s.goroutines e.go) refl
  by_run ended = tt
  by_run (faulted f) = tt

  -- where an attempt that keeps the state sound leads
  went : (x : Attempt) (y : Plan Object Cell Report) → Keeps s sound x → plan (rulebook p) s (rule_of x) ≡ Some y → Sound (fold put s y.cells)
  went (refuse r) y c h = absurd (none-some _ h)
  went (perform report cells) y c h = subst (λ (y : Plan Object Cell Report). Sound (fold put s y.cells)) (same_Some _ _ h) c
  went (ask o f) y c h = by_rest (λ z. went (f (look s o)) z c) (plan (rulebook p) s (rule_of (f (look s o)))) refl h
    where
      by_rest : ((z : Plan Object Cell Report) → plan (rulebook p) s (rule_of (f (look s o))) ≡ Some z → Sound (fold put s z.cells))
          → (x : Option (Plan Object Cell Report)) → plan (rulebook p) s (rule_of (f (look s o))) ≡ x → with_read o x ≡ Some y → Sound (fold put s y.cells)
      by_rest ih None d g = absurd (none-some _ g)
      by_rest ih (Some z) d g = subst (λ (y : Plan Object Cell Report). Sound (fold put s y.cells)) (same_Some _ _ g) (ih z d)

  pub after_sound : (t : State) (n : Note Object Report) → (machine p).step s e ≡ Some (t, n) → Sound t
  after_sound t n h = by_plan (plan (rulebook p) s (rule_of (attempt p e))) refl h
    where
      by_plan : (x : Option (Plan Object Cell Report)) → plan (rulebook p) s (rule_of (attempt p e)) ≡ x → carried (rulebook p) s x ≡ Some (t, n) → Sound t
      by_plan None d g = absurd (none-some _ g)
      by_plan (Some y) d g = subst (λ (r : State × Note Object Report). Sound r.0) (same_Some _ _ g) (went (attempt p e) y (by_run s.run) d)

module _ (p : Program) where
  pub started_sound : Sound (start p)
  started_sound = record { channels = λ c. record { none_left = refl; none_entered = refl; none_held = λ i. refl }; named = λ c l. refl }

  along : (s t : State) (log : List (StepOf (machine p))) → Sound s → Path (machine p) s log t → Sound t
  along s t [] h w = subst Sound w h
  along s t (r ∷ log) h w = along w.0 t log (after_sound p s h r.event w.0 r.note w.1.does) w.2

  pub reached_sound : (t : State) (log : List (StepOf (machine p))) → IsLog (machine p) (start p) log t → Sound t
  reached_sound t log l = along (start p) t log started_sound (path_of (machine p) (start p) log t l)
