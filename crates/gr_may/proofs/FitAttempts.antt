-- Attempts at a step from a state that bounds cover: what they write is within the bounds, and so is what they do with a channel.
use Rattle.std.proofs.Common.{◌≡◌, ℕ, ◌+◌, ◌%◌, ◌==◌, Bool, true, false, if◌then◌else◌, List, [], ◌∷◌, ◌++◌, filter, Option, Some, None, option_map, refl, sym, subst, inl, inr}
use Rattle.std.specs.Prelude.{option_and_then}
use Rattle.gr_base.specs.declared.names.ChName.{ChName}
use Rattle.gr_base.specs.declared.values.Value.{Value}
use Rattle.gr_base.specs.declared.kinds.Fault.{Fault}
use Rattle.gr_base.specs.declared.kinds.Kind.{Kind}
use Rattle.gr_base.specs.declared.kinds.Kind.TheVariants as kinds
use Rattle.gr_base.specs.declared.objects.Object.{Object}
use Rattle.gr_causal.specs.Sequences.{In}
use Rattle.gr_channels.specs.declared.waiter.Waiter.{Waiter}
use Rattle.gr_channels.specs.Objects.{GateContent}
use Rattle.gr_program.specs.Programs.{Program}
use Rattle.gr_rules.specs.Outcomes.{Outcome, gives, faults, wrong, ◌>>=◌}
use Rattle.gr_rules.specs.Frames.{Frame}
use Rattle.gr_rules.specs.Deeds.{past}
use Rattle.gr_rules.specs.Goroutines.{Wait, Status, ready, waiting, finished, Goroutine}
use Rattle.gr_rules.specs.States.{Cell, run_has, go_has, gate_has, tail_has, head_has, slot_has, State, look}
use Rattle.gr_rules.specs.Attempts.{Refusal, Operation, Attempt, refuse, perform, ask, if_there, ask_gate, room_for, ask_room, ask_item}
use Rattle.gr_rules.specs.Actors.{Actor, onward, does, fault, given as given_by, if_gives, without, if_waiting, ask_waiter, ask_withdrawn, met, ask_met}
use Rattle.gr_may.specs.Uses.{Use, Usage, Shared}
use Rattle.gr_may.specs.Covers.{AwaitsResultOf, ReturnsTo, FrameFits, FramesFit, StatusFits, GoFits, Covers}
use Rattle.gr_may.specs.MayStill.{use_of}
use Rattle.gr_may.proofs.Given.{IfGives, given, faulty, stray}
use Rattle.gr_may.proofs.FitValues.{GotFits}
use Rattle.gr_may.proofs.FitFrames.{On, past_on}

-- whoever receives what these offer may use it in every way
abbrev pub QueueFits : Usage → List (Waiter Value) → Type 0
QueueFits usage ws = (w : Waiter Value) → In w ws → Shared usage w.value

in_filter : {A : Type 0} (test : A → Bool) (x : A) (xs : List A) → In x (filter test xs) → In x xs
in_filter test x [] i = i
in_filter test x (y ∷ ys) i = by_test (test y) (in_filter test x ys) i
  where
    by_test : (b : Bool) → (In x (filter test ys) → In x ys) → In x (if b then y ∷ filter test ys else filter test ys) → In x (y ∷ ys)
    by_test true k (inl e) = inl e
    by_test true k (inr j) = inr (k j)
    by_test false k j = inr (k j)

pub without_fits : (usage : Usage) (names : List (List ℕ)) (gate : GateContent) → QueueFits usage gate.senders → QueueFits usage (without names gate).senders
without_fits usage [] gate q = q
without_fits usage (name ∷ names) gate q = without_fits usage names _ (λ w i. q w (in_filter _ w gate.senders i))

pub returns_same : (f g : Frame) (fs : List Frame) → g.function ≡ f.function → ReturnsTo f fs → ReturnsTo g fs
returns_same f g [] e r = tt
returns_same f g (h ∷ hs) e r = subst (λ k. AwaitsResultOf k h) (sym e) r

module _ (p : Program) (usage : Usage) where
  abbrev pub CellFits : Cell → Type 0
  CellFits (run_has r) = Unit {0}
  CellFits (go_has n None) = ⊥
  CellFits (go_has n (Some g)) = GoFits p usage n g
  CellFits (gate_has c None) = ⊥
  CellFits (gate_has c (Some gate)) = QueueFits usage gate.senders
  CellFits (tail_has c k) = Unit {0}
  CellFits (head_has c k) = Unit {0}
  CellFits (slot_has c i None) = Unit {0}
  CellFits (slot_has c i (Some item)) = Shared usage item.1

  abbrev pub CellsFit : List Cell → Type 0
  CellsFit [] = Unit {0}
  CellsFit (x ∷ xs) = CellFits x × CellsFit xs

  pub cells_join : (xs ys : List Cell) → CellsFit xs → CellsFit ys → CellsFit (xs ++ ys)
  cells_join [] ys h k = k
  cells_join (x ∷ xs) ys h k = (h.0, cells_join xs ys h.1 k)

  abbrev pub UseFits : List ℕ → Option (ChName × Use) → Type 0
  UseFits n o = elim o [ Some cu ↦ usage.permits n cu.0 cu.1 ≡ true | None ↦ Unit {0} ]

  -- the goroutine may do it with the channel
  abbrev pub OperationFits : List ℕ → Option Operation → Type 0
  OperationFits n o = UseFits n (option_and_then use_of o)

module _ (p : Program) (usage : Usage) (s : State) (n : List ℕ) where
  -- the goroutine that it starts is not there yet
  abbrev pub Begins : Kind → Type 0
  Begins kind = elim kind [ kinds.Go ↦ ((g : Goroutine) → s.goroutines n ≡ Some g → s.goroutines (n ++ (g.children + 1) ∷ []) ≡ None) | _ ↦ Unit {0} ]

  abbrev pub Keeps : Attempt → Type 0
  Keeps (refuse r) = Unit {0}
  Keeps (perform report cells) = Begins report.deed × OperationFits p usage n report.operation × CellsFit p usage cells
  Keeps (ask o f) = Keeps (f (look s o))

  pub record K (x : Attempt) : Type 0 where
    pub keeps : Keeps x

  pub refused : {r : Refusal} → K (refuse r)
  refused = record { keeps = tt }

  pub asked : {o : Object} {f : Cell → Attempt} → K (f (look s o)) → K (ask o f)
  asked h = record { keeps = h.keeps }

  pub if_keeps : (b : Bool) {x y : Attempt} → K x → K y → K (if b then x else y)
  if_keeps true h k = h
  if_keeps false h k = k

  module _ (covers : Covers p usage s) where
    pub gate_keeps : {c : ChName} {k : GateContent → Attempt} → ((gate : GateContent) → QueueFits usage gate.senders → K (k gate)) → K (ask_gate c k)
    gate_keeps {c} {k} h = asked (by_gate (s.gates c) refl)
      where
        by_gate : (x : Option GateContent) → s.gates c ≡ x → K (if_there k x)
        by_gate None at = refused
        by_gate (Some gate) at = h gate (covers.queued c gate at)

    pub room_keeps : (c : ChName) (gate : GateContent) (k : Option ℕ → Attempt) → K (k None) → ((i : ℕ) → K (k (Some i))) → K (ask_room c gate k)
    room_keeps c gate k none some = asked (if_keeps (gate.capacity == 0) none (asked (by_slot (s.slots c (s.tails c % gate.capacity)))))
      where
        by_slot : (x : Option (ℕ × Value)) → K (k (room_for (s.tails c) x))
        by_slot None = some (s.tails c)
        by_slot (Some x) = none

    pub item_keeps : (c : ChName) (gate : GateContent) (k : Option (ℕ × Value) → Attempt)
        → K (k None) → ((i : ℕ) (v : Value) → Shared usage v → K (k (Some (i, v)))) → K (ask_item c gate k)
    item_keeps c gate k none some = asked (if_keeps (gate.capacity == 0) none (asked (by_slot (s.slots c (s.heads c % gate.capacity)) refl)))
      where
        by_slot : (x : Option (ℕ × Value)) → s.slots c (s.heads c % gate.capacity) ≡ x → K (k (option_map (λ (x : ℕ × Value). (s.heads c, x.1)) x))
        by_slot None e = none
        by_slot (Some x) e = some (s.heads c) x.1 (covers.buffered c (s.heads c % gate.capacity) x.0 x.1 e)

    pub waiter_keeps : (m : List ℕ) (k : Goroutine → List Wait → Attempt) → ((g : Goroutine) (ws : List Wait) → GoFits p usage m g → K (k g ws)) → K (ask_waiter m k)
    waiter_keeps m k h = asked (by_go (s.goroutines m) refl)
      where
        by_status : (g : Goroutine) (status : Status) → GoFits p usage m g → K (if_waiting (k g) status)
        by_status g ready f = refused
        by_status g (waiting ws) f = h g ws f
        by_status g finished f = refused

        by_go : (x : Option Goroutine) → s.goroutines m ≡ x → K (if_there (λ g. if_waiting (k g) g.status) x)
        by_go None at = refused
        by_go (Some g) at = by_status g g.status (covers.goroutines m g at)

    pub withdrawn_keeps : (names : List (List ℕ)) (cs : List ChName) (k : List Cell → Attempt)
        → ((cells : List Cell) → CellsFit p usage cells → K (k cells)) → K (ask_withdrawn names cs k)
    withdrawn_keeps names [] k h = h [] tt
    withdrawn_keeps names (c ∷ cs) k h = gate_keeps (λ gate q.
        withdrawn_keeps names cs (λ cells. k (gate_has c (Some (without names gate)) ∷ cells)) (λ cells f. h _ (without_fits usage names gate q, f)))

    past_keeps : (m : List ℕ) (clause : Option ℕ) (got : Option (Value × Bool)) (g : Goroutine) (fs : List Frame) (k : Goroutine → Attempt)
        → GotFits usage got → FramesFit p usage m fs
        → ((after : List Frame) → FramesFit p usage m after → K (k (record g { status = ready; frames = after }))) → K (if_gives k (met clause got g fs))
    past_keeps m clause got g [] k s f h = refused
    past_keeps m clause got g (f ∷ fs) k s fits h = by_past (past f clause got) (past_on p usage m f fits.0 clause got s)
      where
        by_past : (x : Outcome Frame) → IfGives (On p usage m f) x → K (if_gives k (x >>= λ f. gives (record g { status = ready; frames = f ∷ fs })))
        by_past (gives next) (given on) = h (next ∷ fs) (on.fits, returns_same f next fs on.same fits.1, fits.2)
        by_past (faults e) o = refused
        by_past wrong o = refused

    pub met_keeps : {X : Type 0} (c : ChName) (w : Waiter X) (got : Option (Value × Bool)) (k : List Cell → Attempt)
        → GotFits usage got → ((cells : List Cell) → CellsFit p usage cells → K (k cells)) → K (ask_met c w got k)
    met_keeps c w got k s h = waiter_keeps w.go _ (λ g ws fits.
        withdrawn_keeps (w.go ∷ []) _ _ (λ cells o.
        past_keeps w.go w.case got g g.frames _ s fits.frames (λ after f. h _ (record { frames = f; status = tt }, o))))

-- the goroutine that acts, within the bounds
pub record Acts (usage : Usage) (s : State) (a : Actor) : Type 0 where
  pub covers : Covers a.program usage s
  pub at : s.goroutines a.name ≡ Some a.before
  pub stands : a.before.frames ≡ a.frame ∷ a.below
  pub status : StatusFits usage a.name a.before.status
  pub frame : FrameFits a.program usage a.name a.frame
  pub returns : ReturnsTo a.frame a.below
  pub below : FramesFit a.program usage a.name a.below

module _ (usage : Usage) (s : State) (a : Actor) (acts : Acts usage s a) where
  abbrev pub G : Attempt → Type 0
  G x = K a.program usage s a.name x

  pub all_frames : FramesFit a.program usage a.name a.before.frames
  all_frames = subst (FramesFit a.program usage a.name) (sym acts.stands) (acts.frame, acts.returns, acts.below)

  pub onward_fits : (f : Frame) → On a.program usage a.name a.frame f → GoFits a.program usage a.name (onward a f)
  onward_fits f on = record { frames = (on.fits, returns_same a.frame f a.below on.same acts.returns, acts.below); status = acts.status }

  pub does_keeps : {clause : Option ℕ} {operation : Option Operation} {kind : Kind} {g : Goroutine} {cells : List Cell}
      → Begins a.program usage s a.name kind → OperationFits a.program usage a.name operation → GoFits a.program usage a.name g
      → CellsFit a.program usage cells → G (does a clause operation kind g cells)
  does_keeps b o g cells = record { keeps = (b, o, (g, cells)) }

  pub fault_keeps : (operation : Option Operation) (e : Fault) → OperationFits a.program usage a.name operation → G (fault a operation e)
  fault_keeps operation e o = does_keeps {kind = kinds.Fault e} tt o (record { frames = all_frames; status = acts.status }) (tt, tt)

  pub given_keeps : {A : Type 0} {P : A → Type 0} {o : Outcome A} {k : A → Attempt} → IfGives P o → ((x : A) → P x → G (k x)) → G (given_by a o k)
  given_keeps (given {a = x} h) k = k x h
  given_keeps faulty k = fault_keeps None _ tt
  given_keeps stray k = refused a.program usage s a.name
