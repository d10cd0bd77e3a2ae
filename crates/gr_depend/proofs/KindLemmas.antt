-- What a step gives values, by the instruction at which its goroutine stands, and whether it is a fault.
use Rattle.std.proofs.Common.{◌≡◌, ℕ, Bool, true, false, List, [], ◌∷◌, map, slice_get, Option, Some, None, option_map, refl, sym, ap, ◌∙◌}
use Rattle.std.specs.Prelude.{length, replicate, if◌then◌else◌}
use Rattle.gr_base.specs.declared.values.Value.{Value}
use Rattle.gr_base.specs.declared.events.Choice.{Choice}
use Rattle.gr_base.specs.declared.events.Choice.TheVariants as choices
use Rattle.gr_base.specs.declared.events.Event.{Event}
use Rattle.gr_base.specs.declared.kinds.Fault.{Fault}
use Rattle.gr_base.specs.declared.kinds.Fault.TheVariants.{CallDepth}
use Rattle.gr_base.specs.declared.kinds.Kind.TheVariants as kinds
use Rattle.gr_program.specs.Programs.{Function, FunctionIs, Program, ProgramIs}
use Rattle.gr_rules.specs.Assigned.{given_by}
use Rattle.gr_rules.specs.Outcomes.{Outcome, gives, faults, wrong, ◌>>=◌}
use Rattle.gr_rules.specs.Evaluation.{Variables}
use Rattle.gr_rules.specs.Frames.{Frame, variable_of, written, assigned, called}
use Rattle.gr_rules.specs.Points.{closing, onto, point_after}
use Rattle.gr_rules.specs.Deeds.{Deed, Moves, Prints, Enters, Leaves, Starts, Makes, TakesLen, TakesCap, Closes, Communicates, Chooses, deed}
use Rattle.gr_rules.specs.Goroutines.{Status, ready, waiting, finished, Goroutine}
use Rattle.gr_rules.specs.States.{Run, live, ended, faulted, Cell, State, call_of}
use Rattle.gr_rules.specs.Attempts.{Refusal, Report, kind_of, Attempt, ask_go}
use Rattle.gr_rules.specs.Actors.{Actor, with_frames, simply, fault, given}
use Rattle.gr_rules.specs.Steps.{is_deepest, act_by, act_in, if_ready, if_known, if_live, attempt}
use Rattle.gr_code.specs.Code.{Meanings}
use Rattle.gr_code.specs.CodeFrames.{ProgramCode, CodeFrame, instruction_at}
use Rattle.gr_code.specs.Goroutines.{CodeGoroutine}
use Rattle.gr_code.specs.Instructions.{Instruction}
use Rattle.gr_code.specs.Programs.{ProgramFits, Stands, frame_of}
use Rattle.gr_refine.specs.Contents.{Contents, goroutine_of, state_of}
use Rattle.gr_refine.specs.Attempting.{IsUp}
use Rattle.gr_refine.specs.Leaves.{refused, performed, leaf}
use Rattle.gr_refine.proofs.LookLemmas.{attempt_at_frames}
use Rattle.gr_depend.specs.Given.{given_at}
use Rattle.gr_depend.specs.Histories.{is_fault}
use Rattle.gr_depend.proofs.InstructionLemmas.{given_by_instruction}

-- what is refused is not performed
refused_not : {P : Type 0} → (why : Refusal) (r : Report) (cells : List Cell) → refused why ≡ performed r cells → P
refused_not why r cells e = absurd (let none : refused why ≡ performed r cells = e in cc)

kind_is : (a r : Report) (xs ys : List Cell) → performed a xs ≡ performed r ys → kind_of a ≡ kind_of r
kind_is a r xs ys e = ap kind_of (let all : performed a xs ≡ performed r ys = e in let same : a ≡ r = cc in same)

-- a step is of a goroutine that is up
module _ (frame : CodeFrame → Frame) (s : Contents) (p : Program) (e : Event) (r : Report) (cells : List Cell) where
  abbrev t : State
  t = state_of frame s

  is_live : (a : Attempt) (run : Run) → leaf t (if_live a run) ≡ performed r cells → run ≡ live
  is_live a live ends = refl
  is_live a ended ends = refused_not _ r cells ends
  is_live a (faulted x) ends = refused_not _ r cells ends

  is_known : (o : Option CodeGoroutine) → leaf t (if_known p e (option_map (goroutine_of frame) o)) ≡ performed r cells → (g : CodeGoroutine) × (o ≡ Some g)
  is_known (Some g) ends = (g, refl)
  is_known None ends = refused_not _ r cells ends

  is_ready : (g : Goroutine) (status : Status) → leaf t (if_ready p e g status) ≡ performed r cells → status ≡ ready
  is_ready g ready ends = refl
  is_ready g finished ends = refused_not _ r cells ends
  is_ready g (waiting ws) ends = refused_not _ r cells ends

  has_frame : (g : Goroutine) (fs : List CodeFrame) → leaf t (act_in p e g (map frame fs)) ≡ performed r cells
      → (f : CodeFrame) × (below : List CodeFrame) × (fs ≡ f ∷ below)
  has_frame g [] ends = refused_not _ r cells ends
  has_frame g (f ∷ below) ends = (f, below, refl)

  pub is_up : leaf t (attempt p e) ≡ performed r cells → (g : CodeGoroutine) × (f : CodeFrame) × (below : List CodeFrame) × IsUp s e g f below
  is_up ends =
      let runs : s.run ≡ live = is_live (ask_go e.go (if_known p e)) s.run ends in
      let known_ends = sym (ap (λ run. leaf t (if_live (ask_go e.go (if_known p e)) run)) runs) ∙ ends in
      let known = is_known (s.goroutines e.go) known_ends in
      let ready_ends = sym (ap (λ (o : Option CodeGoroutine). leaf t (if_known p e (option_map (goroutine_of frame) o))) known.1) ∙ known_ends in
      let status : known.0.status ≡ ready = is_ready (goroutine_of frame known.0) known.0.status ready_ends in
      let frames = has_frame (goroutine_of frame known.0) known.0.frames (sym (attempt_at_frames frame s p e known.0 runs known.1 status) ∙ ends) in
      (known.0, frames.0, frames.1, record { runs = runs; there = known.1; is_ready = status; frames = frames.2 })

-- evaluation that only gives or is wrong
abbrev NoFault : {A : Type 0} → Outcome A → Type 0
NoFault o = elim o [ faults x ↦ ⊥ | _ ↦ Unit {0} ]

then_no_fault : {A B : Type 0} → (o : Outcome A) (k : A → Outcome B) → NoFault o → ((a : A) → NoFault (k a)) → NoFault (o >>= k)
then_no_fault (gives a) k h g = g a
then_no_fault (faults x) k h g = absurd h
then_no_fault wrong k h g = tt

written_no_fault : (o : Option (Option Value)) (k : ℕ) (v : Value) (held : Variables) → NoFault (written o k v held)
written_no_fault None k v held = tt
written_no_fault (Some old) k v held = tt

assigned_no_fault : (ks : List (Option ℕ)) (vs : List Value) (held : Variables) → NoFault (assigned ks vs held)
assigned_no_fault [] vs held = tt
assigned_no_fault (Some k ∷ ks) (v ∷ vs) held =
    then_no_fault (written (slice_get held k) k v held) (λ held. assigned ks vs held) (written_no_fault (slice_get held k) k v held)
    (λ held. assigned_no_fault ks vs held)
assigned_no_fault (None ∷ ks) (v ∷ vs) held = assigned_no_fault ks vs held
assigned_no_fault (Some k ∷ ks) [] held = tt
assigned_no_fault (None ∷ ks) [] held = tt

called_no_fault : (number : ℕ) (vs : List Value) (f : Function) → NoFault (called number vs f)
called_no_fault number vs (FunctionIs name parameters result variables body last) =
    let held : Outcome Variables = assigned (map variable_of parameters) vs (replicate (length variables) None) in
    let frame : Variables → Outcome Frame =
    λ held. gives (record { function = number; variables = held; point = point_after (onto body (closing last)) }) in
    then_no_fault held frame (assigned_no_fault (map variable_of parameters) vs (replicate (length variables) None)) (λ held. tt)

call_no_fault : (p : Program) (number : ℕ) (vs : List Value) → NoFault (call_of p number vs)
call_no_fault (ProgramIs functions main) number vs =
    elim (slice_get functions number) as (λ o. NoFault (elim o [ Some function ↦ called number vs function | None ↦ wrong ])) [
      | Some function ↦ called_no_fault number vs function
      | None ↦ tt
    ]

-- kinds of steps, by deeds
module _ (t : State) (a : Actor) (r : Report) (cells : List Cell) where
  moves_kind : (choice : Choice) (on : Frame) → leaf t (act_by a choice (gives (Moves on))) ≡ performed r cells → is_fault (kind_of r) ≡ false
  moves_kind choices.Plain on ends = ap is_fault (sym (kind_is _ r _ cells ends))
  moves_kind (choices.Pick i) on ends = refused_not _ r cells ends
  moves_kind choices.Default on ends = refused_not _ r cells ends
  moves_kind choices.Park on ends = refused_not _ r cells ends

  faults_kind : (choice : Choice) (x : Fault) → leaf t (act_by a choice (faults x)) ≡ performed r cells → is_fault (kind_of r) ≡ true
  faults_kind choices.Plain x ends = ap is_fault (sym (kind_is _ r _ cells ends))
  faults_kind (choices.Pick i) x ends = refused_not _ r cells ends
  faults_kind choices.Default x ends = refused_not _ r cells ends
  faults_kind choices.Park x ends = refused_not _ r cells ends

  no_wrong : {P : Type 0} → (choice : Choice) → leaf t (act_by a choice wrong) ≡ performed r cells → P
  no_wrong choices.Plain ends = refused_not _ r cells ends
  no_wrong (choices.Pick i) ends = refused_not _ r cells ends
  no_wrong choices.Default ends = refused_not _ r cells ends
  no_wrong choices.Park ends = refused_not _ r cells ends

  called_kind : (o : Outcome Frame) → NoFault o
      → leaf t (given a o (λ f. simply a kinds.Call (with_frames a (f ∷ a.before.frames)) [])) ≡ performed r cells → is_fault (kind_of r) ≡ false
  called_kind (gives f) none ends = ap is_fault (sym (kind_is _ r _ cells ends))
  called_kind (faults x) none ends = absurd none
  called_kind wrong none ends = refused_not _ r cells ends

  abbrev entering : Bool → ℕ → List Value → Attempt
  entering b function vs =
      if b
      then fault a None CallDepth
      else given a (call_of a.program function vs) (λ f. simply a kinds.Call (with_frames a (f ∷ a.before.frames)) [])

  entered_kind : (b : Bool) (function : ℕ) (vs : List Value) → leaf t (entering b function vs) ≡ performed r cells → is_fault (kind_of r) ≡ b
  entered_kind true function vs ends = ap is_fault (sym (kind_is _ r _ cells ends))
  entered_kind false function vs ends = called_kind (call_of a.program function vs) (call_no_fault a.program function vs) ends

  enters_kind : (choice : Choice) (function : ℕ) (vs : List Value) → leaf t (act_by a choice (gives (Enters function vs))) ≡ performed r cells
      → is_fault (kind_of r) ≡ is_deepest a.before.frames
  enters_kind choices.Plain function vs ends = entered_kind (is_deepest a.before.frames) function vs ends
  enters_kind (choices.Pick i) function vs ends = refused_not _ r cells ends
  enters_kind choices.Default function vs ends = refused_not _ r cells ends
  enters_kind choices.Park function vs ends = refused_not _ r cells ends

abbrev unless : Bool → List (List ℕ) → List (List ℕ)
unless b names = if b then [] else names

none_either_way : (b : Bool) (names : List (List ℕ)) → [] ≡ names → [] ≡ unless b names
none_either_way true names e = refl
none_either_way false names e = e

module _ (means : ℕ → Meanings) (p : Program) (code : ProgramCode) (f : CodeFrame) (i : Instruction) (fits : ProgramFits means p code)
    (stands : Stands means code f) (at : instruction_at code f ≡ Some i)
    (t : State) (a : Actor) (choice : Choice) (r : Report) (cells : List Cell) where
  abbrev names : List (List ℕ)
  names = given_at p f.function i

  abbrev F : Frame
  F = frame_of means code f

  -- with few frames
  alike : (d : Deed) → deed F ≡ gives d → given_by p [] F (gives d) ≡ names
  alike d is = given_by_instruction means p code f i [] d fits stands at refl is

  never : (d : Deed) → deed F ≡ gives d → given_by p [] F (gives d) ≡ [] → [] ≡ unless (is_fault (kind_of r)) names
  never d is none = none_either_way (is_fault (kind_of r)) names (sym none ∙ alike d is)

  entered_alike : (b : Bool) (function : ℕ) (vs : List Value) → is_deepest a.before.frames ≡ b → deed F ≡ gives (Enters function vs)
      → leaf t (act_by a choice (gives (Enters function vs))) ≡ performed r cells
      → given_by p a.before.frames F (gives (Enters function vs)) ≡ unless (is_fault (kind_of r)) names
  entered_alike true function vs deep is ends = rw (deep, enters_kind t a r cells choice function vs ends, deep) refl
  entered_alike false function vs deep is ends =
      given_by_instruction means p code f i a.before.frames (Enters function vs) fits stands at deep is
      ∙ sym (ap (λ b. unless b names) (enters_kind t a r cells choice function vs ends ∙ deep))

  pub given_alike : (o : Outcome Deed) → deed F ≡ o → leaf t (act_by a choice o) ≡ performed r cells
      → given_by p a.before.frames F o ≡ unless (is_fault (kind_of r)) names
  given_alike (gives (Moves on)) is ends = alike (Moves on) is ∙ sym (ap (λ b. unless b names) (moves_kind t a r cells choice on ends))
  given_alike (gives (Enters function vs)) is ends = entered_alike (is_deepest a.before.frames) function vs refl is ends
  given_alike (gives (Prints line)) is ends = never (Prints line) is refl
  given_alike (gives (Leaves v)) is ends = never (Leaves v) is refl
  given_alike (gives (Starts function vs)) is ends = never (Starts function vs) is refl
  given_alike (gives (Makes n)) is ends = never (Makes n) is refl
  given_alike (gives (TakesLen c)) is ends = never (TakesLen c) is refl
  given_alike (gives (TakesCap c)) is ends = never (TakesCap c) is refl
  given_alike (gives (Closes c)) is ends = never (Closes c) is refl
  given_alike (gives (Communicates c)) is ends = never (Communicates c) is refl
  given_alike (gives (Chooses cs)) is ends = never (Chooses cs) is refl
  given_alike (faults x) is ends = sym (ap (λ b. unless b names) (faults_kind t a r cells choice x ends))
  given_alike wrong is ends = no_wrong t a r cells choice ends
