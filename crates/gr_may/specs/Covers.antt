-- When bounds cover a state: all that its goroutines may still execute, and all channels that they know, are within them.
use Rattle.std.specs.Prelude.{◌≡◌, ℕ, true, List, [], ◌∷◌, ◌++◌, slice_get, Some, None}
use Rattle.gr_base.specs.declared.names.ChName.{ChName}
use Rattle.gr_base.specs.declared.values.Value.{Value}
use Rattle.gr_base.specs.declared.values.Value.TheVariants.{Chan}
use Rattle.gr_causal.specs.Sequences.{In}
use Rattle.gr_channels.specs.declared.waiter.Waiter.{Waiter}
use Rattle.gr_channels.specs.Objects.{GateContent}
use Rattle.gr_program.specs.Programs.{Function, FunctionIs, Program}
use Rattle.gr_rules.specs.Operands.{Operands}
use Rattle.gr_rules.specs.Parts.{Calls, Next, Asks, next_of}
use Rattle.gr_rules.specs.Frames.{Frame}
use Rattle.gr_rules.specs.Goroutines.{Wait, ToSend, ToReceive, channel_of, Status, waiting, Goroutine}
use Rattle.gr_rules.specs.States.{State}
use Rattle.gr_may.specs.Uses.{Use, to_send, to_receive, to_share, Uses, Usage, MayUse, Shared}
use Rattle.gr_may.specs.Demands.{function_at, StmtsFit, PointFits}

-- the next part is a call of the function with the number
abbrev pub Calling : ℕ → Next Operands → Type 0
Calling k next = elim next [ Asks ask with ↦ elim ask [ Calls j arguments ↦ j ≡ k | _ ↦ ⊥ ] | _ ↦ ⊥ ]

abbrev pub AwaitsResultOf : ℕ → Frame → Type 0
AwaitsResultOf k f = Calling k (next_of f.point.operands)

-- the frame below awaits the result
abbrev pub ReturnsTo : Frame → List Frame → Type 0
ReturnsTo f [] = Unit {0}
ReturnsTo f (g ∷ gs) = AwaitsResultOf f.function g

-- what the goroutine has to do so that the wait ends
abbrev pub wish : Wait → Use
wish (ToSend c clause) = to_send
wish (ToReceive c clause) = to_receive

module _ (usage : Usage) (n : List ℕ) where
  abbrev pub WaitsFit : List Wait → Type 0
  WaitsFit ws = (w : Wait) → In w ws → usage.permits n (channel_of w) (wish w) ≡ true

  abbrev pub StatusFits : Status → Type 0
  StatusFits status = elim status [ waiting ws ↦ WaitsFit ws | _ ↦ Unit {0} ]

module _ (p : Program) (usage : Usage) (n : List ℕ) where
  -- The variables of a frame have uses of their own: those by what it may still execute.
  pub record FrameFits (f : Frame) : Type 0 where
    pub uses : ℕ → Uses
    pub held : (x : ℕ) (v : Value) → slice_get f.variables x ≡ Some (Some v) → MayUse usage n (uses x) v
    pub stands : PointFits p usage n uses f.function f.point

  abbrev pub FramesFit : List Frame → Type 0
  FramesFit [] = Unit {0}
  FramesFit (f ∷ fs) = FrameFits f × ReturnsTo f fs × FramesFit fs

  pub record GoFits (g : Goroutine) : Type 0 where
    pub frames : FramesFit g.frames
    pub status : StatusFits usage n g.status

abbrev pub FunctionFits : Program → Usage → ℕ → Function → Type 0
FunctionFits p usage k (FunctionIs name parameters result variables body last) = (n : List ℕ) → StmtsFit p usage n (usage.variables k) k body

-- whoever receives a channel may use it in every way. A goroutine that is not started yet may do what its parent may. Nothing is
-- left out for a channel that is not made yet.
pub record Covers (p : Program) (usage : Usage) (s : State) : Type 0 where
  pub code : (k : ℕ) (f : Function) → function_at p k ≡ Some f → FunctionFits p usage k f
  pub goroutines : (n : List ℕ) (g : Goroutine) → s.goroutines n ≡ Some g → GoFits p usage n g
  pub sharing : (n : List ℕ) (c : ChName) → usage.permits n c to_share ≡ true → Shared usage (Chan (Some c))
  pub queued : (c : ChName) (gate : GateContent) → s.gates c ≡ Some gate → (w : Waiter Value) → In w gate.senders → Shared usage w.value
  pub buffered : (c : ChName) (i k : ℕ) (v : Value) → s.slots c i ≡ Some (k, v) → Shared usage v
  pub unstarted : (n : List ℕ) (k : ℕ) → s.goroutines (n ++ k ∷ []) ≡ None → usage.permits (n ++ k ∷ []) ≡ usage.permits n
  pub unmade : (c : ChName) → s.gates c ≡ None → Shared usage (Chan (Some c))
