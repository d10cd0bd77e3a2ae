-- When bounds cover what a store contains, by the code of its program.
use Rattle.std.specs.Prelude.{◌≡◌, ◌≤◌, ℕ, true, List, [], ◌∷◌, ◌++◌, slice_get, Some, None}
use Rattle.gr_base.specs.declared.names.ChName.{ChName}
use Rattle.gr_base.specs.declared.values.Value.{Value}
use Rattle.gr_base.specs.declared.values.Value.TheVariants.{Chan}
use Rattle.gr_causal.specs.Sequences.{In}
use Rattle.gr_channels.specs.declared.waiter.Waiter.{Waiter}
use Rattle.gr_channels.specs.Channels.{Content}
use Rattle.gr_program.specs.Programs.{Stmts, joined, Function, FunctionIs, Program}
use Rattle.gr_code.specs.CodeFrames.{CodeFrame}
use Rattle.gr_code.specs.Goroutines.{CodeGoroutine}
use Rattle.gr_code.specs.Instructions.{Instruction}
use Rattle.gr_lower.specs.Sizes.{size_in}
use Rattle.gr_lower.specs.Lowered.{lowered_function}
use Rattle.gr_refine.specs.Contents.{Contents}
use Rattle.gr_may.specs.Uses.{to_share, Uses, Usage, MayUse, Shared}
use Rattle.gr_may.specs.Demands.{function_at}
use Rattle.gr_may.specs.Covers.{StatusFits}
use Rattle.gr_bounds.specs.CodeUses.{InstructionFits}

abbrev pub body_of : Function → Stmts
body_of (FunctionIs name parameters result variables body last) = body

-- the instructions of a function from a number on, where the cells are used so
abbrev pub EachFits : Program → Usage → List ℕ → (ℕ → Uses) → ℕ → Function → ℕ → Type 0
EachFits p usage n uses k function start =
    (i : ℕ) (x : Instruction) → start ≤ i → slice_get (lowered_function function).instructions i ≡ Some x → InstructionFits p usage n uses k x

-- A frame of the goroutine with a name. The statements of its function's body that have ended are left out: it stands in one of the
-- others, or at the end.
pub record CodeFrameFits (p : Program) (usage : Usage) (n : List ℕ) (f : CodeFrame) : Type 0 where
  pub function : Function
  pub is : function_at p f.function ≡ Some function
  pub ended : Stmts
  pub others : Stmts
  pub split : body_of function ≡ joined ended others
  pub stands : size_in ended ≤ f.number
  pub uses : ℕ → Uses
  pub held : (x : ℕ) (v : Value) → slice_get f.cells x ≡ Some (Some v) → MayUse usage n (uses x) v
  pub code : EachFits p usage n uses f.function function (size_in ended)

pub record CoversContents (p : Program) (usage : Usage) (s : Contents) : Type 0 where
  pub code : (n : List ℕ) (k : ℕ) (f : Function) → function_at p k ≡ Some f → EachFits p usage n (usage.variables k) k f 0
  pub frames : (n : List ℕ) (g : CodeGoroutine) (f : CodeFrame) → s.goroutines n ≡ Some g → In f g.frames → CodeFrameFits p usage n f
  pub waits : (n : List ℕ) (g : CodeGoroutine) → s.goroutines n ≡ Some g → StatusFits usage n g.status
  pub sharing : (n : List ℕ) (c : ChName) → usage.permits n c to_share ≡ true → Shared usage (Chan (Some c))
  pub queued : (c : ChName) (x : Content) (w : Waiter Value) → s.channels c ≡ Some x → In w x.senders → Shared usage w.value
  pub buffered : (c : ChName) (x : Content) (v : Value) → s.channels c ≡ Some x → In v x.items → Shared usage v
  pub unstarted : (n : List ℕ) (k : ℕ) → s.goroutines (n ++ k ∷ []) ≡ None → usage.permits (n ++ k ∷ []) ≡ usage.permits n
  pub unmade : (c : ChName) → s.channels c ≡ None → Shared usage (Chan (Some c))
