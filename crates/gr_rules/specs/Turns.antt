-- What a command that takes many steps chooses for each, and why it ends.
use Rattle.std.specs.Prelude.{◌≡◌, ◌⊎◌, ℕ, ◌+◌, nat_eq, nat_le, Bool, true, false, List, [], ◌∷◌, ◌++◌, length, Option, Some, None, if◌then◌else◌, option_and_then}
use Rattle.std.specs.List.{list_any}
use Rattle.std.specs.declared.cmp.Ordering.TheVariants.{Less}
use Rattle.gr_base.specs.Names.{go_cmp}
use Rattle.gr_base.specs.declared.kinds.Fault.{Fault}
use Rattle.gr_causal.specs.Machine.{StepOf, IsLog}
use Rattle.gr_program.specs.Programs.{Program}
use Rattle.gr_rules.specs.Goroutines.{Goroutine, ready}
use Rattle.gr_rules.specs.Limits.{most_steps}
use Rattle.gr_rules.specs.States.{Run, live, ended, faulted, State}
use Rattle.gr_rules.specs.Steps.{machine}
use Rattle.gr_rules.specs.Tells.{next_line, usual_choice}

-- the goroutine is there, and ready
abbrev pub IsReady : State → List ℕ → Type 0
IsReady s g = (x : Goroutine) × (s.goroutines g ≡ Some x) × (x.status ≡ ready)

-- g is the first, in the order of names, of the goroutines for which P holds
pub record IsFirst (P : List ℕ → Type 0) (g : List ℕ) : Type 0 where
  pub holds : P g
  pub first : (h : List ℕ) → P h → ¬ (go_cmp h g ≡ Less)

-- ready, and after this one in the order of names
abbrev pub IsLater : State → List ℕ → List ℕ → Type 0
IsLater s last g = IsReady s g × (go_cmp last g ≡ Less)

-- Whose turn it is: the first ready goroutine after that of the last step. Where there is none after it, or no last step,
-- it is the first ready one.
abbrev pub HasTurn : State → Option (List ℕ) → List ℕ → Type 0
HasTurn s None g = IsFirst (IsReady s) g
HasTurn s (Some last) g = IsFirst (IsLater s last) g ⊎ (((h : List ℕ) → ¬ IsLater s last h) × IsFirst (IsReady s) g)

-- the goroutine of the last step of a log
abbrev pub last_owner : (p : Program) → List (StepOf (machine p)) → Option (List ℕ)
last_owner p [] = None
last_owner p (r ∷ []) = Some r.event.go
last_owner p (r ∷ q ∷ rs) = last_owner p (q ∷ rs)

-- why many steps end
pub data RunEnd : Type 0 where
  program_ended : RunEnd
  program_faulted : Fault → RunEnd
  -- as many steps as were asked for were taken
  all_taken : RunEnd
  -- no goroutine is ready
  none_ready : RunEnd
  -- the log has as many steps as it may
  log_full : RunEnd
  -- the next step belongs to a statement that begins on a line with a breakpoint
  at_break : (line : ℕ) → RunEnd

-- the line, where it has a breakpoint
abbrev pub break_at : List ℕ → Option ℕ → Option RunEnd
break_at breaks line = option_and_then (λ n. if list_any (nat_eq n) breaks then Some (at_break n) else None) line

-- the line on which the statement of a goroutine's next step begins
abbrev pub line_of : Option Goroutine → Option ℕ
line_of g = option_and_then (λ g. next_line g.frames) g

-- with a goroutine whose turn it is; at least one step is taken before a breakpoint ends them
abbrev pub ends_at_turn : State → List ℕ → ℕ → ℕ → List ℕ → Option RunEnd
ends_at_turn s breaks taken kept g =
    if nat_le most_steps kept then Some log_full else (if nat_eq taken 0 then None else break_at breaks (line_of (s.goroutines g)))

abbrev pub ends_live : State → List ℕ → ℕ → ℕ → ℕ → Option (List ℕ) → Option RunEnd
ends_live s breaks wanted taken kept turn =
    if nat_eq taken wanted then Some all_taken else elim turn [ None ↦ Some none_ready | Some g ↦ ends_at_turn s breaks taken kept g ]

abbrev pub ends_by : Run → Option RunEnd → Option RunEnd
ends_by ended else_this = Some program_ended
ends_by (faulted e) else_this = Some (program_faulted e)
ends_by live else_this = else_this

-- Why no more steps are taken, if so: the first reason that holds, in the order of `RunEnd`. It goes by how many steps were
-- wanted, how many were taken, how many the log has kept, and whose turn it is.
abbrev pub why_end : State → List ℕ → ℕ → ℕ → ℕ → Option (List ℕ) → Option RunEnd
why_end s breaks wanted taken kept turn = ends_by s.run (ends_live s breaks wanted taken kept turn)

-- whose turn it is, if it is anyone's
abbrev pub IsTurn : State → Option (List ℕ) → Option (List ℕ) → Type 0
IsTurn s last (Some g) = HasTurn s last g
IsTurn s last None = (g : List ℕ) → ¬ IsReady s g

-- Steps by the round robin, each with the usual choice. They lead from a state and a log to a state, a log, how many were
-- taken, and why they ended.
pub data Runs (p : Program) (breaks : List ℕ) (wanted : ℕ) : ℕ → State → List (StepOf (machine p)) → State → List (StepOf (machine p)) → ℕ → RunEnd → Type 0 where
  stops : {taken : ℕ} {s : State} {log : List (StepOf (machine p))} {why : RunEnd} (turn : Option (List ℕ))
      → IsTurn s (last_owner p log) turn
      → why_end s breaks wanted taken (length log) turn ≡ Some why
      → Runs p breaks wanted taken s log s log taken why
  goes : {taken : ℕ} {s u : State} {log after : List (StepOf (machine p))} {all : ℕ} {why : RunEnd} (g : List ℕ) (t : State) (r : StepOf (machine p))
      → IsTurn s (last_owner p log) (Some g)
      → why_end s breaks wanted taken (length log) (Some g) ≡ None
      → r.event ≡ record { go = g; choice = usual_choice p s g }
      → IsLog (machine p) s (r ∷ []) t
      → Runs p breaks wanted (taken + 1) t (log ++ r ∷ []) u after all why
      → Runs p breaks wanted taken s log u after all why
