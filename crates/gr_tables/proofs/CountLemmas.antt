-- What is true of an answer that may be none.
use Rattle.std.proofs.Common.{◌≡◌, ◌+◌, ℕ, true, Option, Some, None}
use Rattle.std.specs.Prelude.{IfSome, IfNone}
use Rattle.gr_code.specs.CodeFrames.{ProgramCode}
use Rattle.gr_code.specs.Goroutines.{CodeGoroutine, is_local, local}
use Rattle.gr_goros.specs.Tasks.{IsStep}
use Rattle.gr_goros.specs.Undoing.{undone}
use Rattle.gr_goros.specs.Views.{Seen}
use Rattle.gr_goros.specs.declared.kinds.LocalKind.TheVariants.{Pure}
use Rattle.gr_goros.specs.declared.undo.GoUndo.{GoUndo}
use Rattle.gr_rules.specs.Goroutines.{ready}
use Rattle.gr_tables.specs.Counting.{StepsOn}

pub if_some : {A : Type 0} (o : Option A) (P Q : A → Type 0) → ((x : A) → P x → Q x) → IfSome o P → IfSome o Q
if_some (Some x) P Q f h = f x h
if_some None P Q f h = h

pub if_none : {A : Type 0} (o : Option A) (P Q : Type 0) → (P → Q) → IfNone o P → IfNone o Q
if_none (Some x) P Q f h = h
if_none None P Q f h = f h

-- a step over whole numbers, from what is known of it where there is one
pub counts_on : (code : ProgramCode) (o : Option (ℕ × GoUndo)) (a b : Seen)
    → IfSome o (λ r. IsStep (Pure, r.1) (local code a.content) a b) → IfSome o (λ r. r.0 ≡ a.content.steps + 1)
    → IfSome o (λ r. a.content.status ≡ ready) → IfSome o (λ r. is_local code a.content ≡ true)
    → IfSome o (λ r. (g : CodeGoroutine) → (undone r.1 g).status ≡ g.status) → IfSome o (λ r. StepsOn code r a b)
counts_on code (Some r) a b is ordinal is_ready alone stays = record { is = is; ordinal = ordinal; is_ready = is_ready; alone = alone; stays = stays }
counts_on code None a b is ordinal is_ready alone stays = is
