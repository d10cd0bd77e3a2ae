-- What a caller learns of a step, the step that is asked for, and how the steps that were taken are counted.
use Rattle.std.specs.Prelude.{◌≡◌, ◌+◌, ◌-◌, ◌^◌, ◌⊎◌, ℕ, zero, suc, min}
use Rattle.gr_program.specs.Programs.{Program}
use Rattle.gr_laws.specs.Reached.{Logged}
use Rattle.gr_step.specs.Record.{Record}
use Rattle.gr_step.specs.Pairs.{step_kind}
pub use Rattle.gr_step.specs.Choices.{event_meant}
use Rattle.gr_step.specs.declared.refusal.StepRefused.{StepRefused}
use Rattle.gr_step.specs.declared.refusal.StepRefused.TheVariants as refusals
use Rattle.gr_rollback.specs.declared.stepped.Stepped.{Stepped}

-- the ordinal and the kind of a step
abbrev pub told_of : (p : Program) → Logged p → Stepped
told_of p l = record { ordinal = l.note.kind.ordinal; kind = step_kind p l }

-- the ordinal and the kind of a step, as its record tells them
abbrev pub told_by : Record → Stepped
told_by r = record { ordinal = r.id.n; kind = r.change.kind }

-- how many steps were taken, with one more; the number stays at the greatest one of 64 bits
abbrev pub one_more : ℕ → ℕ
one_more taken = min (taken + 1) (2 ^ 64 - 1)

-- how many steps were taken, with this many more
abbrev pub counted : ℕ → ℕ → ℕ
counted zero taken = taken
counted (suc more) taken = one_more (counted more taken)

-- how many steps were taken before, and after this many more; one that was taken back when out of memory may count too
abbrev pub MayCountOne : ℕ → ℕ → ℕ → Type 0
MayCountOne more old new = (new ≡ counted more old) ⊎ (new ≡ one_more (counted more old))

-- how many steps were taken before and after one that is refused: as many; but a step whose record found no room was taken
abbrev pub MayCount : StepRefused → ℕ → ℕ → Type 0
MayCount why old new = (new ≡ old) ⊎ ((why ≡ refusals.NoMemory) × (new ≡ one_more old))
