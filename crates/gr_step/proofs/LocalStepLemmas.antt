-- What a local step of a goroutine of code leaves, by its task.
use Rattle.std.proofs.Common.{◌≡◌, ℕ, Bool, true, false, if◌then◌else◌, List, [], ◌∷◌, ◌++◌, Option, Some, None, refl, sym, ap, subst, ◌∙◌}
use Rattle.gr_base.specs.declared.events.Event.{Event}
use Rattle.gr_base.specs.declared.kinds.Kind.{Kind}
use Rattle.gr_base.specs.declared.kinds.Kind.TheVariants as kinds
use Rattle.gr_base.specs.declared.kinds.Fault.{Fault}
use Rattle.gr_base.specs.declared.kinds.Fault.TheVariants.{CallDepth}
use Rattle.gr_base.specs.declared.values.Value.{Value}
use Rattle.gr_program.specs.Programs.{Program}
use Rattle.gr_rules.specs.Outcomes.{Outcome, gives, faults, wrong, ◌>>=◌}
use Rattle.gr_rules.specs.Deeds.{Moves, Prints, Enters, Leaves, Starts, Makes, TakesLen, TakesCap, Closes, Communicates, Chooses}
use Rattle.gr_rules.specs.Goroutines.{Goroutine}
use Rattle.gr_rules.specs.States.{State}
use Rattle.gr_rules.specs.Touches.{touches, without_channel}
use Rattle.gr_code.specs.Code.{Meanings}
use Rattle.gr_code.specs.Instructions.{Instruction}
use Rattle.gr_code.specs.CodeFrames.{ProgramCode, CodeFrame, Task, Steps, Wants, entered, after_in, resumed_in}
use Rattle.gr_code.specs.Goroutines.{CodeGoroutine, instruction_in, is_deepest, faulted, with_frames, local, local_by, local_task, leaves, prints}
use Rattle.gr_code.specs.Goroutines.{task_of}
use Rattle.gr_refine.specs.Contents.{Contents, with_goroutine}
use Rattle.gr_refine.specs.Local.{printed_by, after_local}
use Rattle.gr_refine.specs.Tasks.{Acts, chooses}
use Rattle.gr_refine.proofs.LocalLemmas.{local_here}
use Rattle.gr_refine.proofs.TaskLemmas.{instruction, at_it, task_is}

-- the text has the line that was printed, if one was
abbrev pub TextIs : CodeGoroutine → CodeGoroutine → Option (List ℕ) → Type 0
TextIs g after line = elim line [ Some l ↦ after.text ≡ g.text ++ l ∷ [] | None ↦ after.text ≡ g.text ]

-- a fault leaves all but the count of steps, and prints nothing; any other kind touches no other object
abbrev pub KindIs : CodeGoroutine → CodeGoroutine → Option (List ℕ) → Kind → Type 0
KindIs g after line kind = elim kind [
  | kinds.Fault x ↦ (after ≡ faulted g) × (line ≡ None)
  | k ↦ (s : State) (e : Event) (x : Goroutine) → without_channel s e x k ≡ touches [] []
]

pub record LocallyIs (g : CodeGoroutine) (o : Outcome Task) (kind : Kind) (after : CodeGoroutine) : Type 0 where
  pub text : TextIs g after (printed_by o)
  pub kind_is : KindIs g after (printed_by o) kind
  pub no_choice : chooses o ≡ false
  pub status : after.status ≡ g.status

-- what is so of a local step, where there is one
abbrev IfLocal : CodeGoroutine → Outcome Task → Outcome (Kind × CodeGoroutine) → Type 0
IfLocal g o r = elim r [ gives k ↦ LocallyIs g o k.0 k.1 | _ ↦ Unit {0} ]

module _ (code : ProgramCode) (g : CodeGoroutine) where
  prints_is : (line : List ℕ) (r : Outcome CodeFrame) (below : List CodeFrame) → IfLocal g (gives (Wants (Prints line))) (prints g line r below)
  prints_is line (gives on) below = record { text = refl; kind_is = λ s e x. refl; no_choice = refl; status = refl }
  prints_is line (faults x) below = tt
  prints_is line wrong below = tt

  enters_into : (function : ℕ) (vs : List Value) (fs : List CodeFrame) (r : Outcome CodeFrame)
      → IfLocal g (gives (Wants (Enters function vs))) (r >>= λ f. gives (kinds.Call, with_frames g (f ∷ fs)))
  enters_into function vs fs (gives first) = record { text = refl; kind_is = λ s e x. refl; no_choice = refl; status = refl }
  enters_into function vs fs (faults x) = tt
  enters_into function vs fs wrong = tt

  enters_is : (function : ℕ) (vs : List Value) (fs : List CodeFrame) (b : Bool) → IfLocal g (gives (Wants (Enters function vs)))
      (if b then gives (kinds.Fault CallDepth, faulted g) else (entered code function vs >>= λ f. gives (kinds.Call, with_frames g (f ∷ fs))))
  enters_is function vs fs true = record { text = refl; kind_is = (refl, refl); no_choice = refl; status = refl }
  enters_is function vs fs false = enters_into function vs fs (entered code function vs)

  returns_is : (v : Value) (fs : List CodeFrame) (r : Outcome CodeFrame)
      → IfLocal g (gives (Wants (Leaves v))) (r >>= λ on. gives (kinds.Return, with_frames g (on ∷ fs)))
  returns_is v fs (gives on) = record { text = refl; kind_is = λ s e x. refl; no_choice = refl; status = refl }
  returns_is v fs (faults x) = tt
  returns_is v fs wrong = tt

  leaves_at : (v : Value) (f : CodeFrame) (fs : List CodeFrame) (r : Outcome Instruction)
      → IfLocal g (gives (Wants (Leaves v))) (r >>= λ i. resumed_in f i v >>= λ on. gives (kinds.Return, with_frames g (on ∷ fs)))
  leaves_at v f fs (gives i) = returns_is v fs (resumed_in f i v)
  leaves_at v f fs (faults x) = tt
  leaves_at v f fs wrong = tt

  leaves_is : (v : Value) (fs : List CodeFrame) → IfLocal g (gives (Wants (Leaves v))) (leaves code g v fs)
  leaves_is v [] = tt
  leaves_is v (f ∷ fs) = leaves_at v f fs (instruction_in code f)

  by_task : (f : CodeFrame) (below : List CodeFrame) (i : Instruction) (o : Outcome Task) → IfLocal g o (local_by g (local_task code g f below i) o)
  by_task f below i (gives (Steps on)) = record { text = refl; kind_is = λ s e x. refl; no_choice = refl; status = refl }
  by_task f below i (gives (Wants (Moves on))) = tt
  by_task f below i (gives (Wants (Prints line))) = prints_is line (after_in f i) below
  by_task f below i (gives (Wants (Enters function vs))) = enters_is function vs (f ∷ below) (is_deepest (f ∷ below))
  by_task f below i (gives (Wants (Leaves v))) = leaves_is v below
  by_task f below i (gives (Wants (Starts function vs))) = tt
  by_task f below i (gives (Wants (Makes n))) = tt
  by_task f below i (gives (Wants (TakesLen c))) = tt
  by_task f below i (gives (Wants (TakesCap c))) = tt
  by_task f below i (gives (Wants (Closes c))) = tt
  by_task f below i (gives (Wants (Communicates c))) = tt
  by_task f below i (gives (Wants (Chooses cs))) = tt
  by_task f below i (faults x) = record { text = refl; kind_is = (refl, refl); no_choice = refl; status = refl }
  by_task f below i wrong = tt

-- the step of a goroutine that is up
pub locally_is : (means : ℕ → Meanings) (p : Program) (code : ProgramCode) (s : Contents) (e : Event) (g : CodeGoroutine) (f : CodeFrame)
    (below : List CodeFrame)
    (kind : Kind) (after : CodeGoroutine) → Acts means p code s e g f below → local code g ≡ gives (kind, after)
    → LocallyIs g (task_of code g) kind after
locally_is means p code s e g f below kind after acts is =
    let i = instruction means p code g f below acts.fits acts.up.frames acts.stand in
    let here = at_it means p code g f below acts.fits acts.up.frames acts.stand in
    let task = task_is means p code g f below acts.fits acts.up.frames acts.stand in
    subst {_, _} (IfLocal g (task_of code g))
    (ap (local_by g (local_task code g f below i)) task ∙ sym (local_here means p code s e g f below i acts.up.frames here) ∙ is)
    (by_task code g f below i (task_of code g))

-- a kind that is no fault
pub plain_kind : (g after : CodeGoroutine) (line : Option (List ℕ)) (k : Kind) → ((f : Fault) → k ≡ kinds.Fault f → ⊥) → KindIs g after line k
    → ((s : State) (e : Event) (x : Goroutine) → without_channel s e x k ≡ touches [] [])
    × ((s : Contents) (n : List ℕ) → after_local s n k after ≡ with_goroutine s n (Some after))
plain_kind g after line kinds.Pure other h = (h, λ s n. refl)
plain_kind g after line kinds.Call other h = (h, λ s n. refl)
plain_kind g after line kinds.Return other h = (h, λ s n. refl)
plain_kind g after line kinds.Go other h = (h, λ s n. refl)
plain_kind g after line kinds.Make other h = (h, λ s n. refl)
plain_kind g after line kinds.Length other h = (h, λ s n. refl)
plain_kind g after line kinds.Hand other h = (h, λ s n. refl)
plain_kind g after line kinds.Meet other h = (h, λ s n. refl)
plain_kind g after line kinds.Buffer other h = (h, λ s n. refl)
plain_kind g after line kinds.Take other h = (h, λ s n. refl)
plain_kind g after line kinds.Closed other h = (h, λ s n. refl)
plain_kind g after line kinds.SendWait other h = (h, λ s n. refl)
plain_kind g after line kinds.RecvWait other h = (h, λ s n. refl)
plain_kind g after line (kinds.Pick i) other h = (h, λ s n. refl)
plain_kind g after line kinds.Default other h = (h, λ s n. refl)
plain_kind g after line kinds.SelectWait other h = (h, λ s n. refl)
plain_kind g after line kinds.Close other h = (h, λ s n. refl)
plain_kind g after line kinds.Exit other h = (h, λ s n. refl)
plain_kind g after line (kinds.Fault f) other h = absurd (other f refl)
