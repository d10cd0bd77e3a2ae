-- Preservation: the values of every state that a run of a sorted program reaches have sorts.
use Rattle.std.proofs.Common.{◌≡◌, ℕ, Bool, true, false, if◌then◌else◌, List, [], ◌∷◌, ◌++◌, Option, Some, None, refl, subst}
use Rattle.std.proofs.lemmas.Option.{same_Some, none-some}
use Rattle.gr_base.specs.declared.events.Event.{Event}
use Rattle.gr_base.specs.declared.objects.Object.{Object}
use Rattle.gr_causal.specs.Machine.{StepOf, IsLog}
use Rattle.gr_causal.specs.Rules.{Plan, Note, plan, carried, with_read}
use Rattle.gr_causal.proofs.PathLemmas.{Path, path_of}
use Rattle.gr_program.specs.Programs.{Program}
use Rattle.gr_typing.specs.Scopes.{Signature}
use Rattle.gr_rules.specs.Outcomes.{Outcome}
use Rattle.gr_rules.specs.Frames.{Frame}
use Rattle.gr_rules.specs.Goroutines.{Goroutine}
use Rattle.gr_rules.specs.States.{Cell, State, same_go, look, call_of, main_of, started_in, start}
use Rattle.gr_rules.specs.Attempts.{Refusal, Report, Attempt, refuse, perform, ask, rule_of, refusal_in}
use Rattle.gr_rules.specs.Steps.{attempt, rulebook, machine}
use Rattle.gr_laws.proofs.RuleSound.{after_sound, reached_sound}
use Rattle.gr_laws.proofs.RuleWaits.{stepped, reached_waits}
use Rattle.type_safety.proofs.Sorts.{UnitSort, Made, nothing_made, no_value}
use Rattle.type_safety.proofs.Bodies.{SortedProgram, main}
use Rattle.type_safety.proofs.Running.{GoesOn, on_as, outermost, is_ready, SortedGoroutine, SortedState}
use Rattle.type_safety.proofs.Attempting.{SortedCells, Fine}
use Rattle.type_safety.proofs.Promises.{Going}
use Rattle.type_safety.proofs.SortedCalled.{called_sorted}
use Rattle.type_safety.proofs.FineEvents.{attempt_fine}
use Rattle.type_safety.proofs.SortedWrites.{written_sorted}

-- an attempt that is fine is refused for no other reason
pub refused_for : (P : Refusal → Type 0) (fs : List Signature) (made : Made) (s : State) (x : Attempt) (r : Refusal)
    → Fine P fs made s x → refusal_in s x ≡ Some r → P r
refused_for P fs made s (refuse q) r h e = subst P (same_Some _ _ e) h
refused_for P fs made s (perform report cells) r h e = absurd (none-some _ e)
refused_for P fs made s (ask o f) r h e = refused_for P fs made s (f (look s o)) r h e

-- the frame at the start
pub main_frame : (fs : List Signature) (p : Program) → SortedProgram fs p
    → GoesOn fs nothing_made UnitSort (main_of p) (call_of p (main_of p) [])
main_frame fs p (main functions signed) =
    called_sorted fs _ nothing_made _ _ [] None [] (main functions signed) signed no_value

module _ (fs : List Signature) (p : Program) where
  begun : {n : ℕ} {o : Outcome Frame} (g : Goroutine) → GoesOn fs nothing_made UnitSort n o → started_in o ≡ Some g
      → SortedGoroutine fs nothing_made g
  begun g (on_as q h) e = subst (SortedGoroutine fs nothing_made) (same_Some _ _ e) (is_ready h outermost)

  start_goroutine : SortedProgram fs p → (b : Bool) (g : Goroutine)
      → (if b then started_in (call_of p (main_of p) []) else None) ≡ Some g → SortedGoroutine fs nothing_made g
  start_goroutine program false g e = absurd (none-some _ e)
  start_goroutine program true g e = begun g (main_frame fs p program) e

  nobody : (n : List ℕ) (i : ℕ) (rest : List ℕ) → (start p).goroutines (n ++ i ∷ rest) ≡ None
  nobody [] i rest = refl
  nobody (x ∷ n) i rest = refl

  start_sorted : SortedProgram fs p → SortedState fs nothing_made (start p)
  start_sorted program = record {
    goroutines = λ n. start_goroutine program (same_go n []);
    gates = λ c k e. absurd (none-some _ e);
    channels = λ c gate e. absurd (none-some _ e);
    senders = λ c gate k w e m i. absurd (none-some _ e);
    items = λ c i n v k e m. absurd (none-some _ e);
    fresh = λ n i rest less. nobody n i rest;
  }

  start_going : SortedProgram fs p → Going fs p nothing_made (start p)
  start_going program = record {
    sound = reached_sound p (start p) [] refl;
    waits = reached_waits p (start p) [] refl;
    sorted = start_sorted program;
    program = program;
  }

  -- what a step's attempt comes to
  went : (P : Refusal → Type 0) (made : Made) (s : State) (x : Attempt) (y : Plan Object Cell Report)
      → Fine P fs made s x → plan (rulebook p) s (rule_of x) ≡ Some y → SortedCells fs made s y.cells
  went P made s (refuse r) y c h = absurd (none-some _ h)
  went P made s (perform report cells) y c h =
      subst (λ (z : Plan Object Cell Report). SortedCells fs made s z.cells) (same_Some _ _ h) c
  went P made s (ask o f) y c h =
      by_rest (λ z. went P made s (f (look s o)) z c) (plan (rulebook p) s (rule_of (f (look s o)))) refl h
    where
      by_rest : ((z : Plan Object Cell Report) → plan (rulebook p) s (rule_of (f (look s o))) ≡ Some z
          → SortedCells fs made s z.cells)
          → (x : Option (Plan Object Cell Report)) → plan (rulebook p) s (rule_of (f (look s o))) ≡ x
          → with_read o x ≡ Some y → SortedCells fs made s y.cells
      by_rest ih None d g = absurd (none-some _ g)
      by_rest ih (Some z) d g =
          subst (λ (z : Plan Object Cell Report). SortedCells fs made s z.cells) (same_Some _ _ g) (ih z d)

  after_step : (made : Made) (s t : State) (e : Event) (n : Note Object Report) → Going fs p made s
      → (machine p).step s e ≡ Some (t, n) → (after : Made) × SortedState fs after t
  after_step made s t e n going h = by_plan (plan (rulebook p) s (rule_of (attempt p e))) refl h
    where
      by_plan : (x : Option (Plan Object Cell Report)) → plan (rulebook p) s (rule_of (attempt p e)) ≡ x
          → carried (rulebook p) s x ≡ Some (t, n) → (after : Made) × SortedState fs after t
      by_plan None d g = absurd (none-some _ g)
      by_plan (Some y) d g =
          let cells = went _ made s (attempt p e) y (attempt_fine fs p made s e going) d in
          subst (λ (r : State × Note Object Report). (after : Made) × SortedState fs after r.0) (same_Some _ _ g)
          (written_sorted fs made s going.sound going.sorted y.cells cells)

  along : (s t : State) (log : List (StepOf (machine p))) (made : Made) → Going fs p made s
      → Path (machine p) s log t → (after : Made) × Going fs p after t
  along s t [] made going q = (made, subst (Going fs p made) q going)
  along s t (r ∷ log) made going q =
      let x = after_step made s q.0 r.event r.note going q.1.does in
      along q.0 t log x.0 (record {
        sound = after_sound p s going.sound r.event q.0 r.note q.1.does;
        waits = (stepped p s going.sound going.waits r.event q.0 r.note q.1.does).0;
        sorted = x.1;
        program = going.program;
      }) q.2

  pub reached_going : SortedProgram fs p → (t : State) (log : List (StepOf (machine p)))
      → IsLog (machine p) (start p) log t → (made : Made) × Going fs p made t
  reached_going program t log l =
      along (start p) t log nothing_made (start_going program) (path_of (machine p) (start p) log t l)
