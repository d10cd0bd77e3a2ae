-- What a machine that stands tells of its steps.
use Rattle.std.proofs.Common.{◌≡◌, ◌<◌, ◌≤◌, ℕ, zero, suc, List, [], ◌∷◌, ◌++◌, length, take, slice_get, Option, Some, None, refl, sym, ap, ap₂, subst, ◌∙◌, arith}
use Rattle.std.proofs.lemmas.Option.{slice_get_within}
use Rattle.std.specs.Prelude.{Result, Ok, Err, IfOk}
use Rattle.gr_base.specs.declared.memory.NoMemory.{NoMemory}
use Rattle.gr_base.specs.declared.names.StepId.{StepId}
use Rattle.gr_causal.specs.Machine.{IsLog}
use Rattle.gr_program.specs.Programs.{Program}
use Rattle.gr_rules.specs.Steps.{machine}
use Rattle.gr_laws.specs.Reached.{Logged, IsRun}
use Rattle.gr_code.specs.CodeFrames.{ProgramCode}
use Rattle.gr_code.proofs.Standing.{there}
use Rattle.gr_refine.specs.Contents.{Contents}
use Rattle.gr_lower.specs.Lowered.{lowered}
use Rattle.gr_record.specs.declared.record.Record.{Record}
use Rattle.gr_record.specs.Listings.{state_in}
use Rattle.gr_record.specs.Pairs.{id_of}
use Rattle.gr_record.specs.Running.{IsChecked, Running}
use Rattle.gr_record.proofs.ChainLemmas.{Chain, chain_of, as_many}
use Rattle.gr_depend.specs.Named as records
use Rattle.gr_depend.proofs.HistoryLemmas.{name_is}
use Rattle.gr_step.specs.Stores.{contents_at}
use Rattle.gr_rollback.specs.declared.machine.Machine.{Machine}
use Rattle.gr_rollback.specs.Backs.{IsNamed}
use Rattle.gr_rollback.specs.Machines.{Stands, steps_of}
use Rattle.gr_rollback.specs.Pasts.{Timeline}
use Rattle.gr_facts.specs.declared.telling.Facts as answers
use Rattle.gr_facts.specs.Facts.{Facts}
use Rattle.gr_facts.specs.Asked.{Tells, TellsNamed, TellsOf}
use Rattle.gr_facts.specs.Recorded.{facts_by}
use Rattle.gr_facts.proofs.PlaceLemmas.{KeptAt, kept_at}
use Rattle.gr_facts.proofs.FactLemmas.{facts_alike}

-- where there is no element, the list has ended
pub ended : {A : Type 0} (xs : List A) (n : ℕ) → None ≡ slice_get xs n → length xs ≤ n
ended [] n e = omega arith
ended (x ∷ xs) zero e = absurd (let none : None ≡ Some x = e in cc)
ended (x ∷ xs) (suc n) e = let rest = ended xs n e in omega (arith, rest)

-- the element behind as many others
at_front : {A : Type 0} (front behind : List A) (x : A) → slice_get (front ++ x ∷ behind) (length front) ≡ Some x
at_front [] behind x = refl
at_front (y ∷ front) behind x = at_front front behind x

module _ (p : Program) (w : Timeline p) (m : Machine) (stands : Stands p w m) where
  abbrev first : Contents
  first = stands.holds.begins

  abbrev last : Contents
  last = contents_at m.course.store

  chain : Chain p first (steps_of m) w.past.log last
  chain = chain_of p first (steps_of m) w.past.log last stands.holds.kept

  at_place : (place : ℕ) (r : Record) → slice_get (steps_of m) place ≡ Some r → KeptAt p first (steps_of m) w.past.log place r
  at_place place r is_there = kept_at p first last (steps_of m) w.past.log stands.holds.begun.stand chain place r is_there

  is_checked : IsChecked p
  is_checked = subst {_, _} IsChecked stands.holds.program stands.holds.run.running.program

  -- the step at a place, by its record
  pub tells_of : (place : ℕ) (r : Record) → slice_get (steps_of m) place ≡ Some r → (told : Facts) (q : Program) (code : ProgramCode) → q ≡ p → code ≡ lowered p
      → told ≡ facts_by q code (take place (steps_of m)) r → TellsOf p w.past.log place told
  tells_of place r is_there told q code of_program coded is =
      let at = at_place place r is_there in
      let leads : IsRun p at.front (state_in p at.before) =
      subst {_, _} (λ b. IsLog (machine p) b at.front (state_in p at.before)) stands.holds.begun.state at.leads in
      let running : Running p at.before = record {
        program = is_checked;
        reached = record { log = at.front; leads = leads };
        stand = at.stand;
      } in
      record {
        before = state_in p at.before;
        step = at.step;
        there = record { front = at.front; behind = at.behind; split = at.split; count = at.count; leads = leads; after = state_in p at.after; step = at.tells.step };
        facts = is ∙ ap₂ (λ x c. facts_by x c (take place (steps_of m)) r) of_program coded
            ∙ facts_alike p at.before r at.step at.after at.tells running (take place (steps_of m)) at.front at.writer;
      }

  -- the log has no such place
  pub no_place : (place : ℕ) → length (steps_of m) ≤ place → length w.past.log ≤ place
  no_place place beyond =
      subst {_, _} (λ n. n ≤ place) (as_many p first last (steps_of m) w.past.log chain) beyond

  -- the step at a place, with its name
  step_at : (place : ℕ) (r : Record) → slice_get (steps_of m) place ≡ Some r → (l : Logged p) × (slice_get w.past.log place ≡ Some l) × (r.id ≡ id_of p l)
  step_at place r is_there =
      let at = at_place place r is_there in (
        at.step,
        ap (λ ls. slice_get ls place) at.split ∙ ap (slice_get (at.front ++ at.step ∷ at.behind)) (sym at.count) ∙ at_front at.front at.behind at.step,
        name_is p at.before r at.step at.after at.tells,
      )

  module _ (id : StepId) (place : ℕ) where
    pub named_here : records.IsNamed (steps_of m) place id → IsNamed p w.past.log id place
    named_here named =
        let step = step_at place named.step named.there in
        record { step = step.0; there = step.1; named = sym step.2 ∙ named.named }

    pub not_named : (records.IsNamed (steps_of m) place id → ⊥) → IsNamed p w.past.log id place → ⊥
    not_named none named =
        let less : place < length w.past.log = slice_get_within w.past.log place named.step named.there in
        let many = as_many p first last (steps_of m) w.past.log chain in
        let found = there (steps_of m) place (omega (arith, less, many)) in
        let step = step_at place found.0 found.1 in
        let some : Some step.0 ≡ Some named.step = sym step.1 ∙ named.there in
        let same : step.0 ≡ named.step = cc in
        none (record { step = found.0; there = found.1; named = step.2 ∙ ap (id_of p) same ∙ named.named })

    -- what is told of the place of a step's name is told of the step
    pub tells_named : records.IsNamed (steps_of m) place id → (told : Option answers.Facts) → Tells p w.past.log place told → TellsNamed p w.past.log id told
    tells_named named (Some a) tells = record { place = place; named = named_here named; tells = tells }
    tells_named named None beyond =
        let here = named_here named in
        let less : place < length w.past.log = slice_get_within w.past.log place here.step here.there in
        absurd (omega (arith, less, beyond))

pub named_on : (m : Machine) (id : StepId) (place : ℕ) → records.IsNamed (steps_of m) place id → (r : Result (Option answers.Facts) NoMemory)
    → IfOk r (λ told. (p : Program) (w : Timeline p) → Stands p w m → Tells p w.past.log place told)
    → IfOk r (λ told. (p : Program) (w : Timeline p) → Stands p w m → TellsNamed p w.past.log id told)
named_on m id place named (Ok told) all = λ p w s. tells_named p w m s id place named told (all p w s)
named_on m id place named (Err e) all = tt
