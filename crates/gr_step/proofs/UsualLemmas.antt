-- The choice that is taken where none is asked for, by the arms of the instruction at which a goroutine stands.
use Rattle.std.proofs.Common.{◌≡◌, ℕ, ◌+◌, Bool, true, false, if◌then◌else◌, List, ◌∷◌, Option, Some, None, refl, sym, ap, subst, ◌∙◌}
use Rattle.std.specs.Prelude.{is_some, slice_get}
use Rattle.std.specs.List.{list_any, list_all}
use Rattle.gr_base.specs.declared.events.Choice.{Choice}
use Rattle.gr_base.specs.declared.events.Choice.TheVariants.{Pick, Default, Park}
use Rattle.gr_program.specs.Programs.{Program}
use Rattle.gr_rules.specs.Deeds.{Communication, Chooses}
use Rattle.gr_rules.specs.Outcomes.{gives, ◌>>=◌}
use Rattle.gr_rules.specs.Evaluation.{Variables}
use Rattle.gr_rules.specs.Selects.{default_from}
use Rattle.gr_rules.specs.Tells.{usual_choice}
use Rattle.gr_code.specs.Instructions.{Arm, clauses_of}
use Rattle.gr_code.specs.CodeFrames.{ProgramCode, CodeFrame, Wants}
use Rattle.gr_code.specs.Goroutines.{CodeGoroutine, task_in, task_of}
use Rattle.gr_refine.specs.Contents.{Contents}
use Rattle.gr_refine.specs.Partners.{AreChannels, can_proceed}
use Rattle.gr_refine.specs.Tasks.{chooses}
use Rattle.gr_goros.specs.Needs.{SelectsIn}
use Rattle.gr_lower.specs.Lowered.{lowered}
use Rattle.gr_step.specs.Choices.{IsAtSelect, HasNoChoice, ready_from, choice_without, first_of}
use Rattle.gr_record.specs.Listings.{state_in}
use Rattle.gr_step.specs.Possible.{arm_given, goes_by, is_default, first_going, usual_of}
use Rattle.gr_record.specs.Running.{Running}
use Rattle.gr_step.proofs.MayLemmas.{usual_is}
use Rattle.gr_step.proofs.NoChoiceLemmas.{none_other}
use Rattle.gr_step.proofs.PossibleLemmas.{AreClauses, no_clause, clause, have, has_default, all_given, no_clauses, innermost, task_of_arms}

-- the first of the clauses that can proceed
abbrev pick_or : Option ℕ → Choice → Choice
pick_or o otherwise = elim o [ Some i ↦ Pick i | None ↦ otherwise ]

first_by : (k : ℕ) (otherwise : Choice) (a : Bool) (ns : List ℕ) (o : Option ℕ) → first_of ns otherwise ≡ pick_or o otherwise
    → first_of (if a then k ∷ ns else ns) otherwise ≡ pick_or (if a then Some k else o) otherwise
first_by k otherwise true ns o rest = refl
first_by k otherwise false ns o rest = rest

first_as : (s : Contents) {cells : Variables} {arms : List Arm} {ws : List Communication} → AreClauses cells arms ws → (k : ℕ) (otherwise : Choice)
    → first_of (ready_from s k ws) otherwise ≡ pick_or (first_going s cells k arms) otherwise
first_as s no_clause k otherwise = refl
first_as s {cells} (clause {a} {arms} {w} {ws} is rest) k otherwise =
    first_by k otherwise (can_proceed s w) (ready_from s (k + 1) ws) (first_going s cells (k + 1) arms) (first_as s rest (k + 1) otherwise)
    ∙ ap (λ b. pick_or (if b then Some k else first_going s cells (k + 1) arms) otherwise) (sym (ap (goes_by s) is))

-- the choice where no clause can proceed: the default clause, or to wait
without_by : (o : Option ℕ) → elim o [ Some i ↦ Default | None ↦ Park ] ≡ (if is_some o then Default else Park)
without_by None = refl
without_by (Some i) = refl

without_as : {cells : Variables} {arms : List Arm} {ws : List Communication} → AreClauses cells arms ws
    → choice_without ws ≡ (if list_any is_default arms then Default else Park)
without_as {cells} {arms} {ws} are = without_by (default_from 1 ws) ∙ ap (λ b. if b then Default else Park) (sym (has_default are 1))

usual_as : (s : Contents) (cells : Variables) (arms : List Arm) (ws : List Communication) → AreClauses cells arms ws
    → first_of (ready_from s 1 ws) (choice_without ws) ≡ usual_of s cells arms
usual_as s cells arms ws are =
    first_as s are 1 (choice_without ws) ∙ ap (pick_or (first_going s cells 1 arms)) (without_as are)

module _ (p : Program) (s : Contents) (run : Running p s) (valid : AreChannels s) (n : List ℕ) (g : CodeGoroutine) (at : IsAtSelect p s n g)
    (code : ProgramCode) (is : code ≡ lowered p) (f : CodeFrame) (cells : Variables) (arms : List Arm) (selects : SelectsIn code g.frames arms)
    (first : slice_get g.frames 0 ≡ Some f) (are : cells ≡ f.cells) where
  here : (below : List CodeFrame) × (g.frames ≡ f ∷ below)
  here = innermost g.frames f first

  selects_here : SelectsIn (lowered p) (f ∷ here.0) arms
  selects_here = subst (λ fs. SelectsIn (lowered p) fs arms) here.1 (subst (λ c. SelectsIn c g.frames arms) is selects)

  task_is : task_of (lowered p) g ≡ (clauses_of cells arms >>= λ ws. gives (Wants (Chooses ws)))
  task_is =
      ap (task_in (lowered p)) here.1 ∙ task_of_arms (lowered p) f here.0 arms selects_here
      ∙ ap (λ vs. clauses_of vs arms >>= λ ws. gives (Wants (Chooses ws))) (sym are)

  -- a clause whose channel is none leaves no choice
  pub usual_at_fault : list_all (arm_given cells) arms ≡ false → HasNoChoice p s n
  usual_at_fault some =
      none_other p s n g run at.runs at.there at.is_ready
      (ap chooses task_is ∙ no_clauses (clauses_of cells arms) (sym (all_given cells arms) ∙ some))

  pub usual_here : list_all (arm_given cells) arms ≡ true → usual_of s cells arms ≡ usual_choice p (state_in p s) n
  usual_here all =
      let h = have cells arms all in
      sym (usual_as s cells arms h.ws h.are)
      ∙ sym (usual_is p s run valid n h.ws (record {
        goroutine = g;
        runs = at.runs;
        there = at.there;
        is_ready = at.is_ready;
        task = task_is ∙ ap (λ c. c >>= λ ws. gives (Wants (Chooses ws))) h.is;
      }))
