-- The command that is written for a step asks for just that step.
use Rattle.std.proofs.Common.{◌≡◌, inl, inr, ℕ, Bool, true, false, [], ◌∷◌, map, None, refl, sym, ap, ◌∙◌, true≢false, if◌then◌else◌}
use Rattle.gr_base.specs.declared.events.Choice.{Choice}
use Rattle.gr_base.specs.declared.events.Choice.TheVariants.{Plain, Pick, Default, Park}
use Rattle.gr_base.specs.declared.events.Event.{Event}
use Rattle.gr_causal.proofs.ListLemmas.{In-append_cases, In-of_map}
use Rattle.gr_causal.specs.Sequences.{In}
use Rattle.gr_program.specs.Programs.{Program}
use Rattle.gr_rules.specs.States.{State}
use Rattle.gr_rules.specs.Tells.{ready_clauses, usual_choice}
use Rattle.gr_schedules.specs.Choices.{choices_of, event_by, is_pick}
use Rattle.gr_session.specs.Journal.{event_asked}
use Rattle.gr_survey.specs.StepTexts.{clause_in}

no_clause : (c : Choice) → is_pick c ≡ false → clause_in c ≡ None
no_clause Plain h = refl
no_clause (Pick n) h = absurd (true≢false h)
no_clause Default h = refl
no_clause Park h = refl

module _ (p : Program) (s : State) (e : Event) where
  abbrev AsksForIt : Type 0
  AsksForIt = event_asked p s e.go (clause_in e.choice) ≡ e

  by_usual : (b : Bool) → is_pick (usual_choice p s e.go) ≡ b → In e (if b then [] else event_by e.go (usual_choice p s e.go) ∷ []) → AsksForIt
  by_usual true h j = absurd j
  by_usual false h (inl q) = ap (event_asked p s e.go) (ap (λ (x : Event). clause_in x.choice) q ∙ no_clause (usual_choice p s e.go) h) ∙ sym q
  by_usual false h (inr j) = absurd j

  by_pick : (n : ℕ) → e ≡ event_by e.go (Pick n) → AsksForIt
  by_pick n q = ap (λ (x : Event). event_asked p s e.go (clause_in x.choice)) q ∙ sym q

  pub asks_for_it : In e (choices_of p s e.go) → AsksForIt
  asks_for_it i =
      elim (In-append_cases e (if is_pick (usual_choice p s e.go) then [] else event_by e.go (usual_choice p s e.go) ∷ [])
      (map (λ n. event_by e.go (Pick n)) (ready_clauses p s e.go)) i) [
        | inl j ↦ by_usual (is_pick (usual_choice p s e.go)) refl j
        | inr j ↦ let k = In-of_map (λ n. event_by e.go (Pick n)) e (ready_clauses p s e.go) j in by_pick k.0 k.2
      ]
