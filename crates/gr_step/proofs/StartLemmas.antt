-- A program before its first step.
use Rattle.std.proofs.Common.{◌≡◌, ℕ, List, [], Some, None, refl, sym, ap, ap₂, subst, ◌∙◌}
use Rattle.std.specs.Prelude.{option_map}
use Rattle.gr_base.specs.declared.names.ChName.{ChName}
use Rattle.gr_base.specs.declared.values.Value.{Value}
use Rattle.gr_program.specs.Programs.{Program}
use Rattle.gr_rules.specs.Outcomes.{gives, wrong}
use Rattle.gr_rules.specs.States.{live, same_go, updated, start}
use Rattle.gr_laws.specs.Reached.{Reached}
use Rattle.gr_code.specs.CodeFrames.{ProgramCode, CodeFrame, entered}
use Rattle.gr_code.specs.Goroutines.{CodeGoroutine}
use Rattle.gr_code.specs.Programs.{ProgramFits}
use Rattle.gr_refine.specs.Contents.{Contents}
use Rattle.gr_refine.specs.Starting.{begun}
use Rattle.gr_refine.proofs.StartingLemmas.{begun_is_the_start, begun_stands, main_is_entered}
use Rattle.gr_goros.specs.Views.{Seen, IsStarted}
use Rattle.gr_tables.specs.NamedChannels as channels
use Rattle.gr_tables.specs.NamedChannels.{contents_of}
use Rattle.gr_tables.specs.NamedGoroutines.{goroutines_of, name_at, seen_of, Sets}
use Rattle.gr_tables.specs.declared.channels.Channels.{Channels}
use Rattle.gr_tables.specs.declared.goroutines.Goroutines.{Goroutines}
use Rattle.gr_lower.specs.Lowered.{lowered, meaning}
use Rattle.type_safety.proofs.CheckedRuns.{checked_begins}
use Rattle.type_safety.proofs.CodeOfPrograms.{checked_fits}
use Rattle.gr_record.specs.Listings.{state_in}
use Rattle.gr_record.specs.Running.{IsChecked, Running}
use Rattle.gr_step.proofs.ObjectLemmas.{set_goroutines}

some_not : {X : Type 0} {x : X} → Some x ≡ None → ⊥
some_not e = subst {0, 0} (λ o. elim o [ Some y ↦ Unit {0} | None ↦ ⊥ ]) e tt

given_not : {X : Type 0} {x : X} → gives x ≡ wrong → ⊥
given_not e = subst {0, 0} (λ o. elim o [ gives _ ↦ Unit {0} | _ ↦ ⊥ ]) e tt

module _ (p : Program) (checked : IsChecked p) where
  fits : ProgramFits (meaning p) p (lowered p)
  fits = checked_fits checked.file p checked.checked

  -- `main` can be entered
  pub main_right : (code : ProgramCode) (number : ℕ) (vs : List Value) → code ≡ lowered p → number ≡ code.main → vs ≡ []
      → ¬ (entered code number vs ≡ wrong)
  main_right code number vs is main empty none =
      let begins = checked_begins checked.file p checked.checked in
      let first = main_is_entered (meaning p) p (lowered p) fits (λ h. some_not (sym begins.2 ∙ h)) in
      given_not (sym first.1 ∙ ap (λ (c : ProgramCode). entered c c.main []) (sym is) ∙ sym (ap₂ (entered code) main empty) ∙ none)

  -- contents before the first step
  pub record Begins (s : Contents) : Type 0 where
    pub state : state_in p s ≡ start p
    pub running : Running p s

  begins_in : (first : CodeFrame) → entered (lowered p) (lowered p).main [] ≡ gives first → Begins (begun first)
  begins_in first is =
      let state = begun_is_the_start (meaning p) p (lowered p) first fits is in
      record {
        state = state;
        running = record {
          program = checked;
          reached = subst (Reached p) (sym state) (record { log = []; leads = refl });
          stand = (begun_stands (meaning p) p (lowered p) first fits is).0;
        };
      }

  -- one goroutine in `main`, and no channel
  pub begins : (s : Contents) (code : ProgramCode) (number : ℕ) (vs : List Value) (g : CodeGoroutine)
      → code ≡ lowered p → number ≡ code.main → vs ≡ [] → IsStarted (entered code number vs) g → s.run ≡ live
      → s.goroutines ≡ updated same_go (λ q. None) [] (Some g) → ((c : ChName) → s.channels c ≡ None) → Begins s
  begins s code number vs g is main empty started runs one none =
      let entered_is = ap (λ (c : ProgramCode). entered c c.main []) (sym is) ∙ sym (ap₂ (entered code) main empty) ∙ started.1 in
      let same : s ≡ begun started.0 = λ i. record {
        run = runs i;
        goroutines = (one ∙ ap (λ x. updated same_go (λ q. None) [] (Some x)) started.2) i;
        channels = λ c. none c i;
      } in
      subst Begins (sym same) (begins_in started.0 entered_is)

-- the one goroutine, put under its name
pub one_there : (none known with_main : Goroutines) (number : ℕ) (name : List ℕ) (x : Seen) → name ≡ [] → ((q : List ℕ) → seen_of none q ≡ None)
    → seen_of known ≡ seen_of none → name_at known number ≡ Some name → Sets number (Some x) known with_main
    → goroutines_of with_main ≡ updated same_go (λ q. None) [] (Some x.content)
one_there none known with_main number name x empty nobody same named sets =
    let unknown : goroutines_of known ≡ (λ q. None) = λ i q. ap (option_map (λ g. g.content)) (ap (λ f. f q) same ∙ nobody q) i in
    set_goroutines number name (Some x) known with_main named sets
    ∙ ap₂ (λ f n. updated same_go f n (Some x.content)) unknown empty

pub no_channel : (m : Channels) → ((q : ChName) → channels.seen_of m q ≡ None) → (c : ChName) → contents_of m c ≡ None
no_channel m nobody c = ap (option_map (λ x. x.content)) (nobody c)
