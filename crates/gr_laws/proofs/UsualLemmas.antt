-- Which choice a step has: the usual one, or that of a clause.
use Rattle.std.proofs.Common.{◌≡◌, ◌⊎◌, ℕ, zero, suc, Bool, true, false, if◌then◌else◌, List, [], ◌∷◌, ◌++◌, map, filter, Option, Some, None, refl, sym, ◌∙◌, ap, inl, inr}
use Rattle.std.specs.Prelude.{get_or, is_none, slice_get}
use Rattle.std.specs.List.{list_any, range_with_len}
use Rattle.gr_base.specs.declared.events.Choice.{Choice}
use Rattle.gr_base.specs.declared.events.Choice.TheVariants.{Plain, Pick, Default, Park}
use Rattle.gr_base.specs.declared.events.Event.{Event}
use Rattle.gr_causal.proofs.ListLemmas.{none_not, or_false, true_or_false}
use Rattle.gr_program.specs.Programs.{Program}
use Rattle.gr_rules.specs.Outcomes.{Outcome, gives, faults, wrong}
use Rattle.gr_rules.specs.Frames.{Frame}
use Rattle.gr_rules.specs.Deeds.{Communication, Deed, Moves, Prints, Enters, Leaves, Starts, Makes, TakesLen, TakesCap, Closes, Communicates, Chooses, deed}
use Rattle.gr_rules.specs.Goroutines.{Status, ready, waiting, finished, Goroutine}
use Rattle.gr_rules.specs.States.{Run, live, ended, faulted, State}
use Rattle.gr_rules.specs.Attempts.{Refusal, refusal_in, ask_go}
use Rattle.gr_rules.specs.Actors.{clause_at}
use Rattle.gr_rules.specs.Selects.{default_from}
use Rattle.gr_rules.specs.Steps.{machine, act_in, if_ready, if_known, if_live, refusal}
use Rattle.gr_rules.specs.Tells.{may, how_many_clauses, usual_choice}
use Rattle.gr_laws.specs.Refusals.{StandsReady, is_select, can_proceed, CannotPick, HasNoSuch}
use Rattle.gr_laws.proofs.CellLemmas.{no_truth}
use Rattle.gr_laws.proofs.ChoiceLemmas.{NoChoice}
use Rattle.gr_laws.proofs.ReasonLemmas.{if_plain, if_select}
use Rattle.gr_laws.proofs.RefusalLemmas.{refused_is_no_step}

-- where an event is not refused, its goroutine stands ready at some frame
module _ (p : Program) (s : State) (e : Event) where
  abbrev Stood : Type 0
  Stood = (f : Frame) × StandsReady s e.go f

  by_frames : (g : Goroutine) (fs : List Frame) → s.run ≡ live → s.goroutines e.go ≡ Some g → g.status ≡ ready → g.frames ≡ fs
      → refusal_in s (act_in p e g fs) ≡ None → Stood
  by_frames g [] l h r k q = absurd (none_not _ (sym q))
  by_frames g (f ∷ fs) l h r k q = (f, record { runs = l; goroutine = g; here = h; is_ready = r; below = fs; frames = k })

  by_status : (g : Goroutine) (x : Status) → s.run ≡ live → s.goroutines e.go ≡ Some g → g.status ≡ x → refusal_in s (if_ready p e g x) ≡ None → Stood
  by_status g finished l h w q = absurd (none_not _ (sym q))
  by_status g (waiting ws) l h w q = absurd (none_not _ (sym q))
  by_status g ready l h w q = by_frames g g.frames l h w refl q

  by_known : (x : Option Goroutine) → s.run ≡ live → s.goroutines e.go ≡ x → refusal_in s (if_known p e x) ≡ None → Stood
  by_known None l h q = absurd (none_not _ (sym q))
  by_known (Some g) l h q = by_status g g.status l h refl q

  by_run : (r : Run) → s.run ≡ r → refusal_in s (if_live (ask_go e.go (if_known p e)) r) ≡ None → Stood
  by_run live l q = by_known (s.goroutines e.go) l refl q
  by_run ended l q = absurd (none_not _ (sym q))
  by_run (faulted f) l q = absurd (none_not _ (sym q))

  stood : refusal p s e ≡ None → Stood
  stood q = by_run s.run refl q

-- a select has clauses
clauses : (d : Outcome Deed) → is_select d ≡ true → (cs : List Communication) × (d ≡ gives (Chooses cs))
clauses (gives (Chooses cs)) t = (cs, refl)
clauses (gives (Moves on)) t = absurd (no_truth t)
clauses (gives (Prints line)) t = absurd (no_truth t)
clauses (gives (Enters f vs)) t = absurd (no_truth t)
clauses (gives (Leaves v)) t = absurd (no_truth t)
clauses (gives (Starts f vs)) t = absurd (no_truth t)
clauses (gives (Makes n)) t = absurd (no_truth t)
clauses (gives (TakesLen c)) t = absurd (no_truth t)
clauses (gives (TakesCap c)) t = absurd (no_truth t)
clauses (gives (Closes c)) t = absurd (no_truth t)
clauses (gives (Communicates c)) t = absurd (no_truth t)
clauses (faults e) t = absurd (no_truth t)
clauses wrong t = absurd (no_truth t)

none_of : (test : ℕ → Bool) (ns : List ℕ) → ((i : ℕ) → test i ≡ false) → filter test ns ≡ []
none_of test [] none = refl
none_of test (i ∷ ns) none = ap (λ b. if b then i ∷ filter test ns else filter test ns) (none i) ∙ none_of test ns none

module _ (p : Program) (s : State) (g : List ℕ) where
  abbrev at : Choice → Event
  at c = record { go = g; choice = c }

  refused : (c : Choice) → NoChoice (refusal p s (at c)) → may p s g c ≡ false
  refused c (inl q) = ap is_none q
  refused c (inr q) = ap is_none q

  -- the usual choice where no clause may be picked
  abbrev by_tests : Bool → Bool → Choice
  by_tests a b = get_or (if a then Default ∷ (if b then Park ∷ [] else []) else (if b then Park ∷ [] else [])) 0 Plain

  usual_is : ((i : ℕ) → may p s g (Pick i) ≡ false) → usual_choice p s g ≡ by_tests (may p s g Default) (may p s g Park)
  usual_is none =
      ap (λ ns. get_or (map Pick ns ++ filter (may p s g) (Default ∷ Park ∷ [])) 0 Plain)
      (none_of (λ i. may p s g (Pick i)) (range_with_len 1 (how_many_clauses (s.goroutines g))) none)

  -- what is usual where only the plain choice, the default clause, or to wait is allowed
  plain_usual : ((c : Choice) → (c ≡ Plain → ⊥) → may p s g c ≡ false) → Plain ≡ usual_choice p s g
  plain_usual none = sym (usual_is (λ i. none (Pick i) (λ q. let n : Pick i ≡ Plain = q in cc))
      ∙ ap (λ a. by_tests a (may p s g Park)) (none Default (λ q. let n : Default ≡ Plain = q in cc))
      ∙ ap (by_tests false) (none Park (λ q. let n : Park ≡ Plain = q in cc)))

  default_usual : ((i : ℕ) → may p s g (Pick i) ≡ false) → may p s g Default ≡ true → Default ≡ usual_choice p s g
  default_usual none t = sym (usual_is none ∙ ap (λ a. by_tests a (may p s g Park)) t)

  park_usual : ((i : ℕ) → may p s g (Pick i) ≡ false) → may p s g Default ≡ false → may p s g Park ≡ true → Park ≡ usual_choice p s g
  park_usual none f t = sym (usual_is none ∙ ap (λ a. by_tests a (may p s g Park)) f ∙ ap (by_tests false) t)

  -- where no communication can proceed, none can be picked
  cannot_from : (cs : List Communication) (i : ℕ) → list_any (can_proceed s) cs ≡ false → CannotPick s (slice_get cs i)
  cannot_from [] i f = tt
  cannot_from (c ∷ cs) zero f = (or_false (can_proceed s c) (list_any (can_proceed s) cs) f).0
  cannot_from (c ∷ cs) (suc i) f = cannot_from cs i (or_false (can_proceed s c) (list_any (can_proceed s) cs) f).1

  cannot : (cs : List Communication) (i : ℕ) → list_any (can_proceed s) cs ≡ false → CannotPick s (clause_at cs i)
  cannot cs zero f = tt
  cannot cs (suc i) f = cannot_from cs i f

  abbrev Usual : Choice → Type 0
  Usual c = (c ≡ usual_choice p s g) ⊎ ((i : ℕ) × (c ≡ Pick i))

  module _ (f : Frame) (h : StandsReady s g f) where
    -- a statement that is no select
    at_plain : (c : Choice) → is_select (deed f) ≡ false → refusal p s (at c) ≡ None → Usual c
    at_plain Plain n q = inl (plain_usual (λ c k. refused c (inl ((if_plain p s (at c) f h n).1 k))))
    at_plain (Pick i) n q = inr (i, refl)
    at_plain Default n q = absurd (none_not _ (sym q ∙ (if_plain p s (at Default) f h n).1 (λ e. let n : Default ≡ Plain = e in cc)))
    at_plain Park n q = absurd (none_not _ (sym q ∙ (if_plain p s (at Park) f h n).1 (λ e. let n : Park ≡ Plain = e in cc)))

    module _ (cs : List Communication) (d : deed f ≡ gives (Chooses cs)) where
      has_such : (c : Choice) → refusal p s (at c) ≡ None → HasNoSuch s cs c → ⊥
      has_such c q k = by_reason (refusal p s (at c)) q ((if_select p s (at c) f h cs d).1 k)
        where
          by_reason : (o : Option Refusal) → o ≡ None → NoChoice o → ⊥
          by_reason o q (inl k) = none_not _ (sym q ∙ k)
          by_reason o q (inr k) = none_not _ (sym q ∙ k)

      is_refused : (c : Choice) → HasNoSuch s cs c → may p s g c ≡ false
      is_refused c k = refused c ((if_select p s (at c) f h cs d).1 k)

      none_proceeds : (b : Bool) → list_any (can_proceed s) cs ≡ b → (list_any (can_proceed s) cs ≡ true → ⊥) → list_any (can_proceed s) cs ≡ false
      none_proceeds true e n = absurd (n e)
      none_proceeds false e n = e

      no_pick : (list_any (can_proceed s) cs ≡ true → ⊥) → (i : ℕ) → may p s g (Pick i) ≡ false
      no_pick n i = is_refused (Pick i) (cannot cs i (none_proceeds (list_any (can_proceed s) cs) refl n))

      no_default : (o : Option ℕ) → o ≡ default_from 1 cs → ((i : ℕ) × (default_from 1 cs ≡ Some i) → ⊥) → default_from 1 cs ≡ None
      no_default None e n = sym e
      no_default (Some i) e n = absurd (n (i, sym e))

      at_select : (c : Choice) → refusal p s (at c) ≡ None → Usual c
      at_select Plain q = absurd (has_such Plain q tt)
      at_select (Pick i) q = inr (i, refl)
      at_select Default q = inl (default_usual (no_pick (λ t. has_such Default q (inr t))) (ap is_none q))
      at_select Park q = inl (park_usual (no_pick (λ t. has_such Park q (inr t)))
          (is_refused Default (inl (no_default (default_from 1 cs) refl (λ e. has_such Park q (inl e))))) (ap is_none q))

    at_frame : (c : Choice) → refusal p s (at c) ≡ None → Usual c
    at_frame c q = elim (true_or_false (is_select (deed f))) [
      | inl t ↦ let k = clauses (deed f) t in at_select k.0 k.1 c q
      | inr n ↦ at_plain c n q
    ]

  allowed_is_usual : (c : Choice) → refusal p s (at c) ≡ None → Usual c
  allowed_is_usual c q = let k = stood p s (at c) q in at_frame k.0 k.1 c q

pub step_is_usual : (p : Program) (s t : State) (e : Event) (n : (machine p).Note) → (machine p).step s e ≡ Some (t, n)
    → (e.choice ≡ usual_choice p s e.go) ⊎ ((i : ℕ) × (e.choice ≡ Pick i))
step_is_usual p s t e n step = allowed_is_usual p s e.go e.choice (by_refusal (refusal p s e) refl)
  where
    by_refusal : (o : Option Refusal) → refusal p s e ≡ o → refusal p s e ≡ None
    by_refusal None q = q
    by_refusal (Some r) q = absurd (none_not _ (sym ((refused_is_no_step p s e).1 (r, q)) ∙ step))
