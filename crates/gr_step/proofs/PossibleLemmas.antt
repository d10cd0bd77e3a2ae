-- Which choices of a goroutine that is ready are steps, by the arms of its instruction.
use Rattle.std.proofs.Common.{◌≡◌, ℕ, zero, suc, ◌+◌, Bool, true, false, ◌&&◌, ◌||◌, not, List, [], ◌∷◌, Option, Some, None}
use Rattle.std.proofs.Common.{refl, sym, ap, ap₂, subst, ◌∙◌}
use Rattle.std.specs.Prelude.{is_some, is_none, slice_get, option_map}
use Rattle.std.specs.List.{list_any, list_all}
use Rattle.std.specs.Option.{option_map_or}
use Rattle.gr_base.specs.declared.events.Choice.{Choice}
use Rattle.gr_base.specs.declared.events.Choice.TheVariants.{Plain, Pick, Default, Park}
use Rattle.gr_base.specs.declared.events.Event.{Event}
use Rattle.gr_program.specs.Programs.{Program}
use Rattle.gr_rules.specs.Outcomes.{Outcome, gives, faults, wrong, ◌>>=◌}
use Rattle.gr_base.specs.declared.names.ChName.{ChName}
use Rattle.gr_rules.specs.Evaluation.{Variables, evaluate}
use Rattle.gr_rules.specs.Deeds.{Communication, Sending, Receiving, Chooses}
use Rattle.gr_rules.specs.Attempts.{no_such_choice}
use Rattle.gr_rules.specs.Actors.{clause_at}
use Rattle.gr_rules.specs.Selects.{default_from}
use Rattle.gr_rules.specs.Steps.{attempt, refusal}
use Rattle.gr_rules.specs.Tells.{may}
use Rattle.gr_code.specs.Instructions.{Arm, DefaultArm, SendArm, ReceiveArm, clauses_of}
use Rattle.gr_code.specs.CodeFrames.{ProgramCode, CodeFrame, Wants, task}
use Rattle.gr_code.specs.Goroutines.{CodeGoroutine, task_in, task_of}
use Rattle.gr_code.specs.CodeViews.{arm_of, arms_of}
use Rattle.gr_code.specs.declared.code.Arm as code_arm
use Rattle.gr_refine.specs.Attempting.{is_plain}
use Rattle.gr_refine.specs.Contents.{Contents}
use Rattle.gr_refine.specs.Leaves.{Refuses}
use Rattle.gr_refine.specs.Looks.{actor_of}
use Rattle.gr_refine.specs.Partners.{AreChannels, can_proceed}
use Rattle.gr_refine.specs.Tasks.{chooses}
use Rattle.gr_refine.proofs.MachineLemmas.{refusal_is_leaf}
use Rattle.gr_refine.proofs.SelectLemmas.{picking_of_none}
use Rattle.gr_refine.proofs.TaskLemmas.{attempt_is_of_the_task, task_wants_a_choice}
use Rattle.gr_refine.proofs.LocalLemmas.{never, faults_never}
use Rattle.gr_goros.specs.Needs.{clause_by, one_channel, is_select_in, SelectsIn}
use Rattle.gr_goros.specs.Views.{Seen}
use Rattle.gr_tables.specs.NamedGoroutines.{seen_at}
use Rattle.gr_lower.specs.Lowered.{lowered, meaning}
use Rattle.gr_step.specs.declared.objects.Objects.{Objects}
use Rattle.gr_step.specs.Choices.{Selects}
use Rattle.gr_record.specs.Listings.{frame_in, state_in}
use Rattle.gr_step.specs.Objects.{contents_in}
use Rattle.gr_step.specs.Possible.{is_given, choice_goes, arm_given, goes_by, arm_goes, is_default, arm_at, arms_go}
use Rattle.gr_record.specs.Running.{Running}
use Rattle.gr_step.specs.Premises.{Acting}
use Rattle.gr_step.proofs.EventLemmas.{some_is, found_is, plain_goes, others_refused}
use Rattle.gr_step.proofs.ChoiceLemmas.{are_channels}
use Rattle.gr_step.proofs.NoChoiceLemmas.{no_select}
use Rattle.gr_step.proofs.MayLemmas.{acts_at, chosen_by, may_pick, default_by, park_by}

-- the first clause, and then the others
in_turn : {A B C : Type 0} → (o : Outcome A) (k : A → Outcome B) (g : B → Outcome C) → (o >>= λ x. k x >>= g) ≡ ((o >>= k) >>= g)
in_turn (gives x) k g = refl
in_turn (faults e) k g = refl
in_turn wrong k g = refl

clauses_step : (cells : Variables) (a : Arm) (arms : List Arm)
    → clauses_of cells (a ∷ arms) ≡ (clause_by cells a >>= λ w. clauses_of cells arms >>= λ ws. gives (w ∷ ws))
clauses_step cells (DefaultArm on) arms = refl
clauses_step cells (SendArm channel value on) arms = in_turn (one_channel cells channel) _ _
clauses_step cells (ReceiveArm channel initial into on) arms = in_turn (one_channel cells channel) _ _

-- the clauses of arms, one for each
pub data AreClauses (cells : Variables) : List Arm → List Communication → Type 0 where
  no_clause : AreClauses cells [] []
  clause : {a : Arm} {arms : List Arm} {w : Communication} {ws : List Communication}
      → clause_by cells a ≡ gives w → AreClauses cells arms ws → AreClauses cells (a ∷ arms) (w ∷ ws)

-- all of them are given where each is
both_given : (o : Outcome Communication) (rest : Outcome (List Communication))
    → is_given (o >>= λ w. rest >>= λ ws. gives (w ∷ ws)) ≡ (is_given o && is_given rest)
both_given (gives w) (gives ws) = refl
both_given (gives w) (faults e) = refl
both_given (gives w) wrong = refl
both_given (faults e) rest = refl
both_given wrong rest = refl

pub all_given : (cells : Variables) (arms : List Arm) → list_all (arm_given cells) arms ≡ is_given (clauses_of cells arms)
all_given cells [] = refl
all_given cells (a ∷ arms) =
    ap (λ b. arm_given cells a && b) (all_given cells arms) ∙ sym (both_given (clause_by cells a) (clauses_of cells arms))
    ∙ sym (ap is_given (clauses_step cells a arms))

-- an outcome that is given has a value
given_by : {A : Type 0} (o : Outcome A) → is_given o ≡ true → (x : A) × (o ≡ gives x)
given_by (gives x) h = (x, refl)
given_by (faults e) h = let no : false ≡ true = h in cc
given_by wrong h = let no : false ≡ true = h in cc

both_true : (a b : Bool) → (a && b) ≡ true → (a ≡ true) × (b ≡ true)
both_true true b h = (refl, h)
both_true false b h = let no : false ≡ true = h in cc

pub record HaveClauses (cells : Variables) (arms : List Arm) : Type 0 where
  pub ws : List Communication
  pub is : clauses_of cells arms ≡ gives ws
  pub are : AreClauses cells arms ws

pub have : (cells : Variables) (arms : List Arm) → list_all (arm_given cells) arms ≡ true → HaveClauses cells arms
have cells [] h = record { ws = []; is = refl; are = no_clause }
have cells (a ∷ arms) h =
    let both = both_true (arm_given cells a) (list_all (arm_given cells) arms) h in
    let first = given_by (clause_by cells a) both.0 in
    let rest = have cells arms both.1 in
    record {
      ws = first.0 ∷ rest.ws;
      is = clauses_step cells a arms ∙ ap (λ o. o >>= λ w. clauses_of cells arms >>= λ ws. gives (w ∷ ws)) first.1
          ∙ ap (λ o. o >>= λ ws. gives (first.0 ∷ ws)) rest.is;
      are = clause first.1 rest.are;
    }

-- what is true of the arms is true of the clauses
module _ (s : Contents) (cells : Variables) where
  goes_as : (a : Arm) (w : Communication) → clause_by cells a ≡ gives w → arm_goes s cells a ≡ can_proceed s w
  goes_as a w is = ap (goes_by s) is

  any_goes : {arms : List Arm} {ws : List Communication} → AreClauses cells arms ws → list_any (arm_goes s cells) arms ≡ list_any (can_proceed s) ws
  any_goes no_clause = refl
  any_goes (clause {a} {arms} {w} {ws} is rest) = ap₂ (λ a b. a || b) (goes_as a w is) (any_goes rest)

  one_goes : {arms : List Arm} {ws : List Communication} → AreClauses cells arms ws → (i : ℕ)
      → option_map_or (arm_goes s cells) (slice_get arms i) false ≡ option_map_or (can_proceed s) (slice_get ws i) false
  one_goes no_clause i = refl
  one_goes (clause {a} {arms} {w} {ws} is rest) zero = goes_as a w is
  one_goes (clause is rest) (suc i) = one_goes rest i

  numbered_goes : {arms : List Arm} {ws : List Communication} → AreClauses cells arms ws → (i : ℕ)
      → option_map_or (arm_goes s cells) (arm_at arms i) false ≡ option_map_or (can_proceed s) (clause_at ws i) false
  numbered_goes are zero = refl
  numbered_goes are (suc i) = one_goes are i

-- another clause is no default one
abbrev from_first : ℕ → List Communication → Outcome Communication → Bool
from_first k ws o = elim o [ gives v ↦ is_some (default_from k (v ∷ ws)) | _ ↦ true ]

other_as : (make : Option ChName → Communication) (w : Communication) (ws : List Communication) (k : ℕ)
    → ((c : Option ChName) → default_from (k + 1) ws ≡ default_from k (make c ∷ ws))
    → (o : Outcome (Option ChName)) → (o >>= λ c. gives (make c)) ≡ gives w
    → is_some (default_from (k + 1) ws) ≡ is_some (default_from k (w ∷ ws))
other_as make w ws k past (gives c) is = ap is_some (past c) ∙ ap (from_first k ws) is
other_as make w ws k past (faults e) is = absurd (faults_never e is)
other_as make w ws k past wrong is = absurd (never is)

default_as : (cells : Variables) (a : Arm) (w : Communication) (ws : List Communication) (k : ℕ) (b : Bool) → clause_by cells a ≡ gives w
    → b ≡ is_some (default_from (k + 1) ws) → (is_default a || b) ≡ is_some (default_from k (w ∷ ws))
default_as cells (DefaultArm on) w ws k b is rest =
    ap (from_first k ws) is
default_as cells (SendArm channel value on) w ws k b is rest =
    rest ∙ other_as (λ c. Sending c (evaluate cells value)) w ws k (λ c. refl) (one_channel cells channel) is
default_as cells (ReceiveArm channel initial into on) w ws k b is rest =
    rest ∙ other_as (λ c. Receiving c initial) w ws k (λ c. refl) (one_channel cells channel) is

pub has_default : {cells : Variables} {arms : List Arm} {ws : List Communication} → AreClauses cells arms ws → (k : ℕ)
    → list_any is_default arms ≡ is_some (default_from k ws)
has_default no_clause k = refl
has_default {cells} (clause {a} {arms} {w} {ws} is rest) k = default_as cells a w ws k (list_any is_default arms) is (has_default rest (k + 1))

none_is : {A : Type 0} (o : Option A) → not (is_some o) ≡ is_none o
none_is None = refl
none_is (Some x) = refl

arms_go_as : (s : Contents) (cells : Variables) (arms : List Arm) (ws : List Communication) → AreClauses cells arms ws → (choice : Choice)
    → arms_go s cells arms choice ≡ choice_goes s ws choice
arms_go_as s cells arms ws are Plain = refl
arms_go_as s cells arms ws are (Pick i) = numbered_goes s cells are i
arms_go_as s cells arms ws are Default = ap₂ (λ a b. a && not b) (has_default are 1) (any_goes s cells are)
arms_go_as s cells arms ws are Park =
    ap₂ (λ a b. not a && not b) (has_default are 1) (any_goes s cells are)
    ∙ ap (λ a. a && not (list_any (can_proceed s) ws)) (none_is (default_from 1 ws))

-- which choices of a select are steps
module _ (p : Program) (s : Contents) (run : Running p s) (valid : AreChannels s) (n : List ℕ) (ws : List Communication) (at : Selects p s n ws) where
  refused : (choice : Choice) → Refuses (attempt p (chosen_by n choice)) (state_in p s) no_such_choice → may p (state_in p s) n choice ≡ false
  refused choice h = ap is_none ((refusal_is_leaf p (state_in p s) (chosen_by n choice) no_such_choice).1 h)

  by_clause : (i : ℕ) (o : Option Communication) → clause_at ws i ≡ o
      → may p (state_in p s) n (Pick i) ≡ option_map_or (can_proceed s) o false
  by_clause i (Some w) is = may_pick p s run valid n ws at i w is
  by_clause i None is =
      let h = acts_at p s run (chosen_by n (Pick i)) at.goroutine at.runs at.there at.is_ready in
      refused (Pick i)
      (attempt_is_of_the_task (meaning p) p (lowered p) s (chosen_by n (Pick i)) at.goroutine h.f h.below (gives (Wants (Chooses ws))) h.acts at.task
      ∙ picking_of_none (frame_in p) s (actor_of (frame_in p) p (chosen_by n (Pick i)) at.goroutine h.f h.below) ws i is)

  pub may_is : (choice : Choice) → may p (state_in p s) n choice ≡ choice_goes s ws choice
  may_is Plain =
      let h = acts_at p s run (chosen_by n Plain) at.goroutine at.runs at.there at.is_ready in
      refused Plain (task_wants_a_choice (meaning p) p (lowered p) s (chosen_by n Plain) at.goroutine h.f h.below ws h.acts at.task refl)
  may_is (Pick i) = by_clause i (clause_at ws i) refl
  may_is Default = default_by p s run valid n ws at (default_from 1 ws) (list_any (can_proceed s) ws) refl refl
  may_is Park = park_by p s run valid n ws at (default_from 1 ws) (list_any (can_proceed s) ws) refl refl

-- the innermost frame
pub innermost : (fs : List CodeFrame) (f : CodeFrame) → slice_get fs 0 ≡ Some f → (below : List CodeFrame) × (fs ≡ f ∷ below)
innermost [] f h = cc
innermost (g ∷ below) f h = (below, ap (λ k. k ∷ below) (some_is h))

-- a select comes to its clauses
pub task_of_arms : (code : ProgramCode) (f : CodeFrame) (below : List CodeFrame) (arms : List Arm) → SelectsIn code (f ∷ below) arms
    → task_in code (f ∷ below) ≡ (clauses_of f.cells arms >>= λ ws. gives (Wants (Chooses ws)))
task_of_arms code f below arms is = ap (λ o. o >>= λ i. task f i) is

pub no_clauses : (o : Outcome (List Communication)) → is_given o ≡ false → chooses (o >>= λ ws. gives (Wants (Chooses ws))) ≡ false
no_clauses (gives ws) h = let no : true ≡ false = h in cc
no_clauses (faults e) h = refl
no_clauses wrong h = refl

module _ (p : Program) (e : Event) (number : ℕ) (o : Objects) (a : Acting p e number o) where
  -- with a task that leaves no choice, the plain one alone is possible
  pub plain_alone : chooses (task_of (lowered p) a.goroutine) ≡ false → is_plain e.choice ≡ is_none (refusal p (state_in p (contents_in o)) e)
  plain_alone none = by e.choice refl
    where
      other : (c : Choice) → e.choice ≡ c → (c ≡ Plain → ⊥) → false ≡ is_none (refusal p (state_in p (contents_in o)) e)
      other c is not_plain = sym (ap is_none (others_refused p e number o a none (λ plain. not_plain (sym is ∙ plain))))

      by : (c : Choice) → e.choice ≡ c → is_plain e.choice ≡ is_none (refusal p (state_in p (contents_in o)) e)
      by Plain is = ap is_plain is ∙ sym (ap is_none (plain_goes p e number o a none is))
      by (Pick i) is = ap is_plain is ∙ other (Pick i) is (λ h. let no : Pick i ≡ Plain = h in cc)
      by Default is = ap is_plain is ∙ other Default is (λ h. let no : Default ≡ Plain = h in cc)
      by Park is = ap is_plain is ∙ other Park is (λ h. let no : Park ≡ Plain = h in cc)

  -- the arms of the select at which it stands
  module _ (f : CodeFrame) (below : List CodeFrame) (frames : a.goroutine.frames ≡ f ∷ below) (arms : List Arm)
      (selects : SelectsIn (lowered p) (f ∷ below) arms) where
    task_is : task_of (lowered p) a.goroutine ≡ (clauses_of f.cells arms >>= λ ws. gives (Wants (Chooses ws)))
    task_is = ap (task_in (lowered p)) frames ∙ task_of_arms (lowered p) f below arms selects

    pub plain_at_fault : list_all (arm_given f.cells) arms ≡ false → is_plain e.choice ≡ is_none (refusal p (state_in p (contents_in o)) e)
    plain_at_fault some = plain_alone (ap chooses task_is ∙ no_clauses (clauses_of f.cells arms) (sym (all_given f.cells arms) ∙ some))

    pub arms_tell : AreChannels (contents_in o) → list_all (arm_given f.cells) arms ≡ true
        → arms_go (contents_in o) f.cells arms e.choice ≡ is_none (refusal p (state_in p (contents_in o)) e)
    arms_tell valid all =
        let h = have f.cells arms all in
        let at : Selects p (contents_in o) e.go h.ws = record {
          runs = a.runs;
          goroutine = a.goroutine;
          there = a.there;
          is_ready = a.is_ready;
          task = task_is ∙ ap (λ c. c >>= λ ws. gives (Wants (Chooses ws))) h.is;
        } in
        arms_go_as (contents_in o) f.cells arms h.ws h.are e.choice
        ∙ sym (may_is p (contents_in o) a.running valid e.go h.ws at e.choice)

  -- the goroutine that is found under its number: it stands at no select
  module _ (code : ProgramCode) (x : Seen) (is : code ≡ lowered p) (at : seen_at o.goroutines number ≡ Some x) where
    its_frames : x.content.frames ≡ a.goroutine.frames
    its_frames = ap (λ (g : CodeGoroutine). g.frames) (found_is p e number o a x at)

    pub plain_elsewhere : is_select_in code x.content.frames ≡ false → is_plain e.choice ≡ is_none (refusal p (state_in p (contents_in o)) e)
    plain_elsewhere other = plain_alone (no_select (lowered p) a.goroutine.frames (sym (ap₂ is_select_in is its_frames) ∙ other))

    -- the goroutine that is found under its number: it stands at a select with these arms
    module _ (f : CodeFrame) (cells : Variables) (arms : List Arm) (selects : SelectsIn code x.content.frames arms)
        (first : slice_get x.content.frames 0 ≡ Some f) (are : cells ≡ f.cells) where
      here : (below : List CodeFrame) × (a.goroutine.frames ≡ f ∷ below)
      here = innermost a.goroutine.frames f (ap (λ fs. slice_get fs 0) (sym its_frames) ∙ first)

      selects_here : SelectsIn (lowered p) (f ∷ here.0) arms
      selects_here = subst (λ fs. SelectsIn (lowered p) fs arms) (its_frames ∙ here.1) (subst (λ c. SelectsIn c x.content.frames arms) is selects)

      pub fault_tells : list_all (arm_given cells) arms ≡ false → is_plain e.choice ≡ is_none (refusal p (state_in p (contents_in o)) e)
      fault_tells some = plain_at_fault f here.0 here.1 arms selects_here (ap (λ c. list_all (arm_given c) arms) (sym are) ∙ some)

      pub choice_tells : list_all (arm_given cells) arms ≡ true
          → arms_go (contents_in o) cells arms e.choice ≡ is_none (refusal p (state_in p (contents_in o)) e)
      choice_tells all =
          ap (λ c. arms_go (contents_in o) c arms e.choice) are
          ∙ arms_tell f here.0 here.1 arms selects_here (are_channels o) (ap (λ c. list_all (arm_given c) arms) (sym are) ∙ all)

-- the arm of code with a number
pub arms_at : (arms : List code_arm.Arm) (i : ℕ) → slice_get (arms_of arms) i ≡ option_map arm_of (slice_get arms i)
arms_at [] i = refl
arms_at (a ∷ arms) zero = refl
arms_at (a ∷ arms) (suc i) = arms_at arms i

pub arm_here : (s : Contents) (cells : Variables) (arms : List code_arm.Arm) (n place : ℕ) (o : Option code_arm.Arm)
    → n ≡ suc place → slice_get arms place ≡ o
    → option_map_or (λ a. arm_goes s cells (arm_of a)) o false ≡ option_map_or (arm_goes s cells) (arm_at (arms_of arms) n) false
arm_here s cells arms n place o number is =
    by o ∙ ap (λ x. option_map_or (arm_goes s cells) x false) (ap (option_map arm_of) (sym is) ∙ sym (arms_at arms place))
    ∙ ap (λ m. option_map_or (arm_goes s cells) (arm_at (arms_of arms) m) false) (sym number)
  where
    by : (x : Option code_arm.Arm)
        → option_map_or (λ a. arm_goes s cells (arm_of a)) x false ≡ option_map_or (arm_goes s cells) (option_map arm_of x) false
    by None = refl
    by (Some a) = refl
