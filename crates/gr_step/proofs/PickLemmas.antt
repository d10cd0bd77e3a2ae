-- A pick of a clause that receives at a select in which no clause sends, from the arms of the instruction.
use Rattle.std.proofs.Common.{◌≡◌, ℕ, zero, suc, ◌-◌, ◌≤◌, Bool, true, false, ◌||◌, List, [], ◌∷◌, Option, Some, None}
use Rattle.std.proofs.Common.{refl, sym, ap, subst, ◌∙◌, arith}
use Rattle.std.specs.Prelude.{slice_get, option_map, is_none, IfSome}
use Rattle.std.specs.List.{list_any, list_all}
use Rattle.gr_base.specs.declared.names.ChName.{ChName}
use Rattle.gr_base.specs.declared.values.Value.{Value}
use Rattle.gr_base.specs.declared.events.Choice.TheVariants.{Pick}
use Rattle.gr_base.specs.declared.events.Event.{Event}
use Rattle.gr_program.specs.Programs.{Program}
use Rattle.gr_program.specs.TypeViews.{literal_of}
use Rattle.gr_rules.specs.Outcomes.{Outcome, gives, faults, wrong, ◌>>=◌}
use Rattle.gr_rules.specs.Operands.{value_of}
use Rattle.gr_rules.specs.Evaluation.{Variables}
use Rattle.gr_rules.specs.Deeds.{Communication, Receiving, Chooses}
use Rattle.gr_rules.specs.Actors.{clause_at}
use Rattle.gr_rules.specs.Attempts.{refuse, no_such_choice}
use Rattle.gr_rules.specs.Communications.{receive}
use Rattle.gr_rules.specs.Selects.{values_of}
use Rattle.gr_rules.specs.Steps.{attempt, refusal}
use Rattle.gr_code.specs.Instructions.{Arm, DefaultArm, SendArm, ReceiveArm}
use Rattle.gr_code.specs.CodeFrames.{ProgramCode, CodeFrame, Wants}
use Rattle.gr_code.specs.CodeViews.{arm_of, arms_of}
use Rattle.gr_code.specs.declared.code.Arm as code_arm
use Rattle.gr_code.specs.Goroutines.{CodeGoroutine, task_in, task_of}
use Rattle.gr_code.specs.Programs.{IsClause}
use Rattle.gr_refine.specs.Arriving.{HasClauseHere}
use Rattle.gr_refine.specs.Attempting.{is_plain}
use Rattle.gr_refine.specs.Looks.{Ends}
use Rattle.gr_refine.proofs.LocalLemmas.{never, faults_never}
use Rattle.gr_goros.specs.Needs.{clause_by, one_channel, SelectsIn}
use Rattle.gr_goros.specs.Views.{Seen}
use Rattle.gr_tables.specs.NamedGoroutines.{seen_at}
use Rattle.gr_lower.specs.Lowered.{lowered}
use Rattle.gr_step.specs.declared.objects.Objects.{Objects}
use Rattle.gr_step.specs.declared.picking.Picked.{Picked}
use Rattle.gr_record.specs.Listings.{frame_in, state_in}
use Rattle.gr_step.specs.Objects.{contents_in}
use Rattle.gr_step.specs.Picks.{is_send, PicksArm, PicksReceive}
use Rattle.gr_step.specs.Possible.{arm_at, arm_given, channel_given}
use Rattle.gr_step.specs.Premises.{Acting, OfActor}
use Rattle.gr_step.specs.Communicating.{TrialIsSound, Tried, Chosen}
use Rattle.gr_record.specs.Effects.{Effect}
use Rattle.gr_refine.specs.Contents.{Contents}
use Rattle.gr_step.proofs.EventLemmas.{some_is, found_is}
use Rattle.gr_step.proofs.PossibleLemmas.{AreClauses, no_clause, clause, have, innermost, task_of_arms, plain_at_fault, arms_at}
use Rattle.gr_step.proofs.SelectLemmas.{of_actor, of_actor_now, pick_communicates, pick_has_clause, trial_sound, trial_chosen}

neither : (a b : Bool) → (a || b) ≡ false → (a ≡ false) × (b ≡ false)
neither false b none = (refl, none)
neither true b none = let no : true ≡ false = none in cc

-- the values to send of a clause and of others
abbrev values_with : List Communication → Outcome Communication → Outcome (List Value)
values_with ws o = elim o [ gives w ↦ values_of (w ∷ ws) | _ ↦ wrong ]

abbrev given_or_none : Outcome Communication → Option Communication
given_or_none o = elim o [ gives w ↦ Some w | _ ↦ None ]

module _ (cells : Variables) where
  -- arms that do not send have no values
  receives_none : (initial : Value) (w : Communication) (ws : List Communication) (o : Outcome (Option ChName))
      → (o >>= λ c. gives (Receiving c initial)) ≡ gives w → values_of (w ∷ ws) ≡ values_of ws
  receives_none initial w ws (gives c) is = sym (ap (values_with ws) is)
  receives_none initial w ws (faults e) is = absurd (faults_never e is)
  receives_none initial w ws wrong is = absurd (never is)

  no_value : (a : Arm) (w : Communication) (ws : List Communication) → clause_by cells a ≡ gives w → is_send a ≡ false
      → values_of (w ∷ ws) ≡ values_of ws
  no_value (DefaultArm on) w ws is none = sym (ap (values_with ws) is)
  no_value (SendArm channel value on) w ws is none = absurd (let no : true ≡ false = none in cc)
  no_value (ReceiveArm channel initial into on) w ws is none = receives_none initial w ws (one_channel cells channel) is

  no_values : {arms : List Arm} {ws : List Communication} → AreClauses cells arms ws → list_any is_send arms ≡ false → values_of ws ≡ gives []
  no_values no_clause none = refl
  no_values (clause {a} {arms} {w} {ws} is rest) none =
      let apart = neither (is_send a) (list_any is_send arms) none in no_value a w ws is apart.0 ∙ no_values rest apart.1

  -- the clause of the arm with a number
  there_too : {arms : List Arm} {ws : List Communication} → AreClauses cells arms ws → (i : ℕ) (b : Arm) (v : Communication)
      → slice_get arms i ≡ Some b → clause_by cells b ≡ gives v → slice_get ws i ≡ Some v
  there_too no_clause i b v there by = absurd (let no : None ≡ Some b = there in cc)
  there_too (clause {a} {arms} {w} {ws} is rest) zero b v there by = ap given_or_none (sym is ∙ ap (clause_by cells) (some_is there) ∙ by)
  there_too (clause is rest) (suc i) b v there by = there_too rest i b v there by

  numbered_too : {arms : List Arm} {ws : List Communication} → AreClauses cells arms ws → (n : ℕ) (b : Arm) (v : Communication)
      → arm_at arms n ≡ Some b → clause_by cells b ≡ gives v → clause_at ws n ≡ Some v
  numbered_too are zero b v there by = absurd (let no : None ≡ Some b = there in cc)
  numbered_too are (suc i) b v there by = there_too are i b v there by

pub channel_is : (o : Outcome (Option ChName)) (c : ChName) → Some c ≡ channel_given o → o ≡ gives (Some c)
channel_is (gives c) d is = ap gives (sym is)
channel_is (faults e) d is = absurd (let no : Some d ≡ None = is in cc)
channel_is wrong d is = absurd (let no : Some d ≡ None = is in cc)

-- the arm of code with a number, counted from 1
pub arm_counted : (arms : List code_arm.Arm) (n place : ℕ) → 1 ≤ n → place ≡ n - 1
    → option_map arm_of (slice_get arms place) ≡ arm_at (arms_of arms) n
arm_counted arms n place some is =
    sym (arms_at arms place) ∙ ap (arm_at (arms_of arms)) (let more : suc place ≡ n = omega (arith, some, is) in more)

module _ (p : Program) (e : Event) (number : ℕ) (o : Objects) (a : Acting p e number o)
    (possible : refusal p (state_in p (contents_in o)) e ≡ None) where
  -- all channels of the clauses are given where a pick is possible
  module _ (f : CodeFrame) (below : List CodeFrame) (frames : a.goroutine.frames ≡ f ∷ below) (arms : List Arm)
      (selects : SelectsIn (lowered p) (f ∷ below) arms) (i : ℕ) (pick : e.choice ≡ Pick i) where
    all_there : list_all (arm_given f.cells) arms ≡ true
    all_there = by (list_all (arm_given f.cells) arms) refl
      where
        by : (b : Bool) → list_all (arm_given f.cells) arms ≡ b → list_all (arm_given f.cells) arms ≡ true
        by true is = is
        by false is =
            absurd (let no : false ≡ true = sym (ap is_plain pick) ∙ plain_at_fault p e number o a f below frames arms selects is ∙ ap is_none possible in cc)

    receives_here : (x : Picked) → PicksArm f.cells arms i x → PicksReceive p e (contents_in o) x
    receives_here x h =
        let cs = have f.cells arms all_there in
        let task : task_of (lowered p) a.goroutine ≡ gives (Wants (Chooses cs.ws)) =
        ap (task_in (lowered p)) frames ∙ task_of_arms (lowered p) f below arms selects
        ∙ ap (λ c. c >>= λ ws. gives (Wants (Chooses ws))) cs.is in
        let w = Receiving (Some x.channel) (value_of (literal_of x.zero)) in
        let picks : e.choice ≡ Pick x.case = pick ∙ ap Pick (sym h.numbered) in
        let there : clause_at cs.ws x.case ≡ Some w =
        ap (clause_at cs.ws) h.numbered ∙ numbered_too f.cells cs.are i h.arm w h.there h.clause in
        record {
          clause = of_actor p e number o a (λ g. IsClause (Some x.case) × HasClauseHere (lowered p) g.frames (Some x.case))
              (pick_has_clause p e number o a cs.ws task x.case picks w there);
          step = of_actor_now p e number o a
              (λ b. Ends (frame_in p) (contents_in o) (attempt p e)
              (receive b (Some x.case) x.channel (value_of (literal_of x.zero)) (refuse no_such_choice)))
              (pick_communicates p e number o a cs.ws task x.case picks w there [] (no_values f.cells cs.are h.none_sends));
        }

  -- of the goroutine that is found under its number
  pub receives : (code : ProgramCode) (x : Seen) → code ≡ lowered p → seen_at o.goroutines number ≡ Some x
      → (f : CodeFrame) (cells : Variables) (arms : List Arm) → SelectsIn code x.content.frames arms → slice_get x.content.frames 0 ≡ Some f
      → cells ≡ f.cells → (i : ℕ) → e.choice ≡ Pick i → (picked : Picked) → PicksArm cells arms i picked
      → PicksReceive p e (contents_in o) picked
  receives code x is at f cells arms selects first are i pick picked h =
      let its : x.content.frames ≡ a.goroutine.frames = ap (λ (g : CodeGoroutine). g.frames) (found_is p e number o a x at) in
      let here = innermost a.goroutine.frames f (ap (λ fs. slice_get fs 0) (sym its) ∙ first) in
      receives_here f here.0 here.1 arms
      (subst (λ fs. SelectsIn (lowered p) fs arms) (its ∙ here.1) (subst (λ c. SelectsIn c x.content.frames arms) is selects)) i pick picked
      (subst (λ c. PicksArm c arms i picked) are h)

-- the receive of the clause, which is the step
module _ (p : Program) (e : Event) (number : ℕ) (o : Objects) (a : Acting p e number o) (x : Picked) (h : PicksReceive p e (contents_in o) x)
    (zero_value : Value) (is : zero_value ≡ value_of (literal_of x.zero)) where
  step_of : OfActor p e (contents_in o)
      (λ b. Ends (frame_in p) (contents_in o) (attempt p e) (receive b (Some x.case) x.channel zero_value (refuse no_such_choice)))
  step_of =
      subst (λ v. OfActor p e (contents_in o)
      (λ b. Ends (frame_in p) (contents_in o) (attempt p e) (receive b (Some x.case) x.channel v (refuse no_such_choice)))) (sym is) h.step

  pub picked_sound : TrialIsSound p e (contents_in o) (λ b otherwise. receive b (Some x.case) x.channel zero_value otherwise)
  picked_sound = trial_sound p e number o a (λ b otherwise. receive b (Some x.case) x.channel zero_value otherwise) step_of

  pub picked_chosen : (change : Option Effect) (t : Contents)
      → Tried p e (λ b otherwise. receive b (Some x.case) x.channel zero_value otherwise) (contents_in o) change t
      → Chosen p e (contents_in o) change t
  picked_chosen = trial_chosen p e number o a (λ b otherwise. receive b (Some x.case) x.channel zero_value otherwise) step_of

pub if_some : {X : Type 0} {P Q : X → Type 0} (o : Option X) → ((x : X) → P x → Q x) → IfSome o P → IfSome o Q
if_some None weaker h = h
if_some (Some x) weaker h = weaker x h
