-- Wherever an instruction goes on, the temporaries are as the point there wants them.
use Rattle.std.proofs.Common.{ℕ, ◌-◌, zero, suc, Bool, true, false, List, [], ◌∷◌, Option, Some, None}
use Rattle.std.specs.Prelude.{slice_get, if◌then◌else◌}
use Rattle.gr_scan.specs.declared.token.Place.{Place}
use Rattle.gr_base.specs.declared.values.Value.{Value}
use Rattle.gr_program.specs.Programs.{Cases}
use Rattle.gr_rules.specs.Outcomes.{Outcome, gives, faults, wrong, ◌>>=◌}
use Rattle.gr_rules.specs.Operators.{operate}
use Rattle.gr_rules.specs.Operands.{Variable, Operands}
use Rattle.gr_rules.specs.Evaluation.{Variables, evaluate, evaluate_all}
use Rattle.gr_rules.specs.Parts.{Ask, Calls, Receives, CountsItems, CountsPlaces, Decides}
use Rattle.gr_rules.specs.Parts as parts
use Rattle.gr_rules.specs.Points.{Rest, Point}
use Rattle.gr_rules.specs.Frames.{assigned}
use Rattle.gr_rules.specs.Deeds.{as_channel, as_int, as_truth, only, texts}
use Rattle.gr_code.specs.Filling.{keeping, ClearAll}
use Rattle.gr_code.specs.Instructions.{Arm, Action, Assigns, AssignsReceived, Updates, ClosesChannel, PrintsLine, Sends, StartsFunction, Returns, GoesOn, Fails, Tests, Ranges, Turns, Instruction, Part, Perform, Choose, Spot, Doing, asked, clauses_of, perform, on_after, on_past_part, on_past_action, on_past_arm, on_past}
use Rattle.gr_code.specs.Code.{Meanings, Means, FitArms, no_arm, default_arm, send_arm, receive_arm, Fits, IsClear, IfGiven, ClearDoing, StaysClear}
use Rattle.gr_code.specs.Code as code
use Rattle.gr_code.specs.Bounds.{NoneBelow}

pub then_given : {A B : Type 0} → (P : B → Type 0) (o : Outcome A) (f : A → Outcome B) → ((a : A) → IfGiven P (f a)) → IfGiven P (o >>= f)
then_given P (gives a) f h = h a
then_given P (faults e) f h = tt
then_given P wrong f h = tt

module _ (n : ℕ) (means : Meanings) (s : Spot) (all : Variables) (none : NoneBelow n s.temporaries) where
  abbrev D : Doing → Type 0
  D = ClearDoing means

  abbrev C : Spot → Type 0
  C = IsClear means

  -- a part asks, and goes nowhere by itself
  asked_stays : (ask : Ask) → IfGiven D (asked all ask)
  asked_stays (Calls f arguments) = then_given D (evaluate_all all arguments) _ (λ xs. tt)
  asked_stays (Receives c initial) = then_given D (evaluate all c >>= as_channel) _ (λ c. tt)
  asked_stays (parts.Makes n) = then_given D (evaluate all n >>= as_int) _ (λ n. tt)
  asked_stays (CountsItems c) = then_given D (evaluate all c >>= as_channel) _ (λ c. tt)
  asked_stays (CountsPlaces c) = then_given D (evaluate all c >>= as_channel) _ (λ c. tt)
  asked_stays (Decides op left) = tt

  part_stays : (ask : Ask) (slot : Option ℕ) (on : ℕ) → ((v : Value) → ClearAll (keeping s.temporaries slot v) (means on).operands) → StaysClear means s all (Part ask slot on)
  part_stays ask slot on goes = record { does = asked_stays ask; after = tt; resumes = goes; passes = passes }
    where
      by_ask : (ask : Ask) (got : Option (Value × Bool)) → IfGiven C (on_past_part s ask slot on got)
      by_ask (Receives c initial) (Some got) = goes got.0
      by_ask (Receives c initial) None = tt
      by_ask (Calls f arguments) got = tt
      by_ask (parts.Makes n) got = tt
      by_ask (CountsItems c) got = tt
      by_ask (CountsPlaces c) got = tt
      by_ask (Decides op left) got = tt

      passes : (clause : Option ℕ) (got : Option (Value × Bool)) → IfGiven C (on_past s (Part ask slot on) clause got)
      passes None got = by_ask ask got
      passes (Some number) got = tt

  -- an action that stays clear, where it goes on and past its communication
  action_stays : (action : Action) (es : Operands) → ((xs : List Value) → IfGiven D (perform s action xs)) → IfGiven C (on_after s (Perform action es))
      → ((got : Option (Value × Bool)) → IfGiven C (on_past_action s action got)) → StaysClear means s all (Perform action es)
  action_stays action es does after gets = record { does = then_given D (evaluate_all all es) (perform s action) does; after = after; resumes = λ v. tt; passes = passes }
    where
      passes : (clause : Option ℕ) (got : Option (Value × Bool)) → IfGiven C (on_past s (Perform action es) clause got)
      passes None got = gets got
      passes (Some number) got = tt

  module _ (place : Place) (whole : Operands) (rest : Rest) (clear : ClearAll s.temporaries whole) where
    arm_stays : (i number : ℕ) (cases : Cases) (es : Operands) (arms : List Arm) → FitArms n means place whole rest number cases es arms
        → (got : Option (Value × Bool)) → IfGiven C (on_past_arm s (slice_get arms i) got)
    arm_stays i _ _ _ _ (no_arm number) got = tt
    arm_stays zero _ _ _ _ (default_arm number body others es arms on continues fit) None = (continues s.temporaries none clear).1
    arm_stays zero _ _ _ _ (default_arm number body others es arms on continues fit) (Some got) = tt
    arm_stays (suc i) _ _ _ _ (default_arm number body others es arms on continues fit) got = arm_stays i _ others es arms fit got
    arm_stays zero _ _ _ _ (send_arm number channel value body others c v es arms on continues fit) None = (continues s.temporaries none clear).1
    arm_stays zero _ _ _ _ (send_arm number channel value body others c v es arms on continues fit) (Some got) = tt
    arm_stays (suc i) _ _ _ _ (send_arm number channel value body others c v es arms on continues fit) got = arm_stays i _ others es arms fit got
    arm_stays zero _ _ _ _ (receive_arm number targets channel initial body others c es arms into on goes fit) None = tt
    arm_stays zero _ _ _ _ (receive_arm number targets channel initial body others c es arms into on goes fit) (Some got) = (goes s.temporaries got none clear).1
    arm_stays (suc i) _ _ _ _ (receive_arm number targets channel initial body others c es arms into on goes fit) got = arm_stays i _ others es arms fit got

    select_stays : (cases : Cases) (arms : List Arm) → FitArms n means place whole rest 1 cases whole arms → StaysClear means s all (Choose arms)
    select_stays cases arms fit = record { does = then_given D (clauses_of all arms) _ (λ cs. tt); after = tt; resumes = λ v. tt; passes = passes }
      where
        passes : (clause : Option ℕ) (got : Option (Value × Bool)) → IfGiven C (on_past s (Choose arms) clause got)
        passes None got = tt
        passes (Some number) got = arm_stays (number - 1) 1 cases whole arms fit got

  pub stays : (p : Point) (i : Instruction) → Fits n means p i → ClearAll s.temporaries p.operands → StaysClear means s all i
  stays _ _ (code.part place work es rest ask k slot on asks plain goes) clear = part_stays ask slot on (λ v. (goes s.temporaries v none clear).1)
  stays _ _ (code.decision place work es rest op left k slot settled right asks goes) clear = record {
    does = then_given D (evaluate all left) _ (λ v. (goes s.temporaries v none clear).1);
    after = tt;
    resumes = λ v. (goes s.temporaries v none clear).1;
    passes = λ clause got. tt;
  }
  stays _ _ (code.assignment place targets es rest on plain continues) clear =
      action_stays (Assigns targets on) es (λ xs. then_given D (assigned targets xs s.variables) _ (λ held. (continues s.temporaries none clear).1)) tt (λ got. tt)
  stays _ _ (code.assignment_received place x y initial es rest value ok on plain goes) clear =
      action_stays (AssignsReceived initial value ok on) es (λ xs. then_given D (only xs >>= as_channel) _ (λ c. tt)) tt
      (λ got. elim got as (λ got. IfGiven C (on_past_action s (AssignsReceived initial value ok on) got)) [ Some got ↦ (goes s.temporaries got none clear).1 | None ↦ tt ])
  stays _ _ (code.update place x op es rest on plain continues) clear =
      action_stays (Updates x op on) es (λ xs. then_given D (evaluate s.variables (Variable x) >>= λ u. only xs >>= operate op u) _
      (λ w. then_given D (assigned (Some x ∷ []) (w ∷ []) s.variables) _ (λ held. (continues s.temporaries none clear).1))) tt (λ got. tt)
  stays _ _ (code.expression place es rest plain) clear = action_stays Fails es (λ xs. tt) tt (λ got. tt)
  stays _ _ (code.closing_channel place es rest on plain continues) clear =
      action_stays (ClosesChannel on) es (λ xs. then_given D (only xs >>= as_channel) _ (λ c. tt)) (continues s.temporaries none clear).1 (λ got. tt)
  stays _ _ (code.printing place pieces es rest on plain continues) clear =
      action_stays (PrintsLine pieces on) es (λ xs. then_given D (texts pieces xs) _ (λ ts. tt)) (continues s.temporaries none clear).1 (λ got. tt)
  stays _ _ (code.sending place es rest on plain continues) clear =
      action_stays (Sends on) es sends tt
      (λ got. elim got as (λ got. IfGiven C (on_past_action s (Sends on) got)) [ None ↦ (continues s.temporaries none clear).1 | Some got ↦ tt ])
    where
      sends : (xs : List Value) → IfGiven D (perform s (Sends on) xs)
      sends [] = tt
      sends (c ∷ []) = tt
      sends (c ∷ v ∷ []) = then_given D (as_channel c) _ (λ c. tt)
      sends (c ∷ v ∷ w ∷ xs) = tt
  stays _ _ (code.starting place f es rest on plain continues) clear = action_stays (StartsFunction f on) es (λ xs. tt) (continues s.temporaries none clear).1 (λ got. tt)
  stays _ _ (code.returning place es rest plain) clear = action_stays Returns es returns tt (λ got. tt)
    where
      returns : (xs : List Value) → IfGiven D (perform s Returns xs)
      returns [] = tt
      returns (v ∷ []) = tt
      returns (v ∷ w ∷ xs) = tt
  stays _ _ (code.going_on place es rest on plain continues) clear = action_stays (GoesOn on) es (λ xs. (continues s.temporaries none clear).1) tt (λ got. tt)
  stays _ _ (code.astray place es rest plain) clear = action_stays Fails es (λ xs. tt) tt (λ got. tt)
  stays _ _ (code.test place holds es rest holds_on fails_on plain continues_there continues) clear =
      action_stays (Tests holds_on fails_on) es (λ xs. then_given D (only xs >>= as_truth) _ sides) tt (λ got. tt)
    where
      sides : (b : Bool) → ClearAll s.temporaries (means (if b then holds_on else fails_on)).operands
      sides true = (continues_there s.temporaries none clear).1
      sides false = (continues s.temporaries none clear).1
  stays _ _ (code.range place target body es rest slot on plain goes) clear =
      action_stays (Ranges slot on) es (λ xs. then_given D (only xs) _ (λ c. (goes s.temporaries c none clear).1)) tt (λ got. tt)
  stays _ _ (code.range_turn place target body channel rest slot into after plain turns leaves) clear =
      action_stays (Turns slot into after) _ (λ xs. then_given D (only xs >>= as_channel) _ (λ c. tt)) tt gets
    where
      gets : (got : Option (Value × Bool)) → IfGiven C (on_past_action s (Turns slot into after) got)
      gets None = tt
      gets (Some (v, true)) = (turns s.temporaries v none clear).1
      gets (Some (v, false)) = (leaves s.temporaries none clear).1
  stays _ _ (code.select place cases es rest arms plain fit) clear = select_stays place es rest clear cases arms fit
