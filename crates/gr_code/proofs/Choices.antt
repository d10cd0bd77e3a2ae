-- Only a select chooses among clauses, and where code goes past a clause, it is one of a select.
use Rattle.std.proofs.Common.{◌≡◌, ◌<◌, ◌⊎◌, ℕ, Bool, List, [], ◌∷◌, Option, Some, None, refl, sym, ◌∙◌, subst, inl, inr}
use Rattle.gr_base.specs.declared.values.Value.{Value}
use Rattle.gr_program.specs.Programs.{Program}
use Rattle.gr_rules.specs.Outcomes.{Outcome, gives, faults, wrong, ◌>>=◌}
use Rattle.gr_rules.specs.Operators.{operate}
use Rattle.gr_rules.specs.Operands.{Variable}
use Rattle.gr_rules.specs.Evaluation.{evaluate, evaluate_all}
use Rattle.gr_rules.specs.Parts.{Ask, Calls, Receives, CountsItems, CountsPlaces, Decides}
use Rattle.gr_rules.specs.Parts as parts
use Rattle.gr_rules.specs.Frames.{Frame, assigned}
use Rattle.gr_rules.specs.Deeds.{Communication, Deed, Chooses, as_channel, as_int, as_truth, only, texts, deed, past}
use Rattle.gr_code.specs.Instructions.{Action, Assigns, AssignsReceived, Updates, ClosesChannel, PrintsLine, Sends, StartsFunction, Returns, GoesOn, Fails, Tests, Ranges, Turns, Instruction, Part, Decide, Perform, Choose}
use Rattle.gr_code.specs.Code.{Meanings, IfGiven, HasClause}
use Rattle.gr_code.specs.CodeFrames.{ProgramCode, CodeFrame, Task, asked_in, acted, task, past_in, instruction_at}
use Rattle.gr_code.specs.Programs.{ProgramFits, Stands, frame_of, frame_meant, deed_of, IsClause}
use Rattle.gr_code.proofs.Staying.{then_given}
use Rattle.gr_code.proofs.Standing.{does, past_alike}

abbrev NoChoice : Deed → Type 0
NoChoice deed = elim deed [ Chooses clauses ↦ ⊥ | _ ↦ Unit {0} ]

shown_given : {A B : Type 0} → (P : B → Type 0) (h : A → B) (o : Outcome A) → IfGiven (λ a. P (h a)) o → IfGiven P (o >>= λ a. gives (h a))
shown_given P h (gives a) p = p
shown_given P h (faults e) p = tt
shown_given P h wrong p = tt

module _ (means : ℕ → Meanings) (code : ProgramCode) (f : CodeFrame) where
  abbrev N : Task → Type 0
  N t = NoChoice (deed_of means code t)

  asks_no_choice : (ask : Ask) → IfGiven N (asked_in f.cells ask)
  asks_no_choice (Calls function arguments) = then_given N (evaluate_all f.cells arguments) _ (λ vs. tt)
  asks_no_choice (Receives channel initial) = then_given N (evaluate f.cells channel >>= as_channel) _ (λ c. tt)
  asks_no_choice (parts.Makes size) = then_given N (evaluate f.cells size >>= as_int) _ (λ k. tt)
  asks_no_choice (CountsItems channel) = then_given N (evaluate f.cells channel >>= as_channel) _ (λ c. tt)
  asks_no_choice (CountsPlaces channel) = then_given N (evaluate f.cells channel >>= as_channel) _ (λ c. tt)
  asks_no_choice (Decides op left) = tt

  acts_no_choice : (action : Action) (xs : List Value) → IfGiven N (acted f action xs)
  acts_no_choice (Assigns targets on) xs = then_given N (assigned targets xs f.cells) _ (λ held. tt)
  acts_no_choice (AssignsReceived initial value ok on) xs = then_given N (only xs >>= as_channel) _ (λ c. tt)
  acts_no_choice (Updates x op on) xs =
      then_given N (evaluate f.cells (Variable x) >>= λ u. only xs >>= operate op u) _
      (λ w. then_given N (assigned (Some x ∷ []) (w ∷ []) f.cells) _ (λ held. tt))
  acts_no_choice (ClosesChannel on) xs = then_given N (only xs >>= as_channel) _ (λ c. tt)
  acts_no_choice (PrintsLine pieces on) xs = then_given N (texts pieces xs) _ (λ ts. tt)
  acts_no_choice (Sends on) [] = tt
  acts_no_choice (Sends on) (c ∷ []) = tt
  acts_no_choice (Sends on) (c ∷ v ∷ []) = then_given N (as_channel c) _ (λ c. tt)
  acts_no_choice (Sends on) (c ∷ v ∷ w ∷ xs) = tt
  acts_no_choice (StartsFunction function on) xs = tt
  acts_no_choice Returns [] = tt
  acts_no_choice Returns (v ∷ []) = tt
  acts_no_choice Returns (v ∷ w ∷ xs) = tt
  acts_no_choice (GoesOn on) xs = tt
  acts_no_choice Fails xs = tt
  acts_no_choice (Tests holds fails) xs = then_given N (only xs >>= as_truth) _ (λ b. tt)
  acts_no_choice (Ranges slot on) xs = then_given N (only xs) _ (λ c. tt)
  acts_no_choice (Turns slot body after) xs = then_given N (only xs >>= as_channel) _ (λ c. tt)

  module _ (p : Program) (fits : ProgramFits means p code) (st : Stands means code f) (i : Instruction) (at : instruction_at code f ≡ Some i) where
    chooses_none : IfGiven N (task f i) → (cs : List Communication) → deed (frame_of means code f) ≡ gives (Chooses cs) → ⊥
    chooses_none none cs e =
        subst {_, _} (IfGiven NoChoice) (sym (does means p code fits f st i at) ∙ e) (shown_given NoChoice (deed_of means code) (task f i) none)

  pub has_clause : (p : Program) (fits : ProgramFits means p code) (st : Stands means code f) (i : Instruction) (at : instruction_at code f ≡ Some i)
      → (cs : List Communication) (number : ℕ) → deed (frame_of means code f) ≡ gives (Chooses cs) → 0 < number → HasClause i (Some number)
  has_clause p fits st (Choose arms) at cs number e h = h
  has_clause p fits st (Part ask slot on) at cs number e h = absurd (chooses_none p fits st (Part ask slot on) at (asks_no_choice ask) cs e)
  has_clause p fits st (Decide op left slot settled right) at cs number e h =
      absurd (chooses_none p fits st (Decide op left slot settled right) at (then_given N (evaluate f.cells left) _ (λ v. tt)) cs e)
  has_clause p fits st (Perform action operands) at cs number e h =
      absurd (chooses_none p fits st (Perform action operands) at (then_given N (evaluate_all f.cells operands) _ (acts_no_choice action)) cs e)

-- the instruction has the clause, or code goes past none
has_or_not : (f : CodeFrame) (i : Instruction) (clause : Option ℕ) (got : Option (Value × Bool)) → IsClause clause
    → HasClause i clause ⊎ (past_in f i clause got ≡ wrong)
has_or_not f i None got h = inl tt
has_or_not f (Choose arms) (Some number) got h = inl h
has_or_not f (Part ask slot on) (Some number) got h = inr refl
has_or_not f (Decide op left slot settled right) (Some number) got h = inr refl
has_or_not f (Perform action operands) (Some number) got h = inr refl

module _ (means : ℕ → Meanings) (p : Program) (code : ProgramCode) (fits : ProgramFits means p code) where
  meant_given : (x : Outcome Frame) (o : Outcome CodeFrame) → x ≡ frame_meant means code o → IfGiven (λ g. x ≡ gives (frame_of means code g)) o
  meant_given x (gives g) e = e
  meant_given x (faults q) e = tt
  meant_given x wrong e = tt

  pub goes_past : (f : CodeFrame) (st : Stands means code f) (i : Instruction) (at : instruction_at code f ≡ Some i)
      → (clause : Option ℕ) (got : Option (Value × Bool)) → IsClause clause
      → IfGiven (λ g. past (frame_of means code f) clause got ≡ gives (frame_of means code g)) (past_in f i clause got)
  goes_past f st i at clause got h = elim (has_or_not f i clause got h) [
    | inl has ↦ meant_given (past (frame_of means code f) clause got) (past_in f i clause got) (past_alike means p code fits f st i at clause got has)
    | inr none ↦ subst {_, _} (IfGiven (λ g. past (frame_of means code f) clause got ≡ gives (frame_of means code g))) (sym none) tt
  ]
