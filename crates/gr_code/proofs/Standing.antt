-- A frame of code does what the rules do in the frame that it means, and goes on alike.
use Rattle.std.proofs.Common.{◌≡◌, ◌<◌, ℕ, zero, suc, Bool, List, [], ◌∷◌, Option, Some, None, length, refl, sym, ap, ◌∙◌, subst, arith, inl, inr, ltb-false}
use Rattle.std.proofs.lemmas.Bool.{cases_Bool}
use Rattle.std.proofs.lemmas.Option.{slice_get_within}
use Rattle.std.specs.Prelude.{nat_lt, slice_get, option_and_then, if◌then◌else◌}
use Rattle.std.specs.Option.{option_map_or}
use Rattle.gr_base.specs.declared.values.Value.{Value}
use Rattle.gr_program.specs.Programs.{Function, Program}
use Rattle.gr_rules.specs.Outcomes.{Outcome, gives, faults, wrong, ◌>>=◌}
use Rattle.gr_rules.specs.Evaluation.{Variables}
use Rattle.gr_rules.specs.Frames.{goes_on}
use Rattle.gr_rules.specs.Deeds.{Moves, deed, resumed, past}
use Rattle.gr_code.specs.Bounds.{NoneBelow}
use Rattle.gr_code.specs.Instructions.{Instruction, Spot, on_after, on_resumed, on_past}
use Rattle.gr_code.specs.Code.{Meanings, IsCode, IsClear, IfGiven, HasClause, Simulates, ClearDoing, StaysClear, frame_at}
use Rattle.gr_code.specs.Code as at_spot
use Rattle.gr_code.specs.Vectors.{temporaries_in, spot_in, value_at}
use Rattle.gr_code.specs.CodeFrames.{FunctionCode, ProgramCode, CodeFrame, Task, Steps, Wants, instruction_at, task, after_in, resumed_in, past_in}
use Rattle.gr_code.specs.Programs.{InBounds, FunctionFits, ProgramFits, functions_in, variables_in, instructions_in, line_at, Stands, frame_of, frame_meant, deed_of, deed_meant, TaskStands, KeepsStanding}
use Rattle.gr_code.proofs.Simulation.{simulates}
use Rattle.gr_code.proofs.Staying.{stays}
use Rattle.gr_code.proofs.VectorLemmas.{holds}
use Rattle.gr_code.proofs.CellLemmas.{shown_by, spot_by, doing_by, runs, goes_after, resumes, passes}
use Rattle.gr_code.proofs.Places.{InPlace, TaskInPlace, runs_here, after_here, resumes_here, passes_here}

-- temporaries are numbered after the variables
pub none_below : (n : ℕ) (all : Variables) → NoneBelow n (temporaries_in n all)
none_below n all x h = elim (cases_Bool (nat_lt x n)) [
  | inl t ↦ ap (λ b. if b then None else value_at (slice_get all x)) t
  | inr f ↦ absurd (let l = ltb-false x n f in omega arith)
]

pub there : {A : Type 0} → (xs : List A) (k : ℕ) → k < length xs → (x : A) × (slice_get xs k ≡ Some x)
there [] k h = absurd (omega arith)
there (x ∷ xs) zero h = (x, refl)
there (x ∷ xs) (suc k) h = there xs k (omega arith)

both_given : {A : Type 0} → (P Q R : A → Type 0) (o : Outcome A) → ((a : A) → P a → Q a → R a) → IfGiven P o → IfGiven Q o → IfGiven R o
both_given P Q R (gives a) h p q = h a p q
both_given P Q R (faults e) h p q = tt
both_given P Q R wrong h p q = tt

given_back : {A B : Type 0} → (P : B → Type 0) (h : A → B) (o : Outcome A) → IfGiven P (o >>= λ a. gives (h a)) → IfGiven (λ a. P (h a)) o
given_back P h (gives a) p = p
given_back P h (faults e) p = tt
given_back P h wrong p = tt

-- what follows is the same where something is given
same_given : {A B : Type 0} → (P : A → Type 0) (o : Outcome A) (h k : A → B)
    → IfGiven P o → ((a : A) → P a → h a ≡ k a) → (o >>= λ a. gives (h a)) ≡ (o >>= λ a. gives (k a))
same_given P (gives a) h k p e = ap (λ b. gives b) (e a p)
same_given P (faults e) h k p _ = refl
same_given P wrong h k p e = refl

module _ (means : ℕ → Meanings) (p : Program) (code : ProgramCode) (fits : ProgramFits means p code) where
  -- each function that has code is one of the program, and fits it
  pub function_fits : (number : ℕ) (c : FunctionCode) → slice_get code.functions number ≡ Some c
      → (function : Function) × (slice_get (functions_in p) number ≡ Some function) × FunctionFits (means number) function c
  function_fits number c e =
      let below : number < length code.functions = slice_get_within code.functions number c e in
      let each : length code.functions ≡ length (functions_in p) = fits.each in
      let x = there (functions_in p) number (omega arith) in
      (x.0, x.1, fits.functions number x.0 c x.1 e)

  module _ (f : CodeFrame) (st : Stands means code f) where
    abbrev n : ℕ
    n = variables_in code f.function

    abbrev count : ℕ
    count = length st.function.instructions

    abbrev m : ℕ
    m = st.function.cells

    abbrev M : Meanings
    M = means f.function

    abbrev s : Spot
    s = spot_by n f

    fit : FunctionFits M (function_fits f.function st.function st.is).0 st.function
    fit = (function_fits f.function st.function st.is).2

    same_variables : st.function.variables ≡ n
    same_variables = sym (ap (λ o. option_map_or (λ c. c.variables) o 0) st.is)

    -- the line of the statement at which it stands
    pub line : line_at code f ≡ Some ((frame_of means code f).point.place.line)
    line = ap (λ o. option_and_then (λ c. slice_get c.lines f.number) o) st.is ∙ fit.lines f.number st.within

    -- there is an instruction
    pub has : (i : Instruction) × (instruction_at code f ≡ Some i)
    has =
        let x = there st.function.instructions f.number st.within in
        (x.0, ap (λ o. option_and_then (λ c. slice_get c.instructions f.number) o) st.is ∙ x.1)

    module _ (i : Instruction) (at : instruction_at code f ≡ Some i) where
      here : slice_get st.function.instructions f.number ≡ Some i
      here = sym (ap (λ o. option_and_then (λ c. slice_get c.instructions f.number) o) st.is) ∙ at

      bounds : InBounds n m count i
      bounds = subst {_, _} (λ k. InBounds k m count i) same_variables (fit.bounds f.number i here)

      -- the instruction names what there is
      pub bounded : InBounds n (length f.cells) (instructions_in code f.function) i
      bounded =
          let counted : count ≡ instructions_in code f.function = sym (ap (λ o. option_map_or (λ c. length c.instructions) o 0) st.is) in
          subst {_, _} (λ k. InBounds n k (instructions_in code f.function) i) (sym st.cells) (subst {_, _} (λ k. InBounds n m k i) counted bounds)

      is_code : IsCode n M (slice_get st.function.instructions)
      is_code = subst {_, _} (λ k. IsCode k M (slice_get st.function.instructions)) same_variables fit.fits

      simulated : Simulates M f.function s f.cells i (frame_of means code f)
      simulated = simulates n M f.function s f.cells (holds n f.cells f.number) (none_below n f.cells) (M f.number) i (is_code f.number i here) st.clear

      clear : StaysClear M s f.cells i
      clear = stays n M s f.cells (none_below n f.cells) (M f.number) i (is_code f.number i here) st.clear

      -- a frame of the function means what its spot does
      same_frame : (g : CodeFrame) → InPlace f.function m count g → frame_at M f.function (spot_by n g) ≡ frame_of means code g
      same_frame g h = ap (λ k. frame_at (means k) k (spot_in (variables_in code k) g.cells g.number)) (sym h.0)

      same_deed : (t : Task) → TaskInPlace f.function m count t → at_spot.deed_of M f.function (doing_by n t) ≡ deed_of means code t
      same_deed (Steps on) h = ap (λ q. Moves q) (same_frame on h)
      same_deed (Wants deed) h = refl

      same_frames : (t : Outcome Spot) (o : Outcome CodeFrame) → t ≡ (o >>= λ g. gives (spot_by n g)) → IfGiven (InPlace f.function m count) o
          → (t >>= λ t. gives (frame_at M f.function t)) ≡ frame_meant means code o
      same_frames t o e h =
          ap (λ t. t >>= λ t. gives (frame_at M f.function t)) e
          ∙ sym (shown_by o (spot_by n) (frame_at M f.function))
          ∙ same_given (InPlace f.function m count) o _ _ h same_frame

      pub does : deed (frame_of means code f) ≡ deed_meant means code (task f i)
      does =
          simulated.does ∙ ap (λ o. o >>= λ d. gives (at_spot.deed_of M f.function d)) (runs n m count f st.cells i bounds)
          ∙ sym (shown_by (task f i) (doing_by n) (at_spot.deed_of M f.function))
          ∙ same_given (TaskInPlace f.function m count) (task f i) _ _ (runs_here n m count f st.cells i bounds) same_deed

      pub after : IfGiven (λ g. goes_on (frame_of means code f) ≡ frame_of means code g) (after_in f i)
      after =
          both_given (λ g. goes_on (frame_of means code f) ≡ frame_at M f.function (spot_by n g)) (InPlace f.function m count) _ (after_in f i)
          (λ g e h. e ∙ same_frame g h)
          (given_back (λ t. goes_on (frame_of means code f) ≡ frame_at M f.function t) (spot_by n) (after_in f i)
          (subst {_, _} (IfGiven (λ t. goes_on (frame_of means code f) ≡ frame_at M f.function t)) (goes_after n m count f st.cells i) simulated.after))
          (after_here n m count f st.cells i bounds)

      pub resumed_alike : (v : Value) → resumed (frame_of means code f) v ≡ frame_meant means code (resumed_in f i v)
      resumed_alike v =
          simulated.resumes v
          ∙ same_frames (on_resumed s i v) (resumed_in f i v) (resumes n m count f st.cells i v bounds) (resumes_here n m count f st.cells i v bounds)

      pub past_alike : (clause : Option ℕ) (got : Option (Value × Bool)) → HasClause i clause
          → past (frame_of means code f) clause got ≡ frame_meant means code (past_in f i clause got)
      past_alike clause got h =
          simulated.passes clause got h
          ∙ same_frames (on_past s i clause got) (past_in f i clause got) (passes n m count f st.cells i clause got bounds)
          (passes_here n m count f st.cells i clause got bounds)

      stands_on : (g : CodeFrame) → IsClear M (spot_by n g) → InPlace f.function m count g → Stands means code g
      stands_on g c h = record {
        function = st.function;
        is = ap (λ k. slice_get code.functions k) h.0 ∙ st.is;
        within = h.1;
        cells = h.2;
        clear = subst {_, _} (λ k. IsClear (means k) (spot_in (variables_in code k) g.cells g.number)) (sym h.0) c;
      }

      task_stands : (t : Task) → ClearDoing M (doing_by n t) → TaskInPlace f.function m count t → TaskStands means code t
      task_stands (Steps on) c h = stands_on on c h
      task_stands (Wants deed) c h = tt

      all_stand : (t : Outcome Spot) (o : Outcome CodeFrame) → t ≡ (o >>= λ g. gives (spot_by n g)) → IfGiven (IsClear M) t
          → IfGiven (InPlace f.function m count) o → IfGiven (Stands means code) o
      all_stand t o e c h =
          both_given (λ g. IsClear M (spot_by n g)) (InPlace f.function m count) (Stands means code) o stands_on
          (given_back (IsClear M) (spot_by n) o (subst {_, _} (IfGiven (IsClear M)) e c)) h

      pub keeps_standing : KeepsStanding means code f i
      keeps_standing = record {
        does = both_given (λ t. ClearDoing M (doing_by n t)) (TaskInPlace f.function m count) (TaskStands means code) (task f i) task_stands
            (given_back (ClearDoing M) (doing_by n) (task f i) (subst {_, _} (IfGiven (ClearDoing M)) (runs n m count f st.cells i bounds) clear.does))
            (runs_here n m count f st.cells i bounds);
        after = all_stand (on_after s i) (after_in f i) (goes_after n m count f st.cells i) clear.after (after_here n m count f st.cells i bounds);
        resumes = λ v. all_stand (on_resumed s i v) (resumed_in f i v) (resumes n m count f st.cells i v bounds) (clear.resumes v)
            (resumes_here n m count f st.cells i v bounds);
        passes = λ clause got. all_stand (on_past s i clause got) (past_in f i clause got) (passes n m count f st.cells i clause got bounds)
            (clear.passes clause got) (passes_here n m count f st.cells i clause got bounds);
      }
