-- A frame that enters a function stands at a call of it. So the frames of a goroutine that stands return to one another.
use Rattle.std.proofs.Common.{◌≡◌, ℕ, List, [], ◌∷◌, Some, refl, subst}
use Rattle.gr_base.specs.declared.values.Value.{Value}
use Rattle.gr_rules.specs.Outcomes.{Outcome, gives, faults, wrong, ◌>>=◌}
use Rattle.gr_rules.specs.Operators.{operate}
use Rattle.gr_rules.specs.Operands.{Variable, Operands}
use Rattle.gr_rules.specs.Parts as parts
use Rattle.gr_rules.specs.Parts.{Ask, Calls, CountsItems, CountsPlaces, Decides, Next, Plain, Asks, next_of}
use Rattle.gr_rules.specs.Evaluation.{evaluate, evaluate_all}
use Rattle.gr_rules.specs.Points.{Work, Assign, AssignReceive, Update, Eval, Close, Print, Send, Go, Return, GoOn, Astray, Test, Range, Turn, Select}
use Rattle.gr_rules.specs.Frames.{Frame, assigned}
use Rattle.gr_rules.specs.Deeds.{Deed, Enters, as_channel, as_int, as_truth, only, texts, clauses_of, work_of, statement_of, deed_by, deed}
use Rattle.gr_may.specs.Covers.{Calling, AwaitsResultOf, ReturnsTo}
use Rattle.gr_may.proofs.Given.{IfGives, given, stray, then_gives, in_any_case}
use Rattle.type_safety.specs.Standing.{Awaits, AllAwait, outermost, caller}

-- it enters a function only by a call
abbrev Enter : Next Operands → Deed → Type 0
Enter next (Enters k vs) = Calling k next
Enter next _ = Unit {0}

module _ (f : Frame) where
  work_enters : (work : Work) (vs : List Value) → IfGives (Enter Plain) (work_of f work vs)
  work_enters (Assign targets) vs = then_gives (in_any_case (assigned targets vs f.variables)) (λ held u. given tt)
  work_enters (AssignReceive value ok initial) vs = then_gives (in_any_case (only vs >>= as_channel)) (λ c u. given tt)
  work_enters (Update x op) vs = then_gives (in_any_case (evaluate f.variables (Variable x) >>= λ u. only vs >>= operate op u))
      (λ w u. then_gives (in_any_case (assigned (Some x ∷ []) (w ∷ []) f.variables)) (λ held u. given tt))
  work_enters Eval vs = stray
  work_enters Close vs = then_gives (in_any_case (only vs >>= as_channel)) (λ c u. given tt)
  work_enters (Print pieces) vs = then_gives (in_any_case (texts pieces vs)) (λ ts u. given tt)
  work_enters Send [] = stray
  work_enters Send (c ∷ []) = stray
  work_enters Send (c ∷ v ∷ []) = then_gives (in_any_case (as_channel c)) (λ c u. given tt)
  work_enters Send (c ∷ v ∷ w ∷ vs) = stray
  work_enters (Go k) vs = given tt
  work_enters Return [] = given tt
  work_enters Return (v ∷ []) = given tt
  work_enters Return (v ∷ w ∷ vs) = stray
  work_enters GoOn vs = given tt
  work_enters Astray vs = stray
  work_enters (Test holds) vs = then_gives (in_any_case (only vs >>= as_truth)) (λ b u. given tt)
  work_enters (Range t body) vs = then_gives (in_any_case (only vs)) (λ c u. given tt)
  work_enters (Turn t body) vs = then_gives (in_any_case (only vs >>= as_channel)) (λ c u. given tt)
  work_enters (Select cases) vs = stray

  by_operands : (work : Work) (es : Operands) → IfGives (Enter Plain) (evaluate_all f.variables es >>= work_of f work)
  by_operands work es = then_gives (in_any_case (evaluate_all f.variables es)) (λ vs u. work_enters work vs)

  statement_enters : (work : Work) (es : Operands) → IfGives (Enter Plain) (statement_of f work es)
  statement_enters (Select cases) es = then_gives (in_any_case (clauses_of f cases es)) (λ cs u. given tt)
  statement_enters (Assign targets) es = by_operands (Assign targets) es
  statement_enters (AssignReceive value ok initial) es = by_operands (AssignReceive value ok initial) es
  statement_enters (Update x op) es = by_operands (Update x op) es
  statement_enters Eval es = by_operands Eval es
  statement_enters Close es = by_operands Close es
  statement_enters (Print pieces) es = by_operands (Print pieces) es
  statement_enters Send es = by_operands Send es
  statement_enters (Go k) es = by_operands (Go k) es
  statement_enters Return es = by_operands Return es
  statement_enters GoOn es = by_operands GoOn es
  statement_enters Astray es = by_operands Astray es
  statement_enters (Test holds) es = by_operands (Test holds) es
  statement_enters (Range t body) es = by_operands (Range t body) es
  statement_enters (Turn t body) es = by_operands (Turn t body) es

  next_enters : (x : Next Operands) → IfGives (Enter x) (deed_by f x)
  next_enters Plain = statement_enters f.point.work f.point.operands
  next_enters (Asks (Calls k arguments) with) = then_gives (in_any_case (evaluate_all f.variables arguments)) (λ vs u. given refl)
  next_enters (Asks (parts.Receives c initial) with) = then_gives (in_any_case (evaluate f.variables c >>= as_channel)) (λ c u. given tt)
  next_enters (Asks (parts.Makes size) with) = then_gives (in_any_case (evaluate f.variables size >>= as_int)) (λ i u. given tt)
  next_enters (Asks (CountsItems c) with) = then_gives (in_any_case (evaluate f.variables c >>= as_channel)) (λ c u. given tt)
  next_enters (Asks (CountsPlaces c) with) = then_gives (in_any_case (evaluate f.variables c >>= as_channel)) (λ c u. given tt)
  next_enters (Asks (Decides op left) with) = then_gives (in_any_case (evaluate f.variables left)) (λ v u. given tt)

  pub awaits_result : (k : ℕ) → Awaits k f → AwaitsResultOf k f
  awaits_result k w = by_deed (deed f) (next_enters (next_of f.point.operands)) w.calls
    where
      by_deed : (o : Outcome Deed) → IfGives (Enter (next_of f.point.operands)) o → o ≡ gives (Enters k w.arguments) → AwaitsResultOf k f
      by_deed (gives d) (given h) e = subst (Enter (next_of f.point.operands)) (same_deed d (Enters k w.arguments) e) h
        where
          same_deed : (a b : Deed) → gives a ≡ gives b → a ≡ b
          same_deed a b e = cc
      by_deed (faults x) h e = let z : faults x ≡ gives (Enters k w.arguments) = e in absurd cc
      by_deed wrong h e = let z : wrong ≡ gives (Enters k w.arguments) = e in absurd cc

-- the frames below return to one another
pub returns_to : (f : Frame) (below : List Frame) → AllAwait f.function below → ReturnsTo f below
returns_to f [] outermost = tt
returns_to f (g ∷ below) (caller w rest) = awaits_result g f.function w
