-- A send that is a statement of its own has its value; only the clauses of a select have values that may be faults.
use Rattle.std.proofs.Common.{◌≡◌, List, [], ◌∷◌, Some, subst}
use Rattle.gr_base.specs.declared.values.Value.{Value}
use Rattle.gr_rules.specs.Outcomes.{Outcome, gives, faults, wrong, ◌>>=◌}
use Rattle.gr_rules.specs.Operators.{operate}
use Rattle.gr_rules.specs.Operands.{Variable, Operands}
use Rattle.gr_rules.specs.Evaluation.{evaluate, evaluate_all}
use Rattle.gr_rules.specs.Parts.{Ask, Calls, Receives, Makes, CountsItems, CountsPlaces, Decides, Next, Plain, Asks, next_of}
use Rattle.gr_rules.specs.Points.{Work, Assign, AssignReceive, Update, Eval, Close, Print, Send, Go, Return, GoOn, Astray, Test, Range, Turn, Select}
use Rattle.gr_rules.specs.Frames.{Frame, assigned}
use Rattle.gr_rules.specs.Deeds.{Communication, Deed, Communicates, as_channel, as_int, as_truth, only, texts, clauses_of, part_of, work_of, statement_of, deed_by, deed}
use Rattle.gr_laws.proofs.WaitLemmas.{Known, sent_known}

abbrev KnownDeed : Outcome Deed → Type 0
KnownDeed (gives (Communicates x)) = Known x
KnownDeed _ = Unit {0}

bound : {A : Type 0} (o : Outcome A) (g : A → Outcome Deed) → ((x : A) → KnownDeed (g x)) → KnownDeed (o >>= g)
bound (gives x) g h = h x
bound (faults e) g h = tt
bound wrong g h = tt

part_known : (f : Frame) (ask : Ask) (k : Value → Operands) → KnownDeed (part_of f ask k)
part_known f (Calls n arguments) k = bound (evaluate_all f.variables arguments) _ (λ vs. tt)
part_known f (Receives c initial) k = bound (evaluate f.variables c >>= as_channel) _ (λ c. tt)
part_known f (Makes size) k = bound (evaluate f.variables size >>= as_int) _ (λ n. tt)
part_known f (CountsItems c) k = bound (evaluate f.variables c >>= as_channel) _ (λ c. tt)
part_known f (CountsPlaces c) k = bound (evaluate f.variables c >>= as_channel) _ (λ c. tt)
part_known f (Decides op left) k = bound (evaluate f.variables left) _ (λ v. tt)

work_known : (f : Frame) (w : Work) (vs : List Value) → KnownDeed (work_of f w vs)
work_known f (Assign targets) vs = bound (assigned targets vs f.variables) _ (λ held. tt)
work_known f (AssignReceive value ok initial) vs = bound (only vs >>= as_channel) _ (λ c. tt)
work_known f (Update x op) vs =
    bound (evaluate f.variables (Variable x) >>= λ u. only vs >>= operate op u) _
    (λ w. bound (assigned (Some x ∷ []) (w ∷ []) f.variables) _ (λ held. tt))
work_known f Eval vs = tt
work_known f Close vs = bound (only vs >>= as_channel) _ (λ c. tt)
work_known f (Print pieces) vs = bound (texts pieces vs) _ (λ ts. tt)
work_known f Send [] = tt
work_known f Send (c ∷ []) = tt
work_known f Send (c ∷ v ∷ []) = bound (as_channel c) _ (λ c. sent_known c v)
work_known f Send (c ∷ v ∷ w ∷ vs) = tt
work_known f (Go n) vs = tt
work_known f Return [] = tt
work_known f Return (v ∷ []) = tt
work_known f Return (v ∷ w ∷ vs) = tt
work_known f GoOn vs = tt
work_known f Astray vs = tt
work_known f (Test holds) vs = bound (only vs >>= as_truth) _ (λ b. tt)
work_known f (Range target body) vs = bound (only vs) _ (λ c. tt)
work_known f (Turn target body) vs = bound (only vs >>= as_channel) _ (λ c. tt)
work_known f (Select cases) vs = tt

statement_known : (f : Frame) (w : Work) (operands : Operands) → KnownDeed (statement_of f w operands)
statement_known f (Select cases) operands = bound (clauses_of f cases operands) _ (λ cs. tt)
statement_known f w operands = bound (evaluate_all f.variables operands) (work_of f w) (work_known f w)

deed_known : (f : Frame) (n : Next Operands) → KnownDeed (deed_by f n)
deed_known f (Asks ask k) = part_known f ask k
deed_known f Plain = statement_known f f.point.work f.point.operands

pub alone_known : (f : Frame) (x : Communication) → deed f ≡ gives (Communicates x) → Known x
alone_known f x e = subst KnownDeed e (deed_known f (next_of f.point.operands))
