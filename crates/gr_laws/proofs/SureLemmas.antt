-- How frames go on is no evaluation: it faults nowhere.
use Rattle.std.proofs.Common.{ℕ, ◌-◌, Bool, List, [], ◌∷◌, map, length, replicate, slice_get, Option, Some, None}
use Rattle.gr_base.specs.declared.values.Value.{Value}
use Rattle.gr_program.specs.Programs.{Function, FunctionIs, Program, ProgramIs, Cases, no_case, default_case, send_case, receive_case}
use Rattle.gr_rules.specs.Outcomes.{Outcome, gives, faults, wrong, ◌>>=◌}
use Rattle.gr_rules.specs.Operands.{Operands, nothing, also}
use Rattle.gr_rules.specs.Evaluation.{Variables}
use Rattle.gr_rules.specs.Parts.{Receives, Next, Plain, Asks, next_of}
use Rattle.gr_rules.specs.Points.{Work, Send, AssignReceive, Turn}
use Rattle.gr_rules.specs.Frames.{Frame, written, assigned, variable_of, called}
use Rattle.gr_rules.specs.Deeds.{resumed_by, resumed, past_statement, past_next, past_case, cases_from, cases_at, past}
use Rattle.gr_rules.specs.States.{call_of}

-- what is no fault
abbrev pub Sure : {A : Type 0} → Outcome A → Type 0
Sure (gives x) = Unit {0}
Sure (faults e) = ⊥
Sure wrong = Unit {0}

sure_after : {A B : Type 0} (x : Outcome A) (f : A → Outcome B) → Sure x → ((a : A) → Sure (f a)) → Sure (x >>= f)
sure_after (gives a) f h k = k a
sure_after (faults e) f h k = absurd h
sure_after wrong f h k = tt

sure_resumed_by : (f : Frame) (n : Next Operands) (v : Value) → Sure (resumed_by f n v)
sure_resumed_by f Plain v = tt
sure_resumed_by f (Asks ask k) v = tt

pub sure_resumed : (f : Frame) (v : Value) → Sure (resumed f v)
sure_resumed f v = sure_resumed_by f (next_of f.point.operands) v

sure_statement : (f : Frame) (work : Work) (operands : Operands) (got : Option (Value × Bool))
    → Sure (past_statement f work operands got)
sure_statement f Send operands None = tt
sure_statement f Send operands (Some got) = tt
sure_statement f (AssignReceive value ok initial) operands None = tt
sure_statement f (AssignReceive value ok initial) operands (Some got) = tt
sure_statement f (Turn target body) nothing got = tt
sure_statement f (Turn target body) (also c nothing) None = tt
sure_statement f (Turn target body) (also c nothing) (Some got) = tt
sure_statement f (Turn target body) (also c (also d others)) got = tt
sure_statement f _ operands got = tt

sure_next : (f : Frame) (n : Next Operands) (got : Option (Value × Bool)) → Sure (past_next f n got)
sure_next f Plain got = sure_statement f f.point.work f.point.operands got
sure_next f (Asks (Receives channel initial) k) None = tt
sure_next f (Asks (Receives channel initial) k) (Some got) = tt
sure_next f (Asks _ k) got = tt

sure_case : (f : Frame) (number : ℕ) (cases : Cases) (got : Option (Value × Bool)) → Sure (past_case f number cases got)
sure_case f number no_case got = tt
sure_case f number (default_case body others) None = tt
sure_case f number (default_case body others) (Some got) = tt
sure_case f number (send_case channel value body others) None = tt
sure_case f number (send_case channel value body others) (Some got) = tt
sure_case f number (receive_case targets channel initial body others) None = tt
sure_case f number (receive_case targets channel initial body others) (Some got) = tt

pub sure_past : (f : Frame) (clause : Option ℕ) (got : Option (Value × Bool)) → Sure (past f clause got)
sure_past f None got = sure_next f (next_of f.point.operands) got
sure_past f (Some number) got = sure_case f number (cases_from (number - 1) (cases_at f.point.work)) got

sure_written : (old : Option (Option Value)) (k : ℕ) (v : Value) (held : Variables) → Sure (written old k v held)
sure_written None k v held = tt
sure_written (Some old) k v held = tt

sure_assigned : (ks : List (Option ℕ)) (vs : List Value) (held : Variables) → Sure (assigned ks vs held)
sure_assigned [] [] held = tt
sure_assigned [] (v ∷ vs) held = tt
sure_assigned (Some k ∷ ks) [] held = tt
sure_assigned (None ∷ ks) [] held = tt
sure_assigned (Some k ∷ ks) (v ∷ vs) held =
    sure_after (written (slice_get held k) k v held) (λ held. assigned ks vs held) (sure_written (slice_get held k) k v held) (λ held. sure_assigned ks vs held)
sure_assigned (None ∷ ks) (v ∷ vs) held = sure_assigned ks vs held

sure_called : (n : ℕ) (vs : List Value) (f : Function) → Sure (called n vs f)
sure_called n vs (FunctionIs name parameters result variables body last) =
    let held : Variables = replicate (length variables) None in
    sure_after (assigned (map variable_of parameters) vs held) _ (sure_assigned (map variable_of parameters) vs held) (λ held. tt)

pub sure_call : (p : Program) (n : ℕ) (vs : List Value) → Sure (call_of p n vs)
sure_call (ProgramIs functions main) n vs = by_function (slice_get functions n)
  where
    by_function : (o : Option Function) → Sure (elim o [ Some f ↦ called n vs f | None ↦ wrong ])
    by_function None = tt
    by_function (Some f) = sure_called n vs f
