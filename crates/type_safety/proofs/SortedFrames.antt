-- Frames keep their sorts: among more channels, past their statements, and with values in place of parts.
use Rattle.std.proofs.Common.{ℕ, Bool, List}
use Rattle.gr_program.specs.Programs.{Cases, Declared}
use Rattle.gr_typing.specs.Scopes.{Signature}
use Rattle.gr_rules.specs.Operands.{Operand, Operands}
use Rattle.gr_rules.specs.Evaluation.{Variables}
use Rattle.gr_rules.specs.Points.{Rest, Work}
use Rattle.gr_rules.specs.Frames.{Frame}
use Rattle.gr_rules.specs.Goroutines.{Status}
use Rattle.type_safety.proofs.Sorts.{Sort, Made, More, Setting, SortedOperand, SortedOperands, Holding}
use Rattle.type_safety.proofs.Bodies.{Nest, SortedClauses, no_clause, default_clause, send_clause, receive_clause}
use Rattle.type_safety.proofs.Running as running
use Rattle.type_safety.proofs.Running.{SortedRest, closes, follows, loops, ranges, chooses, SortedWork, SortedFrame, SortedBelow, outermost, caller, SortedFrames, is_ready, waits, is_finished}
use Rattle.type_safety.proofs.Promises.{FrameMore, BelowMore, GoroutineMore}
use Rattle.type_safety.proofs.SortedValues.{sort_more, operand_more, operands_more}

-- Among more channels.
module _ (made after : Made) (m : More made after) where
  pub holding_more : (ds : List Declared) (live : List ℕ) (held : Variables) → Holding ds made live held
      → Holding ds after live held
  holding_more ds live held h = record {
    sizes = h.sizes;
    sorts = λ x v e. let s = h.sorts x v e in (s.0, s.1, sort_more made after m (s.2));
    values = h.values;
  }

  module _ (d : Setting) where
    pub rest_more : {nests : List Nest} {live : List ℕ} {z : Bool} {rest : Rest}
        → SortedRest d made nests live z rest → SortedRest d after nests live z rest
    rest_more (closes r) = closes r
    rest_more (follows first s ss a r) = follows first s ss a (rest_more r)
    rest_more (loops first s ss a r) = loops first s ss a (rest_more r)
    rest_more (ranges first s h targets body a r) =
        ranges first s (sort_more made after m h) targets body a (rest_more r)
    rest_more (chooses u s r) = chooses u s (rest_more r)

    pub clauses_more : {nests : List Nest} {z : Bool} {cases : Cases} {operands : Operands} (live : List ℕ)
        → SortedClauses d made nests live z cases operands → SortedClauses d after nests live z cases operands
    clauses_more live no_clause = no_clause
    clauses_more live (default_clause body others) = default_clause body (clauses_more live others)
    clauses_more live (send_clause c e body others) =
        send_clause (operand_more made after m d live c) (operand_more made after m d live e) body
        (clauses_more live others)
    clauses_more live (receive_clause c h targets body others) =
        receive_clause (operand_more made after m d live c) h targets body (clauses_more live others)

    module _ (live : List ℕ) where
      here : {t : Operand} {k : Sort} → SortedOperand d made live t k → SortedOperand d after live t k
      here h = operand_more made after m d live h

      all_here : {ts : Operands} {ks : List Sort} → SortedOperands d made live ts ks
          → SortedOperands d after live ts ks
      all_here {ts = ts} {ks = ks} h = operands_more d made after live ts ks m h

      pub work_more : {work : Work} {operands : Operands} {rest : Rest} → SortedWork d made live work operands rest
          → SortedWork d after live work operands rest
      work_more (running.assigns targets ps r) = running.assigns targets (all_here ps) (rest_more r)
      work_more (running.assigns_receive c h targets r) =
          running.assigns_receive (here c) (sort_more made after m h) targets (rest_more r)
      work_more (running.updates e i o p r) = running.updates e i o (here p) (rest_more r)
      work_more (running.evaluates s p r) = running.evaluates s (here p) (rest_more r)
      work_more (running.closes c r) = running.closes (here c) (rest_more r)
      work_more (running.prints pieces ps r) = running.prints pieces (all_here ps) (rest_more r)
      work_more (running.sends c p r) = running.sends (here c) (here p) (rest_more r)
      work_more (running.goes e ps r) = running.goes e (all_here ps) (rest_more r)
      work_more (running.returns e) = running.returns e
      work_more (running.returns_value e p) = running.returns_value e (here p)
      work_more (running.continues r) = running.continues (rest_more r)
      work_more (running.holds r) = running.holds (rest_more r)
      work_more (running.tests c on r) = running.tests (here c) (rest_more on) (rest_more r)
      work_more (running.ranges c targets body r) = running.ranges (here c) targets body (rest_more r)
      work_more (running.turns c targets body r) = running.turns (sort_more made after m c) targets body (rest_more r)
      work_more (running.selects clauses r) = running.selects (clauses_more live clauses) (rest_more r)

pub frame_more : FrameMore
frame_more fs made after k f m h = record {
  variables = h.variables;
  type = h.type;
  live = h.live;
  returns = h.returns;
  holding = holding_more made after m (h.variables) (h.live) (f.variables) (h.holding);
  work = work_more made after m _ (h.live) (h.work);
}

module _ (fs : List Signature) (made after : Made) (m : More made after) where
  all_below : {n : ℕ} {k : Sort} {gs : List Frame} → SortedBelow fs made n k gs → SortedBelow fs after n k gs
  all_below outermost = outermost
  all_below (caller {l = l} {g = g} e a h below) = caller e a (frame_more fs made after l g m h) (all_below below)

  frames_more : {status : Status} {gs : List Frame} → SortedFrames fs made status gs → SortedFrames fs after status gs
  frames_more (is_ready {k} {f} h below) = is_ready (frame_more fs made after k f m h) (all_below below)
  frames_more (waits {k} {f} h below stand) = waits (frame_more fs made after k f m h) (all_below below) stand
  frames_more is_finished = is_finished

pub below_more : BelowMore
below_more fs made after n k gs m h = all_below fs made after m h

pub goroutine_more : GoroutineMore
goroutine_more fs made after g m h = frames_more fs made after m h
