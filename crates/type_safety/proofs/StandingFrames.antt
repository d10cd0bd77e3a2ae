-- Frames that have sorts stand at operations and calls, and meet no value of a wrong kind; nor do selects among what they send.
use Rattle.std.proofs.Common.{◌≡◌, ℕ, Bool, List, ◌∷◌, ap, subst}
use Rattle.gr_base.specs.declared.values.Value.{Value}
use Rattle.gr_typing.specs.Scopes.{Signature}
use Rattle.gr_program.specs.Programs.{Cases}
use Rattle.gr_rules.specs.Outcomes.{Outcome, gives, faults, wrong}
use Rattle.gr_rules.specs.Operands.{Operands, also}
use Rattle.gr_rules.specs.Evaluation.{Variables, evaluate}
use Rattle.gr_rules.specs.Parts.{Plain, next_of}
use Rattle.gr_rules.specs.Points.{Rest, Work}
use Rattle.gr_rules.specs.Frames.{Frame, filled}
use Rattle.gr_rules.specs.Deeds.{deed, resumed_by, resumed}
use Rattle.gr_rules.specs.Goroutines.{Status}
use Rattle.type_safety.specs.Standing as standing
use Rattle.type_safety.specs.Standing.{AllAwait, StandsAs, ClausesSend, WorkSends, FrameSends}
use Rattle.type_safety.proofs.Sorts.{Sort, Made, Yields, yields, faulty, Setting, Holding}
use Rattle.type_safety.proofs.Bodies.{Nest, SortedClauses, no_clause, default_clause, send_clause, receive_clause}
use Rattle.type_safety.proofs.Running.{SortedWork, selects, SortedFrame, Asking, SortedBelow, outermost, caller, SortedFrames, is_ready, waits, is_finished, Comes}
use Rattle.type_safety.proofs.SortedEvaluation.{evaluates}
use Rattle.type_safety.proofs.SortedClauses.{no_part}
use Rattle.type_safety.proofs.SortedDeeds.{deed_sorted}

not_wrong : {made : Made} {k : Sort} (o : Outcome Value) → Yields made o k → o ≡ wrong → ⊥
not_wrong o (yields {v} h) e = let gone : gives v ≡ wrong = e in absurd cc
not_wrong o (faulty {e = f}) e = let gone : faults f ≡ wrong = e in absurd cc

-- operands that have sorts, where no part is left
module _ (d : Setting) (made : Made) (live : List ℕ) (held : Variables) (holds : Holding d.variables made live held) where
  clauses_send : {nests : List Nest} {z : Bool} {cases : Cases} {operands : Operands} → SortedClauses d made nests live z cases operands
      → next_of operands ≡ Plain → ClausesSend held cases operands
  clauses_send no_clause plain = tt
  clauses_send (default_clause body others) plain = clauses_send others plain
  clauses_send (send_clause {c = c} {e} {operands} {k = k} channel value body others) plain =
      let rest = no_part e operands (no_part c (also e operands) plain).1 in
      (not_wrong (evaluate held e) (evaluates d made live held e k holds value rest.0), clauses_send others rest.1)
  clauses_send (receive_clause {c = c} {operands = operands} channel initial targets body others) plain =
      clauses_send others (no_part c operands plain).1

  work_sends : {work : Work} {operands : Operands} {rest : Rest} → SortedWork d made live work operands rest
      → next_of operands ≡ Plain → WorkSends held work operands
  work_sends (selects clauses r) plain = clauses_send clauses plain
  work_sends _ plain = tt

module _ (fs : List Signature) (made : Made) where
  never_wrong : {k : Sort} (f : Frame) → SortedFrame fs made k f → deed f ≡ wrong → ⊥
  never_wrong {k} f h e = no_way (subst (Comes fs made k f) e (deed_sorted fs made k f h))
    where
      no_way : Comes fs made k f wrong → ⊥
      no_way c = elim c [ ]

  asking_goes_on : {k : Sort} (f : Frame) → Asking fs k f → (v : Value) → (on : Frame) × (resumed f v ≡ gives on)
  asking_goes_on f a v = (filled f (a.with v), ap (λ x. resumed_by f x v) a.asks)

  all_await : {n : ℕ} {k : Sort} {gs : List Frame} → SortedBelow fs made n k gs → AllAwait n gs
  all_await outermost = standing.outermost
  all_await (caller {g = g} {vs = vs} e a h below) =
      standing.caller (record { arguments = vs; calls = e; goes_on = asking_goes_on g a }) (all_await below)

  innermost : {status : Status} {f : Frame} {gs : List Frame} → SortedFrames fs made status (f ∷ gs) → (k : Sort) × SortedFrame fs made k f
  innermost (is_ready {k} h below) = (k, h)
  innermost (waits {k} h below stands) = (k, h)

  -- the values that it sends, where it stands at a select
  pub frame_sends : {status : Status} (f : Frame) (gs : List Frame) → SortedFrames fs made status (f ∷ gs) → FrameSends f
  frame_sends f gs h plain =
      let s = (innermost h).1 in
      work_sends (record { functions = fs; variables = s.variables; result = s.type }) made s.live f.variables s.holding s.work plain

  pub frames_stand : {status : Status} {gs : List Frame} → SortedFrames fs made status gs → StandsAs status gs
  frames_stand (is_ready {f = f} h below) = standing.is_ready (never_wrong f h) (all_await below)
  frames_stand (waits {f = f} h below stands) = standing.waits (never_wrong f h) stands (all_await below)
  frames_stand is_finished = standing.is_finished
