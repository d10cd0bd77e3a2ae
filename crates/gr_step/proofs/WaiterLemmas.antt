-- A goroutine in a queue waits there, at its operation or at a clause of its select, and can be met.
use Rattle.std.proofs.Common.{◌≡◌, ℕ, ◌+◌, ◌<◌, Bool, List, [], ◌∷◌, ◌++◌, map, Option, Some, None, refl, sym, ap, subst, ◌∙◌, arith, inl, inr}
use Rattle.std.specs.Prelude.{◌⊎◌, option_map}
use Rattle.gr_base.specs.declared.names.ChName.{ChName}
use Rattle.gr_base.specs.declared.values.Value.{Value}
use Rattle.gr_causal.specs.Sequences.{In}
use Rattle.gr_channels.specs.declared.waiter.Waiter.{Waiter}
use Rattle.gr_channels.specs.Channels.{Content}
use Rattle.gr_program.specs.Programs.{Program}
use Rattle.gr_rules.specs.Outcomes.{Outcome, gives, faults, wrong}
use Rattle.gr_rules.specs.Deeds.{Communication, Sending, Receiving, Otherwise}
use Rattle.gr_rules.specs.Goroutines.{Wait, ToSend, ToReceive, Status, waiting}
use Rattle.gr_rules.specs.Communications.{waits_for, all_waits}
use Rattle.gr_rules.specs.Selects.{numbered}
use Rattle.gr_rules.specs.Touches.{waits_at}
use Rattle.gr_code.specs.Instructions.{Instruction}
use Rattle.gr_code.specs.Code.{HasClause, IfGiven}
use Rattle.gr_code.specs.CodeFrames.{CodeFrame, ProgramCode}
use Rattle.gr_code.specs.Goroutines.{CodeGoroutine, instruction_in, arrived, IsMet}
use Rattle.gr_code.specs.Programs.{IsClause}
use Rattle.gr_code.proofs.Choices.{has_clause}
use Rattle.gr_refine.specs.Contents.{Contents, goroutine_of}
use Rattle.gr_refine.specs.Arriving.{HasClauseHere, IsIn}
use Rattle.gr_refine.specs.Partners.{Meets}
use Rattle.gr_refine.specs.Standing.{AllStand}
use Rattle.gr_refine.proofs.ArrivingLemmas.{here, at_here}
use Rattle.gr_refine.proofs.StartingLemmas.{meeting_arrives, meeting_can_arrive}
use Rattle.gr_lower.specs.Lowered.{lowered, meaning}
use Rattle.type_safety.specs.Standing.{StandsAt, at_operation, at_select, StandsAs, waits}
use Rattle.gr_record.specs.Listings.{frame_in}
use Rattle.gr_record.specs.Running.{Running}
use Rattle.gr_step.proofs.RunningLemmas.{code_fits, waits_sound, stands_as}

-- the clause of a wait
abbrev pub clause_of : Wait → Option ℕ
clause_of (ToSend c clause) = clause
clause_of (ToReceive c clause) = clause

-- the clause of a wait by itself, and of one at a select
by_itself : (c : Communication) (w : Wait) → In w (waits_for None c) → clause_of w ≡ None
by_itself (Sending (Some c) v) w (inl is) = ap clause_of is
by_itself (Sending (Some c) v) w (inr bad) = absurd bad
by_itself (Sending None v) w bad = absurd bad
by_itself (Receiving (Some c) initial) w (inl is) = ap clause_of is
by_itself (Receiving (Some c) initial) w (inr bad) = absurd bad
by_itself (Receiving None initial) w bad = absurd bad
by_itself Otherwise w bad = absurd bad

abbrev IsNumbered : Wait → Type 0
IsNumbered w = (n : ℕ) × (clause_of w ≡ Some n) × (0 < n)

among : (xs ys : List Wait) (w : Wait) → In w (xs ++ ys) → In w xs ⊎ In w ys
among [] ys w h = inr h
among (x ∷ xs) ys w (inl is) = inl (inl is)
among (x ∷ xs) ys w (inr h) = elim (among xs ys w h) [
  | inl k ↦ inl (inr k)
  | inr k ↦ inr k
]

numbered_by : (i : ℕ) (c : Communication) (w : Wait) → 0 < i → In w (waits_for (Some i) c) → IsNumbered w
numbered_by i (Sending (Some c) v) w h (inl is) = (i, ap clause_of is, h)
numbered_by i (Sending (Some c) v) w h (inr bad) = absurd bad
numbered_by i (Sending None v) w h bad = absurd bad
numbered_by i (Receiving (Some c) initial) w h (inl is) = (i, ap clause_of is, h)
numbered_by i (Receiving (Some c) initial) w h (inr bad) = absurd bad
numbered_by i (Receiving None initial) w h bad = absurd bad
numbered_by i Otherwise w h bad = absurd bad

in_select : (i : ℕ) (cs : List Communication) (w : Wait) → 0 < i → In w (all_waits (numbered i cs)) → IsNumbered w
in_select i [] w h bad = absurd bad
in_select i (c ∷ cs) w h k = elim (among (waits_for (Some i) c) (all_waits (numbered (i + 1) cs)) w k) [
  | inl first ↦ numbered_by i c w h first
  | inr later ↦ in_select (i + 1) cs w (omega arith) later
]

no_clause : (code : ProgramCode) (fs : List CodeFrame) → HasClauseHere code fs None
no_clause code [] = tt
no_clause code (f ∷ below) = any (instruction_in code f)
  where
    any : (o : Outcome Instruction) → IfGiven (λ i. HasClause i None) o
    any (gives i) = tt
    any (faults x) = tt
    any wrong = tt

-- what is known of the clause for which a goroutine waits
pub record HasItsClause (code : ProgramCode) (g : CodeGoroutine) (clause : Option ℕ) : Type 0 where
  pub number : IsClause clause
  pub here : HasClauseHere code g.frames clause

module _ (p : Program) (s : Contents) (run : Running p s) (g : CodeGoroutine) (stand : AllStand (meaning p) (lowered p) g.frames) where
  at_clause : (f : CodeFrame) (below : List CodeFrame) → g.frames ≡ f ∷ below → (ws : List Wait) → StandsAt (frame_in p f) ws → (w : Wait) → In w ws
      → HasItsClause (lowered p) g (clause_of w)
  at_clause f below frames ws (at_operation {c} is) w k =
      let none = by_itself c w k in
      record { number = rw none tt; here = rw none (no_clause (lowered p) g.frames) }
  at_clause f below frames ws (at_select {cs} is) w k =
      let n = in_select 1 cs w (omega arith) k in
      let i : IsIn (meaning p) p (lowered p) g f below = record { fits = code_fits p s run; frames = frames; stand = stand } in
      let at = at_here (meaning p) p (lowered p) g f below i in
      let has = has_clause (meaning p) (lowered p) f p (code_fits p s run) (subst {_, _} (AllStand (meaning p) (lowered p)) frames stand).0
      (here (meaning p) p (lowered p) g f below i) at cs n.0 is n.2 in
      record {
        number = rw n.1 n.2;
        here = rw (frames, n.1, at) has;
      }

  by_status : (ws : List Wait) (fs : List CodeFrame) → g.frames ≡ fs → StandsAs (waiting ws) (map (frame_in p) fs) → (w : Wait) → In w ws
      → HasItsClause (lowered p) g (clause_of w)
  by_status ws [] frames stands w k = elim stands [ ]
  by_status ws (f ∷ below) frames (waits right at await) w k = at_clause f below frames ws at w k

  -- one that waits stands at the operation, or at the select with the clause
  pub waits_at_clause : (n : List ℕ) (ws : List Wait) → s.goroutines n ≡ Some g → g.status ≡ waiting ws → (w : Wait) → In w ws
      → HasItsClause (lowered p) g (clause_of w)
  waits_at_clause n ws there status w k =
      by_status ws g.frames refl (subst {_, _} (λ status. StandsAs status (map (frame_in p) g.frames)) status (stands_as p s run n g there)) w k

module _ (p : Program) (s : Contents) (run : Running p s) (c : ChName) (x : Content) (there : s.channels c ≡ Some x) where
  abbrev waits_of_it : List ℕ → List Wait
  waits_of_it n = waits_at (option_map (goroutine_of (frame_in p)) (s.goroutines n))

  known : (n : List ℕ) (g : CodeGoroutine) (ws : List Wait) → s.goroutines n ≡ Some g → g.status ≡ waiting ws → waits_of_it n ≡ ws
  known n g ws is status = ap (λ o. waits_at (option_map (goroutine_of (frame_in p)) o)) is
      ∙ ap (λ (status : Status). elim status [ waiting ws ↦ ws | _ ↦ [] ]) status

  -- who stands in the queue for receiving, or for sending, waits for that
  pub receiver_waits : (w : Waiter (Unit {0})) → In w x.receivers → (g : CodeGoroutine) (ws : List Wait) → s.goroutines w.go ≡ Some g → g.status ≡ waiting ws
      → In (ToReceive c w.case) ws
  receiver_waits w k g ws is status = subst {_, _} (In (ToReceive c w.case)) (known w.go g ws is status)
      ((waits_sound p s run w.go (ToReceive c w.case)).1 (rw there (w, k, refl, refl)))

  pub sender_waits : (w : Waiter Value) → In w x.senders → (g : CodeGoroutine) (ws : List Wait) → s.goroutines w.go ≡ Some g → g.status ≡ waiting ws
      → In (ToSend c w.case) ws
  sender_waits w k g ws is status = subst {_, _} (In (ToSend c w.case)) (known w.go g ws is status)
      ((waits_sound p s run w.go (ToSend c w.case)).1 (rw there (w, k, refl, refl)))

-- one that is met can go on, and then is the partner of the rules
module _ (p : Program) (s : Contents) (run : Running p s) (c : ChName) (name : List ℕ) (clause : Option ℕ) (got : Option (Value × Bool))
    (m : Meets (frame_in p) s c name clause got) (has : HasItsClause (lowered p) m.met_one clause) where
  stands : AllStand (meaning p) (lowered p) m.met_one.frames
  stands = run.stand name m.met_one m.there

  pub can_be_met : ¬ (arrived (lowered p) (IsMet clause got) m.met_one ≡ wrong)
  can_be_met = meeting_can_arrive (meaning p) p (lowered p) clause got m.met_one (code_fits p s run) stands has.here (λ bad. no (sym m.goes_past ∙ bad))
    where
      no : gives m.partner ≡ wrong → ⊥
      no bad = subst {0, 0} (λ (o : Outcome _). elim o [ gives _ ↦ Unit {0} | _ ↦ ⊥ ]) bad tt

  pub is_partner : (after : CodeGoroutine) → arrived (lowered p) (IsMet clause got) m.met_one ≡ gives after → goroutine_of (frame_in p) after ≡ m.partner
  is_partner after is =
      given (sym (meeting_arrives (meaning p) p (lowered p) clause got m.met_one after (code_fits p s run) stands has.number is) ∙ m.goes_past)
    where
      given : {A : Type 0} {x y : A} → gives x ≡ gives y → x ≡ y
      given {A} {x} e = ap (λ (o : Outcome A). elim o [ gives z ↦ z | _ ↦ x ]) e
