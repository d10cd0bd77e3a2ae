-- The arms of a select fit its clauses.
use Rattle.std.proofs.Common.{◌≡◌, ◌≤◌, ◌<◌, ℕ, suc, ◌+◌, Bool, List, [], ◌∷◌, ◌++◌, length, Option, refl, ◌∙◌, arith, length-append}
use Rattle.std.specs.Prelude.{max}
use Rattle.gr_scan.specs.declared.token.Place.{Place}
use Rattle.gr_base.specs.declared.values.Value.{Value}
use Rattle.gr_program.specs.Programs.{Stmts, Cases, no_case, default_case, send_case, receive_case}
use Rattle.gr_rules.specs.Operands.{Operand, Variable, Operands, two, value_of, operand_of}
use Rattle.gr_rules.specs.Points.{Rest, chosen, Point, onto, case_operands, point_after}
use Rattle.gr_rules.specs.Deeds.{clause_point}
use Rattle.gr_code.specs.Filling.{Temporaries, fill_rest, ClearAll}
use Rattle.gr_code.specs.Instructions.{Arm, ReceiveArm, receiving}
use Rattle.gr_code.specs.Bounds.{AllBelow, NoneBelow}
use Rattle.gr_code.specs.Vectors.{TargetsBelow}
use Rattle.gr_code.specs.Passing.{parts}
use Rattle.gr_code.specs.Code as code
use Rattle.gr_code.specs.Code.{Meanings, Means, FitArms}
use Rattle.gr_code.specs.Programs.{AreSlotsIfAny, ArmsInBounds}
use Rattle.gr_code.proofs.FrameSimulation.{onto_fill}
use Rattle.gr_lower.specs.PartCode.{left, left_in}
use Rattle.gr_lower.specs.Sizes.{targets_size, size_in}
use Rattle.gr_lower.specs.StatementCode.{entry, into, targets_code, arms}
use Rattle.gr_lower.specs.StatementPoints.{targets_points, stmts_points, cases_points}
use Rattle.gr_lower.specs.Lowered.{arm_cells, arms_cells}
use Rattle.gr_lower.specs.CanLower.{CanDoAll, CanDoCases}
use Rattle.gr_lower.proofs.Meant.{Leads, AreMeant, meant_first, meant_second, EachFits}
use Rattle.gr_lower.proofs.Rests.{Good, good_onto, continues}
use Rattle.gr_lower.proofs.Entries.{length_stmts, length_targets, leads_in}
use Rattle.gr_lower.proofs.ActsFit.{receiving_means}

abbrev pub EachArmWithin : ℕ → List Arm → Type 0
EachArmWithin m [] = Unit {0}
EachArmWithin m (a ∷ rest) = (arm_cells a ≤ m) × EachArmWithin m rest

pub arms_within : (m k : ℕ) (all : List Arm) → arms_cells k all ≤ m → (k ≤ m) × EachArmWithin m all
arms_within m k [] h = (h, tt)
arms_within m k (a ∷ rest) h =
    let t : (max k (arm_cells a) ≤ m) × EachArmWithin m rest = arms_within m (max k (arm_cells a)) rest h in
    let l : max k (arm_cells a) ≤ m = t.0 in
    (omega arith, (omega arith, t.1))

-- what a clause assigns to
pub slots_fit : (n m d on : ℕ) (targets : List (Option ℕ)) (channel : Operand) (initial : Value) → n ≤ d
    → arm_cells (ReceiveArm channel initial (into targets d) on) ≤ m → AreSlotsIfAny n m (into targets d)
slots_fit n m d on [] channel initial low h = tt
slots_fit n m d on (k ∷ ks) channel initial low h = ((low, omega arith), (omega arith, omega arith))

module _ (n m count : ℕ) (means : Meanings) (place : Place) (rest : Rest) (d on : ℕ) (low : n ≤ d) (good : Good n d rest)
    (next : Leads count means on (point_after rest)) where
  good_in : (number : ℕ) (body : Stmts) → CanDoAll n body → Good n d (onto body (chosen number rest))
  good_in number body h = good_onto n d body (chosen number rest) h (record { below = good.below; kept = good.kept })

  pub body_leads : (number : ℕ) (body : Stmts) (o : ℕ) → AreMeant count means o (stmts_points body (chosen number rest) d)
      → Leads count means (entry (size_in body) o on) (point_after (onto body (chosen number rest)))
  body_leads number body o s = leads_in count means body (chosen number rest) d o on s next

  pub clause_leads : (number : ℕ) (targets : List (Option ℕ)) (body : Stmts) (o : ℕ)
      → AreMeant count means o (targets_points place targets (onto body (chosen number rest)) d ++ stmts_points body (chosen number rest) d)
      → Leads count means (entry (size_in body) (o + targets_size targets) on) (point_after (onto body (chosen number rest)))
  clause_leads number targets body o s =
      body_leads number body (o + targets_size targets)
      (meant_second count means o (targets_size targets) (targets_points place targets (onto body (chosen number rest)) d)
      (stmts_points body (chosen number rest) d)
      (length_targets place targets (onto body (chosen number rest)) d) s)

  -- a clause that receives
  record Receives (number : ℕ) (all : Operands) (targets : List (Option ℕ)) (body : Stmts) (to : ℕ) : Type 0 where
    pub fits : (ts : Temporaries) (got : Value × Bool) → NoneBelow n ts → ClearAll ts all
        → Means means (receiving ts (into targets d) got) to (clause_point place targets (onto body (chosen number (fill_rest ts rest))) got)
    pub within : to < count

  received : (number : ℕ) (all : Operands) (targets : List (Option ℕ)) (body : Stmts) (o : ℕ) → CanDoAll n body
      → AreMeant count means o (targets_points place targets (onto body (chosen number rest)) d ++ stmts_points body (chosen number rest) d)
      → Receives number all targets body (entry (targets_size targets + size_in body) o on)
  received number all [] body o h s =
      let l : Leads count means (entry (size_in body) o on) (point_after (onto body (chosen number rest))) = body_leads number body o s in
      let z : 0 + size_in body ≡ size_in body = omega arith in
      rw z (record {
        fits = λ ts got none clear. rw (onto_fill ts body (chosen number rest)) at
            (continues n d means all (onto body (chosen number rest)) (entry (size_in body) o on) (good_in number body h) l.is ts none clear);
        within = l.within;
      })
  received number all (k ∷ ks) body o h s =
      let z : 1 + size_in body ≡ suc (size_in body) = omega arith in
      rw z (record {
        fits = λ ts got none clear. rw (onto_fill ts body (chosen number rest)) at
            (receiving_means n m count means place (k ∷ ks) (onto body (chosen number rest)) d o ts got (good_in number body h).kept s.0.is);
        within = s.0.within;
      })

  pub length_clause : (number : ℕ) (targets : List (Option ℕ)) (body : Stmts)
      → length (targets_points place targets (onto body (chosen number rest)) d ++ stmts_points body (chosen number rest) d) ≡ targets_size targets
      + size_in body
  length_clause number targets body =
      length-append (targets_points place targets (onto body (chosen number rest)) d) (stmts_points body (chosen number rest) d)
      ∙ cc (length_targets place targets (onto body (chosen number rest)) d, length_stmts body (chosen number rest) d)

  pub arms_fit : (cases : Cases) (number t o : ℕ) (all : Operands) → CanDoCases n cases → AreMeant count means o (cases_points place number cases rest d)
      → AllBelow m (left_in (case_operands cases) t) → EachArmWithin m (arms cases t d o on)
      → FitArms n means place all rest number cases (left_in (case_operands cases) t) (arms cases t d o on) × ArmsInBounds n m count (arms cases t d o on)
  arms_fit no_case number t o all h s b w = (code.no_arm number, tt)
  arms_fit (default_case body others) number t o all h s b w =
      let here : List Point = stmts_points body (chosen number rest) d in
      let after : List Point = cases_points place (number + 1) others rest d in
      let l : Leads count means (entry (size_in body) o on) (point_after (onto body (chosen number rest))) = body_leads number body o
      (meant_first count means o here after s) in
      let r : _ = arms_fit others (number + 1) t (o + size_in body) all h.1
      (meant_second count means o (size_in body) here after (length_stmts body (chosen number rest) d) s) b w.1 in (
        code.default_arm number body others (left_in (case_operands others) t) (arms others t d (o + size_in body) on) (entry (size_in body) o on)
            (continues n d means all (onto body (chosen number rest)) (entry (size_in body) o on) (good_in number body h.0) l.is) r.0,
        (l.within, r.1),
      )
  arms_fit (send_case channel value body others) number t o all h s b w =
      let here : List Point = stmts_points body (chosen number rest) d in
      let after : List Point = cases_points place (number + 1) others rest d in
      let u : ℕ = t + parts (operand_of channel) + parts (operand_of value) in
      let l : Leads count means (entry (size_in body) o on) (point_after (onto body (chosen number rest))) = body_leads number body o
      (meant_first count means o here after s) in
      let r : _ = arms_fit others (number + 1) u (o + size_in body) all h.3
      (meant_second count means o (size_in body) here after (length_stmts body (chosen number rest) d) s) b.1.1 w.1 in (
        code.send_arm number channel value body others (left (operand_of channel) t) (left (operand_of value) (t + parts (operand_of channel)))
            (left_in (case_operands others) u) (arms others u d (o + size_in body) on) (entry (size_in body) o on)
            (continues n d means all (onto body (chosen number rest)) (entry (size_in body) o on) (good_in number body h.2) l.is) r.0,
        ((b.0, b.1.0, l.within), r.1),
      )
  arms_fit (receive_case targets channel initial body others) number t o all h s b w =
      let here : List Point = targets_points place targets (onto body (chosen number rest)) d ++ stmts_points body (chosen number rest) d in
      let after : List Point = cases_points place (number + 1) others rest d in
      let k : ℕ = targets_size targets + size_in body in
      let u : ℕ = t + parts (operand_of channel) in
      let to : ℕ = entry k o on in
      let v : Receives number all targets body to = received number all targets body o h.2 (meant_first count means o here after s) in
      let r : _ = arms_fit others (number + 1) u (o + k) all h.3 (meant_second count means o k here after (length_clause number targets body) s) b.1 w.1 in (
        code.receive_arm number targets channel initial body others (left (operand_of channel) t) (left_in (case_operands others) u)
            (arms others u d (o + k) on)
            (into targets d) to v.fits r.0,
        ((b.0, slots_fit n m d to targets (left (operand_of channel) t) (value_of initial) low w.0, v.within), r.1),
      )

  -- the assignment of what a clause received
  pub targets_fit : (targets : List (Option ℕ)) (r : Rest) (o to : ℕ) → TargetsBelow n targets → AreSlotsIfAny n m (into targets d) → Good n d r
      → Leads count means to (point_after r) → EachFits n m count means (targets_points place targets r d) (targets_code targets d to)
  targets_fit [] r o to h slots g l = tt
  targets_fit (k ∷ ks) r o to h slots g l = (
    (
      code.assignment place (k ∷ ks) (two (Variable d) (Variable (d + 1))) r to refl (continues n d means (two (Variable d) (Variable (d + 1))) r to g l.is),
      ((slots.0.1, (slots.1.1, tt)), (h, l.within)),
    ),
    tt,
  )
