-- The code of a statement's parts, and what is done after them, fits the points that plug one part after another.
use Rattle.std.proofs.Common.{◌≡◌, ◌≤◌, ℕ, zero, suc, ◌+◌, Bool, true, false, List, [], ◌∷◌, ◌++◌, length, Option, Some, refl, sym, ap, ◌∙◌, subst, arith}
use Rattle.std.specs.Prelude.{if◌then◌else◌, unwrap_or}
use Rattle.gr_scan.specs.declared.token.Place.{Place}
use Rattle.gr_tree.specs.declared.expr.BinaryOp.{BinaryOp}
use Rattle.gr_base.specs.declared.values.Value.{Value}
use Rattle.gr_rules.specs.Operators.{settles}
use Rattle.gr_rules.specs.Operands.{Operand, Operands}
use Rattle.gr_rules.specs.Parts.{Ask, Decides, Next, Asks, next_of}
use Rattle.gr_rules.specs.Points.{Rest, Work, Point, at, point_after}
use Rattle.gr_rules.specs.Frames.{is_over}
use Rattle.gr_code.specs.Filling.{Temporaries, with_value, fill_all, fill_rest, fill_work, fill_point, ClearAll}
use Rattle.gr_code.specs.Instructions.{Instruction, Part, Decide}
use Rattle.gr_code.specs.Bounds.{AllBelow}
use Rattle.gr_code.specs.Plugging.{plug_all, Unsettled}
use Rattle.gr_code.specs.Passing.{passed_by_in, AllPassing}
use Rattle.gr_code.specs.Code as code
use Rattle.gr_code.specs.Code.{Meanings, Means, Fits, point_filled, is_decision}
use Rattle.gr_code.proofs.Plugs.{plugged_all}
use Rattle.gr_code.proofs.Clearing.{cleared_all}
use Rattle.gr_code.proofs.Bounding.{bounded_all}
use Rattle.gr_code.proofs.Passing.{ends_all, keeps_all}
use Rattle.gr_code.proofs.Beginning.{begins_all}
use Rattle.gr_lower.specs.Lowered.{cells_for}
use Rattle.gr_lower.specs.StatementPoints.{plugged, points}
use Rattle.gr_lower.proofs.PartsRead.{Reads, done, reads, IsContext, instruction_for}
use Rattle.gr_lower.proofs.Meant.{AreMeant, meant_within, EachWithin, FitsHere, EachFits}
use Rattle.gr_lower.proofs.Bounded.{wider_all, asks_below}

-- the laws of plugging, where there is a part
module _ (d : ℕ) (es on : Operands) (ask : Ask) (k : Value → Operands) (below : AllBelow d es) (asks : next_of es ≡ Asks ask k)
    (plugs : plug_all d es ≡ Some on) where
  on_filled : (ts : Temporaries) (v : Value) → fill_all (with_value ts d v) on ≡ fill_all ts (k v)
  on_filled = rw (asks, plugs) at (plugged_all d es below)

  on_clear : (ts : Temporaries) (v : Value) → ClearAll ts es → Unsettled ask v → ClearAll (with_value ts d v) on
  on_clear = rw (asks, plugs) at (cleared_all d es below)

  on_below : AllBelow (d + 1) on
  on_below = rw plugs at (bounded_all d es below)

  on_passing : (m : ℕ) → passed_by_in es ≡ Some m → (ts : Temporaries) (v : Value) (op : BinaryOp) (left : Operand)
      → ask ≡ Decides op left → settles op v ≡ true → ClearAll ts es → AllPassing m (with_value ts d v) on
  on_passing m passes = rw (asks, plugs, passes) at (begins_all d es below)

on_kept : (d m : ℕ) (ts : Temporaries) (es on : Operands) → plug_all d es ≡ Some on → AllPassing (suc m) ts es
    → (fill_all ts on ≡ fill_all ts es) × AllPassing m ts on
on_kept d m ts es on plugs h = rw plugs at (keeps_all d ts m es h)

-- the temporary of a part is a cell
used : (ask : Ask) (d o j : ℕ) {m : ℕ} → cells_for (instruction_for ask d o j) ≤ m → d + 1 ≤ m
used (Decides op left) d o j h = h
used other d o j h = h

-- temporaries from a number on are not in a statement's work and rest
pub record Unmoved (d : ℕ) (work : Work) (rest : Rest) : Type 0 where
  pub in_work : (ts : Temporaries) (x : ℕ) (v : Value) → d ≤ x → fill_work (with_value ts x v) work ≡ fill_work ts work
  pub in_rest : (ts : Temporaries) (x : ℕ) (v : Value) → d ≤ x → fill_rest (with_value ts x v) rest ≡ fill_rest ts rest

unmoved_later : (d : ℕ) (work : Work) (rest : Rest) → Unmoved d work rest → Unmoved (d + 1) work rest
unmoved_later d work rest u = record { in_work = λ ts x v l. u.in_work ts x v (omega arith); in_rest = λ ts x v l. u.in_rest ts x v (omega arith) }

pub length_points : (place : Place) (work : Work) (rest : Rest) (k d : ℕ) (es : Operands) → length (points place work rest k d es) ≡ k
length_points place work rest zero d es = refl
length_points place work rest (suc k) d es = ap (λ x. suc x) (length_points place work rest k (d + 1) (plugged d es))

module _ (n m count : ℕ) (means : Meanings) (place : Place) (work : Work) (rest : Rest) where
  module _ {A : Type 0} (next : A → Next A) (plug : ℕ → A → Option A) (passed : A → Option ℕ) (f : A → Operands)
      (c : IsContext next plug passed next_of plug_all passed_by_in f)
      (over : (ts : Temporaries) (a : A) → is_over (fill_work ts work) (fill_all ts (f a)) ≡ false) where
    abbrev PartReads : ℕ → ℕ → A → List Instruction → A → Type 0
    PartReads = Reads next plug passed

    abbrev here : A → Point
    here a = at place work (f a) rest

    on_plugged : (d : ℕ) (a b : A) → plug d a ≡ Some b → plugged d (f a) ≡ f b
    on_plugged d a b e = ap (λ o. unwrap_or o (f a)) (c.plugs d a b e)

    -- past parts that are passed by
    record Skips (o : ℕ) (ts : Temporaries) (es : Operands) : Type 0 where
      pub to : A
      pub is : means o ≡ here to
      pub same : fill_all ts (f to) ≡ fill_all ts es
      pub clear : ClearAll ts (f to)

    skips : (d o j : ℕ) (a b : A) (is : List Instruction) → PartReads d o a is b → j ≤ length is → (ts : Temporaries) → AllPassing j ts (f a)
        → AreMeant count means o (points place work rest (suc (length is)) d (f a)) → Skips (o + j) ts (f a)
    skips d o zero a b is r l ts h s = let z : o + 0 ≡ o = omega arith in rw z (record { to = a; is = s.0.is; same = refl; clear = ends_all ts (f a) h })
    skips _ _ (suc j) _ _ _ (done d o a) l ts h s = absurd (omega arith)
    skips _ _ (suc j) _ _ _ (reads d o a b ask k i is l' asks plugs passes enough r) l ts h s =
        let z : o + suc j ≡ o + 1 + j = omega arith in
        let kept : (fill_all ts (f b) ≡ fill_all ts (f a)) × AllPassing j ts (f b) = on_kept d j ts (f a) (f b) (c.plugs d a b plugs) h in
        let t : Skips (o + 1 + j) ts (f b) = skips (d + 1) (o + 1) j b l' is r (omega arith) ts kept.1 (rw (on_plugged d a b plugs) at s.1) in
        rw z (record { to = t.to; is = t.is; same = t.same ∙ kept.0; clear = t.clear })

    -- the point past a part
    comes : (d o : ℕ) (a : A) (k : Value → A) (to : A) (ts : Temporaries) (v : Value) → Unmoved d work rest → means o ≡ here to
        → fill_all (with_value ts d v) (f to) ≡ fill_all ts (f (k v)) → ClearAll (with_value ts d v) (f to)
        → Means means (with_value ts d v) o (point_filled (fill_point ts (here a)) (fill_all ts (f (k v))))
    comes d o a k to ts v u e g clear =
        rw e (
          cc (u.in_work ts d v (omega arith), g, u.in_rest ts d v (omega arith))
              ∙ sym (ap (λ z. if z then point_after (fill_rest ts rest) else at place (fill_work ts work) (fill_all ts (f (k v))) (fill_rest ts rest))
              (over ts (k v))),
          clear,
        )

    part_fits : (d o : ℕ) (a b : A) (ask : Ask) (k : Value → A) → AllBelow d (f a) → Unmoved d work rest → is_decision ask ≡ false
        → ((v : Value) → Unsettled ask v) → next a ≡ Asks ask k → plug d a ≡ Some b → means (o + 1) ≡ here b
        → Fits n means (here a) (Part ask (Some d) (o + 1))
    part_fits d o a b ask k below u plain un asks plugs e =
        code.part place work (f a) rest ask (λ v. f (k v)) (Some d) (o + 1) (c.asks a ask k asks) plain
        (λ ts v none clear. comes d (o + 1) a k b ts v u e (on_filled d (f a) (f b) ask (λ v. f (k v)) below (c.asks a ask k asks) (c.plugs d a b plugs) ts v)
        (on_clear d (f a) (f b) ask (λ v. f (k v)) below (c.asks a ask k asks) (c.plugs d a b plugs) ts v clear (un v)))

    decision_fits : (d o j : ℕ) (a b l : A) (op : BinaryOp) (left : Operand) (k : Value → A) (is : List Instruction) → AllBelow d (f a) → Unmoved d work rest
        → next a ≡ Asks (Decides op left) k → plug d a ≡ Some b → passed a ≡ Some j → j ≤ length is → PartReads (d + 1) (o + 1) b is l
        → AreMeant count means (o + 1) (points place work rest (suc (length is)) (d + 1) (f b))
        → Fits n means (here a) (Decide op left d (o + 1 + j) (o + 1))
    decision_fits d o j a b l op left k is below u asks plugs passes enough r s =
        code.decision place work (f a) rest op left (λ v. f (k v)) d (o + 1 + j) (o + 1) asks' (λ ts v none clear. by_settles ts v clear (settles op v) refl)
      where
        asks' : next_of (f a) ≡ Asks (Decides op left) (λ v. f (k v))
        asks' = c.asks a (Decides op left) k asks

        plugs' : plug_all d (f a) ≡ Some (f b)
        plugs' = c.plugs d a b plugs

        passes' : passed_by_in (f a) ≡ Some j
        passes' = c.passes a j passes

        by_settles : (ts : Temporaries) (v : Value) → ClearAll ts (f a) → (z : Bool) → settles op v ≡ z
            → Means means (with_value ts d v) (if z then o + 1 + j else o + 1) (point_filled (fill_point ts (here a)) (fill_all ts (f (k v))))
        by_settles ts v clear true z =
            let t : Skips (o + 1 + j) (with_value ts d v) (f b) =
            skips (d + 1) (o + 1) j b l is r enough (with_value ts d v)
            (on_passing d (f a) (f b) (Decides op left) (λ v. f (k v)) below asks' plugs' j passes' ts v op left refl z clear) s in
            comes d (o + 1 + j) a k t.to ts v u t.is (t.same ∙ on_filled d (f a) (f b) (Decides op left) (λ v. f (k v)) below asks' plugs' ts v) t.clear
        by_settles ts v clear false z =
            comes d (o + 1) a k b ts v u s.0.is (on_filled d (f a) (f b) (Decides op left) (λ v. f (k v)) below asks' plugs' ts v)
            (on_clear d (f a) (f b) (Decides op left) (λ v. f (k v)) below asks' plugs' ts v clear z)

    -- the instruction of a part
    step_fits : (d o j : ℕ) (a b l : A) (ask : Ask) (k : Value → A) (is : List Instruction) → n ≤ d → d ≤ m → cells_for (instruction_for ask d o j) ≤ m
        → AllBelow d (f a) → Unmoved d work rest
        → next a ≡ Asks ask k → plug d a ≡ Some b → passed a ≡ Some j → j ≤ length is → PartReads (d + 1) (o + 1) b is l
        → AreMeant count means (o + 1) (points place work rest (suc (length is)) (d + 1) (f b))
        → FitsHere n m count means (here a) (instruction_for ask d o j)
    step_fits d o j a b l (Decides op left) k is low high cells below u asks plugs passes enough r s = (
      decision_fits d o j a b l op left k is below u asks plugs passes enough r s,
      (
        asks_below m (f a) (Decides op left) (λ v. f (k v)) (wider_all d m high (f a) below) (c.asks a (Decides op left) k asks),
        (low, omega arith),
        meant_within count means (o + 1) j (points place work rest (suc (length is)) (d + 1) (f b)) s
            (let w : length (points place work rest (suc (length is)) (d + 1) (f b)) ≡ suc (length is) = length_points place work rest (suc (length is))
            (d + 1) (f b) in omega arith),
        s.0.within,
      ),
    )
    step_fits d o j a b l other k is low high cells below u asks plugs passes enough r s = (
      part_fits d o a b other k below u refl (λ v. tt) asks plugs s.0.is,
      (asks_below m (f a) other (λ v. f (k v)) (wider_all d m high (f a) below) (c.asks a other k asks), (low, omega arith), s.0.within),
    )

    -- the parts one after another, and then the last instruction
    pub walk : (d o : ℕ) (a l : A) (is : List Instruction) (last : Instruction) → PartReads d o a is l → n ≤ d → d ≤ m → AllBelow d (f a) → Unmoved d work rest
        → AreMeant count means o (points place work rest (suc (length is)) d (f a)) → EachWithin m (is ++ last ∷ [])
        → ((e : ℕ) → n ≤ e → e ≤ m → AllBelow e (f l) → FitsHere n m count means (here l) last)
        → EachFits n m count means (points place work rest (suc (length is)) d (f a)) (is ++ last ∷ [])
    walk _ _ _ _ _ last (done d o a) low high below u s w fits = (fits d low high below, tt)
    walk _ _ _ _ _ last (reads d o a b ask k j is l asks plugs passes enough r) low high below u s w fits =
        let same : plugged d (f a) ≡ f b = on_plugged d a b plugs in
        let t : AreMeant count means (o + 1) (points place work rest (suc (length is)) (d + 1) (f b)) =
        subst (λ es. AreMeant count means (o + 1) (points place work rest (suc (length is)) (d + 1) es)) same s.1 in
        subst (λ es. EachFits n m count means (here a ∷ points place work rest (suc (length is)) (d + 1) es) (instruction_for ask d o j ∷ (is ++ last ∷ [])))
        (sym same) (
          step_fits d o j a b l ask k is low high w.0 below u asks plugs passes enough r t,
          walk (d + 1) (o + 1) b l is last r (omega arith) (used ask d o j w.0)
              (on_below d (f a) (f b) ask (λ v. f (k v)) below (c.asks a ask k asks) (c.plugs d a b plugs))
              (unmoved_later d work rest u) t w.1 fits,
        )
