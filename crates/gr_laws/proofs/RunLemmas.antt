-- Of every run: each goroutine's steps are counted and its lines are kept in order, and steps have names of their own.
use Rattle.std.proofs.Common.{◌≡◌, ◌↔◌, ℕ, ◌+◌, ◌<◌, ◌≤◌, ◌==◌, Bool, true, false, if◌then◌else◌, List, [], ◌∷◌, ◌++◌, map, length, Option, Some, None, refl, sym, ◌∙◌, ap, ap₂, subst, arith, inl, inr, append_assoc, eqb-true, eq-eqb}
use Rattle.std.proofs.lemmas.List.{append-nil}
use Rattle.std.specs.List.{cons_option}
use Rattle.gr_causal.specs.Sequences.{In, Distinct}
use Rattle.gr_causal.proofs.ListLemmas.{true_or_false, Distinct-by_name}
use Rattle.gr_causal.proofs.NameLemmas.{distinct_names}
use Rattle.gr_causal.proofs.PathLemmas.{Path, path_of}
use Rattle.gr_channels.proofs.Slots.{le_or_more}
use Rattle.gr_program.specs.Programs.{Program}
use Rattle.gr_rules.specs.Outcomes.{Outcome, gives, faults, wrong}
use Rattle.gr_rules.specs.Frames.{Frame}
use Rattle.gr_rules.specs.States.{State, same_go, call_of, main_of, started_in, start}
use Rattle.gr_rules.specs.Steps.{machine, owner, ordinal, count}
use Rattle.gr_rules.specs.Tells.{console}
use Rattle.gr_laws.specs.Reached.{Logged, IsRun}
use Rattle.gr_laws.specs.Consoles.{text_of, steps_by}
use Rattle.gr_laws.specs.Dependence.{StepName, step_name, same_name}
use Rattle.gr_laws.proofs.CellLemmas.{both_true, and_true, go_is, go_self}
use Rattle.gr_laws.proofs.CountLemmas.{Tally, tally, with_line, stepped_on}
use Rattle.gr_laws.proofs.RuleCounts.{stepped, machine_counts}

pub distinct_steps : (p : Program) (log : List (Logged p)) (t : State) → IsRun p log t → Distinct (map (step_name p) log)
distinct_steps p log t l = distinct_names (machine p) owner ordinal count (machine_counts p) (start p) log t l

pub distinct_log : (p : Program) (log : List (Logged p)) (t : State) → IsRun p log t → Distinct log
distinct_log p log t l = Distinct-by_name (step_name p) log (distinct_steps p log t l)

different : (g h : List ℕ) → same_go g h ≡ false → g ≡ h → ⊥
different g h f e = let t : true ≡ false = sym (go_self h) ∙ ap (λ x. same_go x h) (sym e) ∙ f in cc

printed_first : (line : Option (List ℕ)) (text lines : List (List ℕ))
    → with_line line text ++ lines ≡ text ++ cons_option line lines
printed_first None text lines = refl
printed_first (Some l) text lines = append_assoc text (l ∷ []) lines

abbrev of_both : ℕ → List (List ℕ) → Tally
of_both n text = (n, text)

pair : (n m : ℕ) (a b : List (List ℕ)) → n ≡ m → a ≡ b → of_both n a ≡ of_both m b
pair n m a b e f = ap₂ of_both e f

module _ (p : Program) (g : List ℕ) where
  -- a tally after these steps, which are all of the goroutine
  abbrev after : Tally → List (Logged p) → Tally
  after x rs = (x.0 + length rs, x.1 ++ console p rs)

  after_none : (x : Tally) → x ≡ after x []
  after_none x = pair _ _ _ _ (omega arith) (sym (append-nil x.1))

  after_first : (x : Tally) (r : Logged p) (rs : List (Logged p)) → after (stepped_on r.note.kind.printed x) rs ≡ after x (r ∷ rs)
  after_first x r rs = pair _ _ _ _ (omega arith) (printed_first r.note.kind.printed x.1 (console p rs))

  tally_along : (rs : List (Logged p)) (s t : State) → Path (machine p) s rs t
      → tally (t.goroutines g) ≡ after (tally (s.goroutines g)) (steps_by p g rs)
  tally_along [] s t w = ap (λ (x : State). tally (x.goroutines g)) (sym w) ∙ after_none (tally (s.goroutines g))
  tally_along (r ∷ rs) s t w =
      let m = w.0 in
      let here = stepped p s r.event m r.note w.1.does in
      let rest = tally_along rs m t w.2 in elim (true_or_false (same_go g r.event.go)) [
        | inl q ↦
            let mine : tally (m.goroutines g) ≡ stepped_on r.note.kind.printed (tally (s.goroutines g)) =
            subst (λ n. tally (m.goroutines n) ≡ stepped_on r.note.kind.printed (tally (s.goroutines n))) (sym (go_is g r.event.go q)) here.raised.mine in
            rw q (rest ∙ ap (λ x. after x (steps_by p g rs)) mine ∙ after_first (tally (s.goroutines g)) r (steps_by p g rs))
        | inr q ↦ rw q (rest ∙ ap (λ x. after x (steps_by p g rs)) (here.raised.others g (different g r.event.go q)))
      ]

  -- the names of its steps are the ordinals from its count at the start to its count at the end
  abbrev Among : ℕ → State → State → Type 0
  Among k s t = (count s g < k) × (k ≤ count t g)

  owner_is : (r : Logged p) (k : ℕ) → (g, k) ≡ step_name p r → (g ≡ r.event.go) × (k ≡ r.note.kind.ordinal)
  owner_is r k e = (ap (λ (n : StepName). n.0) e, ap (λ (n : StepName). n.1) e)

  counts_along : (rs : List (Logged p)) (s t : State) → Path (machine p) s rs t → count t g ≡ count s g + length (steps_by p g rs)
  counts_along rs s t w = ap (λ (x : Tally). x.0) (tally_along rs s t w)

  named_along : (k : ℕ) (rs : List (Logged p)) (s t : State) → Path (machine p) s rs t
      → In (g, k) (map (step_name p) rs) ↔ Among k s t
  named_along k [] s t w = (
    λ i. absurd i,
    λ h. let e : count s g ≡ count t g = ap (λ x. count x g) w in let a : count s g < k = h.0 in let b : k ≤ count t g = h.1 in absurd (omega arith),
  )
  named_along k (r ∷ rs) s t w =
      let m = w.0 in
      let here = stepped p s r.event m r.note w.1.does in
      let rest = named_along k rs m t w.2 in
      let later = counts_along rs m t w.2 in elim (true_or_false (same_go g r.event.go)) [
        | inl q ↦
            let is = go_is g r.event.go q in
            let mine : count m g ≡ count s g + 1 = subst (λ n. count m n ≡ count s n + 1) (sym is) (ap (λ (x : Tally). x.0) here.raised.mine) in
            let noted : r.note.kind.ordinal ≡ count s g + 1 = subst (λ n. r.note.kind.ordinal ≡ count s n + 1) (sym is) here.noted in (
              λ i. elim i [
                | inl e ↦ let f : k ≡ r.note.kind.ordinal = (owner_is r k e).1 in (omega arith, omega arith)
                | inr j ↦ let a : count m g < k = (rest.0 j).0 in (omega arith, (rest.0 j).1)
              ],
              λ h. let a : count s g < k = h.0 in elim (le_or_more k (count s g + 1)) [
                | inl l ↦ inl (pair_name is (omega arith))
                | inr l ↦ inr (rest.1 (omega arith, h.1))
              ],
            )
        | inr q ↦
            let same : count m g ≡ count s g = ap (λ (x : Tally). x.0) (here.raised.others g (different g r.event.go q)) in (
              λ i. elim i [
                | inl e ↦ absurd (different g r.event.go q (owner_is r k e).0)
                | inr j ↦ let a : count m g < k = (rest.0 j).0 in (omega arith, (rest.0 j).1)
              ],
              λ h. let a : count s g < k = h.0 in inr (rest.1 (omega arith, h.1)),
            )
      ]
    where
      pair_name : g ≡ r.event.go → k ≡ r.note.kind.ordinal → (g, k) ≡ step_name p r
      pair_name e f = ap₂ (λ (n : List ℕ) (k : ℕ). (n, k)) e f

-- nothing is counted and nothing printed at the start
none_at_start : (p : Program) (g : List ℕ) → tally ((start p).goroutines g) ≡ (0, [])
none_at_start p g = by_name (same_go g [])
  where
    by_main : (f : Outcome Frame) → tally (started_in f) ≡ (0, [])
    by_main (gives f) = refl
    by_main (faults e) = refl
    by_main wrong = refl

    by_name : (b : Bool) → tally (if b then started_in (call_of p (main_of p) []) else None) ≡ (0, [])
    by_name true = by_main (call_of p (main_of p) [])
    by_name false = refl

pub tally_of_run : (p : Program) (t : State) (log : List (Logged p)) (g : List ℕ) → IsRun p log t
    → (text_of (t.goroutines g) ≡ console p (steps_by p g log)) × (count t g ≡ length (steps_by p g log))
tally_of_run p t log g l =
    let along = tally_along p g log (start p) t (path_of (machine p) (start p) log t l) in
    let all = along ∙ ap (λ x. after p g x (steps_by p g log)) (none_at_start p g) in
    let counted : count t g ≡ 0 + length (steps_by p g log) = ap (λ (x : Tally). x.0) all in
    (ap (λ (x : Tally). x.1) all, omega arith)

pub names_of_run : (p : Program) (t : State) (log : List (Logged p)) (g : List ℕ) (k : ℕ) → IsRun p log t
    → In (g, k) (map (step_name p) log) ↔ ((0 < k) × (k ≤ count t g))
names_of_run p t log g k l =
    let first : count (start p) g ≡ 0 = ap (λ (x : Tally). x.0) (none_at_start p g) in
    subst (λ n. In (g, k) (map (step_name p) log) ↔ ((n < k) × (k ≤ count t g))) first (named_along p g k log (start p) t (path_of (machine p) (start p) log t l))

-- names that are the same are one
pub same_name_is : (m n : StepName) → (same_name m n ≡ true) ↔ (m ≡ n)
same_name_is m n = (
  λ e. let h = both_true (same_go m.0 n.0) (m.1 == n.1) e in ap₂ (λ (g : List ℕ) (k : ℕ). (g, k)) (go_is m.0 n.0 h.0) (eqb-true m.1 n.1 h.1),
  λ e. subst (λ x. same_name m x ≡ true) e (and_true (same_go m.0 m.0) (m.1 == m.1) (go_self m.0) (eq-eqb m.1 m.1 refl)),
)
