-- The machine of mailboxes meets the laws, and counts the steps of its workers.
use Rattle.std.proofs.Common.{◌≡◌, ℕ, ◌+◌, ◌≤◌, Bool, true, false, cond, ◌==◌, ◌||◌, ◌&&◌, [], ◌∷◌, Option, Some, None, refl, sym, ◌∙◌, ap, eqb-true, eq-eqb, ne_eqb, arith, add-one, inl, inr, ◌++◌}
use Rattle.gr_causal.specs.declared.mailboxes.Action.{Action}
use Rattle.gr_causal.specs.declared.mailboxes.Action.TheVariants.{Put, Take, Look}
use Rattle.gr_causal.specs.declared.mailboxes.Event.{Event}
use Rattle.gr_causal.specs.Machine.{Laws, meets}
use Rattle.gr_causal.specs.Rules.{Note, plan, carried, with_read}
use Rattle.gr_causal.specs.StepNames.{CountsSteps}
use Rattle.gr_causal.specs.Mailboxes.{Object, Worker, State, Cell, same, object_of, look, updated, put, acts, rulebook, mailboxes, owner, ordinal, count, changes, noted, clash, moved_on}
use Rattle.gr_causal.specs.Mailboxes.Object.{worker, mailbox}
use Rattle.gr_causal.specs.Mailboxes.Cell.{worker_has, mailbox_has}
use Rattle.gr_causal.proofs.ListLemmas.{some_is, none_not, true_or_false}
use Rattle.gr_causal.proofs.RuleLemmas.{laws_of_rules}

same_is : (o p : Object) → same o p ≡ true → o ≡ p
same_is (worker a) (worker b) h = ap worker (eqb-true a b h)
same_is (mailbox a) (mailbox b) h = ap mailbox (eqb-true a b h)
same_is (worker a) (mailbox b) h = absurd (let e : false ≡ true = h in cc)
same_is (mailbox a) (worker b) h = absurd (let e : false ≡ true = h in cc)

same_self : (o : Object) → same o o ≡ true
same_self (worker a) = eq-eqb a a refl
same_self (mailbox a) = eq-eqb a a refl

updated_here : {X : Type 0} (f : ℕ → X) (k : ℕ) (x : X) → updated f k x k ≡ x
updated_here f k x = ap (λ b. cond b x (f k)) (eq-eqb k k refl)

updated_else : {X : Type 0} (f : ℕ → X) (k n : ℕ) (x : X) → (n ≡ k → ⊥) → updated f k x n ≡ f n
updated_else f k n x h = ap (λ b. cond b x (f n)) (ne_eqb n k h)

put_here : (s : State) (c : Cell) → look (put s c) (object_of c) ≡ c
put_here s (worker_has w x) = ap (worker_has w) (updated_here s.workers w x)
put_here s (mailbox_has m x) = ap (mailbox_has m) (updated_here s.mailboxes m x)

put_else : (s : State) (c : Cell) (o : Object) → (o ≡ object_of c → ⊥) → look (put s c) o ≡ look s o
put_else s (worker_has w x) (worker v) n = ap (worker_has v) (updated_else s.workers w v x (λ e. n (ap worker e)))
put_else s (worker_has w x) (mailbox m) n = refl
put_else s (mailbox_has m x) (worker v) n = refl
put_else s (mailbox_has m x) (mailbox k) n = ap (mailbox_has k) (updated_else s.mailboxes m k x (λ e. n (ap mailbox e)))

name-look : (s : State) (o : Object) → object_of (look s o) ≡ o
name-look s (worker w) = refl
name-look s (mailbox m) = refl

worker_is : (w : ℕ) (x y : Worker) → worker_has w x ≡ worker_has w y → x ≡ y
worker_is w x y e = cc

mailbox_is : (m : ℕ) (x y : Option ℕ) → mailbox_has m x ≡ mailbox_has m y → x ≡ y
mailbox_is m x y e = cc

ext : (s t : State) → ((o : Object) → look s o ≡ look t o) → s ≡ t
ext s t h =
    let p : (w : ℕ) → s.workers w ≡ t.workers w = λ w. worker_is w _ _ (h (worker w)) in
    let q : (m : ℕ) → s.mailboxes m ≡ t.mailboxes m = λ m. mailbox_is m _ _ (h (mailbox m)) in
    λ i. record { workers = λ w. p w i; mailboxes = λ m. q m i }

pub mailbox_laws : Laws mailboxes
mailbox_laws = laws_of_rules rulebook (record { same_is = same_is; same_self = same_self; ext = ext; name-look = name-look; put_here = put_here; put_else = put_else })

-- what a step of e from s leads to
record Went (s : State) (e : Event) (t : State) (n : Note Object ℕ) : Type 0 where
  note : n ≡ noted e ((s.workers e.worker).steps + 1)
  steps : (v : ℕ) → (t.workers v).steps ≡ cond (v == e.worker) ((s.workers e.worker).steps + 1) ((s.workers v).steps)

by_worker : (s : State) (e : Event) (seen : Option ℕ) (v : ℕ) → (updated s.workers e.worker (moved_on (s.workers e.worker) seen) v).steps ≡ cond (v == e.worker) ((s.workers e.worker).steps + 1) ((s.workers v).steps)
by_worker s e seen v = elim (true_or_false (v == e.worker)) [ inl t ↦ rw t refl | inr f ↦ rw f refl ]

abbrev Ends : State × Note Object ℕ → State × Note Object ℕ → Type 0
Ends q p = Some p ≡ Some q

abbrev Leads : State → Event → State × Note Object ℕ → Type 0
Leads s e p = mailboxes.step s e ≡ Some p

went : (s : State) (e : Event) (t : State) (n : Note Object ℕ) → Leads s e (t, n) → Went s e t n
went s e t n h = by_action e.action (s.mailboxes e.mailbox) refl h
  where
    -- the note and the state are those of the rule
    is : (a : Action) → e.action ≡ a → (w : State) → (seen : Option ℕ) → w.workers ≡ updated s.workers e.worker (moved_on (s.workers e.worker) seen)
        → Ends (t, n) (w, record { kind = (s.workers e.worker).steps + 1; reads = worker e.worker ∷ mailbox e.mailbox ∷ []; writes = worker e.worker ∷ cond (changes a) (mailbox e.mailbox ∷ []) [] }) → Went s e t n
    is a q w seen k g =
        let p = some_is _ _ g in record {
          note = sym (ap (λ (p : State × Note Object ℕ). p.1) p) ∙ ap (λ b. record { kind = (s.workers e.worker).steps + 1; reads = worker e.worker ∷ mailbox e.mailbox ∷ []; writes = worker e.worker ∷ cond (changes b) (mailbox e.mailbox ∷ []) [] }) (sym q);
          steps = λ v. ap (λ (p : State × Note Object ℕ). (p.0.workers v).steps) (sym p) ∙ ap (λ (f : ℕ → Worker). (f v).steps) k ∙ by_worker s e seen v;
        }

    by_action : (a : Action) (y : Option ℕ) → e.action ≡ a
        → carried rulebook s (with_read (worker e.worker) (with_read (mailbox e.mailbox) (plan rulebook s (acts e (s.workers e.worker) a y)))) ≡ Some (t, n) → Went s e t n
    by_action (Put v) None q g = is (Put v) q _ (s.workers e.worker).saw refl g
    by_action (Put v) (Some w) q g = absurd (none_not _ g)
    by_action Take None q g = absurd (none_not _ g)
    by_action Take (Some v) q g = is Take q _ (Some v) refl g
    by_action Look None q g = absurd (none_not _ g)
    by_action Look (Some v) q g = is Look q _ (Some v) refl g

own : (s : State) (e : Event) (t : State) (n : Note Object ℕ) → Went s e t n → (t.workers e.worker).steps ≡ (s.workers e.worker).steps + 1
own s e t n w = w.steps e.worker ∙ ap (λ b. cond b ((s.workers e.worker).steps + 1) ((s.workers e.worker).steps)) (eq-eqb e.worker e.worker refl)

-- what is noted of a step
pub mailbox_notes : (s t : State) (e : Event) (n : Note Object ℕ) → Leads s e (t, n) → n ≡ noted e (count t e.worker)
mailbox_notes s t e n h = let w = went s e t n h in w.note ∙ ap (noted e) (sym (own s e t n w))

pub mailbox_counts : CountsSteps mailboxes owner ordinal count
mailbox_counts = record {
  noted = λ s t e n h. let w = went s e t n h in ap (λ (n : Note Object ℕ). n.kind) w.note ∙ sym (own s e t n w);
  raised = λ s t e n h. let w = went s e t n h in own s e t n w ∙ add-one ((s.workers e.worker).steps);
  kept = λ s t e n h o. least s e t n (went s e t n h) o;
}
  where
    least : (s : State) (e : Event) (t : State) (n : Note Object ℕ) → Went s e t n → (o : ℕ) → (s.workers o).steps ≤ (t.workers o).steps
    least s e t n w o = elim (true_or_false (o == e.worker)) [
      | inl b ↦
          let k : (t.workers o).steps ≡ (s.workers e.worker).steps + 1 = w.steps o ∙ ap (λ b. cond b ((s.workers e.worker).steps + 1) ((s.workers o).steps)) b in
          let j : (s.workers o).steps ≡ (s.workers e.worker).steps = ap (λ x. (s.workers x).steps) (eqb-true o e.worker b) in
          omega arith
      | inr f ↦
          let k : (t.workers o).steps ≡ (s.workers o).steps = w.steps o ∙ ap (λ b. cond b ((s.workers e.worker).steps + 1) ((s.workers o).steps)) f in
          omega arith
    ]

eqb_swap : (a b : ℕ) → (a == b) ≡ (b == a)
eqb_swap a b = elim (true_or_false (b == a)) [
  | inl t ↦ eq-eqb a b (sym (eqb-true b a t)) ∙ sym t
  | inr f ↦ ne_eqb a b (λ e. absurd (let q : true ≡ false = sym (eq-eqb b a (sym e)) ∙ f in cc)) ∙ sym f
]

-- steps of workers w and v at mailboxes k and l; the first changes its mailbox if x is true, and the second if y is
by_flags : (w v k l : ℕ) (x y : Bool)
    → (meets same (worker w ∷ cond x (mailbox k ∷ []) []) ((worker v ∷ mailbox l ∷ []) ++ (worker v ∷ cond y (mailbox l ∷ []) []))
    || meets same (worker v ∷ cond y (mailbox l ∷ []) []) ((worker w ∷ mailbox k ∷ []) ++ (worker w ∷ cond x (mailbox k ∷ []) [])))
    ≡ ((w == v) || ((k == l) && (x || y)))
by_flags w v k l true true = rw (eqb_swap v w, eqb_swap l k) (elim (true_or_false (w == v)) [ inl p ↦ rw p refl | inr p ↦ rw p (elim (true_or_false (k == l)) [ inl m ↦ rw m refl | inr m ↦ rw m refl ]) ])
by_flags w v k l true false = rw (eqb_swap v w) (elim (true_or_false (w == v)) [ inl p ↦ rw p refl | inr p ↦ rw p (elim (true_or_false (k == l)) [ inl m ↦ rw m refl | inr m ↦ rw m refl ]) ])
by_flags w v k l false true = rw (eqb_swap v w, eqb_swap l k) (elim (true_or_false (w == v)) [ inl p ↦ rw p refl | inr p ↦ rw p (elim (true_or_false (k == l)) [ inl m ↦ rw m refl | inr m ↦ rw m refl ]) ])
by_flags w v k l false false = rw (eqb_swap v w) (elim (true_or_false (w == v)) [ inl p ↦ rw p refl | inr p ↦ rw p (elim (true_or_false (k == l)) [ inl m ↦ rw m refl | inr m ↦ rw m refl ]) ])

pub clash_is : (a b : Event) → clash a b ≡ ((a.worker == b.worker) || ((a.mailbox == b.mailbox) && (changes a.action || changes b.action)))
clash_is a b = by_flags a.worker b.worker a.mailbox b.mailbox (changes a.action) (changes b.action)
