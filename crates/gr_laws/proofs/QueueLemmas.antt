-- Nobody stands twice in a queue for one clause, as waiters come and go.
use Rattle.std.proofs.Common.{fold, ◌≡◌, ℕ, ◌+◌, ◌≤◌, arith, Bool, true, false, if◌then◌else◌, List, [], ◌∷◌, ◌++◌, map, Option, Some, None, refl, sym, ap, subst, inl, inr}
use Rattle.std.specs.List.{AllByRecursion}
use Rattle.std.proofs.lemmas.Bool.{cases_Bool}
use Rattle.std.proofs.lemmas.List.{map-append}
use Rattle.std.proofs.lemmas.Option.{same_Some}
use Rattle.gr_base.specs.declared.names.ChName.{ChName}
use Rattle.gr_causal.specs.Sequences.{In, Distinct}
use Rattle.gr_causal.proofs.ListLemmas.{In-append_cases, In-map, In-of_map}
use Rattle.gr_channels.specs.declared.waiter.Waiter.{Waiter}
use Rattle.gr_channels.specs.Objects.{GateContent}
use Rattle.gr_channels.specs.Queues.{others}
use Rattle.gr_rules.specs.Outcomes.{gives, faults, wrong}
use Rattle.gr_rules.specs.Operators.{same_channel}
use Rattle.gr_rules.specs.Deeds.{Communication, Sending, Receiving, Otherwise}
use Rattle.gr_rules.specs.Goroutines.{Wait, ToSend, ToReceive, channel_of}
use Rattle.gr_rules.specs.States.{same_go}
use Rattle.gr_rules.specs.Actors.{without}
use Rattle.gr_rules.specs.Communications.{waits_for, enqueued}
use Rattle.gr_rules.specs.Selects.{numbered}
use Rattle.gr_laws.specs.Soundness.{Stands, entry, SoundQueue}
use Rattle.gr_laws.proofs.WaitLemmas.{others_step, in_others, Known, stands_enqueued}

-- the clause of a wait
abbrev pub clause_of : Wait → Option ℕ
clause_of (ToSend c clause) = clause
clause_of (ToReceive c clause) = clause

distinct_last : {A : Type 0} (xs : List A) (y : A) → Distinct xs → (In y xs → ⊥) → Distinct (xs ++ y ∷ [])
distinct_last [] y d n = ((λ i. i), tt)
distinct_last (x ∷ xs) y d n = (
  λ i. elim (In-append_cases x xs (y ∷ []) i) [ inl j ↦ d.0 j | inr j ↦ elim j [ inl e ↦ n (inl (sym e)) | inr z ↦ z ] ],
  distinct_last xs y d.1 (λ i. n (inr i)),
)

-- the waiters of other goroutines
entry_in_others : {X : Type 0} (name : List ℕ) (ws : List (Waiter X)) (e : List ℕ × Option ℕ)
    → In e (map entry (others name ws)) → In e (map entry ws)
entry_in_others {X} name ws e i =
    let r = In-of_map entry e (others name ws) i in
    subst (λ z. In z (map entry ws)) (sym r.2) (In-map entry r.0 ws (in_others name ws r.0 r.1).0)

others_once : {X : Type 0} (name : List ℕ) (ws : List (Waiter X)) → Distinct (map entry ws) → Distinct (map entry (others name ws))
others_once name [] d = tt
others_once {X} name (w ∷ ws) d = elim (cases_Bool (same_go w.go name)) [
  | inl e ↦ subst (λ (l : List (Waiter X)). Distinct (map entry l)) (sym (others_step name w ws true e)) (others_once name ws d.1)
  | inr e ↦ subst (λ (l : List (Waiter X)). Distinct (map entry l)) (sym (others_step name w ws false e))
      ((λ i. d.0 (entry_in_others name ws (entry w) i)), others_once name ws d.1)
]

pub without_once : (names : List (List ℕ)) (gate : GateContent) → SoundQueue (Some gate) → SoundQueue (Some (without names gate))
without_once [] gate d = d
without_once (n ∷ names) gate d =
    without_once names (record gate { senders = others n gate.senders; receivers = others n gate.receivers })
    (others_once n gate.senders d.0, others_once n gate.receivers d.1)

-- one more waiter
once_more : {X : Type 0} (ws : List (Waiter X)) (w : Waiter X) → Distinct (map entry ws)
    → (In (entry w) (map entry ws) → ⊥) → Distinct (map entry (ws ++ w ∷ []))
once_more ws w d n = subst Distinct (sym (map-append entry ws (w ∷ []))) (distinct_last (map entry ws) (entry w) d n)

enqueued_once : (name : List ℕ) (c : ChName) (gate : GateContent) (clause : Option ℕ) (x : Communication)
    → SoundQueue (Some gate)
    → ((w : Wait) → channel_of w ≡ c → clause_of w ≡ clause → Stands (Some gate) name w → ⊥)
    → SoundQueue (Some (enqueued name c gate clause x))
enqueued_once name c gate clause (Sending (Some d) (gives v)) q free = by_same (same_channel c d)
  where
    by_same : (t : Bool)
        → SoundQueue (Some (if t then record gate { senders = gate.senders ++ record { go = name; case = clause; value = v } ∷ [] } else gate))
    by_same true = (
      once_more gate.senders (record { go = name; case = clause; value = v }) q.0 (λ i.
          let r = In-of_map entry (name, clause) gate.senders i in
          free (ToSend c clause) refl refl (r.0, r.1, sym (ap (λ z. z.0) r.2), sym (ap (λ z. z.1) r.2))),
      q.1,
    )
    by_same false = q
enqueued_once name c gate clause (Sending (Some d) (faults f)) q free = q
enqueued_once name c gate clause (Sending (Some d) wrong) q free = q
enqueued_once name c gate clause (Sending None v) q free = q
enqueued_once name c gate clause (Receiving (Some d) initial) q free = by_same (same_channel c d)
  where
    by_same : (t : Bool)
        → SoundQueue (Some (
        if t then record gate { receivers = gate.receivers ++ record { go = name; case = clause; value = tt } ∷ [] } else gate))
    by_same true = (
      q.0,
      once_more gate.receivers (record { go = name; case = clause; value = tt }) q.1 (λ i.
          let r = In-of_map entry (name, clause) gate.receivers i in
          free (ToReceive c clause) refl refl (r.0, r.1, sym (ap (λ z. z.0) r.2), sym (ap (λ z. z.1) r.2))),
    )
    by_same false = q
enqueued_once name c gate clause (Receiving None initial) q free = q
enqueued_once name c gate clause Otherwise q free = q

-- the wait of a communication is for its clause
its_clause : (clause : Option ℕ) (x : Communication) (w : Wait) → In w (waits_for clause x) → clause_of w ≡ clause
its_clause clause (Sending (Some c) v) w i = elim i [ inl e ↦ ap clause_of e | inr z ↦ absurd z ]
its_clause clause (Sending None v) w i = absurd i
its_clause clause (Receiving (Some c) initial) w i = elim i [ inl e ↦ ap clause_of e | inr z ↦ absurd z ]
its_clause clause (Receiving None initial) w i = absurd i
its_clause clause Otherwise w i = absurd i

-- a goroutine that stands in the gate for none of these clauses, which are distinct, comes to wait for them
pub all_once : (name : List ℕ) (c : ChName) (gate : GateContent) (ws : List (Option ℕ × Communication))
    → AllByRecursion (λ w. Known w.1) ws → Distinct (map (λ w. w.0) ws) → SoundQueue (Some gate)
    → ((w : Wait) → channel_of w ≡ c → In (clause_of w) (map (λ w. w.0) ws) → Stands (Some gate) name w → ⊥)
    → SoundQueue (Some (fold (λ gate w. enqueued name c gate w.0 w.1) gate ws))
all_once name c gate [] k d q free = q
all_once name c gate (x ∷ ws) k d q free =
    all_once name c (enqueued name c gate x.0 x.1) ws k.1 d.1 (enqueued_once name c gate x.0 x.1 q (λ w at e. free w at (inl e)))
    (λ w at i st. elim ((stands_enqueued name c gate x.0 x.1 k.0 name w at).0 st) [
      | inl before ↦ free w at (inr i) before
      | inr now ↦ d.0 (subst (λ o. In o (map (λ w. w.0) ws)) (its_clause x.0 x.1 w now.1) i)
    ])

-- the clauses of a select have distinct numbers
numbers_from : (i j : ℕ) (cs : List Communication) → In (Some j) (map (λ (w : Option ℕ × Communication). w.0) (numbered i cs)) → i ≤ j
numbers_from i j [] h = absurd h
numbers_from i j (c ∷ cs) h = elim h [
  | inl e ↦ let same : j ≡ i = same_Some _ _ e in omega arith
  | inr k ↦ let later = numbers_from (i + 1) j cs k in omega arith
]

pub numbers_once : (i : ℕ) (cs : List Communication) → Distinct (map (λ (w : Option ℕ × Communication). w.0) (numbered i cs))
numbers_once i [] = tt
numbers_once i (c ∷ cs) = ((λ h. let later = numbers_from (i + 1) i cs h in omega arith), numbers_once (i + 1) cs)
