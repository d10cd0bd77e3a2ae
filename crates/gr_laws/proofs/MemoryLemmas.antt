-- Each pair of steps that the memory model orders has a conflict.
use Rattle.std.proofs.Common.{◌≡◌, ℕ, suc, ◌+◌, ◌%◌, true, ◌&&◌, not, List, [], ◌∷◌, ◌++◌, append_assoc, Some, refl, sym, ◌∙◌, ap, subst, inl, inr}
use Rattle.std.specs.List.{list_any}
use Rattle.std.proofs.Math.Nat.{add-mod_right}
use Rattle.gr_base.specs.declared.names.ChName.{ChName}
use Rattle.gr_base.specs.declared.kinds.Kind.TheVariants.{Close, Closed}
use Rattle.gr_base.specs.declared.objects.Object.{Object}
use Rattle.gr_base.specs.declared.objects.Object.TheVariants.{Go, Gate, Head, Slot}
use Rattle.gr_causal.specs.Machine.{meets}
use Rattle.gr_causal.specs.Sequences.{In, Before, IsAt}
use Rattle.gr_causal.specs.Dependence.{Depends, dependents}
use Rattle.gr_causal.proofs.DependenceLemmas.{dependents_are}
use Rattle.gr_causal.proofs.PathLemmas.{path_of, log_split, one_end}
use Rattle.gr_causal.proofs.ListLemmas.{or_left, or_right, or_true, In-append_right}
use Rattle.gr_program.specs.Programs.{Program}
use Rattle.gr_rules.specs.States.{State, start, same, same_go}
use Rattle.gr_rules.specs.Attempts.{receives_from, closes}
use Rattle.gr_rules.specs.History.{starts, is_go, sends, receives}
use Rattle.gr_rules.specs.Steps.{machine}
use Rattle.gr_rules.specs.Touches.{Touches, senders_at, taken, slot_numbered, and_always, with_channel}
use Rattle.gr_laws.specs.Reached.{Logged, IsRun}
use Rattle.gr_laws.specs.Dependence.{clash}
use Rattle.gr_laws.specs.OneBuffer.{one_slot}
use Rattle.gr_laws.specs.MemoryModel.{Enters, Leaves, Edge, sequenced, started, served, complete, closed, received, moved_up, made_room, IsOrdered, HappensBefore, directly, further}
use Rattle.gr_laws.proofs.CellLemmas.{both_true, same_is, same_self}
use Rattle.gr_laws.proofs.AttemptTouches.{touched_as}
use Rattle.gr_laws.proofs.RunLemmas.{distinct_log}
use Rattle.gr_laws.proofs.TouchedLemmas.{any_in, meets_in}
use Rattle.gr_laws.proofs.BufferConflicts.{row_is, buffer_clash}

-- conflicts go both ways
pub turned : (p : Program) (a b : Logged p) → clash p a b ≡ true → clash p b a ≡ true
turned p a b h = elim (or_true (meets same a.note.writes (b.note.reads ++ b.note.writes)) (meets same b.note.writes (a.note.reads ++ a.note.writes)) h) [
  | inl t ↦ or_right (meets same b.note.writes (a.note.reads ++ a.note.writes)) (meets same a.note.writes (b.note.reads ++ b.note.writes)) t
  | inr t ↦ or_left (meets same b.note.writes (a.note.reads ++ a.note.writes)) (meets same a.note.writes (b.note.reads ++ b.note.writes)) t
]

-- every step writes its own goroutine
own : (p : Program) (s s' : State) (a : Logged p) → (machine p).step s a.event ≡ Some (s', a.note) → In (Go a.event.go) a.note.writes
own p s s' a h = subst (In (Go a.event.go)) (sym (touched_as p s a.event s' a.note h).written) (inl refl)

pub by_object : (p : Program) (a b : Logged p) (o : Object) → In o a.note.writes → In o (b.note.reads ++ b.note.writes) → clash p a b ≡ true
by_object p a b o i j = or_left (meets same a.note.writes (b.note.reads ++ b.note.writes)) (meets same b.note.writes (a.note.reads ++ a.note.writes))
    (meets_in a.note.writes (b.note.reads ++ b.note.writes) o i j)

-- two steps that write one object conflict
both_write : (p : Program) (a b : Logged p) (o : Object) → In o a.note.writes → In o b.note.writes → clash p a b ≡ true
both_write p a b o i j = by_object p a b o i (In-append_right o b.note.reads b.note.writes j)

slot_is : (c : ChName) (places number m n : ℕ) → places ≡ suc m → number % suc m ≡ n → In (Slot c n) (slot_numbered c places number)
slot_is c places number m n e f = subst (λ k. In (Slot c n) (slot_numbered c k number)) (sym e) (inl (ap (Slot c) (sym f)))

started_clash : (p : Program) (a b : Logged p) → starts p b.event.go a ≡ true → In (Go b.event.go) a.note.writes
started_clash p a b h = any_in same same_is same_self (Go b.event.go) a.note.writes
    (both_true (is_go a.note.kind.deed && not (same_go b.event.go a.event.go)) (list_any (same (Go b.event.go)) a.note.writes) h).1

-- a step of a goroutine touches the gate of a channel
closes_gate : (p : Program) (s s' : State) (a : Logged p) (c : ChName) → (machine p).step s a.event ≡ Some (s', a.note)
    → a.note.kind.operation ≡ Some (closes c) → a.note.kind.deed ≡ Close → In (Gate c) a.note.writes
closes_gate p s s' a c h o k =
    let w = (touched_as p s a.event s' a.note h).written ∙ ap (λ (x : Touches). x.writes) (row_is s a.event a.note (closes c) o) in
    subst (In (Gate c)) (sym w) (subst (λ k. In (Gate c) (and_always a.event (with_channel s (closes c) k)).writes) (sym k) (inr (inl refl)))

finds_gate : (p : Program) (s s' : State) (a : Logged p) (c : ChName) → (machine p).step s a.event ≡ Some (s', a.note)
    → a.note.kind.operation ≡ Some (receives_from c) → a.note.kind.deed ≡ Closed → In (Gate c) (a.note.reads ++ a.note.writes)
finds_gate p s s' a c h o k =
    ((touched_as p s a.event s' a.note h).touched (Gate c)).1 (
    subst (λ (x : Touches). In (Gate c) (x.reads ++ x.writes)) (sym (row_is s a.event a.note (receives_from c) o)) (
    subst (λ k. In (Gate c) ((and_always a.event (with_channel s (receives_from c) k)).reads ++ (and_always a.event (with_channel s (receives_from c) k)).writes))
    (sym k) (inr (inl refl))))

-- who enters and who leaves the same slot
one_place : (p : Program) (s s' t t' : State) (a b : Logged p) (c : ChName) (m n k : ℕ) → (machine p).step s a.event ≡ Some (s', a.note)
    → (machine p).step t b.event ≡ Some (t', b.note) → Leaves c (suc m) n s a.note.kind → Enters c (suc m) k t b.note.kind
    → k % suc m ≡ n % suc m → clash p a b ≡ true
one_place p s s' t t' a b c m n k ha hb l e q =
    (buffer_clash p s s' t t' a b c ha hb (l.on, subst (λ x. receives x ≡ true) (sym l.kind) refl) (e.on, subst (λ x. sends x ≡ true) (sym e.kind) refl)).1
    (one_slot (Slot c (n % suc m)) (slot_is c _ _ m _ l.places_are (ap (λ x. x % suc m) l.number_is))
    (slot_is c _ _ m _ e.places_are (ap (λ x. x % suc m) e.number_is ∙ q)))

-- every receive from the buffer writes the head
head_taken : (s : State) (c : ChName) (names : List (List ℕ)) → In (Head c) (taken s c names).writes
head_taken s c [] = inl refl
head_taken s c (n ∷ ns) = inr (inl refl)

takes_head : (p : Program) (s s' : State) (a : Logged p) (c : ChName) (m n : ℕ) → (machine p).step s a.event ≡ Some (s', a.note)
    → Leaves c m n s a.note.kind → In (Head c) a.note.writes
takes_head p s s' a c m n h l =
    let w = (touched_as p s a.event s' a.note h).written ∙ ap (λ (x : Touches). x.writes) (row_is s a.event a.note (receives_from c) l.on) in
    subst (In (Head c)) (sym w) (subst (λ k. In (Head c) (and_always a.event (with_channel s (receives_from c) k)).writes) (sym l.kind)
    (inr (head_taken s c (senders_at (s.gates c)))))

pub ordered_clash : (p : Program) (s s' t t' : State) (a b : Logged p) → (machine p).step s a.event ≡ Some (s', a.note)
    → (machine p).step t b.event ≡ Some (t', b.note) → Edge p s t a b → clash p a b ≡ true
ordered_clash p s s' t t' a b ha hb (sequenced e) =
    both_write p a b (Go b.event.go) (subst (λ g. In (Go g) a.note.writes) e (own p s s' a ha)) (own p t t' b hb)
ordered_clash p s s' t t' a b ha hb (started e) = both_write p a b (Go b.event.go) (started_clash p a b e) (own p t t' b hb)
ordered_clash p s s' t t' a b ha hb (served i) = both_write p a b (Go a.event.go) (own p s s' a ha) i
ordered_clash p s s' t t' a b ha hb (complete i) = both_write p a b (Go b.event.go) i (own p t t' b hb)
ordered_clash p s s' t t' a b ha hb (closed c o k r l) = by_object p a b (Gate c) (closes_gate p s s' a c ha o k) (finds_gate p t t' b c hb r l)
ordered_clash p s s' t t' a b ha hb (received c m n e l) = turned p b a (one_place p t t' s s' b a c m n n hb ha l e refl)
ordered_clash p s s' t t' a b ha hb (moved_up c m n l w k) =
    both_write p a b (Head c) (takes_head p s s' a c (suc m) n ha l) (takes_head p t t' b c (suc m) (n + suc m) hb k)
ordered_clash p s s' t t' a b ha hb (made_room c m n l e) = one_place p s s' t t' a b c m n (n + suc m) ha hb l e (add-mod_right n (suc m))

-- where a run goes on with a step from a state
step_at : (p : Program) (front back : List (Logged p)) (r : Logged p) (s t : State) → IsRun p (front ++ r ∷ back) t → IsRun p front s
    → (u : State) × ((machine p).step s r.event ≡ Some (u, r.note))
step_at p front back r s t l k =
    let m = log_split (machine p) (start p) front (r ∷ back) t l in
    let w = path_of (machine p) m.0 (r ∷ back) t m.2 in
    (w.0, subst (λ x. (machine p).step x r.event ≡ Some (w.0, r.note)) (one_end (machine p) (start p) m.0 s front m.1 k) w.1.does)

pub before_in : {A : Type 0} (front middle back : List A) (a b : A) → Before (front ++ a ∷ (middle ++ b ∷ back)) a b
before_in [] middle back a b = inl (refl, In-append_right b middle (b ∷ back) (inl refl))
before_in (x ∷ front) middle back a b = inr (before_in front middle back a b)

depends : (p : Program) (log : List (Logged p)) (t : State) (a b : Logged p) → IsRun p log t → IsOrdered p log a b → Depends (clash p) log b a
depends p log t a b l o =
    let first = step_at p o.front (o.middle ++ b ∷ o.back) a o.before_first t (subst (λ x. IsRun p x t) o.split l) o.first in
    let whole = o.split ∙ sym (append_assoc o.front (a ∷ o.middle) (b ∷ o.back)) in
    let second = step_at p (o.front ++ a ∷ o.middle) o.back b o.before_second t (subst (λ x. IsRun p x t) whole l) o.second in (
      subst (λ x. Before x a b) (sym o.split) (before_in o.front o.middle o.back a b),
      ordered_clash p o.before_first first.0 o.before_second second.0 a b first.1 second.1 o.edge,
    )

pub happens_within : (p : Program) (log : List (Logged p)) (t : State) (a c : Logged p) (i : ℕ) → IsRun p log t → IsAt log i a
    → HappensBefore p log a c → In c (dependents (clash p) log i)
happens_within p log t a _ i l at (directly c o) =
    let found = dependents_are (clash p) log i a (distinct_log p log t l) at in found.part.closed a c (depends p log t a c l o) found.has
happens_within p log t a _ i l at (further b c h o) =
    let found = dependents_are (clash p) log i a (distinct_log p log t l) at in
    found.part.closed b c (depends p log t b c l o) (happens_within p log t a b i l at h)
