-- Goroutines that are woken and withdrawn one after the other, and by whatever list names them.
use Rattle.std.proofs.Common.{◌≡◌, ℕ, Bool, true, false, not, cond, ◌||◌, if◌then◌else◌, List, [], ◌∷◌, Option, Some, None, option_map, refl, sym, ◌∙◌, ap, inl, inr}
use Rattle.std.specs.List.{list_any, filter}
use Rattle.std.proofs.lemmas.Bool.{cases_Bool}
use Rattle.gr_channels.specs.declared.waiter.Waiter.{Waiter}
use Rattle.gr_channels.specs.Channels.{Content}
use Rattle.gr_channels.specs.Objects.{GateContent, gate_of}
use Rattle.gr_channels.specs.Queues.{others}
use Rattle.gr_rules.specs.Operators.{same_channel}
use Rattle.gr_rules.specs.States.{same_go}
use Rattle.gr_rules.specs.Actors.{without}
use Rattle.gr_refine.specs.Contents.{with_goroutine}
use Rattle.gr_code.specs.Goroutines.{CodeGoroutine}
use Rattle.gr_refine.specs.Gates.{with_gate, with_gates, withdrawing}
use Rattle.gr_refine.specs.Meetings.{woken}
use Rattle.gr_refine.specs.Closing.{SameNames, WakingInTurn, WithdrawingInTurn, OnceNamesTheSame, SameNamesAreWoken, SameNamesAreWithdrawn}
use Rattle.gr_refine.proofs.NameLemmas.{go_is}

woken_twice : (o : Option CodeGoroutine) → option_map woken (option_map woken o) ≡ option_map woken o
woken_twice None = refl
woken_twice (Some g) = refl

-- one that is woken first, by whether it is named again
woken_first : (f : List ℕ → Option CodeGoroutine) (m n : List ℕ) (a b : Bool) → same_go m n ≡ a
    → (if b then option_map woken (if a then option_map woken (f n) else f m) else (if a then option_map woken (f n) else f m))
    ≡ (if a || b then option_map woken (f m) else f m)
woken_first f m n true true e = woken_twice (f n) ∙ ap (λ k. option_map woken (f k)) (sym (go_is m n e))
woken_first f m n true false e = ap (λ k. option_map woken (f k)) (sym (go_is m n e))
woken_first f m n false true e = refl
woken_first f m n false false e = refl

pub waking_in_turn : WakingInTurn
waking_in_turn s [] = refl
waking_in_turn s (n ∷ ns) =
    waking_in_turn (with_goroutine s n (option_map woken (s.goroutines n))) ns
    ∙ (λ i. record s { goroutines = λ m. woken_first s.goroutines m n (same_go m n) (list_any (same_go m) ns) refl i })

nobody_withdrawn : (b : Bool) (o : Option Content) → o ≡ (if b then option_map (λ x. with_gate (gate_of x) x) o else o)
nobody_withdrawn true None = refl
nobody_withdrawn true (Some x) = refl
nobody_withdrawn false o = refl

withdrawn_first : (n : List ℕ) (ns : List (List ℕ)) (b : Bool) (o : Option Content)
    → (if b then option_map (λ x. with_gate (without ns (gate_of x)) x) (if b then option_map (λ x. with_gate (without (n ∷ []) (gate_of x)) x) o else o)
    else (if b then option_map (λ x. with_gate (without (n ∷ []) (gate_of x)) x) o else o))
    ≡ (if b then option_map (λ x. with_gate (without (n ∷ ns) (gate_of x)) x) o else o)
withdrawn_first n ns true None = refl
withdrawn_first n ns true (Some x) = refl
withdrawn_first n ns false o = refl

pub withdrawing_in_turn : WithdrawingInTurn
withdrawing_in_turn s [] cs = λ i. record s { channels = λ d. nobody_withdrawn (list_any (same_channel d) cs) (s.channels d) i }
withdrawing_in_turn s (n ∷ ns) cs =
    withdrawing_in_turn (with_gates (withdrawing (n ∷ [])) s cs) ns cs
    ∙ (λ i. record s { channels = λ d. withdrawn_first n ns (list_any (same_channel d) cs) (s.channels d) i })

pub once_names_the_same : OnceNamesTheSame
once_names_the_same [] m = refl
once_names_the_same (n ∷ ns) m = elim (cases_Bool (list_any (same_go n) ns)) [
  | inl t ↦ rw t (once_names_the_same ns m ∙ named_before (same_go m n) (list_any (same_go m) ns) (λ e. ap (λ k. list_any (same_go k) ns) (go_is m n e) ∙ t))
  | inr f ↦ rw f (ap (λ b. same_go m n || b) (once_names_the_same ns m))
]
  where
    named_before : (a b : Bool) → (a ≡ true → b ≡ true) → b ≡ (a || b)
    named_before true b e = e refl
    named_before false b e = refl

pub same_names_are_woken : SameNamesAreWoken
same_names_are_woken s ms ns same = λ i. record s { goroutines = λ m. if same m i then option_map woken (s.goroutines m) else s.goroutines m }

filter_all : {X : Type 0} → (xs : List X) → xs ≡ filter (λ x. true) xs
filter_all [] = refl
filter_all (x ∷ xs) = ap (λ l. x ∷ l) (filter_all xs)

filter_twice : {X : Type 0} → (p q : X → Bool) (xs : List X) → filter (λ x. not (q x)) (filter (λ x. not (p x)) xs) ≡ filter (λ x. not (p x || q x)) xs
filter_twice p q [] = refl
filter_twice p q (x ∷ xs) = elim (cases_Bool (p x)) [
  | inl t ↦ rw t (filter_twice p q xs)
  | inr f ↦ rw f (ap (λ l. cond (not (q x)) (x ∷ l) l) (filter_twice p q xs))
]

-- those whom none of these names
abbrev unnamed : {X : Type 0} → List (List ℕ) → List (Waiter X) → List (Waiter X)
unnamed names ws = filter (λ w. not (list_any (same_go w.go) names)) ws

unnamed_more : {X : Type 0} → (n : List ℕ) (ns : List (List ℕ)) (ws : List (Waiter X)) → unnamed ns (others n ws) ≡ unnamed (n ∷ ns) ws
unnamed_more n ns ws = filter_twice (λ w. same_go w.go n) (λ w. list_any (same_go w.go) ns) ws

without_is_unnamed : (ns : List (List ℕ)) (gate : GateContent)
    → without ns gate ≡ record gate { senders = unnamed ns gate.senders; receivers = unnamed ns gate.receivers }
without_is_unnamed [] gate =
    let s = filter_all gate.senders in
    let r = filter_all gate.receivers in
    λ i. record gate { senders = s i; receivers = r i }
without_is_unnamed (n ∷ ns) gate =
    let s = unnamed_more n ns gate.senders in
    let r = unnamed_more n ns gate.receivers in
    without_is_unnamed ns (record gate { senders = others n gate.senders; receivers = others n gate.receivers })
    ∙ (λ i. record gate { senders = s i; receivers = r i })

same_without : (ms ns : List (List ℕ)) (gate : GateContent) → SameNames ms ns → without ms gate ≡ without ns gate
same_without ms ns gate same =
    without_is_unnamed ms gate
    ∙ (λ i. record gate { senders = filter (λ w. not (same w.go i)) gate.senders; receivers = filter (λ w. not (same w.go i)) gate.receivers })
    ∙ sym (without_is_unnamed ns gate)

pub same_names_are_withdrawn : SameNamesAreWithdrawn
same_names_are_withdrawn s ms ns cs same =
    let e = λ (gate : GateContent). same_without ms ns gate same in
    λ i. record s { channels = λ d. if list_any (same_channel d) cs then option_map (λ x. with_gate (e (gate_of x) i) x) (s.channels d) else s.channels d }
