-- The logs of mailboxes from one state are one configuration where their events are.
use Rattle.std.proofs.Common.{◌≡◌, ◌||◌, ℕ, List, [], ◌∷◌, ◌↔◌, map, refl, sym, ◌∙◌, ap, ap₂, subst, inl, inr}
use Rattle.gr_causal.specs.declared.mailboxes.Event.{Event}
use Rattle.gr_causal.specs.Sequences.{In}
use Rattle.gr_causal.specs.Orders.{Swaps}
use Rattle.gr_causal.specs.Orders.Swaps.{none, here, there, and}
use Rattle.gr_causal.specs.Machine.{conflict, meets, replay}
use Rattle.gr_causal.specs.Rules.{Note}
use Rattle.gr_causal.specs.Mailboxes.{mailboxes, MailStep, State, Object, same, noted, clash}
use Rattle.gr_causal.specs.Trips.{IsLogFrom}
use Rattle.gr_causal.proofs.ListLemmas.{some_is, cons_is}
use Rattle.gr_causal.proofs.PathLemmas.{Path, path_of}
use Rattle.gr_causal.proofs.TakeLemmas.{swaps_in, swaps_back}
use Rattle.gr_causal.proofs.MailboxLemmas.{mailbox_laws, mailbox_notes}
use Rattle.gr_causal.proofs.MachineTripLemmas.{apart_back, log_swapped}

abbrev event_of : MailStep → Event
event_of r = r.event

-- its note is that of its event
abbrev IsNoted : MailStep → Type 0
IsNoted r = (k : ℕ) × (r.note ≡ noted r.event k)

abbrev AreNoted : List MailStep → Type 0
AreNoted L = (r : MailStep) → In r L → IsNoted r

noted_path : (s : State) (L : List MailStep) (t : State) → Path mailboxes s L t → AreNoted L
noted_path s [] t p = λ r h. absurd h
noted_path s (x ∷ L) t p = λ r h. elim h [
  | inl e ↦ subst IsNoted (sym e) (_, mailbox_notes s p.0 x.event x.note p.1.does)
  | inr i ↦ noted_path p.0 L t p.2 r i
]

by_event : (a b : MailStep) → IsNoted a → IsNoted b → conflict mailboxes a b ≡ clash a.event b.event
by_event a b h k = ap₂ (λ (m n : Note Object ℕ). meets same m.writes (mailboxes.touches n) || meets same n.writes (mailboxes.touches m)) h.1 k.1

still_noted : (L N : List MailStep) → Swaps (conflict mailboxes) L N → AreNoted L → AreNoted N
still_noted L N w h r i = h r (swaps_in (conflict mailboxes) N L r (swaps_back (conflict mailboxes) (apart_back mailboxes) L N w) i)

events_swap : (L N : List MailStep) → Swaps (conflict mailboxes) L N → AreNoted L → Swaps clash (map event_of L) (map event_of N)
events_swap L N none h = none
events_swap L N (here {a = a} {b = b} {L = K} c) h = here (sym (by_event a b (h a (inl refl)) (h b (inr (inl refl)))) ∙ c)
events_swap L N (there {a = a} {L = L'} {N = N'} w) h = there (events_swap L' N' w (λ r i. h r (inr i)))
events_swap L N (and {L = L'} {N = N'} {P = P'} v w) h = and (events_swap L' N' v h) (events_swap N' P' w (still_noted L' N' v h))

nil_not : {A : Type 0} (x : A) (xs : List A) → [] ≡ x ∷ xs → ⊥
nil_not x xs e = cc

steps_swap : (E F : List Event) → Swaps clash E F → (L : List MailStep) → AreNoted L → map event_of L ≡ E → (N : List MailStep) × Swaps (conflict mailboxes) L N × (map event_of N ≡ F)
steps_swap E F none L h e = (L, none, e)
steps_swap E F (here {a = a} {b = b} {L = K} c) [] h e = absurd (nil_not a (b ∷ K) e)
steps_swap E F (here {a = a} {b = b} {L = K} c) (x ∷ []) h e = absurd (nil_not b K (cons_is _ _ _ _ e).1)
steps_swap E F (here {a = a} {b = b} {L = K} c) (x ∷ y ∷ L) h e =
    let first = cons_is _ _ _ _ e in
    let second = cons_is _ _ _ _ first.1 in
    (y ∷ x ∷ L, here (by_event x y (h x (inl refl)) (h y (inr (inl refl))) ∙ ap₂ clash first.0 second.0 ∙ c), ap₂ (λ z zs. z ∷ zs) second.0 (ap₂ (λ z zs. z ∷ zs) first.0 second.1))
steps_swap E F (there {a = a} {L = E'} {N = F'} w) [] h e = absurd (nil_not a E' e)
steps_swap E F (there {a = a} {L = E'} {N = F'} w) (x ∷ L) h e =
    let p = cons_is _ _ _ _ e in
    let q = steps_swap E' F' w L (λ r i. h r (inr i)) p.1 in
    (x ∷ q.0, there q.1, ap₂ (λ z zs. z ∷ zs) p.0 q.2)
steps_swap E F (and {L = E'} {N = F'} {P = G'} v w) L h e =
    let p = steps_swap E' F' v L h e in
    let q = steps_swap F' G' w p.0 (still_noted L p.0 p.1 h) p.2 in
    (q.0, and p.1 q.1, q.2)

one_log : (s : State) (L N : List MailStep) → IsLogFrom mailboxes s L → IsLogFrom mailboxes s N → map event_of L ≡ map event_of N → L ≡ N
one_log s L N h k e =
    ap (λ (x : State × List MailStep). x.1) (some_is (h.0, L) (k.0, N) (sym h.1 ∙ (ap (λ es. replay mailboxes s es) e ∙ k.1)))

pub configurations_by_events : (s : State) (L N : List MailStep) → IsLogFrom mailboxes s L → IsLogFrom mailboxes s N → Swaps (conflict mailboxes) L N ↔ Swaps clash (map event_of L) (map event_of N)
configurations_by_events s L N h k =
    let noted = noted_path s L h.0 (path_of mailboxes s L h.0 h.1) in (
      λ w. events_swap L N w noted,
      λ w.
          let p = steps_swap _ _ w L noted refl in
          subst (Swaps (conflict mailboxes) L) (one_log s p.0 N (h.0, log_swapped mailboxes mailbox_laws L p.0 p.1 s h.0 h.1) k p.2) p.1,
    )
