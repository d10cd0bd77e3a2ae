use Rattle.std.proofs.Common.{◌≡◌, ℕ, [], ◌∷◌, refl, ap, arith, inl, inr, rules}
use Rattle.gr_causal.specs.Orders.{Swaps}
use Rattle.gr_causal.specs.Orders.Swaps.{none, here, there, and}
use Rattle.gr_causal.specs.Machine.{IsLog, conflict}
use Rattle.gr_causal.specs.Mailboxes.{mailboxes, start, MailStep}
use Rattle.gr_causal.specs.WorkedLog.{worked_log, final, looks, looks_too, puts_five, puts_seven}
use Rattle.gr_causal.specs.Trips.{IsLogFrom}
use Rattle.gr_causal.specs.Trips.Equivalent.{swap, cancel, behind, other_way, onward}
use Rattle.gr_causal.proofs.MailboxLemmas.{mailbox_laws}
use Rattle.gr_causal.proofs.TakeLemmas.{swaps_in}
use Rattle.gr_causal.proofs.ConsistencyLemmas.{consistent}
use Rattle.gr_causal.proofs.MachineTripLemmas.{logs_of}
use Rattle.gr_causal.proofs.mailbox_trips.worked_trips.Goals as goal

-- the first look goes back behind the other steps
look_back : Swaps (conflict mailboxes) (puts_five ∷ puts_seven ∷ looks_too ∷ looks ∷ []) (puts_five ∷ looks ∷ puts_seven ∷ looks_too ∷ [])
look_back = there (and (there (here refl)) (here refl))

pub returns-clause-alike : goal.returns-clause-alike
returns-clause-alike c =
    behind (puts_five ∷ looks ∷ puts_seven ∷ looks_too ∷ []) none
    (onward
    (behind (puts_five ∷ puts_seven ∷ looks_too ∷ []) look_back (other_way (cancel (puts_five ∷ puts_seven ∷ []) none)))
    (swap (puts_five ∷ puts_seven ∷ looks_too ∷ []) (puts_five ∷ looks ∷ puts_seven ∷ []) look_back none refl))

log_is : IsLog mailboxes start worked_log final
log_is = search rules

is_log : IsLogFrom mailboxes start worked_log
is_log = (final, log_is)

two_not_zero : (let two : ℕ = 2 in two ≡ 0) → ⊥
two_not_zero e = omega arith

two_not_one : (let two : ℕ = 2 in two ≡ 1) → ⊥
two_not_one e = omega arith

other_end : Swaps (conflict mailboxes) (puts_five ∷ puts_seven ∷ looks_too ∷ []) (puts_five ∷ looks ∷ puts_seven ∷ []) → ⊥
other_end w = elim (swaps_in (conflict mailboxes) _ _ looks_too w (inr (inr (inl refl)))) [
  | inl e ↦ two_not_zero (ap (λ (r : MailStep). r.event.worker) e)
  | inr h ↦ elim h [
    | inl e ↦ two_not_one (ap (λ (r : MailStep). r.event.worker) e)
    | inr h ↦ elim h [
      | inl e ↦ two_not_one (ap (λ (r : MailStep). r.note.kind) e)
      | inr h ↦ h
    ]
  ]
]

pub returns-clause-apart : goal.returns-clause-apart
returns-clause-apart c e = other_end ((consistent (conflict mailboxes) (IsLogFrom mailboxes start) (logs_of mailboxes mailbox_laws start) worked_log _ _
    (puts_five ∷ puts_seven ∷ looks_too ∷ []) (puts_five ∷ looks ∷ puts_seven ∷ []) is_log
    (puts_five ∷ looks ∷ puts_seven ∷ looks_too ∷ [], none, (puts_five ∷ puts_seven ∷ looks_too ∷ [], look_back, none))
    (puts_five ∷ looks ∷ puts_seven ∷ looks_too ∷ [], none, (puts_five ∷ looks ∷ puts_seven ∷ [], none, none))).0 e)
