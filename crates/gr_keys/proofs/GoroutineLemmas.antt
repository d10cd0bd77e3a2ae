-- Codes of goroutines and channels are codes.
use Rattle.std.proofs.Common.{ℕ, List, [], refl, ap}
use Rattle.gr_base.specs.declared.values.Value.{Value}
use Rattle.gr_channels.specs.declared.waiter.Waiter.{Waiter}
use Rattle.gr_channels.specs.Channels.{Content}
use Rattle.gr_rules.specs.Goroutines.{ToSend, ToReceive, ready, waiting, finished}
use Rattle.gr_code.specs.CodeFrames.{CodeFrame}
use Rattle.gr_code.specs.Goroutines.{CodeGoroutine}
use Rattle.gr_keys.specs.Codes.{IsCode, IsCodeOf, number_code, bit_code, option_code, list_code, pair_code}
use Rattle.gr_keys.specs.ValueCodes.{name_code, channel_name_code, value_code, cell_code}
use Rattle.gr_keys.specs.GoroutineCodes.{frame_code, wait_code, status_code, goroutine_code, bare_goroutine, sender_code, receiver_code, channel_code, bare_channel}
use Rattle.gr_keys.proofs.CodeLemmas.{heads, other_marks, numbers, bits, options, lists, pairs, seen_as, told_as}
use Rattle.gr_keys.proofs.ValueLemmas.{names, channel_names, values_told, cells}

-- three parts, one after the other
triple : {A B C : Type 0} (f : A → List ℕ) (g : B → List ℕ) (h : C → List ℕ) → IsCode f → IsCode g → IsCode h → IsCode (pair_code f (pair_code g h))
triple f g h is_f is_g is_h = pairs f (pair_code g h) is_f (pairs g h is_g is_h)

pub frames : IsCode frame_code
frames = seen_as (pair_code number_code (pair_code number_code (list_code cell_code))) (λ (f : CodeFrame). (f.function, (f.number, f.cells)))
    (λ p. record { function = p.0; number = p.1.0; cells = p.1.1 }) (λ f. refl) (triple number_code number_code (list_code cell_code) numbers numbers (lists cell_code cells))

clauses : IsCode (option_code number_code)
clauses = options number_code numbers

named : IsCode (pair_code channel_name_code (option_code number_code))
named = pairs channel_name_code (option_code number_code) channel_names clauses

pub waits : IsCode wait_code
waits (ToSend c i) (ToSend d j) xs ys e = let w = named (c, i) (d, j) xs ys (heads _ _ _ _ e).1 in (ap (λ p. ToSend p.0 p.1) w.0, w.1)
waits (ToReceive c i) (ToReceive d j) xs ys e = let w = named (c, i) (d, j) xs ys (heads _ _ _ _ e).1 in (ap (λ p. ToReceive p.0 p.1) w.0, w.1)
waits (ToSend c i) (ToReceive d j) xs ys e = other_marks 0 1 _ _ (λ h. cc) e
waits (ToReceive c i) (ToSend d j) xs ys e = other_marks 1 0 _ _ (λ h. cc) e

pub statuses : IsCode status_code
statuses ready ready xs ys e = (refl, (heads _ _ _ _ e).1)
statuses (waiting ws) (waiting vs) xs ys e = let w = lists wait_code waits ws vs xs ys (heads _ _ _ _ e).1 in (ap waiting w.0, w.1)
statuses finished finished xs ys e = (refl, (heads _ _ _ _ e).1)
statuses ready (waiting vs) xs ys e = other_marks 0 1 _ _ (λ h. cc) e
statuses ready finished xs ys e = other_marks 0 2 _ _ (λ h. cc) e
statuses (waiting ws) ready xs ys e = other_marks 1 0 _ _ (λ h. cc) e
statuses (waiting ws) finished xs ys e = other_marks 1 2 _ _ (λ h. cc) e
statuses finished ready xs ys e = other_marks 2 0 _ _ (λ h. cc) e
statuses finished (waiting vs) xs ys e = other_marks 2 1 _ _ (λ h. cc) e

pub goroutines : IsCodeOf bare_goroutine goroutine_code
goroutines = told_as (pair_code status_code (pair_code (list_code frame_code) (pair_code number_code number_code)))
    (λ (g : CodeGoroutine). (g.status, (g.frames, (g.children, g.channels))))
    (λ p. record { status = p.0; frames = p.1.0; steps = 0; children = p.1.1.0; channels = p.1.1.1; text = [] })
    (pairs status_code _ statuses (triple (list_code frame_code) number_code number_code (lists frame_code frames) numbers numbers))

pub senders : IsCode sender_code
senders = seen_as (pair_code name_code (pair_code (option_code number_code) value_code)) (λ (w : Waiter Value). (w.go, (w.case, w.value)))
    (λ p. record { go = p.0; case = p.1.0; value = p.1.1 }) (λ w. refl) (triple name_code (option_code number_code) value_code names clauses values_told)

pub receivers : IsCode receiver_code
receivers = seen_as (pair_code name_code (option_code number_code)) (λ (w : Waiter (Unit {0})). (w.go, w.case))
    (λ p. record { go = p.0; case = p.1; value = tt }) (λ w. refl) (pairs name_code (option_code number_code) names clauses)

gates : IsCode (pair_code number_code (pair_code bit_code (pair_code (list_code sender_code) (list_code receiver_code))))
gates = pairs number_code _ numbers (triple bit_code (list_code sender_code) (list_code receiver_code) bits (lists sender_code senders) (lists receiver_code receivers))

pub channels : IsCodeOf bare_channel channel_code
channels = told_as (pair_code (pair_code number_code (pair_code bit_code (pair_code (list_code sender_code) (list_code receiver_code)))) (list_code value_code))
    (λ (c : Content). ((c.capacity, (c.closed, (c.senders, c.receivers))), c.items))
    (λ p. record { capacity = p.0.0; closed = p.0.1.0; senders = p.0.1.1.0; receivers = p.0.1.1.1; head = 0; items = p.1 })
    (pairs _ _ gates (lists value_code values_told))
