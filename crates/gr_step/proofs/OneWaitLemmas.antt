-- A goroutine that waits for one thing alone stands once in one queue: where it left that, nothing is to be withdrawn.
use Rattle.std.proofs.Common.{◌≡◌, ℕ, false, List, [], ◌∷◌, map, length, arith, Option, Some, refl, sym, ◌∙◌, ap, subst, inl, inr}
use Rattle.std.specs.Prelude.{option_map}
use Rattle.std.specs.List.{list_any}
use Rattle.std.proofs.lemmas.Bool.{cases_Bool}
use Rattle.gr_base.specs.declared.names.ChName.{ChName}
use Rattle.gr_base.specs.declared.values.Value.{Value}
use Rattle.gr_causal.specs.Sequences.{In, Distinct}
use Rattle.gr_causal.proofs.ListLemmas.{In-map}
use Rattle.gr_channels.specs.declared.waiter.Waiter.{Waiter}
use Rattle.gr_channels.specs.Channels.{Content}
use Rattle.gr_channels.specs.Objects.{gate_of}
use Rattle.gr_channels.specs.Queues.{is_of}
use Rattle.gr_program.specs.Programs.{Program}
use Rattle.gr_rules.specs.Actors.{channels_but}
use Rattle.gr_rules.specs.Goroutines.{Wait, ToSend, ToReceive, channel_of, Status, waiting}
use Rattle.gr_rules.specs.Touches.{waits_at}
use Rattle.gr_laws.specs.Soundness.{Stands, entry, SoundQueue}
use Rattle.gr_laws.proofs.CellLemmas.{go_is}
use Rattle.gr_laws.proofs.QueueLemmas.{clause_of}
use Rattle.gr_laws.proofs.RuleWaits.{reached_queues}
use Rattle.gr_code.specs.Goroutines.{CodeGoroutine}
use Rattle.gr_refine.specs.Contents.{Contents, goroutine_of, with_goroutine, with_channel}
use Rattle.gr_refine.specs.Gates.{with_gates, withdrawing}
use Rattle.gr_refine.specs.Meetings.{thinned, moved_up, met_in}
use Rattle.gr_refine.proofs.MeetingLemmas.{nobody_leaves, one_wait_is_here, withdrawing_is_meeting, meeting_here_alone}
use Rattle.gr_record.specs.Listings.{frame_in, state_in}
use Rattle.gr_record.specs.Running.{Running}
use Rattle.gr_step.specs.Preparing.{AreToLeave}
use Rattle.gr_step.proofs.RunningLemmas.{waits_sound}

-- the goroutine stands in no queue of the channel, and waits nowhere else
pub record WaitsNoMore (c : ChName) (y : Content) (n : List ℕ) (ws : List Wait) : Type 0 where
  pub thin : thinned n y ≡ y
  pub nowhere : channels_but (c ∷ []) ws ≡ []

-- a goroutine that waits nowhere else is met without any withdrawal
met_alone : (u : Contents) (c : ChName) (y : Content) (n : List ℕ) (g : CodeGoroutine) (ws : List Wait) → WaitsNoMore c y n ws
    → met_in u c (thinned n y) n g ws ≡ with_goroutine (with_channel u c (Some y)) n (Some g)
met_alone u c y n g ws alone =
    ap (λ z. met_in u c z n g ws) alone.thin ∙ meeting_here_alone u c y n g ws alone.nowhere

-- one that left its queue was met, where it leaves the channels that it is still to leave
pub left_is_met : (u : Contents) (c : ChName) (y : Content) (n : List ℕ) (g : CodeGoroutine) (ws : List Wait) (names : List ChName)
    → AreToLeave names c ws → (length ws ≡ 1 → WaitsNoMore c y n ws)
    → with_goroutine (with_gates (withdrawing (n ∷ [])) (with_channel u c (Some y)) names) n (Some g) ≡ met_in u c (thinned n y) n g ws
left_is_met u c y n g [] names leave alone = withdrawing_is_meeting u c y n g [] names (leave.otherwise (λ one. omega (arith, one)))
left_is_met u c y n g (w ∷ []) names leave alone =
    ap (λ (l : List ChName). with_goroutine (with_gates (withdrawing (n ∷ [])) (with_channel u c (Some y)) l) n (Some g)) (leave.alone refl)
    ∙ sym (met_alone u c y n g (w ∷ []) (alone refl))
left_is_met u c y n g (w ∷ v ∷ ws) names leave alone =
    withdrawing_is_meeting u c y n g (w ∷ v ∷ ws) names (leave.otherwise (λ one. omega (arith, one)))

-- where a value moves up in the buffer, the goroutine stands in no queue either
pub moved_alone : (c : ChName) (y : Content) (n : List ℕ) (ws : List Wait) (rest : List Value) (v : Value) → WaitsNoMore c y n ws
    → WaitsNoMore c (moved_up y rest v) n ws
moved_alone c y n ws rest v alone = record { thin = ap (λ z. moved_up z rest v) alone.thin; nowhere = alone.nowhere }

none_of : {X : Type 0} (n : List ℕ) (ws : List (Waiter X))
    → ((w : Waiter X) → In w ws → w.go ≡ n → ⊥) → list_any (is_of n) ws ≡ false
none_of n [] none = refl
none_of n (w ∷ ws) none = elim (cases_Bool (is_of n w)) [
  | inl t ↦ absurd (none w (inl refl) (go_is w.go n t))
  | inr f ↦ rw f (none_of n ws (λ v i. none v (inr i)))
]

-- where no other one stands in the queue
rest_without : {X : Type 0} (w : Waiter X) (rest : List (Waiter X)) (n : List ℕ) → w.go ≡ n → Distinct (map entry (w ∷ rest))
    → ((v : Waiter X) → In v rest → v.go ≡ n → v.case ≡ w.case) → list_any (is_of n) rest ≡ false
rest_without w rest n mine once same = none_of n rest (λ v i go.
    let e : entry v ≡ entry w = λ k. ((go ∙ sym mine) k, same v i go k) in
    once.0 (subst (λ z. In z (map entry rest)) e (In-map entry v rest i)))

only_one : (ws : List Wait) (a b : Wait) → length ws ≡ 1 → In a ws → In b ws → a ≡ b
only_one [] a b one i j = absurd i
only_one (w ∷ []) a b one (inl e) (inl f) = e ∙ sym f
only_one (w ∷ []) a b one (inl e) (inr j) = absurd j
only_one (w ∷ []) a b one (inr i) j = absurd i
only_one (w ∷ v ∷ ws) a b one i j = absurd (omega arith)

here_alone : (c : ChName) (ws : List Wait) (w : Wait) → length ws ≡ 1 → In w ws → channel_of w ≡ c → channels_but (c ∷ []) ws ≡ []
here_alone c [] w one i at = refl
here_alone c (v ∷ []) w one (inl e) at = one_wait_is_here c v (ap channel_of (sym e) ∙ at)
here_alone c (v ∷ []) w one (inr i) at = absurd i
here_alone c (v ∷ u ∷ ws) w one i at = absurd (omega arith)

not_alike : (c : ChName) (i j : Option ℕ) → ToSend c i ≡ ToReceive c j → ⊥
not_alike c i j e = cc

-- a channel, and a goroutine that waits for one thing alone
module _ (p : Program) (s : Contents) (run : Running p s) (c : ChName) (x : Content) (there : s.channels c ≡ Some x)
    (n : List ℕ) (q : CodeGoroutine) (ws : List Wait) (here : s.goroutines n ≡ Some q) (is : q.status ≡ waiting ws)
    (one : length ws ≡ 1) where
  its_waits : waits_at ((state_in p s).goroutines n) ≡ ws
  its_waits = ap (λ o. waits_at (option_map (goroutine_of (frame_in p)) o)) here
      ∙ ap (λ (z : Status). elim z [ waiting ws ↦ ws | _ ↦ [] ]) is

  waits_for_it : (w : Wait) → channel_of w ≡ c → Stands (Some (gate_of x)) n w → In w ws
  waits_for_it w at stands = subst (In w) its_waits ((waits_sound p s run n w).1
      (subst (λ o. Stands (option_map gate_of o) n w) (sym (ap s.channels at ∙ there)) stands))

  queues : SoundQueue (Some (gate_of x))
  queues = subst (λ o. SoundQueue (option_map gate_of o)) there (reached_queues p (state_in p s) run.reached.log run.reached.leads c)

  sends : (w : Waiter Value) → In w x.senders → w.go ≡ n → In (ToSend c w.case) ws
  sends w i mine = waits_for_it (ToSend c w.case) refl (w, i, mine, refl)

  receives : (w : Waiter (Unit {0})) → In w x.receivers → w.go ≡ n → In (ToReceive c w.case) ws
  receives w i mine = waits_for_it (ToReceive c w.case) refl (w, i, mine, refl)

  pub receiver_alone : (w : Waiter (Unit {0})) (rest : List (Waiter (Unit {0}))) → x.receivers ≡ w ∷ rest → w.go ≡ n
      → WaitsNoMore c (record x { receivers = rest }) n ws
  receiver_alone w rest first mine =
      let own : In (ToReceive c w.case) ws = receives w (subst (In w) (sym first) (inl refl)) mine in
      record {
        thin = nobody_leaves (record x { receivers = rest }) n
            (none_of n x.senders (λ v i go. not_alike c v.case w.case (only_one ws _ _ one (sends v i go) own)))
            (rest_without w rest n mine (subst (λ l. Distinct (map entry l)) first queues.1)
            (λ v i go. ap clause_of (only_one ws _ _ one (receives v (subst (In v) (sym first) (inr i)) go) own)));
        nowhere = here_alone c ws (ToReceive c w.case) one own refl;
      }

  pub sender_alone : (w : Waiter Value) (rest : List (Waiter Value)) → x.senders ≡ w ∷ rest → w.go ≡ n
      → WaitsNoMore c (record x { senders = rest }) n ws
  sender_alone w rest first mine =
      let own : In (ToSend c w.case) ws = sends w (subst (In w) (sym first) (inl refl)) mine in
      record {
        thin = nobody_leaves (record x { senders = rest }) n
            (rest_without w rest n mine (subst (λ l. Distinct (map entry l)) first queues.0)
            (λ v i go. ap clause_of (only_one ws _ _ one (sends v (subst (In v) (sym first) (inr i)) go) own)))
            (none_of n x.receivers (λ v i go. not_alike c w.case v.case (only_one ws _ _ one own (receives v i go))));
        nowhere = here_alone c ws (ToSend c w.case) one own refl;
      }
