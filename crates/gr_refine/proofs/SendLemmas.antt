-- The steps of a send, by what the store contains.
use Rattle.std.proofs.Common.{◌≡◌, ℕ, ◌+◌, ◌%◌, ◌<◌, true, false, if◌then◌else◌, List, [], ◌∷◌, ◌++◌, length, Option, Some, None, refl, ◌∙◌, ap, subst}
use Rattle.std.proofs.lemmas.Bool.{lt-ltb, le-ltb}
use Rattle.gr_base.specs.declared.names.ChName.{ChName}
use Rattle.gr_base.specs.declared.values.Value.{Value}
use Rattle.gr_base.specs.declared.kinds.Fault.TheVariants.{SendOnClosed}
use Rattle.gr_base.specs.declared.kinds.Kind.TheVariants.{Hand, Buffer}
use Rattle.gr_channels.specs.declared.waiter.Waiter.{Waiter}
use Rattle.gr_channels.specs.Channels.{Content, IsChannel, tail_of}
use Rattle.gr_channels.specs.Objects.{GateContent, gate_of}
use Rattle.gr_rules.specs.Frames.{Frame}
use Rattle.gr_rules.specs.Goroutines.{Goroutine}
use Rattle.gr_rules.specs.States.{State, Cell, gate_has, tail_has, slot_has}
use Rattle.gr_rules.specs.Attempts.{Attempt, sends_on}
use Rattle.gr_rules.specs.Actors.{Actor, fault, without}
use Rattle.gr_rules.specs.Communications.{proceeds, send, send_to}
use Rattle.gr_code.specs.CodeFrames.{CodeFrame}
use Rattle.gr_refine.specs.Contents.{Contents, goroutine_of, state_of, with_goroutine, with_channel}
use Rattle.gr_refine.specs.Leaves.{leaf}
use Rattle.gr_refine.specs.Changes.{Writes}
use Rattle.gr_refine.specs.Looks.{Ends, room_in}
use Rattle.gr_refine.specs.Partners.{Meets, met_cells}
use Rattle.gr_refine.specs.Meetings.{thinned, met_in}
use Rattle.gr_refine.specs.Sending.{SendingFaults, SendingHands, SendingBuffers, SendingCannot, SendingMeets, SendingGoesOn}
use Rattle.gr_refine.proofs.ChangeLemmas.{entering_is_written}
use Rattle.gr_refine.proofs.LookLemmas.{gate_is_looked_up, room_is_looked_up}
use Rattle.gr_refine.proofs.PartnerLemmas.{met_is_looked_up}
use Rattle.gr_refine.proofs.PresenceLemmas.{met_is_there}
use Rattle.gr_refine.proofs.PerformingLemmas.{same_end_same_step, fault_is_a_step, proceeding_is_a_step, goes_past}
use Rattle.gr_refine.proofs.MeetingLemmas.{meeting_is_written}

module _ (frame : CodeFrame → Frame) (s : Contents) (a : Actor) (clause : Option ℕ) (c : ChName) (x : Content) (v : Value) (otherwise : Attempt) where
  abbrev t : State
  t = state_of frame s

  abbrev at_gate : GateContent → Attempt
  at_gate gate = if gate.closed then fault a (Some (sends_on c)) SendOnClosed else send_to a clause c gate v otherwise gate.receivers

  at_closed : s.channels c ≡ Some x → x.closed ≡ true → Ends frame s (send a clause c v otherwise) (fault a (Some (sends_on c)) SendOnClosed)
  at_closed there closed =
      gate_is_looked_up frame s c x at_gate there
      ∙ ap (λ b. leaf t (if b then fault a (Some (sends_on c)) SendOnClosed else send_to a clause c (gate_of x) v otherwise x.receivers)) closed

  at_open : (ws : List (Waiter (Unit {0}))) → s.channels c ≡ Some x → x.closed ≡ false → x.receivers ≡ ws
      → Ends frame s (send a clause c v otherwise) (send_to a clause c (gate_of x) v otherwise ws)
  at_open ws there closed receivers =
      gate_is_looked_up frame s c x at_gate there
      ∙ ap (λ b. leaf t (if b then fault a (Some (sends_on c)) SendOnClosed else send_to a clause c (gate_of x) v otherwise x.receivers)) closed
      ∙ ap (λ (l : List (Waiter (Unit {0}))). leaf t (send_to a clause c (gate_of x) v otherwise l)) receivers

  pub sending_faults : SendingFaults frame s a clause c x v otherwise
  sending_faults g there closed is =
      same_end_same_step frame _ _ s _ _ (at_closed there closed) (fault_is_a_step frame s a (Some (sends_on c)) SendOnClosed g is)

  abbrev handed : Waiter (Unit {0}) → List Cell → Attempt
  handed w cells = proceeds a clause (sends_on c) Hand None (gate_has c (Some (without (w.go ∷ []) (gate_of x))) ∷ cells)

  abbrev handed_cells : (w : Waiter (Unit {0})) → Meets frame s c w.go w.case (Some (v, true)) → List Cell
  handed_cells w m = met_cells s c w.go m.waits m.partner

  at_receiver : (w : Waiter (Unit {0})) (ws : List (Waiter (Unit {0}))) (m : Meets frame s c w.go w.case (Some (v, true)))
      → s.channels c ≡ Some x → x.closed ≡ false → x.receivers ≡ w ∷ ws → Ends frame s (send a clause c v otherwise) (handed w (handed_cells w m))
  at_receiver w ws m there closed receivers = at_open (w ∷ ws) there closed receivers ∙ met_is_looked_up (Unit {0}) frame s c w (Some (v, true)) (handed w) m

  pub sending_hands : SendingHands frame s a clause c x v otherwise
  sending_hands w ws m on g p there closed receivers passes is partner =
      let t = met_in (with_goroutine s a.name (Some g)) c (thinned w.go x) w.go p m.waits in
      let cells = λ (q : Goroutine). gate_has c (Some (without (w.go ∷ []) (gate_of x))) ∷ met_cells s c w.go m.waits q in
      let written : Writes frame (with_goroutine s a.name (Some g)) t (cells (goroutine_of frame p)) = meeting_is_written frame
      (with_goroutine s a.name (Some g)) c x w.go p m.waits there in
      same_end_same_step frame _ _ s t _ (at_receiver w ws m there closed receivers)
      (proceeding_is_a_step frame s t a clause (sends_on c) Hand None on g (cells m.partner) passes is
      (subst (λ q. Writes frame (with_goroutine s a.name (Some g)) t (cells q)) partner written))

  abbrev at_room : Option ℕ → Attempt
  at_room room = elim room [
    | Some n ↦ proceeds a clause (sends_on c) Buffer None (tail_has c (n + 1) ∷ slot_has c (n % x.capacity) (Some (n, v)) ∷ [])
    | None ↦ otherwise
  ]

  at_buffer : s.channels c ≡ Some x → IsChannel x → x.closed ≡ false → x.receivers ≡ [] → Ends frame s (send a clause c v otherwise) (at_room (room_in x))
  at_buffer there valid closed receivers = at_open [] there closed receivers ∙ room_is_looked_up frame s c x at_room there valid

  abbrev entered_cells : List Cell
  entered_cells = tail_has c (tail_of x + 1) ∷ slot_has c (tail_of x % x.capacity) (Some (tail_of x, v)) ∷ []

  with_room : s.channels c ≡ Some x → IsChannel x → x.closed ≡ false → x.receivers ≡ [] → length x.items < x.capacity
      → Ends frame s (send a clause c v otherwise) (proceeds a clause (sends_on c) Buffer None entered_cells)
  with_room there valid closed receivers room =
      at_buffer there valid closed receivers ∙ ap (λ b. leaf t (at_room (if b then Some (tail_of x) else None))) (lt-ltb (length x.items) x.capacity room)

  pub sending_buffers : SendingBuffers frame s a clause c x v otherwise
  sending_buffers on g there valid closed receivers room passes is =
      let y : Content = record x { items = x.items ++ v ∷ [] } in
      let t = with_channel (with_goroutine s a.name (Some g)) c (Some y) in
      same_end_same_step frame _ _ s t _ (with_room there valid closed receivers room)
      (proceeding_is_a_step frame s t a clause (sends_on c) Buffer None on g entered_cells passes is
      (entering_is_written frame (with_goroutine s a.name (Some g)) c x y v there room refl))

  pub sending_cannot : SendingCannot frame s a clause c x v otherwise
  sending_cannot there valid closed receivers full =
      at_buffer there valid closed receivers ∙ ap (λ b. leaf t (at_room (if b then Some (tail_of x) else None))) (le-ltb (length x.items) x.capacity full)

  pub sending_meets : SendingMeets frame s a clause c x v otherwise
  sending_meets w ws sound there closed receivers =
      let m = met_is_there (Unit {0}) frame s c w (Some (v, true)) (handed w) (λ e. sound (at_open (w ∷ ws) there closed receivers ∙ e)) in
      (m, goes_past frame s a clause (sends_on c) Hand None _ (λ e. sound (at_receiver w ws m there closed receivers ∙ e)))

  pub sending_goes_on : SendingGoesOn frame s a clause c x v otherwise
  sending_goes_on sound there valid closed receivers room =
      goes_past frame s a clause (sends_on c) Buffer None entered_cells (λ e. sound (with_room there valid closed receivers room ∙ e))
