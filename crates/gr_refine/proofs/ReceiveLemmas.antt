-- The steps of a receive, by what the store contains.
use Rattle.std.proofs.Common.{◌≡◌, ℕ, ◌+◌, ◌%◌, Bool, true, false, if◌then◌else◌, List, [], ◌∷◌, Option, Some, None, refl, ◌∙◌, ap, subst}
use Rattle.gr_base.specs.declared.names.ChName.{ChName}
use Rattle.gr_base.specs.declared.values.Value.{Value}
use Rattle.gr_base.specs.declared.kinds.Kind.TheVariants.{Meet, Take, Closed}
use Rattle.gr_channels.specs.declared.waiter.Waiter.{Waiter}
use Rattle.gr_channels.specs.Channels.{Content, IsChannel, tail_of}
use Rattle.gr_channels.specs.Objects.{GateContent, gate_of}
use Rattle.gr_rules.specs.Frames.{Frame}
use Rattle.gr_rules.specs.Goroutines.{Goroutine}
use Rattle.gr_rules.specs.States.{State, Cell, gate_has, tail_has, head_has, slot_has}
use Rattle.gr_rules.specs.Attempts.{Attempt, receives_from, ask_item}
use Rattle.gr_rules.specs.Actors.{Actor, without, ask_met}
use Rattle.gr_rules.specs.Communications.{proceeds, receive, receive_from}
use Rattle.gr_code.specs.CodeFrames.{CodeFrame}
use Rattle.gr_refine.specs.Contents.{Contents, goroutine_of, state_of, with_goroutine, with_channel}
use Rattle.gr_refine.specs.Leaves.{leaf}
use Rattle.gr_refine.specs.Changes.{Writes}
use Rattle.gr_refine.specs.Looks.{Ends, numbered_front}
use Rattle.gr_refine.specs.Partners.{met_cells}
use Rattle.gr_refine.specs.Meetings.{thinned, moved_up, met_in}
use Rattle.gr_refine.specs.Receiving.{ReceivingTakes, ReceivingMoves, ReceivingMeets, ReceivingEnds, ReceivingCannot, ReceivingFindsMover, ReceivingFindsSender, ReceivingGoesOn, ReceivingEndsWell}
use Rattle.gr_refine.proofs.ChangeLemmas.{leaving_is_written}
use Rattle.gr_refine.proofs.LookLemmas.{gate_is_looked_up, tail_is_looked_up, item_is_looked_up}
use Rattle.gr_refine.proofs.PartnerLemmas.{met_is_looked_up}
use Rattle.gr_refine.proofs.PresenceLemmas.{met_is_there}
use Rattle.gr_refine.proofs.PerformingLemmas.{same_end_same_step, proceeding_is_a_step, goes_past}
use Rattle.gr_refine.proofs.MeetingLemmas.{meeting_is_written, moving_is_written}

module _ (frame : CodeFrame → Frame) (s : Contents) (a : Actor) (clause : Option ℕ) (c : ChName) (x : Content) (initial : Value) (otherwise : Attempt) where
  abbrev t : State
  t = state_of frame s

  abbrev by_item : GateContent → Option (ℕ × Value) → Attempt
  by_item gate item = receive_from a clause c gate initial otherwise item gate.senders

  at_item : (vs : List Value) (ws : List (Waiter Value)) → s.channels c ≡ Some x → IsChannel x → x.items ≡ vs → x.senders ≡ ws
      → Ends frame s (receive a clause c initial otherwise) (receive_from a clause c (gate_of x) initial otherwise (numbered_front x.head vs) ws)
  at_item vs ws there valid items senders =
      gate_is_looked_up frame s c x (λ gate. ask_item c gate (by_item gate)) there
      ∙ item_is_looked_up frame s c x (by_item (gate_of x)) there valid
      ∙ ap (λ (l : List Value). leaf t (receive_from a clause c (gate_of x) initial otherwise (numbered_front x.head l) x.senders)) items
      ∙ ap (λ (l : List (Waiter Value)). leaf t (receive_from a clause c (gate_of x) initial otherwise (numbered_front x.head vs) l)) senders

  -- the front item is taken
  abbrev taken_cells : List Cell
  taken_cells = head_has c (x.head + 1) ∷ slot_has c (x.head % x.capacity) None ∷ []

  pub receiving_takes : ReceivingTakes frame s a clause c x initial otherwise
  receiving_takes v rest on g there valid items senders passes is =
      let y : Content = record x { head = x.head + 1; items = rest } in
      let after = with_channel (with_goroutine s a.name (Some g)) c (Some y) in
      same_end_same_step frame _ _ s after _ (at_item (v ∷ rest) [] there valid items senders)
      (proceeding_is_a_step frame s after a clause (receives_from c) Take (Some (v, true)) on g taken_cells passes is
      (leaving_is_written frame (with_goroutine s a.name (Some g)) c x y v rest there valid items refl))

  -- the front item is taken, and the value of a sender moves up
  abbrev moved_cells : Waiter Value → List Cell → List Cell
  moved_cells w cells = gate_has c (Some (without (w.go ∷ []) (gate_of x))) ∷ head_has c (x.head + 1) ∷ tail_has c (tail_of x + 1)
      ∷ slot_has c (x.head % x.capacity) (Some (tail_of x, w.value)) ∷ cells

  abbrev moving : Value → Waiter Value → List Cell → Attempt
  moving v w cells = proceeds a clause (receives_from c) Take (Some (v, true)) (moved_cells w cells)

  at_mover : (v : Value) (rest : List Value) (w : Waiter Value) (ws : List (Waiter Value)) → s.channels c ≡ Some x → IsChannel x → x.items ≡ v ∷ rest
      → x.senders ≡ w ∷ ws
      → Ends frame s (receive a clause c initial otherwise) (ask_met c w None (moving v w))
  at_mover v rest w ws there valid items senders =
      at_item (v ∷ rest) (w ∷ ws) there valid items senders
      ∙ tail_is_looked_up frame s c x (λ n. ask_met c w None (λ cells. proceeds a clause (receives_from c) Take (Some (v, true)) (
      gate_has c (Some (without (w.go ∷ []) (gate_of x))) ∷ head_has c (x.head + 1) ∷ tail_has c (n + 1)
      ∷ slot_has c (x.head % x.capacity) (Some (n, w.value)) ∷ cells))) there

  pub receiving_moves : ReceivingMoves frame s a clause c x initial otherwise
  receiving_moves v rest w ws m on g p there valid items senders full passes is partner =
      let before = with_goroutine s a.name (Some g) in
      let after = met_in before c (moved_up (thinned w.go x) rest w.value) w.go p m.waits in
      let cells = λ (q : Goroutine). moved_cells w (met_cells s c w.go m.waits q) in
      let written : Writes frame before after (cells
      (goroutine_of frame p)) = moving_is_written frame before c x v w.value rest w.go p m.waits there items full in
      same_end_same_step frame _ _ s after _
      (at_mover v rest w ws there valid items senders ∙ met_is_looked_up Value frame s c w None (moving v w) m)
      (proceeding_is_a_step frame s after a clause (receives_from c) Take (Some (v, true)) on g (cells m.partner) passes is
      (subst (λ q. Writes frame before after (cells q)) partner written))

  -- a sender is met
  abbrev meeting : Waiter Value → List Cell → Attempt
  meeting w cells = proceeds a clause (receives_from c) Meet (Some (w.value, true)) (gate_has c (Some (without (w.go ∷ []) (gate_of x))) ∷ cells)

  pub receiving_meets : ReceivingMeets frame s a clause c x initial otherwise
  receiving_meets w ws m on g p there valid items senders passes is partner =
      let before = with_goroutine s a.name (Some g) in
      let after = met_in before c (thinned w.go x) w.go p m.waits in
      let cells = λ (q : Goroutine). gate_has c (Some (without (w.go ∷ []) (gate_of x))) ∷ met_cells s c w.go m.waits q in
      let written : Writes frame before after (cells (goroutine_of frame p)) = meeting_is_written frame before c x w.go p m.waits there in
      same_end_same_step frame _ _ s after _
      (at_item [] (w ∷ ws) there valid items senders ∙ met_is_looked_up Value frame s c w None (meeting w) m)
      (proceeding_is_a_step frame s after a clause (receives_from c) Meet (Some (w.value, true)) on g (cells m.partner) passes is
      (subst (λ q. Writes frame before after (cells q)) partner written))

  -- nothing is there
  abbrev at_end : Bool → Attempt
  at_end b = if b then proceeds a clause (receives_from c) Closed (Some (initial, false)) [] else otherwise

  at_nothing : (b : Bool) → s.channels c ≡ Some x → IsChannel x → x.items ≡ [] → x.senders ≡ [] → x.closed ≡ b
      → Ends frame s (receive a clause c initial otherwise) (at_end b)
  at_nothing b there valid items senders closed = at_item [] [] there valid items senders ∙ ap (λ b. leaf t (at_end b)) closed

  pub receiving_ends : ReceivingEnds frame s a clause c x initial otherwise
  receiving_ends on g there valid items senders closed passes is =
      let after = with_goroutine s a.name (Some g) in
      same_end_same_step frame _ _ s after _ (at_nothing true there valid items senders closed)
      (proceeding_is_a_step frame s after a clause (receives_from c) Closed (Some (initial, false)) on g [] passes is refl)

  pub receiving_cannot : ReceivingCannot frame s a clause c x initial otherwise
  receiving_cannot there valid items senders closed = at_nothing false there valid items senders closed

  pub receiving_finds_mover : ReceivingFindsMover frame s a clause c x initial otherwise
  receiving_finds_mover v rest w ws sound there valid items senders =
      let ends = at_mover v rest w ws there valid items senders in
      let m = met_is_there Value frame s c w None (moving v w) (λ e. sound (ends ∙ e)) in (
        m,
        goes_past frame s a clause (receives_from c) Take (Some (v, true)) _
            (λ e. sound (ends ∙ met_is_looked_up Value frame s c w None (moving v w) m ∙ e)),
      )

  pub receiving_finds_sender : ReceivingFindsSender frame s a clause c x initial otherwise
  receiving_finds_sender w ws sound there valid items senders =
      let ends = at_item [] (w ∷ ws) there valid items senders in
      let m = met_is_there Value frame s c w None (meeting w) (λ e. sound (ends ∙ e)) in (
        m,
        goes_past frame s a clause (receives_from c) Meet (Some (w.value, true)) _
            (λ e. sound (ends ∙ met_is_looked_up Value frame s c w None (meeting w) m ∙ e)),
      )

  pub receiving_goes_on : ReceivingGoesOn frame s a clause c x initial otherwise
  receiving_goes_on v rest sound there valid items senders =
      goes_past frame s a clause (receives_from c) Take (Some (v, true)) taken_cells (λ e. sound (at_item (v ∷ rest) [] there valid items senders ∙ e))

  pub receiving_ends_well : ReceivingEndsWell frame s a clause c x initial otherwise
  receiving_ends_well sound there valid items senders closed =
      goes_past frame s a clause (receives_from c) Closed (Some (initial, false)) [] (λ e. sound (at_nothing true there valid items senders closed ∙ e))
