-- The steps of a close, by what the store contains.
use Rattle.std.proofs.Common.{◌≡◌, ℕ, Bool, true, false, ◌&&◌, if◌then◌else◌, List, [], ◌∷◌, ◌++◌, map, Option, Some, None, option_map, refl, sym, ◌∙◌, ap, subst, inl, inr}
use Rattle.std.specs.List.{list_any, list_all, cons_option, flat_map}
use Rattle.std.proofs.lemmas.Bool.{cases_Bool, and_parts, or_parts, or_from}
use Rattle.gr_base.specs.declared.names.ChName.{ChName}
use Rattle.gr_base.specs.declared.kinds.Fault.TheVariants.{CloseOfClosed, CloseOfNil}
use Rattle.gr_base.specs.declared.kinds.Kind.TheVariants.{Close, Fault}
use Rattle.gr_channels.specs.Channels.{Content}
use Rattle.gr_channels.specs.Objects.{GateContent, gate_of}
use Rattle.gr_rules.specs.Frames.{Frame, goes_on}
use Rattle.gr_rules.specs.Goroutines.{Wait, Goroutine}
use Rattle.gr_rules.specs.States.{State, faulted, Cell, gate_has, same_go}
use Rattle.gr_rules.specs.Attempts.{Attempt, closes}
use Rattle.gr_rules.specs.Actors.{Actor, with_frames, onward, does, fault, channels_but, ask_withdrawn}
use Rattle.gr_rules.specs.Communications.{once, close, close_open}
use Rattle.gr_code.specs.CodeFrames.{CodeFrame}
use Rattle.gr_refine.specs.Contents.{Contents, goroutine_of, state_of, with_goroutine, with_channel}
use Rattle.gr_code.specs.Goroutines.{CodeGoroutine}
use Rattle.gr_refine.specs.Leaves.{leaf}
use Rattle.gr_refine.specs.Changes.{Writes}
use Rattle.gr_refine.specs.Gates.{gate_cells, with_gates, withdrawing}
use Rattle.gr_refine.specs.Looks.{Ends}
use Rattle.gr_refine.specs.Partners.{all_made, is_waiting, known_as, waiters_in, as_ruled}
use Rattle.gr_refine.specs.Presence.{Sound}
use Rattle.gr_refine.specs.Performing.{reported, StepsTo}
use Rattle.gr_refine.specs.Meetings.{woken, with_woken, woken_cells, all_waits_in, closed_in}
use Rattle.gr_refine.specs.Closing.{waiting_on, shut, ClosingOfNilFaults, ClosingOfClosedFaults, ClosingWakes, ClosingFindsWaiters}
use Rattle.gr_refine.proofs.NameLemmas.{go_is, go_sym}
use Rattle.gr_refine.proofs.LookLemmas.{gate_is_looked_up}
use Rattle.gr_refine.proofs.PartnerLemmas.{waiters_are_looked_up, withdrawn_is_looked_up}
use Rattle.gr_refine.proofs.PresenceLemmas.{waiters_are_there, withdrawn_is_there}
use Rattle.gr_refine.proofs.PerformingLemmas.{same_end_same_step, fault_is_a_step, doing_is_a_step}
use Rattle.gr_refine.proofs.MeetingLemmas.{closing_is_written}

pub closing_of_nil_faults : ClosingOfNilFaults
closing_of_nil_faults frame s a g is = fault_is_a_step frame s a None CloseOfNil g is

module _ (frame : CodeFrame → Frame) (s : Contents) (a : Actor) (c : ChName) (x : Content) (there : s.channels c ≡ Some x) where
  abbrev t : State
  t = state_of frame s

  abbrev at_gate : GateContent → Attempt
  at_gate gate =
      if gate.closed then fault a (Some (closes c)) CloseOfClosed
      else close_open a c gate (once (map (λ w. w.go) gate.senders ++ map (λ w. w.go) gate.receivers))

  abbrev by_closed : Bool → Attempt
  by_closed b = if b then fault a (Some (closes c)) CloseOfClosed else close_open a c (gate_of x) (waiting_on x)

  at_channel : (b : Bool) → x.closed ≡ b → Ends frame s (close a (Some c)) (by_closed b)
  at_channel b closed = gate_is_looked_up frame s c x at_gate there ∙ ap (λ b. leaf t (by_closed b)) closed

  abbrev names : List (List ℕ)
  names = waiting_on x

  abbrev others_of : List Wait → List ChName
  others_of ws = channels_but (c ∷ []) ws

  abbrev first_cells : List (List ℕ × Goroutine × List Wait) → List Cell → List Cell
  first_cells ws cells = gate_has c (Some (record (gate_of x) { closed = true; senders = []; receivers = [] })) ∷ woken_cells ws ++ cells

  abbrev closing : List Cell → Attempt
  closing cells = does a None (Some (closes c)) Close (onward a (goes_on a.frame)) cells

  abbrev after : List (List ℕ × Goroutine × List Wait) → List Wait → Attempt
  after ws waits = ask_withdrawn names (others_of waits) (λ cells. closing (first_cells ws cells))

  abbrev known : List (List ℕ × CodeGoroutine × List Wait)
  known = waiters_in s names

  waits_as_ruled : (ws : List (List ℕ × CodeGoroutine × List Wait)) → flat_map (λ w. w.2) (as_ruled frame ws) ≡ flat_map (λ w. w.2) ws
  waits_as_ruled [] = refl
  waits_as_ruled (w ∷ ws) = ap (λ (l : List Wait). w.2 ++ l) (waits_as_ruled ws)

  at_waiters : x.closed ≡ false → list_all (λ n. is_waiting (s.goroutines n)) names ≡ true
      → Ends frame s (close a (Some c)) (after (as_ruled frame known) (all_waits_in s names))
  at_waiters closed wait =
      at_channel false closed
      ∙ waiters_are_looked_up frame s names (λ ws. after ws (flat_map (λ w. w.2) ws)) wait
      ∙ ap (λ (l : List Wait). leaf t (after (as_ruled frame known) l)) (waits_as_ruled known)

  pub closed_faults : (g : CodeGoroutine) → x.closed ≡ true → goroutine_of frame g ≡ with_frames a a.before.frames
      → StepsTo frame (close a (Some c)) s (record (with_goroutine s a.name (Some g)) { run = faulted CloseOfClosed })
      (reported a None (Some (closes c)) (Fault CloseOfClosed))
  closed_faults g closed is = same_end_same_step frame _ _ s _ _ (at_channel true closed) (fault_is_a_step frame s a (Some (closes c)) CloseOfClosed g is)

  pub finds_waiters : x.closed ≡ false → Sound frame s (close a (Some c))
      → (list_all (λ n. is_waiting (s.goroutines n)) names ≡ true) × (all_made s (others_of (all_waits_in s names)) ≡ true)
  finds_waiters closed sound =
      let wait = waiters_are_there frame s names (λ ws. after ws (flat_map (λ w. w.2) ws)) (λ e. sound (at_channel false closed ∙ e)) in (
        wait,
        withdrawn_is_there frame s names (others_of (all_waits_in s names)) (λ cells. closing (first_cells (as_ruled frame known) cells))
            (λ e. sound (at_waiters closed wait ∙ e)),
      )

  -- the goroutine that closes is none of those that wait
  not_among : (m : List ℕ) (ns : List (List ℕ)) → list_all (λ n. is_waiting (s.goroutines n)) ns ≡ true → is_waiting (s.goroutines m) ≡ false
      → list_any (same_go m) ns ≡ false
  not_among m [] wait runs = refl
  not_among m (n ∷ ns) wait runs =
      let parts = and_parts (is_waiting (s.goroutines n)) (list_all (λ n. is_waiting (s.goroutines n)) ns) wait in
      or_from (same_go m n) (list_any (same_go m) ns) (elim (cases_Bool (same_go m n)) [
        | inl t ↦ absurd (let no : true ≡ false = sym (parts.0) ∙ ap (λ k. is_waiting (s.goroutines k)) (sym (go_is m n t)) ∙ runs in cc)
        | inr f ↦ f
      ]) (not_among m ns (parts.1) runs)

  module _ (g : CodeGoroutine) where
    abbrev before : Contents
    before = with_goroutine s a.name (Some g)

    same_elsewhere : (n : List ℕ) → same_go a.name n ≡ false → before.goroutines n ≡ s.goroutines n
    same_elsewhere n other = ap (λ b. if b then Some g else s.goroutines n) (go_sym n a.name ∙ other)

    waiters_elsewhere : (ns : List (List ℕ)) → list_any (same_go a.name) ns ≡ false → waiters_in before ns ≡ waiters_in s ns
    waiters_elsewhere [] none = refl
    waiters_elsewhere (n ∷ ns) none =
        let parts = or_parts (same_go a.name n) (list_any (same_go a.name) ns) none in
        ap (λ (o : Option CodeGoroutine). cons_option (known_as n o) (waiters_in before ns)) (same_elsewhere n (parts.0))
        ∙ ap (cons_option (known_as n (s.goroutines n))) (waiters_elsewhere ns (parts.1))

    waiting_elsewhere : (ns : List (List ℕ)) → list_any (same_go a.name) ns ≡ false
        → list_all (λ n. is_waiting (before.goroutines n)) ns ≡ list_all (λ n. is_waiting (s.goroutines n)) ns
    waiting_elsewhere [] none = refl
    waiting_elsewhere (n ∷ ns) none =
        let parts = or_parts (same_go a.name n) (list_any (same_go a.name) ns) none in
        ap (λ (o : Option CodeGoroutine). is_waiting o && list_all (λ n. is_waiting (before.goroutines n)) ns) (same_elsewhere n (parts.0))
        ∙ ap (λ b. is_waiting (s.goroutines n) && b) (waiting_elsewhere ns (parts.1))

    -- what it leaves, by what is known of those that wait
    abbrev left_by : List (List ℕ × CodeGoroutine × List Wait) → Contents
    left_by ws = with_woken (with_gates (withdrawing names) (with_channel before c (Some (shut x))) (others_of (flat_map (λ w. w.2) ws))) names

    abbrev cells_by : List (List ℕ × CodeGoroutine × List Wait) → List Cell
    cells_by ws = first_cells (as_ruled frame ws) (gate_cells (withdrawing names) s (others_of (flat_map (λ w. w.2) ws)))

    -- it comes first or last
    closer_at : (m : List ℕ) → list_any (same_go a.name) names ≡ false
        → (if list_any (same_go m) names then option_map woken (before.goroutines m) else before.goroutines m)
        ≡ (if same_go m a.name then Some g else (if list_any (same_go m) names then option_map woken (s.goroutines m) else s.goroutines m))
    closer_at m none = elim (cases_Bool (same_go m a.name)) [
      | inl t ↦
          let out : list_any (same_go m) names ≡ false = ap (λ k. list_any (same_go k) names) (go_is m a.name t) ∙ none in
          rw (out, t) refl
      | inr f ↦ rw f refl
    ]

    pub wakes : x.closed ≡ false → is_waiting (s.goroutines a.name) ≡ false → list_all (λ n. is_waiting (s.goroutines n)) names ≡ true
        → all_made s (others_of (all_waits_in s names)) ≡ true → goroutine_of frame g ≡ onward a (goes_on a.frame)
        → StepsTo frame (close a (Some c)) s (with_goroutine (closed_in s c (shut x) names) a.name (Some g)) (reported a None (Some (closes c)) Close)
    wakes closed runs wait made is =
        let none = not_among a.name names wait runs in
        let all : Writes frame before (left_by (waiters_in before names)) (cells_by (waiters_in before names)) =
        closing_is_written frame before c x names there (waiting_elsewhere names none ∙ wait) in
        let written : Writes frame before (left_by known) (cells_by known) = subst (λ ws. Writes frame before (left_by ws) (cells_by ws))
        (waiters_elsewhere names none) all in
        let left : left_by known ≡ with_goroutine (closed_in s c (shut x) names) a.name (Some g) = λ i. record
        (left_by known) { goroutines = λ m. closer_at m none i } in
        let cells = cells_by known in
        same_end_same_step frame _ _ s _ _
        (at_waiters closed wait ∙ withdrawn_is_looked_up frame s names (others_of (all_waits_in s names))
        (λ cells. closing (first_cells (as_ruled frame known) cells)) made)
        (doing_is_a_step frame s _ a None (Some (closes c)) Close (onward a (goes_on a.frame)) g cells is
        (subst (λ u. Writes frame before u cells) left written))

pub closing_of_closed_faults : ClosingOfClosedFaults
closing_of_closed_faults frame s a c x g there closed is = closed_faults frame s a c x there g closed is

pub closing_wakes : ClosingWakes
closing_wakes frame s a c x g there closed runs wait made is = wakes frame s a c x there g closed runs wait made is

pub closing_finds_waiters : ClosingFindsWaiters
closing_finds_waiters frame s a c x there closed sound = finds_waiters frame s a c x there closed sound
