-- What a store contains after one that waited was met, and after all that waited on a channel were woken.
use Rattle.std.proofs.Common.{◌≡◌, fold, ℕ, ◌+◌, ◌%◌, Bool, true, false, not, cond, ◌&&◌, ◌||◌, if◌then◌else◌, List, [], ◌∷◌, ◌++◌, map, Option, Some, None, option_map, refl, sym, ◌∙◌, ap, subst, inl, inr}
use Rattle.std.specs.List.{list_any, list_all, cons_option}
use Rattle.std.proofs.lemmas.Bool.{cases_Bool, and_parts, or_parts}
use Rattle.gr_base.specs.declared.names.ChName.{ChName}
use Rattle.gr_base.specs.declared.values.Value.{Value}
use Rattle.gr_channels.specs.declared.waiter.Waiter.{Waiter}
use Rattle.gr_channels.specs.Channels.{Content, tail_of}
use Rattle.gr_channels.specs.Objects.{GateContent, gate_of}
use Rattle.gr_channels.specs.Queues.{is_of, others}
use Rattle.gr_rules.specs.Frames.{Frame}
use Rattle.gr_rules.specs.Operators.{same_channel}
use Rattle.gr_rules.specs.Goroutines.{Wait, channel_of, Goroutine}
use Rattle.gr_rules.specs.States.{State, Cell, put, go_has, gate_has, tail_has, head_has, slot_has, same_go}
use Rattle.gr_rules.specs.Actors.{without, channels_but}
use Rattle.gr_code.specs.CodeFrames.{CodeFrame}
use Rattle.gr_refine.specs.Contents.{Contents, goroutine_of, state_of, with_goroutine, with_channel}
use Rattle.gr_code.specs.Goroutines.{CodeGoroutine}
use Rattle.gr_refine.specs.Changes.{Writes}
use Rattle.gr_refine.specs.Gates.{gate_cells, with_gates, withdrawing}
use Rattle.gr_refine.specs.Partners.{is_waiting, known_as, waiters_in, as_ruled}
use Rattle.gr_refine.specs.Meetings.{thinned, moved_up, woken, with_woken, woken_cells, all_waits_in, met_in, MeetingIsWritten, MovingIsWritten, NamesInFront, NamesOfWaits, WithdrawingIsMeeting, LeavingSendersIsThin, LeavingReceiversIsThin, NobodyLeaves, OneWaitIsHere, MeetingHereAlone, ClosingIsWritten}
use Rattle.gr_refine.proofs.NameLemmas.{go_is, go_self, channel_is, channel_self, channel_sym}
use Rattle.gr_refine.proofs.ChangeLemmas.{states, writes_in_turn, goroutine_is_written, gate_is_written, moving_up_is_written}
use Rattle.gr_refine.proofs.GateLemmas.{unseen, chosen, withdrawing_is_written}

-- a channel that is not among them does not matter to their gates
cells_elsewhere : (f : ChName → GateContent → GateContent) (s : Contents) (c : ChName) (o : Option Content) (cs : List ChName)
    → list_any (same_channel c) cs ≡ false → gate_cells f (with_channel s c o) cs ≡ gate_cells f s cs
cells_elsewhere f s c o [] none = refl
cells_elsewhere f s c o (d ∷ cs) none =
    let parts = or_parts (same_channel c d) (list_any (same_channel c) cs) none in
    let other : same_channel d c ≡ false = channel_sym d c ∙ parts.0 in
    ap (λ b. gate_has d (option_map (λ x. f d (gate_of x)) (if b then o else s.channels d)) ∷ gate_cells f (with_channel s c o) cs) other
    ∙ ap (λ cells. gate_has d (option_map (λ x. f d (gate_of x)) (s.channels d)) ∷ cells) (cells_elsewhere f s c o cs (parts.1))

not_named_again : (c : ChName) (ws : List Wait) → list_any (same_channel c) (channels_but (c ∷ []) ws) ≡ false
not_named_again c ws = unseen c (c ∷ []) ws (ap (λ b. b || false) (channel_self c))

-- after a channel changed, a partner goes on, and leaves the other channels
module _ (frame : CodeFrame → Frame) (s : Contents) (c : ChName) (y : Content) (n : List ℕ) (p : CodeGoroutine) (ws : List Wait) where
  partner_written : (cells : List Cell) → Writes frame s (with_channel s c (Some y)) cells
      → Writes frame s (met_in s c y n p ws) (cells ++ go_has n (Some (goroutine_of frame p)) ∷ gate_cells (withdrawing (n ∷ [])) s
      (channels_but (c ∷ []) ws))
  partner_written cells first =
      let one = with_channel s c (Some y) in
      let two = with_goroutine one n (Some p) in
      let cs = channels_but (c ∷ []) ws in
      let others : List Cell = gate_cells (withdrawing (n ∷ [])) s cs in
      let goes : List Cell = go_has n (Some (goroutine_of frame p)) ∷ [] in
      let last = with_gates (withdrawing (n ∷ [])) two cs in
      let gates : Writes frame two last others =
      subst (Writes frame two last) (cells_elsewhere (withdrawing (n ∷ [])) s c (Some y) cs (not_named_again c ws))
      (withdrawing_is_written frame (n ∷ []) two cs) in
      writes_in_turn frame s one last cells (goes ++ others) first (writes_in_turn frame one two last goes others (goroutine_is_written frame one n p) gates)

pub meeting_is_written : MeetingIsWritten
meeting_is_written frame s c x n p ws there =
    partner_written frame s c (thinned n x) n p ws (gate_has c (Some (without (n ∷ []) (gate_of x))) ∷ [])
    (gate_is_written frame s c x (thinned n x) there refl refl refl)

pub moving_is_written : MovingIsWritten
moving_is_written frame s c x v w rest n p ws there items full =
    partner_written frame s c (moved_up (thinned n x) rest w) n p ws
    (gate_has c (Some (without (n ∷ []) (gate_of x))) ∷ head_has c (x.head + 1) ∷ tail_has c (tail_of x + 1) ∷ slot_has c (x.head % x.capacity)
    (Some (tail_of x, w)) ∷ [])
    (moving_up_is_written frame s c x (moved_up (thinned n x) rest w) v w rest there items full refl refl refl)

and_false : (a : Bool) → (a && false) ≡ false
and_false true = refl
and_false false = refl

known_before : (a b r : Bool) → (b ≡ true → a ≡ true) → (not a && r) ≡ (not a && (b || r))
known_before true b r e = refl
known_before false true r e = absurd (let no : false ≡ true = e refl in cc)
known_before false false r e = refl

known_first : (a b r : Bool) → (b ≡ true → a ≡ false) → (b || (not (b || a) && r)) ≡ (not a && (b || r))
known_first true true r e = absurd (let no : true ≡ false = e refl in cc)
known_first false true r e = refl
known_first true false r e = refl
known_first false false r e = refl

-- the channels of waits but for some are those of the waits that are not among these
pub named : (d : ChName) (seen : List ChName) (ws : List Wait)
    → list_any (same_channel d) (channels_but seen ws) ≡ (not (list_any (same_channel d) seen) && list_any (λ w. same_channel d (channel_of w)) ws)
named d seen [] = sym (and_false (not (list_any (same_channel d) seen)))
named d seen (w ∷ ws) = elim (cases_Bool (list_any (same_channel (channel_of w)) seen)) [
  | inl t ↦ rw t (named d seen ws ∙ known_before (list_any (same_channel d) seen) (same_channel d (channel_of w)) _
      (λ e. ap (λ (k : ChName). list_any (same_channel k) seen) (channel_is d (channel_of w) e) ∙ t))
  | inr n ↦ rw n (ap (λ b. same_channel d (channel_of w) || b) (named d (channel_of w ∷ seen) ws)
      ∙ known_first (list_any (same_channel d) seen) (same_channel d (channel_of w)) _
      (λ e. ap (λ (k : ChName). list_any (same_channel k) seen) (channel_is d (channel_of w) e) ∙ n))
]

-- what stands under a name after a withdrawal, by whether it is the channel's, and whether it is that of a wait
withdrawn_at : (n : List ℕ) (y : Content) (o : Option Content) (a b : Bool)
    → (if a || b then option_map (thinned n) (if a then Some y else o) else (if a then Some y else o))
    ≡ (if not (a || false) && b then option_map (thinned n) (if a then Some (thinned n y) else o) else (if a then Some (thinned n y) else o))
withdrawn_at n y o true b = refl
withdrawn_at n y o false true = refl
withdrawn_at n y o false false = refl

pub withdrawing_is_meeting : WithdrawingIsMeeting
withdrawing_is_meeting s c y n p ws cs names =
    let at = λ (d : ChName).
    ap (λ b. if b then option_map (thinned n) (if same_channel d c then Some y else s.channels d) else
    (if same_channel d c then Some y else s.channels d)) (names d)
    ∙ withdrawn_at n y (s.channels d) (same_channel d c) (list_any (λ w. same_channel d (channel_of w)) ws)
    ∙ ap (λ b. if b then option_map (thinned n) (if same_channel d c then Some (thinned n y) else s.channels d) else
    (if same_channel d c then Some (thinned n y) else s.channels d)) (sym (named d (c ∷ []) ws)) in
    λ i. record (with_goroutine s n (Some p)) { channels = λ d. at d i }

names_of : (d : ChName) (ws : List Wait) → list_any (same_channel d) (map channel_of ws) ≡ list_any (λ w. same_channel d (channel_of w)) ws
names_of d [] = refl
names_of d (w ∷ ws) = ap (λ b. same_channel d (channel_of w) || b) (names_of d ws)

pub names_in_front : NamesInFront
names_in_front c ws d = ap (λ b. same_channel d c || b) (names_of d ws)

pub names_of_waits : NamesOfWaits
names_of_waits c ws among d = names_of d ws ∙ elim (cases_Bool (same_channel d c)) [
  | inl t ↦
      let there : list_any (λ w. same_channel d (channel_of w)) ws ≡ true =
      ap (λ (k : ChName). list_any (λ w. same_channel k (channel_of w)) ws) (channel_is d c t) ∙ among in
      there ∙ sym (ap (λ b. b || list_any (λ w. same_channel d (channel_of w)) ws) t)
  | inr f ↦ sym (ap (λ b. b || list_any (λ w. same_channel d (channel_of w)) ws) f)
]

others_after : {X : Type 0} (w : Waiter X) (ws : List (Waiter X)) → others w.go (w ∷ ws) ≡ others w.go ws
others_after w ws = ap (λ b. cond (not b) (w ∷ others w.go ws) (others w.go ws)) (go_self w.go)

pub leaving_senders_is_thin : LeavingSendersIsThin
leaving_senders_is_thin x w ws is =
    ap (λ (l : List (Waiter Value)). record x { senders = l; receivers = others w.go x.receivers }) (sym (others_after w ws) ∙ ap (others w.go) (sym is))

pub leaving_receivers_is_thin : LeavingReceiversIsThin
leaving_receivers_is_thin x w ws is =
    ap (λ (l : List (Waiter (Unit {0}))). record x { senders = others w.go x.senders; receivers = l }) (sym (others_after w ws) ∙ ap (others w.go) (sym is))

others_of_none : {X : Type 0} (n : List ℕ) (ws : List (Waiter X)) → list_any (is_of n) ws ≡ false → others n ws ≡ ws
others_of_none n [] none = refl
others_of_none n (w ∷ ws) none =
    let parts = or_parts (is_of n w) (list_any (is_of n) ws) none in
    ap (λ b. cond (not b) (w ∷ others n ws) (others n ws)) (parts.0) ∙ ap (λ l. w ∷ l) (others_of_none n ws (parts.1))

pub nobody_leaves : NobodyLeaves
nobody_leaves x n sends receives =
    let s = others_of_none n x.senders sends in
    let r = others_of_none n x.receivers receives in
    λ i. record x { senders = s i; receivers = r i }

pub one_wait_is_here : OneWaitIsHere
one_wait_is_here c w is =
    ap (λ b. if b || false then [] else channel_of w ∷ []) (ap (λ (d : ChName). same_channel d c) is ∙ channel_self c)

pub meeting_here_alone : MeetingHereAlone
meeting_here_alone s c y n p ws none = ap (λ (cs : List ChName). with_goroutine (with_gates (withdrawing (n ∷ [])) (with_channel s c (Some y)) cs) n (Some p)) none

-- goroutines written one after the other
goroutines_put : (h : List ℕ → Option Goroutine) (t : State) (ns : List (List ℕ))
    → fold put t (map (λ n. go_has n (h n)) ns) ≡ record t { goroutines = λ m. if list_any (same_go m) ns then h m else t.goroutines m }
goroutines_put h t [] = refl
goroutines_put h t (n ∷ ns) =
    goroutines_put h (put t (go_has n (h n))) ns
    ∙ states _ _ refl (λ m. chosen (same_go m n) (list_any (same_go m) ns) (h m) (h n) (t.goroutines m) (λ e f. ap h (go_is m n e)))
    (λ c. refl) (λ c. refl) (λ c. refl) (λ c. refl)

abbrev woken_at : (CodeFrame → Frame) → Option CodeGoroutine → Option Goroutine
woken_at frame o = option_map (λ g. goroutine_of frame (woken g)) o

woken_one : (frame : CodeFrame → Frame) (n : List ℕ) (o : Option CodeGoroutine) (rest : List (List ℕ × CodeGoroutine × List Wait)) → is_waiting o ≡ true
    → woken_cells (as_ruled frame (cons_option (known_as n o) rest)) ≡ go_has n (woken_at frame o) ∷ woken_cells (as_ruled frame rest)
woken_one frame n None rest wait = absurd (let no : false ≡ true = wait in cc)
woken_one frame n (Some g) rest wait = refl

cells_of_woken : (frame : CodeFrame → Frame) (s : Contents) (ns : List (List ℕ)) → list_all (λ n. is_waiting (s.goroutines n)) ns ≡ true
    → woken_cells (as_ruled frame (waiters_in s ns)) ≡ map (λ n. go_has n (woken_at frame (s.goroutines n))) ns
cells_of_woken frame s [] wait = refl
cells_of_woken frame s (n ∷ ns) wait =
    let parts = and_parts (is_waiting (s.goroutines n)) (list_all (λ n. is_waiting (s.goroutines n)) ns) wait in
    woken_one frame n (s.goroutines n) (waiters_in s ns) (parts.0)
    ∙ ap (λ cells. go_has n (woken_at frame (s.goroutines n)) ∷ cells) (cells_of_woken frame s ns (parts.1))

woken_or_not : (frame : CodeFrame → Frame) (b : Bool) (o : Option CodeGoroutine)
    → option_map (goroutine_of frame) (if b then option_map woken o else o) ≡ (if b then woken_at frame o else option_map (goroutine_of frame) o)
woken_or_not frame true None = refl
woken_or_not frame true (Some g) = refl
woken_or_not frame false o = refl

waking_is_written : (frame : CodeFrame → Frame) (s : Contents) (ns : List (List ℕ)) → list_all (λ n. is_waiting (s.goroutines n)) ns ≡ true
    → Writes frame s (with_woken s ns) (woken_cells (as_ruled frame (waiters_in s ns)))
waking_is_written frame s ns wait =
    let t = state_of frame s in
    states _ _ refl (λ m. woken_or_not frame (list_any (same_go m) ns) (s.goroutines m)) (λ c. refl) (λ c. refl) (λ c. refl) (λ c. refl)
    ∙ sym (goroutines_put (λ n. woken_at frame (s.goroutines n)) t ns)
    ∙ ap (fold put t) (sym (cells_of_woken frame s ns wait))

pub closing_is_written : ClosingIsWritten
closing_is_written frame s c x names there wait =
    let y : Content = record x { closed = true; senders = []; receivers = [] } in
    let one = with_channel s c (Some y) in
    let two = with_woken one names in
    let cs = channels_but (c ∷ []) (all_waits_in s names) in
    let last = with_gates (withdrawing names) two cs in
    let others : List Cell = gate_cells (withdrawing names) s cs in
    let wakes : List Cell = woken_cells (as_ruled frame (waiters_in s names)) in
    let gates : Writes frame two last others =
    subst (Writes frame two last) (cells_elsewhere (withdrawing names) s c (Some y) cs (not_named_again c (all_waits_in s names)))
    (withdrawing_is_written frame names two cs) in
    writes_in_turn frame s one last (gate_has c (Some (gate_of y)) ∷ []) (wakes ++ others) (gate_is_written frame s c x y there refl refl refl)
    (writes_in_turn frame one two last wakes others (waking_is_written frame one names wait) gates)
