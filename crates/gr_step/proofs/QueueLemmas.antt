-- A goroutine that comes to stand in one queue after the other.
use Rattle.std.proofs.Common.{◌≡◌, ℕ, ◌+◌, ◌-◌, ◌<◌, ◌≤◌, Bool, true, false, ◌||◌, if◌then◌else◌, List, [], ◌∷◌, ◌++◌, length, map, drop, get_or, drop-cons}
use Rattle.std.proofs.Common.{drop_of_length-le, add-one, zero, suc, refl, ap, sym, ◌∙◌, subst, arith, append-nil, append_assoc, Option, Some, None, option_map, inl, inr}
use Rattle.std.specs.Prelude.{is_some}
use Rattle.std.specs.Option.{option_to_list}
use Rattle.std.specs.List.{list_any, list_all}
use Rattle.std.proofs.lemmas.Bool.{cases_Bool, and_parts, and_from}
use Rattle.gr_base.specs.declared.names.ChName.{ChName}
use Rattle.gr_channels.specs.declared.changes.ChanUndo.{ChanUndo}
use Rattle.gr_channels.specs.Channels.{Content, Room, Within, plus, each}
use Rattle.gr_channels.specs.Changes.{need}
use Rattle.gr_rules.specs.Outcomes.{gives, faults, wrong}
use Rattle.gr_rules.specs.Operators.{same_channel}
use Rattle.gr_rules.specs.Deeds.{Communication, Sending, Receiving, Otherwise}
use Rattle.gr_rules.specs.Goroutines.{Wait, channel_of}
use Rattle.gr_rules.specs.Communications.{waits_for, all_waits}
use Rattle.gr_goros.specs.Views.{communication_of, wait_of, waits_of}
use Rattle.gr_goros.specs.declared.needs.Clause.{Clause}
use Rattle.gr_goros.specs.declared.wait.Wait as declared
use Rattle.gr_refine.specs.Partners.{is_made_for}
use Rattle.gr_refine.proofs.NameLemmas.{channel_is}
use Rattle.gr_tables.specs.NamedChannels.{contents_of, rooms_of, AreAtGates, minus, needs, frees, chan_back, ChansFit, HasRooms, GoesBack, TookBack}
use Rattle.gr_tables.specs.declared.channels.Channels.{Channels}
use Rattle.gr_tables.proofs.Joining.{changes_join}
use Rattle.gr_tables.proofs.Withdrawals.{gates_join}
use Rattle.gr_tables.proofs.RoomLemmas.{none_within, within_self}
use Rattle.gr_step.proofs.WithinLemmas.{or_true, or_assoc, gates_widen}
use Rattle.gr_step.specs.Parks.{pending_of, channels_awaited, with_channels, queued_for, queued, AreMade, NeedNoRoom}

-- the first of those that are left
pub first_left : {X : Type 0} (xs : List X) (i : ℕ) (x : X) → i < length xs → x ≡ get_or xs i x → drop i xs ≡ x ∷ drop (i + 1) xs
first_left xs i x h at = rw add-one (drop-cons xs i x h ∙ ap (λ y. y ∷ drop (suc i) xs) (sym at))

-- what is waited for
waits_of_more : (ws vs : List declared.Wait) → waits_of (ws ++ vs) ≡ waits_of ws ++ waits_of vs
waits_of_more [] vs = refl
waits_of_more (w ∷ ws) vs = ap (λ l. wait_of w ∷ l) (waits_of_more ws vs)

waits_of_one : (o : Option declared.Wait) → waits_of (option_to_list o) ≡ option_to_list (option_map wait_of o)
waits_of_one None = refl
waits_of_one (Some w) = refl

module _ (ws : List (Option ℕ × Clause)) (i : ℕ) (waits : List declared.Wait) (total : List Wait)
    (told : waits_of waits ++ all_waits (pending_of (drop i ws)) ≡ total) where
  pub waits_next : (w : Option ℕ × Clause) (o : Option declared.Wait) (more : List declared.Wait) → i < length ws → w ≡ get_or ws i w
      → option_to_list (option_map wait_of o) ≡ waits_for w.0 (communication_of w.1) → more ≡ waits ++ option_to_list o
      → waits_of more ++ all_waits (pending_of (drop (i + 1) ws)) ≡ total
  waits_next w o more h at is are =
      let rest : List Wait = all_waits (pending_of (drop (i + 1) ws)) in
      ap (λ l. waits_of l ++ rest) are
      ∙ ap (λ l. l ++ rest) (waits_of_more waits (option_to_list o) ∙ ap (λ l. waits_of waits ++ l) (waits_of_one o ∙ is))
      ∙ append_assoc (waits_of waits) (waits_for w.0 (communication_of w.1)) rest
      ∙ ap (λ l. waits_of waits ++ all_waits (pending_of l)) (sym (first_left ws i w h at))
      ∙ told

  pub waits_done : length ws ≤ i → waits_of waits ≡ total
  waits_done h =
      sym (append-nil (waits_of waits)) ∙ ap (λ l. waits_of waits ++ all_waits (pending_of l)) (sym (drop_of_length-le ws h)) ∙ told

-- channels stay where they are when somebody comes to stand in a queue
there_still : (d c : ChName) (g : Content → Content) (f : ChName → Option Content)
    → is_some (if same_channel d c then option_map g (f c) else f d) ≡ is_some (f d)
there_still d c g f = elim (cases_Bool (same_channel d c)) [
  | inl t ↦ ap (λ b. is_some (if b then option_map g (f c) else f d)) t ∙ kept (f c) ∙ ap (λ k. is_some (f k)) (sym (channel_is d c t))
  | inr n ↦ ap (λ b. is_some (if b then option_map g (f c) else f d)) n
]
  where
    kept : (o : Option Content) → is_some (option_map g o) ≡ is_some o
    kept None = refl
    kept (Some x) = refl

still_there : (name : List ℕ) (f : ChName → Option Content) (clause : Option ℕ) (w : Communication) (d : ChName)
    → is_some (queued_for name f (clause, w) d) ≡ is_some (f d)
still_there name f clause (Sending (Some c) (gives v)) d = there_still d c _ f
still_there name f clause (Sending (Some c) (faults e)) d = refl
still_there name f clause (Sending (Some c) wrong) d = refl
still_there name f clause (Sending None v) d = refl
still_there name f clause (Receiving (Some c) initial) d = there_still d c _ f
still_there name f clause (Receiving None initial) d = refl
still_there name f clause Otherwise d = refl

made_as_before : (f g : ChName → Option Content) → ((d : ChName) → is_some (g d) ≡ is_some (f d)) → (w : Communication)
    → is_made_for (with_channels g) w ≡ is_made_for (with_channels f) w
made_as_before f g same (Sending (Some c) v) = same c
made_as_before f g same (Sending None v) = refl
made_as_before f g same (Receiving (Some c) initial) = same c
made_as_before f g same (Receiving None initial) = refl
made_as_before f g same Otherwise = refl

made_later : (f g : ChName → Option Content) → ((d : ChName) → is_some (g d) ≡ is_some (f d)) → (ws : List (Option ℕ × Communication)) → AreMade ws f
    → AreMade ws g
made_later f g same [] h = refl
made_later f g same (w ∷ ws) h =
    let parts = and_parts (is_made_for (with_channels f) w.1) (list_all (λ w. is_made_for (with_channels f) w.1) ws) h in
    and_from (is_made_for (with_channels g) w.1) (list_all (λ w. is_made_for (with_channels g) w.1) ws)
    (made_as_before f g same w.1 ∙ parts.0) (made_later f g same ws parts.1)

-- such changes need no room to be taken back
none_needed : (us : List (ChName × ChanUndo)) (q : ChName) → NeedNoRoom us → needs us q ≡ each 0
none_needed [] q h = refl
none_needed (e ∷ es) q h =
    ap (λ r. if same_channel q e.0 then plus r (minus (need e.1) (frees es q)) else r) (none_needed es q h.1)
    ∙ ap (λ r. if same_channel q e.0 then plus (each 0) (minus r (frees es q)) else each 0) (h.0)
    ∙ nothing (same_channel q e.0) (frees es q)
  where
    nothing : (b : Bool) (r : Room) → (if b then plus (each 0) (minus (each 0) r) else each 0) ≡ each 0
    nothing true r =
        let none = λ (n : ℕ). let e : 0 + (0 - n) ≡ 0 = omega arith in e in
        λ i. record { items = none r.items i; senders = none r.senders i; receivers = none r.receivers i }
    nothing false r = refl

pub has_rooms : (us : List (ChName × ChanUndo)) (c : Channels) → NeedNoRoom us → HasRooms us (rooms_of c)
has_rooms us c h q = subst (λ r. Within r (rooms_of c q)) (sym (none_needed us q h)) (none_within (rooms_of c q))

pub no_room_more : (us vs : List (ChName × ChanUndo)) → NeedNoRoom us → NeedNoRoom vs → NeedNoRoom (us ++ vs)
no_room_more [] vs h k = k
no_room_more (u ∷ us) vs h k = (h.0, no_room_more us vs h.1 k)

-- the channel of one of these is one of theirs
among_either : (d : ChName) (vs ws : List Wait) → list_any (same_channel d) (map channel_of (vs ++ ws))
    ≡ (list_any (same_channel d) (map channel_of vs) || list_any (same_channel d) (map channel_of ws))
among_either d [] ws = refl
among_either d (v ∷ vs) ws =
    ap (λ b. same_channel d (channel_of v) || b) (among_either d vs ws)
    ∙ sym (or_assoc (same_channel d (channel_of v)) (list_any (same_channel d) (map channel_of vs)) (list_any (same_channel d) (map channel_of ws)))

awaited_here : (ws : List (Option ℕ × Clause)) (i : ℕ) (w : Option ℕ × Clause) → i < length ws → w ≡ get_or ws i w → (d : ChName)
    → list_any (same_channel d) (channels_awaited ((w.0, communication_of w.1) ∷ [])) ≡ true → list_any (same_channel d) (channels_awaited (pending_of ws)) ≡ true
awaited_here [] i w h at d e = absurd (omega (arith, h))
awaited_here (v ∷ ws) zero w h at d e =
    among_either d (waits_for v.0 (communication_of v.1)) (all_waits (pending_of ws))
    ∙ ap (λ b. b || list_any (same_channel d) (channels_awaited (pending_of ws)))
    (ap (λ (z : Option ℕ × Clause). list_any (same_channel d) (map channel_of (waits_for z.0 (communication_of z.1)))) (sym at)
    ∙ sym (ap (λ l. list_any (same_channel d) (map channel_of l)) (append-nil (waits_for w.0 (communication_of w.1)))) ∙ e)
awaited_here (v ∷ ws) (suc i) w h at d e =
    among_either d (waits_for v.0 (communication_of v.1)) (all_waits (pending_of ws))
    ∙ ap (λ b. list_any (same_channel d) (map channel_of (waits_for v.0 (communication_of v.1))) || b) (awaited_here ws i w (omega (arith, h)) at d e)
    ∙ or_true (list_any (same_channel d) (map channel_of (waits_for v.0 (communication_of v.1))))

-- of a goroutine that stands in the queues for some of these, and has those for the others before it
pub record Queueing (go : List ℕ) (ws : List (Option ℕ × Clause)) (i : ℕ) (us : List (ChName × ChanUndo)) (old now : Channels) : Type 0 where
  pub told : queued go (pending_of (drop i ws)) (contents_of now) ≡ queued go (pending_of ws) (contents_of old)
  pub made : AreMade (pending_of (drop i ws)) (contents_of now)
  pub back : GoesBack us old now
  pub no_room : NeedNoRoom us
  pub gates : AreAtGates (channels_awaited (pending_of ws)) us

module _ (go : List ℕ) (ws : List (Option ℕ × Clause)) (i : ℕ) (us : List (ChName × ChanUndo)) (old now : Channels) (q : Queueing go ws i us old now) where
  pub here_made : (w : Option ℕ × Clause) → i < length ws → w ≡ get_or ws i w → AreMade ((w.0, communication_of w.1) ∷ []) (contents_of now)
  here_made w h at =
      let f = contents_of now in
      let rest = pending_of (drop (i + 1) ws) in
      let all = subst (λ l. AreMade (pending_of l) f) (first_left ws i w h at) q.made in
      let parts = and_parts (is_made_for (with_channels f) (communication_of w.1)) (list_all (λ w. is_made_for (with_channels f) w.1) rest) all in
      and_from (is_made_for (with_channels f) (communication_of w.1)) true parts.0 refl

  pub queueing_next : (w : Option ℕ × Clause) (vs more : List (ChName × ChanUndo)) (new : Channels) → i < length ws → w ≡ get_or ws i w
      → contents_of new ≡ queued_for go (contents_of now) (w.0, communication_of w.1) → GoesBack vs now new → NeedNoRoom vs
      → AreAtGates (channels_awaited ((w.0, communication_of w.1) ∷ [])) vs → more ≡ us ++ vs → Queueing go ws (i + 1) more old new
  queueing_next w vs more new h at is goes none gates are =
      let f = contents_of now in
      let rest = pending_of (drop (i + 1) ws) in
      let all = subst (λ l. AreMade (pending_of l) f) (first_left ws i w h at) q.made in
      let parts = and_parts (is_made_for (with_channels f) (communication_of w.1)) (list_all (λ w. is_made_for (with_channels f) w.1) rest) all in
      record {
        told = ap (queued go rest) is ∙ ap (λ l. queued go (pending_of l) f) (sym (first_left ws i w h at)) ∙ q.told;
        made = made_later f (contents_of new) (λ d. ap (λ g. is_some (g d)) is ∙ still_there go f w.0 (communication_of w.1) d) rest parts.1;
        back = subst (λ l. GoesBack l old new) (sym are) (changes_join us vs old now new q.back goes);
        no_room = subst NeedNoRoom (sym are) (no_room_more us vs q.no_room none);
        gates = subst (AreAtGates (channels_awaited (pending_of ws))) (sym are) (gates_join (channels_awaited (pending_of ws)) us vs q.gates
            (gates_widen (channels_awaited ((w.0, communication_of w.1) ∷ [])) (channels_awaited (pending_of ws)) vs (awaited_here ws i w h at) gates));
      }

  pub all_queued : length ws ≤ i → contents_of now ≡ queued go (pending_of ws) (contents_of old)
  all_queued h = ap (λ l. queued go (pending_of l) (contents_of now)) (sym (drop_of_length-le ws h)) ∙ q.told

  -- taken back, where one more is refused
  module _ (c : Channels) (same : contents_of c ≡ contents_of now) where
    pub queued_fit : ChansFit us (contents_of c)
    queued_fit = subst (ChansFit us) (sym same) q.back.fits

    pub queued_room : HasRooms us (rooms_of c)
    queued_room = has_rooms us c q.no_room

    pub unqueued : (d : Channels) → TookBack us c d → contents_of d ≡ contents_of old
    unqueued d took = λ j x. (took.back x ∙ ap (λ f. chan_back us x (f x)) same ∙ q.back.back x) j

unchanged : (c : Channels) → GoesBack [] c c
unchanged c = record {
  back = λ q. refl;
  fits = tt;
  room = λ q. none_within (rooms_of c q);
  gains = λ q. within_self (plus (rooms_of c q) (each 0));
}

pub none_queued : (go : List ℕ) (ws : List (Option ℕ × Clause)) (c : Channels) → AreMade (pending_of ws) (contents_of c) → Queueing go ws 0 [] c c
none_queued go ws c made = record {
  told = refl;
  made = made;
  back = unchanged c;
  no_room = tt;
  gates = tt;
}
