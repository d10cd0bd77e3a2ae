-- The step of a goroutine that comes to wait, from what it leaves.
use Rattle.std.proofs.Common.{◌≡◌, ℕ, ◌+◌, ◌<◌, ◌^◌, Bool, true, false, ◌||◌, if◌then◌else◌, List, [], ◌∷◌, ◌++◌, length, Option, Some, None, option_map, refl, sym, ap, subst, ◌∙◌, append_assoc, inl, inr}
use Rattle.std.specs.Prelude.{is_some}
use Rattle.std.specs.List.{list_any, list_all, flat_map}
use Rattle.std.proofs.lemmas.List.Folds.{list_any-append}
use Rattle.std.proofs.lemmas.Bool.{cases_Bool, and_parts, and_from}
use Rattle.gr_base.specs.declared.names.ChName.{ChName}
use Rattle.gr_base.specs.declared.events.Event.{Event}
use Rattle.gr_base.specs.declared.kinds.Kind.{Kind}
use Rattle.gr_base.specs.declared.kinds.Kind.TheVariants as kinds
use Rattle.gr_base.specs.declared.values.Value.{Value}
use Rattle.gr_base.specs.declared.objects.Object.{Object}
use Rattle.gr_base.specs.declared.objects.Object.TheVariants.{Run, Go, Gate}
use Rattle.gr_channels.specs.Channels.{Content}
use Rattle.gr_program.specs.Programs.{Program}
use Rattle.gr_rules.specs.Outcomes.{gives, faults, wrong}
use Rattle.gr_rules.specs.Operators.{same_channel}
use Rattle.gr_rules.specs.Deeds.{Communication, Sending, Receiving, Otherwise, Chooses}
use Rattle.gr_rules.specs.Goroutines.{Wait, ToSend, ToReceive, channel_of}
use Rattle.gr_rules.specs.States.{State}
use Rattle.gr_rules.specs.Actors.{Actor, channels_but}
use Rattle.gr_rules.specs.Communications.{waits_for, all_waits, wait}
use Rattle.gr_rules.specs.States.{live}
use Rattle.gr_rules.specs.Touches.{table, touches, side}
use Rattle.gr_rules.specs.Attempts.{Report}
use Rattle.gr_rules.specs.Attempts as rules
use Rattle.gr_rules.specs.Steps.{steps_of}
use Rattle.gr_laws.specs.Touched.{each_once}
use Rattle.gr_code.specs.CodeFrames.{CodeFrame, Wants}
use Rattle.gr_code.specs.Goroutines.{CodeGoroutine, parked, task_of}
use Rattle.gr_goros.specs.Views.{Seen, communication_of, communications_of}
use Rattle.gr_goros.specs.declared.needs.Clause.{Clause}
use Rattle.gr_rules.specs.Selects.{numbered}
use Rattle.std.proofs.lemmas.List.{map-append}
use Rattle.gr_refine.specs.Contents.{Contents, goroutine_of, state_of, with_goroutine}
use Rattle.gr_refine.specs.Looks.{actor_of}
use Rattle.gr_refine.specs.Partners.{is_made_for, all_made}
use Rattle.gr_refine.specs.Waiting.{parked_for, parked_in}
use Rattle.gr_refine.specs.Performing.{reported, StepsTo}
use Rattle.gr_refine.specs.Presence.{Sound}
use Rattle.gr_refine.specs.Standing.{AllStand, ContentsStand}
use Rattle.gr_refine.proofs.NameLemmas.{channel_is, channel_self}
use Rattle.gr_refine.proofs.MeetingLemmas.{named}
use Rattle.gr_refine.proofs.StandingLemmas.{change_keeps_standing, same_goroutines_stand}
use Rattle.gr_refine.proofs.WaitLemmas.{waiting_parks, waiting_is_made}
use Rattle.gr_lower.specs.Lowered.{lowered, meaning}
use Rattle.gr_tables.specs.NamedGoroutines.{seen_at, goroutines_of, At, CanPark, ChangesBy, ComesTo}
use Rattle.gr_tables.specs.NamedChannels.{contents_of, chan_back, GoesBack}
use Rattle.gr_step.specs.declared.objects.Objects.{Objects}
use Rattle.gr_record.specs.Effects.{Effect, touched_to_receive, touched_to_send, wait_to_receive, wait_to_send}
use Rattle.gr_record.specs.declared.record.Operation.{Operation}
use Rattle.gr_record.specs.declared.record.Operation.TheVariants.{SendsOn, ReceivesFrom}
use Rattle.gr_record.specs.declared.record.Parts.TheVariants as parts
use Rattle.gr_record.specs.Parts.{channel_on, AreTouched}
use Rattle.gr_goros.specs.declared.undo.GoUndo.TheVariants.{Parked}
use Rattle.gr_goros.specs.declared.undo.Spot.{Spot}
use Rattle.gr_channels.specs.declared.changes.ChanUndo.TheVariants.{ParkedSender, ParkedReceiver}
use Rattle.gr_record.specs.Listings.{frame_in, state_in}
use Rattle.gr_step.specs.Objects.{run_of, contents_in}
use Rattle.gr_record.specs.Records.{operation_of, go_back, GoesFit, NeedNoFrame, CanGoBack, taken_back, is_go, is_channel, goroutines_changed, channels_changed, writes_of, reads_of}
use Rattle.gr_step.specs.Room.{HasRoom}
use Rattle.gr_step.specs.Premises.{Acting, OfGoroutine, OfActor}
use Rattle.gr_record.specs.Within.{IsAmong, EachIsAmong, ChangesWithin}
use Rattle.gr_record.specs.Taking.{Takes}
use Rattle.gr_step.specs.Parks.{pending_of, channels_awaited, with_channels, queued_for, queued, AreMade, gates_of, Parks}
use Rattle.gr_step.proofs.WithinLemmas.{own_is_written, gate_of_name, named_in, gates_named, gates_inside, more_before}
use Rattle.gr_step.proofs.ChoiceLemmas.{are_channels}
use Rattle.gr_step.proofs.RunningLemmas.{acts_here}
use Rattle.gr_step.proofs.OwnChangeLemmas.{some_is, own_was, own_is, own_back, own_fits, own_room, no_frame, frames_stay, acting_at}
use Rattle.gr_step.proofs.WaitTouchLemmas.{send_row, receive_row, select_row, side_once, sides_once}
use Rattle.gr_step.proofs.PrintLemmas.{not_printed}

-- among channels that are there, each is
among_made : (f : ChName → Option Content) (cs : List ChName) (d : ChName) → list_all (λ c. is_some (f c)) cs ≡ true → list_any (same_channel d) cs ≡ true
    → is_some (f d) ≡ true
among_made f [] d all any = absurd (let no : false ≡ true = any in cc)
among_made f (c ∷ cs) d all any =
    let parts = and_parts (is_some (f c)) (list_all (λ c. is_some (f c)) cs) all in
    elim (cases_Bool (same_channel d c)) [
      | inl t ↦ ap (λ k. is_some (f k)) (channel_is d c t) ∙ parts.0
      | inr n ↦ among_made f cs d parts.1 (sym (ap (λ b. b || list_any (same_channel d) cs) n) ∙ any)
    ]

-- the channel of each wait is there, so that of each communication is
Awaited : (ChName → Option Content) → List Wait → Type 0
Awaited f ws = (d : ChName) → list_any (λ w. same_channel d (channel_of w)) ws ≡ true → is_some (f d) ≡ true

first_awaited : (f : ChName → Option Content) (ws vs : List Wait) → Awaited f (ws ++ vs) → Awaited f ws
unfolding Awaited
first_awaited f ws vs h d any =
    h d (list_any-append (λ w. same_channel d (channel_of w)) ws vs ∙ ap (λ b. b || list_any (λ w. same_channel d (channel_of w)) vs) any)

later_awaited : (f : ChName → Option Content) (ws vs : List Wait) → Awaited f (ws ++ vs) → Awaited f vs
unfolding Awaited
later_awaited f ws vs h d any =
    h d (list_any-append (λ w. same_channel d (channel_of w)) ws vs ∙ ap (λ b. list_any (λ w. same_channel d (channel_of w)) ws || b) any
    ∙ or_true (list_any (λ w. same_channel d (channel_of w)) ws))
  where
    or_true : (b : Bool) → (b || true) ≡ true
    or_true true = refl
    or_true false = refl

made_for_one : (f : ChName → Option Content) (clause : Option ℕ) (w : Communication) → Awaited f (waits_for clause w) → is_made_for (with_channels f) w ≡ true
unfolding Awaited
made_for_one f clause (Sending (Some c) v) h = h c (ap (λ b. b || false) (channel_self c))
made_for_one f clause (Sending None v) h = refl
made_for_one f clause (Receiving (Some c) initial) h = h c (ap (λ b. b || false) (channel_self c))
made_for_one f clause (Receiving None initial) h = refl
made_for_one f clause Otherwise h = refl

made_for_each : (f : ChName → Option Content) (ws : List (Option ℕ × Communication)) → Awaited f (all_waits ws) → AreMade ws f
made_for_each f [] h = refl
made_for_each f (w ∷ ws) h =
    and_from (is_made_for (with_channels f) w.1) (list_all (λ w. is_made_for (with_channels f) w.1) ws)
    (made_for_one f w.0 w.1 (first_awaited f (waits_for w.0 w.1) (all_waits ws) h))
    (made_for_each f ws (later_awaited f (waits_for w.0 w.1) (all_waits ws) h))

pub made_by_all : (f : ChName → Option Content) (ws : List (Option ℕ × Communication)) → all_made (with_channels f) (channels_but [] (all_waits ws)) ≡ true
    → AreMade ws f
unfolding Awaited
made_by_all f ws all =
    made_for_each f ws (λ d any. among_made f (channels_but [] (all_waits ws)) d all (named d [] (all_waits ws) ∙ any))

-- coming to stand in queues changes channels alone
parked_alone : (name : List ℕ) (s : Contents) (clause : Option ℕ) (w : Communication)
    → parked_for name s clause w ≡ record s { channels = queued_for name s.channels (clause, w) }
parked_alone name s clause (Sending (Some c) (gives v)) = refl
parked_alone name s clause (Sending (Some c) (faults e)) = refl
parked_alone name s clause (Sending (Some c) wrong) = refl
parked_alone name s clause (Sending None v) = refl
parked_alone name s clause (Receiving (Some c) initial) = refl
parked_alone name s clause (Receiving None initial) = refl
parked_alone name s clause Otherwise = refl

pub parked_is_queued : (name : List ℕ) (s : Contents) (ws : List (Option ℕ × Communication))
    → parked_in name s ws ≡ record s { channels = queued name ws s.channels }
parked_is_queued name s [] = refl
parked_is_queued name s (w ∷ ws) =
    ap (λ t. parked_in name t ws) (parked_alone name s w.0 w.1)
    ∙ parked_is_queued name (record s { channels = queued_for name s.channels w }) ws

-- one more clause has its number
pub numbered_next : (pending more : List (Option ℕ × Clause)) (i j : ℕ) (c : Clause) (cs rest : List Clause) (total : List (Option ℕ × Communication))
    → cs ≡ c ∷ rest → j ≡ i + 1 → more ≡ pending ++ (Some j, c) ∷ []
    → pending_of pending ++ numbered (i + 1) (communications_of cs) ≡ total → pending_of more ++ numbered (j + 1) (communications_of rest) ≡ total
numbered_next pending more i j c cs rest total first next are told =
    let w : Option ℕ × Communication = (Some j, communication_of c) in
    ap (λ l. pending_of l ++ numbered (j + 1) (communications_of rest)) are
    ∙ ap (λ l. l ++ numbered (j + 1) (communications_of rest)) (map-append (λ (w : Option ℕ × Clause). (w.0, communication_of w.1)) pending ((Some j, c) ∷ []))
    ∙ append_assoc (pending_of pending) (w ∷ []) (numbered (j + 1) (communications_of rest))
    ∙ ap (λ n. pending_of pending ++ (Some n, communication_of c) ∷ numbered (n + 1) (communications_of rest)) next
    ∙ ap (λ l. pending_of pending ++ numbered (i + 1) (communications_of l)) (sym first)
    ∙ told

module _ (p : Program) (e : Event) (number : ℕ) (old new : Objects) (acting : Acting p e number old) (kind : Kind) (operation : Option Operation)
    (sides : List Object) (ws : List (Option ℕ × Communication)) (c : Effect) (k : Parks e number kind operation sides ws c old new) where
  abbrev s : Contents
  s = contents_in old

  abbrev a : Seen
  a = k.goroutine.0

  abbrev b : Seen
  b = k.goroutine.1

  -- what is there afterwards
  leads : contents_in new ≡ parked_in e.go (with_goroutine s e.go (Some b.content)) ws
  leads =
      let run = ap run_of k.run in
      let goroutines = own_is p e number old new acting c.own a b k.goroutine.2 k.goroutine.3.1 in
      let channels = k.channels in
      (λ i. record { run = run i; goroutines = goroutines i; channels = channels i })
      ∙ sym (parked_is_queued e.go (with_goroutine s e.go (Some b.content)) ws)

  back : taken_back e.go c (contents_in new) ≡ s
  back =
      let run = ap (λ b. if b then live else run_of new.run) k.goes_on ∙ ap run_of k.run in
      let goroutines = λ (q : List ℕ). ap (λ o. if is_go q o then None else go_back (goroutines_changed e.go c) q (goroutines_of new.goroutines q)) k.starts
      ∙ ap (λ us. go_back us q (goroutines_of new.goroutines q)) k.alone
      ∙ own_back p e number old new acting c.own a b k.goroutine.2 k.goroutine.3.1 q in
      let channels = λ (q : ChName). ap (λ o. if is_channel q o then None else chan_back (channels_changed c) q (contents_of new.channels q)) k.makes
      ∙ k.goes_back.back q in
      λ i. record { run = run i; goroutines = λ q. goroutines q i; channels = λ q. channels q i }

  fits : CanGoBack e.go c (contents_in new)
  fits = record {
    goroutines = subst (λ us. GoesFit us (goroutines_of new.goroutines)) (sym k.alone)
        (own_fits p e number old new acting c.own a b k.goroutine.2 k.goroutine.3.1);
    channels = k.goes_back.fits;
    frames = frames_stay e.go c (subst NeedNoFrame (sym k.alone)
        (no_frame c.own a.content b.content k.goroutine.3.1.back (ap (λ g. length g.frames) k.goroutine.3.0), tt));
  }

  pub parks_with_room : HasRoom e.go c new
  parks_with_room = record {
    frames = own_room p e number old new acting c.own a b k.goroutine.2 k.goroutine.3.1;
    places = k.goes_back.room;
  }

  gate_written : (d : ChName) → list_any (same_channel d) (channels_awaited ws) ≡ true → IsAmong (Gate d) (writes_of e.go c)
  gate_written d h = subst (λ os. IsAmong (Gate d) os) (sym k.writes)
      (gate_of_name d (channels_but [] (all_waits ws)) ∙ named d [] (all_waits ws) ∙ sym (named_in d (all_waits ws)) ∙ h)

  stays_within : ChangesWithin e.go c (contents_in new)
  stays_within = record {
    goroutines = subst (λ us. EachIsAmong Go us (writes_of e.go c)) (sym k.alone) (own_is_written e.go c, tt);
    begun = λ q is. absurd (let no : None ≡ Some q = sym k.starts ∙ is in cc);
    made = λ q is. absurd (let no : None ≡ Some q = sym k.makes ∙ is in cc);
    gates = gates_named (channels_awaited ws) (reads_of c ++ writes_of e.go c) (λ d h. more_before (Gate d) (reads_of c) (writes_of e.go c) (gate_written d h))
        (channels_changed c) k.gates;
    parts = λ d b q is w. gates_inside (channels_awaited ws) (writes_of e.go c) gate_written (channels_changed c) d b q k.gates w;
    valid = are_channels new;
  }

  module _ (does_it : Option rules.Operation) (is : option_map operation_of operation ≡ does_it) (g : CodeGoroutine) (f : CodeFrame)
      (below : List CodeFrame) (there : s.goroutines e.go ≡ Some g) where
    abbrev actor : Actor
    actor = actor_of (frame_in p) p e g f below

    abbrev report : Report
    report = reported actor None does_it kind

    is_parked : b.content ≡ parked (all_waits ws) g
    is_parked =
        k.goroutine.3.0 ∙ ap (parked (all_waits ws)) (some_is (sym (own_was p e number old new acting c.own a b k.goroutine.2 k.goroutine.3.1) ∙ there))

    stands : ContentsStand (meaning p) (lowered p) (contents_in new)
    stands =
        let one = change_keeps_standing (meaning p) (lowered p) s e.go b.content acting.running.stand
        (subst (λ fs. AllStand (meaning p) (lowered p) fs) (sym (ap (λ (g : CodeGoroutine). g.frames) k.goroutine.3.0))
        (acting.running.stand e.go a.content (own_was p e number old new acting c.own a b k.goroutine.2 k.goroutine.3.1))) in
        same_goroutines_stand (meaning p) (lowered p) (with_goroutine s e.go (Some b.content)) (contents_in new)
        (λ n i. own_is p e number old new acting c.own a b k.goroutine.2 k.goroutine.3.1 i n) one

    pub parks_takes : Sound (frame_in p) s (wait actor does_it kind ws)
        → table (state_in p s) e report ≡ touches (Run ∷ sides) (Go e.go ∷ gates_of ws)
        → each_once (Go e.go ∷ gates_of ws) (Run ∷ sides) ≡ Run ∷ each_once (gates_of ws) sides
        → Takes p e (wait actor does_it kind ws) s c (contents_in new)
    parks_takes sound row once = record {
      report = report;
      steps = subst (λ t. StepsTo (frame_in p) (wait actor does_it kind ws) s t report) (sym leads)
          (waiting_parks (frame_in p) s actor does_it kind ws b.content (waiting_is_made (frame_in p) s actor does_it kind ws sound)
          (ap (goroutine_of (frame_in p)) is_parked));
      ordinal = ap (λ o. steps_of (option_map (goroutine_of (frame_in p)) o) + 1) (sym there);
      kind = k.kind_is;
      printed = not_printed a.content b.content c.own k.goroutine.3.1.back k.goroutine.3.1.fits (ap (λ (g : CodeGoroutine). g.text) k.goroutine.3.0);
      operation = k.operation_is ∙ is;
      writes = k.writes ∙ sym (ap (λ t. t.writes) row);
      reads = k.reads ∙ sym once ∙ sym (ap (λ t. each_once t.writes t.reads) row);
      back = back;
      fits = fits;
      stand = stands;
      within = stays_within;
    }

-- before it waits
module _ (p : Program) (e : Event) (number : ℕ) (o : Objects) (acting : Acting p e number o) where
  pub can_park : At CanPark (seen_at o.goroutines number)
  can_park = acting_at p e number o acting CanPark (λ x is. (
    ap (λ (g : CodeGoroutine). g.status) is ∙ acting.is_ready,
    subst (λ (g : CodeGoroutine). g.steps + 1 < 2 ^ 64) (sym is) (acting.counted.steps e.go acting.goroutine acting.there),
  ))

  pub waits_made : (operation : Option rules.Operation) (kind : Kind) (ws : List (Option ℕ × Communication))
      → OfActor p e (contents_in o) (λ a. Sound (frame_in p) (contents_in o) (wait a operation kind ws)) → AreMade ws (contents_of o.channels)
  waits_made operation kind ws sound =
      let h = acts_here p e number o acting in
      made_by_all (contents_of o.channels) ws
      (waiting_is_made (frame_in p) (contents_in o) (actor_of (frame_in p) p e acting.goroutine h.f h.below) operation kind ws
      (sound acting.goroutine h.f h.below acting.there h.acts.up.frames))

pub first_made : (f : ChName → Option Content) (w : Option ℕ × Communication) → AreMade (w ∷ []) f → is_made_for (with_channels f) w.1 ≡ true
first_made f w made = (and_parts (is_made_for (with_channels f) w.1) true made).0

-- a goroutine that came to wait to send, to receive, or at a select
module _ (p : Program) (e : Event) (number : ℕ) (old new : Objects) (acting : Acting p e number old) (operation : Option Operation)
    (sides : List Object) (change : Effect) where
  pub waits_to_send : (c : Option ChName) (v : Value) → option_map operation_of operation ≡ option_map rules.sends_on c
      → sides ≡ side (state_of (frame_in p) (with_channels (contents_of old.channels))) (Sending c (gives v))
      → OfActor p e (contents_in old)
      (λ a. Sound (frame_in p) (contents_in old) (wait a (option_map rules.sends_on c) kinds.SendWait ((None, Sending c (gives v)) ∷ [])))
      → Parks e number kinds.SendWait operation sides ((None, Sending c (gives v)) ∷ []) change old new
      → OfActor p e (contents_in old)
      (λ a. Takes p e (wait a (option_map rules.sends_on c) kinds.SendWait ((None, Sending c (gives v)) ∷ [])) (contents_in old) change (contents_in new))
  waits_to_send c v is are sound k g f below there frames =
      let ws : List (Option ℕ × Communication) = (None, Sending c (gives v)) ∷ [] in
      parks_takes p e number old new acting kinds.SendWait operation sides ws change k (option_map rules.sends_on c) is g f below there
      (sound g f below there frames) (send_row p e (contents_in old) g f below there c v sides are)
      (side_once p e (contents_in old) g f below there ws (Sending c (gives v)) sides are)

  pub waits_to_receive : (c : Option ChName) (zero : Value) → option_map operation_of operation ≡ option_map rules.receives_from c
      → sides ≡ side (state_of (frame_in p) (with_channels (contents_of old.channels))) (Receiving c zero)
      → OfActor p e (contents_in old)
      (λ a. Sound (frame_in p) (contents_in old) (wait a (option_map rules.receives_from c) kinds.RecvWait ((None, Receiving c zero) ∷ [])))
      → Parks e number kinds.RecvWait operation sides ((None, Receiving c zero) ∷ []) change old new
      → OfActor p e (contents_in old)
      (λ a. Takes p e (wait a (option_map rules.receives_from c) kinds.RecvWait ((None, Receiving c zero) ∷ [])) (contents_in old) change (contents_in new))
  waits_to_receive c zero is are sound k g f below there frames =
      let ws : List (Option ℕ × Communication) = (None, Receiving c zero) ∷ [] in
      parks_takes p e number old new acting kinds.RecvWait operation sides ws change k (option_map rules.receives_from c) is g f below there
      (sound g f below there frames) (receive_row p e (contents_in old) g f below there c zero sides are)
      (side_once p e (contents_in old) g f below there ws (Receiving c zero) sides are)

  pub waits_in_select : (cs : List Communication) → option_map operation_of operation ≡ None
      → OfGoroutine e (contents_in old) (λ g. task_of (lowered p) g ≡ gives (Wants (Chooses cs)))
      → sides ≡ flat_map (side (state_of (frame_in p) (with_channels (contents_of old.channels)))) cs
      → OfActor p e (contents_in old) (λ a. Sound (frame_in p) (contents_in old) (wait a None kinds.SelectWait (numbered 1 cs)))
      → Parks e number kinds.SelectWait operation sides (numbered 1 cs) change old new
      → OfActor p e (contents_in old) (λ a. Takes p e (wait a None kinds.SelectWait (numbered 1 cs)) (contents_in old) change (contents_in new))
  waits_in_select cs is task are sound k g f below there frames =
      parks_takes p e number old new acting kinds.SelectWait operation sides (numbered 1 cs) change k None is g f below there
      (sound g f below there frames)
      (select_row p e (contents_in old) g f below there cs sides acting.running frames (task g there) are)
      (sides_once p e (contents_in old) g f below there (numbered 1 cs) cs sides are)

pub each_made : (f : ChName → Option Content) (i : ℕ) (cs : List Communication) → AreMade (numbered i cs) f → list_all (is_made_for (with_channels f)) cs ≡ true
each_made f i [] made = refl
each_made f i (c ∷ cs) made =
    let parts = and_parts (is_made_for (with_channels f) c) (list_all (λ w. is_made_for (with_channels f) w.1) (numbered (i + 1) cs)) made in
    and_from (is_made_for (with_channels f) c) (list_all (is_made_for (with_channels f)) cs) parts.0 (each_made f (i + 1) cs parts.1)

-- a communication on nil waits for nothing, and touches nothing
pub nil_waits : (w : Communication) → channel_on w ≡ None → [] ≡ all_waits ((None, w) ∷ [])
nil_waits (Sending None v) is = refl
nil_waits (Sending (Some c) v) is = absurd (let no : Some c ≡ None = is in cc)
nil_waits (Receiving None initial) is = refl
nil_waits (Receiving (Some c) initial) is = absurd (let no : Some c ≡ None = is in cc)
nil_waits Otherwise is = refl

pub nil_made : (f : ChName → Option Content) (w : Communication) → channel_on w ≡ None → AreMade ((None, w) ∷ []) f
nil_made f (Sending None v) is = refl
nil_made f (Sending (Some c) v) is = absurd (let no : Some c ≡ None = is in cc)
nil_made f (Receiving None initial) is = refl
nil_made f (Receiving (Some c) initial) is = absurd (let no : Some c ≡ None = is in cc)
nil_made f Otherwise is = refl

pub nil_touched : (s : State) (w : Communication) → channel_on w ≡ None
    → AreTouched (record { read = parts.Nothing; written = parts.Nothing; slot = None }) None (each_once (gates_of ((None, w) ∷ [])) (side s w)) (gates_of ((None, w) ∷ []))
nil_touched s (Sending None v) is = record { read = refl; written = refl; before = λ os. refl }
nil_touched s (Sending (Some c) v) is = absurd (let no : Some c ≡ None = is in cc)
nil_touched s (Receiving None initial) is = record { read = refl; written = refl; before = λ os. refl }
nil_touched s (Receiving (Some c) initial) is = absurd (let no : Some c ≡ None = is in cc)
nil_touched s Otherwise is = record { read = refl; written = refl; before = λ os. refl }

-- what a step did with a channel to which it came to wait to send, or from which to receive, and on nil
pub sends_on_each : (c : Option ChName) → option_map operation_of (option_map SendsOn c) ≡ option_map rules.sends_on c
sends_on_each None = refl
sends_on_each (Some c) = refl

pub receives_from_each : (c : Option ChName) → option_map operation_of (option_map ReceivesFrom c) ≡ option_map rules.receives_from c
receives_from_each None = refl
receives_from_each (Some c) = refl

-- a goroutine that came to wait for one communication on a channel, and what is kept of that
module _ (e : Event) (number : ℕ) (c : ChName) (slot : Option ℕ) (spot : Spot) (sides : List Object) (old new : Objects) (runs : new.run ≡ old.run) where
  pub parks_to_send : (v : Value) → ChangesBy number (ComesTo (parked (ToSend c None ∷ [])) (Parked spot)) old.goroutines new.goroutines
      → contents_of new.channels ≡ queued_for e.go (contents_of old.channels) (None, Sending (Some c) (gives v))
      → GoesBack ((c, ParkedSender) ∷ []) old.channels new.channels
      → AreTouched (touched_to_send slot) (Some c) (each_once (gates_of ((None, Sending (Some c) (gives v)) ∷ [])) sides) (gates_of ((None, Sending (Some c) (gives v)) ∷ []))
      → Parks e number kinds.SendWait (Some (SendsOn c)) sides ((None, Sending (Some c) (gives v)) ∷ []) (wait_to_send slot c spot) old new
  parks_to_send v goes queues back touches = record {
    goroutine = goes;
    channels = queues;
    goes_back = back;
    run = runs;
    kind_is = refl;
    operation_is = refl;
    writes = ap (λ os. Go e.go ∷ os) touches.written;
    reads = ap (λ os. Run ∷ os) touches.read;
    alone = refl;
    starts = refl;
    makes = refl;
    goes_on = refl;
    gates = (refl, ap (λ b. b || false) (channel_self c), tt);
  }

  pub parks_to_receive : (zero : Value) → ChangesBy number (ComesTo (parked (ToReceive c None ∷ [])) (Parked spot)) old.goroutines new.goroutines
      → contents_of new.channels ≡ queued_for e.go (contents_of old.channels) (None, Receiving (Some c) zero)
      → GoesBack ((c, ParkedReceiver) ∷ []) old.channels new.channels
      → AreTouched (touched_to_receive slot) (Some c) (each_once (gates_of ((None, Receiving (Some c) zero) ∷ [])) sides) (gates_of ((None, Receiving (Some c) zero) ∷ []))
      → Parks e number kinds.RecvWait (Some (ReceivesFrom c)) sides ((None, Receiving (Some c) zero) ∷ []) (wait_to_receive slot c spot) old new
  parks_to_receive zero goes queues back touches = record {
    goroutine = goes;
    channels = queues;
    goes_back = back;
    run = runs;
    kind_is = refl;
    operation_is = refl;
    writes = ap (λ os. Go e.go ∷ os) touches.written;
    reads = ap (λ os. Run ∷ os) touches.read;
    alone = refl;
    starts = refl;
    makes = refl;
    goes_on = refl;
    gates = (refl, ap (λ b. b || false) (channel_self c), tt);
  }
