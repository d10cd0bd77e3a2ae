-- The goroutine that acts goes past its communication, alone or with one that waits.
use Rattle.std.proofs.Common.{◌≡◌, ◌≤◌, ℕ, Bool, true, false, List, [], ◌∷◌, ◌++◌, map, Option, Some, refl, sym, ap, subst, ◌∙◌, zero-le}
use Rattle.std.specs.Prelude.{option_map}
use Rattle.gr_base.specs.declared.names.ChName.{ChName}
use Rattle.gr_base.specs.declared.values.Value.{Value}
use Rattle.gr_base.specs.declared.events.Event.{Event}
use Rattle.gr_base.specs.declared.kinds.Kind.{Kind}
use Rattle.gr_base.specs.declared.objects.Object.{Object}
use Rattle.gr_base.specs.declared.objects.Object.TheVariants as objects
use Rattle.gr_channels.specs.declared.changes.ChanUndo.{ChanUndo}
use Rattle.gr_channels.specs.Channels.{Seen}
use Rattle.gr_program.specs.Programs.{Program}
use Rattle.gr_rules.specs.Outcomes.{wrong}
use Rattle.gr_rules.specs.Deeds.{past}
use Rattle.gr_rules.specs.Goroutines.{Status, waiting}
use Rattle.gr_rules.specs.States.{same_go}
use Rattle.gr_rules.specs.Attempts.{Operation}
use Rattle.gr_rules.specs.Actors.{channels_but}
use Rattle.gr_code.specs.CodeFrames.{ProgramCode}
use Rattle.gr_code.specs.Goroutines.{CodeGoroutine, Arrival, Passes, IsMet}
use Rattle.gr_code.specs.Programs.{IsClause}
use Rattle.gr_refine.specs.Contents.{Contents}
use Rattle.gr_refine.specs.Arriving.{HasClauseHere, IsIn}
use Rattle.gr_refine.specs.Partners.{Meets, is_waiting}
use Rattle.gr_refine.proofs.ArrivingLemmas.{passing_can_arrive}
use Rattle.gr_refine.proofs.NameLemmas.{go_other}
use Rattle.gr_lower.specs.Lowered.{lowered, meaning}
use Rattle.gr_goros.specs.declared.undo.GoUndo.{GoUndo}
use Rattle.gr_goros.specs.Undoing.{need}
use Rattle.gr_tables.specs.NamedChannels.{seen_of, contents_of, rooms_of, ChansFit, GoesBack, HasRooms, TookBack}
use Rattle.gr_tables.specs.NamedGoroutines.{At, goroutines_of, go_rooms_of}
use Rattle.gr_tables.specs.declared.channels.Channels.{Channels}
use Rattle.gr_tables.proofs.Joining.{changes_join, changes_go_back}
use Rattle.gr_tables.proofs.RoomLemmas.{within_self}
use Rattle.gr_step.specs.declared.objects.Objects.{Objects}
use Rattle.gr_step.specs.declared.partners.Prepared.{Prepared}
use Rattle.gr_record.specs.Effects.{Effect}
use Rattle.gr_record.specs.Listings.{frame_in}
use Rattle.gr_step.specs.Objects.{contents_in, run_of}
use Rattle.gr_step.specs.Premises.{Acting, OfGoroutine}
use Rattle.gr_step.specs.Room.{HasRoom}
use Rattle.gr_step.specs.Passing.{CanArriveAt}
use Rattle.gr_step.specs.Preparing.{WaitsFor, IsPrepared, CanPass, IsPass, CanExchange, IsExchange, channel_of, go_of, left_by}
use Rattle.gr_step.proofs.PartnerLemmas.{some_is}
use Rattle.gr_step.proofs.PassLemmas.{needs_no_frame}
use Rattle.gr_step.proofs.RunningLemmas.{acts_here}
use Rattle.gr_step.proofs.WaiterLemmas.{HasItsClause, can_be_met}

-- what has to hold of the clause with which a goroutine acts
abbrev pub HasClauseAt : Program → Event → Contents → Option ℕ → Type 0
HasClauseAt p e s clause = OfGoroutine e s (λ g. IsClause clause × HasClauseHere (lowered p) g.frames clause)

module _ (p : Program) (e : Event) (number : ℕ) (o : Objects) (acting : Acting p e number o) (clause : Option ℕ)
    (has : HasClauseAt p e (contents_in o) clause) where
  -- it can go past its communication, where the rules go past it
  pub can_pass : (gets : Option (Value × Bool)) → ¬ (past (frame_in p (acts_here p e number o acting).f) clause gets ≡ wrong)
      → CanArriveAt (lowered p) (Passes clause gets) ((contents_in o).goroutines e.go)
  can_pass gets goes =
      let here = acts_here p e number o acting in
      let g = acting.goroutine in
      let is : IsIn (meaning p) p (lowered p) g here.f here.below =
      record { fits = here.acts.fits; frames = here.acts.up.frames; stand = here.acts.stand } in
      subst {_, _} (CanArriveAt (lowered p) (Passes clause gets)) (sym acting.there) (
        passing_can_arrive (meaning p) p (lowered p) e g here.f here.below clause gets is (has g acting.there).1 goes,
        acting.counted.steps e.go g acting.there,
      )

-- what is known of one that waits and can be met, and of the one that acts
pub record CanMeet (p : Program) (e : Event) (s : Contents) (clause : Option ℕ) (gets : Option (Value × Bool)) (c : ChName) (n : List ℕ)
    (case : Option ℕ) (got : Option (Value × Bool)) : Type 0 where
  pub m : Meets (frame_in p) s c n case got
  pub its : HasItsClause (lowered p) m.met_one case
  pub apart : same_go n e.go ≡ false
  pub can : CanArriveAt (lowered p) (Passes clause gets) (s.goroutines e.go)
  pub partner_can : CanArriveAt (lowered p) (IsMet case got) (s.goroutines n)
  pub waits : is_waiting (s.goroutines n) ≡ true
  pub waits_for : At (WaitsFor m.waits) (s.goroutines n)

module _ (p : Program) (e : Event) (number : ℕ) (o : Objects) (acting : Acting p e number o) (clause : Option ℕ)
    (has : HasClauseAt p e (contents_in o) clause) (gets : Option (Value × Bool))
    (goes : ¬ (past (frame_in p (acts_here p e number o acting).f) clause gets ≡ wrong))
    (c : ChName) (n : List ℕ) (case : Option ℕ) (got : Option (Value × Bool)) (m : Meets (frame_in p) (contents_in o) c n case got)
    (its : HasItsClause (lowered p) m.met_one case) where
  -- one that waits is not the one that acts
  other : n ≡ e.go → ⊥
  other is =
      let same = some_is (sym m.there ∙ ap (contents_in o).goroutines is ∙ acting.there) in
      subst {0, 0} (λ (s : Status). elim s [ waiting ws ↦ Unit {0} | _ ↦ ⊥ ])
      (sym m.waiting_for ∙ ap (λ (g : CodeGoroutine). g.status) same ∙ acting.is_ready) tt

  pub can_meet : CanMeet p e (contents_in o) clause gets c n case got
  can_meet = record {
    m = m;
    its = its;
    apart = go_other n e.go other;
    can = can_pass p e number o acting clause has gets goes;
    partner_can = subst {_, _} (CanArriveAt (lowered p) (IsMet case got)) (sym m.there)
        (can_be_met p (contents_in o) acting.running c n case got m its, tt);
    waits = ap is_waiting m.there ∙ ap (λ (s : Status). elim s [ waiting ws ↦ true | _ ↦ false ]) m.waiting_for;
    waits_for = subst {_, _} (At (WaitsFor m.waits)) (sym m.there) m.waiting_for;
  }

-- the changes of channels that an exchange leaves lead from the channels before the first of them
module _ (code : ProgramCode) (n m : List ℕ) (passes meets : Arrival) (names : List ChName) (kind : Kind) (operation : Operation)
    (reads writes : List Object) (done : List (ChName × ChanUndo)) (c : Effect) (old : Channels) (mid new : Objects) (goes : GoesBack done old mid.channels)
    (x : IsExchange code n m passes meets names kind operation reads writes done c mid new) where
  pub all_go_back : GoesBack x.changed old new.channels
  all_go_back = subst {_, _} (λ us. GoesBack us old new.channels) (sym x.exchanges.follows.are)
      (changes_join done x.exchanges.follows.more old mid.channels new.channels goes x.exchanges.follows.goes)

  pub exchange_room : HasRoom n c new
  exchange_room = record {
    frames = subst {_, _} (λ (u : GoUndo). need u ≤ go_rooms_of new.goroutines n) (sym x.tells.own_is)
        (subst {_, _} (λ k. k ≤ go_rooms_of new.goroutines n)
        (sym (needs_no_frame code n passes x.own (goroutines_of mid.goroutines) x.exchanges.both.between x.exchanges.both.goes)) zero-le);
    places = subst {_, _} (λ us. HasRooms us (rooms_of new.channels)) (sym x.tells.channels_are) all_go_back.room;
  }

module _ (p : Program) (e : Event) (number : ℕ) (old : Objects) (acting : Acting p e number old) (clause : Option ℕ) (gets : Option (Value × Bool))
    (c : ChName) (n : List ℕ) (case : Option ℕ) (got : Option (Value × Bool)) (meet : CanMeet p e (contents_in old) clause gets c n case got)
    (operation : Operation) (reads touched : List Object) (r : Prepared) (ready : IsPrepared operation reads touched c n meet.m.waits old r)
    (code : ProgramCode) (coded : code ≡ lowered p) (mid : Channels) (u : ChanUndo) (goes : GoesBack ((c, u) ∷ []) old.channels mid) where
  -- all is ready
  pub can_exchange : CanExchange code e number r u (Passes clause gets) (IsMet case got) (record old { channels = mid })
  can_exchange = record {
    named = acting.named;
    partner_named = ready.named ∙ ap (λ (n : List ℕ). Some n) (sym ready.partner.go_is);
    apart = ap (λ n. same_go n e.go) ready.partner.go_is ∙ meet.apart;
    can = subst {_, _} (λ k. CanArriveAt k (Passes clause gets) (goroutines_of old.goroutines e.go)) (sym coded) meet.can;
    partner_can = subst {_, _} (λ n. CanArriveAt code (IsMet case got) (goroutines_of old.goroutines n)) (sym ready.partner.go_is)
        (subst {_, _} (λ k. CanArriveAt k (IsMet case got) (goroutines_of old.goroutines n)) (sym coded) meet.partner_can);
    fits = subst {_, _} (λ c. ChansFit ((c, u) ∷ []) (contents_of mid)) (sym ready.partner.channel_is) goes.fits;
    room = subst {_, _} (λ c. HasRooms ((c, u) ∷ []) (rooms_of mid)) (sym ready.partner.channel_is) goes.room;
  }

  -- what it touches
  abbrev pub written : List Object
  written = touched ++ objects.Go n ∷ map objects.Gate (channels_but (c ∷ []) meet.m.waits)

  -- the exchange was done
  pub exchanged : (kind : Kind) (change : Effect) (new : Objects)
      → IsExchange code e.go (go_of r.partner) (Passes clause gets) (IsMet case got) (left_by r.partner) kind operation reads written ((channel_of r.partner, u) ∷ []) change
      (record old { channels = mid }) new
      → IsExchange (lowered p) e.go n (Passes clause gets) (IsMet case got) (left_by r.partner) kind operation reads written ((c, u) ∷ []) change
      (record old { channels = mid }) new
  exchanged kind change new is =
      subst {_, _} (λ k. IsExchange k e.go n (Passes clause gets) (IsMet case got) (left_by r.partner) kind operation reads written ((c, u) ∷ []) change
      (record old { channels = mid }) new) coded
      (subst {_, _} (λ c. IsExchange code e.go n (Passes clause gets) (IsMet case got) (left_by r.partner) kind operation reads written ((c, u) ∷ []) change
      (record old { channels = mid }) new) ready.partner.channel_is
      (subst {_, _} (λ m. IsExchange code e.go m (Passes clause gets) (IsMet case got) (left_by r.partner) kind operation reads written ((channel_of r.partner, u) ∷ []) change
      (record old { channels = mid }) new) ready.partner.go_is is))

  -- refused, all is as before
  pub as_before : (new : Objects) → goroutines_of new.goroutines ≡ goroutines_of old.goroutines → TookBack ((channel_of r.partner, u) ∷ []) mid new.channels
      → new.run ≡ old.run → contents_in new ≡ contents_in old
  as_before new gos took is_run =
      let chans = changes_go_back ((c, u) ∷ []) old.channels mid mid new.channels goes refl (λ q. within_self (rooms_of mid q))
      (subst {_, _} (λ c. TookBack ((c, u) ∷ []) mid new.channels) ready.partner.channel_is took) in
      λ i. record { run = run_of (is_run i); goroutines = gos i; channels = chans.0 i }

-- a goroutine goes past its communication with nobody
module _ (p : Program) (e : Event) (number : ℕ) (old : Objects) (acting : Acting p e number old) (clause : Option ℕ)
    (has : HasClauseAt p e (contents_in old) clause) (gets : Option (Value × Bool))
    (goes : ¬ (past (frame_in p (acts_here p e number old acting).f) clause gets ≡ wrong)) (code : ProgramCode) (coded : code ≡ lowered p)
    (mid : Channels) (done : List (ChName × ChanUndo)) (back : GoesBack done old.channels mid) where
  pub can_pass_by : CanPass code e number (Passes clause gets) done (record old { channels = mid })
  can_pass_by = record {
    named = acting.named;
    can = subst {_, _} (λ k. CanArriveAt k (Passes clause gets) (goroutines_of old.goroutines e.go)) (sym coded)
        (can_pass p e number old acting clause has gets goes);
    fits = back.fits;
    room = back.room;
  }

module _ (code : ProgramCode) (n : List ℕ) (passes : Arrival) (kind : Kind) (operation : Operation) (reads writes : List Object)
    (done : List (ChName × ChanUndo)) (c : Effect) (old : Channels) (mid new : Objects) (goes : GoesBack done old mid.channels)
    (x : IsPass code n passes kind operation reads writes done c mid new) where
  pub pass_goes_back : GoesBack done old new.channels
  pass_goes_back = subst {_, _} (GoesBack done old) (sym x.channels) goes

  pub pass_room : HasRoom n c new
  pass_room = record {
    frames = subst {_, _} (λ (u : GoUndo). need u ≤ go_rooms_of new.goroutines n) (sym x.tells.own_is)
        (subst {_, _} (λ k. k ≤ go_rooms_of new.goroutines n)
        (sym (needs_no_frame code n passes x.own (goroutines_of mid.goroutines) (goroutines_of new.goroutines) x.goes)) zero-le);
    places = subst {_, _} (λ us. HasRooms us (rooms_of new.channels)) (sym x.tells.channels_are) pass_goes_back.room;
  }

-- refused, all is as it was before these changes of channels
pub before_these : (old : Objects) (mid : Channels) (done : List (ChName × ChanUndo)) (goes : GoesBack done old.channels mid) (new : Objects)
    → goroutines_of new.goroutines ≡ goroutines_of old.goroutines → TookBack done mid new.channels → new.run ≡ old.run
    → contents_in new ≡ contents_in old
before_these old mid done goes new gos took is_run =
    let chans = changes_go_back done old.channels mid mid new.channels goes refl (λ q. within_self (rooms_of mid q)) took in
    λ i. record { run = run_of (is_run i); goroutines = gos i; channels = chans.0 i }

-- channels that are seen as they were have their contents
pub same_seen : (old : Objects) (mid : Channels) → seen_of mid ≡ seen_of old.channels → contents_in (record old { channels = mid }) ≡ contents_in old
same_seen old mid same = λ i. record (contents_in old) { channels = λ q. option_map (λ (x : Seen). x.content) (same i q) }
