-- The steps that count the items and the places of a channel.
use Rattle.std.proofs.Common.{◌≡◌, ◌+◌, ℕ, pos, false, if◌then◌else◌, List, [], ◌∷◌, length, Option, Some, None, refl, sym, ap}
use Rattle.std.proofs.Common.{◌∙◌, arith}
use Rattle.std.specs.Prelude.{option_map}
use Rattle.gr_base.specs.declared.names.ChName.{ChName}
use Rattle.gr_base.specs.declared.events.Choice.TheVariants.{Plain}
use Rattle.gr_base.specs.declared.events.Event.{Event}
use Rattle.gr_base.specs.declared.kinds.Kind.TheVariants as kinds
use Rattle.gr_base.specs.declared.objects.Object.{Object}
use Rattle.gr_base.specs.declared.objects.Object.TheVariants as objects
use Rattle.gr_base.specs.declared.values.Value.TheVariants.{Int}
use Rattle.gr_channels.specs.Channels.{Content}
use Rattle.gr_program.specs.Programs.{Program}
use Rattle.gr_rules.specs.Actors.{Actor, given, does, onward}
use Rattle.gr_rules.specs.Attempts as rules
use Rattle.gr_rules.specs.Deeds.{TakesLen, TakesCap}
use Rattle.gr_rules.specs.Frames.{Frame}
use Rattle.gr_rules.specs.Outcomes.{Outcome, gives, wrong}
use Rattle.gr_rules.specs.States.{live}
use Rattle.gr_rules.specs.Steps.{attempt}
use Rattle.gr_rules.specs.Touches.{Touches, touches, row}
use Rattle.gr_laws.specs.Touched.{each_once}
use Rattle.gr_code.specs.CodeFrames.{Wants}
use Rattle.gr_code.specs.Goroutines.{CodeGoroutine, Value, arrived, task_of}
use Rattle.gr_tables.specs.NamedChannels.{contents_of}
use Rattle.gr_tables.specs.NamedGoroutines.{At, Arrives, CanArrive, ChangesBy, seen_at}
use Rattle.gr_refine.specs.CodeSteps.{code_report}
use Rattle.gr_refine.specs.Contents.{Contents, goroutine_of, state_of, with_goroutine}
use Rattle.gr_refine.specs.Leaves.{leaf}
use Rattle.gr_refine.specs.Looks.{actor_of}
use Rattle.gr_refine.specs.Performing.{StepsTo}
use Rattle.gr_refine.proofs.ArrivingLemmas.{value_can_arrive}
use Rattle.gr_refine.proofs.CodeFaultLemmas.{len_of_nil, cap_of_nil, len_can_arrive, cap_can_arrive}
use Rattle.gr_refine.proofs.CodeStepLemmas.{is_in, len_of_code, cap_of_code}
use Rattle.gr_refine.proofs.TaskLemmas.{rule_is_sound}
use Rattle.gr_lower.specs.Lowered.{lowered, meaning}
use Rattle.gr_step.specs.Beyonds.{ChangesObjects, ReachesBeyond}
use Rattle.gr_step.specs.declared.objects.Objects.{Objects}
use Rattle.gr_record.specs.Effects.{Effect}
use Rattle.gr_record.specs.declared.record.Operation.{Operation}
use Rattle.gr_record.specs.declared.record.Operation.TheVariants.{TakesLenOf, TakesCapOf}
use Rattle.gr_record.specs.Listings.{frame_in, state_in}
use Rattle.gr_step.specs.Objects.{contents_in, run_of}
use Rattle.gr_step.specs.Premises.{Acting}
use Rattle.gr_record.specs.Records.{operation_of}
use Rattle.gr_step.specs.Room.{HasRoom}
use Rattle.gr_record.specs.Taking.{Takes}
use Rattle.gr_step.proofs.ArrivalLemmas.{Arrived, arrived_here, can_arrive}
use Rattle.gr_step.proofs.ChoiceLemmas.{are_channels}
use Rattle.gr_step.proofs.OwnTakesLemmas.{own_takes, count_is}
use Rattle.gr_step.proofs.PlaceLemmas.{own_room}
use Rattle.gr_step.proofs.ReachesLemmas.{Told, told, told_none}
use Rattle.gr_step.proofs.RunningLemmas.{acts_here, never_unsound}

module _ (p : Program) (e : Event) (number : ℕ) (o : Objects) (acting : Acting p e number o) (plain : e.choice ≡ Plain) where
  abbrev pub s : Contents
  s = contents_in o

  abbrev pub g : CodeGoroutine
  g = acting.goroutine

  -- the change of a goroutine that goes on with the count n
  abbrev pub Counted : ℕ → Effect → Objects → Type 0
  Counted n c new = ChangesObjects (ChangesBy number (Arrives (lowered p) (Value (Int (pos n))) c.own)) o.run o new

  module _ (n : ℕ) (c : Effect) (new : Objects) (changes : Counted n c new) where
    pub on : Arrived p e.go (Value (Int (pos n))) g c.own o.goroutines new.goroutines
    on = arrived_here p e number o acting (Value (Int (pos n))) c.own new.goroutines changes.goroutines

    count_takes : (did : Option Operation) (read : List Object) → Told did read [] false e.go c → c.kind ≡ kinds.Length
        → StepsTo (frame_in p) (attempt p e) s (with_goroutine s e.go (Some on.after)) (code_report g (option_map operation_of did) kinds.Length)
        → row (state_in p s) e (code_report g (option_map operation_of did) kinds.Length) ((state_in p s).goroutines e.go)
        (option_map operation_of did)
        ≡ touches read []
        → objects.Run ∷ read ≡ each_once (objects.Go e.go ∷ []) (objects.Run ∷ read)
        → Takes p e (attempt p e) s c (contents_in new)
    count_takes did read tells kind steps rows once =
        own_takes p e (attempt p e) s (contents_in new) g on.after c s.run (code_report g (option_map operation_of did) kinds.Length) acting.there
        on.own.back
        on.own.fits tells.own (ap (λ b. if b then live else s.run) tells.stops) steps
        (record {
          ordinal = ap (λ n. n + 1) (sym (count_is p s e.go g acting.there));
          kind = kind;
          printed = on.silent;
          operation = tells.operation;
          writes = tells.writes ∙ ap (λ (r : Touches). objects.Go e.go ∷ r.writes) (sym rows);
          reads = tells.reads ∙ once ∙ ap (λ (r : Touches). each_once (objects.Go e.go ∷ r.writes) (objects.Run ∷ r.reads)) (sym rows);
        })
        acting.running.stand (are_channels o) on.stand
        (λ j. record { run = run_of (changes.runs j); goroutines = on.own.is j; channels = contents_of (changes.channels j) })

    count_room : (did : Option Operation) (read : List Object) → Told did read [] false e.go c → HasRoom e.go c new
    count_room did read tells = own_room e.go c new (rw on.none (omega arith)) tells.own.channels

    -- the row of a step with no operation
    nil_row : row (state_in p s) e (code_report g None kinds.Length) ((state_in p s).goroutines e.go) None ≡ touches [] []
    nil_row = ap (λ o. row (state_in p s) e (code_report g None kinds.Length) (option_map (goroutine_of (frame_in p)) o) None) acting.there

    -- the items of a channel
    pub len_takes : (name : ChName) (x : Content) → task_of (lowered p) g ≡ gives (Wants (TakesLen (Some name))) → s.channels name ≡ Some x
        → length x.items ≡ n → c.kind ≡ kinds.Length
        → ReachesBeyond (Some (TakesLenOf name)) (objects.Gate name ∷ objects.Head name ∷ objects.Tail name ∷ []) [] false c
        → Takes p e (attempt p e) s c (contents_in new)
    len_takes name x task there count kind beyond =
        let here = acts_here p e number o acting in
        let read = objects.Gate name ∷ objects.Head name ∷ objects.Tail name ∷ [] in
        let arrives : arrived (lowered p) (Value (Int (pos (length x.items)))) g ≡ gives on.after =
        ap (λ n. arrived (lowered p) (Value (Int (pos n))) g) count ∙ on.is in
        count_takes (Some (TakesLenOf name)) read (told (Some (TakesLenOf name)) read [] false e.go c beyond on.none) kind
        (len_of_code (meaning p) p (lowered p) s e g here.f here.below name x on.after here.acts task plain there arrives) refl refl

    pub len_room : (name : ChName) (read : List Object) → ReachesBeyond (Some (TakesLenOf name)) read [] false c → HasRoom e.go c new
    len_room name read beyond = count_room (Some (TakesLenOf name)) read (told (Some (TakesLenOf name)) read [] false e.go c beyond on.none)

    -- its places
    pub cap_takes : (name : ChName) (x : Content) → task_of (lowered p) g ≡ gives (Wants (TakesCap (Some name))) → s.channels name ≡ Some x
        → x.capacity ≡ n → c.kind ≡ kinds.Length → ReachesBeyond (Some (TakesCapOf name)) (objects.Gate name ∷ []) [] false c
        → Takes p e (attempt p e) s c (contents_in new)
    cap_takes name x task there count kind beyond =
        let here = acts_here p e number o acting in
        let read = objects.Gate name ∷ [] in
        let arrives : arrived (lowered p) (Value (Int (pos x.capacity))) g ≡ gives on.after =
        ap (λ n. arrived (lowered p) (Value (Int (pos n))) g) count ∙ on.is in
        count_takes (Some (TakesCapOf name)) read (told (Some (TakesCapOf name)) read [] false e.go c beyond on.none) kind
        (cap_of_code (meaning p) p (lowered p) s e g here.f here.below name x on.after here.acts task plain there arrives) refl refl

    pub cap_room : (name : ChName) (read : List Object) → ReachesBeyond (Some (TakesCapOf name)) read [] false c → HasRoom e.go c new
    cap_room name read beyond = count_room (Some (TakesCapOf name)) read (told (Some (TakesCapOf name)) read [] false e.go c beyond on.none)

    pub nil_room : c.beyond ≡ None → HasRoom e.go c new
    nil_room beyond = count_room None [] (told_none e.go c beyond)

  -- how many items and places nil has
  module _ (c : Effect) (new : Objects) (changes : Counted 0 c new) (kind : c.kind ≡ kinds.Length) (beyond : c.beyond ≡ None) where
    pub nil_len_takes : task_of (lowered p) g ≡ gives (Wants (TakesLen None)) → Takes p e (attempt p e) s c (contents_in new)
    nil_len_takes task =
        let here = acts_here p e number o acting in
        let arrives = on 0 c new changes in
        count_takes 0 c new changes None [] (told_none e.go c beyond) kind
        (len_of_nil (meaning p) p (lowered p) s e g here.f here.below arrives.after here.acts task plain arrives.is) (nil_row 0 c new changes) refl

    pub nil_cap_takes : task_of (lowered p) g ≡ gives (Wants (TakesCap None)) → Takes p e (attempt p e) s c (contents_in new)
    nil_cap_takes task =
        let here = acts_here p e number o acting in
        let arrives = on 0 c new changes in
        count_takes 0 c new changes None [] (told_none e.go c beyond) kind
        (cap_of_nil (meaning p) p (lowered p) s e g here.f here.below arrives.after here.acts task plain arrives.is) (nil_row 0 c new changes) refl

  -- a count can arrive
  abbrev pub CanGoOn : ℕ → Type 0
  CanGoOn n = At (CanArrive (lowered p) (Value (Int (pos n)))) (seen_at o.goroutines number)

  goes_on : (n : ℕ) → ¬ (arrived (lowered p) (Value (Int (pos n))) g ≡ wrong) → CanGoOn n
  goes_on n right = can_arrive p e number o acting (Value (Int (pos n))) right (acting.counted.steps e.go g acting.there)

  -- the count of a channel, which is there, can arrive
  pub len_there : (name : ChName) → task_of (lowered p) g ≡ gives (Wants (TakesLen (Some name)))
      → (x : Content) × (s.channels name ≡ Some x) × CanGoOn (length x.items)
  len_there name task =
      let here = acts_here p e number o acting in
      let can = len_can_arrive (meaning p) p (lowered p) s e g here.f here.below name here.acts task plain (never_unsound p s acting.running e) in
      (can.0, can.1, goes_on (length can.0.items) can.2)

  pub cap_there : (name : ChName) → task_of (lowered p) g ≡ gives (Wants (TakesCap (Some name)))
      → (x : Content) × (s.channels name ≡ Some x) × CanGoOn x.capacity
  cap_there name task =
      let here = acts_here p e number o acting in
      let can = cap_can_arrive (meaning p) p (lowered p) s e g here.f here.below name here.acts task plain (never_unsound p s acting.running e) in
      (can.0, can.1, goes_on can.0.capacity can.2)

  -- the count of a nil channel can arrive
  abbrev nil_counted : Actor → Outcome Frame → rules.Attempt
  nil_counted a r = given a r (λ f. does a None None kinds.Length (onward a f) [])

  pub nil_len_there : task_of (lowered p) g ≡ gives (Wants (TakesLen None)) → CanGoOn 0
  nil_len_there task =
      let here = acts_here p e number o acting in
      let a = actor_of (frame_in p) p e g here.f here.below in
      let sound = rule_is_sound (meaning p) p (lowered p) s e g here.f here.below (TakesLen None) here.acts task refl plain
      (never_unsound p s acting.running e) in
      goes_on 0 (value_can_arrive (meaning p) p (lowered p) e g here.f here.below (Int (pos 0))
      (is_in (meaning p) p (lowered p) s e g here.f here.below here.acts)
      (λ is. sound (ap (λ r. leaf (state_of (frame_in p) s) (nil_counted a r)) is))).0

  pub nil_cap_there : task_of (lowered p) g ≡ gives (Wants (TakesCap None)) → CanGoOn 0
  nil_cap_there task =
      let here = acts_here p e number o acting in
      let a = actor_of (frame_in p) p e g here.f here.below in
      let sound = rule_is_sound (meaning p) p (lowered p) s e g here.f here.below (TakesCap None) here.acts task refl plain
      (never_unsound p s acting.running e) in
      goes_on 0 (value_can_arrive (meaning p) p (lowered p) e g here.f here.below (Int (pos 0))
      (is_in (meaning p) p (lowered p) s e g here.f here.below here.acts)
      (λ is. sound (ap (λ r. leaf (state_of (frame_in p) s) (nil_counted a r)) is))).0
