-- Of two steps that do not conflict the first goes back behind the second.
use Rattle.std.proofs.Common.{◌≡◌, ◌⊎◌, ℕ, true, false, if◌then◌else◌, List, [], Option, Some, None, refl, sym, ap, subst, ◌∙◌, inl, inr}
use Rattle.std.specs.List.{list_any}
use Rattle.std.proofs.lemmas.Bool.{cases_Bool}
use Rattle.gr_base.specs.declared.names.ChName.{ChName}
use Rattle.gr_base.specs.declared.objects.Object.{Object}
use Rattle.gr_base.specs.declared.objects.Object.TheVariants as objects
use Rattle.gr_channels.specs.declared.changes.ChanUndo.{ChanUndo}
use Rattle.gr_channels.specs.Channels.{Content, IsChannel}
use Rattle.gr_channels.specs.Objects.{Part}
use Rattle.gr_program.specs.Programs.{Program}
use Rattle.gr_rules.specs.States.{live, same}
use Rattle.gr_refine.specs.Contents.{Contents}
use Rattle.gr_refine.specs.Standing.{ContentsStand}
use Rattle.gr_refine.specs.TakingBack.{part_of, all_undone, AllFit, any_written, ChannelBack, untouched, changed, unmade}
use Rattle.gr_lower.specs.Lowered.{lowered, meaning}
use Rattle.gr_tables.specs.NamedChannels.{chan_back}
use Rattle.gr_record.specs.Conflicts.{written_by, touched_by}
use Rattle.gr_record.specs.declared.record.Record.{Record}
use Rattle.gr_record.specs.Records.{stops, goroutines_changed, channels_changed, made_by, is_channel, GoesFit, taken_back, CanGoBack}
use Rattle.gr_record.specs.Within.{IsAmong, IsUnused, ChangesWithin}
use Rattle.gr_record.proofs.BackLemmas.{go_after, channel_after, changes_of, after_none, go_stays, not_made, made_is_new, not_changed, after_is, channel_stays}
use Rattle.gr_record.proofs.ContentLemmas.{first_back, second_back, first_writes, second_writes, either_order, same_capacity}
use Rattle.gr_record.proofs.NamedLemmas.{goes_fit_alike, back_of_some, back_of_none, fits_at, none_changed, fit_all}
use Rattle.gr_record.proofs.RecordLemmas.{Apart}

some_is : {X : Type 0} {x y : X} → Some x ≡ Some y → x ≡ y
some_is {X} {x} h = ap (λ o. elim o [ Some z ↦ z | None ↦ x ]) h

none_not : {X : Type 0} {x : X} → None ≡ Some x → ⊥
none_not e = cc

among_or_not : (o : Object) (os : List Object) → (IsAmong o os) ⊎ (IsAmong o os → ⊥)
among_or_not o os = elim (cases_Bool (list_any (same o) os)) [ inl t ↦ inl t | inr f ↦ inr (λ t. let no : true ≡ false = sym t ∙ f in cc) ]

-- The step of a led from s to m, and that of b from m to t; they do not conflict, and neither ended or stopped the program.
pub record AreNeighbours (s m t : Contents) (a b : Record) : Type 0 where
  pub wa : ChangesWithin a.id.go a.change m
  pub wb : ChangesWithin b.id.go b.change t
  pub back_a : taken_back a.id.go a.change m ≡ s
  pub back_b : taken_back b.id.go b.change t ≡ m
  pub fits_a : CanGoBack a.id.go a.change m
  pub fits_b : CanGoBack b.id.go b.change t
  pub apart : Apart a b
  pub touches_a : (o : Object) → IsAmong o (written_by a) → IsAmong o (touched_by a)
  pub touches_b : (o : Object) → IsAmong o (written_by b) → IsAmong o (touched_by b)
  pub first_runs : m.run ≡ s.run
  pub second_runs : t.run ≡ m.run

module _ (s m t : Contents) (a b : Record) (near : AreNeighbours s m t a b) where
  open near use {wa, wb, back_a, back_b, fits_a, fits_b, apart, touches_a, touches_b, first_runs, second_runs}

  -- the first taken back behind the second
  abbrev pub u : Contents
  u = taken_back a.id.go a.change t

  -- goroutines: no two steps wrote the same
  only_first : (q : List ℕ) → IsAmong (objects.Go q) (written_by a) → IsAmong (objects.Go q) (written_by b) → ⊥
  only_first q h k = apart.first (objects.Go q) h (touches_b (objects.Go q) k)

  go_first : (q : List ℕ) → go_after a q (m.goroutines q) ≡ s.goroutines q
  go_first q = ap (λ (c : Contents). c.goroutines q) back_a

  go_second : (q : List ℕ) → go_after b q (t.goroutines q) ≡ m.goroutines q
  go_second q = ap (λ (c : Contents). c.goroutines q) back_b

  pub first_go_stands : (q : List ℕ) → IsAmong (objects.Go q) (written_by a) → t.goroutines q ≡ m.goroutines q
  first_go_stands q h = sym (go_stays b t wb q (t.goroutines q) (only_first q h)) ∙ go_second q

  pub go_is_back : (q : List ℕ) → IsAmong (objects.Go q) (written_by a) → u.goroutines q ≡ s.goroutines q
  go_is_back q h = ap (go_after a q) (first_go_stands q h) ∙ go_first q

  pub go_is_kept : (q : List ℕ) → (IsAmong (objects.Go q) (written_by a) → ⊥) → u.goroutines q ≡ t.goroutines q
  go_is_kept q out = go_stays a m wa q (t.goroutines q) out

  pub gos_back : (q : List ℕ) → go_after b q (u.goroutines q) ≡ s.goroutines q
  gos_back q = elim (among_or_not (objects.Go q) (written_by b)) [
    | inl h ↦
        let out : IsAmong (objects.Go q) (written_by a) → ⊥ = λ k. only_first q k h in
        ap (go_after b q) (go_is_kept q out) ∙ go_second q ∙ sym (go_stays a m wa q (m.goroutines q) out) ∙ go_first q
    | inr out ↦
        go_stays b t wb q (u.goroutines q) out ∙ ap (go_after a q) (sym (go_stays b t wb q (t.goroutines q) out) ∙ go_second q) ∙ go_first q
  ]

  pub goes_fit_first : GoesFit (goroutines_changed a.id.go a.change) t.goroutines
  goes_fit_first =
      goes_fit_alike (goroutines_changed a.id.go a.change) (written_by a) m.goroutines t.goroutines wa.goroutines first_go_stands fits_a.goroutines

  pub goes_fit_second : GoesFit (goroutines_changed b.id.go b.change) u.goroutines
  goes_fit_second =
      goes_fit_alike (goroutines_changed b.id.go b.change) (written_by b) t.goroutines u.goroutines wb.goroutines
      (λ q h. go_is_kept q (λ k. only_first q k h)) fits_b.goroutines

  -- what becomes of one channel
  first_channel : (c : ChName) → channel_after a c (m.channels c) ≡ s.channels c
  first_channel c = ap (λ (x : Contents). x.channels c) back_a

  second_channel : (c : ChName) → channel_after b c (t.channels c) ≡ m.channels c
  second_channel c = ap (λ (x : Contents). x.channels c) back_b

  pub record OneChannel (c : ChName) : Type 0 where
    pub back : channel_after b c (u.channels c) ≡ s.channels c
    pub second_fits : (x : Content) → u.channels c ≡ Some x → AllFit (changes_of b c) x
    pub second_none : u.channels c ≡ None → changes_of b c ≡ []
    pub first_fits : (x : Content) → t.channels c ≡ Some x → AllFit (changes_of a c) x
    pub first_none : t.channels c ≡ None → changes_of a c ≡ []
    pub first_parts : (x : Content) (q : Part) → t.channels c ≡ Some x → any_written (changes_of a c) x q ≡ true → IsAmong (part_of c q) (written_by a)
    pub second_parts : (x : Content) (q : Part) → u.channels c ≡ Some x → any_written (changes_of b c) x q ≡ true → IsAmong (part_of c q) (written_by b)
    pub valid : (x : Content) → u.channels c ≡ Some x → IsChannel x
    pub taken : ChannelBack (written_by a) c (s.channels c) (m.channels c) (t.channels c) (u.channels c)

  module _ (c : ChName) where
    -- the second wrote its gate, so the first did not touch it
    module _ (gate : IsAmong (objects.Gate c) (written_by b)) where
      away : IsAmong (objects.Gate c) (touched_by a) → ⊥
      away h = apart.second (objects.Gate c) gate h

      unchanged : changes_of a c ≡ []
      unchanged = not_changed a m wa c away

      stays : (x : Option Content) → channel_after a c x ≡ x
      stays x = channel_stays a m wa c x (not_made a m wa c (λ h. away (touches_a (objects.Gate c) h))) unchanged

      second_there : (o : Option Content) → u.channels c ≡ o → t.channels c ≡ o
      second_there o is = sym (stays (t.channels c)) ∙ is

      by_second : OneChannel c
      by_second = record {
        back = ap (channel_after b c) (stays (t.channels c)) ∙ second_channel c ∙ sym (stays (m.channels c)) ∙ first_channel c;
        second_fits = λ x is. fits_at (channels_changed b.change) t.channels c x (second_there (Some x) is) fits_b.channels;
        second_none = λ is. none_changed (channels_changed b.change) t.channels c (second_there None is) fits_b.channels;
        first_fits = λ x is. subst {_, _} (λ l. AllFit l x) (sym unchanged) tt;
        first_none = λ is. unchanged;
        first_parts = λ x q is w. absurd (let no : false ≡ true = sym (ap (λ l. any_written l x q) unchanged) ∙ w in cc);
        second_parts = λ x q is w. wb.parts c x q (second_there (Some x) is) w;
        valid = λ x is. wb.valid c x (second_there (Some x) is);
        taken = untouched (sym (sym (stays (m.channels c)) ∙ first_channel c)) (stays (t.channels c));
      }

    -- the second did not write its gate
    module _ (gate : IsAmong (objects.Gate c) (written_by b) → ⊥) where
      not_by_second : is_channel c (made_by b.change) ≡ false
      not_by_second = not_made b t wb c gate

      middle_is : m.channels c ≡ chan_back (channels_changed b.change) c (t.channels c)
      middle_is = sym (second_channel c) ∙ after_is b t wb c (t.channels c) not_by_second

      -- a channel whose gate the second did not write, and which is not there
      module _ (none : t.channels c ≡ None) where
        middle_none : m.channels c ≡ None
        middle_none = middle_is ∙ ap (chan_back (channels_changed b.change) c) none ∙ back_of_none (channels_changed b.change) c

        last_none : u.channels c ≡ None
        last_none = ap (channel_after a c) none ∙ after_none a c

        start_none : s.channels c ≡ None
        start_none = sym (first_channel c) ∙ ap (channel_after a c) middle_none ∙ after_none a c

        by_none : OneChannel c
        by_none = record {
          back = ap (channel_after b c) last_none ∙ after_none b c ∙ sym start_none;
          second_fits = λ x is. absurd (none_not (sym last_none ∙ is));
          second_none = λ is. none_changed (channels_changed b.change) t.channels c none fits_b.channels;
          first_fits = λ x is. absurd (none_not (sym none ∙ is));
          first_none = λ is. none_changed (channels_changed a.change) m.channels c middle_none fits_a.channels;
          first_parts = λ x q is w. absurd (none_not (sym none ∙ is));
          second_parts = λ x q is w. absurd (none_not (sym last_none ∙ is));
          valid = λ x is. absurd (none_not (sym last_none ∙ is));
          taken = untouched (start_none ∙ sym middle_none) (last_none ∙ sym none);
        }

      -- a channel whose gate the second did not write, and which is there
      module _ (z : Content) (there : t.channels c ≡ Some z) where
        abbrev us : List ChanUndo
        us = changes_of a c

        abbrev vs : List ChanUndo
        vs = changes_of b c

        abbrev y : Content
        y = all_undone vs z

        middle_there : m.channels c ≡ Some y
        middle_there = middle_is ∙ ap (chan_back (channels_changed b.change) c) there ∙ back_of_some (channels_changed b.change) c z

        valid_z : IsChannel z
        valid_z = wb.valid c z there

        fits_z : AllFit vs z
        fits_z = fits_at (channels_changed b.change) t.channels c z there fits_b.channels

        fits_y : AllFit us y
        fits_y = fits_at (channels_changed a.change) m.channels c y middle_there fits_a.channels

        other_parts : (q : Part) → any_written us y q ≡ true → any_written vs z q ≡ true → ⊥
        other_parts q h k = apart.first (part_of c q) (wa.parts c y q middle_there h) (touches_b (part_of c q) (wb.parts c z q there k))

        first_fit : (x : Content) → t.channels c ≡ Some x → AllFit us x
        first_fit x is = subst {_, _} (λ k. AllFit us k) (some_is (sym there ∙ is)) (first_back us vs z valid_z fits_z fits_y other_parts).fits

        first_part : (x : Content) (q : Part) → t.channels c ≡ Some x → any_written us x q ≡ true → IsAmong (part_of c q) (written_by a)
        first_part x q is w = wa.parts c y q middle_there
            (sym (first_writes us vs z valid_z fits_z fits_y other_parts q) ∙ ap (λ k. any_written us k q) (some_is (sym there ∙ is)) ∙ w)

        -- the first made it
        module _ (made : is_channel c (made_by a.change) ≡ true) where
          new : IsAmong (objects.Gate c) (written_by a) × IsUnused (m.channels c)
          new = made_is_new a m wa c made

          unchanged_by_second : vs ≡ []
          unchanged_by_second = not_changed b t wb c (λ h. apart.first (objects.Gate c) new.0 h)

          as_middle : t.channels c ≡ m.channels c
          as_middle = sym (channel_stays b t wb c (t.channels c) not_by_second unchanged_by_second) ∙ second_channel c

          gone : (x : Option Content) → channel_after a c x ≡ None
          gone x = ap (λ b. if b then None else chan_back (channels_changed a.change) c x) made

          by_made : OneChannel c
          by_made = record {
            back = ap (channel_after b c) (gone (t.channels c)) ∙ after_none b c ∙ sym (gone (m.channels c)) ∙ first_channel c;
            second_fits = λ x is. absurd (none_not (sym (gone (t.channels c)) ∙ is));
            second_none = λ is. unchanged_by_second;
            first_fits = first_fit;
            first_none = λ is. absurd (none_not (sym is ∙ there));
            first_parts = first_part;
            second_parts = λ x q is w. absurd (none_not (sym (gone (t.channels c)) ∙ is));
            valid = λ x is. absurd (none_not (sym (gone (t.channels c)) ∙ is));
            taken = unmade new.1.0 (sym (first_channel c) ∙ gone (m.channels c)) (gone (t.channels c)) (as_middle ∙ new.1.1) new.1.2 new.1.3 new.0;
          }

        -- neither made it
        module _ (not_by_first : is_channel c (made_by a.change) ≡ false) where
          abbrev w : Content
          w = all_undone us z

          last_there : u.channels c ≡ Some w
          last_there = after_is a m wa c (t.channels c) not_by_first ∙ ap (chan_back (channels_changed a.change) c) there
              ∙ back_of_some (channels_changed a.change) c z

          start_there : s.channels c ≡ Some (all_undone us y)
          start_there = sym (first_channel c) ∙ after_is a m wa c (m.channels c) not_by_first ∙ ap (chan_back (channels_changed a.change) c) middle_there
              ∙ back_of_some (channels_changed a.change) c y

          second_part : (x : Content) (q : Part) → u.channels c ≡ Some x → any_written vs x q ≡ true → IsAmong (part_of c q) (written_by b)
          second_part x q is h = wb.parts c z q there
              (sym (second_writes us vs z valid_z fits_z fits_y other_parts q) ∙ ap (λ k. any_written vs k q) (some_is (sym last_there ∙ is)) ∙ h)

          by_both : OneChannel c
          by_both = record {
            back = after_is b t wb c (u.channels c) not_by_second ∙ ap (chan_back (channels_changed b.change) c) last_there
                ∙ back_of_some (channels_changed b.change) c w ∙ ap Some (either_order us vs z valid_z fits_z fits_y other_parts) ∙ sym start_there;
            second_fits = λ x is. subst {_, _} (λ k. AllFit vs k) (some_is (sym last_there ∙ is)) (second_back us vs z valid_z fits_z fits_y other_parts).fits;
            second_none = λ is. absurd (none_not (sym is ∙ last_there));
            first_fits = first_fit;
            first_none = λ is. absurd (none_not (sym is ∙ there));
            first_parts = first_part;
            second_parts = second_part;
            valid = λ x is. subst {_, _} IsChannel (some_is (sym last_there ∙ is)) (first_back us vs z valid_z fits_z fits_y other_parts).valid;
            taken = changed us y z middle_there there start_there last_there (wa.valid c y middle_there) fits_y valid_z (sym (same_capacity vs z))
                (λ q h. wa.parts c y q middle_there h);
          }

        by_there : OneChannel c
        by_there = elim (cases_Bool (is_channel c (made_by a.change))) [ inl is ↦ by_made is | inr is ↦ by_both is ]

      by_first : OneChannel c
      by_first = by (t.channels c) refl
        where
          by : (o : Option Content) → t.channels c ≡ o → OneChannel c
          by None is = by_none is
          by (Some z) is = by_there z is

    pub one_channel : OneChannel c
    one_channel = elim (among_or_not (objects.Gate c) (written_by b)) [ inl h ↦ by_second h | inr h ↦ by_first h ]

  -- both can go back, and stay within what they touched
  pub first_goes_back : CanGoBack a.id.go a.change t
  first_goes_back = record {
    goroutines = goes_fit_first;
    channels = fit_all t.channels (channels_changed a.change) (λ c. ((one_channel c).first_fits, (one_channel c).first_none));
    frames = fits_a.frames;
  }

  pub second_goes_back : CanGoBack b.id.go b.change u
  second_goes_back = record {
    goroutines = goes_fit_second;
    channels = fit_all u.channels (channels_changed b.change) (λ c. ((one_channel c).second_fits, (one_channel c).second_none));
    frames = fits_b.frames;
  }

  gate_stands : (c : ChName) → IsAmong (objects.Gate c) (written_by a) → t.channels c ≡ m.channels c
  gate_stands c h =
      let away : IsAmong (objects.Gate c) (touched_by b) → ⊥ = λ k. apart.first (objects.Gate c) h k in
      sym (channel_stays b t wb c (t.channels c) (not_made b t wb c (λ k. away (touches_b (objects.Gate c) k))) (not_changed b t wb c away))
      ∙ second_channel c

  pub first_within : ChangesWithin a.id.go a.change t
  first_within = record {
    goroutines = wa.goroutines;
    begun = wa.begun;
    made = λ q is. let h = wa.made q is in (h.0, subst {_, _} IsUnused (sym (gate_stands q h.0)) h.1);
    gates = wa.gates;
    parts = λ c x q is h. (one_channel c).first_parts x q is h;
    valid = wb.valid;
  }

  pub second_within : ChangesWithin b.id.go b.change u
  second_within = record {
    goroutines = wb.goroutines;
    begun = wb.begun;
    made = λ q is. let h = wb.made q is in (h.0, subst {_, _} IsUnused (sym (stays q h.0 (t.channels q))) h.1);
    gates = wb.gates;
    parts = λ c x q is h. (one_channel c).second_parts x q is h;
    valid = λ c x is. (one_channel c).valid x is;
  }

  -- the frames of all goroutines stand
  pub still_stand : (p : Program) → ContentsStand (meaning p) (lowered p) s → ContentsStand (meaning p) (lowered p) t → ContentsStand (meaning p) (lowered p) u
  still_stand p stand_s stand_t q g is = elim (among_or_not (objects.Go q) (written_by a)) [
    | inl h ↦ stand_s q g (sym (go_is_back q h) ∙ is)
    | inr out ↦ stand_t q g (sym (go_is_kept q out) ∙ is)
  ]

  -- the second goes back to where the first began
  pub run_is_kept : u.run ≡ t.run
  run_is_kept = elim (cases_Bool (stops a.change)) [
    | inl is ↦ ap (λ b. if b then live else t.run) is ∙ sym (ap (λ b. if b then live else m.run) is) ∙ ap (λ (x : Contents). x.run) back_a
        ∙ sym first_runs ∙ sym second_runs
    | inr is ↦ ap (λ b. if b then live else t.run) is
  ]

  pub second_back_at_start : taken_back b.id.go b.change u ≡ s
  second_back_at_start =
      let run = ap (λ r. if stops b.change then live else r) run_is_kept ∙ ap (λ (x : Contents). x.run) back_b ∙ first_runs in
      λ i. record { run = run i; goroutines = λ q. gos_back q i; channels = λ c. (one_channel c).back i }
