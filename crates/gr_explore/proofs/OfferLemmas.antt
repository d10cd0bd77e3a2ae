-- All possible events are among those that are offered.
use Rattle.std.proofs.Common.{◌≡◌, ℕ, true, List, [], ◌∷◌, Option, Some, None, option_map, refl, sym, ◌∙◌, ap, subst, inl, inr}
use Rattle.std.specs.List.Sorted.{IsPermutation}
use Rattle.gr_base.specs.declared.events.Event.{Event}
use Rattle.gr_causal.specs.Sequences.{In}
use Rattle.gr_base.specs.declared.names.ChName.{ChName}
use Rattle.gr_rules.specs.Operators.{same_channel}
use Rattle.gr_rules.specs.States.{same_go}
use Rattle.gr_laws.proofs.CellLemmas.{go_is, go_self, channel_is, channel_self}
use Rattle.gr_channels.specs.Channels.{Content}
use Rattle.gr_code.specs.Goroutines.{CodeGoroutine}
use Rattle.gr_refine.specs.Contents.{Contents}
use Rattle.gr_step.specs.Stores.{program_at, contents_at, IsRun}
use Rattle.gr_rollback.specs.declared.machine.Machine.{Machine}
use Rattle.gr_rollback.specs.Machines.{store_of, steps_of, IsMachine}
use Rattle.gr_search.specs.Going as search
use Rattle.gr_schedules.specs.Schedules.{schedules}
use Rattle.gr_schedules.specs.Choices.{all_choices, can_act}
use Rattle.gr_schedules.specs.Names.{AreAll, goroutines_begun, channels_made}
use Rattle.gr_schedules.proofs.ChoiceLemmas.{possible_events, in_all_choices, acts_there}
use Rattle.gr_schedules.proofs.NameLemmas.{all_named}
use Rattle.gr_explore.specs.declared.book.Book.{Book}
use Rattle.gr_explore.specs.Books.{Describes, goroutine_view, channel_view, channel_seen}
use Rattle.gr_explore.specs.Exploring.{origin_of, state_seen}
use Rattle.gr_explore.specs.Keeping.{names_of, has_name, goroutine_page, channel_page}
use Rattle.gr_explore.proofs.PageLemmas.{is_there, fit_unwritten}
use Rattle.gr_explore.proofs.NameLemmas.{in_other_order}

-- the store of a machine is that of a run
pub runs : (m : Machine) → IsMachine m → IsRun (store_of m)
runs m is = is.stands.holds.run

-- what is there has a name in the log
pub named : (m : Machine) → IsMachine m → AreAll (contents_at (store_of m)) ([] ∷ goroutines_begun (steps_of m)) (channels_made (steps_of m))
named m is =
    let h = is.stands.holds in
    all_named (program_at (store_of m)) h.begins h.begun.state (contents_at (store_of m)) (steps_of m) is.world.past.log h.kept

none_some : {A : Type 0} (a : A) → None ≡ Some a → ⊥
none_some a e = cc

to_search : {A : Type 0} (x : A) (xs : List A) → In x xs → search.In x xs
to_search x [] i = i
to_search x (y ∷ xs) i = elim i [ inl e ↦ inl e | inr j ↦ inr (to_search x xs j) ]

-- what is seen is there
pub was_some : {A B : Type 0} (f : A → B) (o : Option A) (y : B) → option_map f o ≡ Some y → (x : A) × (o ≡ Some x)
was_some f None y e = absurd (none_some y e)
was_some f (Some x) y e = (x, refl)

-- a goroutine that can act is there
there : (m : Machine) (g : List ℕ) → can_act (state_seen m) g ≡ true → (names : List (List ℕ)) → AreAll (contents_at (store_of m)) names (channels_made (steps_of m)) → In g names
there m g a names all =
    let seen = acts_there (state_seen m) g a in
    let x = was_some _ ((contents_at (store_of m)).goroutines g) seen.0 seen.1 in
    all.each_goroutine g x.0 x.1

-- by names of all that can act
pub all_offered_by : (m : Machine) (base : ℕ) → IsMachine m → (names : List (List ℕ)) → ((g : List ℕ) → can_act (state_seen m) g ≡ true → In g names) → (events : List Event)
    → events ≡ all_choices (program_at (store_of m)) (state_seen m) names → search.HasAll (schedules (origin_of m base)) (state_seen m) events
all_offered_by m base is names all events e event t next =
    let p = program_at (store_of m) in
    let running = (runs m is).running in
    let event_goes = possible_events p (state_seen m) t event running.program running.reached next in
    subst (search.In event) (sym e) (to_search event (all_choices p (state_seen m) names)
    (in_all_choices p (state_seen m) names event (all event.go event_goes.0) event_goes.0 event_goes.1))

-- by the names of the log, in another order
pub all_offered : (m : Machine) (base : ℕ) → IsMachine m → (names : List (List ℕ)) → IsPermutation ([] ∷ goroutines_begun (steps_of m)) names → (events : List Event)
    → events ≡ all_choices (program_at (store_of m)) (state_seen m) names → search.HasAll (schedules (origin_of m base)) (state_seen m) events
all_offered m base is names all =
    all_offered_by m base is names (λ g a. in_other_order same_go go_is go_self ([] ∷ goroutines_begun (steps_of m)) names all g
    (there m g a ([] ∷ goroutines_begun (steps_of m)) (named m is)))

-- the pages of a book have the name of each goroutine that can act
pub named_by_pages : (m : Machine) (b : Book) → Describes (program_at (store_of m)) (state_seen m) b → b.goroutines.changed.items ≡ [] → (g : List ℕ) → can_act (state_seen m) g ≡ true
    → In g (names_of b.goroutines.written.items)
named_by_pages m b d none g a =
    let seen = acts_there (state_seen m) g a in
    is_there same_go go_is go_self g (names_of b.goroutines.written.items) (λ h. none_some seen.0 (d.goroutines.others g (ap (has_name same_go g) none) h ∙ seen.1))

-- a book whose pages are not written yet
pub begun : (m : Machine) → IsMachine m → (b : Book) (gos : List (List ℕ)) (chs : List ChName) → IsPermutation ([] ∷ goroutines_begun (steps_of m)) gos → IsPermutation (channels_made (steps_of m)) chs
    → b.goroutines.written.items ≡ [] → b.goroutines.changed.items ≡ gos → b.channels.written.items ≡ [] → b.channels.changed.items ≡ chs → Describes (program_at (store_of m)) (state_seen m) b
begun m is b gos chs all_gos all_chs no_go go_names no_channel channel_names = record {
  goroutines = fit_unwritten same_go go_is go_self goroutine_page (goroutine_view (program_at (store_of m))) b.goroutines (state_seen m).goroutines gos no_go go_names
      (λ n out. no_goroutine n out (s.goroutines n) refl);
  channels = fit_unwritten same_channel channel_is channel_self channel_page channel_view b.channels (channel_seen (state_seen m)) chs no_channel channel_names
      (λ c out. no_channel_there c out (s.channels c) refl);
}
  where
    s : Contents
    s = contents_at (store_of m)

    no_goroutine : (n : List ℕ) → (In n gos → ⊥) → (o : Option CodeGoroutine) → s.goroutines n ≡ o → None ≡ (state_seen m).goroutines n
    no_goroutine n out None e = ap (goroutine_view (program_at (store_of m))) (sym e)
    no_goroutine n out (Some g) e =
        absurd (out (in_other_order same_go go_is go_self ([] ∷ goroutines_begun (steps_of m)) gos all_gos n ((named m is).each_goroutine n g e)))

    no_channel_there : (c : ChName) → (In c chs → ⊥) → (o : Option Content) → s.channels c ≡ o → channel_view None ≡ channel_seen (state_seen m) c
    no_channel_there c out None e = ap channel_view (sym e)
    no_channel_there c out (Some x) e =
        absurd (out (in_other_order same_channel channel_is channel_self (channels_made (steps_of m)) chs all_chs c ((named m is).each_channel c x e)))
