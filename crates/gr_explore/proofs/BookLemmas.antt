-- A book after steps forward and back, and the key that it gives.
use Rattle.std.proofs.Common.{◌≡◌, ℕ, Bool, true, false, if◌then◌else◌, List, [], ◌∷◌, ◌++◌, map, Option, Some, None, refl, sym, ◌∙◌, ap, subst}
use Rattle.std.specs.Option.{option_map_or}
use Rattle.gr_base.specs.declared.names.ChName.{ChName}
use Rattle.gr_causal.proofs.PathLemmas.{one_end}
use Rattle.gr_program.specs.Programs.{Program}
use Rattle.gr_rules.specs.Operators.{same_channel}
use Rattle.gr_rules.specs.States.{State, same_go, start}
use Rattle.gr_rules.specs.Steps.{machine}
use Rattle.gr_laws.specs.Reached.{Logged, IsRun}
use Rattle.gr_laws.proofs.CellLemmas.{go_is, go_self, channel_is, channel_self}
use Rattle.gr_refine.specs.Contents.{Contents}
use Rattle.gr_tables.specs.Back.{back_at}
use Rattle.gr_record.specs.Effects.{Effect}
use Rattle.gr_record.specs.Fews.{members}
use Rattle.gr_record.specs.Listings.{state_in}
use Rattle.gr_record.specs.Parts.{begun_in, made_in}
use Rattle.gr_record.specs.Records.{taken_back, go_undone, beyond}
use Rattle.gr_record.specs.declared.record.Beyond.{Beyond}
use Rattle.gr_record.proofs.KeptLemmas.{kept_is_run}
use Rattle.gr_step.specs.Kept.{Kept}
use Rattle.gr_step.specs.Record.{Record}
use Rattle.gr_step.specs.Stores.{contents_at}
use Rattle.gr_rollback.specs.declared.machine.Machine.{Machine}
use Rattle.gr_rollback.specs.Machines.{store_of, steps_of, Stands}
use Rattle.gr_rollback.specs.Pasts.{Timeline}
use Rattle.gr_rollback.proofs.Basics.{ends_same}
use Rattle.gr_rollback.proofs.KeptLemmas.{last_kept}
use Rattle.gr_keys.specs.Codes.{list_code}
use Rattle.gr_tables.specs.NamedChannels.{chan_undone}
use Rattle.gr_schedules.specs.Keys.{contents_listed, found, goroutine_entry_code, channel_entry_code, Listing, IsKey, run_number}
use Rattle.gr_schedules.specs.Matters.{matter}
use Rattle.gr_explore.specs.declared.book.Book.{Book}
use Rattle.gr_explore.specs.Exploring.{state_seen}
use Rattle.gr_explore.specs.Keeping.{goroutine_page, channel_page, has_name, pages_code, with_name, AreRight, IsCodeOfSeen}
use Rattle.gr_explore.specs.Books.{goroutines_noted, channels_noted, with_first, with_some, goroutine_view, channel_view, channel_seen, Apart, Describes}
use Rattle.gr_explore.proofs.PageLemmas.{both_false, none_with, none_with_first, none_with_some, turned, fit_noted}
use Rattle.gr_explore.proofs.ListingLemmas.{listed, listed_code, found_seen}
use Rattle.gr_rollback.proofs.Basics.{neither}

-- taking changes of other names back changes nothing
module _ {K U X : Type 0} (equal : K → K → Bool) (is : (a b : K) → equal a b ≡ true → a ≡ b) (itself : (a : K) → equal a a ≡ true) (undo : U → Option X → Option X) where
  none_back : (es : List (K × U)) (q : K) (x : Option X) → has_name equal q (map (λ (e : K × U). e.0) es) ≡ false → back_at equal undo es q x ≡ x
  none_back [] q x h = refl
  none_back (e ∷ es) q x h =
      let o = neither (equal e.0 q) (has_name equal q (map (λ (e : K × U). e.0) es)) h in
      ap (λ b. if b then undo e.1 (back_at equal undo es q x) else back_at equal undo es q x) (turned equal is itself e.0 q o.0) ∙ none_back es q x o.1

  -- nor does it where one is gone that has another name
  pub untouched : (o : Option K) (es : List (K × U)) (q : K) (x : Option X) → ((m : K) → o ≡ Some m → equal m q ≡ false) → has_name equal q (map (λ (e : K × U). e.0) es) ≡ false
      → (if option_map_or (equal q) o false then None else back_at equal undo es q x) ≡ x
  untouched None es q x f h = none_back es q x h
  untouched (Some m) es q x f h =
      ap (λ b. if b then None else back_at equal undo es q x) (turned equal is itself m q (f m refl)) ∙ none_back es q x h

-- what is not noted of a step is as it was
pub goroutine_kept : (go : List ℕ) (c : Effect) (t : Contents) (n : List ℕ) (names : List (List ℕ))
    → has_name same_go n (beyond (with_name same_go go names) (λ b. with_some same_go (begun_in b) (with_first same_go (members b.met) (with_name same_go go names))) c) ≡ false
    → (taken_back go c t).goroutines n ≡ t.goroutines n
goroutine_kept go c t n names h = by c.beyond h
  where
    no : (m : List ℕ) → None ≡ Some m → ⊥
    no m e = cc

    by : (o : Option Beyond) → has_name same_go n (option_map_or (λ b. with_some same_go (begun_in b) (with_first same_go (members b.met) (with_name same_go go names))) o (with_name same_go go names)) ≡ false
        → (taken_back go (record c { beyond = o }) t).goroutines n ≡ t.goroutines n
    by None h =
        let a = none_with same_go go_is go_self n go names h in
        untouched same_go go_is go_self go_undone None ((go, c.own) ∷ []) n (t.goroutines n) (λ m e. absurd (no m e)) (both_false (same_go go n) false a.0 refl)
    by (Some b) h =
        let s = none_with_some same_go go_is go_self n (begun_in b) (with_first same_go (members b.met) (with_name same_go go names)) h in
        let f = none_with_first same_go go_is go_self n (members b.met) (with_name same_go go names) s.1 in
        let a = none_with same_go go_is go_self n go names f.1 in
        untouched same_go go_is go_self go_undone (begun_in b) ((go, c.own) ∷ members b.met) n (t.goroutines n) s.0 (both_false (same_go go n) _ a.0 f.0)

pub channel_kept : (go : List ℕ) (c : Effect) (t : Contents) (n : ChName) (names : List ChName)
    → has_name same_channel n (beyond names (λ b. with_some same_channel (made_in b) (with_first same_channel (members b.channels) names)) c) ≡ false
    → (taken_back go c t).channels n ≡ t.channels n
channel_kept go c t n names h = by c.beyond h
  where
    by : (o : Option Beyond) → has_name same_channel n (option_map_or (λ b. with_some same_channel (made_in b) (with_first same_channel (members b.channels) names)) o names) ≡ false
        → (taken_back go (record c { beyond = o }) t).channels n ≡ t.channels n
    by None h = refl
    by (Some b) h =
        let s = none_with_some same_channel channel_is channel_self n (made_in b) (with_first same_channel (members b.channels) names) h in
        let f = none_with_first same_channel channel_is channel_self n (members b.channels) names s.1 in
        untouched same_channel channel_is channel_self chan_undone (made_in b) (members b.channels) n (t.channels n) s.0 f.0

-- a step changed nothing but what is noted of it
pub apart_by : (p : Program) (r : Record) (t : Contents) → Apart r (state_in p (taken_back r.id.go r.change t)) (state_in p t)
apart_by p r t = record {
  goroutines = λ n names h. ap (goroutine_view p) (goroutine_kept r.id.go r.change t n names h);
  channels = λ c names h. ap channel_view (channel_kept r.id.go r.change t c names h);
}

-- so it is with the last step of a machine, and the state before it
pub apart_at_last : (p : Program) (w : Timeline p) (m : Machine) → Stands p w m → (front : List Record) (r : Record) → steps_of m ≡ front ++ r ∷ []
    → (log : List (Logged p)) (k : Logged p) → w.past.log ≡ log ++ k ∷ [] → (s : State) → IsRun p log s → Apart r s (state_seen m)
apart_at_last p w m stands front r is log k log_is s run =
    let h = stands.holds in
    let t = contents_at (store_of m) in
    let last = last_kept p h.begins front r w.past.log t (subst (λ rs. Kept p h.begins rs w.past.log t) is h.kept) in
    let before : last.before ≡ log = (ends_same last.before log last.last k (sym last.log_is ∙ log_is)).0 in
    let led : IsRun p log (state_in p last.mid) = subst (λ l. IsRun p l (state_in p last.mid)) before (kept_is_run p h.begins last.mid front last.before h.begun.state last.kept) in
    let there : state_in p last.mid ≡ s = one_end (machine p) (start p) (state_in p last.mid) s log led run in
    let back : taken_back r.id.go r.change t ≡ last.mid = last.tells.is.takes.back in
    subst (λ q. Apart r s (state_in q t)) (sym h.program) (subst (λ x. Apart r x (state_in p t)) (ap (state_in p) back ∙ there) (apart_by p r t))

pub apart_itself : (r : Record) (s : State) → Apart r s s
apart_itself r s = record { goroutines = λ n names h. refl; channels = λ c names h. refl }

pub apart_turned : (r : Record) (s t : State) → Apart r s t → Apart r t s
apart_turned r s t a = record { goroutines = λ n names h. sym (a.goroutines n names h); channels = λ c names h. sym (a.channels c names h) }

-- a book after a step was noted
module _ (p : Program) (s t : State) (r : Record) (apart : Apart r s t) where
  pub described : (old new : Book) → new.goroutines.written ≡ old.goroutines.written → new.goroutines.changed.items ≡ goroutines_noted r old.goroutines.changed.items
      → new.channels.written ≡ old.channels.written → new.channels.changed.items ≡ channels_noted r old.channels.changed.items → Describes p s old → Describes p t new
  described old new gw gc cw chc d = record {
    goroutines = fit_noted same_go go_is go_self goroutine_page (goroutine_view p) old.goroutines new.goroutines s.goroutines t.goroutines gw
        (λ n h. let k : has_name same_go n (goroutines_noted r old.goroutines.changed.items) ≡ false = sym (ap (has_name same_go n) gc) ∙ h in
        (goroutines_before n k, apart.goroutines n old.goroutines.changed.items k)) d.goroutines;
    channels = fit_noted same_channel channel_is channel_self channel_page channel_view old.channels new.channels (channel_seen s) (channel_seen t) cw
        (λ n h. let k : has_name same_channel n (channels_noted r old.channels.changed.items) ≡ false = sym (ap (has_name same_channel n) chc) ∙ h in
        (channels_before n k, apart.channels n old.channels.changed.items k)) d.channels;
  }
    where
      goroutines_before : (n : List ℕ) → has_name same_go n (goroutines_noted r old.goroutines.changed.items) ≡ false → has_name same_go n old.goroutines.changed.items ≡ false
      goroutines_before n h = by r.change.beyond h
        where
          by : (o : Option Beyond) → has_name same_go n (option_map_or (λ b. with_some same_go (begun_in b) (with_first same_go (members b.met) (with_name same_go r.id.go old.goroutines.changed.items))) o (with_name same_go r.id.go old.goroutines.changed.items)) ≡ false
              → has_name same_go n old.goroutines.changed.items ≡ false
          by None h = (none_with same_go go_is go_self n r.id.go old.goroutines.changed.items h).1
          by (Some b) h =
              let s = none_with_some same_go go_is go_self n (begun_in b) (with_first same_go (members b.met) (with_name same_go r.id.go old.goroutines.changed.items)) h in
              let f = none_with_first same_go go_is go_self n (members b.met) (with_name same_go r.id.go old.goroutines.changed.items) s.1 in
              (none_with same_go go_is go_self n r.id.go old.goroutines.changed.items f.1).1

      channels_before : (n : ChName) → has_name same_channel n (channels_noted r old.channels.changed.items) ≡ false → has_name same_channel n old.channels.changed.items ≡ false
      channels_before n h = by r.change.beyond h
        where
          by : (o : Option Beyond) → has_name same_channel n (option_map_or (λ b. with_some same_channel (made_in b) (with_first same_channel (members b.channels) old.channels.changed.items)) o old.channels.changed.items) ≡ false
              → has_name same_channel n old.channels.changed.items ≡ false
          by None h = h
          by (Some b) h =
              let s = none_with_some same_channel channel_is channel_self n (made_in b) (with_first same_channel (members b.channels) old.channels.changed.items) h in
              (none_with_first same_channel channel_is channel_self n (members b.channels) old.channels.changed.items s.1).1

-- the key that a book gives
pub key_by_book : (p : Program) (s : Contents) (b : Book) → Describes p (state_in p s) b → b.goroutines.changed.items ≡ [] → b.channels.changed.items ≡ [] → (key : List ℕ)
    → key ≡ run_number s.run ∷ ((pages_code b.goroutines.written.items ++ 0 ∷ []) ++ (pages_code b.channels.written.items ++ 0 ∷ [])) → IsKey p key (matter (state_in p s))
key_by_book p s b d no_goroutine no_channel key is =
    let gos = b.goroutines.written.items in
    let chs = b.channels.written.items in
    let gos_right : AreRight same_go (λ n bytes. IsCodeOfSeen goroutine_page (goroutine_view p) ((state_in p s).goroutines n) n bytes) [] gos =
    subst (λ names. AreRight same_go (λ n bytes. IsCodeOfSeen goroutine_page (goroutine_view p) ((state_in p s).goroutines n) n bytes) names gos) no_goroutine d.goroutines.right in
    let chs_right : AreRight same_channel (λ n bytes. IsCodeOfSeen channel_page channel_view (channel_seen (state_in p s) n) n bytes) [] chs =
    subst (λ names. AreRight same_channel (λ n bytes. IsCodeOfSeen channel_page channel_view (channel_seen (state_in p s) n) n bytes) names chs) no_channel d.channels.right in
    let gos_listed = listed same_go go_is go_self goroutine_entry_code goroutine_page (λ n. refl) (λ n x. refl) (goroutine_view p) (state_in p s).goroutines gos gos_right in
    let chs_listed = listed same_channel channel_is channel_self channel_entry_code channel_page (λ n. refl) (λ n x. refl) channel_view (channel_seen (state_in p s)) chs chs_right in
    let gos_code = listed_code same_go go_is go_self goroutine_entry_code goroutine_page (λ n. refl) (λ n x. refl) (goroutine_view p) (state_in p s).goroutines gos gos_right in
    let chs_code = listed_code same_channel channel_is channel_self channel_entry_code channel_page (λ n. refl) (λ n x. refl) channel_view (channel_seen (state_in p s)) chs chs_right in
    let g : (n : List ℕ) → goroutine_view p (found same_go gos_listed n) ≡ (state_in p s).goroutines n =
    found_seen same_go go_is go_self goroutine_entry_code goroutine_page (λ n. refl) (λ n x. refl) (goroutine_view p) (state_in p s).goroutines gos gos_right
    (λ n h. d.goroutines.others n (ap (has_name same_go n) no_goroutine) h) in
    let c : (n : ChName) → channel_view (found same_channel chs_listed n) ≡ channel_seen (state_in p s) n =
    found_seen same_channel channel_is channel_self channel_entry_code channel_page (λ n. refl) (λ n x. refl) channel_view (channel_seen (state_in p s)) chs chs_right
    (λ n h. d.channels.others n (ap (has_name same_channel n) no_channel) h) in
    let l : Listing = record { run = s.run; goroutines = gos_listed; channels = chs_listed } in
    let same : state_in p s ≡ state_in p (contents_listed l) =
    λ i. record { run = s.run; goroutines = λ n. sym (g n) i; gates = λ x. (sym (c x) i).0; tails = λ x. (sym (c x) i).1; heads = λ x. (sym (c x) i).2; slots = λ x. (sym (c x) i).3 } in
    record {
      listing = l;
      bytes = is ∙ ap (λ code. run_number s.run ∷ (code ++ (pages_code chs ++ 0 ∷ []))) gos_code
          ∙ ap (λ code. run_number s.run ∷ (list_code goroutine_entry_code gos_listed ++ code)) chs_code;
      is = ap matter same;
    }
