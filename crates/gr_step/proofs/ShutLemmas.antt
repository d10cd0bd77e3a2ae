-- What a store contains after a channel was closed, on which goroutines waited.
use Rattle.std.proofs.Common.{◌≡◌, ℕ, fold, Bool, true, false, not, ◌||◌, ◌&&◌, if◌then◌else◌, List, [], ◌∷◌, ◌++◌, Option, Some, None, option_map, refl, sym, ap, subst, ◌∙◌, inl, inr}
use Rattle.std.specs.List.{list_any, list_all, flat_map, cons_option}
use Rattle.std.proofs.lemmas.List.Folds.{list_any-append}
use Rattle.std.proofs.lemmas.Bool.{cases_Bool, and_parts, and_from, or_parts, or_from}
use Rattle.gr_base.specs.declared.names.ChName.{ChName}
use Rattle.gr_causal.specs.Sequences.{In}
use Rattle.gr_channels.specs.declared.waiter.Waiter.{Waiter}
use Rattle.gr_channels.specs.Channels.{Content}
use Rattle.gr_channels.specs.Objects.{gate_of}
use Rattle.gr_channels.specs.Queues.{is_of, others}
use Rattle.gr_program.specs.Programs.{Program}
use Rattle.gr_rules.specs.Actors.{channels_but, without}
use Rattle.gr_rules.specs.Goroutines.{Wait, ToSend, ToReceive, channel_of, Status, ready, waiting, finished}
use Rattle.gr_rules.specs.Operators.{same_channel}
use Rattle.gr_rules.specs.States.{same_go, updated}
use Rattle.gr_rules.specs.Touches.{waits_at}
use Rattle.gr_code.specs.Goroutines.{CodeGoroutine}
use Rattle.gr_goros.specs.Views.{is_finished}
use Rattle.gr_laws.specs.Soundness.{Stands}
use Rattle.gr_refine.specs.Contents.{Contents, goroutine_of, with_goroutine}
use Rattle.gr_refine.specs.Gates.{with_gate}
use Rattle.gr_refine.specs.Meetings.{thinned, woken, with_woken, all_waits_in, closed_in}
use Rattle.gr_refine.specs.Closing.{shut}
use Rattle.gr_refine.specs.Partners.{is_waiting, known_as, waiters_in}
use Rattle.gr_refine.proofs.NameLemmas.{go_is, channel_self}
use Rattle.gr_refine.proofs.MeetingLemmas.{named, nobody_leaves}
use Rattle.gr_refine.proofs.OrderLemmas.{waking_in_turn}
use Rattle.gr_record.specs.Listings.{frame_in, state_in}
use Rattle.gr_record.specs.Running.{Running}
use Rattle.gr_step.specs.Wakes.{waits_known, all_waits_known, without_one, without_each, is_live_there, with_each_woken}
use Rattle.gr_step.proofs.RunningLemmas.{waits_sound}

-- what goroutines wait for, as the rules, and as a store, know it
pub known_in_state : (p : Program) (s : Contents) (n : List ℕ) → waits_at (option_map (goroutine_of (frame_in p)) (s.goroutines n)) ≡ waits_known (s.goroutines n)
known_in_state p s n = by_goroutine (s.goroutines n)
  where
    by_goroutine : (o : Option CodeGoroutine) → waits_at (option_map (goroutine_of (frame_in p)) o) ≡ waits_known o
    by_goroutine None = refl
    by_goroutine (Some g) = refl

pub all_known_in_state : (p : Program) (s : Contents) (names : List (List ℕ))
    → flat_map (λ n. waits_at (option_map (goroutine_of (frame_in p)) (s.goroutines n))) names ≡ all_waits_known s.goroutines names
all_known_in_state p s [] = refl
all_known_in_state p s (n ∷ ns) =
    ap (λ l. l ++ flat_map (λ n. waits_at (option_map (goroutine_of (frame_in p)) (s.goroutines n))) ns) (known_in_state p s n)
    ∙ ap (λ l. waits_known (s.goroutines n) ++ l) (all_known_in_state p s ns)

pub all_known : (s : Contents) (names : List (List ℕ)) → all_waits_in s names ≡ all_waits_known s.goroutines names
all_known s [] = refl
all_known s (n ∷ ns) = first (s.goroutines n) ∙ ap (λ l. waits_known (s.goroutines n) ++ l) (all_known s ns)
  where
    first : (o : Option CodeGoroutine) → flat_map (λ w. w.2) (cons_option (known_as n o) (waiters_in s ns)) ≡ waits_known o ++ all_waits_in s ns
    first None = refl
    first (Some g) = refl

-- a goroutine in a queue waits for something on its channel
any_is_of : {X : Type 0} (n : List ℕ) (ws : List (Waiter X)) → list_any (is_of n) ws ≡ true → (w : Waiter X) × In w ws × (w.go ≡ n)
any_is_of n [] any = absurd (let no : false ≡ true = any in cc)
any_is_of n (w ∷ ws) any = elim (cases_Bool (is_of n w)) [
  | inl t ↦ (w, inl refl, go_is w.go n t)
  | inr f ↦ let later = any_is_of n ws (sym (ap (λ b. b || list_any (is_of n) ws) f) ∙ any) in (later.0, inr later.1, later.2)
]

waits_on : (d : ChName) (w : Wait) (ws : List Wait) → In w ws → channel_of w ≡ d → list_any (λ v. same_channel d (channel_of v)) ws ≡ true
waits_on d w [] bad is = absurd bad
waits_on d w (v ∷ ws) (inl same) is =
    ap (λ b. b || list_any (λ v. same_channel d (channel_of v)) ws) (ap (same_channel d) (sym (ap channel_of same) ∙ is) ∙ channel_self d)
waits_on d w (v ∷ ws) (inr later) is =
    ap (λ b. same_channel d (channel_of v) || b) (waits_on d w ws later is) ∙ or_true (same_channel d (channel_of v))
  where
    or_true : (b : Bool) → (b || true) ≡ true
    or_true true = refl
    or_true false = refl

-- nobody of this name stands in the queues of a channel
pub record Nobody (n : List ℕ) (x : Content) : Type 0 where
  pub sends : list_any (is_of n) x.senders ≡ false
  pub receives : list_any (is_of n) x.receivers ≡ false

pub waits_elsewhere : (p : Program) (s : Contents) → Running p s → (d : ChName) (y : Content) (n : List ℕ) → s.channels d ≡ Some y
    → list_any (λ v. same_channel d (channel_of v)) (waits_known (s.goroutines n)) ≡ false → Nobody n y
waits_elsewhere p s run d y n there none = record {
  sends = elim (cases_Bool (list_any (is_of n) y.senders)) [
    | inl t ↦ let x = any_is_of n y.senders t in absurd (never (ToSend d x.0.case) refl (rw there (x.0, x.1, x.2, refl)))
    | inr f ↦ f
  ];
  receives = elim (cases_Bool (list_any (is_of n) y.receivers)) [
    | inl t ↦ let x = any_is_of n y.receivers t in absurd (never (ToReceive d x.0.case) refl (rw there (x.0, x.1, x.2, refl)))
    | inr f ↦ f
  ];
}
  where
    never : (w : Wait) → channel_of w ≡ d → Stands ((state_in p s).gates (channel_of w)) n w → ⊥
    never w is stands =
        let waits = subst (In w) (known_in_state p s n) ((waits_sound p s run n w).1 stands) in
        let no : false ≡ true = sym none ∙ waits_on d w (waits_known (s.goroutines n)) waits is in
        cc

fewer : {X : Type 0} (n m : List ℕ) (ws : List (Waiter X)) → list_any (is_of m) ws ≡ false → list_any (is_of m) (others n ws) ≡ false
fewer n m [] none = refl
fewer n m (w ∷ ws) none =
    let parts = or_parts (is_of m w) (list_any (is_of m) ws) none in
    elim (cases_Bool (is_of n w)) [
      | inl t ↦ rw t (fewer n m ws parts.1)
      | inr f ↦ rw f (or_from (is_of m w) (list_any (is_of m) (others n ws)) parts.0 (fewer n m ws parts.1))
    ]

nobody_later : (n m : List ℕ) (x : Content) → Nobody m x → Nobody m (thinned n x)
nobody_later n m x none = record { sends = fewer n m x.senders none.sends; receives = fewer n m x.receivers none.receives }

-- one channel, from which goroutines are withdrawn one after the other
module _ (own : List ℕ → List ChName) (d : ChName) where
  abbrev one : Option Content → List ℕ → Option Content
  one o n = if list_any (same_channel d) (own n) then option_map (thinned n) o else o

  none_there : (names : List (List ℕ)) → fold one None names ≡ None
  none_there [] = refl
  none_there (n ∷ ns) = ap (λ o. fold one o ns) (still (list_any (same_channel d) (own n))) ∙ none_there ns
    where
      still : (b : Bool) → (if b then option_map (thinned n) None else None) ≡ None
      still true = refl
      still false = refl

  -- the channel is among those of each goroutine that waits on it
  Elsewhere : Content → List (List ℕ) → Type 0
  Elsewhere x [] = Unit {0}
  Elsewhere x (n ∷ ns) = (list_any (same_channel d) (own n) ≡ false → Nobody n x) × Elsewhere x ns

  elsewhere_later : (m : List ℕ) (x : Content) (names : List (List ℕ)) → Elsewhere x names → Elsewhere (thinned m x) names
  unfolding Elsewhere
  elsewhere_later m x [] h = tt
  elsewhere_later m x (n ∷ ns) h = (λ out. nobody_later m n x (h.0 out), elsewhere_later m x ns h.1)

  all_thinned : (x : Content) (names : List (List ℕ)) → Elsewhere x names → fold one (Some x) names ≡ Some (with_gate (without names (gate_of x)) x)
  unfolding Elsewhere
  all_thinned x [] h = refl
  all_thinned x (n ∷ ns) h =
      let here : one (Some x) n ≡ Some (thinned n x) = elim (cases_Bool (list_any (same_channel d) (own n))) [
        | inl t ↦ ap (λ b. if b then Some (thinned n x) else Some x) t
        | inr f ↦ ap (λ b. if b then Some (thinned n x) else Some x) f ∙ ap Some (sym (nobody_leaves x n (h.0 f).sends (h.0 f).receives))
      ] in
      ap (λ o. fold one o ns) here ∙ all_thinned (thinned n x) ns (elsewhere_later n x ns h.1)

  -- the channel is among those of none of the goroutines
  Out : List (List ℕ) → Type 0
  Out [] = Unit {0}
  Out (n ∷ ns) = (list_any (same_channel d) (own n) ≡ false) × Out ns

  none_thinned : (o : Option Content) (names : List (List ℕ)) → Out names → fold one o names ≡ o
  unfolding Out
  none_thinned o [] h = refl
  none_thinned o (n ∷ ns) h = ap (λ b. fold one (if b then option_map (thinned n) o else o) ns) h.0 ∙ none_thinned o ns h.1

-- at each channel by itself
each_at : (c : ChName) (f : List ℕ → Option CodeGoroutine) (names : List (List ℕ)) (channels : ChName → Option Content) (d : ChName)
    → without_each c f names channels d ≡ fold (one (λ n. channels_but (c ∷ []) (waits_known (f n))) d) (channels d) names
each_at c f [] channels d = refl
each_at c f (n ∷ ns) channels d = each_at c f ns (without_one c f channels n) d

module _ (p : Program) (s : Contents) (run : Running p s) (c : ChName) (y : Content) where
  abbrev own : List ℕ → List ChName
  own n = channels_but (c ∷ []) (waits_known (s.goroutines n))

  abbrev all : List (List ℕ) → List ChName
  all names = channels_but (c ∷ []) (all_waits_known s.goroutines names)

  abbrev with_it : ChName → Option Content
  with_it = updated same_channel s.channels c (Some y)

  -- the closed channel is none of the others
  not_itself : (d : ChName) (ws : List Wait) → same_channel d c ≡ true → list_any (same_channel d) (channels_but (c ∷ []) ws) ≡ false
  not_itself d ws t =
      named d (c ∷ []) ws ∙ ap (λ b. not (b || false) && list_any (λ w. same_channel d (channel_of w)) ws) t

  apart : (d : ChName) (ws : List Wait) → same_channel d c ≡ false
      → list_any (same_channel d) (channels_but (c ∷ []) ws) ≡ list_any (λ w. same_channel d (channel_of w)) ws
  apart d ws f = named d (c ∷ []) ws ∙ ap (λ b. not (b || false) && list_any (λ w. same_channel d (channel_of w)) ws) f

  out_itself : (d : ChName) (names : List (List ℕ)) → same_channel d c ≡ true → Out own d names
  unfolding Out
  out_itself d [] t = tt
  out_itself d (n ∷ ns) t = (not_itself d (waits_known (s.goroutines n)) t, out_itself d ns t)

  out_of_all : (d : ChName) (names : List (List ℕ)) → same_channel d c ≡ false
      → list_any (λ w. same_channel d (channel_of w)) (all_waits_known s.goroutines names) ≡ false → Out own d names
  unfolding Out
  out_of_all d [] f none = tt
  out_of_all d (n ∷ ns) f none =
      let test = λ (w : Wait). same_channel d (channel_of w) in
      let first = waits_known (s.goroutines n) in
      let rest = all_waits_known s.goroutines ns in
      let parts = or_parts (list_any test first) (list_any test rest) (sym (list_any-append test first rest) ∙ none) in
      (apart d first f ∙ parts.0, out_of_all d ns f parts.1)

  elsewhere : (d : ChName) (x : Content) (names : List (List ℕ)) → same_channel d c ≡ false → s.channels d ≡ Some x → Elsewhere own d x names
  unfolding Elsewhere
  elsewhere d x [] f there = tt
  elsewhere d x (n ∷ ns) f there =
      (λ out. waits_elsewhere p s run d x n there (sym (apart d (waits_known (s.goroutines n)) f) ∙ out), elsewhere d x ns f there)

  -- goroutines that are withdrawn from their own channels are so from all
  pub withdrawn_at : (names : List (List ℕ)) (d : ChName)
      → without_each c s.goroutines names with_it d
      ≡ (if list_any (same_channel d) (all names) then option_map (λ x. with_gate (without names (gate_of x)) x) (with_it d) else with_it d)
  withdrawn_at names d =
      each_at c s.goroutines names with_it d ∙ elim (cases_Bool (same_channel d c)) [
        | inl t ↦
            none_thinned own d (with_it d) names (out_itself d names t)
            ∙ sym (ap (λ b. if b then option_map (λ x. with_gate (without names (gate_of x)) x) (with_it d) else with_it d)
            (not_itself d (all_waits_known s.goroutines names) t))
        | inr f ↦ elim (cases_Bool (list_any (λ w. same_channel d (channel_of w)) (all_waits_known s.goroutines names))) [
          | inl t ↦
              by_content (with_it d) refl f
              ∙ sym (ap (λ b. if b then option_map (λ x. with_gate (without names (gate_of x)) x) (with_it d) else with_it d)
              (apart d (all_waits_known s.goroutines names) f ∙ t))
          | inr none ↦
              none_thinned own d (with_it d) names (out_of_all d names f none)
              ∙ sym (ap (λ b. if b then option_map (λ x. with_gate (without names (gate_of x)) x) (with_it d) else with_it d)
              (apart d (all_waits_known s.goroutines names) f ∙ none))
        ]
      ]
    where
      by_content : (o : Option Content) → with_it d ≡ o → same_channel d c ≡ false
          → fold (one own d) (with_it d) names ≡ option_map (λ x. with_gate (without names (gate_of x)) x) (with_it d)
      by_content None is f =
          ap (λ o. fold (one own d) o names) is ∙ none_there own d names ∙ sym (ap (option_map (λ x. with_gate (without names (gate_of x)) x)) is)
      by_content (Some x) is f =
          let there : s.channels d ≡ Some x = sym (ap (λ b. if b then Some y else s.channels d) f) ∙ is in
          ap (λ o. fold (one own d) o names) is ∙ all_thinned own d x names (elsewhere d x names f there)
          ∙ sym (ap (option_map (λ x. with_gate (without names (gate_of x)) x)) is)

-- goroutines that are woken one after the other
woken_each : (names : List (List ℕ)) (s : Contents)
    → (fold (λ t n. with_goroutine t n (option_map woken (t.goroutines n))) s names).goroutines ≡ with_each_woken names s.goroutines
woken_each [] s = refl
woken_each (n ∷ ns) s = woken_each ns (with_goroutine s n (option_map woken (s.goroutines n)))

pub woken_at_once : (names : List (List ℕ)) (s : Contents) → with_each_woken names s.goroutines ≡ (with_woken s names).goroutines
woken_at_once names s = sym (woken_each names s) ∙ ap (λ (t : Contents). t.goroutines) (waking_in_turn s names)

-- who waits has frames
pub waiting_lives : (o : Option CodeGoroutine) → is_waiting o ≡ true → is_live_there o ≡ true
waiting_lives None h = absurd (let no : false ≡ true = h in cc)
waiting_lives (Some g) h = by_status g.status h
  where
    by_status : (st : Status) → elim st [ waiting ws ↦ true | _ ↦ false ] ≡ true → not (is_finished st) ≡ true
    by_status ready h = refl
    by_status (waiting ws) h = refl
    by_status finished h = absurd (let no : false ≡ true = h in cc)

pub all_live : (f : List ℕ → Option CodeGoroutine) (names : List (List ℕ)) → list_all (λ n. is_waiting (f n)) names ≡ true
    → list_all (λ n. is_live_there (f n)) names ≡ true
all_live f [] h = refl
all_live f (n ∷ ns) h =
    let parts = and_parts (is_waiting (f n)) (list_all (λ n. is_waiting (f n)) ns) h in
    and_from (is_live_there (f n)) (list_all (λ n. is_live_there (f n)) ns) (waiting_lives (f n) parts.0) (all_live f ns parts.1)

-- the goroutine that acts is none of those that wait
pub not_among : (f : List ℕ → Option CodeGoroutine) (m : List ℕ) (names : List (List ℕ)) → list_all (λ n. is_waiting (f n)) names ≡ true
    → is_waiting (f m) ≡ false → list_any (same_go m) names ≡ false
not_among f m [] wait runs = refl
not_among f m (n ∷ ns) wait runs =
    let parts = and_parts (is_waiting (f n)) (list_all (λ n. is_waiting (f n)) ns) wait in
    or_from (same_go m n) (list_any (same_go m) ns) (elim (cases_Bool (same_go m n)) [
      | inl t ↦ absurd (let no : true ≡ false = sym parts.0 ∙ ap (λ k. is_waiting (f k)) (sym (go_is m n t)) ∙ runs in cc)
      | inr e ↦ e
    ]) (not_among f m ns parts.1 runs)

-- the contents after the close, with the goroutine that acts past it
module _ (p : Program) (s : Contents) (run : Running p s) (c : ChName) (x : Content) (names : List (List ℕ)) (m : List ℕ) (after : CodeGoroutine)
    (apart_from : list_any (same_go m) names ≡ false) where
  closer_at : (q : List ℕ) → (with_woken (with_goroutine s m (Some after)) names).goroutines q
      ≡ (with_goroutine (with_woken s names) m (Some after)).goroutines q
  closer_at q = elim (cases_Bool (same_go q m)) [
    | inl t ↦
        let out : list_any (same_go q) names ≡ false = ap (λ k. list_any (same_go k) names) (go_is q m t) ∙ apart_from in
        rw (out, t) refl
    | inr f ↦ rw f refl
  ]

  pub closed_is : (t : Contents) → t.run ≡ s.run
      → t.goroutines ≡ with_each_woken names (updated same_go s.goroutines m (Some after))
      → t.channels ≡ without_each c s.goroutines names (updated same_channel s.channels c (Some (shut x)))
      → t ≡ with_goroutine (closed_in s c (shut x) names) m (Some after)
  closed_is t is_run is_goroutines is_channels =
      let gos = λ (q : List ℕ). ap (λ (f : List ℕ → Option CodeGoroutine). f q) (is_goroutines ∙ woken_at_once names (with_goroutine s m (Some after)))
      ∙ closer_at q in
      let chans = λ (d : ChName). ap (λ (f : ChName → Option Content). f d) is_channels ∙ withdrawn_at p s run c (shut x) names d
      ∙ ap (λ ws. if list_any (same_channel d) (channels_but (c ∷ []) ws)
      then option_map (λ x. with_gate (without names (gate_of x)) x) (updated same_channel s.channels c (Some (shut x)) d)
      else updated same_channel s.channels c (Some (shut x)) d) (sym (all_known s names)) in
      λ i. record { run = is_run i; goroutines = λ q. gos q i; channels = λ d. chans d i }
