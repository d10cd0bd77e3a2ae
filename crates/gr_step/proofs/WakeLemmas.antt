-- Goroutines that are withdrawn and woken, one after the other.
use Rattle.std.proofs.Common.{◌≡◌, ℕ, zero, suc, ◌+◌, ◌<◌, ◌≤◌, Bool, true, false, not, ◌||◌, ◌&&◌, if◌then◌else◌, List, [], ◌∷◌, ◌++◌, map, arith, length, drop, get_or, Option, Some, None, option_map, refl, sym, ap, subst, ◌∙◌, append-nil, append_assoc, drop_of_length-le, inl, inr}
use Rattle.std.specs.List.{list_any, list_all}
use Rattle.std.proofs.lemmas.List.Folds.{list_any-append}
use Rattle.std.proofs.lemmas.List.{map-append}
use Rattle.std.proofs.lemmas.Bool.{cases_Bool, and_parts, and_from}
use Rattle.gr_base.specs.declared.names.ChName.{ChName}
use Rattle.gr_channels.specs.Channels.{Content}
use Rattle.gr_rules.specs.Actors.{channels_but}
use Rattle.gr_rules.specs.Goroutines.{Wait, channel_of}
use Rattle.gr_rules.specs.Operators.{same_channel}
use Rattle.gr_rules.specs.States.{same_go, updated}
use Rattle.gr_code.specs.Goroutines.{CodeGoroutine, retried}
use Rattle.gr_refine.specs.Meetings.{woken}
use Rattle.gr_refine.proofs.NameLemmas.{go_is, go_self}
use Rattle.gr_goros.specs.Undoing.{undone, Fits, need, IsLive}
use Rattle.gr_goros.specs.Views.{Seen, is_finished}
use Rattle.gr_tables.specs.NamedGoroutines.{At, seen_at, seen_of, name_at, goroutines_of, ChangesBy, ComesTo}
use Rattle.gr_tables.specs.declared.goroutines.Goroutines.{Goroutines}
use Rattle.gr_tables.proofs.ByNumber.{seen_named}
use Rattle.gr_step.proofs.ObjectLemmas.{change_was, change_is}
use Rattle.gr_step.proofs.NeedNoFrameLemmas.{need_none}
use Rattle.gr_goros.specs.declared.undo.GoUndo.{GoUndo}
use Rattle.gr_tables.specs.NamedChannels.{MoreAtGates}
use Rattle.gr_tables.proofs.Withdrawals.{gates_join}
use Rattle.gr_channels.specs.declared.changes.ChanUndo.{ChanUndo}
use Rattle.gr_refine.proofs.MeetingLemmas.{named}
use Rattle.gr_step.proofs.WithinLemmas.{or_true, gates_widen}
use Rattle.gr_tables.proofs.BackInOrder.{back_at-append, AllFit-join}
use Rattle.gr_record.specs.Records.{go_undone, go_back, GoFitsAt, NeedNoFrame}
use Rattle.gr_step.specs.Wakes.{waits_known, all_waits_known, left_by_close, without_one, without_each, is_live_there, with_one_woken, with_each_woken, LeadsOver}
use Rattle.gr_step.proofs.QueueLemmas.{first_left}

-- two lists have the same channels
Alike : List ChName → List ChName → Type 0
Alike a b = (d : ChName) → list_any (same_channel d) a ≡ list_any (same_channel d) b

alike_after : (a b : List ChName) (ws : List Wait) → Alike a b → channels_but a ws ≡ channels_but b ws
unfolding Alike
alike_after a b [] same = refl
alike_after a b (w ∷ ws) same = elim (cases_Bool (list_any (same_channel (channel_of w)) b)) [
  | inl t ↦ rw (same (channel_of w), t) (alike_after a b ws same)
  | inr n ↦ rw (same (channel_of w), n) (ap (λ ns. channel_of w ∷ ns)
      (alike_after (channel_of w ∷ a) (channel_of w ∷ b) ws (λ d. ap (λ k. same_channel d (channel_of w) || k) (same d))))
]

or_swapped : (a b c : Bool) → (a || (b || c)) ≡ (b || (a || c))
or_swapped true true c = refl
or_swapped true false c = refl
or_swapped false b c = refl

-- a channel stands first, or between two lists
between : (c : ChName) (seen rest : List ChName) → Alike ((c ∷ seen) ++ rest) (seen ++ c ∷ rest)
unfolding Alike
between c [] rest d = refl
between c (k ∷ seen) rest d =
    or_swapped (same_channel d c) (same_channel d k) (list_any (same_channel d) (seen ++ rest)) ∙ ap (λ b. same_channel d k || b) (between c seen rest d)

-- the channels of waits, and then those of others
pub channels_then : (seen : List ChName) (ws vs : List Wait)
    → channels_but seen (ws ++ vs) ≡ channels_but seen ws ++ channels_but (seen ++ channels_but seen ws) vs
channels_then seen [] vs = ap (λ l. channels_but l vs) (sym (append-nil seen))
channels_then seen (w ∷ ws) vs = elim (cases_Bool (list_any (same_channel (channel_of w)) seen)) [
  | inl t ↦ rw t (channels_then seen ws vs)
  | inr n ↦
      let c = channel_of w in
      let more = channels_but (c ∷ seen) ws in
      rw n (ap (λ l. c ∷ l) (channels_then (c ∷ seen) ws vs ∙ ap (λ l. more ++ l) (alike_after ((c ∷ seen) ++ more) (seen ++ c ∷ more) vs (between c seen more))))
]

-- the channels on which more and more goroutines wait
module _ (f : List ℕ → Option CodeGoroutine) (names : List (List ℕ)) (i : ℕ) (seen : List ChName) (total : List ChName)
    (told : seen ++ channels_but seen (all_waits_known f (drop i names)) ≡ total) where
  pub channels_next : (n : List ℕ) (more : List ChName) → i < length names → n ≡ get_or names i n → more ≡ seen ++ channels_but seen (waits_known (f n))
      → more ++ channels_but more (all_waits_known f (drop (i + 1) names)) ≡ total
  channels_next n more h at are =
      let own = channels_but seen (waits_known (f n)) in
      let rest : List Wait = all_waits_known f (drop (i + 1) names) in
      ap (λ l. l ++ channels_but l rest) are
      ∙ append_assoc seen own (channels_but (seen ++ own) rest)
      ∙ ap (λ l. seen ++ l) (sym (channels_then seen (waits_known (f n)) rest))
      ∙ ap (λ l. seen ++ channels_but seen (all_waits_known f l)) (sym (first_left names i n h at))
      ∙ told

  pub channels_done : length names ≤ i → seen ≡ total
  channels_done h =
      sym (append-nil seen) ∙ ap (λ l. seen ++ channels_but seen (all_waits_known f l)) (sym (drop_of_length-le names h)) ∙ told

-- one more is withdrawn
pub withdrawn_next : (c : ChName) (f : List ℕ → Option CodeGoroutine) (names : List (List ℕ)) (i : ℕ) (now new total : ChName → Option Content) (n : List ℕ)
    → i < length names → n ≡ get_or names i n → new ≡ without_one c f now n → without_each c f (drop i names) now ≡ total
    → without_each c f (drop (i + 1) names) new ≡ total
withdrawn_next c f names i now new total n h at is told =
    ap (without_each c f (drop (i + 1) names)) is ∙ ap (λ l. without_each c f l now) (sym (first_left names i n h at)) ∙ told

pub all_withdrawn : (c : ChName) (f : List ℕ → Option CodeGoroutine) (names : List (List ℕ)) (i : ℕ) (now total : ChName → Option Content) → length names ≤ i
    → without_each c f (drop i names) now ≡ total → now ≡ total
all_withdrawn c f names i now total h told = ap (λ l. without_each c f l now) (sym (drop_of_length-le names h)) ∙ told

-- the channels on which one of these waits are among those on which they wait
waits_among : (q : Wait → Bool) (f : List ℕ → Option CodeGoroutine) (names : List (List ℕ)) (i : ℕ) (n : List ℕ) → i < length names → n ≡ get_or names i n
    → list_any q (waits_known (f n)) ≡ true → list_any q (all_waits_known f names) ≡ true
waits_among q f [] i n h at e = absurd (omega (arith, h))
waits_among q f (m ∷ ns) zero n h at e =
    list_any-append q (waits_known (f m)) (all_waits_known f ns) ∙ ap (λ b. b || list_any q (all_waits_known f ns))
    (ap (λ k. list_any q (waits_known (f k))) (sym at) ∙ e)
waits_among q f (m ∷ ns) (suc i) n h at e =
    list_any-append q (waits_known (f m)) (all_waits_known f ns)
    ∙ ap (λ b. list_any q (waits_known (f m)) || b) (waits_among q f ns i n (omega (arith, h)) at e) ∙ or_true (list_any q (waits_known (f m)))

left_among : (c : ChName) (f : List ℕ → Option CodeGoroutine) (names : List (List ℕ)) (i : ℕ) (n : List ℕ) → i < length names → n ≡ get_or names i n
    → (d : ChName) → list_any (same_channel d) (channels_but (c ∷ []) (waits_known (f n))) ≡ true → list_any (same_channel d) (left_by_close c f names) ≡ true
left_among c f names i n h at d e = elim (cases_Bool (same_channel d c)) [
  | inl t ↦ ap (λ b. b || list_any (same_channel d) (channels_but (c ∷ []) (all_waits_known f names))) t
  | inr o ↦
      let waits = sym (ap (λ b. not (b || false) && list_any (λ w. same_channel d (channel_of w)) (waits_known (f n))) o)
      ∙ sym (named d (c ∷ []) (waits_known (f n))) ∙ e in
      ap (λ b. b || list_any (same_channel d) (channels_but (c ∷ []) (all_waits_known f names))) o
      ∙ named d (c ∷ []) (all_waits_known f names)
      ∙ ap (λ b. not (b || false) && list_any (λ w. same_channel d (channel_of w)) (all_waits_known f names)) o
      ∙ waits_among (λ w. same_channel d (channel_of w)) f names i n h at waits
]

-- one more leaves the queues of gates
pub gates_next : (c : ChName) (f : List ℕ → Option CodeGoroutine) (names : List (List ℕ)) (i : ℕ) (n : List ℕ) (others : List ChName)
    (done us vs : List (ChName × ChanUndo)) → i < length names → n ≡ get_or names i n → others ≡ channels_but (c ∷ []) (waits_known (f n))
    → MoreAtGates (left_by_close c f names) done us → MoreAtGates others us vs → MoreAtGates (left_by_close c f names) done vs
gates_next c f names i n others done us vs h at are one two =
    let all = left_by_close c f names in
    record {
      more = one.more ++ two.more;
      are = two.are ∙ ap (λ es. es ++ two.more) one.are ∙ append_assoc done one.more two.more;
      at_gates = gates_join all one.more two.more one.at_gates
          (gates_widen others all two.more (λ d e. left_among c f names i n h at d (ap (list_any (same_channel d)) (sym are) ∙ e)) two.at_gates);
    }

-- one more is told of
pub names_next : (met more : List (List ℕ × GoUndo)) (all rest : List (List ℕ)) (n : List ℕ) (u : GoUndo) (total : List (List ℕ))
    → more ≡ met ++ (n, u) ∷ [] → all ≡ n ∷ rest → map (λ e. e.0) met ++ all ≡ total → map (λ e. e.0) more ++ rest ≡ total
names_next met more all rest n u total are first told =
    ap (λ l. map (λ e. e.0) l ++ rest) are ∙ ap (λ l. l ++ rest) (map-append (λ (e : List ℕ × GoUndo). e.0) met ((n, u) ∷ []))
    ∙ append_assoc (map (λ e. e.0) met) (n ∷ []) rest ∙ ap (λ l. map (λ e. e.0) met ++ l) (sym first) ∙ told

-- a change of one goroutine goes back
pub one_leads : (n : List ℕ) (u : GoUndo) (f h : List ℕ → Option CodeGoroutine) (a b : CodeGoroutine) → f n ≡ Some a → h ≡ updated same_go f n (Some b)
    → undone u b ≡ a → Fits u b → need u ≡ 0 → LeadsOver ((n, u) ∷ []) f h
one_leads n u f h a b was is back fits none = record {
  back = λ q. ap (λ g. go_back ((n, u) ∷ []) q (g q)) is ∙ by_name q (same_go q n) refl;
  fits = (subst (GoFitsAt u) (sym (ap (λ g. g n) is ∙ ap (λ t. if t then Some b else f n) (go_self n))) fits, tt);
  frames = (none, tt);
}
  where
    by_name : (q : List ℕ) (t : Bool) → same_go q n ≡ t
        → (if same_go q n then option_map (undone u) (if same_go q n then Some b else f q) else (if same_go q n then Some b else f q)) ≡ f q
    by_name q true t = rw t (ap Some back ∙ sym was ∙ ap f (sym (go_is q n t)))
    by_name q false t = rw t refl

no_frame_more : (us vs : List (List ℕ × GoUndo)) → NeedNoFrame us → NeedNoFrame vs → NeedNoFrame (us ++ vs)
no_frame_more [] vs h k = k
no_frame_more (u ∷ us) vs h k = (h.0, no_frame_more us vs h.1 k)

-- changes one after the other go back together
pub leads_join : (us vs : List (List ℕ × GoUndo)) (f g h : List ℕ → Option CodeGoroutine) → LeadsOver us f g → LeadsOver vs g h → LeadsOver (us ++ vs) f h
leads_join us vs f g h one two = record {
  back = λ q. back_at-append same_go go_undone us vs q (h q) ∙ ap (go_back us q) (two.back q) ∙ one.back q;
  fits = AllFit-join same_go go_undone GoFitsAt h g us vs two.back one.fits two.fits;
  frames = no_frame_more us vs one.frames two.frames;
}

pub leads_nowhere : (f : List ℕ → Option CodeGoroutine) → LeadsOver [] f f
leads_nowhere f = record { back = λ q. refl; fits = tt; frames = tt }

-- one that is woken still has its frames, and so have all others
still_live : (f : List ℕ → Option CodeGoroutine) (n q : List ℕ) → is_live_there (f q) ≡ true → is_live_there (with_one_woken f n q) ≡ true
still_live f n q live = elim (cases_Bool (same_go q n)) [
  | inl t ↦ ap (λ b. is_live_there (if b then option_map woken (f n) else f q)) t ∙ kept (f n) (ap (λ k. is_live_there (f k)) (sym (go_is q n t)) ∙ live)
  | inr e ↦ ap (λ b. is_live_there (if b then option_map woken (f n) else f q)) e ∙ live
]
  where
    kept : (o : Option CodeGoroutine) → is_live_there o ≡ true → is_live_there (option_map woken o) ≡ true
    kept None h = h
    kept (Some g) h = refl

pub all_still_live : (f : List ℕ → Option CodeGoroutine) (n : List ℕ) (names : List (List ℕ)) → list_all (λ q. is_live_there (f q)) names ≡ true
    → list_all (λ q. is_live_there (with_one_woken f n q)) names ≡ true
all_still_live f n [] live = refl
all_still_live f n (q ∷ qs) live =
    let parts = and_parts (is_live_there (f q)) (list_all (λ q. is_live_there (f q)) qs) live in
    and_from (is_live_there (with_one_woken f n q)) (list_all (λ q. is_live_there (with_one_woken f n q)) qs)
    (still_live f n q parts.0) (all_still_live f n qs parts.1)

module _ (f g : List ℕ → Option CodeGoroutine) (n : List ℕ) (names rest : List (List ℕ)) (first : names ≡ n ∷ rest) where
  pub first_live : list_all (λ q. is_live_there (f q)) names ≡ true → is_live_there (f n) ≡ true
  first_live live = (and_parts (is_live_there (f n)) (list_all (λ q. is_live_there (f q)) rest) (ap (list_all (λ q. is_live_there (f q))) (sym first) ∙ live)).0

  pub live_next : g ≡ with_one_woken f n → list_all (λ q. is_live_there (f q)) names ≡ true → list_all (λ q. is_live_there (g q)) rest ≡ true
  live_next is live =
      let all = ap (list_all (λ q. is_live_there (f q))) (sym first) ∙ live in
      ap (λ (h : List ℕ → Option CodeGoroutine). list_all (λ q. is_live_there (h q)) rest) is
      ∙ all_still_live f n rest (and_parts (is_live_there (f n)) (list_all (λ q. is_live_there (f q)) rest) all).1

  pub woken_next : (total : List ℕ → Option CodeGoroutine) → g ≡ with_one_woken f n → with_each_woken names f ≡ total → with_each_woken rest g ≡ total
  woken_next total is told = ap (with_each_woken rest) is ∙ ap (λ l. with_each_woken l f) (sym first) ∙ told

-- a goroutine that is made ready again, by its number
live_is : (o : Option CodeGoroutine) → is_live_there o ≡ true → At (λ g. IsLive g) o
live_is None h = absurd (let no : false ≡ true = h in cc)
live_is (Some g) h = by_end (is_finished g.status) h
  where
    by_end : (b : Bool) → not b ≡ true → b ≡ false
    by_end true h = absurd (let no : false ≡ true = h in cc)
    by_end false h = refl

of_content : (P : CodeGoroutine → Type 0) (o : Option Seen) → At P (option_map (λ g. g.content) o) → At (λ g. P g.content) o
of_content P None h = h
of_content P (Some g) h = h

pub can_retry : (number : ℕ) (n : List ℕ) (old : Goroutines) → name_at old number ≡ Some n → is_live_there (goroutines_of old n) ≡ true
    → At (λ g. IsLive g.content) (seen_at old number)
can_retry number n old named live =
    subst (At (λ (g : Seen). IsLive g.content)) (sym (seen_named old number n named)) (of_content IsLive (seen_of old n) (live_is (goroutines_of old n) live))

module _ (number : ℕ) (n : List ℕ) (old new : Goroutines) (u : GoUndo) (named : name_at old number ≡ Some n)
    (changes : ChangesBy number (ComesTo retried u) old new) where
  pub wakes_one : goroutines_of new ≡ with_one_woken (goroutines_of old) n
  wakes_one =
      change_is number n changes.0 changes.1 old new named changes.2
      ∙ ap (updated same_go (goroutines_of old) n)
      (ap Some changes.3.0 ∙ sym (ap (option_map woken) (change_was number n changes.0 changes.1 old new named changes.2)))

  pub wakes_back : LeadsOver ((n, u) ∷ []) (goroutines_of old) (goroutines_of new)
  wakes_back =
      one_leads n u (goroutines_of old) (goroutines_of new) changes.0.content changes.1.content
      (change_was number n changes.0 changes.1 old new named changes.2)
      (change_is number n changes.0 changes.1 old new named changes.2) changes.3.1.back changes.3.1.fits
      (need_none changes.0.content changes.1.content u changes.3.1.back (ap (λ (g : CodeGoroutine). length g.frames) changes.3.0))
