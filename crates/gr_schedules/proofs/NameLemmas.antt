-- What is there was started or made by a step of the log. The crates above use these lemmas too.
use Rattle.std.proofs.Common.{◌≡◌, ◌⊎◌, ℕ, Bool, true, false, List, [], ◌∷◌, ◌++◌, Option, Some, None, option_map, if◌then◌else◌, refl, sym, ◌∙◌, ap, subst, inl, inr}
use Rattle.std.specs.Option.{option_to_list}
use Rattle.std.proofs.lemmas.Bool.{cases_Bool}
use Rattle.gr_base.specs.declared.names.ChName.{ChName}
use Rattle.gr_causal.specs.Sequences.{In}
use Rattle.gr_causal.proofs.ListLemmas.{In-append_right}
use Rattle.gr_channels.specs.Channels.{Content}
use Rattle.gr_program.specs.Programs.{Program}
use Rattle.gr_rules.specs.Operators.{same_channel}
use Rattle.gr_rules.specs.States.{State, same_go, start}
use Rattle.gr_laws.specs.Reached.{Logged}
use Rattle.gr_laws.proofs.CellLemmas.{go_is, channel_is}
use Rattle.gr_code.specs.Goroutines.{CodeGoroutine}
use Rattle.gr_refine.specs.Contents.{Contents}
use Rattle.gr_goros.specs.Undoing.{undone}
use Rattle.gr_channels.specs.Changes.{undone as changed}
use Rattle.gr_tables.specs.Back.{back_at}
use Rattle.gr_record.specs.declared.record.Record.{Record}
use Rattle.gr_record.specs.Kept.{Kept, none, one_more}
use Rattle.gr_record.specs.Listings.{state_in}
use Rattle.gr_record.specs.Records.{begun_by, made_by, is_go, is_channel, go_back, goroutines_changed, channels_changed}
use Rattle.gr_tables.specs.NamedChannels.{chan_back}
use Rattle.gr_schedules.specs.Names.{AreAll, goroutines_begun, channels_made}

none_some : {A : Type 0} (a : A) → None ≡ Some a → ⊥
none_some a e = cc

-- what is there was there before the changes
back_some : {K U X : Type 0} (equal : K → K → Bool) (undo : U → X → X) (us : List (K × U)) (q : K) (x : X) → (y : X) × (back_at equal (λ u o. option_map (undo u) o) us q (Some x) ≡ Some y)
back_some equal undo [] q x = (x, refl)
back_some {X = X} equal undo (u ∷ us) q x =
    let w = back_some equal undo us q x in
    let rest : Option X = back_at equal (λ v o. option_map (undo v) o) us q (Some x) in
    elim (cases_Bool (equal q u.0)) [
      | inl e ↦ (undo u.1 w.0, ap (λ b. if b then option_map (undo u.1) rest else rest) e ∙ ap (option_map (undo u.1)) w.1)
      | inr e ↦ (w.0, ap (λ b. if b then option_map (undo u.1) rest else rest) e ∙ w.1)
    ]

-- lists of what the records have, the last record included
module _ {A : Type 0} (of : Record → Option A) where
  abbrev all_of : List Record → List A
  all_of [] = []
  all_of (r ∷ rs) = option_to_list (of r) ++ all_of rs

  of_more : (rs : List Record) (r : Record) (x : A) → In x (all_of rs) → In x (all_of (rs ++ r ∷ []))
  of_more [] r x i = absurd i
  of_more (q ∷ rs) r x i = by (of_more rs r x) (of q) i
    where
      by : (In x (all_of rs) → In x (all_of (rs ++ r ∷ []))) → (o : Option A) → In x (option_to_list o ++ all_of rs) → In x (option_to_list o ++ all_of (rs ++ r ∷ []))
      by f None j = f j
      by f (Some y) (inl e) = inl e
      by f (Some y) (inr j) = inr (f j)

  of_last : (rs : List Record) (r : Record) (x : A) → of r ≡ Some x → In x (all_of (rs ++ r ∷ []))
  of_last [] r x e = subst (λ o. In x (option_to_list o ++ [])) (sym e) (inl refl)
  of_last (q ∷ rs) r x e = In-append_right x (option_to_list (of q)) (all_of (rs ++ r ∷ [])) (of_last rs r x e)

begun_is : (rs : List Record) → all_of (λ r. begun_by r.change) rs ≡ goroutines_begun rs
begun_is [] = refl
begun_is (r ∷ rs) = ap (λ xs. option_to_list (begun_by r.change) ++ xs) (begun_is rs)

made_is : (rs : List Record) → all_of (λ r. made_by r.change) rs ≡ channels_made rs
made_is [] = refl
made_is (r ∷ rs) = ap (λ xs. option_to_list (made_by r.change) ++ xs) (made_is rs)

-- the name that a test finds
named_go : (q : List ℕ) (o : Option (List ℕ)) → is_go q o ≡ true → o ≡ Some q
named_go q None e = let f : false ≡ true = e in cc
named_go q (Some n) e = ap Some (sym (go_is q n e))

named_channel : (q : ChName) (o : Option ChName) → is_channel q o ≡ true → o ≡ Some q
named_channel q None e = let f : false ≡ true = e in cc
named_channel q (Some n) e = ap Some (sym (channel_is q n e))

module _ (p : Program) (begins : Contents) (begun : state_in p begins ≡ start p) where
  first_go : (q : List ℕ) (g : CodeGoroutine) → begins.goroutines q ≡ Some g → q ≡ []
  first_go q g e = elim (cases_Bool (same_go q [])) [
    | inl s ↦ go_is q [] s
    | inr n ↦
        let here = ap (λ (s : State). s.goroutines q) begun in
        absurd (none_some _ (sym (ap (λ b. if b then (start p).goroutines [] else None) n) ∙ sym here ∙ ap (λ o. (state_in p (record begins { goroutines = λ x. o })).goroutines q) e))
  ]

  first_channel : (c : ChName) (x : Content) → begins.channels c ≡ Some x → ⊥
  first_channel c x e =
      let here = ap (λ (s : State). s.gates c) begun in
      none_some _ (sym here ∙ ap (λ o. (state_in p (record begins { channels = λ d. o })).gates c) e)

  kept_goroutine : (records : List Record) (log : List (Logged p)) (t : Contents) → Kept p begins records log t → (q : List ℕ) (g : CodeGoroutine) → t.goroutines q ≡ Some g
      → (q ≡ []) ⊎ In q (all_of (λ r. begun_by r.change) records)
  kept_goroutine _ _ _ none q g e = inl (first_go q g e)
  kept_goroutine _ _ _ (one_more {records} {log} {t} r l u kept tells) q g e = elim (cases_Bool (is_go q (begun_by r.change))) [
    | inl here ↦ inr (of_last (λ r. begun_by r.change) records r q (named_go q (begun_by r.change) here))
    | inr other ↦
        let was = back_some same_go (λ v h. undone v h) (goroutines_changed r.id.go r.change) q g in
        let there : t.goroutines q ≡ Some was.0 =
        sym (ap (λ (s : Contents). s.goroutines q) tells.is.takes.back) ∙ ap (λ b. if b then None else go_back (goroutines_changed r.id.go r.change) q (u.goroutines q)) other
        ∙ ap (λ o. go_back (goroutines_changed r.id.go r.change) q o) e ∙ was.1 in
        elim (kept_goroutine records log t kept q was.0 there) [
          | inl first ↦ inl first
          | inr i ↦ inr (of_more (λ r. begun_by r.change) records r q i)
        ]
  ]

  kept_channel : (records : List Record) (log : List (Logged p)) (t : Contents) → Kept p begins records log t → (q : ChName) (x : Content) → t.channels q ≡ Some x
      → In q (all_of (λ r. made_by r.change) records)
  kept_channel _ _ _ none q x e = absurd (first_channel q x e)
  kept_channel _ _ _ (one_more {records} {log} {t} r l u kept tells) q x e = elim (cases_Bool (is_channel q (made_by r.change))) [
    | inl here ↦ of_last (λ r. made_by r.change) records r q (named_channel q (made_by r.change) here)
    | inr other ↦
        let was = back_some same_channel (λ v h. changed v h) (channels_changed r.change) q x in
        let there : t.channels q ≡ Some was.0 =
        sym (ap (λ (s : Contents). s.channels q) tells.is.takes.back) ∙ ap (λ b. if b then None else chan_back (channels_changed r.change) q (u.channels q)) other
        ∙ ap (λ o. chan_back (channels_changed r.change) q o) e ∙ was.1 in
        of_more (λ r. made_by r.change) records r q (kept_channel records log t kept q was.0 there)
  ]

  pub all_named : (s : Contents) (records : List Record) (log : List (Logged p)) → Kept p begins records log s → AreAll s ([] ∷ goroutines_begun records) (channels_made records)
  all_named s records log kept = record {
    each_goroutine = λ q g e. elim (kept_goroutine records log s kept q g e) [ inl first ↦ inl first | inr i ↦ inr (subst (In q) (begun_is records) i) ];
    each_channel = λ q x e. subst (In q) (made_is records) (kept_channel records log s kept q x e);
  }
