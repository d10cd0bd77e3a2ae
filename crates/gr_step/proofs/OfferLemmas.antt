-- What a channel was and is, by its answer to a value that is offered or to one who wants to receive.
use Rattle.std.proofs.Common.{◌≡◌, ◌+◌, true, false, List, [], ◌∷◌, ◌++◌, Option, Some, None, refl, sym, ap, subst, ◌∙◌}
use Rattle.std.specs.Prelude.{slice_get, option_map}
use Rattle.gr_base.specs.declared.names.ChName.{ChName}
use Rattle.gr_base.specs.declared.values.Value.{Value}
use Rattle.gr_channels.specs.declared.waiter.Waiter.{Waiter}
use Rattle.gr_channels.specs.declared.changes.ChanUndo.{ChanUndo}
use Rattle.gr_channels.specs.declared.changes.Offered.TheVariants as offered
use Rattle.gr_channels.specs.declared.changes.Taken.TheVariants as taken
use Rattle.gr_channels.specs.Channels.{Content, Seen}
use Rattle.gr_channels.specs.Objects.{has_any}
use Rattle.gr_rules.specs.Operators.{same_channel}
use Rattle.gr_rules.specs.States.{updated}
use Rattle.gr_tables.specs.NamedChannels.{At, contents_of, seen_of, OfferAt, TakeAt}
use Rattle.gr_tables.specs.declared.channels.Channels.{Channels}
use Rattle.gr_step.proofs.PartnerLemmas.{some_is}

-- the content of a channel that was seen
pub was_seen : (o : Channels) (c : ChName) (x : Seen) → Some x ≡ seen_of o c → contents_of o c ≡ Some x.content
was_seen o c x is = ap (option_map (λ (x : Seen). x.content)) (sym is)

-- what holds of the channel of a name
pub of_it : (P : Content → Type 0) (o : Channels) (c : ChName) (x : Content) → contents_of o c ≡ Some x → At P (contents_of o c) → P x
of_it P o c x made h = subst {_, _} (At P) made h

-- the one that waits first
pub first_in : {X : Type 0} (ws : List (Waiter X)) (w : Waiter X) → Some w ≡ slice_get ws 0 → (rest : List (Waiter X)) × (ws ≡ w ∷ rest)
first_in [] w is = absurd (subst {0, 0} (λ (o : Option _). elim o [ Some x ↦ Unit {0} | None ↦ ⊥ ]) is tt)
first_in (v ∷ vs) w is = (vs, ap (λ k. k ∷ vs) (sym (some_is is)))

-- what stands first, where anything does
pub has_first : {X : Type 0} (xs : List X) → has_any xs ≡ true → (x : X) × (rest : List X) × (xs ≡ x ∷ rest)
has_first [] h = absurd (let no : false ≡ true = h in cc)
has_first (x ∷ xs) h = (x, xs, refl)

-- where nobody does
pub none_in : {X : Type 0} (ws : List X) → None ≡ slice_get ws 0 → ws ≡ []
none_in [] is = refl
none_in (v ∷ vs) is = absurd (subst {0, 0} (λ (o : Option _). elim o [ Some x ↦ ⊥ | None ↦ Unit {0} ]) is tt)

tail_is : {X : Type 0} {a b : X} {xs ys : List X} → a ∷ xs ≡ b ∷ ys → xs ≡ ys
tail_is {X} {a} {b} {xs} {ys} e = ap (λ (l : List X). elim l [ [] ↦ xs | z ∷ zs ↦ zs ]) e

head_is : {X : Type 0} {a b : X} {xs ys : List X} → a ∷ xs ≡ b ∷ ys → a ≡ b
head_is {X} {a} {b} {xs} {ys} e = ap (λ (l : List X). elim l [ [] ↦ a | z ∷ zs ↦ z ]) e

module _ (c : ChName) (old new : Channels) (x : Content) (made : contents_of old c ≡ Some x) where
  -- a value that is handed over comes back, and the first receiver is gone
  pub after_handed : (v w : Value) (u : ChanUndo) → OfferAt c v (offered.Handed w u) old new → (first : Waiter (Unit {0})) (rest : List (Waiter (Unit {0})))
      → x.receivers ≡ first ∷ rest
      → (w ≡ v) × (contents_of new ≡ updated same_channel (contents_of old) c (Some (record x { receivers = rest })))
  after_handed v w u at first rest receivers =
      let was : at.before ≡ x = some_is (sym at.becomes.was ∙ made) in
      let left : at.after.receivers ≡ rest = tail_is (sym at.rule.4 ∙ ap (λ (x : Content). x.receivers) was ∙ receivers) in
      let after : at.after ≡ record x { receivers = rest } = at.rule.5 ∙ (λ i. record (was i) { receivers = left i }) in
      (at.rule.3, at.becomes.is ∙ ap (λ y. updated same_channel (contents_of old) c (Some y)) after)

  -- a value that enters the buffer stands last
  pub after_buffered : (v : Value) (u : ChanUndo) → OfferAt c v (offered.Buffered u) old new
      → contents_of new ≡ updated same_channel (contents_of old) c (Some (record x { items = x.items ++ v ∷ [] }))
  after_buffered v u at =
      let was : at.before ≡ x = some_is (sym at.becomes.was ∙ made) in
      at.becomes.is ∙ ap (λ y. updated same_channel (contents_of old) c (Some y))
      (at.rule.4 ∙ (λ i. record (was i) { items = (was i).items ++ v ∷ [] }))

  -- the front item is taken
  pub after_item : (z : Value) (u : ChanUndo) → TakeAt c (taken.Item z u) old new → (v : Value) (rest : List Value) → x.items ≡ v ∷ rest
      → (z ≡ v) × (contents_of new ≡ updated same_channel (contents_of old) c (Some (record x { head = x.head + 1; items = rest })))
  after_item z u at v rest items =
      let was : at.before ≡ x = some_is (sym at.becomes.was ∙ made) in
      let same = sym at.rule.1 ∙ ap (λ (x : Content). x.items) was ∙ items in
      let left : at.after.items ≡ rest = tail_is same in (
        head_is same,
        at.becomes.is ∙ ap (λ y. updated same_channel (contents_of old) c (Some y))
            (at.rule.3 ∙ (λ i. record (was i) { head = (was i).head + 1; items = left i })),
      )

  -- the front item is taken, and the value of the first sender moves up
  pub after_moved : (z : Value) (u : ChanUndo) → TakeAt c (taken.Moved z u) old new → (v : Value) (rest : List Value) → x.items ≡ v ∷ rest
      → (first : Waiter Value) (others : List (Waiter Value)) → x.senders ≡ first ∷ others
      → (z ≡ v) × (contents_of new ≡ updated same_channel (contents_of old) c
      (Some (record x { head = x.head + 1; items = rest ++ first.value ∷ []; senders = others })))
  after_moved z u at v rest items first others senders =
      let was : at.before ≡ x = some_is (sym at.becomes.was ∙ made) in
      let same = sym at.rule.3 ∙ ap (λ (x : Content). x.items) was ∙ items in
      let queue = sym at.rule.4 ∙ ap (λ (x : Content). x.senders) was ∙ senders in
      let left : at.rule.1 ≡ rest = tail_is same in
      let who : at.rule.0 ≡ first = head_is queue in
      let behind : at.after.senders ≡ others = tail_is queue in (
        head_is same,
        at.becomes.is ∙ ap (λ y. updated same_channel (contents_of old) c (Some y))
            (at.rule.5 ∙ (λ i. record (was i) { head = (was i).head + 1; items = left i ++ (who i).value ∷ []; senders = behind i })),
      )

  -- the first sender gives its value
  pub after_met : (z : Value) (u : ChanUndo) → TakeAt c (taken.Met z u) old new → (first : Waiter Value) (others : List (Waiter Value))
      → x.senders ≡ first ∷ others
      → (z ≡ first.value) × (contents_of new ≡ updated same_channel (contents_of old) c (Some (record x { senders = others })))
  after_met z u at first others senders =
      let was : at.before ≡ x = some_is (sym at.becomes.was ∙ made) in
      let queue = sym at.rule.4 ∙ ap (λ (x : Content). x.senders) was ∙ senders in
      let behind : at.after.senders ≡ others = tail_is queue in (
        sym at.rule.2 ∙ ap (λ (w : Waiter Value). w.value) (head_is queue),
        at.becomes.is ∙ ap (λ y. updated same_channel (contents_of old) c (Some y))
            (at.rule.5 ∙ (λ i. record (was i) { senders = behind i })),
      )
