-- Room is made for changes, the last ones first.
use Rattle.std.proofs.Common.{◌≡◌, ℕ, ◌-◌, ◌<◌, ◌≤◌, true, false, cond, List, [], ◌∷◌, length, take, drop, get_or, take-append-drop, refl, ap, sym, ◌∙◌}
use Rattle.std.proofs.Common.{subst, Option, Some, None, IsSome}
use Rattle.gr_base.specs.declared.names.ChName.{ChName}
use Rattle.gr_channels.specs.declared.changes.ChanUndo.{ChanUndo}
use Rattle.gr_channels.specs.Channels.{Content, Room, Within, plus}
use Rattle.gr_channels.specs.Changes.{need}
use Rattle.gr_rules.specs.Operators.{same_channel}
use Rattle.gr_tables.specs.NamedChannels.{rooms_of, chan_undone, chan_back, FitsAt, ChansFit, minus, frees, needs, HasRooms, KeepsRooms}
use Rattle.gr_tables.specs.declared.channels.Channels.{Channels}
use Rattle.gr_tables.proofs.ChannelNames.{at_each}
use Rattle.gr_tables.proofs.BackInOrder.{AllFit-second}
use Rattle.gr_tables.proofs.RoomLemmas.{within_more}
use Rattle.gr_tables.proofs.SuffixLemmas.{needs_all, first_of_rest}

-- where there is no channel, there is none before
gone_stays : (es : List (ChName × ChanUndo)) (q : ChName) → chan_back es q None ≡ None
gone_stays [] q = refl
gone_stays (e ∷ es) q = ap (λ x. cond (same_channel q e.0) (chan_undone e.1 x) x) (gone_stays es q)
    ∙ elim (same_channel q e.0) as (λ b. cond b (chan_undone e.1 None) None ≡ None) [ true ↦ refl | false ↦ refl ]

some_of : (es : List (ChName × ChanUndo)) (q : ChName) (u : ChanUndo) (x : Option Content) → FitsAt u (chan_back es q x) → IsSome x
some_of es q u None h = absurd (subst (FitsAt u) (gone_stays es q) h)
some_of es q u (Some c) h = refl

module _ (us : List (ChName × ChanUndo)) (place : ℕ) (e : ChName × ChanUndo) (above : 0 < place) (within : place ≤ length us)
    (is : e ≡ get_or us (place - 1) e) where
  -- a channel is there wherever a change of it is to be taken back
  pub stands_at : (f g : ChName → Option Content) → ChansFit us f → g ≡ f → IsSome (g e.0)
  stands_at f g h same =
      let suffix = AllFit-second same_channel chan_undone FitsAt f f (take (place - 1) us) (drop (place - 1) us)
      (subst (λ es. ChansFit es f) (sym (take-append-drop (place - 1) us)) h) in
      let first = subst (λ es. ChansFit es f) (first_of_rest us place e above within is) suffix in
      subst (λ (k : ChName → Option Content). IsSome (k e.0)) (sym same) (some_of (drop place us) e.0 e.1 (f e.0) first.0)

  -- room for the last ones of them was there, where there was room for all
  pub had_room : (a b : Channels) → HasRooms us (rooms_of a) → KeepsRooms a b → Within (needs (drop (place - 1) us) e.0) (rooms_of b e.0)
  had_room a b h grows = within_more _ _ _ (needs_all us (place - 1) e.0) (within_more _ _ _ (h e.0) (grows e.0))

  -- one more
  pub made_more : (r : Room) (a b : Channels) → HasRooms (drop place us) (rooms_of a) → KeepsRooms a b → r ≡ needs (drop (place - 1) us) e.0
      → Within r (rooms_of b e.0)
      → HasRooms (drop (place - 1) us) (rooms_of b)
  made_more r a b made grows room ok q = at_each e.0 q (λ x. Within (needs (drop (place - 1) us) x) (rooms_of b x))
      (subst (λ n. Within n (rooms_of b e.0)) room ok)
      (λ other.
      let rest : needs (drop (place - 1) us) q ≡ needs (drop place us) q =
      ap (λ es. needs es q) (first_of_rest us place e above within is) ∙ other_needs other in
      subst (λ n. Within n (rooms_of b q)) (sym rest) (within_more _ _ _ (made q) (grows q)))
    where
      other_needs : same_channel q e.0 ≡ false → needs (e ∷ drop place us) q ≡ needs (drop place us) q
      other_needs other = ap (λ t. cond t (plus (needs (drop place us) q) (minus (need e.1) (frees (drop place us) q))) (needs (drop place us) q)) other

-- the channel of one change is there
pub is_there : (c : ChName) (u : ChanUndo) (x : Option Content) → FitsAt u x → IsSome x
is_there c u x h = some_of [] c u x h
