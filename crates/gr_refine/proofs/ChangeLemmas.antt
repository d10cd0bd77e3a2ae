-- Changes of what a store contains write the cells of the rules.
use Rattle.std.proofs.Common.{◌≡◌, fold, ℕ, nat_eq, suc, ◌+◌, ◌%◌, ◌<◌, ◌≤◌, if◌then◌else◌, List, [], ◌∷◌, ◌++◌, length, Option, Some, None, option_map, refl, sym, ◌∙◌, ap, subst, arith, inl, inr, length-append}
use Rattle.std.specs.Option.{option_map_or}
use Rattle.std.specs.Prelude.{option_and_then, slice_get}
use Rattle.std.proofs.lemmas.Bool.{cases_Bool}
use Rattle.std.proofs.lemmas.Bool.Decides.{eqb_tells}
use Rattle.std.proofs.Math.Nat.{add-mod_right}
use Rattle.gr_base.specs.declared.names.ChName.{ChName}
use Rattle.gr_base.specs.declared.values.Value.{Value}
use Rattle.gr_channels.specs.Channels.{Content, IsChannel, tail_of}
use Rattle.gr_channels.specs.Objects.{GateContent, gate_of, head_of, slot_from, slot_of}
use Rattle.gr_channels.proofs.Slots.{slot_before, slot_rest, slot_held, slot_snoc}
use Rattle.gr_rules.specs.Frames.{Frame}
use Rattle.gr_rules.specs.Goroutines.{Goroutine}
use Rattle.gr_rules.specs.Operators.{same_channel}
use Rattle.gr_rules.specs.States.{State, Cell, put, gate_has, tail_has, head_has, slot_has, same_go, updated}
use Rattle.gr_code.specs.CodeFrames.{CodeFrame}
use Rattle.gr_refine.specs.Contents.{Contents, goroutine_of, state_of, with_channel}
use Rattle.gr_code.specs.Goroutines.{CodeGoroutine}
use Rattle.gr_refine.specs.Changes.{Writes, WritesInTurn, RunIsWritten, GoroutineIsWritten, GoneIsWritten, GateIsWritten, EnteringIsWritten, LeavingIsWritten, MovingUpIsWritten, MakingIsWritten, UnmakingIsWritten}
use Rattle.gr_refine.proofs.NameLemmas.{kept, changed}

-- states with the same contents are equal
pub states : (s t : State) → s.run ≡ t.run → ((n : List ℕ) → s.goroutines n ≡ t.goroutines n) → ((c : ChName) → s.gates c ≡ t.gates c)
    → ((c : ChName) → s.tails c ≡ t.tails c) → ((c : ChName) → s.heads c ≡ t.heads c) → ((c : ChName) → s.slots c ≡ t.slots c) → s ≡ t
states s t r g c k d l = λ i. record { run = r i; goroutines = λ n. g n i; gates = λ n. c n i; tails = λ n. k n i; heads = λ n. d n i; slots = λ n. l n i }

-- the objects of a channel that may be there
abbrev pub gate_at : Option Content → Option GateContent
gate_at o = option_map gate_of o

abbrev pub tail_at : Option Content → ℕ
tail_at o = option_map_or tail_of o 0

abbrev pub head_at : Option Content → ℕ
head_at o = option_map_or head_of o 0

abbrev pub slots_at : Option Content → ℕ → Option (ℕ × Value)
slots_at o i = option_and_then (λ x. slot_of x i) o

pub run_is_written : RunIsWritten
run_is_written frame s r = refl

at_name : (f : List ℕ → Option CodeGoroutine) (F : CodeGoroutine → Goroutine) (n : List ℕ) (x : Option CodeGoroutine) (m : List ℕ)
    → option_map F (updated same_go f n x m) ≡ updated same_go (λ k. option_map F (f k)) n (option_map F x) m
at_name f F n x m = elim (cases_Bool (same_go m n)) [
  | inl t ↦ ap (λ b. option_map F (if b then x else f m)) t ∙ sym (ap (λ b. if b then option_map F x else option_map F (f m)) t)
  | inr e ↦ ap (λ b. option_map F (if b then x else f m)) e ∙ sym (ap (λ b. if b then option_map F x else option_map F (f m)) e)
]

pub goroutine_is_written : GoroutineIsWritten
goroutine_is_written frame s n g =
    states _ _ refl (at_name s.goroutines (goroutine_of frame) n (Some g)) (λ c. refl) (λ c. refl) (λ c. refl) (λ c. refl)

pub gone_is_written : GoneIsWritten
gone_is_written frame s n =
    states _ _ refl (at_name s.goroutines (goroutine_of frame) n None) (λ c. refl) (λ c. refl) (λ c. refl) (λ c. refl)

last_item : {X : Type 0} → (xs : List X) (v : X) → slice_get (xs ++ v ∷ []) (length xs) ≡ Some v
last_item [] v = refl
last_item (x ∷ xs) v = last_item xs v

-- a channel that is there changes, or goes away: what the cells are told to be, each object is
module _ (frame : CodeFrame → Frame) (s : Contents) (c : ChName) (x : Content) (there : s.channels c ≡ Some x) where
  tail_kept : (y : Option Content) → tail_at y ≡ tail_of x → (d : ChName) → tail_at (updated same_channel s.channels c y d) ≡ tail_at (s.channels d)
  tail_kept y e d = kept tail_at s.channels c y (e ∙ ap tail_at (sym there)) d

  head_kept : (y : Option Content) → head_at y ≡ x.head → (d : ChName) → head_at (updated same_channel s.channels c y d) ≡ head_at (s.channels d)
  head_kept y e d = kept head_at s.channels c y (e ∙ ap head_at (sym there)) d

  gate_kept : (y : Option Content) → gate_at y ≡ Some (gate_of x) → (d : ChName) → gate_at (updated same_channel s.channels c y d) ≡ gate_at (s.channels d)
  gate_kept y e d = kept gate_at s.channels c y (e ∙ ap gate_at (sym there)) d

  slots_kept : (y : Option Content) → ((i : ℕ) → slots_at y i ≡ slot_of x i) → (d : ChName)
      → slots_at (updated same_channel s.channels c y d) ≡ slots_at (s.channels d)
  slots_kept y e d = kept slots_at s.channels c y ((λ k i. e i k) ∙ ap slots_at (sym there)) d

  slot_changed : (y : Option Content) (i : ℕ) (item : Option (ℕ × Value)) → ((j : ℕ) → slots_at y j ≡ updated nat_eq (slot_of x) i item j)
      → (d : ChName) → slots_at (updated same_channel s.channels c y d)
      ≡ updated same_channel (λ k. slots_at (s.channels k)) c (updated nat_eq (slots_at (s.channels c)) i item) d
  slot_changed y i item e d =
      changed slots_at s.channels c y (updated nat_eq (slots_at (s.channels c)) i item)
      ((λ k j. e j k) ∙ ap (λ o. updated nat_eq (slots_at o) i item) (sym there)) d

  pub gate_written : (y : Content) → y.capacity ≡ x.capacity → y.head ≡ x.head → y.items ≡ x.items
      → Writes frame s (with_channel s c (Some y)) (gate_has c (Some (gate_of y)) ∷ [])
  gate_written y capacity head items =
      let tail : tail_of y ≡ tail_of x = (ap (λ h. h + length y.items) head ∙ ap (λ (vs : List Value). x.head + length vs) items) in
      states _ _ refl (λ n. refl) (changed gate_at s.channels c (Some y) (Some (gate_of y)) refl)
      (tail_kept (Some y) tail) (head_kept (Some y) head)
      (slots_kept (Some y) (λ i. ap (λ n. slot_from n i y.head y.items) capacity ∙ ap (λ n. slot_from x.capacity i n y.items) head
      ∙ ap (slot_from x.capacity i x.head) items))

  pub unmade_written : x.head ≡ 0 → x.items ≡ [] → Writes frame s (with_channel s c None) (gate_has c None ∷ [])
  unmade_written head items =
      let tail : 0 ≡ tail_of x = omega (arith, ap (λ (vs : List Value). length vs) items) in
      states _ _ refl (λ n. refl) (changed gate_at s.channels c None None refl)
      (tail_kept None tail) (head_kept None (sym head)) (slots_kept None (λ i. ap (slot_from x.capacity i x.head) (sym items)))

  entered_slot : (v : Value) → length x.items < x.capacity
      → (j : ℕ) → slot_from x.capacity j x.head (x.items ++ v ∷ []) ≡ updated nat_eq (slot_of x) (tail_of x % x.capacity) (Some (tail_of x, v)) j
  entered_slot v room j = elim (eqb_tells j (tail_of x % x.capacity)) [
    | inl h ↦ rw (h.0) (slot_held x.capacity j x.head (x.items ++ v ∷ []) (length x.items) v (omega (arith, length-append x.items (v ∷ [])))
        (last_item x.items v) (sym (h.1)))
    | inr h ↦ rw (h.0) (slot_snoc x.capacity j x.head x.items v (λ e. h.1 (sym e)))
  ]

  pub entering_written : (v : Value) → length x.items < x.capacity → Writes frame s (with_channel s c (Some (record x { items = x.items ++ v ∷ [] })))
      (tail_has c (tail_of x + 1) ∷ slot_has c (tail_of x % x.capacity) (Some (tail_of x, v)) ∷ [])
  entering_written v room =
      let y : Content = record x { items = x.items ++ v ∷ [] } in
      let tail : tail_of y ≡ tail_of x + 1 = omega (arith, length-append x.items (v ∷ [])) in
      states _ _ refl (λ n. refl) (gate_kept (Some y) refl)
      (changed tail_at s.channels c (Some y) (tail_of x + 1) tail) (head_kept (Some y) refl)
      (slot_changed (Some y) (tail_of x % x.capacity) (Some (tail_of x, v)) (entered_slot v room))

  left_slot : (v : Value) (rest : List Value) → IsChannel x → x.items ≡ v ∷ rest
      → (j : ℕ) → slot_from x.capacity j (x.head + 1) rest ≡ updated nat_eq (slot_of x) (x.head % x.capacity) None j
  left_slot v rest valid items j =
      let within : length x.items ≤ x.capacity = valid.within in
      let long : length x.items ≡ suc (length rest) = ap length items in
      elim (eqb_tells j (x.head % x.capacity)) [
        | inl h ↦ rw (h.0) (subst (λ i. slot_from x.capacity i (x.head + 1) rest ≡ None) (sym (h.1)) (slot_before x.capacity x.head rest (omega arith)))
        | inr h ↦ rw (h.0) (sym (slot_rest x.capacity j x.head v rest (λ e. h.1 (sym e))) ∙ ap (slot_from x.capacity j x.head) (sym items))
      ]

  pub leaving_written : (v : Value) (rest : List Value) → IsChannel x → x.items ≡ v ∷ rest
      → Writes frame s (with_channel s c (Some (record x { head = x.head + 1; items = rest })))
      (head_has c (x.head + 1) ∷ slot_has c (x.head % x.capacity) None ∷ [])
  leaving_written v rest valid items =
      let y : Content = record x { head = x.head + 1; items = rest } in
      let tail : tail_of y ≡ tail_of x = omega (arith, ap (λ (vs : List Value). length vs) items) in
      states _ _ refl (λ n. refl) (gate_kept (Some y) refl) (tail_kept (Some y) tail)
      (changed head_at s.channels c (Some y) (x.head + 1) refl) (slot_changed (Some y) (x.head % x.capacity) None (left_slot v rest valid items))

  moved_slot : (v w : Value) (rest : List Value) → x.items ≡ v ∷ rest → length x.items ≡ x.capacity
      → (j : ℕ) → slot_from x.capacity j (x.head + 1) (rest ++ w ∷ []) ≡ updated nat_eq (slot_of x) (x.head % x.capacity) (Some (tail_of x, w)) j
  moved_slot v w rest items full j =
      let long : length x.items ≡ suc (length rest) = ap length items in
      let number : x.head + 1 + length rest ≡ tail_of x = omega arith in
      let round : x.head + 1 + length rest ≡ x.head + x.capacity = omega arith in
      let own : (x.head + 1 + length rest) % x.capacity ≡ x.head % x.capacity = ap (λ k. k % x.capacity) round ∙ add-mod_right x.head x.capacity in
      elim (eqb_tells j (x.head % x.capacity)) [
        | inl h ↦ rw (h.0) (
            slot_held x.capacity j (x.head + 1) (rest ++ w ∷ []) (length rest) w (omega (arith, length-append rest (w ∷ []))) (last_item rest w)
            (own ∙ sym (h.1))
            ∙ ap (λ k. Some (k, w)) number)
        | inr h ↦ rw (h.0) (
            slot_snoc x.capacity j (x.head + 1) rest w (λ e. h.1 (sym e ∙ own))
            ∙ sym (slot_rest x.capacity j x.head v rest (λ e. h.1 (sym e)))
            ∙ ap (slot_from x.capacity j x.head) (sym items))
      ]

  pub moving_up_written : (y : Content) (v w : Value) (rest : List Value) → x.items ≡ v ∷ rest → length x.items ≡ x.capacity
      → y.capacity ≡ x.capacity → y.head ≡ x.head + 1 → y.items ≡ rest ++ w ∷ []
      → Writes frame s (with_channel s c (Some y)) (gate_has c (Some (gate_of y)) ∷ head_has c (x.head + 1) ∷ tail_has c (tail_of x + 1)
      ∷ slot_has c (x.head % x.capacity) (Some (tail_of x, w)) ∷ [])
  moving_up_written y v w rest items full capacity head entered =
      let long : length x.items ≡ suc (length rest) = ap length items in
      let more : length y.items ≡ length rest + 1 = ap length entered ∙ length-append rest (w ∷ []) in
      let tail : tail_of y ≡ tail_of x + 1 = omega arith in
      states _ _ refl (λ n. refl) (changed gate_at s.channels c (Some y) (Some (gate_of y)) refl)
      (changed tail_at s.channels c (Some y) (tail_of x + 1) tail) (changed head_at s.channels c (Some y) (x.head + 1) head)
      (slot_changed (Some y) (x.head % x.capacity) (Some (tail_of x, w)) (λ j.
      ap (λ n. slot_from n j y.head y.items) capacity ∙ ap (λ n. slot_from x.capacity j n y.items) head ∙ ap (slot_from x.capacity j (x.head + 1)) entered
      ∙ moved_slot v w rest items full j))

pub gate_is_written : GateIsWritten
gate_is_written frame s c x y there capacity head items = gate_written frame s c x there y capacity head items

pub entering_is_written : EnteringIsWritten
entering_is_written frame s c x y v there room is =
    subst (λ z. Writes frame s (with_channel s c (Some z)) (tail_has c (tail_of x + 1) ∷ slot_has c (tail_of x % x.capacity) (Some (tail_of x, v)) ∷ []))
    (sym is)
    (entering_written frame s c x there v room)

pub leaving_is_written : LeavingIsWritten
leaving_is_written frame s c x y v rest there valid items is =
    subst (λ z. Writes frame s (with_channel s c (Some z)) (head_has c (x.head + 1) ∷ slot_has c (x.head % x.capacity) None ∷ [])) (sym is)
    (leaving_written frame s c x there v rest valid items)

pub moving_up_is_written : MovingUpIsWritten
moving_up_is_written frame s c x y v w rest there items full capacity head entered =
    moving_up_written frame s c x there y v w rest items full capacity head entered

pub making_is_written : MakingIsWritten
making_is_written frame s c y none head items =
    let tail : tail_of y ≡ 0 = omega (arith, ap (λ (vs : List Value). length vs) items) in
    states _ _ refl (λ n. refl) (changed gate_at s.channels c (Some y) (Some (gate_of y)) refl)
    (kept tail_at s.channels c (Some y) (tail ∙ ap tail_at (sym none)))
    (kept head_at s.channels c (Some y) (head ∙ ap head_at (sym none)))
    (kept slots_at s.channels c (Some y) ((λ k i. slot_from y.capacity i y.head (items k)) ∙ ap slots_at (sym none)))

pub unmaking_is_written : UnmakingIsWritten
unmaking_is_written frame s c x there head items = unmade_written frame s c x there head items

fold_on : (t : State) (before after : List Cell) → fold put (fold put t before) after ≡ fold put t (before ++ after)
fold_on t [] after = refl
fold_on t (x ∷ xs) after = fold_on (put t x) xs after

pub writes_in_turn : WritesInTurn
writes_in_turn frame s t u before after first second =
    second ∙ ap (λ (x : State). fold put x after) first ∙ fold_on (state_of frame s) before after
