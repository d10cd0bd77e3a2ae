-- A goroutine that changed in its place, by its name.
use Rattle.std.proofs.Common.{◌≡◌, ◌≤◌, ◌<◌, ◌+◌, ◌^◌, ℕ, Bool, true, false, List, [], Option, Some, None, refl, slice_get, sym, ap, subst, ◌∙◌}
use Rattle.std.proofs.Common.{if◌then◌else◌, arith}
use Rattle.std.specs.Prelude.{is_some, option_map}
use Rattle.std.specs.Cmp.Lexicographic.{same_text}
use Rattle.gr_base.specs.declared.events.Event.{Event}
use Rattle.gr_channels.specs.Channels.{Room}
use Rattle.gr_base.specs.declared.names.ChName.{ChName}
use Rattle.gr_channels.specs.declared.changes.ChanUndo.{ChanUndo}
use Rattle.gr_program.specs.Programs.{Program}
use Rattle.gr_rules.specs.States.{same_go, updated}
use Rattle.gr_code.specs.Goroutines.{CodeGoroutine}
use Rattle.gr_goros.specs.Views.{Seen}
use Rattle.gr_goros.specs.Undoing.{undone, need, Fits, Undoes}
use Rattle.gr_goros.specs.declared.undo.GoUndo.{GoUndo}
use Rattle.gr_tables.specs.NamedChannels.{HasRooms, rooms_of}
use Rattle.gr_tables.specs.NamedGoroutines.{goroutines_of, go_rooms_of, room_or_none, name_at, seen_at, seen_of, At, IsCounted, Changes, ChangesBy}
use Rattle.gr_tables.specs.NamedGoroutines.{ComesTo, TakenBack}
use Rattle.gr_tables.specs.declared.goroutines.Goroutines.{Goroutines}
use Rattle.gr_tables.proofs.ByNumber.{seen_named}
use Rattle.gr_step.specs.declared.objects.Objects.{Objects}
use Rattle.gr_record.specs.Effects.{Effect}
use Rattle.gr_record.specs.Records.{channels_changed}
use Rattle.gr_step.specs.Room.{HasRoom}
use Rattle.gr_step.specs.Premises.{Acting}
use Rattle.gr_step.proofs.ObjectLemmas.{change_was, change_is}
use Rattle.gr_step.proofs.OwnTakesLemmas.{same_name}

some_is : {X : Type 0} {x y : X} → Some x ≡ Some y → x ≡ y
some_is {X} {x} h = ap (λ o. elim o [ Some z ↦ z | None ↦ x ]) h

-- the goroutine of the name became this by a change that goes back, directly after which no memory is needed for that
pub record Placed (n : List ℕ) (g after : CodeGoroutine) (u : GoUndo) (old new : Goroutines) : Type 0 where
  pub is : goroutines_of new ≡ updated same_go (goroutines_of old) n (Some after)
  pub back : undone u after ≡ g
  pub fits : Fits u after
  pub room : need u ≤ go_rooms_of new n

module _ (number : ℕ) (n : List ℕ) (old new : Goroutines) (named : name_at old number ≡ Some n) (g : CodeGoroutine)
    (there : goroutines_of old n ≡ Some g) where
  -- what it was is the goroutine of the name
  pub was_content : (a b : Seen) → Changes number a b old new → a.content ≡ g
  was_content a b c = some_is (sym (change_was number n a b old new named c) ∙ there)

  room_is : (a b : Seen) → Changes number a b old new → go_rooms_of new n ≡ b.room
  room_is a b c =
      let name : c.sets.name ≡ n = some_is (sym c.sets.here ∙ named) in
      ap room_or_none ((λ j. c.sets.is j n) ∙ ap (λ (m : List ℕ). if same_go n m then Some b else seen_of old n) name
      ∙ ap (λ t. if t then Some b else seen_of old n) (same_name n))

  pub placed_at : (a b : Seen) (after : CodeGoroutine) (u : GoUndo) → Changes number a b old new → b.content ≡ after → Undoes u a b
      → Placed n g after u old new
  placed_at a b after u c is undoes = record {
    is = change_is number n a b old new named c ∙ ap (λ x. updated same_go (goroutines_of old) n (Some x)) is;
    back = ap (undone u) (sym is) ∙ undoes.back ∙ was_content a b c;
    fits = subst {_, _} (Fits u) is undoes.fits;
    room = subst {_, _} (λ r. need u ≤ r) (sym (room_is a b c)) undoes.room;
  }

  -- a goroutine that was changed stands in its place, told by what the change comes to
  pub placed : (f : CodeGoroutine → CodeGoroutine) (u : GoUndo) → ChangesBy number (ComesTo f u) old new → Placed n g (f g) u old new
  placed f u c = placed_at c.0 c.1 (f g) u c.2 (c.3.0 ∙ ap f (was_content c.0 c.1 c.2)) c.3.1

  -- what is seen at the number after it
  pub seen_after : (a b : Seen) → Changes number a b old new → seen_at new number ≡ Some b
  seen_after a b c =
      let name : c.sets.name ≡ n = some_is (sym c.sets.here ∙ named) in
      seen_named new number n (ap (λ l. slice_get l number) c.sets.names ∙ named) ∙ (λ j. c.sets.is j n)
      ∙ ap (λ (m : List ℕ). if same_go n m then Some b else seen_of old n) name ∙ ap (λ t. if t then Some b else seen_of old n) (same_name n)

  pub named_after : (a b : Seen) → Changes number a b old new → name_at new number ≡ Some n
  named_after a b c = ap (λ l. slice_get l number) c.sets.names ∙ named

  -- the change can be taken back at the number
  pub can_undo : (a b : Seen) (u : GoUndo) → Changes number a b old new → Undoes u a b → At (λ x. Fits u x.content) (seen_at new number)
  can_undo a b u c undoes = subst {_, _} (At (λ (x : Seen). Fits u x.content)) (sym (seen_after a b c)) undoes.fits

  pub has_room : (a b : Seen) (u : GoUndo) → Changes number a b old new → Undoes u a b → At (λ x. need u ≤ x.room) (seen_at new number)
  has_room a b u c undoes = subst {_, _} (At (λ (x : Seen). need u ≤ x.room)) (sym (seen_after a b c)) undoes.room

-- a goroutine that is as it was
pub same_again : (f : List ℕ → Option CodeGoroutine) (n : List ℕ) (g after : CodeGoroutine) → f n ≡ Some g
    → updated same_go (updated same_go f n (Some after)) n (Some g) ≡ f
same_again f n g after there = λ j q. by q (same_go q n) refl j
  where
    by : (q : List ℕ) (b : Bool) → same_go q n ≡ b → (if b then Some g else (if b then Some after else f q)) ≡ f q
    by q true e = sym there ∙ sym (ap f (same_text q n (sym e)))
    by q false e = refl

-- a goroutine is as it was once its change is taken back
pub placed_back : (number : ℕ) (n : List ℕ) (g after : CodeGoroutine) (u : GoUndo) (old mid new : Goroutines) → name_at mid number ≡ Some n
    → goroutines_of old n ≡ Some g → Placed n g after u old mid → ChangesBy number (TakenBack u) mid new → goroutines_of new ≡ goroutines_of old
placed_back number n g after u old mid new named there own c =
    let here : goroutines_of mid n ≡ Some after =
    (λ j. own.is j n) ∙ ap (λ t. if t then Some after else goroutines_of old n) (same_name n) in
    change_is number n c.0 c.1 mid new named c.2
    ∙ ap (λ x. updated same_go (goroutines_of mid) n (Some x))
    (c.3.0 ∙ ap (undone u) (was_content number n mid new named after here c.0 c.1 c.2) ∙ own.back)
    ∙ ap (λ f. updated same_go f n (Some g)) own.is
    ∙ same_again (goroutines_of old) n g after there

-- what is seen alike contains the same
pub same_seen : (old new : Goroutines) → seen_of new ≡ seen_of old → goroutines_of new ≡ goroutines_of old
same_seen old new is = λ j q. option_map (λ g. g.content) (is j q)

-- no change of a channel needs no room
pub no_rooms : (us : List (ChName × ChanUndo)) (rooms : ChName → Room) → us ≡ [] → HasRooms us rooms
no_rooms us rooms is =
    subst {_, _} (λ us. HasRooms us rooms) (sym is)
    (λ q. record { items = omega arith; senders = omega arith; receivers = omega arith })

-- there is room for taking back a change that reaches no channel
pub own_room : (n : List ℕ) (c : Effect) (o : Objects) → need c.own ≤ go_rooms_of o.goroutines n → channels_changed c ≡ [] → HasRoom n c o
own_room n c o room none = record { frames = room; places = no_rooms (channels_changed c) (rooms_of o.channels) none }

-- what is true of the goroutine of a name is true at its number
module _ (m : Goroutines) (number : ℕ) (n : List ℕ) (g : CodeGoroutine) (named : name_at m number ≡ Some n) (there : goroutines_of m n ≡ Some g) where
  pub seen_there : (x : Seen) × (seen_at m number ≡ Some x) × (x.content ≡ g)
  seen_there = by (seen_of m n) refl
    where
      by : (x : Option Seen) → seen_of m n ≡ x → (y : Seen) × (seen_at m number ≡ Some y) × (y.content ≡ g)
      by None is = absurd (let no : None ≡ Some g = sym (ap (option_map (λ g. g.content)) is) ∙ there in cc)
      by (Some y) is = (y, seen_named m number n named ∙ is, some_is (sym (ap (option_map (λ g. g.content)) is) ∙ there))

  pub at_named : (P : CodeGoroutine → Type 0) → P g → At (λ x. P x.content) (seen_at m number)
  at_named P is =
      let s = seen_there in
      subst {_, _} (At (λ (x : Seen). P x.content)) (sym s.1) (subst {_, _} P (sym s.2) is)

-- one that is present is at its number
pub present_there : (m : Goroutines) (i : ℕ) (name : List ℕ) → name_at m i ≡ Some name → true ≡ is_some (seen_of m name) → ¬ (None ≡ seen_at m i)
present_there m i name named present none = let no : false ≡ true = ap is_some (none ∙ seen_named m i name named) ∙ sym present in cc

-- the goroutine that acts is at its number, and its count of steps can rise
module _ (p : Program) (e : Event) (number : ℕ) (o : Objects) (acting : Acting p e number o) where
  pub at_number : (P : CodeGoroutine → Type 0) → P acting.goroutine → At (λ x. P x.content) (seen_at o.goroutines number)
  at_number P is = at_named o.goroutines number e.go acting.goroutine acting.named acting.there P is

  pub counted_there : At IsCounted (seen_at o.goroutines number)
  counted_there = at_number (λ g. g.steps + 1 < 2 ^ 64) (acting.counted.steps e.go acting.goroutine acting.there)

  pub acting_there : ¬ (None ≡ seen_at o.goroutines number)
  acting_there none = subst {_, _} (At (λ (x : Seen). Unit {0})) (sym none) (at_number (λ g. Unit {0}) tt)

  -- what is found at its number
  pub found_content : (r : Option Seen) (x : Seen) → r ≡ seen_of o.goroutines e.go → r ≡ Some x → x.content ≡ acting.goroutine
  found_content r x is found = some_is (ap (option_map (λ g. g.content)) (sym found ∙ is) ∙ acting.there)
