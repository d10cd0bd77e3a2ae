-- A change of the goroutine that acts: what it leaves, and that it goes back.
use Rattle.std.proofs.Common.{◌≡◌, ℕ, ◌≤◌, Bool, true, false, if◌then◌else◌, List, [], ◌∷◌, length, Option, Some, None, option_map, refl, sym, ap, subst, ◌∙◌, arith}
use Rattle.gr_base.specs.declared.events.Event.{Event}
use Rattle.gr_program.specs.Programs.{Program}
use Rattle.gr_rules.specs.States.{same_go, updated}
use Rattle.gr_code.specs.CodeFrames.{CodeFrame}
use Rattle.gr_code.specs.Goroutines.{CodeGoroutine}
use Rattle.gr_goros.specs.Views.{Seen}
use Rattle.gr_goros.specs.Undoing.{undone, Fits, need, Undoes, on_innermost, frame_before}
use Rattle.gr_goros.specs.declared.undo.GoUndo.{GoUndo}
use Rattle.gr_goros.specs.declared.undo.GoUndo.TheVariants as undos
use Rattle.gr_refine.proofs.NameLemmas.{go_is, go_self}
use Rattle.gr_tables.specs.NamedGoroutines.{seen_at, seen_of, goroutines_of, room_or_none, go_rooms_of, Changes, At}
use Rattle.gr_tables.proofs.ByNumber.{seen_named}
use Rattle.gr_step.specs.declared.objects.Objects.{Objects}
use Rattle.gr_record.specs.declared.record.Beyond.{Beyond}
use Rattle.gr_record.specs.Effects.{Effect}
use Rattle.gr_step.specs.Objects.{contents_in}
use Rattle.gr_record.specs.Records.{go_back, GoesFit, NeedNoFrame, FramesStay, goroutines_changed}
use Rattle.gr_step.specs.Premises.{Acting}
use Rattle.gr_step.proofs.ObjectLemmas.{change_was, change_is}

pub some_is : {X : Type 0} {x y : X} → Some x ≡ Some y → x ≡ y
some_is {X} {x} h = ap (λ o. elim o [ Some z ↦ z | None ↦ x ]) h

-- the goroutine that acts, by its number
pub acting_at : (p : Program) (e : Event) (number : ℕ) (o : Objects) (a : Acting p e number o) (P : Seen → Type 0)
    → ((x : Seen) → x.content ≡ a.goroutine → P x) → At P (seen_at o.goroutines number)
acting_at p e number o a P so =
    by_seen (seen_at o.goroutines number)
    (ap (option_map (λ x. x.content)) (seen_named o.goroutines number e.go a.named) ∙ a.there)
  where
    by_seen : (x : Option Seen) → option_map (λ x. x.content) x ≡ Some a.goroutine → At P x
    by_seen None is = absurd (let no : None ≡ Some a.goroutine = is in cc)
    by_seen (Some x) is = so x (some_is is)

-- a change that leaves as many frames needs no room for one to be taken back
pub no_frame : (u : GoUndo) (a b : CodeGoroutine) → undone u b ≡ a → length b.frames ≡ length a.frames → need u ≡ 0
no_frame (undos.Went f u) a b back same = refl
no_frame (undos.Printed n) a b back same = refl
no_frame (undos.Entered x) a b back same = refl
no_frame (undos.Left l) a b back same = absurd (more b.frames (ap (λ g. length g.frames) back ∙ sym same))
  where
    more : (fs : List CodeFrame) → length (l.value.frame ∷ on_innermost (frame_before l.value.caller) fs) ≡ length fs → ⊥
    more [] is = omega (arith, is)
    more (f ∷ fs) is = omega (arith, is)
no_frame (undos.Made f u) a b back same = refl
no_frame (undos.Began n) a b back same = refl
no_frame (undos.Met m) a b back same = refl
no_frame (undos.Parked x) a b back same = refl
no_frame (undos.Finished f) a b back same = refl
no_frame (undos.Faulted x) a b back same = refl
no_frame (undos.Retried s) a b back same = refl

pub frames_stay : (n : List ℕ) (c : Effect) → NeedNoFrame (goroutines_changed n c) → FramesStay n c
frames_stay n c none = by_beyond c.beyond
  where
    by_beyond : (o : Option Beyond) → elim o as (λ _. Type 0) [ Some b ↦ NeedNoFrame (goroutines_changed n c) | None ↦ Unit {0} ]
    by_beyond None = tt
    by_beyond (Some b) = none

-- what a change of the goroutine that acts leaves, and that it goes back
module _ (p : Program) (e : Event) (number : ℕ) (old new : Objects) (acting : Acting p e number old) (u : GoUndo) (a b : Seen)
    (changes : Changes number a b old.goroutines new.goroutines) (undoes : Undoes u a b) where
  pub own_was : (contents_in old).goroutines e.go ≡ Some a.content
  own_was = change_was number e.go a b old.goroutines new.goroutines acting.named changes

  pub own_is : goroutines_of new.goroutines ≡ updated same_go (goroutines_of old.goroutines) e.go (Some b.content)
  own_is = change_is number e.go a b old.goroutines new.goroutines acting.named changes

  pub own_now : goroutines_of new.goroutines e.go ≡ Some b.content
  own_now = ap (λ f. f e.go) own_is ∙ ap (λ t. if t then Some b.content else goroutines_of old.goroutines e.go) (go_self e.go)

  pub own_back : (q : List ℕ) → go_back ((e.go, u) ∷ []) q (goroutines_of new.goroutines q) ≡ goroutines_of old.goroutines q
  own_back q =
      ap (λ f. go_back ((e.go, u) ∷ []) q (f q)) own_is
      ∙ by_name (same_go q e.go) refl
    where
      by_name : (t : Bool) → same_go q e.go ≡ t
          → (if same_go q e.go then option_map (undone u) (if same_go q e.go then Some b.content else goroutines_of old.goroutines q)
          else (if same_go q e.go then Some b.content else goroutines_of old.goroutines q)) ≡ goroutines_of old.goroutines q
      by_name true t = rw t (ap Some undoes.back ∙ sym own_was ∙ ap (goroutines_of old.goroutines) (sym (go_is q e.go t)))
      by_name false t = rw t refl

  pub own_fits : GoesFit ((e.go, u) ∷ []) (goroutines_of new.goroutines)
  own_fits = (subst (At (Fits u)) (sym own_now) undoes.fits, tt)

  pub own_room : need u ≤ go_rooms_of new.goroutines e.go
  own_room =
      let sets = changes.sets in
      let name : sets.name ≡ e.go = some_is (sym sets.here ∙ acting.named) in
      let here : same_go e.go sets.name ≡ true = ap (same_go e.go) name ∙ go_self e.go in
      let room : go_rooms_of new.goroutines e.go ≡ b.room =
      ap (λ f. room_or_none (f e.go)) sets.is
      ∙ ap (λ t. room_or_none (if t then Some b else seen_of old.goroutines e.go)) here in
      subst (λ n. need u ≤ n) (sym room) undoes.room
