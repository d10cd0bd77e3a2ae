-- What arrives at goroutines with their numbers, said of their names.
use Rattle.std.proofs.Common.{◌≡◌, ◌≤◌, ℕ, Bool, true, false, if◌then◌else◌, List, Option, Some, None, refl, sym, ap, subst, ◌∙◌, zero-le}
use Rattle.std.specs.Prelude.{option_map, slice_get}
use Rattle.gr_rules.specs.States.{same_go}
use Rattle.gr_code.specs.CodeFrames.{ProgramCode}
use Rattle.gr_code.specs.Goroutines.{CodeGoroutine, Arrival}
use Rattle.gr_refine.proofs.NameLemmas.{go_is, go_self}
use Rattle.gr_goros.specs.Undoing.{Fits, need, undone}
use Rattle.gr_goros.specs.Views.{Seen}
use Rattle.gr_goros.specs.declared.undo.GoUndo.{GoUndo}
use Rattle.gr_tables.specs.NamedGoroutines.{At, Arrives, ChangesBy, KeepsContents, TakenBack, goroutines_of, name_at, seen_at, seen_of}
use Rattle.gr_tables.specs.declared.goroutines.Goroutines.{Goroutines}
use Rattle.gr_tables.proofs.ByNumber.{seen_named}
use Rattle.gr_step.specs.Passing.{ArrivesAt}
use Rattle.gr_step.proofs.ObjectLemmas.{change_was, change_is}
use Rattle.gr_step.proofs.PassLemmas.{needs_no_frame}

-- what is true of a content is true of what is seen
of_content : (P : CodeGoroutine → Type 0) (o : Option Seen) → At P (option_map (λ g. g.content) o) → At (λ g. P g.content) o
of_content P None h = h
of_content P (Some g) h = h

pub at_number : (P : CodeGoroutine → Type 0) (number : ℕ) (n : List ℕ) (o : Goroutines) → name_at o number ≡ Some n → At P (goroutines_of o n)
    → At (λ g. P g.content) (seen_at o number)
at_number P number n o named h = subst {_, _} (At (λ (g : Seen). P g.content)) (sym (seen_named o number n named)) (of_content P (seen_of o n) h)

-- one that is there
pub is_there : (number : ℕ) (n : List ℕ) (o : Goroutines) (g : CodeGoroutine) → name_at o number ≡ Some n → goroutines_of o n ≡ Some g
    → (P : Seen → Type 0) → ((g : Seen) → P g) → At P (seen_at o number)
is_there number n o g named there P all = by_seen (seen_at o number) (at_number (λ h. Unit {0}) number n o named (subst {_, _} (At (λ h. Unit {0})) (sym there) tt))
  where
    by_seen : (x : Option Seen) → At (λ g. Unit {0}) x → At P x
    by_seen None h = h
    by_seen (Some g) h = all g

module _ (code : ProgramCode) (number : ℕ) (n : List ℕ) (arrival : Arrival) (u : GoUndo) (old new : Goroutines)
    (named : name_at old number ≡ Some n) (changes : ChangesBy number (Arrives code arrival u) old new) where
  pub arrives_at : ArrivesAt code n arrival u (goroutines_of old) (goroutines_of new)
  arrives_at = record {
    before = changes.0.content;
    after = changes.1.content;
    was = change_was number n changes.0 changes.1 old new named changes.2;
    is = change_is number n changes.0 changes.1 old new named changes.2;
    arrives = changes.3.0;
    back = changes.3.1.back;
    fits = changes.3.1.fits;
  }

  -- all names stay
  pub still_named : (other : ℕ) (m : List ℕ) → name_at old other ≡ Some m → name_at new other ≡ Some m
  still_named other m is = ap (λ ks. slice_get ks other) changes.2.sets.names ∙ is

  -- all other goroutines stay
  pub others_stay : (m : List ℕ) → same_go m n ≡ false → goroutines_of new m ≡ goroutines_of old m
  others_stay m apart = ap (λ (f : List ℕ → Option CodeGoroutine). f m) arrives_at.is ∙ ap (λ b. if b then Some arrives_at.after else goroutines_of old m) apart

  -- a change that another refused keeps, taken back
  module _ (kept : Goroutines) (keeps : KeepsContents new kept) where
    kept_named : name_at kept number ≡ Some n
    kept_named = ap (λ ks. slice_get ks number) keeps.names ∙ still_named number n named

    here : goroutines_of kept n ≡ Some arrives_at.after
    here = ap (λ (f : List ℕ → Option CodeGoroutine). f n) (keeps.goroutines ∙ arrives_at.is)
        ∙ ap (λ b. if b then Some arrives_at.after else goroutines_of old n) (go_self n)

    pub can_undo : At (λ g. Fits u g.content) (seen_at kept number)
    can_undo = at_number (Fits u) number n kept kept_named (subst {_, _} (At (Fits u)) (sym here) arrives_at.fits)

    pub has_room : At (λ g. need u ≤ g.room) (seen_at kept number)
    has_room = is_there number n kept arrives_at.after kept_named here (λ g. need u ≤ g.room)
        (λ g. subst {_, _} (λ k. k ≤ g.room) (sym (needs_no_frame code n arrival u (goroutines_of old) (goroutines_of new) arrives_at)) zero-le)

    pub undone_is : (back : Goroutines) → ChangesBy number (TakenBack u) kept back → goroutines_of back ≡ goroutines_of old
    undone_is back took =
        let was = change_was number n took.0 took.1 kept back kept_named took.2 in
        let is = change_is number n took.0 took.1 kept back kept_named took.2 in
        let content : took.1.content ≡ arrives_at.before = took.3.0 ∙ ap (undone u) (some_is (sym was ∙ here)) ∙ arrives_at.back in
        is ∙ (λ i q. all q content i)
      where
        some_is : {X : Type 0} {x y : X} → Some x ≡ Some y → x ≡ y
        some_is {X} {x} h = ap (λ (o : Option X). elim o [ Some z ↦ z | None ↦ x ]) h

        by_name : (b : Bool) (q : List ℕ) (x : CodeGoroutine) → same_go q n ≡ b → x ≡ arrives_at.before
            → (if b then Some x else (if b then Some arrives_at.after else goroutines_of old q)) ≡ goroutines_of old q
        by_name true q x e is = ap Some is ∙ sym (ap (goroutines_of old) (go_is q n e) ∙ arrives_at.was)
        by_name false q x e is = refl

        all : (q : List ℕ) → took.1.content ≡ arrives_at.before
            → (if same_go q n then Some took.1.content else goroutines_of kept q) ≡ goroutines_of old q
        all q is = ap (λ o. if same_go q n then Some took.1.content else o)
            (ap (λ (f : List ℕ → Option CodeGoroutine). f q) (keeps.goroutines ∙ arrives_at.is)) ∙ by_name (same_go q n) q took.1.content refl is
