-- Changes of goroutines taken back, the last first.
use Rattle.std.proofs.Common.{◌≡◌, ℕ, ◌≤◌, Bool, true, false, if◌then◌else◌, List, [], ◌∷◌, ◌++◌, Option, Some, None, refl, sym, ap, subst, ◌∙◌}
use Rattle.std.specs.Prelude.{is_some, option_map}
use Rattle.gr_rules.specs.States.{same_go, updated}
use Rattle.gr_code.specs.Goroutines.{CodeGoroutine}
use Rattle.gr_goros.specs.Undoing.{Fits, need}
use Rattle.gr_goros.specs.Views.{Seen}
use Rattle.gr_goros.specs.declared.undo.GoUndo.{GoUndo}
use Rattle.gr_refine.proofs.NameLemmas.{go_is}
use Rattle.gr_tables.specs.NamedGoroutines.{goroutines_of, name_at, seen_at, seen_of, room_or_none, go_rooms_of, At, Sets, ChangesBy, TakenBack}
use Rattle.gr_base.specs.declared.names.ChName.{ChName}
use Rattle.gr_rules.specs.Operators.{same_channel}
use Rattle.gr_tables.specs.NamedChannels as channels
use Rattle.gr_tables.specs.NamedChannels.{contents_of}
use Rattle.gr_tables.specs.declared.channels.Channels.{Channels}
use Rattle.gr_tables.specs.declared.goroutines.Goroutines.{Goroutines}
use Rattle.gr_tables.proofs.BackInOrder.{back_at-append, AllFit-first, AllFit-second}
use Rattle.gr_tables.proofs.ByNumber.{seen_named}
use Rattle.gr_record.specs.Records.{go_undone, go_back, GoFitsAt, GoesFit, NeedNoFrame, is_go, is_channel}
use Rattle.gr_step.proofs.ObjectLemmas.{set_goroutines, change_was, change_is}

-- what is true of the content of a goroutine that is there
at_content : (P : CodeGoroutine → Type 0) (x : Option Seen) → At P (option_map (λ g. g.content) x) → At (λ g. P g.content) x
at_content P None h = h
at_content P (Some g) h = h

-- an undo that fits the goroutine of a name fits the one with its number
pub fits_there : (u : GoUndo) (m : Goroutines) (number : ℕ) (n : List ℕ) → name_at m number ≡ Some n → GoFitsAt u (goroutines_of m n)
    → At (λ g. Fits u g.content) (seen_at m number)
fits_there u m number n named h =
    subst (At (λ g. Fits u g.content)) (sym (seen_named m number n named)) (at_content (Fits u) (seen_of m n) h)

-- where there is room for the goroutine of a name, there is room for the one with its number
pub room_there : (u : GoUndo) (m : Goroutines) (number : ℕ) (n : List ℕ) → name_at m number ≡ Some n → GoFitsAt u (goroutines_of m n)
    → need u ≤ go_rooms_of m n → At (λ g. need u ≤ g.room) (seen_at m number)
room_there u m number n named h room = subst (At (λ g. need u ≤ g.room)) (sym (seen_named m number n named)) (by (seen_of m n) h room)
  where
    by : (x : Option Seen) → GoFitsAt u (option_map (λ g. g.content) x) → need u ≤ room_or_none x → At (λ g. need u ≤ g.room) x
    by None h r = h
    by (Some g) h r = r

-- a goroutine that an undo fits is found
pub is_found : (u : GoUndo) (m : Goroutines) (n : List ℕ) → GoFitsAt u (goroutines_of m n) → is_some (seen_of m n) ≡ false → ⊥
is_found u m n h absent = by (seen_of m n) h absent
  where
    by : (x : Option Seen) → GoFitsAt u (option_map (λ g. g.content) x) → is_some x ≡ false → ⊥
    by None h e = h
    by (Some g) h e = let no : true ≡ false = e in cc

-- a change at one name, said of each
pub one_back : (u : GoUndo) (number : ℕ) (n : List ℕ) (old new : Goroutines) → name_at old number ≡ Some n → ChangesBy number (TakenBack u) old new
    → (q : List ℕ) → goroutines_of new q ≡ go_back ((n, u) ∷ []) q (goroutines_of old q)
one_back u number n old new named c q = (λ j. change_is number n c.0 c.1 old new named c.2 j q) ∙ by (same_go q n) refl
  where
    by : (b : Bool) → same_go q n ≡ b
        → (if b then Some c.1.content else goroutines_of old q) ≡ (if b then go_undone u (goroutines_of old q) else goroutines_of old q)
    by true e =
        ap Some c.3.0
        ∙ sym (ap (go_undone u) (ap (goroutines_of old) (go_is q n e) ∙ change_was number n c.0 c.1 old new named c.2))
    by false e = refl

-- a goroutine that is removed
pub one_gone : (number : ℕ) (n : List ℕ) (old new : Goroutines) → name_at old number ≡ Some n → Sets number None old new
    → (q : List ℕ) → goroutines_of new q ≡ (if is_go q (Some n) then None else goroutines_of old q)
one_gone number n old new named sets q = λ j. set_goroutines number n None old new named sets j q

-- no frame for the first of two lists, and for the last change
no_frame_first : (us vs : List (List ℕ × GoUndo)) → NeedNoFrame (us ++ vs) → NeedNoFrame us × NeedNoFrame vs
no_frame_first [] vs h = (tt, h)
no_frame_first (e ∷ us) vs h = let rest = no_frame_first us vs h.1 in ((h.0, rest.0), rest.1)

-- the last change is taken back, and the first ones are left
module _ (all us : List (List ℕ × GoUndo)) (n : List ℕ) (u : GoUndo) (are : all ≡ us ++ (n, u) ∷ []) where
  pub last_fits : (f : List ℕ → Option CodeGoroutine) → GoesFit all f → GoFitsAt u (f n)
  last_fits f h = (AllFit-second same_go go_undone GoFitsAt f f us ((n, u) ∷ []) (subst (λ es. GoesFit es f) are h)).0

  pub last_needs_none : NeedNoFrame all → need u ≡ 0
  last_needs_none h = (no_frame_first us ((n, u) ∷ []) (subst NeedNoFrame are h)).1.0

  pub first_need_none : NeedNoFrame all → NeedNoFrame us
  first_need_none h = (no_frame_first us ((n, u) ∷ []) (subst NeedNoFrame are h)).0

  module _ (f g : List ℕ → Option CodeGoroutine) (back : (q : List ℕ) → g q ≡ go_back ((n, u) ∷ []) q (f q)) where
    pub first_fit : GoesFit all f → GoesFit us g
    first_fit h = AllFit-first same_go go_undone GoFitsAt f g us ((n, u) ∷ []) (λ q. sym (back q)) (subst (λ es. GoesFit es f) are h)

    pub first_back : (q : List ℕ) → go_back us q (g q) ≡ go_back all q (f q)
    first_back q =
        ap (go_back us q) (back q) ∙ sym (back_at-append same_go go_undone us ((n, u) ∷ []) q (f q)) ∙ ap (λ es. go_back es q (f q)) (sym are)

-- a channel that is removed
pub one_unmade : (name : ChName) (old new : Channels) → channels.seen_of new ≡ updated same_channel (channels.seen_of old) name None
    → (q : ChName) → contents_of new q ≡ (if is_channel q (Some name) then None else contents_of old q)
one_unmade name old new is q = ap (λ f. option_map (λ c. c.content) (f q)) is ∙ by (same_channel q name)
  where
    by : (b : Bool) → option_map (λ c. c.content) (if b then None else channels.seen_of old q) ≡ (if b then None else contents_of old q)
    by true = refl
    by false = refl
