-- Touches that are added for one object or for some, and then for others; what a refusal in between takes away.
use Rattle.std.proofs.Common.{◌≡◌, ℕ, Bool, true, false, if◌then◌else◌, List, [], ◌∷◌, ◌++◌, Option, Some, None, Result, Ok, Err, refl, sym, ap, subst, ◌∙◌, append_assoc}
use Rattle.std.specs.Prelude.{option_map, OnOk, OnErr, IsOk}
use Rattle.indexmap.specs.IndexMap.{get}
use Rattle.gr_base.specs.declared.names.ChName.{ChName}
use Rattle.gr_base.specs.declared.objects.Object.{Object}
use Rattle.gr_base.specs.declared.objects.Object.TheVariants.{Run, Go, Gate, Tail, Head}
use Rattle.gr_rules.specs.States.{same}
use Rattle.gr_record.specs.declared.record.Beyond.{Beyond}
use Rattle.gr_record.specs.declared.record.Operation.{Operation}
use Rattle.gr_record.specs.declared.record.Parts.{Parts}
use Rattle.gr_record.specs.declared.record.Parts.TheVariants as parts
use Rattle.gr_record.specs.declared.record.Record.{Record}
use Rattle.gr_record.specs.Conflicts.{read_by, written_by}
use Rattle.gr_record.specs.Parts.{channel_in, parts_before, partner_before, slot_before, read_by_more, written_by_more, reads_in, writes_in}
use Rattle.gr_touches.specs.declared.touch.Touch.{Touch}
use Rattle.gr_touches.specs.declared.lanes.Lanes.{Lanes}
use Rattle.gr_touches.specs.Touches.{touches_for, kept_for}
use Rattle.gr_touches.specs.Lists.{list_of, AddsFor, TakesFor, KeepsLists}
use Rattle.gr_touches.specs.Room.{Fits, FitsFor, KeepsRoom, Notes, NotesFor, NotesStep}
use Rattle.gr_touches.proofs.NoteLemmas.{touches_both, added_both}
use Rattle.gr_touches.proofs.ToldLemmas.{no_channel}
use Rattle.gr_touches.proofs.RoomLemmas.{fits_less, fits_written, no_room}

-- what was added is taken away again
pub keeps_all : (a b c d : Lanes) (t : Touch) (os : List Object) → AddsFor os t a b → KeepsLists b c → TakesFor os c d → KeepsLists a d
keeps_all a b c d t os adds kept takes = takes (list_of a) t (λ q. kept q ∙ adds q)

module _ (a : Lanes) (t : Touch) (xs ys : List Object) where
  cut : (q : Object) → (list_of a q ++ touches_for q t xs) ++ touches_for q t ys ≡ list_of a q ++ touches_for q t (xs ++ ys)
  cut q = append_assoc (list_of a q) (touches_for q t xs) (touches_for q t ys) ∙ ap (λ l. list_of a q ++ l) (sym (touches_both q t xs ys))

  -- a touch that fits for all of these objects fits for the first of them
  pub start_fits : FitsFor (xs ++ ys) t a → FitsFor xs t a
  start_fits = fits_less a (λ q. list_of a q ++ touches_for q t xs) (λ q. list_of a q ++ touches_for q t (xs ++ ys)) (λ q. (touches_for q t ys, cut q))

  -- with these added, the others fit
  pub end_fits : (b : Lanes) → AddsFor xs t a b → KeepsRoom a b → FitsFor (xs ++ ys) t a → FitsFor ys t b
  end_fits b done room fits =
      room (λ q. list_of b q ++ touches_for q t ys)
      (subst (Fits a) (λ i q. (sym (cut q) ∙ ap (λ l. l ++ touches_for q t ys) (sym (done q))) i) fits)

-- parts of a channel come before whatever else there is
pub slot_split : (c : ChName) (slot : Option ℕ) (os : List Object) → slot_before c slot [] ++ os ≡ slot_before c slot os
slot_split c None os = refl
slot_split c (Some place) os = refl

pub parts_split : (p : Parts) (slot : Option ℕ) (o : Option ChName) (os : List Object) → parts_before p slot o [] ++ os ≡ parts_before p slot o os
parts_split parts.Nothing slot o os = refl
parts_split parts.Gate slot None os = refl
parts_split parts.Gate slot (Some c) os = refl
parts_split parts.Entrance slot None os = refl
parts_split parts.Entrance slot (Some c) os = ap (λ l. Tail c ∷ l) (slot_split c slot os)
parts_split parts.Exit slot None os = refl
parts_split parts.Exit slot (Some c) os = ap (λ l. Head c ∷ l) (slot_split c slot os)
parts_split parts.GateAndExit slot None os = refl
parts_split parts.GateAndExit slot (Some c) os = ap (λ l. Gate c ∷ Head c ∷ l) (slot_split c slot os)
parts_split parts.All slot None os = refl
parts_split parts.All slot (Some c) os = ap (λ l. Gate c ∷ Head c ∷ Tail c ∷ l) (slot_split c slot os)

pub parts_first : (p : Parts) (slot : Option ℕ) (o : Option Operation) (operation : Operation) (c : ChName) (os : List Object)
    → o ≡ Some operation → c ≡ channel_in operation → parts_before p slot (Some c) [] ++ os ≡ parts_before p slot (option_map channel_in o) os
parts_first p slot o operation c os is on =
    parts_split p slot (Some c) os ∙ ap (λ n. parts_before p slot (Some n) os) on ∙ ap (λ m. parts_before p slot (option_map channel_in m) os) (sym is)

pub parts_none : (p : Parts) (slot : Option ℕ) (o : Option Operation) (os : List Object) → o ≡ None → os ≡ parts_before p slot (option_map channel_in o) os
parts_none p slot o os none = sym (no_channel p slot os) ∙ ap (λ m. parts_before p slot (option_map channel_in m) os) (sym none)

-- what a step wrote, but for its goroutine
pub writes_unmet : (b : Beyond) (os : List Object) → os ≡ written_by_more b.more → b.partner ≡ None
    → parts_before b.touched.written b.touched.slot (option_map channel_in b.operation) os ≡ writes_in b
writes_unmet b os more none =
    ap (parts_before b.touched.written b.touched.slot (option_map channel_in b.operation)) (more ∙ ap (λ p. partner_before p (written_by_more b.more)) (sym none))

pub writes_met : (b : Beyond) (g : List ℕ) (os : List Object) → os ≡ written_by_more b.more → b.partner ≡ Some g
    → parts_before b.touched.written b.touched.slot (option_map channel_in b.operation) [] ++ Go g ∷ os ≡ writes_in b
writes_met b g os more met =
    parts_split b.touched.written b.touched.slot (option_map channel_in b.operation) (Go g ∷ os)
    ∙ ap (parts_before b.touched.written b.touched.slot (option_map channel_in b.operation))
    (ap (λ l. Go g ∷ l) more ∙ ap (λ p. partner_before p (written_by_more b.more)) (sym met))

-- what a step touched that reached further than its goroutine
abbrev pub reads_with_run : Beyond → List Object
reads_with_run b = if b.stops then reads_in b else Run ∷ reads_in b

pub read_further : (r : Record) (b : Beyond) → r.change.beyond ≡ Some b → read_by r ≡ reads_with_run b
read_further r b is = ap (λ o. read_by (record r { change = record (r.change) { beyond = o } })) is

pub written_further : (r : Record) (b : Beyond) → r.change.beyond ≡ Some b → written_by r ≡ Go r.id.go ∷ writes_in b
written_further r b is = ap (λ o. written_by (record r { change = record (r.change) { beyond = o } })) is

-- what a step read that did not end the program
pub reads_told : (b : Beyond) (os : List Object) → os ≡ read_by_more b.more
    → parts_before b.touched.read b.touched.slot (option_map channel_in b.operation) os ≡ reads_in b
reads_told b os more = ap (parts_before b.touched.read b.touched.slot (option_map channel_in b.operation)) more

pub reads_going : (b : Beyond) → b.stops ≡ false → Run ∷ reads_in b ≡ reads_with_run b
reads_going b on = ap (λ (s : Bool). if s then reads_in b else Run ∷ reads_in b) (sym on)

pub reads_stopping : (b : Beyond) → b.stops ≡ true → reads_in b ≡ reads_with_run b
reads_stopping b stop = ap (λ (s : Bool). if s then reads_in b else Run ∷ reads_in b) (sym stop)

-- what fits of a step fits of what it read
pub fits_read : (a : Lanes) (place : ℕ) (r : Record) (rs : List Object) → read_by r ≡ rs → Fits a (λ q. list_of a q ++ kept_for q place r)
    → FitsFor rs (record { place = place; writes = false }) a
fits_read a place r rs read fits =
    subst (λ (os : List Object). FitsFor os (record { place = place; writes = false }) a) read
    (fits_less a (λ q. list_of a q ++ touches_for q (record { place = place; writes = false }) (read_by r)) (λ q. list_of a q ++ kept_for q place r)
    (λ q. (touches_for q (record { place = place; writes = true }) (written_by r), append_assoc (list_of a q) _ _)) fits)

-- with what it read added, and then what it wrote, what is kept of a step is added
pub both_kept : (a b c : Lanes) (place : ℕ) (r : Record) (rs ws : List Object) → read_by r ≡ rs → written_by r ≡ ws
    → AddsFor rs (record { place = place; writes = false }) a b → AddsFor ws (record { place = place; writes = true }) b c
    → (q : Object) → list_of c q ≡ list_of a q ++ kept_for q place r
both_kept a b c place r rs ws read wrote first second q =
    let reading : Touch = record { place = place; writes = false } in
    let writing : Touch = record { place = place; writes = true } in
    second q ∙ ap (λ l. l ++ touches_for q writing ws) (first q) ∙ append_assoc (list_of a q) (touches_for q reading rs) (touches_for q writing ws)
    ∙ ap (λ l. list_of a q ++ (touches_for q reading l ++ touches_for q writing ws)) (sym read)
    ∙ ap (λ l. list_of a q ++ (touches_for q reading (read_by r) ++ touches_for q writing l)) (sym wrote)

was_err : {A E : Type 0} (r : Result A E) (e : E) (P : Type 0) → r ≡ Err e → OnErr r P → P
was_err (Err x) e P is h = h
was_err (Ok x) e P is h = absurd (let no : Ok x ≡ Err e = is in cc)

not_ok : {A E : Type 0} (r : Result A E) (e : E) → r ≡ Err e → IsOk r → ⊥
not_ok (Err x) e is h = let no : false ≡ true = h in absurd (let never : false ≡ true = no in cc)
not_ok (Ok x) e is h = absurd (let no : Ok x ≡ Err e = is in cc)

was_ok : {A E : Type 0} (r : Result A E) (x : A) (P : Type 0) → r ≡ Ok x → OnOk r P → P
was_ok (Ok y) x P is h = h
was_ok (Err e) x P is h = absurd (let no : Err e ≡ Ok x = is in cc)

-- a refusal, and a success
refused : {A E : Type 0} (r : Result A E) (e : E) (done fits : Type 0) (a b : Lanes) → r ≡ Err e → KeepsLists a b → (fits → ⊥) → KeepsRoom a b
    → Notes r done fits a b
refused (Err x) e done fits a b is kept never room = record { ok = tt; err = kept; succeeds = λ h. absurd (never h); room = room }
refused (Ok x) e done fits a b is kept never room = absurd (let no : Ok x ≡ Err e = is in cc)

noted : {A E : Type 0} (r : Result A E) (x : A) (done fits : Type 0) (a b : Lanes) → r ≡ Ok x → done → KeepsRoom a b → Notes r done fits a b
noted (Ok y) x done fits a b is has room = record { ok = has; err = tt; succeeds = λ h. refl; room = room }
noted (Err e) x done fits a b is has room = absurd (let no : Err e ≡ Ok x = is in cc)

then_room : (a b c : Lanes) → KeepsRoom a b → KeepsRoom b c → KeepsRoom a c
then_room a b c first second lists fits = second lists (first lists fits)

-- a list of objects, and an equal one
pub noted_as : {A E : Type 0} {r : Result A E} (a b : Lanes) (t : Touch) (os ps : List Object) → os ≡ ps → NotesFor r os t a b → NotesFor r ps t a b
noted_as {r = r} a b t os ps is = subst (λ (l : List Object). NotesFor r l t a b) is

-- a touch, and an equal one
pub noted_with : {A E : Type 0} {r : Result A E} (a b : Lanes) (os : List Object) {t u : Touch} → t ≡ u → NotesFor r os t a b → NotesFor r os u a b
noted_with {r = r} a b os is = subst (λ v. NotesFor r os v a b) is

-- a touch for the first objects, and then for the others: refused for the first, refused for the others, or noted for all
pub first_refused : {A B E F : Type 0} {q : Result A E} {e : E} {r : Result B F} {f : F} (a b : Lanes) (t : Touch) (xs ys : List Object)
    → q ≡ Err e → r ≡ Err f → NotesFor q xs t a b → NotesFor r (xs ++ ys) t a b
first_refused {q = q} {e = e} {r = r} {f = f} a b t xs ys was is first =
    refused r f (AddsFor (xs ++ ys) t a b) (FitsFor (xs ++ ys) t a) a b is (was_err q e (KeepsLists a b) was first.err)
    (λ fits. not_ok q e was (first.succeeds (start_fits a t xs ys fits))) first.room

pub second_refused : {A B C E F G : Type 0} {p : Result A E} {x : A} {q : Result B F} {e : F} {r : Result C G} {f : G} (a b c d : Lanes) (t : Touch) (xs ys : List Object)
    → p ≡ Ok x → q ≡ Err e → r ≡ Err f → NotesFor p xs t a b → NotesFor q ys t b c → TakesFor xs c d → KeepsRoom c d → NotesFor r (xs ++ ys) t a d
second_refused {p = p} {x = x} {q = q} {e = e} {r = r} {f = f} a b c d t xs ys had was is first second takes keeps =
    let done = was_ok p x (AddsFor xs t a b) had first.ok in
    refused r f (AddsFor (xs ++ ys) t a d) (FitsFor (xs ++ ys) t a) a d is
    (keeps_all a b c d t xs done (was_err q e (KeepsLists b c) was second.err) takes)
    (λ fits. not_ok q e was (second.succeeds (end_fits a t xs ys b done first.room fits)))
    (then_room a c d (then_room a b c first.room second.room) keeps)

pub both_noted : {A B C E F G : Type 0} {p : Result A E} {x : A} {q : Result B F} {y : B} {r : Result C G} {z : C} (a b c : Lanes) (t : Touch) (xs ys : List Object)
    → p ≡ Ok x → q ≡ Ok y → r ≡ Ok z → NotesFor p xs t a b → NotesFor q ys t b c → NotesFor r (xs ++ ys) t a c
both_noted {p = p} {x = x} {q = q} {y = y} {r = r} {z = z} a b c t xs ys had has is first second =
    noted r z (AddsFor (xs ++ ys) t a c) (FitsFor (xs ++ ys) t a) a c is
    (added_both a b c xs ys t (was_ok p x (AddsFor xs t a b) had first.ok) (was_ok q y (AddsFor ys t b c) has second.ok))
    (then_room a b c first.room second.room)

-- an object without a lane has no room
pub none_refused : {A E : Type 0} {r : Result A E} {e : E} (a : Lanes) (t : Touch) (o : Object) → same Run o ≡ false → get same a.map o ≡ None
    → r ≡ Err e → NotesFor r (o ∷ []) t a a
none_refused {r = r} {e = e} a t o other absent is =
    refused r e (AddsFor (o ∷ []) t a a) (FitsFor (o ∷ []) t a) a a is (λ q. refl) (no_room a o other absent t) (λ lists fits. fits)

-- a touch for what a step read, and then for what it wrote: refused for the first, refused for the others, or noted for all
module _ (place : ℕ) (s : Record) (rs ws : List Object) (read : read_by s ≡ rs) (wrote : written_by s ≡ ws) where
  abbrev reading : Touch
  reading = record { place = place; writes = false }

  abbrev writing : Touch
  writing = record { place = place; writes = true }

  abbrev Kept : Lanes → Lanes → Type 0
  Kept a b = (q : Object) → list_of b q ≡ list_of a q ++ kept_for q place s

  abbrev FitsStep : Lanes → Type 0
  FitsStep a = Fits a (λ q. list_of a q ++ kept_for q place s)

  pub read_refused : {A B E F : Type 0} {q : Result A E} {e : E} {r : Result B F} {f : F} (a b : Lanes)
      → q ≡ Err e → r ≡ Err f → NotesFor q rs reading a b → NotesStep r place s a b
  read_refused {q = q} {e = e} {r = r} {f = f} a b was is first =
      refused r f (Kept a b) (FitsStep a) a b is (was_err q e (KeepsLists a b) was first.err)
      (λ fits. not_ok q e was (first.succeeds (fits_read a place s rs read fits))) first.room

  pub write_refused : {A B C E F G : Type 0} {p : Result A E} {x : A} {q : Result B F} {e : F} {r : Result C G} {f : G} (a b c d : Lanes)
      → p ≡ Ok x → q ≡ Err e → r ≡ Err f → NotesFor p rs reading a b → NotesFor q ws writing b c → TakesFor rs c d → KeepsRoom c d → NotesStep r place s a d
  write_refused {p = p} {x = x} {q = q} {e = e} {r = r} {f = f} a b c d had was is first second takes keeps =
      let done = was_ok p x (AddsFor rs reading a b) had first.ok in
      refused r f (Kept a d) (FitsStep a) a d is
      (keeps_all a b c d reading rs done (was_err q e (KeepsLists b c) was second.err) takes)
      (λ fits. not_ok q e was (second.succeeds (fits_written a b place s rs ws read wrote done first.room fits)))
      (then_room a c d (then_room a b c first.room second.room) keeps)

  pub step_noted : {A B C E F G : Type 0} {p : Result A E} {x : A} {q : Result B F} {y : B} {r : Result C G} {z : C} (a b c : Lanes)
      → p ≡ Ok x → q ≡ Ok y → r ≡ Ok z → NotesFor p rs reading a b → NotesFor q ws writing b c → NotesStep r place s a c
  step_noted {p = p} {x = x} {q = q} {y = y} {r = r} {z = z} a b c had has is first second =
      noted r z (Kept a c) (FitsStep a) a c is
      (both_kept a b c place s rs ws read wrote (was_ok p x (AddsFor rs reading a b) had first.ok) (was_ok q y (AddsFor ws writing b c) has second.ok))
      (then_room a b c first.room second.room)
