-- Goroutines that go on with what arrives, and taking that back.
use Rattle.std.proofs.Common.{◌≡◌, ℕ, Bool, true, false, if◌then◌else◌, List, [], ◌∷◌, length, Option, Some, refl, sym, ap, subst, ◌∙◌, arith}
use Rattle.gr_rules.specs.Outcomes.{Outcome, gives, faults, wrong, ◌>>=◌}
use Rattle.gr_rules.specs.States.{same_go}
use Rattle.gr_code.specs.CodeFrames.{ProgramCode, CodeFrame}
use Rattle.gr_code.specs.Goroutines.{CodeGoroutine, Arrival, Value, Channel, Completion, Child, Passes, IsMet, instruction_in, past_arrival, frames_past, with_arrival, arrived}
use Rattle.gr_refine.proofs.NameLemmas.{go_is, go_self}
use Rattle.gr_goros.specs.Undoing.{undone, need, on_innermost, frame_before}
use Rattle.gr_goros.specs.declared.undo.GoUndo.{GoUndo}
use Rattle.gr_goros.specs.declared.undo.GoUndo.TheVariants as undos
use Rattle.gr_goros.specs.Before.{is_printed}
use Rattle.gr_record.specs.Records.{go_undone, go_back, GoFitsAt, GoesFit, NeedNoFrame}
use Rattle.gr_step.specs.Passing.{ArrivesAt}
use Rattle.gr_step.proofs.PrintLemmas.{not_printed}

-- what comes first and what comes then, where both give something
on_both : {A B : Type 0} (o : Outcome A) (k : A → Outcome B) (y : B) → (o >>= k) ≡ gives y → (x : A) × (o ≡ gives x) × (k x ≡ gives y)
on_both (gives x) k y e = (x, refl, e)
on_both (faults x) k y e = absurd (subst {0, 0} (λ (o : Outcome _). elim o [ faults _ ↦ Unit {0} | _ ↦ ⊥ ]) e tt)
on_both wrong k y e = absurd (subst {0, 0} (λ (o : Outcome _). elim o [ wrong ↦ Unit {0} | _ ↦ ⊥ ]) e tt)

given_is : {A : Type 0} {x y : A} → gives x ≡ gives y → x ≡ y
given_is {A} {x} e = ap (λ (o : Outcome A). elim o [ gives z ↦ z | _ ↦ x ]) e

never : {A B : Type 0} {y : A} → wrong ≡ gives y → B
never {A} e = absurd (subst {0, 0} (λ (o : Outcome A). elim o [ wrong ↦ Unit {0} | _ ↦ ⊥ ]) e tt)

-- as many frames
same_count : (code : ProgramCode) (a : Arrival) (fs gs : List CodeFrame) → frames_past code a fs ≡ gives gs → length gs ≡ length fs
same_count code a [] gs e = never e
same_count code a (f ∷ below) gs e =
    let first = on_both (instruction_in code f) (λ i. past_arrival a f i >>= λ on. gives (on ∷ below)) gs e in
    let then_this = on_both (past_arrival a f first.0) (λ on. gives (on ∷ below)) gs first.2 in
    ap length (sym (given_is then_this.2))

module _ (code : ProgramCode) (a : Arrival) (g after : CodeGoroutine) (is : arrived code a g ≡ gives after) where
  parts : (fs : List CodeFrame) × (frames_past code a g.frames ≡ gives fs) × (gives (with_arrival a g fs) ≡ gives after)
  parts = on_both (frames_past code a g.frames) (λ fs. gives (with_arrival a g fs)) after is

  frames_of_arrival : (a : Arrival) (fs : List CodeFrame) → (with_arrival a g fs).frames ≡ fs
  frames_of_arrival (Value v) fs = refl
  frames_of_arrival (Channel v) fs = refl
  frames_of_arrival Completion fs = refl
  frames_of_arrival Child fs = refl
  frames_of_arrival (Passes clause got) fs = refl
  frames_of_arrival (IsMet clause got) fs = refl

  text_of_arrival : (a : Arrival) (fs : List CodeFrame) → (with_arrival a g fs).text ≡ g.text
  text_of_arrival (Value v) fs = refl
  text_of_arrival (Channel v) fs = refl
  text_of_arrival Completion fs = refl
  text_of_arrival Child fs = refl
  text_of_arrival (Passes clause got) fs = refl
  text_of_arrival (IsMet clause got) fs = refl

  pub same_depth : length after.frames ≡ length g.frames
  same_depth = ap (λ (h : CodeGoroutine). length h.frames) (sym (given_is parts.2)) ∙ ap length (frames_of_arrival a parts.0)
      ∙ same_count code a g.frames parts.0 parts.1

  pub same_text : after.text ≡ g.text
  same_text = ap (λ (h : CodeGoroutine). h.text) (sym (given_is parts.2)) ∙ text_of_arrival a parts.0

innermost_count : (change : CodeFrame → CodeFrame) (fs : List CodeFrame) → length (on_innermost change fs) ≡ length fs
innermost_count change [] = refl
innermost_count change (f ∷ below) = refl

-- where there are as many frames, none comes back
pub needs_none : (u : GoUndo) (g after : CodeGoroutine) → undone u after ≡ g → length after.frames ≡ length g.frames → need u ≡ 0
needs_none (undos.Went f u) g after back count = refl
needs_none (undos.Printed n) g after back count = refl
needs_none (undos.Entered x) g after back count = refl
needs_none (undos.Left l) g after back count =
    let longer = ap (λ (h : CodeGoroutine). length h.frames) back in
    let same = innermost_count (frame_before l.value.caller) after.frames in
    absurd (omega (arith, longer, same, count))
needs_none (undos.Made f u) g after back count = refl
needs_none (undos.Began n) g after back count = refl
needs_none (undos.Met m) g after back count = refl
needs_none (undos.Parked x) g after back count = refl
needs_none (undos.Finished f) g after back count = refl
needs_none (undos.Faulted x) g after back count = refl
needs_none (undos.Retried s) g after back count = refl

-- these changes lead from the first goroutines to the second, and no frame has to come back
pub record GoesOver (es : List (List ℕ × GoUndo)) (f h : List ℕ → Option CodeGoroutine) : Type 0 where
  pub back : (q : List ℕ) → go_back es q (h q) ≡ f q
  pub fits : GoesFit es h
  pub frames : NeedNoFrame es

pub no_change : (f : List ℕ → Option CodeGoroutine) → GoesOver [] f f
no_change f = record { back = λ q. refl; fits = tt; frames = tt }

undone_here : (b : Bool) (u : GoUndo) (g after : CodeGoroutine) (o : Option CodeGoroutine) → undone u after ≡ g → (b ≡ true → o ≡ Some g)
    → (if b then go_undone u (if b then Some after else o) else (if b then Some after else o)) ≡ o
undone_here true u g after o back was = ap Some back ∙ sym (was refl)
undone_here false u g after o back was = refl

module _ (code : ProgramCode) (n : List ℕ) (a : Arrival) (u : GoUndo) (f h : List ℕ → Option CodeGoroutine) (k : ArrivesAt code n a u f h) where
  -- one goroutine goes on, and then there are more changes
  pub one_first : (es : List (List ℕ × GoUndo)) (l : List ℕ → Option CodeGoroutine) → GoesOver es h l → GoesOver ((n, u) ∷ es) f l
  one_first es l more = record {
    back = λ q.
        ap (λ o. if same_go q n then go_undone u o else o) (more.back q ∙ ap (λ j. j q) k.is)
        ∙ undone_here (same_go q n) u k.before k.after (f q) k.back (λ e. ap f (go_is q n e) ∙ k.was);
    fits = (subst {_, _} (GoFitsAt u) (sym (more.back n ∙ ap (λ j. j n) k.is ∙ ap (λ b. if b then Some k.after else f n) (go_self n))) k.fits, more.fits);
    frames = (needs_none u k.before k.after k.back (same_depth code a k.before k.after k.arrives), more.frames);
  }

  pub prints_nothing : is_printed u ≡ false
  prints_nothing = not_printed k.before k.after u k.back k.fits (same_text code a k.before k.after k.arrives)

  pub needs_no_frame : need u ≡ 0
  needs_no_frame = needs_none u k.before k.after k.back (same_depth code a k.before k.after k.arrives)
