-- Where the goroutine of a step stood, by what taking the step back puts there.
use Rattle.std.proofs.Common.{◌≡◌, ℕ, List, [], ◌∷◌, Option, Some, None, option_map, refl, sym, ap, subst, ◌∙◌, inl, inr}
use Rattle.std.specs.Prelude.{drop, if◌then◌else◌}
use Rattle.std.specs.Option.{option_or}
use Rattle.std.proofs.lemmas.Bool.{cases_Bool}
use Rattle.gr_rules.specs.States.{same_go}
use Rattle.gr_code.specs.CodeFrames.{CodeFrame}
use Rattle.gr_code.specs.Goroutines.{CodeGoroutine}
use Rattle.gr_goros.specs.declared.undo.Spot.{Spot}
use Rattle.gr_goros.specs.declared.undo.GoUndo.{GoUndo}
use Rattle.gr_goros.specs.declared.undo.GoUndo.TheVariants as undos
use Rattle.gr_goros.specs.Before.{spot_in}
use Rattle.gr_goros.specs.Undoing.{at_spot, frame_in, on_innermost, undone}
use Rattle.gr_record.specs.TablesBack.{back_at}
use Rattle.gr_depend.specs.Given.{spot_before}

-- a frame stands there
abbrev pub IsAt : Spot → CodeFrame → Type 0
IsAt s f = (s.function ≡ f.function) × (s.number ≡ f.number)

module _ (f : CodeFrame) (below : List CodeFrame) where
  head_is : (k : CodeFrame) (ks : List CodeFrame) → k ∷ ks ≡ f ∷ below → k ≡ f
  head_is k ks e = cc

  at_head : (s : Spot) (k : CodeFrame) (ks : List CodeFrame) → IsAt s k → k ∷ ks ≡ f ∷ below → IsAt s f
  at_head s k ks is e = subst {_, _} (IsAt s) (head_is k ks e) is

  at_innermost : (s : Spot) (change : CodeFrame → CodeFrame) (fs : List CodeFrame) → ((k : CodeFrame) → IsAt s (change k)) → on_innermost change fs ≡ f ∷ below
      → IsAt s f
  at_innermost s change [] is e = absurd (let none : [] ≡ f ∷ below = e in cc)
  at_innermost s change (k ∷ ks) is e = at_head s (change k) ks (is k) e

  -- it keeps where the innermost frame stood, or leaves the frames and the steps
  abbrev Tells : Option Spot → CodeGoroutine → CodeGoroutine → Type 0
  Tells (Some s) g h = IsAt s f
  Tells None g h = (h.frames ≡ g.frames) × (h.steps ≡ g.steps)

  told : (u : GoUndo) (h : CodeGoroutine) → (undone u h).frames ≡ f ∷ below → Tells (spot_in u) (undone u h) h
  told (undos.Went k u) h e = at_innermost _ (frame_in k u) h.frames (λ j. (refl, refl)) e
  told (undos.Printed s) h e = at_innermost s (at_spot s) h.frames (λ k. (refl, refl)) e
  told (undos.Entered s) h e = at_innermost s (at_spot s) (drop 1 h.frames) (λ k. (refl, refl)) e
  told (undos.Left l) h e = at_head _ l.value.frame _ (refl, refl) e
  told (undos.Made k u) h e = at_innermost _ (frame_in k u) h.frames (λ k. (refl, refl)) e
  told (undos.Began s) h e = at_innermost s (at_spot s) h.frames (λ k. (refl, refl)) e
  told (undos.Met m) h e = at_innermost _ (frame_in m.value.function m.value.frame) h.frames (λ k. (refl, refl)) e
  told (undos.Parked s) h e = at_innermost s (at_spot s) h.frames (λ k. (refl, refl)) e
  told (undos.Finished k) h e = at_head _ k.value [] (refl, refl) e
  told (undos.Faulted s) h e = at_innermost s (at_spot s) h.frames (λ k. (refl, refl)) e
  told (undos.Retried s) h e = (refl, refl)

  -- where changes were taken back from x, which gave a goroutine with this many steps
  abbrev pub Stood : Option Spot → Option CodeGoroutine → CodeGoroutine → Type 0
  Stood (Some s) x g = IsAt s f
  Stood None x g = (h : CodeGoroutine) × (x ≡ Some h) × (h.steps ≡ g.steps)

  abbrev go_undone : GoUndo → Option CodeGoroutine → Option CodeGoroutine
  go_undone u g = option_map (undone u) g

  later_steps : (o : Option Spot) (x : Option CodeGoroutine) (g h : CodeGoroutine) → h.steps ≡ g.steps → Stood o x h → Stood o x g
  later_steps (Some s) x g h e st = st
  later_steps None x g h e st = (st.0, st.1, st.2 ∙ e)

  either : (o rest : Option Spot) (x : Option CodeGoroutine) (g h : CodeGoroutine) → Tells o g h → (h.frames ≡ g.frames → Stood rest x h)
      → Stood (option_or o rest) x g
  either (Some s) rest x g h t later = t
  either None rest x g h t later = later_steps rest x g h t.1 (later t.0)

  module _ (n : List ℕ) where
    abbrev back : List (List ℕ × GoUndo) → Option CodeGoroutine → Option CodeGoroutine
    back us x = back_at same_go go_undone us n x

    -- what is told of where the goroutine stood before these changes is so
    abbrev AllStood : List (List ℕ × GoUndo) → Option CodeGoroutine → Type 0
    AllStood us x = (g : CodeGoroutine) → back us x ≡ Some g → g.frames ≡ f ∷ below → Stood (spot_before n us) x g

    one_more : (u : GoUndo) (us : List (List ℕ × GoUndo)) (x : Option CodeGoroutine) (g : CodeGoroutine) (o : Option CodeGoroutine) → AllStood us x
        → back us x ≡ o → go_undone u o ≡ Some g → g.frames ≡ f ∷ below → Stood (option_or (spot_in u) (spot_before n us)) x g
    one_more u us x g None all is e frames = absurd (let none : None ≡ Some g = e in cc)
    one_more u us x g (Some h) all is e frames =
        let same : undone u h ≡ g = (let some : Some (undone u h) ≡ Some g = e in cc) in
        let there : (undone u h).frames ≡ f ∷ below = ap (λ (k : CodeGoroutine). k.frames) same ∙ frames in
        subst {_, _} (λ k. Stood (option_or (spot_in u) (spot_before n us)) x k) same
        (either (spot_in u) (spot_before n us) x (undone u h) h (told u h there) (λ frames_are. all h is (frames_are ∙ there)))

    pub stood : (us : List (List ℕ × GoUndo)) (x : Option CodeGoroutine) → AllStood us x
    stood [] x g e frames = (g, e, refl)
    stood (u ∷ us) x g e frames = elim (cases_Bool (same_go n u.0)) [
      | inl t ↦
          let undone_is : go_undone u.1 (back us x) ≡ Some g = sym (ap (λ b. if b then go_undone u.1 (back us x) else back us x) t) ∙ e in
          rw t (one_more u.1 us x g (back us x) (stood us x) refl undone_is frames)
      | inr t ↦
          let back_is : back us x ≡ Some g = sym (ap (λ b. if b then go_undone u.1 (back us x) else back us x) t) ∙ e in
          rw t (stood us x g back_is frames)
    ]
