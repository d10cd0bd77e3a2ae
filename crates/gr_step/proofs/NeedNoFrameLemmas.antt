-- When taking a change of a goroutine back needs no room for a frame.
use Rattle.std.proofs.Common.{◌≡◌, true, false, List, [], ◌∷◌, length, refl, sym, ap, ◌∙◌, arith}
use Rattle.gr_rules.specs.Goroutines.{finished}
use Rattle.gr_code.specs.CodeFrames.{CodeFrame}
use Rattle.gr_code.specs.Goroutines.{CodeGoroutine}
use Rattle.gr_goros.specs.Undoing.{undone, need, on_innermost, frame_before, Fits}
use Rattle.gr_goros.specs.Views.{is_finished}
use Rattle.gr_goros.specs.declared.undo.GoUndo.{GoUndo}
use Rattle.gr_goros.specs.declared.undo.GoUndo.TheVariants as undos

as_many : (f : CodeFrame → CodeFrame) (fs : List CodeFrame) → length (on_innermost f fs) ≡ length fs
as_many f [] = refl
as_many f (x ∷ fs) = refl

module _ (a b : CodeGoroutine) where
  -- where there are as many frames as before
  pub need_none : (u : GoUndo) → undone u b ≡ a → length b.frames ≡ length a.frames → need u ≡ 0
  need_none (undos.Went f u) back frames = refl
  need_none (undos.Printed n) back frames = refl
  need_none (undos.Entered x) back frames = refl
  need_none (undos.Left l) back frames =
      absurd (let more = ap (λ g. length g.frames) back in let many = as_many (frame_before l.value.caller) b.frames in omega
      (arith, more, many, frames))
  need_none (undos.Made f u) back frames = refl
  need_none (undos.Began n) back frames = refl
  need_none (undos.Met m) back frames = refl
  need_none (undos.Parked x) back frames = refl
  need_none (undos.Finished f) back frames = refl
  need_none (undos.Faulted x) back frames = refl
  need_none (undos.Retried s) back frames = refl

  -- where the goroutine is done
  pub need_none_done : (u : GoUndo) → Fits u b → b.status ≡ finished → need u ≡ 0
  need_none_done (undos.Went f u) fits status = refl
  need_none_done (undos.Printed n) fits status = refl
  need_none_done (undos.Entered x) fits status = refl
  need_none_done (undos.Left l) fits status = absurd (let no : false ≡ true = sym fits.0 ∙ ap is_finished status in cc)
  need_none_done (undos.Made f u) fits status = refl
  need_none_done (undos.Began n) fits status = refl
  need_none_done (undos.Met m) fits status = refl
  need_none_done (undos.Parked x) fits status = refl
  need_none_done (undos.Finished f) fits status = refl
  need_none_done (undos.Faulted x) fits status = refl
  need_none_done (undos.Retried s) fits status = refl
