use Rattle.std.proofs.Common.{◌≡◌, false, ap, sym, ◌∙◌}
use Rattle.gr_goros.specs.Views.{is_finished, status_of}
use Rattle.gr_goros.proofs.AlikeLemmas.{live_unless_finished, frames_alike, alike_frames}
use Rattle.gr_goros.proofs.goroutine.Goroutine.has_frames_of.Goals as goal
use Rattle.gr_goros.proofs.goroutine.Goroutine.has_frames_of.Goals.{in_default-via-in-Finished+in_default, in_default-via-in_default}

pub returns-then-is_like : goal.returns-then-is_like
returns-then-is_like c =
    let same : status_of c.self.inside.status ≡ status_of c.other.inside.status =
    ap (λ g. g.content.status) c.self.view_is ∙ c.requires ∙ sym (ap (λ g. g.content.status) c.other.view_is) in
    let lives : is_finished (status_of c.self.inside.status) ≡ false =
    elim c.in_default.branch [
      | in_default-via-in-Finished+in_default w ↦ ap is_finished same ∙ live_unless_finished c.other.inside.status w.in_default.not-Finished-1
      | in_default-via-in_default w ↦ live_unless_finished c.self.inside.status w.in_default.not-Finished-0
    ] in
    let alive : is_finished (status_of c.other.inside.status) ≡ false = sym (ap is_finished same) ∙ lives in
    let one = c.deref.ensures.value in
    let other = c.deref-then-is_like.ensures.value in
    rw (← c.self.view_is) (rw (← c.other.view_is) (
      (λ like. frames_alike (status_of c.self.inside.status) (status_of c.other.inside.status) c.self.inside.top c.other.inside.top
          c.self.inside.below.items c.other.inside.below.items lives alive (c.is_like.ensures.0 c.if-is_like.true)
          (sym one ∙ c.all_alike.ensures.0 like ∙ other)),
      (λ frames. c.all_alike.ensures.1 (one ∙ (alike_frames (status_of c.self.inside.status) (status_of c.other.inside.status) c.self.inside.top c.other.inside.top
          c.self.inside.below.items c.other.inside.below.items lives alive frames).1 ∙ sym other)),
    ))
