-- Goroutines that are dead are so together, and stay dead.
use Rattle.std.proofs.Common.{◌≡◌, ℕ, Bool, true, ◌||◌, List, inl, inr}
use Rattle.gr_causal.proofs.ListLemmas.{or_false, or_true, or_left, or_right}
use Rattle.gr_laws.proofs.CellLemmas.{both_true}
use Rattle.gr_program.specs.Programs.{Program}
use Rattle.gr_rules.specs.Goroutines.{Wait, channel_of}
use Rattle.gr_rules.specs.States.{State}
use Rattle.gr_may.specs.Uses.{Usage, to_close}
use Rattle.gr_may.specs.Dead.{answer, MayServe, AreDead, IsDead}
use Rattle.gr_may.proofs.MeetLemmas.{meeting, covers_meet}

module _ (p : Program) (s : State) (u v : Usage) (d e : List ℕ → Bool) (h : AreDead p u s d) (k : AreDead p v s e) where
  left_serves : (m : List ℕ) (w : Wait) → MayServe (meeting u v) m w → MayServe u m w × MayServe v m w
  left_serves m w (inl t) = let b = both_true (u.permits m (channel_of w) (answer w)) (v.permits m (channel_of w) (answer w)) t in (inl b.0, inl b.1)
  left_serves m w (inr t) = let b = both_true (u.permits m (channel_of w) to_close) (v.permits m (channel_of w) to_close) t in (inr b.0, inr b.1)

  -- two sets of dead goroutines lie in one
  pub dead_together : AreDead p (meeting u v) s (λ n. d n || e n)
  dead_together = record {
    covers = covers_meet p u v s h.covers k.covers;
    wait = λ n t. elim (or_true (d n) (e n) t) [ inl a ↦ h.wait n a | inr b ↦ k.wait n b ];
    alone = λ n ws w m g t for i at alive serve.
        let out = or_false (d m) (e m) alive in
        let each = left_serves m w serve in
        elim (or_true (d n) (e n) t) [ inl a ↦ h.alone n ws w m g a for i at out.0 each.0 | inr b ↦ k.alone n ws w m g b for i at out.1 each.1 ];
  }

pub both_dead : (p : Program) (s : State) (m n : List ℕ) → IsDead p s m → IsDead p s n → (d : IsDead p s m) × (d.dead n ≡ true)
both_dead p s m n h k = (
  record {
    usage = meeting h.usage k.usage;
    dead = λ l. h.dead l || k.dead l;
    are = dead_together p s h.usage k.usage h.dead k.dead h.are k.are;
    member = or_left (h.dead m) (k.dead m) h.member;
  },
  or_right (h.dead n) (k.dead n) k.member,
)
