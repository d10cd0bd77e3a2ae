-- Goroutines that are dead in contents are dead in the state of the rules that these are.
use Rattle.std.proofs.Common.{◌≡◌, ℕ, Bool, List, Option, Some, None, option_map, refl, ◌∙◌, ap}
use Rattle.std.proofs.lemmas.Option.{none-some}
use Rattle.gr_causal.proofs.ListLemmas.{some_is}
use Rattle.gr_program.specs.Programs.{Program}
use Rattle.gr_rules.specs.Goroutines.{Wait, Goroutine}
use Rattle.gr_code.specs.Goroutines.{CodeGoroutine}
use Rattle.gr_refine.specs.Contents.{Contents, goroutine_of}
use Rattle.gr_record.specs.Listings.{frame_in, state_in}
use Rattle.gr_may.specs.Uses.{Usage}
use Rattle.gr_may.specs.Covers.{Covers}
use Rattle.gr_may.specs.Dead.{WaitsFor, AreDead}
use Rattle.gr_bounds.specs.DeadContents.{WaitsIn, AreDeadIn}

module _ (p : Program) (s : Contents) where
  -- the goroutine of the store that it is
  kept_as : (n : List ℕ) (x : Goroutine) (o : Option CodeGoroutine) → s.goroutines n ≡ o → option_map (goroutine_of (frame_in p)) o ≡ Some x
      → (g : CodeGoroutine) × (s.goroutines n ≡ Some g) × (goroutine_of (frame_in p) g ≡ x)
  kept_as n x None e d = absurd (none-some _ d)
  kept_as n x (Some g) e d = (g, e, some_is _ _ d)

  waits_there : (n : List ℕ) (ws : List Wait) → WaitsFor (state_in p s) n ws → WaitsIn s n ws
  waits_there n ws w =
      let k = kept_as n w.0 (s.goroutines n) refl w.1 in (k.0, k.1, ap (λ (x : Goroutine). x.status) k.2 ∙ w.2)

  waits_here : (n : List ℕ) (ws : List Wait) → WaitsIn s n ws → WaitsFor (state_in p s) n ws
  waits_here n ws w = (goroutine_of (frame_in p) w.0, ap (option_map (goroutine_of (frame_in p))) w.1, w.2)

  pub dead_in_state : (usage : Usage) (dead : List ℕ → Bool) → AreDeadIn p usage s dead → Covers p usage (state_in p s) → AreDead p usage (state_in p s) dead
  dead_in_state usage dead h c = record {
    covers = c;
    wait = λ n d. let w = h.wait n d in (w.0, waits_here n w.0 w.1);
    alone = λ n ws w m g d for i at alive.
        let k = kept_as m g (s.goroutines m) refl at in
        h.alone n ws w m k.0 d (waits_there n ws for) i k.1 alive;
  }
