-- The code of what a goroutine waits for.
use Rattle.std.proofs.Common.{◌≡◌, ◌++◌, List, [], ◌∷◌, refl, ap}
use Rattle.gr_goros.specs.Views.{wait_of, waits_of}
use Rattle.gr_goros.specs.declared.wait.Wait.{Wait}
use Rattle.gr_keys.specs.Codes.{list_code}
use Rattle.gr_keys.specs.GoroutineCodes.{wait_code}

pub waits_alike : (ws : List Wait) → list_code (λ w. wait_code (wait_of w)) ws ≡ list_code wait_code (waits_of ws)
waits_alike [] = refl
waits_alike (w ∷ ws) = ap (λ xs. 1 ∷ (wait_code (wait_of w) ++ xs)) (waits_alike ws)
