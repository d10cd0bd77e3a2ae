-- The goroutine that acts goes on with what arrives.
use Rattle.std.proofs.Common.{◌≡◌, ℕ, List, Some, refl, sym, ap, ◌∙◌, false}
use Rattle.gr_base.specs.declared.events.Event.{Event}
use Rattle.gr_program.specs.Programs.{Program}
use Rattle.gr_rules.specs.Outcomes.{gives, wrong}
use Rattle.gr_code.specs.Goroutines.{CodeGoroutine, Arrival, CanCount, arrived}
use Rattle.gr_goros.specs.Undoing.{need}
use Rattle.gr_goros.specs.declared.undo.GoUndo.{GoUndo}
use Rattle.gr_tables.specs.NamedGoroutines.{At, Arrives, CanArrive, ChangesBy, goroutines_of, name_at, seen_at}
use Rattle.gr_tables.specs.declared.goroutines.Goroutines.{Goroutines}
use Rattle.gr_refine.specs.Standing.{AllStand}
use Rattle.gr_refine.proofs.StandingLemmas.{arrival_keeps_standing}
use Rattle.gr_lower.specs.Lowered.{lowered, meaning}
use Rattle.gr_step.specs.declared.objects.Objects.{Objects}
use Rattle.gr_step.specs.Objects.{contents_in}
use Rattle.gr_step.specs.Premises.{Acting}
use Rattle.gr_goros.specs.Before.{is_printed}
use Rattle.gr_step.proofs.NeedNoFrameLemmas.{need_none}
use Rattle.gr_step.proofs.PassLemmas.{same_depth, same_text}
use Rattle.gr_step.proofs.PlaceLemmas.{Placed, placed_at, was_content, at_number}
use Rattle.gr_step.proofs.PrintLemmas.{not_printed}
use Rattle.gr_step.proofs.RunningLemmas.{code_fits}

-- the goroutine of this name went on, prints nothing, and needs no frame to go back
pub record Arrived (p : Program) (n : List ℕ) (arrival : Arrival) (g : CodeGoroutine) (u : GoUndo) (old new : Goroutines) : Type 0 where
  pub after : CodeGoroutine
  pub is : arrived (lowered p) arrival g ≡ gives after
  pub own : Placed n g after u old new
  pub silent : is_printed u ≡ false
  pub none : need u ≡ 0
  pub stand : AllStand (meaning p) (lowered p) after.frames

module _ (p : Program) (e : Event) (number : ℕ) (o : Objects) (acting : Acting p e number o) (arrival : Arrival) where
  pub can_arrive : ¬ (arrived (lowered p) arrival acting.goroutine ≡ wrong) → CanCount arrival acting.goroutine
      → At (CanArrive (lowered p) arrival) (seen_at o.goroutines number)
  can_arrive right counts = at_number p e number o acting (λ g. (¬ (arrived (lowered p) arrival g ≡ wrong)) × CanCount arrival g) (right, counts)

  -- by the change at its number; others may have become known before it
  pub arrived_from : (u : GoUndo) (old new : Goroutines) → name_at old number ≡ Some e.go → goroutines_of old e.go ≡ Some acting.goroutine
      → ChangesBy number (Arrives (lowered p) arrival u) old new → Arrived p e.go arrival acting.goroutine u old new
  arrived_from u old new named there change =
      let g = acting.goroutine in
      let after = change.1.content in
      let was = was_content number e.go old new named g there change.0 change.1 change.2 in
      let is : arrived (lowered p) arrival g ≡ gives after = ap (arrived (lowered p) arrival) (sym was) ∙ change.3.0 in
      let own = placed_at number e.go old new named g there change.0 change.1 after u change.2 refl change.3.1 in
      record {
        after = after;
        is = is;
        own = own;
        silent = not_printed g after u own.back own.fits (same_text (lowered p) arrival g after is);
        none = need_none g after u own.back (same_depth (lowered p) arrival g after is);
        stand = arrival_keeps_standing (meaning p) (lowered p) p arrival g after (code_fits p (contents_in o) acting.running)
            (acting.running.stand e.go g acting.there) is;
      }

  pub arrived_here : (u : GoUndo) (new : Goroutines) → ChangesBy number (Arrives (lowered p) arrival u) o.goroutines new
      → Arrived p e.go arrival acting.goroutine u o.goroutines new
  arrived_here u new change = arrived_from u o.goroutines new acting.named acting.there change
