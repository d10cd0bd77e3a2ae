-- A step that reaches no further than its goroutine, from the change that tells of it.
use Rattle.std.proofs.Common.{◌≡◌, ◌+◌, ℕ, List, [], ◌∷◌, Option, Some, None, refl, sym, ap, ◌∙◌}
use Rattle.std.specs.Prelude.{option_map, is_some}
use Rattle.gr_base.specs.declared.events.Event.{Event}
use Rattle.gr_base.specs.declared.kinds.Kind.{Kind}
use Rattle.gr_base.specs.declared.objects.Object.TheVariants as objects
use Rattle.gr_program.specs.Programs.{Program}
use Rattle.gr_rules.specs.Attempts.{Attempt}
use Rattle.gr_rules.specs.Touches.{Touches, touches, row, without_channel}
use Rattle.gr_laws.specs.Touched.{each_once}
use Rattle.gr_code.specs.Goroutines.{CodeGoroutine}
use Rattle.gr_goros.specs.Undoing.{undone, Fits}
use Rattle.gr_goros.specs.declared.undo.GoUndo.{GoUndo}
use Rattle.gr_refine.specs.Contents.{Contents, goroutine_of, with_goroutine}
use Rattle.gr_refine.specs.Local.{local_report}
use Rattle.gr_refine.specs.Performing.{StepsTo}
use Rattle.gr_refine.specs.Partners.{AreChannels}
use Rattle.gr_refine.specs.Standing.{AllStand, ContentsStand}
use Rattle.gr_lower.specs.Lowered.{lowered, meaning}
use Rattle.gr_record.specs.Listings.{frame_in, state_in}
use Rattle.gr_goros.specs.Before.{is_printed}
use Rattle.gr_record.specs.Taking.{Takes}
use Rattle.gr_step.proofs.OwnTakesLemmas.{own_takes, count_is}
use Rattle.gr_step.proofs.ReachesLemmas.{alone}

-- the table has no row for it
abbrev pub NoRow : Program → Event → Contents → CodeGoroutine → Kind → Type 0
NoRow p e s g kind = without_channel (state_in p s) e (goroutine_of (frame_in p) g) kind ≡ touches [] []

pub alone_takes : (p : Program) (e : Event) (s : Contents) (g : CodeGoroutine) → s.goroutines e.go ≡ Some g → ContentsStand (meaning p) (lowered p) s
    → AreChannels s → (tries : Attempt) (after : CodeGoroutine) (k : Kind) (u : GoUndo) (line : Option (List ℕ)) (t : Contents)
    → undone u after ≡ g → Fits u after → t ≡ with_goroutine s e.go (Some after) → AllStand (meaning p) (lowered p) after.frames
    → StepsTo (frame_in p) tries s (with_goroutine s e.go (Some after)) (local_report k g line)
    → is_printed u ≡ is_some line → NoRow p e s g k → Takes p e tries s (record { kind = k; own = u; beyond = None }) t
alone_takes p e s g there stand valid tries after k u line t back fits is frames steps printed none =
    let rows : row (state_in p s) e (local_report k g line) ((state_in p s).goroutines e.go) None ≡ touches [] [] =
    ap (λ o. row (state_in p s) e (local_report k g line) (option_map (goroutine_of (frame_in p)) o) None) there ∙ none in
    own_takes p e tries s t g after (record { kind = k; own = u; beyond = None }) s.run (local_report k g line) there back fits
    (alone e.go k u) refl
    steps
    (record {
      ordinal = ap (λ n. n + 1) (sym (count_is p s e.go g there));
      kind = refl;
      printed = printed;
      operation = refl;
      writes = ap (λ (r : Touches). objects.Go e.go ∷ r.writes) (sym rows);
      reads = ap (λ (r : Touches). each_once (objects.Go e.go ∷ r.writes) (objects.Run ∷ r.reads)) (sym rows);
    })
    stand valid frames is
