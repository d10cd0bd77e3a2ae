-- The step of a goroutine that is done.
use Rattle.std.proofs.Common.{◌≡◌, ◌<◌, ◌+◌, ◌^◌, arith, ℕ, true, if◌then◌else◌, List, [], ◌∷◌, None, refl, sym, ap, ◌∙◌}
use Rattle.std.specs.Prelude.{option_map}
use Rattle.gr_base.specs.declared.events.Choice.TheVariants.{Plain}
use Rattle.gr_base.specs.declared.events.Event.{Event}
use Rattle.gr_base.specs.declared.kinds.Kind.TheVariants as kinds
use Rattle.gr_base.specs.declared.objects.Object.TheVariants as objects
use Rattle.gr_program.specs.Programs.{Program}
use Rattle.gr_rules.specs.States.{live, ended}
use Rattle.gr_rules.specs.Steps.{attempt}
use Rattle.gr_rules.specs.Touches.{Touches, touches, row}
use Rattle.gr_laws.specs.Touched.{each_once}
use Rattle.gr_code.specs.CodeFrames.{CodeFrame}
use Rattle.gr_code.specs.Goroutines.{finished}
use Rattle.gr_goros.specs.Undoing.{need}
use Rattle.gr_goros.specs.Views.{CanHalt}
use Rattle.gr_goros.specs.declared.arrivals.Halt.TheVariants.{Finished}
use Rattle.gr_goros.specs.declared.undo.GoUndo.{GoUndo}
use Rattle.gr_goros.specs.declared.needs.Need.TheVariants as needs
use Rattle.gr_goros.specs.Needs.{NeedIs}
use Rattle.gr_tables.specs.NamedChannels.{contents_of}
use Rattle.gr_tables.specs.NamedGoroutines.{At, CanEnd, seen_at}
use Rattle.gr_tables.specs.declared.goroutines.Goroutines.{Goroutines}
use Rattle.gr_refine.specs.CodeSteps.{code_report}
use Rattle.gr_refine.specs.Contents.{goroutine_of}
use Rattle.gr_refine.proofs.CodeStepLemmas.{finish_of_code, exit_of_code}
use Rattle.gr_lower.specs.Lowered.{lowered, meaning}
use Rattle.gr_step.specs.declared.objects.Objects.{Objects}
use Rattle.gr_record.specs.Effects.{Effect}
use Rattle.gr_step.specs.Beyonds.{HasEnded}
use Rattle.gr_record.specs.Listings.{frame_in, state_in}
use Rattle.gr_step.specs.Objects.{contents_in, run_of}
use Rattle.gr_step.specs.Premises.{Acting}
use Rattle.gr_step.specs.Room.{HasRoom}
use Rattle.gr_record.specs.Taking.{Takes}
use Rattle.gr_step.proofs.AloneStepLemmas.{alone_takes}
use Rattle.gr_step.proofs.NeedNoFrameLemmas.{need_none_done}
use Rattle.gr_step.proofs.ChoiceLemmas.{are_channels}
use Rattle.gr_step.proofs.OwnTakesLemmas.{own_takes, count_is}
use Rattle.gr_step.proofs.PlaceLemmas.{Placed, placed, at_number, own_room}
use Rattle.gr_step.proofs.PrintLemmas.{not_printed}
use Rattle.gr_step.proofs.ReachesLemmas.{told}
use Rattle.gr_step.proofs.RunningLemmas.{acts_here}

no_more : (f g : CodeFrame) (fs : List CodeFrame) → f ∷ fs ≡ g ∷ [] → fs ≡ []
no_more f g fs is = cc

has_first : (n : List ℕ) → ¬ (n ≡ []) → (m : ℕ) × (ns : List ℕ) × (n ≡ m ∷ ns)
has_first [] some = absurd (some refl)
has_first (m ∷ ns) some = (m, ns, refl)

module _ (p : Program) (e : Event) (number : ℕ) (o : Objects) (acting : Acting p e number o)
    (leaves : NeedIs needs.Exit (lowered p) acting.goroutine) where
  -- it can come to its end
  pub can_finish : At (CanEnd Finished) (seen_at o.goroutines number)
  can_finish = at_number p e number o acting (λ g. CanHalt Finished g × (g.steps + 1 < 2 ^ 64))
      ((leaves.0, acting.is_ready, leaves.2), acting.counted.steps e.go acting.goroutine acting.there)

  is_last : (f : CodeFrame) (below : List CodeFrame) → acting.goroutine.frames ≡ f ∷ below → below ≡ []
  is_last f below frames = no_more f leaves.0 below (sym frames ∙ leaves.2)

  module _ (plain : e.choice ≡ Plain) (u : GoUndo) (new : Goroutines)
      (own : Placed e.go acting.goroutine (finished acting.goroutine) u o.goroutines new) where
    -- the last return of a goroutine other than that of `main`
    pub return_takes : ¬ (e.go ≡ []) → Takes p e (attempt p e) (contents_in o) (record { kind = kinds.Return; own = u; beyond = None })
        (contents_in (record o { goroutines = new }))
    return_takes other =
        let here = acts_here p e number o acting in
        let g = acting.goroutine in
        let first = has_first e.go other in
        alone_takes p e (contents_in o) acting.goroutine acting.there acting.running.stand (are_channels o) (attempt p e) (finished g) kinds.Return u None (contents_in (record o { goroutines = new })) own.back own.fits
        (λ j. record { run = run_of o.run; goroutines = own.is j; channels = contents_of o.channels }) tt
        (finish_of_code (meaning p) p (lowered p) (contents_in o) e g here.f here.below leaves.1 first.0 first.1 here.acts leaves.3 plain
        (is_last here.f here.below here.acts.up.frames) first.2)
        (not_printed g (finished g) u own.back own.fits refl) refl

  -- with that the program ends
  module _ (plain : e.choice ≡ Plain) (c : Effect) (new : Objects) (ends : HasEnded number c o new) where
    own : Placed e.go acting.goroutine (finished acting.goroutine) c.own o.goroutines new.goroutines
    own = placed number e.go o.goroutines new.goroutines acting.named acting.goroutine acting.there finished c.own ends.after.goroutines

    none : need c.own ≡ 0
    none = need_none_done acting.goroutine (finished acting.goroutine) c.own own.fits refl

    pub exit_takes : e.go ≡ [] → Takes p e (attempt p e) (contents_in o) c (contents_in new)
    exit_takes main =
        let here = acts_here p e number o acting in
        let s = contents_in o in
        let g = acting.goroutine in
        let tells = told None [] (objects.Run ∷ []) true e.go c ends.beyond none in
        let report = code_report g None kinds.Exit in
        let rows : row (state_in p s) e report ((state_in p s).goroutines e.go) None ≡ touches [] (objects.Run ∷ []) =
        ap (λ o. row (state_in p s) e report (option_map (goroutine_of (frame_in p)) o) None) acting.there in
        own_takes p e (attempt p e) s (contents_in new) g (finished g) c ended report acting.there own.back own.fits tells.own
        (ap (λ b. if b then live else ended) tells.stops ∙ sym acting.runs)
        (exit_of_code (meaning p) p (lowered p) s e g here.f here.below leaves.1 here.acts leaves.3 plain
        (is_last here.f here.below here.acts.up.frames) main)
        (record {
          ordinal = ap (λ n. n + 1) (sym (count_is p s e.go g acting.there));
          kind = ends.kind;
          printed = not_printed g (finished g) c.own own.back own.fits refl;
          operation = tells.operation;
          writes = tells.writes ∙ ap (λ (r : Touches). objects.Go e.go ∷ r.writes) (sym rows);
          reads = tells.reads ∙ ap (λ (r : Touches). each_once (objects.Go e.go ∷ r.writes) (objects.Run ∷ r.reads)) (sym rows);
        })
        acting.running.stand (are_channels o) tt
        (λ j. record { run = run_of (ends.after.runs j); goroutines = own.is j; channels = contents_of (ends.after.channels j) })

    pub exit_room : HasRoom e.go c new
    exit_room = own_room e.go c new (rw none (omega arith)) (told None [] (objects.Run ∷ []) true e.go c ends.beyond none).own.channels
