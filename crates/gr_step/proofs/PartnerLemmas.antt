-- The goroutine that acts, and one that it meets, after they went past their communication.
use Rattle.std.proofs.Common.{◌≡◌, ℕ, Bool, false, if◌then◌else◌, List, ◌∷◌, length, Option, Some, None, sym, ap, ◌∙◌}
use Rattle.gr_base.specs.declared.names.ChName.{ChName}
use Rattle.gr_base.specs.declared.values.Value.{Value}
use Rattle.gr_base.specs.declared.events.Event.{Event}
use Rattle.gr_channels.specs.Channels.{Content}
use Rattle.gr_program.specs.Programs.{Program}
use Rattle.gr_rules.specs.Operators.{same_channel}
use Rattle.gr_rules.specs.Deeds.{past}
use Rattle.gr_rules.specs.States.{same_go, updated}
use Rattle.gr_rules.specs.Actors.{onward}
use Rattle.gr_code.specs.CodeFrames.{CodeFrame}
use Rattle.gr_code.specs.Goroutines.{CodeGoroutine, Arrival, Passes, IsMet, arrived}
use Rattle.gr_code.specs.Programs.{IsClause}
use Rattle.gr_refine.specs.Contents.{Contents, goroutine_of, with_goroutine}
use Rattle.gr_refine.specs.Looks.{actor_of}
use Rattle.gr_refine.specs.Arriving.{IsIn, GoesOn}
use Rattle.gr_refine.specs.Partners.{Meets}
use Rattle.gr_refine.specs.Meetings.{thinned, met_in}
use Rattle.gr_refine.specs.Standing.{AllStand, ContentsStand}
use Rattle.gr_refine.proofs.ArrivingLemmas.{passing_arrives}
use Rattle.gr_refine.proofs.StandingLemmas.{arrival_keeps_standing, change_keeps_standing, same_goroutines_stand}
use Rattle.gr_lower.specs.Lowered.{lowered, meaning}
use Rattle.gr_goros.specs.declared.undo.GoUndo.{GoUndo}
use Rattle.gr_tables.specs.NamedChannels.{withdrawn}
use Rattle.gr_record.specs.Listings.{frame_in}
use Rattle.gr_record.specs.Running.{Running}
use Rattle.gr_step.specs.Passing.{ArrivesAt}
use Rattle.gr_step.specs.Preparing.{AreToLeave}
use Rattle.gr_step.proofs.OneWaitLemmas.{WaitsNoMore, left_is_met}
use Rattle.gr_step.proofs.RunningLemmas.{code_fits}
use Rattle.gr_step.proofs.WaiterLemmas.{HasItsClause, is_partner}

pub some_is : {X : Type 0} {x y : X} → Some x ≡ Some y → x ≡ y
some_is {X} {x} h = ap (λ (o : Option X). elim o [ Some z ↦ z | None ↦ x ]) h

module _ (p : Program) (s : Contents) (run : Running p s) where
  -- a goroutine that goes on still stands
  stands_on : (n : List ℕ) (arrival : Arrival) (u : GoUndo) (f h : List ℕ → Option CodeGoroutine) (k : ArrivesAt (lowered p) n arrival u f h)
      → s.goroutines n ≡ Some k.before → AllStand (meaning p) (lowered p) k.after.frames
  stands_on n arrival u f h k was =
      arrival_keeps_standing (meaning p) (lowered p) p arrival k.before k.after (code_fits p s run) (run.stand n k.before was) k.arrives

  -- the one that acts
  module _ (e : Event) (g : CodeGoroutine) (f : CodeFrame) (below : List CodeFrame) (there : s.goroutines e.go ≡ Some g) (frames : g.frames ≡ f ∷ below)
      (clause : Option ℕ) (got : Option (Value × Bool)) (number : IsClause clause) (own : GoUndo) (h : List ℕ → Option CodeGoroutine)
      (k : ArrivesAt (lowered p) e.go (Passes clause got) own s.goroutines h) where
    pub is_in : IsIn (meaning p) p (lowered p) g f below
    is_in = record { fits = code_fits p s run; frames = frames; stand = run.stand e.go g there }

    pub goes_on : GoesOn (past (frame_in p f) clause got) (goroutine_of (frame_in p) k.after) (onward (actor_of (frame_in p) p e g f below))
    goes_on = passing_arrives (meaning p) p (lowered p) e g f below clause got k.after is_in number
        (ap (arrived (lowered p) (Passes clause got)) (some_is (sym there ∙ k.was)) ∙ k.arrives)

    -- alone
    pub one_stands : (t : Contents) → t.goroutines ≡ h → ContentsStand (meaning p) (lowered p) t
    one_stands t is =
        let on = change_keeps_standing (meaning p) (lowered p) s e.go k.after run.stand (stands_on e.go (Passes clause got) own s.goroutines h k k.was) in
        same_goroutines_stand (meaning p) (lowered p) (with_goroutine s e.go (Some k.after)) t (λ q. ap (λ (j : List ℕ → Option CodeGoroutine). j q) (is ∙ k.is)) on

  -- the goroutine that acts goes on together with its partner
  module _ (n m : List ℕ) (apart : same_go m n ≡ false) (passes : Arrival) (own : GoUndo) (between : List ℕ → Option CodeGoroutine)
      (k : ArrivesAt (lowered p) n passes own s.goroutines between)
      (c : ChName) (clause : Option ℕ) (got : Option (Value × Bool)) (meets : Meets (frame_in p) s c m clause got) (met : GoUndo)
      (h : List ℕ → Option CodeGoroutine) (l : ArrivesAt (lowered p) m (IsMet clause got) met between h) where
    met_is : s.goroutines m ≡ Some l.before
    met_is = sym (ap (λ (j : List ℕ → Option CodeGoroutine). j m) k.is ∙ ap (λ b. if b then Some k.after else s.goroutines m) apart) ∙ l.was

    pub partner_is : HasItsClause (lowered p) meets.met_one clause → goroutine_of (frame_in p) l.after ≡ meets.partner
    partner_is has = is_partner p s run c m clause got meets has l.after
        (ap (arrived (lowered p) (IsMet clause got)) (some_is (sym meets.there ∙ met_is)) ∙ l.arrives)

    both : h ≡ updated same_go (updated same_go s.goroutines n (Some k.after)) m (Some l.after)
    both = l.is ∙ ap (λ (j : List ℕ → Option CodeGoroutine). updated same_go j m (Some l.after)) k.is

    pub two_stand : (t : Contents) → t.goroutines ≡ h → ContentsStand (meaning p) (lowered p) t
    two_stand t is =
        let first = with_goroutine s n (Some k.after) in
        let one = change_keeps_standing (meaning p) (lowered p) s n k.after run.stand (stands_on n passes own s.goroutines between k k.was) in
        let two = change_keeps_standing (meaning p) (lowered p) first m l.after one (stands_on m (IsMet clause got) met between h l met_is) in
        same_goroutines_stand (meaning p) (lowered p) (with_goroutine first m (Some l.after)) t (λ q. ap (λ (j : List ℕ → Option CodeGoroutine). j q) (is ∙ both)) two

    -- the partner was met at the channel, which is this one by now
    pub both_met : (t : Contents) (y : Content) (names : List ChName) → AreToLeave names c meets.waits
        → (length meets.waits ≡ 1 → WaitsNoMore c y m meets.waits) → t.run ≡ s.run → t.goroutines ≡ h
        → t.channels ≡ withdrawn m names (updated same_channel s.channels c (Some y))
        → t ≡ met_in (with_goroutine s n (Some k.after)) c (thinned m y) m l.after meets.waits
    both_met t y names to_leave alone is_run is_goroutines is_channels =
        let gos = is_goroutines ∙ both in
        let state : t ≡ record {
          run = s.run;
          goroutines = updated same_go (updated same_go s.goroutines n (Some k.after)) m (Some l.after);
          channels = withdrawn m names (updated same_channel s.channels c (Some y));
        } =
        (λ i. record { run = is_run i; goroutines = gos i; channels = is_channels i }) in
        state ∙ left_is_met (with_goroutine s n (Some k.after)) c y m l.after meets.waits names to_leave alone
