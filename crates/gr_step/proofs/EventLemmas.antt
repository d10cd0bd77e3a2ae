-- The event of a goroutine that is ready: its task, its choice, and why it is refused.
use Rattle.std.proofs.Common.{◌≡◌, ℕ, true, false, List, ◌∷◌, map, Option, Some, None, refl, sym, ap, ap₂, subst, ◌∙◌}
use Rattle.std.specs.Prelude.{option_map, is_none}
use Rattle.gr_base.specs.declared.events.Choice.{Choice}
use Rattle.gr_base.specs.declared.events.Choice.TheVariants as choices
use Rattle.gr_base.specs.declared.events.Event.{Event}
use Rattle.gr_program.specs.Programs.{Program}
use Rattle.gr_rules.specs.Outcomes.{Outcome, gives, faults, wrong}
use Rattle.gr_rules.specs.Frames.{Frame}
use Rattle.gr_rules.specs.Deeds.{Moves, Prints, Enters, Leaves, Starts, Makes, TakesLen, TakesCap, Closes, Communicates, Chooses, deed}
use Rattle.gr_rules.specs.Goroutines.{Status, ready, waiting, finished, Goroutine}
use Rattle.gr_rules.specs.Attempts.{Refusal, program_is_over, no_such_goroutine, goroutine_is_done, goroutine_waits, no_such_choice, unsound}
use Rattle.gr_rules.specs.Steps.{attempt, refusal}
use Rattle.gr_laws.specs.Refusals.{HasStatus, StandsReady, is_select}
use Rattle.gr_laws.proofs.ReasonLemmas.{reason, if_plain}
use Rattle.gr_code.specs.Code.{Meanings}
use Rattle.gr_code.specs.CodeFrames.{ProgramCode, CodeFrame, Task, Steps, Wants}
use Rattle.gr_code.specs.Goroutines.{CodeGoroutine, task_of, is_local}
use Rattle.gr_code.specs.Programs.{deed_meant}
use Rattle.gr_refine.specs.Contents.{Contents, goroutine_of}
use Rattle.gr_refine.specs.Leaves.{Refuses}
use Rattle.gr_refine.specs.Tasks.{chooses, stays_within}
use Rattle.gr_refine.proofs.MachineLemmas.{refusal_is_leaf}
use Rattle.gr_refine.proofs.TaskLemmas.{deed_is}
use Rattle.gr_refine.proofs.WithinLemmas.{local_stays_within}
use Rattle.gr_goros.specs.Needs.{SendsIn}
use Rattle.gr_goros.specs.Views.{Seen}
use Rattle.gr_tables.specs.NamedGoroutines.{seen_at}
use Rattle.gr_tables.proofs.ByNumber.{seen_named}
use Rattle.gr_lower.specs.Lowered.{lowered, meaning}
use Rattle.type_safety.specs.Standing.{StandsAs, is_ready, waits}
use Rattle.gr_step.specs.declared.objects.Objects.{Objects}
use Rattle.gr_record.specs.Listings.{frame_in, state_in}
use Rattle.gr_step.specs.Objects.{contents_in}
use Rattle.gr_step.specs.Premises.{Acting}
use Rattle.gr_step.proofs.RunningLemmas.{never_unsound, stands_as, ActsHere, acts_here}
use Rattle.gr_step.proofs.SendsInLemmas.{sends_in}

pub some_is : {X : Type 0} {x y : X} → Some x ≡ Some y → x ≡ y
some_is {X} {x} h = ap (λ o. elim o [ Some z ↦ z | None ↦ x ]) h

some_not : {X : Type 0} {x : X} → Some x ≡ None → ⊥
some_not e = subst {0, 0} (λ o. elim o [ Some y ↦ Unit {0} | None ↦ ⊥ ]) e tt

-- the task of an instruction that asks for nothing beyond its goroutine leaves no choice
no_choice_within : (below : List CodeFrame) (o : Outcome Task) → stays_within below o ≡ true → chooses o ≡ false
no_choice_within below (gives (Steps on)) h = refl
no_choice_within below (gives (Wants (Chooses cs))) h = absurd (let no : false ≡ true = h in cc)
no_choice_within below (gives (Wants (Moves on))) h = refl
no_choice_within below (gives (Wants (Prints line))) h = refl
no_choice_within below (gives (Wants (Enters function vs))) h = refl
no_choice_within below (gives (Wants (Leaves v))) h = refl
no_choice_within below (gives (Wants (Starts function vs))) h = refl
no_choice_within below (gives (Wants (Makes n))) h = refl
no_choice_within below (gives (Wants (TakesLen c))) h = refl
no_choice_within below (gives (Wants (TakesCap c))) h = refl
no_choice_within below (gives (Wants (Closes c))) h = refl
no_choice_within below (gives (Wants (Communicates c))) h = refl
no_choice_within below (faults x) h = refl
no_choice_within below wrong h = refl

-- the deed that a task means leaves a choice where the task does
selects_alike : (means : ℕ → Meanings) (code : ProgramCode) (o : Outcome Task) → is_select (deed_meant means code o) ≡ chooses o
selects_alike means code (gives (Steps on)) = refl
selects_alike means code (gives (Wants (Moves on))) = refl
selects_alike means code (gives (Wants (Prints line))) = refl
selects_alike means code (gives (Wants (Enters function vs))) = refl
selects_alike means code (gives (Wants (Leaves v))) = refl
selects_alike means code (gives (Wants (Starts function vs))) = refl
selects_alike means code (gives (Wants (Makes n))) = refl
selects_alike means code (gives (Wants (TakesLen c))) = refl
selects_alike means code (gives (Wants (TakesCap c))) = refl
selects_alike means code (gives (Wants (Closes c))) = refl
selects_alike means code (gives (Wants (Communicates c))) = refl
selects_alike means code (gives (Wants (Chooses cs))) = refl
selects_alike means code (faults x) = refl
selects_alike means code wrong = refl

-- a frame that stands innermost comes to a deed or a fault
deed_right : {status : Status} {f : Frame} {below : List Frame} → StandsAs status (f ∷ below) → ¬ (deed f ≡ wrong)
deed_right (is_ready right rest) = right
deed_right (waits right at rest) = right

module _ (p : Program) (e : Event) (number : ℕ) (o : Objects) (a : Acting p e number o) where
  abbrev s : Contents
  s = contents_in o

  abbrev g : CodeGoroutine
  g = a.goroutine

  here : ActsHere p s e g
  here = acts_here p e number o a

  meant : deed (frame_in p here.f) ≡ deed_meant (meaning p) (lowered p) (task_of (lowered p) g)
  meant = deed_is (meaning p) p (lowered p) g here.f here.below here.acts.fits here.acts.up.frames here.acts.stand

  pub task_right : ¬ (task_of (lowered p) g ≡ wrong)
  task_right none =
      deed_right (subst (λ fs. StandsAs g.status (map (frame_in p) fs)) here.acts.up.frames (stands_as p s a.running e.go g a.there))
      (meant ∙ ap (deed_meant (meaning p) (lowered p)) none)

  -- of the goroutine that is found under its number
  pub found_is : (x : Seen) → seen_at o.goroutines number ≡ Some x → x.content ≡ g
  found_is x at = some_is (sym (ap (option_map (λ y. y.content)) (sym (seen_named o.goroutines number e.go a.named) ∙ at)) ∙ a.there)

  pub found_right : (code : ProgramCode) (x : Seen) → code ≡ lowered p → seen_at o.goroutines number ≡ Some x → ¬ (task_of code x.content ≡ wrong)
  found_right code x is at none = task_right (sym (ap₂ task_of is (found_is x at)) ∙ none)

  pub found_sends : (code : ProgramCode) (x : Seen) → code ≡ lowered p → seen_at o.goroutines number ≡ Some x → SendsIn code x.content.frames
  found_sends code x is at =
      subst (λ c. SendsIn c x.content.frames) (sym is)
      (subst (λ y. SendsIn (lowered p) y.frames) (sym (found_is x at)) (sends_in p s a.running e.go g a.there a.is_ready))

  -- the goroutine as the rules see it
  abbrev ruled : Goroutine
  ruled = goroutine_of (frame_in p) g

  there : (state_in p s).goroutines e.go ≡ Some ruled
  there = ap (option_map (goroutine_of (frame_in p))) a.there

  stands : StandsReady (state_in p s) e.go (frame_in p here.f)
  stands = record {
    runs = a.runs;
    goroutine = ruled;
    here = there;
    is_ready = a.is_ready;
    below = map (frame_in p) here.below;
    frames = ap (map (frame_in p)) here.acts.up.frames;
  }

  -- it has no other status
  status_is : (status : Status) → HasStatus (state_in p s) e.go status → ready ≡ status
  status_is status h = sym a.is_ready ∙ ap (λ (x : Goroutine). x.status) (some_is (sym there ∙ h.here)) ∙ h.has

  -- an event of a ready goroutine is refused for its choice alone
  pub refused_for_choice : (r : Refusal) → refusal p (state_in p s) e ≡ Some r → r ≡ no_such_choice
  refused_for_choice program_is_over h = absurd (reason p (state_in p s) e program_is_over h a.runs)
  refused_for_choice no_such_goroutine h = absurd (some_not (sym there ∙ (reason p (state_in p s) e no_such_goroutine h).1))
  refused_for_choice goroutine_is_done h =
      absurd (let no : ready ≡ finished = status_is finished (reason p (state_in p s) e goroutine_is_done h) in cc)
  refused_for_choice goroutine_waits h =
      let why = reason p (state_in p s) e goroutine_waits h in
      absurd (let no : ready ≡ waiting why.0 = status_is (waiting why.0) why.1 in cc)
  refused_for_choice no_such_choice h = refl
  refused_for_choice unsound h = absurd (never_unsound p s a.running e ((refusal_is_leaf p (state_in p s) e unsound).0 h))

  -- where it is refused at all
  pub refused : is_none (refusal p (state_in p s) e) ≡ false → refusal p (state_in p s) e ≡ Some no_such_choice
  refused h = by_refusal (refusal p (state_in p s) e) refl
    where
      by_refusal : (r : Option Refusal) → refusal p (state_in p s) e ≡ r → refusal p (state_in p s) e ≡ Some no_such_choice
      by_refusal None is = absurd (let no : true ≡ false = sym (ap is_none is) ∙ h in cc)
      by_refusal (Some r) is = is ∙ ap Some (refused_for_choice r is)

  pub not_refused : (refusal p (state_in p s) e ≡ Some no_such_choice → ⊥) → refusal p (state_in p s) e ≡ None
  not_refused h = by_refusal (refusal p (state_in p s) e) refl
    where
      by_refusal : (r : Option Refusal) → refusal p (state_in p s) e ≡ r → refusal p (state_in p s) e ≡ None
      by_refusal None is = is
      by_refusal (Some r) is = absurd (h (is ∙ ap Some (refused_for_choice r is)))

  -- a choice that is not possible, where the event is
  pub never_refused : refusal p (state_in p s) e ≡ None → Refuses (attempt p e) (state_in p s) no_such_choice → ⊥
  never_refused possible h = some_not (sym ((refusal_is_leaf p (state_in p s) e no_such_choice).1 h) ∙ possible)

  -- a task that leaves no choice has the plain one alone
  module _ (none : chooses (task_of (lowered p) g) ≡ false) where
    no_select : is_select (deed (frame_in p here.f)) ≡ false
    no_select = ap is_select meant ∙ selects_alike (meaning p) (lowered p) (task_of (lowered p) g) ∙ none

    pub plain_goes : e.choice ≡ choices.Plain → refusal p (state_in p s) e ≡ None
    plain_goes plain = not_refused (λ h. (if_plain p (state_in p s) e (frame_in p here.f) stands no_select).0 h plain)

    pub others_refused : (e.choice ≡ choices.Plain → ⊥) → refusal p (state_in p s) e ≡ Some no_such_choice
    others_refused other = (if_plain p (state_in p s) e (frame_in p here.f) stands no_select).1 other

    pub is_plain : refusal p (state_in p s) e ≡ None → e.choice ≡ choices.Plain
    is_plain possible = by_choice e.choice refl
      where
        other : (e.choice ≡ choices.Plain → ⊥) → e.choice ≡ choices.Plain
        other not_plain = absurd (some_not (sym (others_refused not_plain) ∙ possible))

        by_choice : (c : Choice) → e.choice ≡ c → e.choice ≡ choices.Plain
        by_choice choices.Plain is = is
        by_choice (choices.Pick i) is = other (λ plain. let no : choices.Pick i ≡ choices.Plain = sym is ∙ plain in cc)
        by_choice choices.Default is = other (λ plain. let no : choices.Default ≡ choices.Plain = sym is ∙ plain in cc)
        by_choice choices.Park is = other (λ plain. let no : choices.Park ≡ choices.Plain = sym is ∙ plain in cc)

  -- a local instruction leaves none
  pub local_leaves_none : is_local (lowered p) g ≡ true → chooses (task_of (lowered p) g) ≡ false
  local_leaves_none alone =
      no_choice_within here.below (task_of (lowered p) g) (local_stays_within (lowered p) g here.f here.below here.acts.up.frames alone)

  -- where the event is possible, a task that is no select is taken with the plain choice
  pub plain_by : (t : Outcome Task) → refusal p (state_in p s) e ≡ None → chooses t ≡ false
      → ((x : CodeGoroutine) → s.goroutines e.go ≡ Some x → task_of (lowered p) x ≡ t) → e.choice ≡ choices.Plain
  plain_by t possible none task = is_plain (ap chooses (task g a.there) ∙ none) possible
