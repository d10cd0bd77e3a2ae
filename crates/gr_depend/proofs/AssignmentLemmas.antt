-- What steps gave values, by the records and by the rules.
use Rattle.std.proofs.Common.{◌≡◌, ℕ, suc, Bool, true, false, ◌&&◌, List, [], ◌∷◌, ◌++◌, map, find, reverse, slice_get, Option, Some, None, option_map, refl, sym, ap, subst, ◌∙◌, arith, inl, inr}
use Rattle.std.specs.Prelude.{option_and_then, if◌then◌else◌}
use Rattle.std.specs.Option.{option_map_or, option_or}
use Rattle.std.proofs.lemmas.Bool.{cases_Bool}
use Rattle.std.proofs.lemmas.List.{reverse-append}
use Rattle.gr_base.specs.declared.events.Event.{Event}
use Rattle.gr_causal.specs.Rules.{Note}
use Rattle.gr_program.specs.Programs.{Program}
use Rattle.gr_rules.specs.Assigned.{given_by, given_in, given_to, assigned, assigns, later, last_assignment}
use Rattle.gr_rules.specs.Attempts.{Report}
use Rattle.gr_rules.specs.Deeds.{deed}
use Rattle.gr_rules.specs.Frames.{Frame}
use Rattle.gr_rules.specs.States.{State, same_go}
use Rattle.gr_rules.specs.Steps.{count, steps_of, attempt}
use Rattle.gr_laws.specs.Reached.{Logged}
use Rattle.gr_laws.proofs.RuleCounts.{machine_counts}
use Rattle.gr_code.specs.CodeFrames.{CodeFrame, instruction_at}
use Rattle.gr_code.specs.Goroutines.{CodeGoroutine}
use Rattle.gr_code.specs.Instructions.{Instruction}
use Rattle.gr_code.specs.Programs.{ProgramFits, Stands}
use Rattle.gr_code.proofs.Standing.{has}
use Rattle.gr_refine.specs.Contents.{Contents, goroutine_of}
use Rattle.gr_refine.specs.Attempting.{IsUp}
use Rattle.gr_refine.specs.Looks.{actor_of}
use Rattle.gr_refine.specs.Machines.{note_of}
use Rattle.gr_refine.specs.Standing.{AllStand, ContentsStand}
use Rattle.gr_refine.proofs.AttemptLemmas.{attempt_is_of_the_deed, step_is_of_the_machine}
use Rattle.gr_lower.specs.Lowered.{lowered, meaning}
use Rattle.gr_goros.specs.declared.undo.Spot.{Spot}
use Rattle.gr_record.specs.declared.record.Record.{Record}
use Rattle.gr_record.specs.Kept.{Kept, Tells}
use Rattle.gr_record.specs.Listings.{frame_in, state_in}
use Rattle.gr_record.specs.Running.{Running}
use Rattle.gr_record.specs.Records.{event_of, is_go, begun_by, go_back, goroutines_changed}
use Rattle.gr_record.specs.Taking.{IsRecord}
use Rattle.gr_record.specs.Pairs.{id_of}
use Rattle.gr_record.proofs.ChainLemmas.{Chain, chain_of}
use Rattle.gr_record.proofs.RecordLemmas.{goes}
use Rattle.type_safety.proofs.CodeOfPrograms.{checked_fits}
use Rattle.gr_depend.specs.Given.{given_at, given_there, given_from, stood, gave, any_called, gave_to, last_given}
use Rattle.gr_depend.specs.Histories.{is_fault}
use Rattle.gr_depend.proofs.SpotLemmas.{Stood}
use Rattle.gr_depend.proofs.SpotLemmas as spots
use Rattle.gr_depend.proofs.KindLemmas.{is_up, given_alike}
use Rattle.gr_depend.proofs.HistoryLemmas.{name_is}

-- what is there, although it could be gone
not_gone : {A : Type 0} → (b : Bool) (o : Option A) (x : A) → (if b then None else o) ≡ Some x → o ≡ Some x
not_gone false o x e = e
not_gone true o x e = absurd (let none : None ≡ Some x = e in cc)

-- the record of a step that a goroutine takes from contents whose frames stand
module _ (p : Program) (s : Contents) (r : Record) (t : Contents) (is : IsRecord p s r t) (fits : ProgramFits (meaning p) p (lowered p))
    (stand : ContentsStand (meaning p) (lowered p) s) where
  abbrev e : Event
  e = event_of r

  abbrev report : Report
  report = is.takes.report

  -- with its innermost frame
  module _ (g : CodeGoroutine) (f : CodeFrame) (below : List CodeFrame) (up : IsUp s e g f below) where
    abbrev F : Frame
    F = frame_in p f

    stands : Stands (meaning p) (lowered p) f
    stands = (subst {_, _} (AllStand (meaning p) (lowered p)) up.frames (stand e.go g up.there)).0

    back : go_back (goroutines_changed e.go r.change) e.go (t.goroutines e.go) ≡ Some g
    back = not_gone (is_go e.go (begun_by r.change)) _ g (ap (λ (c : Contents). c.goroutines e.go) is.takes.back ∙ up.there)

    stood_there : Stood f below (stood r) (t.goroutines e.go) g
    stood_there = spots.stood f below e.go (goroutines_changed e.go r.change) (t.goroutines e.go) g back up.frames

    -- its count of steps rose
    rose : (h : CodeGoroutine) → t.goroutines e.go ≡ Some h → h.steps ≡ suc g.steps
    rose h there =
        let performs = is.takes.steps in
        let step = step_is_of_the_machine (frame_in p) s t p e report performs in
        let raised : count (state_in p t) e.go ≡ suc (count (state_in p s) e.go) =
        (machine_counts p).raised (state_in p s) (state_in p t) e (note_of (state_in p s) (attempt p e) report performs.cells) step in
        let steps_in : Option CodeGoroutine → ℕ = λ o. steps_of (option_map (goroutine_of (frame_in p)) o) in
        sym (ap steps_in there) ∙ raised ∙ ap (λ o. suc (steps_in o)) up.there

    names_there : (i : Instruction) → instruction_at (lowered p) f ≡ Some i → (o : Option Spot) → Stood f below o (t.goroutines e.go) g
        → given_from p (lowered p) o ≡ given_at p f.function i
    names_there i at (Some spot) same =
        (λ k. given_there p (lowered p) (record { function = same.0 k; number = same.1 k }))
        ∙ ap (λ o. option_map_or (given_at p f.function) o []) at
    names_there i at None same = absurd (let more : suc g.steps ≡ g.steps = sym (rose same.0 same.1) ∙ same.2 in omega (arith, more))

    gave_here : gave p (lowered p) r ≡ assigned p (state_in p s) e
    gave_here =
        let code = has (meaning p) p (lowered p) fits f stands in
        let a = actor_of (frame_in p) p e g f below in
        let ends = sym (attempt_is_of_the_deed (frame_in p) s p e g f below (deed F) up refl) ∙ is.takes.steps.ends in
        let rules = given_alike (meaning p) p (lowered p) f code.0 fits stands code.1 (state_in p s) a e.choice report is.takes.steps.cells (deed F) refl ends in
        ap (λ names. if is_fault r.change.kind then [] else names) (names_there code.0 code.1 (stood r) stood_there)
        ∙ ap (λ k. if is_fault k then [] else given_at p f.function code.0) is.takes.kind
        ∙ sym rules
        ∙ ap (λ (fs : List CodeFrame). given_by p (map (frame_in p) fs) F (deed F)) up.frames
        ∙ sym (ap (λ (fs : List CodeFrame). given_in p (map (frame_in p) fs)) up.frames)
        ∙ sym (ap (λ (o : Option CodeGoroutine). given_to p (option_map (goroutine_of (frame_in p)) o)) up.there)

  pub gave_alike : gave p (lowered p) r ≡ assigned p (state_in p s) e
  gave_alike =
      let up = is_up (frame_in p) s p e report is.takes.steps.cells is.takes.steps.ends in
      gave_here up.0 up.1 up.2 up.3

-- the last of some steps, and its place
module _ (p : Program) where
  abbrev Same : Option Record → Option ℕ → List (Logged p) → Type 0
  Same (Some r) (Some i) ls = (l : Logged p) × (slice_get ls i ≡ Some l) × (r.id ≡ id_of p l)
  Same None None ls = Unit {0}
  Same _ _ ls = ⊥

  abbrev one_if : Bool → Record → Option Record
  one_if b r = if b then Some r else None

  same_on : (o : Option Record) (i : Option ℕ) (ls : List (Logged p)) (r : Record) (l : Logged p) (b : Bool) → r.id ≡ id_of p l → Same o i ls
      → Same (option_or o (one_if b r)) (later i b) (l ∷ ls)
  same_on (Some q) (Some i) ls r l b name same = same
  same_on None None ls r l true name same = (l, refl, name)
  same_on None None ls r l false name same = tt
  same_on (Some q) None ls r l b name same = absurd same
  same_on None (Some i) ls r l b name same = absurd same

  same_name : (o : Option Record) (i : Option ℕ) (ls : List (Logged p)) → Same o i ls
      → option_map (λ (r : Record). r.id) o ≡ option_and_then (λ i. option_map (id_of p) (slice_get ls i)) i
  same_name (Some r) (Some i) ls same = ap Some same.2 ∙ sym (ap (option_map (id_of p)) same.1)
  same_name None None ls same = refl
  same_name (Some r) None ls same = absurd same
  same_name None (Some i) ls same = absurd same

found_after : {A : Type 0} → (q : A → Bool) (xs : List A) (x : A) → find q (xs ++ x ∷ []) ≡ option_or (find q xs) (if q x then Some x else None)
found_after q [] x = refl
found_after q (y ∷ xs) x = elim (cases_Bool (q y)) [
  | inl t ↦ rw t refl
  | inr t ↦ rw t (found_after q xs x)
]

module _ (p : Program) (fits : ProgramFits (meaning p) p (lowered p)) (g x : List ℕ) where
  abbrev gives : Record → Bool
  gives = gave_to p (lowered p) g x

  gives_alike : (s m : Contents) (r : Record) (l : Logged p) → ContentsStand (meaning p) (lowered p) s → Tells p s r l m
      → gives r ≡ assigns p (state_in p s) g x l.event
  gives_alike s m r l stand tells =
      ap (λ names. same_go g r.id.go && any_called x names) (gave_alike p s r m tells.is fits stand)
      ∙ sym (ap (assigns p (state_in p s) g x) tells.event)

  abbrev last_place : Contents → List (Logged p) → Option ℕ
  last_place s ls = last_assignment p (state_in p s) g x (map (λ (l : Logged p). l.event) ls)

  place_on : (s m : Contents) (r : Record) (l : Logged p) (ls : List (Logged p)) → Tells p s r l m
      → last_place s (l ∷ ls) ≡ later (last_place m ls) (assigns p (state_in p s) g x l.event)
  place_on s m r l ls tells =
      ap (λ (o : Option (State × Note _ _)). option_and_then (λ r. later (last_assignment p r.0 g x (map (λ (l : Logged p). l.event) ls)) (assigns p (state_in p s) g x l.event)) o)
      (goes p s r l m tells).does

  last_alike : (s t : Contents) (rs : List Record) (ls : List (Logged p)) → ContentsStand (meaning p) (lowered p) s → Chain p s rs ls t
      → Same p (find gives (reverse rs)) (last_place s ls) ls
  last_alike s t [] [] stand chain = tt
  last_alike s t (r ∷ rs) (l ∷ ls) stand chain =
      let tells = chain.1 in
      let rest = last_alike chain.0 t rs ls tells.is.takes.stand chain.2 in
      let more = same_on p (find gives (reverse rs)) (last_place chain.0 ls) ls r l (gives r) (name_is p s r l chain.0 tells) rest in
      let found : find gives (reverse (r ∷ rs)) ≡ option_or (find gives (reverse rs)) (one_if p (gives r) r) =
      ap (find gives) (reverse-append (r ∷ []) rs) ∙ found_after gives (reverse rs) r in
      let place : last_place s (l ∷ ls) ≡ later (last_place chain.0 ls) (gives r) =
      place_on s chain.0 r l ls tells ∙ ap (later (last_place chain.0 ls)) (sym (gives_alike s chain.0 r l stand tells)) in
      subst {_, _} (λ o. Same p o (last_place s (l ∷ ls)) (l ∷ ls)) (sym found)
      (subst {_, _} (λ i. Same p (option_or (find gives (reverse rs)) (one_if p (gives r) r)) i (l ∷ ls)) (sym place) more)
  last_alike s t [] (l ∷ ls) stand chain = absurd chain
  last_alike s t (r ∷ rs) [] stand chain = absurd chain

  pub last_given_alike : (s t : Contents) (rs : List Record) (ls : List (Logged p)) → ContentsStand (meaning p) (lowered p) s → Kept p s rs ls t
      → last_given p (lowered p) g x rs ≡ option_and_then (λ i. option_map (id_of p) (slice_get ls i)) (last_place s ls)
  last_given_alike s t rs ls stand kept =
      same_name p (find gives (reverse rs)) (last_place s ls) ls (last_alike s t rs ls stand (chain_of p s rs ls t kept))

-- what a record says that its step gave values is what the rules say, in a run of a checked program
pub record_gave : (p : Program) (s t : Contents) (r : Record) → Running p s → IsRecord p s r t → gave p (lowered p) r ≡ assigned p (state_in p s) (event_of r)
record_gave p s t r running is = gave_alike p s r t is (checked_fits running.program.file p running.program.checked) running.stand

pub last_of_kept : (p : Program) (s t : Contents) (rs : List Record) (ls : List (Logged p)) (g x : List ℕ) → Running p s → Kept p s rs ls t
    → last_given p (lowered p) g x rs
    ≡ option_and_then (λ i. option_map (id_of p) (slice_get ls i)) (last_assignment p (state_in p s) g x (map (λ (l : Logged p). l.event) ls))
last_of_kept p s t rs ls g x running kept =
    last_given_alike p (checked_fits running.program.file p running.program.checked) g x s t rs ls running.stand kept
