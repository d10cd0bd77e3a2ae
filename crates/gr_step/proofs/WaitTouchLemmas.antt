-- What the step of a goroutine that comes to wait touches, as the table has it.
use Rattle.std.proofs.Common.{◌≡◌, ℕ, zero, suc, Bool, true, false, List, [], ◌∷◌, ◌++◌, map, Option, Some, None, option_map, refl, sym, ap, ◌∙◌}
use Rattle.std.specs.List.{list_any, list_all, flat_map}
use Rattle.std.proofs.lemmas.Bool.{and_from}
use Rattle.std.proofs.lemmas.List.Folds.{list_all-append}
use Rattle.gr_base.specs.declared.names.ChName.{ChName}
use Rattle.gr_base.specs.declared.values.Value.{Value}
use Rattle.gr_base.specs.declared.events.Event.{Event}
use Rattle.gr_base.specs.declared.kinds.Kind.TheVariants.{SendWait, RecvWait, SelectWait}
use Rattle.gr_base.specs.declared.objects.Object.{Object}
use Rattle.gr_base.specs.declared.objects.Object.TheVariants.{Run, Go, Gate, Tail, Head, Slot}
use Rattle.gr_program.specs.Programs.{Program}
use Rattle.gr_rules.specs.Outcomes.{gives}
use Rattle.gr_rules.specs.Frames.{Frame}
use Rattle.gr_rules.specs.Deeds.{Communication, Sending, Receiving, Otherwise, Chooses}
use Rattle.gr_rules.specs.Attempts.{sends_on, receives_from}
use Rattle.gr_rules.specs.Actors.{channels_but}
use Rattle.gr_rules.specs.Communications.{all_waits}
use Rattle.gr_rules.specs.Selects.{numbered}
use Rattle.gr_rules.specs.States.{State, same}
use Rattle.gr_rules.specs.Touches.{table, touches, side, slot_numbered, clauses_by, clauses_in}
use Rattle.gr_laws.specs.Touched.{each_once}
use Rattle.gr_code.specs.CodeFrames.{CodeFrame, Wants}
use Rattle.gr_code.specs.Goroutines.{CodeGoroutine, task_of}
use Rattle.gr_code.specs.Programs.{deed_meant}
use Rattle.gr_refine.specs.Contents.{Contents, state_of}
use Rattle.gr_refine.specs.Looks.{actor_of}
use Rattle.gr_refine.specs.Performing.{reported}
use Rattle.gr_refine.proofs.TaskLemmas.{deed_is}
use Rattle.gr_lower.specs.Lowered.{lowered, meaning}
use Rattle.gr_record.specs.Listings.{frame_in, state_in}
use Rattle.gr_step.specs.Parks.{with_channels, gates_of}
use Rattle.gr_record.specs.Running.{Running}
use Rattle.gr_step.proofs.EachOnceLemmas.{AlikeFor, alike_after}
use Rattle.gr_step.proofs.RunningLemmas.{code_fits}

-- whether an object is a part of a channel
abbrev pub of_channel : Object → Bool
of_channel Run = false
of_channel (Go n) = false
of_channel _ = true

slot_of_channel : (c : ChName) (k n : ℕ) → list_all of_channel (slot_numbered c k n) ≡ true
slot_of_channel c zero n = refl
slot_of_channel c (suc k) n = refl

pub side_of_channels : (t : State) (w : Communication) → list_all of_channel (side t w) ≡ true
side_of_channels t (Sending (Some c) v) = slot_of_channel c _ _
side_of_channels t (Sending None v) = refl
side_of_channels t (Receiving (Some c) initial) = slot_of_channel c _ _
side_of_channels t (Receiving None initial) = refl
side_of_channels t Otherwise = refl

pub sides_of_channels : (t : State) (ws : List Communication) → list_all of_channel (flat_map (side t) ws) ≡ true
sides_of_channels t [] = refl
sides_of_channels t (w ∷ ws) =
    list_all-append of_channel (side t w) (flat_map (side t) ws)
    ∙ and_from (list_all of_channel (side t w)) (list_all of_channel (flat_map (side t) ws)) (side_of_channels t w) (sides_of_channels t ws)

no_run : (cs : List ChName) → list_any (same Run) (map Gate cs) ≡ false
no_run [] = refl
no_run (c ∷ cs) = no_run cs

other_parts : (n : List ℕ) (seen : List Object) → AlikeFor of_channel (Run ∷ Go n ∷ seen) seen
other_parts n seen Run h = absurd (let no : false ≡ true = h in cc)
other_parts n seen (Go m) h = absurd (let no : false ≡ true = h in cc)
other_parts n seen (Gate c) h = refl
other_parts n seen (Tail c) h = refl
other_parts n seen (Head c) h = refl
other_parts n seen (Slot c i) h = refl

-- whether the program runs is read, and then what the communications look at, but for the gates that are written
pub once_among : (n : List ℕ) (cs : List ChName) (sides : List Object) → list_all of_channel sides ≡ true
    → each_once (Go n ∷ map Gate cs) (Run ∷ sides) ≡ Run ∷ each_once (map Gate cs) sides
once_among n cs sides all =
    rw (no_run cs) (ap (λ l. Run ∷ l) (alike_after of_channel (Run ∷ Go n ∷ map Gate cs) (map Gate cs) sides all (other_parts n (map Gate cs))))

-- what a communication looks at is told by the channels alone
pub side_by_channels : (frame : CodeFrame → Frame) (s : Contents) (w : Communication)
    → side (state_of frame (with_channels s.channels)) w ≡ side (state_of frame s) w
side_by_channels frame s (Sending (Some c) v) = refl
side_by_channels frame s (Sending None v) = refl
side_by_channels frame s (Receiving (Some c) initial) = refl
side_by_channels frame s (Receiving None initial) = refl
side_by_channels frame s Otherwise = refl

pub sides_by_channels : (frame : CodeFrame → Frame) (s : Contents) (ws : List Communication)
    → flat_map (side (state_of frame (with_channels s.channels))) ws ≡ flat_map (side (state_of frame s)) ws
sides_by_channels frame s [] = refl
sides_by_channels frame s (w ∷ ws) =
    ap (λ l. l ++ flat_map (side (state_of frame (with_channels s.channels))) ws) (side_by_channels frame s w)
    ∙ ap (λ l. side (state_of frame s) w ++ l) (sides_by_channels frame s ws)

module _ (p : Program) (e : Event) (s : Contents) (g : CodeGoroutine) (f : CodeFrame) (below : List CodeFrame) (there : s.goroutines e.go ≡ Some g) where
  pub send_row : (c : Option ChName) (v : Value) (sides : List Object)
      → sides ≡ side (state_of (frame_in p) (with_channels s.channels)) (Sending c (gives v))
      → table (state_in p s) e (reported (actor_of (frame_in p) p e g f below) None (option_map sends_on c) SendWait)
      ≡ touches (Run ∷ sides) (Go e.go ∷ gates_of ((None, Sending c (gives v)) ∷ []))
  send_row (Some c) v sides are = ap (λ l. touches (Run ∷ l) (Go e.go ∷ Gate c ∷ [])) (sym are)
  send_row None v sides are = rw there (ap (λ l. touches (Run ∷ l) (Go e.go ∷ [])) (sym are))

  pub receive_row : (c : Option ChName) (initial : Value) (sides : List Object)
      → sides ≡ side (state_of (frame_in p) (with_channels s.channels)) (Receiving c initial)
      → table (state_in p s) e (reported (actor_of (frame_in p) p e g f below) None (option_map receives_from c) RecvWait)
      ≡ touches (Run ∷ sides) (Go e.go ∷ gates_of ((None, Receiving c initial) ∷ []))
  receive_row (Some c) initial sides are = ap (λ l. touches (Run ∷ l) (Go e.go ∷ Gate c ∷ [])) (sym are)
  receive_row None initial sides are = rw there (ap (λ l. touches (Run ∷ l) (Go e.go ∷ [])) (sym are))

  pub select_row : (cs : List Communication) (sides : List Object) → Running p s → g.frames ≡ f ∷ below
      → task_of (lowered p) g ≡ gives (Wants (Chooses cs))
      → sides ≡ flat_map (side (state_of (frame_in p) (with_channels s.channels))) cs
      → table (state_in p s) e (reported (actor_of (frame_in p) p e g f below) None None SelectWait)
      ≡ touches (Run ∷ sides) (Go e.go ∷ gates_of (numbered 1 cs))
  select_row cs sides run frames task are =
      let stand = run.stand e.go g there in
      let clauses : clauses_in (map (frame_in p) g.frames) ≡ cs =
      ap (λ fs. clauses_in (map (frame_in p) fs)) frames
      ∙ ap clauses_by (deed_is (meaning p) p (lowered p) g f below (code_fits p s run) frames stand ∙ ap (deed_meant (meaning p) (lowered p)) task) in
      rw (there, clauses)
      (ap (λ l. touches (Run ∷ l) (Go e.go ∷ gates_of (numbered 1 cs))) (sym (are ∙ sides_by_channels (frame_in p) s cs)))

  pub side_once : (ws : List (Option ℕ × Communication)) (w : Communication) (sides : List Object)
      → sides ≡ side (state_of (frame_in p) (with_channels s.channels)) w
      → each_once (Go e.go ∷ gates_of ws) (Run ∷ sides) ≡ Run ∷ each_once (gates_of ws) sides
  side_once ws w sides are =
      once_among e.go (channels_but [] (all_waits ws)) sides (ap (list_all of_channel) are ∙ side_of_channels (state_of (frame_in p) (with_channels s.channels)) w)

  pub sides_once : (ws : List (Option ℕ × Communication)) (cs : List Communication) (sides : List Object)
      → sides ≡ flat_map (side (state_of (frame_in p) (with_channels s.channels))) cs
      → each_once (Go e.go ∷ gates_of ws) (Run ∷ sides) ≡ Run ∷ each_once (gates_of ws) sides
  sides_once ws cs sides are =
      once_among e.go (channels_but [] (all_waits ws)) sides (ap (list_all of_channel) are ∙ sides_of_channels (state_of (frame_in p) (with_channels s.channels)) cs)
