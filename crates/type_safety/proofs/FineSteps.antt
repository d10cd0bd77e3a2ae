-- Progress and preservation of a frame's deed, but for a select: no refusal, and cells whose values have sorts.
use Rattle.std.proofs.Common.{◌≡◌, ℕ, ℤ, pos, negsuc, ◌+◌, ◌-◌, ◌^◌, nat_le, arith, List, [], ◌∷◌, ◌++◌, map, length, Option, Some, None, refl, sym, ◌∙◌, ap, subst}
use Rattle.std.proofs.lemmas.Option.{none-some}
use Rattle.gr_base.specs.declared.names.ChName.{ChName}
use Rattle.gr_base.specs.declared.values.Value.{Value}
use Rattle.gr_base.specs.declared.values.Value.TheVariants as values
use Rattle.gr_base.specs.declared.kinds.Fault.TheVariants.{BadSize, CallDepth, NameDepth, NameCount}
use Rattle.gr_program.specs.Types.{Ty}
use Rattle.gr_typing.specs.Scopes.{Signature, Sign, signature}
use Rattle.gr_rules.specs.Outcomes.{gives}
use Rattle.gr_rules.specs.Frames.{Frame, goes_on}
use Rattle.gr_rules.specs.Deeds.{Deed, Enters, Chooses, deed, resumed}
use Rattle.gr_rules.specs.Goroutines.{ready}
use Rattle.gr_rules.specs.States.{State}
use Rattle.gr_rules.specs.Attempts.{Refusal, Operation, takes_len_of, takes_cap_of, Attempt}
use Rattle.gr_rules.specs.Actors.{Actor, onward}
use Rattle.gr_laws.specs.Soundness.{made_by}
use Rattle.gr_rules.specs.Steps.{enter, finish, leave, go, new_channel, make, counted, take_len, take_cap, print, act}
use Rattle.type_safety.specs.Standing.{children_of}
use Rattle.type_safety.proofs.Sorts.{Sort, sort_of, result_sort, Made, More, HasSort, HaveSorts}
use Rattle.type_safety.proofs.Running.{SortedFrame, GoesOn, Asking, SortedBelow, caller, SortedFrames, is_ready, is_finished, IsMade, SortedDeed, moves, prints, enters, leaves, starts, makes, takes_len, takes_cap, closes, communicates, chooses}
use Rattle.type_safety.proofs.Running as running
use Rattle.type_safety.proofs.Attempting as attempting
use Rattle.type_safety.proofs.Attempting.{plain, with_channel}
use Rattle.type_safety.proofs.Promises.{Acting}
use Rattle.type_safety.proofs.SortedFrames.{below_more}
use Rattle.type_safety.proofs.SortedParts.{resumed_sorted}
use Rattle.type_safety.proofs.SortedCalled.{called_sorted}
use Rattle.type_safety.proofs.FineAttempts.{IsFine, if_fine, go_fine, tail_fine, head_fine, gate_fine, own_sorted, stays, does_fine, goes_fine, goes_on_fine, fault_fine}
use Rattle.type_safety.proofs.FineWaits.{proceed_fine}
use Rattle.type_safety.proofs.FineClosing.{close_fine}
use Rattle.type_safety.proofs.SortedWrites.{more_channel, has_channel_made}

module _ (P : Refusal → Type 0) (fs : List Signature) (made : Made) (s : State) (a : Actor) (k : Sort) (acting : Acting fs made s a k) where
  abbrev G : Attempt → Type 0
  G = IsFine P fs made s

  frames_ready : (gs : List Frame) → SortedFrames fs made ready gs → SortedFrames fs made a.before.status gs
  frames_ready gs h = subst (λ x. SortedFrames fs made x gs) (sym acting.calm) h

  enter_fine : (n : ℕ) (vs : List Value) (name : List ℕ) (ts : List Ty) (r : Option Ty)
      → deed a.frame ≡ gives (Enters n vs) → signature fs n ≡ Some (Sign name ts r)
      → HaveSorts made vs (map sort_of ts) → Asking fs (result_sort r) a.frame → G (enter a n vs)
  enter_fine n vs name ts r e signed have asking = if_fine (nat_le 1000 (length a.before.frames))
      (λ d. fault_fine acting None CallDepth)
      (λ d.
      let below : SortedBelow fs made n (result_sort r) a.before.frames =
      subst (SortedBelow fs made n (result_sort r)) (sym acting.frames) (caller e asking acting.sorted_frame acting.below) in
      goes_on_fine acting (called_sorted fs a.program made n name ts r vs acting.program signed have) (λ g d h.
      does_fine acting (frames_ready (g ∷ a.before.frames) (is_ready h (subst (λ n. SortedBelow fs made n (result_sort r) a.before.frames) (sym d) below))) refl tt))

  finish_fine : (name : List ℕ) → G (finish a name)
  finish_fine [] = does_fine acting is_finished refl (tt, tt)
  finish_fine (n ∷ ns) = does_fine acting is_finished refl tt

  leave_fine : (n : ℕ) (v : Value) (gs : List Frame) → HasSort made v k → SortedBelow fs made n k gs
      → G (leave a v gs)
  leave_fine n v [] h b = finish_fine a.name
  leave_fine n v (g ∷ gs) h (caller {l = l} e asking sorted below) =
      goes_on_fine acting (resumed_sorted fs made k _ g v asking sorted h) (λ f d s.
      does_fine acting (frames_ready (f ∷ gs) (is_ready s (subst (λ n. SortedBelow fs made n l gs) (sym d) below))) refl tt)

  go_is_fine : (n : ℕ) (vs : List Value) (name : List ℕ) (ts : List Ty) (r : Option Ty)
      → signature fs n ≡ Some (Sign name ts r) → HaveSorts made vs (map sort_of ts)
      → SortedFrame fs made k (goes_on a.frame) → G (go a n vs)
  go_is_fine n vs name ts r signed have h =
      if_fine (nat_le 32 (length a.name)) (λ e. fault_fine acting None NameDepth)
      (λ e. if_fine (nat_le (2 ^ 32 - 1) a.before.children) (λ e. fault_fine acting None NameCount)
      (λ e.
      let count : children_of (s.goroutines a.name) ≡ a.before.children = ap children_of acting.here in
      go_fine None (acting.sorted.fresh a.name (a.before.children + 1) [] (omega arith))
      (goes_on_fine acting (called_sorted fs a.program made n name ts r vs acting.program signed have) (λ g d q. record {
        fine =
            attempting.starts (stays acting (goes_on a.frame) refl h) acting.here refl (is_ready q running.outermost) refl;
      }))))

  not_made : made (new_channel a) ≡ None
  not_made = by_made (made (new_channel a)) refl
    where
      by_made : (x : Option Sort) → made (new_channel a) ≡ x → made (new_channel a) ≡ None
      by_made None e = e
      by_made (Some e) d =
          let count : made_by (s.goroutines a.name) ≡ a.before.channels = ap made_by acting.here in
          let none : s.gates (new_channel a) ≡ None = acting.sound.named (new_channel a) (omega arith) in
          absurd (none-some _ (sym none ∙ (acting.sorted.gates (new_channel a) e d).1))

  make_fine : (n : ℤ) (e : Sort)
      → ((after : Made) (c : ChName) → More made after → after c ≡ Some e
      → GoesOn fs after k a.frame.function (resumed a.frame (values.Chan (Some c)))) → G (make a n)
  make_fine (negsuc n) e h = fault_fine acting None BadSize
  make_fine (pos n) e h = if_fine (nat_le 1000001 n) (λ q. fault_fine acting None BadSize)
      (λ q. if_fine (nat_le (2 ^ 32 - 1) a.before.channels) (λ q. fault_fine acting None NameCount)
      (λ q.
      let c = new_channel a in
      let after = with_channel made c e in
      let more = more_channel made c e not_made in
      goes_on_fine acting (h after c more (has_channel_made made c e)) (λ f q s. record {
        fine = attempting.makes not_made
            (subst (λ x. SortedFrames fs after x (f ∷ a.below)) (sym acting.calm)
            (is_ready s (subst (λ n. SortedBelow fs after n k a.below) (sym q)
            (below_more fs made after a.frame.function k a.below more acting.below))))
            acting.here refl refl;
      })))

  counted_fine : (operation : Option Operation) (n : ℕ)
      → ((n : ℕ) → GoesOn fs made k a.frame.function (resumed a.frame (values.Int (pos n))))
      → G (counted a operation n)
  counted_fine operation n h = goes_on_fine acting (h n) (λ f d s. goes_fine acting d s tt)

  len_fine : (c : Option ChName) → IsMade made c
      → ((n : ℕ) → GoesOn fs made k a.frame.function (resumed a.frame (values.Int (pos n)))) → G (take_len a c)
  len_fine None m h = counted_fine None 0 h
  len_fine (Some c) m h =
      let g = acting.sorted.gates c m.0 m.1 in
      gate_fine g.0 g.1 (head_fine (tail_fine (counted_fine (Some (takes_len_of c)) _ h)))

  cap_fine : (c : Option ChName) → IsMade made c
      → ((n : ℕ) → GoesOn fs made k a.frame.function (resumed a.frame (values.Int (pos n)))) → G (take_cap a c)
  cap_fine None m h = counted_fine None 0 h
  cap_fine (Some c) m h =
      let g = acting.sorted.gates c m.0 m.1 in
      gate_fine g.0 g.1 (counted_fine (Some (takes_cap_of c)) _ h)

  print_fine : (line : List ℕ) → SortedFrame fs made k (goes_on a.frame) → G (print a line)
  print_fine line h =
      record { fine = plain (own_sorted acting (record (onward a (goes_on a.frame)) { text = a.before.text ++ line ∷ [] }) (stays acting (goes_on a.frame) refl h) refl, tt) }

  -- a deed that is no select
  abbrev pub Alone : Deed → Type 0
  Alone (Chooses cs) = ⊥
  Alone _ = Unit {0}

  pub act_fine : (d : Deed) → deed a.frame ≡ gives d → SortedDeed fs made k a.frame d → Alone d → G (act a d)
  act_fine d e (moves q h) o = goes_fine acting q h tt
  act_fine d e (prints h) o = print_fine _ h
  act_fine d e (enters signed have asking) o = enter_fine _ _ _ _ _ e signed have asking
  act_fine d e (leaves h) o = leave_fine _ _ a.below h acting.below
  act_fine d e (starts signed have h) o = go_is_fine _ _ _ _ _ signed have h
  act_fine d e (makes {n = n} {e = element} h) o = make_fine n element h
  act_fine d e (takes_len {c = c} m h) o = len_fine c m h
  act_fine d e (takes_cap {c = c} m h) o = cap_fine c m h
  act_fine d e (closes m h) o = record { fine = close_fine P fs made s a k _ acting m h }
  act_fine d e (communicates h) o = record { fine = proceed_fine P fs made s a k _ acting e h }
  act_fine d e (chooses h) o = absurd o
