-- Bounds that cover contents cover the state of the rules that these are.
use Rattle.std.proofs.Common.{◌≡◌, ◌≤◌, ℕ, zero, suc, ◌+◌, ◌%◌, ◌==◌, Bool, true, false, if◌then◌else◌, List, [], ◌∷◌, ◌++◌, map, length, Option, Some, None, option_map, refl, sym, ◌∙◌, ap, subst, inl, inr}
use Rattle.std.specs.Prelude.{slice_get, unwrap_or, option_and_then}
use Rattle.std.specs.Option.{option_map_or}
use Rattle.std.proofs.lemmas.Option.{none-some}
use Rattle.gr_base.specs.declared.names.ChName.{ChName}
use Rattle.gr_base.specs.declared.values.Value.{Value}
use Rattle.gr_causal.specs.Sequences.{In}
use Rattle.gr_causal.proofs.ListLemmas.{some_is}
use Rattle.gr_channels.specs.declared.waiter.Waiter.{Waiter}
use Rattle.gr_channels.specs.Channels.{Content}
use Rattle.gr_channels.specs.Objects.{GateContent, gate_of, slot_from, slot_of}
use Rattle.gr_program.specs.Programs.{Stmts, joined, Function, FunctionIs, Program, ProgramIs}
use Rattle.gr_rules.specs.Goroutines.{Status, ready, waiting, finished, Goroutine}
use Rattle.gr_code.specs.CodeFrames.{FunctionCode, CodeFrame}
use Rattle.gr_code.specs.Code.{Meanings}
use Rattle.gr_code.specs.Goroutines.{CodeGoroutine}
use Rattle.gr_code.specs.Programs.{variables_in}
use Rattle.gr_code.specs.Vectors.{temporaries_in}
use Rattle.gr_code.specs.Bounds.{nowhere}
use Rattle.gr_lower.specs.Sizes.{size_in}
use Rattle.gr_lower.specs.Lowered.{body_code, end_of, body_points, lowered_function, lowered, function_meaning, meaning}
use Rattle.gr_refine.specs.Contents.{Contents, goroutine_of}
use Rattle.gr_record.specs.Listings.{frame_in, state_in}
use Rattle.type_safety.specs.Standing.{AllAwait, caller, StandsAs, is_ready, waits}
use Rattle.gr_may.specs.Uses.{Uses, Usage, Shared}
use Rattle.gr_may.specs.Demands.{function_at, PointFits}
use Rattle.gr_may.specs.Covers.{FrameFits, FramesFit, GoFits, FunctionFits, Covers}
use Rattle.gr_bounds.specs.CoveredContents.{body_of, EachFits, CodeFrameFits, CoversContents}
use Rattle.gr_bounds.proofs.Filled.{point_filled}
use Rattle.gr_bounds.proofs.FrameLemmas.{EachFrom, points_from, body_uses, in_cells, in_slots}
use Rattle.gr_bounds.proofs.Returning.{returns_to}

-- how many variables a function has
abbrev count_of : Function → ℕ
count_of (FunctionIs name parameters result variables body last) = length variables

variables_are : (p : Program) (k : ℕ) (f : Function) → function_at p k ≡ Some f → variables_in (lowered p) k ≡ count_of f
variables_are (ProgramIs functions main) k f e = by_list functions k e
  where
    counted : Function → ℕ
    counted f = (lowered_function f).variables

    same_count : (f : Function) → (lowered_function f).variables ≡ count_of f
    same_count (FunctionIs name parameters result variables body last) = refl

    by_list : (fs : List Function) (k : ℕ) → slice_get fs k ≡ Some f
        → option_map_or (λ (c : FunctionCode). c.variables) (slice_get (map lowered_function fs) k) 0 ≡ count_of f
    by_list [] k e = absurd (none-some _ e)
    by_list (g ∷ fs) zero e = same_count g ∙ ap count_of (some_is _ _ e)
    by_list (g ∷ fs) (suc k) e = by_list fs k e

meaning_is : (p : Program) (k : ℕ) (f : Function) → function_at p k ≡ Some f → meaning p k ≡ function_meaning f
meaning_is (ProgramIs functions main) k f e = ap (λ o. option_map_or function_meaning o (λ on. end_of nowhere)) e

module _ (p : Program) (usage : Usage) where
  points_here : (n : List ℕ) (uses : ℕ → Uses) (k : ℕ) (f : Function) (ended others : Stmts) (on : ℕ) → body_of f ≡ joined ended others
      → EachFits p usage n uses k f (size_in ended) → size_in ended ≤ on → PointFits p usage n uses k (function_meaning f on)
  points_here n uses k (FunctionIs name parameters result variables body last) ended others on split each after =
      subst (λ body. PointFits p usage n uses k (unwrap_or (slice_get (body_points (length variables) body last) on) (end_of last))) (sym split)
      (points_from p usage n uses k ended others last (length variables)
      (subst (λ body. EachFrom p usage n uses k (size_in ended) (body_code (length variables) body)) split each) on after)

  pub frame_fits : (n : List ℕ) (f : CodeFrame) → CodeFrameFits p usage n f → FrameFits p usage n (frame_in p f)
  frame_fits n f h =
      let means : meaning p f.function ≡ function_meaning h.function = meaning_is p f.function h.function h.is in
      let here = points_here n h.uses f.function h.function h.ended h.others f.number h.split h.code h.stands in
      let count = variables_in (lowered p) f.function in
      let unfilled : PointFits p usage n h.uses f.function (meaning p f.function f.number) =
      subst (λ (m : Meanings). PointFits p usage n h.uses f.function (m f.number)) (sym means) here in record {
        uses = h.uses;
        held = λ x v e. h.held x v (in_cells count f.cells x v e);
        stands = point_filled p usage n h.uses f.function (temporaries_in count f.cells) (λ x v e. h.held x v (in_slots count f.cells x v e))
            (meaning p f.function f.number) unfilled;
      }

  frames_fit : (n : List ℕ) (f : CodeFrame) (below : List CodeFrame) → ((g : CodeFrame) → In g (f ∷ below) → CodeFrameFits p usage n g)
      → AllAwait f.function (map (frame_in p) below) → FramesFit p usage n (frame_in p f ∷ map (frame_in p) below)
  frames_fit n f [] each w = (frame_fits n f (each f (inl refl)), tt, tt)
  frames_fit n f (g ∷ below) each (caller a rest) = (
    frame_fits n f (each f (inl refl)),
    returns_to (frame_in p f) (frame_in p g ∷ map (frame_in p) below) (caller a rest),
    frames_fit n g below (λ h i. each h (inr i)) rest,
  )

  all_frames : (n : List ℕ) (fs : List CodeFrame) (status : Status) → ((g : CodeFrame) → In g fs → CodeFrameFits p usage n g)
      → StandsAs status (map (frame_in p) fs) → FramesFit p usage n (map (frame_in p) fs)
  all_frames n [] status each s = tt
  all_frames n (f ∷ below) ready each (is_ready w a) = frames_fit n f below each a
  all_frames n (f ∷ below) (waiting ws) each (waits w s a) = frames_fit n f below each a
  all_frames n (f ∷ below) finished each s = elim s [ ]

  function_fits : (k : ℕ) (f : Function) → ((n : List ℕ) → EachFits p usage n (usage.variables k) k f 0) → FunctionFits p usage k f
  function_fits k (FunctionIs name parameters result variables body last) h =
      λ n. body_uses p usage n (usage.variables k) k body (length variables) (λ i x l at. h n i x l at)

  item_in : (capacity i number k : ℕ) (vs : List Value) (v : Value) → slot_from capacity i number vs ≡ Some (k, v) → In v vs
  item_in capacity i number k [] v e = absurd (none-some _ e)
  item_in capacity i number k (w ∷ vs) v e = by_place (number % capacity == i) e (item_in capacity i (number + 1) k vs v)
    where
      by_place : (b : Bool) → (if b then Some (number, w) else slot_from capacity i (number + 1) vs) ≡ Some (k, v)
          → (slot_from capacity i (number + 1) vs ≡ Some (k, v) → In v vs) → In v (w ∷ vs)
      by_place true e g = inl (sym (ap (λ (x : ℕ × Value). x.1) (some_is _ _ e)))
      by_place false e g = inr (g e)

  module _ (s : Contents) (h : CoversContents p usage s)
      (standing : (n : List ℕ) (g : Goroutine) → (state_in p s).goroutines n ≡ Some g → StandsAs g.status g.frames) where
    go_fits : (n : List ℕ) (g : CodeGoroutine) → s.goroutines n ≡ Some g
        → GoFits p usage n (record { status = g.status; frames = map (frame_in p) g.frames; steps = g.steps; children = g.children; channels = g.channels; text = g.text })
    go_fits n g e = record {
      frames = all_frames n g.frames g.status (λ f i. h.frames n g f e i) (standing n _ (ap (option_map (goroutine_of (frame_in p))) e));
      status = h.waits n g e;
    }

    goroutine_fits : (n : List ℕ) (x : Goroutine) (o : Option CodeGoroutine) → s.goroutines n ≡ o → option_map (goroutine_of (frame_in p)) o ≡ Some x
        → GoFits p usage n x
    goroutine_fits n x None e d = absurd (none-some _ d)
    goroutine_fits n x (Some g) e d = subst (GoFits p usage n) (some_is _ _ d) (go_fits n g e)

    gone : (o : Option CodeGoroutine) → option_map (goroutine_of (frame_in p)) o ≡ None → o ≡ None
    gone None e = refl
    gone (Some g) e = absurd (none-some _ (sym e))

    no_gate : (o : Option Content) → option_map gate_of o ≡ None → o ≡ None
    no_gate None e = refl
    no_gate (Some x) e = absurd (none-some _ (sym e))

    queue_fits : (c : ChName) (gate : GateContent) (o : Option Content) → s.channels c ≡ o → option_map gate_of o ≡ Some gate
        → (w : Waiter Value) → In w gate.senders → Shared usage w.value
    queue_fits c gate None e d w i = absurd (none-some _ d)
    queue_fits c gate (Some x) e d w i = h.queued c x w e (subst (λ (g : GateContent). In w g.senders) (sym (some_is _ _ d)) i)

    buffer_fits : (c : ChName) (i k : ℕ) (v : Value) (o : Option Content) → s.channels c ≡ o → option_and_then (λ x. slot_of x i) o ≡ Some (k, v) → Shared usage v
    buffer_fits c i k v None e d = absurd (none-some _ d)
    buffer_fits c i k v (Some x) e d = h.buffered c x v e (item_in x.capacity i x.head k x.items v d)

    pub state_covered : Covers p usage (state_in p s)
    state_covered = record {
      code = λ k f e. function_fits k f (λ n. h.code n k f e);
      goroutines = λ n g e. goroutine_fits n g (s.goroutines n) refl e;
      sharing = h.sharing;
      queued = λ c gate e w i. queue_fits c gate (s.channels c) refl e w i;
      buffered = λ c i k v e. buffer_fits c i k v (s.channels c) refl e;
      unstarted = λ n k e. h.unstarted n k (gone (s.goroutines (n ++ k ∷ [])) e);
      unmade = λ c e. h.unmade c (no_gate (s.channels c) e);
    }
