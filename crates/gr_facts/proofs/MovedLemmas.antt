-- What the rules say of the step at a place of a log, where a second machine stands before it and after it.
use Rattle.std.proofs.Common.{◌≡◌, ◌+◌, ◌-◌, ◌≤◌, ◌<◌, ◌⊎◌, inl, inr, min, ℕ, suc, zero, Bool, if◌then◌else◌, List, [], ◌∷◌, ◌++◌, length, take, map, slice_get, get_or, Option, Some, None, Vec, is_some, refl, sym, ap, ap₂, subst, ◌∙◌, arith}
use Rattle.std.specs.Prelude.{option_map}
use Rattle.std.proofs.lemmas.List.{length-append}
use Rattle.std.proofs.lemmas.Option.{slice_get-get_or, slice_get_within}
use Rattle.gr_base.specs.declared.names.StepId.{StepId}
use Rattle.gr_base.specs.declared.values.Value.{Value}
use Rattle.gr_causal.specs.Machine.{IsLog, replay}
use Rattle.gr_causal.proofs.PathLemmas.{log_join}
use Rattle.gr_code.specs.CodeFrames.{CodeFrame}
use Rattle.gr_code.specs.Goroutines.{CodeGoroutine}
use Rattle.gr_depend.proofs.HistoryLemmas.{name_is}
use Rattle.gr_depend.proofs.KindLemmas.{is_up}
use Rattle.gr_depend.specs.Named as records
use Rattle.gr_follow.specs.Following.{StandsAfter}
use Rattle.gr_laws.specs.Consoles.{text_of}
use Rattle.gr_laws.specs.Reached.{Logged, IsRun}
use Rattle.gr_laws.proofs.CountLemmas.{with_line}
use Rattle.gr_laws.proofs.RuleCounts.{stepped}
use Rattle.gr_program.specs.Programs.{Program}
use Rattle.gr_record.specs.declared.record.Record.{Record}
use Rattle.gr_record.specs.Listings.{frame_in, state_in}
use Rattle.gr_record.specs.Records.{event_of}
use Rattle.gr_record.proofs.ChainLemmas.{Chain, chain_of}
use Rattle.gr_record.proofs.RecordLemmas.{does}
use Rattle.gr_refine.specs.Attempting.{IsUp}
use Rattle.gr_refine.specs.Contents.{Contents, goroutine_of}
use Rattle.gr_refine.specs.Leaves.{leaf}
use Rattle.gr_rollback.proofs.KeptLemmas.{kept_length}
use Rattle.gr_rollback.specs.declared.machine.Machine.{Machine}
use Rattle.gr_rollback.specs.Machines.{Stands, steps_of, store_of}
use Rattle.gr_rollback.specs.Pasts.{Timeline}
use Rattle.gr_rules.specs.States.{State, start}
use Rattle.gr_rules.specs.Steps.{attempt, machine}
use Rattle.gr_step.specs.Views.{lines_of}
use Rattle.gr_step.specs.Stores.{contents_at, program_at, state_at}
use Rattle.gr_facts.specs.Moved.{Moved, value_moved}
use Rattle.gr_facts.specs.MovedAsked.{MoveAll, MovesFrom, MovesNamed, MovesOf}
use Rattle.gr_facts.specs.Views.{moved_in}
use Rattle.gr_facts.specs.declared.moving.Moved as answers
use Rattle.gr_facts.specs.Wanted.{last_of, last_line_of, line_after}
use Rattle.gr_facts.proofs.AskLemmas.{named_here, not_named}
use Rattle.gr_facts.proofs.PlaceLemmas.{KeptAt, kept_at}

some_is : {A : Type 0} (a b : A) → Some a ≡ Some b → a ≡ b
some_is a b e = cc

-- where it stands after the same steps, it is in the same state
same_state : (p : Program) (one other : List (Logged p)) (s t : State) → IsRun p one s → IsRun p other t → one ≡ other → s ≡ t
same_state p one other s t led also same =
    let both : (s, one) ≡ (t, other) = some_is _ _ (sym led ∙ ap (λ (ls : List (Logged p)). replay (machine p) (start p) (map (λ l. l.event) ls)) same ∙ also) in
    ap (λ x. x.0) both

le_or_more : (a b : ℕ) → (a ≤ b) ⊎ (b + 1 ≤ a)
le_or_more a b = grind arith

-- the first of a list, up to a place
front_is : {A : Type 0} (front behind : List A) (x : A) → take (length front) (front ++ x ∷ behind) ≡ front
front_is [] behind x = refl
front_is (y ∷ front) behind x = ap (λ l. y ∷ l) (front_is front behind x)

one_more : {A : Type 0} (front behind : List A) (x : A) → take (length front + 1) (front ++ x ∷ behind) ≡ front ++ x ∷ []
one_more [] behind x = refl
one_more (y ∷ front) behind x =
    let n : suc (length front) + 1 ≡ suc (length front + 1) = omega arith in
    ap (λ k. take k (y ∷ front ++ x ∷ behind)) n ∙ ap (λ l. y ∷ l) (one_more front behind x)

-- the last line is the one that was put there last
last_pushed : (lines : List (List ℕ)) (line : List ℕ) → last_of (lines ++ line ∷ []) ≡ Some line
last_pushed lines line =
    let n : length (lines ++ line ∷ []) - 1 ≡ length lines = let l = length-append lines (line ∷ []) in omega (arith, l) in
    ap (slice_get (lines ++ line ∷ [])) n ∙ at_end lines
  where
    at_end : (ls : List (List ℕ)) → slice_get (ls ++ line ∷ []) (length ls) ≡ Some line
    at_end [] = refl
    at_end (l ∷ ls) = at_end ls

-- lines as bytes
bytes_at : {A : Type 0} (ls : List (Vec ℕ A)) (k : ℕ) → slice_get (lines_of ls) k ≡ option_map (λ l. l.items) (slice_get ls k)
bytes_at [] k = refl
bytes_at (l ∷ ls) zero = refl
bytes_at (l ∷ ls) (suc k) = bytes_at ls k

as_many : {A : Type 0} (ls : List (Vec ℕ A)) → length (lines_of ls) ≡ length ls
as_many [] = refl
as_many (l ∷ ls) = ap suc (as_many ls)

-- the last line of a goroutine that is there, and of one that is not
module _ (p : Program) (s : Contents) (n : List ℕ) where
  pub last_told : {A : Type 0} (g : CodeGoroutine) (ls : List (Vec ℕ A)) (told : Option (List ℕ)) → Some g ≡ s.goroutines n → lines_of ls ≡ g.text
      → told ≡ option_map (λ l. l.items) (slice_get ls (length ls - 1)) → told ≡ last_line_of (state_in p s) n
  last_told g ls told there is last =
      last ∙ sym (bytes_at ls (length ls - 1)) ∙ ap (λ k. slice_get (lines_of ls) (k - 1)) (sym (as_many ls))
      ∙ ap last_of is ∙ ap (λ x. last_of (text_of (option_map (goroutine_of (frame_in p)) x))) there

  pub none_told : None ≡ s.goroutines n → None ≡ last_line_of (state_in p s) n
  none_told none = ap (λ x. last_of (text_of (option_map (goroutine_of (frame_in p)) x))) none

module _ (p : Program) (w : Timeline p) (m : Machine) (stands : Stands p w m) (place : ℕ) (r : Record)
    (is_kept : slice_get (steps_of m) place ≡ Some r) where
  abbrev first : Contents
  first = stands.holds.begins

  chain : Chain p first (steps_of m) w.past.log (contents_at (store_of m))
  chain = chain_of p first (steps_of m) w.past.log (contents_at (store_of m)) stands.holds.kept

  pub at : KeptAt p first (steps_of m) w.past.log place r
  at = kept_at p first (contents_at (store_of m)) (steps_of m) w.past.log stands.holds.begun.stand chain place r is_kept

  leads : IsRun p at.front (state_in p at.before)
  leads = subst {_, _} (λ b. IsLog (machine p) b at.front (state_in p at.before)) stands.holds.begun.state at.leads

  leads_on : IsRun p (at.front ++ at.step ∷ []) (state_in p at.after)
  leads_on = log_join (machine p) (start p) (state_in p at.before) (state_in p at.after) at.front (at.step ∷ []) leads at.tells.step

  -- the second machine before the step
  module _ (n : Machine) (there : StandsAfter p w.past.log place n) where
    front : take place w.past.log ≡ at.front
    front = ap₂ take (sym at.count) at.split ∙ front_is at.front at.behind at.step

    pub before_is : state_at (store_of n) ≡ state_in p at.before
    before_is =
        ap (λ q. state_in q (contents_at (store_of n))) there.stands.holds.program ∙ sym there.stands.holds.state
        ∙ same_state p (take place w.past.log) at.front there.state (state_in p at.before) there.run leads front

    -- its goroutine is up there
    up_there : (g : CodeGoroutine) × (f : CodeFrame) × (below : List CodeFrame) × IsUp (contents_at (store_of n)) (event_of r) g f below
    up_there =
        let takes = at.tells.is.takes.steps in
        let q = program_at (store_of n) in
        is_up (frame_in q) (contents_at (store_of n)) p (event_of r) at.tells.is.takes.report takes.cells
        (ap (λ (s : State). leaf s (attempt p (event_of r))) before_is ∙ takes.ends)

    -- the value that it moves
    pub value_there : (v : Option Value)
        → ((g : CodeGoroutine) (f : CodeFrame) (below : List CodeFrame) → IsUp (contents_at (store_of n)) (event_of r) g f below
        → v ≡ value_moved (state_at (store_of n)) (event_of r) r.change.kind)
        → v ≡ value_moved (state_in p at.before) at.step.event r.change.kind
    value_there v known =
        let up = up_there in
        known up.0 up.1 up.2 up.3
        ∙ ap₂ (λ s e. value_moved s e r.change.kind) before_is (sym at.tells.event)

  -- the second machine after the step
  module _ (n : Machine) (there : StandsAfter p w.past.log (place + 1) n) where
    front_on : take (place + 1) w.past.log ≡ at.front ++ at.step ∷ []
    front_on = ap₂ (λ k ls. take (k + 1) ls) (sym at.count) at.split ∙ one_more at.front at.behind at.step

    after_is : state_at (store_of n) ≡ state_in p at.after
    after_is =
        ap (λ q. state_in q (contents_at (store_of n))) there.stands.holds.program ∙ sym there.stands.holds.state
        ∙ same_state p (take (place + 1) w.past.log) (at.front ++ at.step ∷ []) there.state (state_in p at.after) there.run leads_on front_on

    -- what its goroutine had printed before the step, and the line of the step
    printed_on : (o : Option (List ℕ)) → at.step.note.kind.printed ≡ o
        → (if is_some o then last_line_of (state_in p at.after) r.id.go else None) ≡ o
    printed_on None is = refl
    printed_on (Some line) is =
        let raised = (stepped p (state_in p at.before) (event_of r) (state_in p at.after) at.step.note
        (does p at.before r at.step at.after at.tells)).raised.mine in
        let old = text_of ((state_in p at.before).goroutines r.id.go) in
        let text : text_of ((state_in p at.after).goroutines r.id.go) ≡ old ++ line ∷ [] =
        ap (λ x. x.1) raised ∙ ap (λ o. with_line o old) is in
        ap last_of text ∙ last_pushed old line

    pub line_there : (o : Option (List ℕ)) → o ≡ line_after (state_at (store_of n)) r → o ≡ at.step.note.kind.printed
    line_there o is =
        is ∙ ap (λ s. line_after s r) after_is
        ∙ ap (λ (b : Bool). if b then last_line_of (state_in p at.after) r.id.go else None) (sym at.tells.printed)
        ∙ printed_on at.step.note.kind.printed refl

  -- what is told of the step
  pub moves_of : (row : Moved) → row.id ≡ r.id → row.value ≡ value_moved (state_in p at.before) at.step.event r.change.kind
      → row.printed ≡ at.step.note.kind.printed → MovesOf p w.past.log place row
  moves_of row named value printed = record {
    before = state_in p at.before;
    step = at.step;
    there = record {
      front = at.front;
      behind = at.behind;
      split = at.split;
      count = at.count;
      leads = leads;
      after = state_in p at.after;
      step = at.tells.step;
    };
    is =
        let id = named ∙ name_is p at.before r at.step at.after at.tells in
        let moves = value ∙ ap (value_moved (state_in p at.before) at.step.event) (sym at.tells.kind) in
        λ j. record { id = id j; value = moves j; printed = printed j };
  }

-- the record at an index of the steps
pub is_kept : (rs : List Record) (place : ℕ) (r : Record) → place < length rs → r ≡ get_or rs place r → slice_get rs place ≡ Some r
is_kept rs place r within at = slice_get-get_or rs place r within ∙ ap Some (sym at)

-- one more row behind the others
pub move_more : (p : Program) (log : List (Logged p)) (place : ℕ) (rows : List answers.Moved) (row : answers.Moved)
    → MoveAll p log place rows → MovesOf p log (place + length rows) (moved_in row) → MoveAll p log place (rows ++ row ∷ [])
move_more p log place [] row all one = (subst {_, _} (λ n. MovesOf p log n (moved_in row)) (omega arith) one, tt)
move_more p log place (first ∷ rows) row all one =
    (all.0, move_more p log (suc place) rows row all.1 (subst {_, _} (λ n. MovesOf p log n (moved_in row)) (omega arith) one))

-- as many as were asked for, or all that are left
pub enough : (n most kept place : ℕ) → n ≡ min most (kept - place) → place < kept → (n ≡ most) ⊎ (kept ≤ place + n)
enough n most kept place is less = elim (le_or_more most (kept - place)) [
  | inl few ↦ inl (omega (arith, is, few))
  | inr more ↦ inr (omega (arith, is, more, less))
]

-- no row, where the log has no such place
pub none_moved : (p : Program) (log : List (Logged p)) (place most : ℕ) (rows : List answers.Moved) → rows ≡ [] → length log ≤ place
    → MovesFrom p log place most rows
none_moved p log place most rows none beyond =
    subst {_, _} (MovesFrom p log place most) (sym none) (record { all = tt; few = omega arith; end = inr (omega (arith, beyond)) })

-- as many steps are kept as there are records
pub kept_many : (p : Program) (w : Timeline p) (m : Machine) → Stands p w m → length (steps_of m) ≡ length w.past.log
kept_many p w m s = kept_length p s.holds.begins (steps_of m) w.past.log (contents_at (store_of m)) s.holds.kept

-- the one row of the step of a name
pub named_row : (p : Program) (w : Timeline p) (m : Machine) → Stands p w m → (id : StepId) (place : ℕ) → records.IsNamed (steps_of m) place id
    → (rows : List answers.Moved) → MovesFrom p w.past.log place 1 rows → MovesNamed p w.past.log id rows
named_row p w m s id place named [] moves =
    let here = named_here p w m s id place named in
    let less : place < length w.past.log = slice_get_within w.past.log place here.step here.there in
    elim moves.end [ inl e ↦ absurd (omega (arith, e)) | inr e ↦ absurd (omega (arith, e, less)) ]
named_row p w m s id place named (row ∷ []) moves = record { place = place; named = named_here p w m s id place named; moves = moves.all.0 }
named_row p w m s id place named (row ∷ next ∷ rows) moves = absurd (let few = moves.few in omega (arith, few))

pub no_row : (p : Program) (w : Timeline p) (m : Machine) → Stands p w m → (id : StepId) → ((place : ℕ) → records.IsNamed (steps_of m) place id → ⊥)
    → (rows : List answers.Moved) → rows ≡ [] → MovesNamed p w.past.log id rows
no_row p w m s id none rows is = subst {_, _} (MovesNamed p w.past.log id) (sym is) (λ place. not_named p w m s id place (none place))
