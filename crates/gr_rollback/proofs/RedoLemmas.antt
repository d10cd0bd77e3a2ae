-- Steps that are done again: they are the steps that their events give, and go on from there.
use Rattle.std.proofs.Common.{◌≡◌, ℕ, suc, ◌+◌, ◌-◌, ◌≤◌, List, [], ◌∷◌, ◌++◌, length, reverse, Option, Some, None, inl, inr, refl, sym, ap, ap₂, subst, ◌∙◌, append_assoc, arith}
use Rattle.std.specs.Prelude.{slice_get, option_copied}
use Rattle.std.specs.Borrow.{Bor}
use Rattle.std.specs.Option.{option_to_list}
use Rattle.std.proofs.lemmas.List.{append-nil, length_push, length-reverse, map-append, reverse-append}
use Rattle.gr_base.specs.declared.events.Event.{Event}
use Rattle.gr_base.specs.declared.names.StepId.{StepId}
use Rattle.gr_causal.specs.Dependence.{dependents, kept}
use Rattle.gr_causal.specs.Machine.{IsLog, replay, undo}
use Rattle.gr_causal.specs.Orders.{IsOrder}
use Rattle.gr_causal.proofs.AsideLemmas.{aside}
use Rattle.gr_causal.proofs.ListLemmas.{some_is, none_not, cons_is}
use Rattle.gr_causal.proofs.MiddleLemmas.{redone}
use Rattle.gr_causal.proofs.OrderLemmas.{swaps_order}
use Rattle.gr_causal.proofs.PathLemmas.{path_of, log_split, log_join, one_end}
use Rattle.gr_causal.proofs.RollbackLemmas.{rolled_back}
use Rattle.gr_program.specs.Programs.{Program}
use Rattle.gr_rules.specs.Attempts.{Refusal, program_is_over, no_such_goroutine, goroutine_is_done, goroutine_waits, no_such_choice}
use Rattle.gr_rules.specs.States.{State, start, put}
use Rattle.gr_rules.specs.Steps.{machine, refusal}
use Rattle.gr_laws.specs.Dependence.{clash}
use Rattle.gr_laws.specs.Reached.{Logged, IsRun}
use Rattle.gr_laws.proofs.CellLemmas.{machine_laws}
use Rattle.gr_laws.proofs.RefusalLemmas.{refused_is_no_step}
use Rattle.gr_laws.proofs.RunLemmas.{distinct_log}
use Rattle.gr_step.specs.declared.refusal.StepRefused.{StepRefused}
use Rattle.gr_step.specs.declared.refusal.StepRefused.TheVariants as refusals
use Rattle.gr_rollback.specs.declared.TheConstants.{LOG_LIMIT}
use Rattle.gr_rollback.specs.declared.machine.Machine.{Machine}
use Rattle.gr_rollback.specs.declared.stepped.Stepped.{Stepped}
use Rattle.gr_rollback.specs.Backs.{LosesAll, Redoes, TakesAgain, TakesSomeAgain}
use Rattle.gr_rollback.specs.Courses.{Holds}
use Rattle.gr_rollback.specs.Machines.{steps_of, again_of, CanGo, Stands, IsMachine}
use Rattle.gr_rollback.specs.Pasts.{Past, Timeline, id_of, ids_of, events_in}
use Rattle.gr_rollback.specs.Redoing.{GoesOn}
use Rattle.gr_rollback.specs.Stepping.{counted, one_more, MayCountOne}
use Rattle.gr_rollback.specs.Steps.{with_step, IsNoStep, Keeps}
use Rattle.gr_rollback.proofs.Basics.{ends_same, last_item}
use Rattle.gr_rollback.proofs.CourseLemmas.{log_length}

-- the steps of the same events from the same state are the same, and so is the end
pub same_steps : (p : Program) (s t u : State) (steps more : List (Logged p)) → IsLog (machine p) s steps t → IsLog (machine p) s more u
    → events_in p steps ≡ events_in p more → (t ≡ u) × (steps ≡ more)
same_steps p s t u steps more leads goes e =
    let both = some_is _ _ (sym leads ∙ ap (replay (machine p) s) e ∙ goes) in
    (ap (λ (x : State × List (Logged p)). x.0) both, ap (λ (x : State × List (Logged p)). x.1) both)

-- what can go goes on from where its first step leads
pub goes_on : (p : Program) (s m : State) (step : Logged p) (event : Event) (rest : List Event) → IsLog (machine p) s (step ∷ []) m → step.event ≡ event
    → CanGo p s (event ∷ rest) → CanGo p m rest
goes_on p s m step event rest leads is can = by_steps can.steps can.leads can.events_are
  where
    by_steps : (steps : List (Logged p)) → IsLog (machine p) s steps can.state → events_in p steps ≡ event ∷ rest → CanGo p m rest
    by_steps [] goes e = absurd (let no : [] ≡ event ∷ rest = e in cc)
    by_steps (k ∷ ks) goes e =
        let both = cons_is k.event event (events_in p ks) rest e in
        let parts = log_split (machine p) s (k ∷ []) ks can.state goes in
        let same = same_steps p s parts.0 m (k ∷ []) (step ∷ []) parts.1 leads (ap (λ x. x ∷ []) (both.0 ∙ sym is)) in
        record {
          steps = ks;
          state = can.state;
          leads = subst (λ x. IsLog (machine p) x ks can.state) same.0 parts.2;
          events_are = both.1;
        }

-- nothing is done again; or the first steps, and after them others
pub redoes_nothing : (p : Program) (w : Timeline p) → Redoes p w [] w
redoes_nothing p w = record { steps = []; leads = refl; log = sym (append-nil w.past.log); events = refl; names = refl }

pub redoes_more : (p : Program) (w u v : Timeline p) (ids others : List StepId) → Redoes p w ids u → Redoes p u others v → Redoes p w (ids ++ others) v
redoes_more p w u v ids others first second = record {
  steps = first.steps ++ second.steps;
  leads = log_join (machine p) w.past.state u.past.state v.past.state first.steps second.steps first.leads second.leads;
  log = second.log ∙ ap (λ x. x ++ second.steps) first.log ∙ append_assoc w.past.log first.steps second.steps;
  events = first.events ∙ ap (λ x. events_in p first.steps ++ x) second.events
      ∙ sym (append_assoc (events_in p first.steps) (events_in p second.steps) v.again)
      ∙ ap (λ x. x ++ v.again) (sym (map-append (λ (r : Logged p). r.event) first.steps second.steps));
  names = ap₂ (λ x y. x ++ y) first.names second.names ∙ sym (map-append (id_of p) first.steps second.steps);
}

-- the consequences of a step are done again after they were taken back
module _ (p : Program) (w u v : Past p) (place : ℕ) (ids : List StepId) (run : IsRun p w.log w.state) (loses : LosesAll p w place u)
    (redoes : Redoes p (record { past = u; again = events_in p (dependents (clash p) w.log place) }) ids (record { past = v; again = [] })) where
  abbrev gone : List (Logged p)
  gone = dependents (clash p) w.log place

  -- what was left is where the consequences begin
  left : u.state ≡ undo put w.state gone
  left = one_end (machine p) (start p) u.state (undo put w.state gone) (kept (clash p) w.log place)
      (subst (λ x. IsRun p x u.state) loses.log loses.run) (rolled_back (machine p) (machine_laws p) (start p) w.log w.state place run)

  old_steps : (v.state ≡ w.state) × (redoes.steps ≡ gone)
  old_steps = same_steps p u.state v.state w.state redoes.steps gone redoes.leads
      (subst (λ x. IsLog (machine p) x gone w.state) (sym left) (redone (machine p) (machine_laws p) (start p) w.state w.log place run))
      (sym (redoes.events ∙ append-nil (events_in p redoes.steps)))

  pub same_state : v.state ≡ w.state
  same_state = old_steps.0

  pub moved_behind : v.log ≡ kept (clash p) w.log place ++ gone
  moved_behind = redoes.log ∙ ap₂ (λ x y. x ++ y) loses.log old_steps.1

  pub same_names : ids ≡ ids_of p gone
  same_names = redoes.names ∙ ap (ids_of p) old_steps.1

  pub is_order : IsOrder (clash p) w.log v.log
  is_order = subst (IsOrder (clash p) w.log) (sym moved_behind)
      (swaps_order (clash p) w.log _ (aside (clash p) w.log place) (distinct_log p w.log w.state run))

-- what a machine does again: the next of its events, or nothing
pub next_event : (items rest : List Event) (o : Option Event) (e z : Event) → items ≡ rest ++ option_to_list o → o ≡ Some z
    → Some e ≡ slice_get items (length items - 1) → reverse items ≡ e ∷ reverse rest
next_event items rest o e z parts taken last =
    let front = last_item items e last in
    let same = ends_same front.rest rest e z (sym front.whole ∙ parts ∙ ap (λ q. rest ++ option_to_list q) taken) in
    ap reverse (front.whole ∙ ap (λ xs. xs ++ e ∷ []) same.0) ∙ reverse-append rest (e ∷ [])

-- it is the one that is taken off
pub taken_off : (items rest : List Event) (o : Option Event) (e z : Event) → items ≡ rest ++ option_to_list o → o ≡ Some z
    → Some e ≡ slice_get items (length items - 1) → z ≡ e
taken_off items rest o e z parts taken last =
    let front = last_item items e last in
    sym (ends_same front.rest rest e z (sym front.whole ∙ parts ∙ ap (λ q. rest ++ option_to_list q) taken)).1

-- an event that can go is not refused by the rules
not_refused : (p : Program) (s : State) (event : Event) (rest : List Event) → CanGo p s (event ∷ rest) → (why : Refusal) → refusal p s event ≡ Some why → ⊥
not_refused p s event rest can why refused = by_steps can.steps can.leads can.events_are
  where
    by_steps : (steps : List (Logged p)) → IsLog (machine p) s steps can.state → events_in p steps ≡ event ∷ rest → ⊥
    by_steps [] goes e = let no : [] ≡ event ∷ rest = e in cc
    by_steps (k ∷ ks) goes e =
        let is : k.event ≡ event = (cons_is k.event event (events_in p ks) rest e).0 in
        let path = path_of (machine p) s (k ∷ ks) can.state goes in
        let none : (machine p).step s k.event ≡ None = (refused_is_no_step p s k.event).1 (why, ap (refusal p s) is ∙ refused) in
        none_not _ (sym none ∙ path.1.does)

pub only_memory : (p : Program) (w : Timeline p) (event : Event) (rest : List Event) (why : StepRefused) → w.again ≡ event ∷ rest
    → CanGo p w.past.state w.again → IsNoStep p w.past event why → why ≡ refusals.NoMemory
only_memory p w event rest why next can none = by_why why none
  where
    here : CanGo p w.past.state (event ∷ rest)
    here = subst (CanGo p w.past.state) next can

    by_why : (why : StepRefused) → IsNoStep p w.past event why → why ≡ refusals.NoMemory
    by_why refusals.Over none = absurd (not_refused p w.past.state event rest here program_is_over none)
    by_why refusals.NotThere none = absurd (not_refused p w.past.state event rest here no_such_goroutine none)
    by_why refusals.Done none = absurd (not_refused p w.past.state event rest here goroutine_is_done none)
    by_why refusals.Waits none = absurd (not_refused p w.past.state event rest here goroutine_waits none)
    by_why refusals.NoChoice none = absurd (not_refused p w.past.state event rest here no_such_choice none)
    by_why refusals.NoMemory none = refl

-- nothing has changed
pub stands_still : (p : Program) (w : Timeline p) (old new : Machine) → Stands p w old → Holds p w.past new.course → again_of new ≡ again_of old → Stands p w new
stands_still p w old new s holds again = record {
  holds = holds;
  again = again ∙ s.again;
  can_go = s.can_go;
  short = subst (λ n. n + length w.again ≤ LOG_LIMIT) (log_length p w.past old.course s.holds ∙ sym (log_length p w.past new.course holds)) s.short;
}

pub goes_nowhere : (p : Program) (w : Timeline p) (ids : List StepId) (m : Machine) → Stands p w m → GoesOn p w ids ids m
goes_nowhere p w ids m s = record { world = w; names = []; joined = sym (append-nil ids); redoes = redoes_nothing p w; stands = s }

pub goes_further : (p : Program) (w : Timeline p) (before ids after : List StepId) (m n : Machine) → GoesOn p w before ids m
    → ((v : Timeline p) → Stands p v m → GoesOn p v ids after n) → GoesOn p w before after n
goes_further p w before ids after m n first more =
    let second = more first.world first.stands in
    record {
      world = second.world;
      names = first.names ++ second.names;
      joined = second.joined ∙ ap (λ xs. xs ++ second.names) first.joined ∙ append_assoc before first.names second.names;
      redoes = redoes_more p w first.world second.world first.names second.names first.redoes second.redoes;
      stands = second.stands;
    }

one_less : (n m k l limit : ℕ) → n ≡ m + 1 → l ≡ suc k → m + l ≤ limit → n + k ≤ limit
one_less n m k l limit a b c = omega arith

-- the next step is taken again
module _ (p : Program) (w : Timeline p) (old new : Machine) (event : Event) (rest : List Event) (s : Stands p w old) (next : w.again ≡ event ∷ rest)
    (again : again_of new ≡ rest) (told : Stepped) (keeps : Keeps p w.past event told new.course) where
  abbrev after : Timeline p
  after = record { past = with_step p w.past keeps.step keeps.state; again = rest }

  stands : Stands p after new
  stands = record {
    holds = keeps.holds;
    again = again;
    can_go = goes_on p w.past.state keeps.state keeps.step event rest keeps.joins.leads keeps.joins.event (subst (CanGo p w.past.state) next s.can_go);
    short = one_less (length (steps_of new)) (length (steps_of old)) (length rest) (length w.again) LOG_LIMIT
        (log_length p after.past new.course keeps.holds ∙ length_push w.past.log keeps.step ∙ ap (λ n. n + 1) (sym (log_length p w.past old.course s.holds)))
        (ap length next) s.short;
  }

  -- its name is what is told of it
  pub goes_next : (ids : List StepId) (go : List ℕ) → go ≡ event.go → GoesOn p w ids (ids ++ record { go = go; n = told.ordinal } ∷ []) new
  goes_next ids go own =
      let name : record { go = go; n = told.ordinal } ≡ id_of p keeps.step = λ i. record {
        go = (own ∙ ap (λ (e : Event). e.go) (sym keeps.joins.event)) i;
        n = ap (λ (x : Stepped). x.ordinal) keeps.tells i;
      } in
      record {
        world = after;
        names = id_of p keeps.step ∷ [];
        joined = ap (λ x. ids ++ x ∷ []) name;
        redoes = record {
          steps = keeps.step ∷ [];
          leads = keeps.joins.leads;
          log = refl;
          events = next ∙ ap (λ x. x ∷ rest) (sym keeps.joins.event);
          names = refl;
        };
        stands = stands;
      }

-- what is read by reference
pub last_there : {A : Type 0} (items slice : List A) (o : Option (Bor A)) (b : Bor A) → option_copied o ≡ slice_get slice (length slice - 1) → o ≡ Some b → slice ≡ items
    → Some b.now ≡ slice_get items (length items - 1)
last_there items slice o b at is same = ap option_copied (sym is) ∙ at ∙ ap (λ xs. slice_get xs (length xs - 1)) same

pub last_first : (items : List Event) (e : Event) → Some e ≡ slice_get items (length items - 1) → (rest : List Event) × (reverse items ≡ e ∷ rest)
last_first items e last =
    let front = last_item items e last in
    (reverse front.rest, ap reverse front.whole ∙ reverse-append front.rest (e ∷ []))

-- a machine of a world is one
pub is_machine : (p : Program) (w : Timeline p) (m : Machine) → Stands p w m → IsMachine m
is_machine p w m s = subst (λ q. (v : Timeline q) → Stands q v m → IsMachine m) s.holds.program (λ v t. record { world = v; stands = t }) w s

-- all of them are taken again, or some
none_reversed : (items : List Event) → reverse items ≡ [] → items ≡ []
none_reversed [] e = refl
none_reversed (x ∷ items) e = absurd (let no : suc (length items) ≡ 0 = sym (length-reverse (x ∷ items)) ∙ ap length e in cc)

module _ (p : Program) (w : Timeline p) (before ids : List StepId) (m : Machine) (some : w.again ≡ [] → ⊥) (first : before ≡ []) (goes : GoesOn p w before ids m) where
  names_are : goes.names ≡ ids
  names_are = sym (goes.joined ∙ ap (λ xs. xs ++ goes.names) first)

  redoes : Redoes p w ids goes.world
  redoes = subst (λ xs. Redoes p w xs goes.world) names_are goes.redoes

  pub takes_again : m.again.items ≡ [] → TakesAgain p w ids m
  takes_again none =
      let done : goes.world ≡ record { past = goes.world.past; again = [] } = ap (λ x. record { past = goes.world.past; again = x }) (sym goes.stands.again ∙ ap reverse none) in
      record {
        past = goes.world.past;
        some = some;
        redoes = subst (Redoes p w ids) done redoes;
        stands = subst (λ v. Stands p v m) done goes.stands;
      }

  pub takes_some_again : (m.again.items ≡ [] → ⊥) → TakesSomeAgain p w ids m
  takes_some_again more = record {
    world = goes.world;
    left = λ e. more (none_reversed m.again.items (goes.stands.again ∙ e));
    redoes = redoes;
    stands = goes.stands;
  }

-- where nothing was there, or something
pub nothing_again : (p : Program) (w : Timeline p) (m : Machine) → Stands p w m → m.again.items ≡ [] → w.again ≡ []
nothing_again p w m s none = sym s.again ∙ ap reverse none

pub something_again : (p : Program) (w : Timeline p) (m : Machine) → Stands p w m → (m.again.items ≡ [] → ⊥) → w.again ≡ [] → ⊥
something_again p w m s some none = some (none_reversed m.again.items (s.again ∙ none))

pub no_items : {A : Type 0} (xs : List A) → length xs ≡ 0 → xs ≡ []
no_items [] e = refl
no_items (x ∷ xs) e = absurd (let no : suc (length xs) ≡ 0 = e in cc)

-- how many steps were taken, by the names of those that were taken again
pub none_after : (m n : ℕ) → m ≡ 0 → n ≡ counted m n
none_after m n none = ap (λ k. counted k n) (sym none)

pub one_after : (old mid new m n : ℕ) → new ≡ one_more mid → mid ≡ counted m old → n ≡ m + 1 → new ≡ counted n old
one_after old mid new m n more was longer =
    let e : n ≡ suc m = omega (arith, longer) in
    more ∙ ap one_more was ∙ ap (λ k. counted k old) (sym e)

pub may_be_after : (old mid new m n : ℕ) → mid ≡ counted m old → n ≡ m → MayCountOne 0 mid new → MayCountOne n old new
may_be_after old mid new m n was same (inl e) = inl (e ∙ was ∙ ap (λ k. counted k old) (sym same))
may_be_after old mid new m n was same (inr e) = inr (e ∙ ap one_more (was ∙ ap (λ k. counted k old) (sym same)))
