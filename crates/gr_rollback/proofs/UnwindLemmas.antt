-- A rollback on its way: the next step is taken back or laid aside.
use Rattle.std.proofs.Common.{◌≡◌, ℕ, zero, suc, ◌+◌, ◌≤◌, ◌<◌, Bool, true, false, List, [], ◌∷◌, ◌++◌, length, reverse, refl, sym, ap, subst, ◌∙◌, arith, append_assoc, append-nil}
use Rattle.std.proofs.Common.{Global, inl, get_or}
use Rattle.std.specs.Prelude.{Vec, ◌-◌, Result, Ok, Err, OnOk, OnErr, vec_len, vec_capacity}
use Rattle.gr_base.specs.declared.memory.NoMemory.{NoMemory}
use Rattle.gr_base.specs.declared.events.Event.{Event}
use Rattle.gr_base.specs.declared.names.StepId.{StepId}
use Rattle.std.proofs.lemmas.List.{reverse-append, length_push}
use Rattle.gr_causal.specs.Sequences.{In, Distinct}
use Rattle.gr_causal.proofs.ListLemmas.{In-append_right}
use Rattle.gr_step.specs.Record.{Record}
use Rattle.gr_step.specs.Conflicts.{touched_by}
use Rattle.gr_step.specs.Records.{event_of, taken_back, CanGoBack}
use Rattle.gr_step.specs.Stores.{contents_at}
use Rattle.gr_step.specs.Back.{unmarked}
use Rattle.gr_depend.specs.Logs.{records_of}
use Rattle.gr_depend.specs.Room.{CanTake}
use Rattle.gr_rollback.specs.declared.back.Rollback.{Rollback}
use Rattle.gr_rollback.specs.declared.course.Course.{Course}
use Rattle.gr_rollback.specs.Readiness.{HasReady}
use Rattle.gr_rollback.specs.Retracting.{LastGoesBack, SameCourse, KeepsLogRoom}
use Rattle.gr_rollback.specs.Walks.{count_set, count_unset, IsNew, RollsBack, IsOnTheWay, Removes, GoesOn}
use Rattle.gr_rollback.proofs.MarkLemmas.{LastMark, last_mark, mark_there, set_at_end, unset_at_end}
use Rattle.gr_rollback.proofs.RoomLemmas.{less_room}

-- before the first step
pub way_begins : (c : Course) (at : ℕ) (marks : List Bool) (r : Rollback) → RollsBack at marks c → IsNew marks r → CanTake c.log [] → IsOnTheWay c at marks c r
way_begins c at marks r rolls new room = record {
  before = marks;
  after = [];
  tail = [];
  marks_are = sym (append-nil marks);
  records_are = sym (append-nil (records_of c.log));
  place = rolls.count;
  contents = refl;
  aside = ap reverse new.stay;
  events = ap reverse new.gone;
  names = ap reverse new.ids;
  room = new.room;
  log_room = room;
  pool = rolls.pool;
  first = refl;
}

-- a reversed list with one item more at the end
pub turned : {A : Type 0} (xs : List A) (x : A) → reverse (xs ++ x ∷ []) ≡ x ∷ reverse xs
turned xs x = reverse-append xs (x ∷ [])

moved : (a b n x y : ℕ) → a ≡ b → x ≡ y → b + n ≤ y → a + n ≤ x
moved a b n x y e f h = omega (arith, e, f, h)

one_place : (n m k at : ℕ) → n + at ≡ m → m ≡ k + 1 → at < m → (j : ℕ) × (n ≡ suc j) × (j + at ≡ k)
one_place zero m k at e f within = absurd (omega (arith, e, within))
one_place (suc j) m k at e f within = (j, refl, omega (arith, e, f))

module _ (start : Course) (at : ℕ) (marks : List Bool) (rolls : RollsBack at marks start) (c : Course) (r : Rollback) (way : IsOnTheWay start at marks c r)
    (front : List Record) (step : Record) (items : records_of c.log ≡ front ++ step ∷ []) (within : at < length (records_of c.log)) where
  -- the mark of the next step
  pub places : (j : ℕ) × (length way.before ≡ suc j) × (j + at ≡ length front)
  places = one_place (length way.before) (length (records_of c.log)) (length front) at way.place (ap length items ∙ length_push front step) within

  pub mark : LastMark way.before places.0
  mark = last_mark way.before places.0 places.1

  pub mark_place : length mark.front + at ≡ length front
  mark_place = ap (λ n. n + at) mark.count ∙ places.2

  pub marks_are : marks ≡ mark.front ++ mark.last ∷ way.after
  marks_are = way.marks_are ∙ ap (λ ms. ms ++ way.after) mark.whole ∙ append_assoc mark.front (mark.last ∷ []) way.after

  pub records_are : records_of start.log ≡ front ++ step ∷ way.tail
  records_are = way.records_are ∙ ap (λ rs. rs ++ way.tail) items ∙ append_assoc front (step ∷ []) way.tail

  pub step_once : Distinct (touched_by step)
  step_once = rolls.once step (subst (In step) (sym records_are) (In-append_right step front (step ∷ way.tail) (inl refl)))

  -- it goes back, where it is marked
  next_can : mark.last ≡ true → CanGoBack step.id.go step.change (contents_at c.store)
  next_can is = subst (CanGoBack step.id.go step.change) (sym way.contents)
      (rolls.each front way.tail step mark.front way.after records_are (marks_are ∙ ap (λ m. mark.front ++ m ∷ way.after) is) mark_place)

  pub next_goes : mark.last ≡ true → LastGoesBack c
  next_goes is = record { front = front; last = step; records = items; goes = record { can = next_can is; once = step_once }; pool = way.pool }

  -- there is room for its event and its name, or for its record
  set_room : (len capacity : ℕ) → mark.last ≡ true → len + count_set way.before ≤ capacity → (len + 1) + count_set mark.front ≤ capacity
  set_room len capacity is room =
      let e : count_set way.before ≡ count_set mark.front + 1 = ap count_set mark.whole ∙ set_at_end mark.front mark.last ∙ ap (λ m. count_set mark.front + count_set (m ∷ [])) is in
      omega (arith, e, room)

  unset_keeps : (len capacity : ℕ) → mark.last ≡ true → len + count_unset way.before ≤ capacity → len + count_unset mark.front ≤ capacity
  unset_keeps len capacity is room =
      let e : count_unset way.before ≡ count_unset mark.front + 0 = ap count_unset mark.whole ∙ unset_at_end mark.front mark.last ∙ ap (λ m. count_unset mark.front + count_unset (m ∷ [])) is in
      omega (arith, e, room)

  set_keeps : (len capacity : ℕ) → mark.last ≡ false → len + count_set way.before ≤ capacity → len + count_set mark.front ≤ capacity
  set_keeps len capacity is room =
      let e : count_set way.before ≡ count_set mark.front + 0 = ap count_set mark.whole ∙ set_at_end mark.front mark.last ∙ ap (λ m. count_set mark.front + count_set (m ∷ [])) is in
      omega (arith, e, room)

  unset_room : (len capacity : ℕ) → mark.last ≡ false → len + count_unset way.before ≤ capacity → (len + 1) + count_unset mark.front ≤ capacity
  unset_room len capacity is room =
      let e : count_unset way.before ≡ count_unset mark.front + 1 = ap count_unset mark.whole ∙ unset_at_end mark.front mark.last ∙ ap (λ m. count_unset mark.front + count_unset (m ∷ [])) is in
      omega (arith, e, room)

  less : (len n capacity : ℕ) → (len + 1) + n ≤ capacity → len < capacity
  less len n capacity room = omega (arith, room)

  pub gone_fits : mark.last ≡ true → vec_len r.gone < vec_capacity r.gone
  gone_fits is = less (vec_len r.gone) (count_set mark.front) (vec_capacity r.gone) (set_room (vec_len r.gone) (vec_capacity r.gone) is way.room.gone)

  pub ids_fit : mark.last ≡ true → vec_len r.ids < vec_capacity r.ids
  ids_fit is = less (vec_len r.ids) (count_set mark.front) (vec_capacity r.ids) (set_room (vec_len r.ids) (vec_capacity r.ids) is way.room.ids)

  pub stay_fits : mark.last ≡ false → vec_len r.stay < vec_capacity r.stay
  stay_fits is = less (vec_len r.stay) (count_unset mark.front) (vec_capacity r.stay) (unset_room (vec_len r.stay) (vec_capacity r.stay) is way.room.stay)

  -- the mark at its place
  pub mark_is : (d : Bool) (i : ℕ) → i ≡ length mark.front → get_or marks i d ≡ mark.last
  mark_is d i e = ap (λ n. get_or marks n d) e ∙ ap (λ ms. get_or ms (length mark.front) d) marks_are ∙ mark_there mark.front way.after mark.last d

  -- the step is laid aside
  pub after_aside : (d : Course) (q : Rollback) → mark.last ≡ false → d.store ≡ c.store → d.pool ≡ c.pool → d.first ≡ c.first → records_of d.log ≡ front
      → CanTake d.log (step ∷ unmarked way.after way.tail) → q.stay.items ≡ r.stay.items ++ step ∷ [] → vec_len q.stay ≡ vec_len r.stay + 1
      → vec_capacity q.stay ≡ vec_capacity r.stay → q.gone ≡ r.gone → q.ids ≡ r.ids → IsOnTheWay start at marks d q
  after_aside d q is store pool first records can stay len capacity gone ids = record {
    before = mark.front;
    after = false ∷ way.after;
    tail = step ∷ way.tail;
    marks_are = marks_are ∙ ap (λ m. mark.front ++ m ∷ way.after) is;
    records_are = records_are ∙ ap (λ rs. rs ++ step ∷ way.tail) (sym records);
    place = mark_place ∙ ap length (sym records);
    contents = ap contents_at store ∙ way.contents;
    aside = ap reverse stay ∙ turned r.stay.items step ∙ ap (λ rs. step ∷ rs) way.aside;
    events = ap (λ (v : Vec Event Global). reverse v.items) gone ∙ way.events;
    names = ap (λ (v : Vec StepId Global). reverse v.items) ids ∙ way.names;
    room = record {
      stay = moved (vec_len q.stay) (vec_len r.stay + 1) (count_unset mark.front) (vec_capacity q.stay) (vec_capacity r.stay) len capacity
          (unset_room (vec_len r.stay) (vec_capacity r.stay) is way.room.stay);
      gone = rw gone (set_keeps (vec_len r.gone) (vec_capacity r.gone) is way.room.gone);
      ids = rw ids (set_keeps (vec_len r.ids) (vec_capacity r.ids) is way.room.ids);
    };
    log_room = can;
    pool = subst (λ s. HasReady d.pool (contents_at s)) (sym store) (subst (λ x. HasReady x (contents_at c.store)) (sym pool) way.pool);
    first = first ∙ way.first;
  }

-- the step is taken back
pub after_removal : (start : Course) (at : ℕ) (marks : List Bool) (rolls : RollsBack at marks start) (c : Course) (r : Rollback) (way : IsOnTheWay start at marks c r)
    (d : Course) (q : Rollback) (gone : Removes c r d q) (within : at < length (records_of c.log))
    → (mark start at marks rolls c r way (records_of d.log) gone.step gone.records within).last ≡ true → IsOnTheWay start at marks d q
after_removal start at marks rolls c r way d q gone within is =
    let step = gone.step in
    let front = records_of d.log in
    let last = mark start at marks rolls c r way front step gone.records within in
    record {
      before = last.front;
      after = true ∷ way.after;
      tail = step ∷ way.tail;
      marks_are = marks_are start at marks rolls c r way front step gone.records within ∙ ap (λ m. last.front ++ m ∷ way.after) is;
      records_are = records_are start at marks rolls c r way front step gone.records within;
      place = mark_place start at marks rolls c r way front step gone.records within;
      contents = gone.contents ∙ ap (taken_back step.id.go step.change) way.contents;
      aside = ap (λ (v : Vec Record Global). reverse v.items) gone.stay ∙ way.aside;
      events = ap reverse gone.gone ∙ turned r.gone.items (event_of step) ∙ ap (λ es. event_of step ∷ es) way.events;
      names = ap reverse gone.ids ∙ turned r.ids.items step.id ∙ ap (λ xs. step.id ∷ xs) way.names;
      room = record {
        stay = rw gone.stay (unset_keeps start at marks rolls c r way front step gone.records within (vec_len r.stay) (vec_capacity r.stay) is way.room.stay);
        gone = moved (vec_len q.gone) (vec_len r.gone + 1) (count_set last.front) (vec_capacity q.gone) (vec_capacity r.gone) gone.gone_len gone.gone_room
            (set_room start at marks rolls c r way front step gone.records within (vec_len r.gone) (vec_capacity r.gone) is way.room.gone);
        ids = moved (vec_len q.ids) (vec_len r.ids + 1) (count_set last.front) (vec_capacity q.ids) (vec_capacity r.ids) gone.ids_len gone.ids_room
            (set_room start at marks rolls c r way front step gone.records within (vec_len r.ids) (vec_capacity r.ids) is way.room.ids);
      };
      log_room = less_room d.log step (unmarked way.after way.tail) (gone.log_room (unmarked way.after way.tail) way.log_room);
      pool = gone.pool;
      first = gone.first ∙ way.first;
    }

-- nothing has changed
pub way_stays : (start : Course) (at : ℕ) (marks : List Bool) (c : Course) (r : Rollback) (d : Course) → IsOnTheWay start at marks c r → SameCourse c d → KeepsLogRoom c d
    → IsOnTheWay start at marks d r
way_stays start at marks c r d way same room = record {
  before = way.before;
  after = way.after;
  tail = way.tail;
  marks_are = way.marks_are;
  records_are = way.records_are ∙ ap (λ rs. rs ++ way.tail) (sym same.records);
  place = way.place ∙ ap length (sym same.records);
  contents = same.contents ∙ way.contents;
  aside = way.aside;
  events = way.events;
  names = way.names;
  room = way.room;
  log_room = room (unmarked way.after way.tail) way.log_room;
  pool = same.pool way.pool;
  first = same.first ∙ way.first;
}

-- the last item of a list that has some
pub record Parted {A : Type 0} (xs : List A) : Type 0 where
  pub front : List A
  pub last : A
  pub whole : xs ≡ front ++ last ∷ []

pub parted : {A : Type 0} (xs : List A) → 1 ≤ length xs → Parted xs
parted [] some = absurd (omega (arith, some))
parted (x ∷ []) some = record { front = []; last = x; whole = refl }
parted (x ∷ y ∷ ys) some =
    let rest = parted (y ∷ ys) (omega arith) in
    record { front = x ∷ rest.front; last = rest.last; whole = ap (λ zs. x ∷ zs) rest.whole }

some_there : (at n : ℕ) → at < n → 1 ≤ n
some_there at n h = omega (arith, h)

index_of : (n m at k : ℕ) → n ≡ m + 1 → k + at ≡ m → (n - 1) - at ≡ k
index_of n m at k a b = omega (arith, a, b)

module _ (start : Course) (at : ℕ) (marks : List Bool) (rolls : RollsBack at marks start) (c : Course) (r : Rollback) (way : IsOnTheWay start at marks c r)
    (within : at < length (records_of c.log)) where
  -- the mark of the last step stands at its place
  pub mark_of_last : (front : List Record) (step : Record) (items : records_of c.log ≡ front ++ step ∷ []) (d : Bool)
      → get_or marks ((length (records_of c.log) - 1) - at) d ≡ (mark start at marks rolls c r way front step items within).last
  mark_of_last front step items d =
      mark_is start at marks rolls c r way front step items within d ((length (records_of c.log) - 1) - at)
      (index_of (length (records_of c.log)) (length front) at (length (mark start at marks rolls c r way front step items within).front)
      (ap length items ∙ length_push front step) (mark_place start at marks rolls c r way front step items within))

  -- it goes back where that is set, and there is room for what it leaves
  pub last_goes : (d : Bool) → get_or marks ((length (records_of c.log) - 1) - at) d ≡ true → LastGoesBack c
  last_goes d is =
      let end = parted (records_of c.log) (some_there at (length (records_of c.log)) within) in
      next_goes start at marks rolls c r way end.front end.last end.whole within (sym (mark_of_last end.front end.last end.whole d) ∙ is)

  pub last_gone_fits : (d : Bool) → get_or marks ((length (records_of c.log) - 1) - at) d ≡ true → vec_len r.gone < vec_capacity r.gone
  last_gone_fits d is =
      let end = parted (records_of c.log) (some_there at (length (records_of c.log)) within) in
      gone_fits start at marks rolls c r way end.front end.last end.whole within (sym (mark_of_last end.front end.last end.whole d) ∙ is)

  pub last_ids_fit : (d : Bool) → get_or marks ((length (records_of c.log) - 1) - at) d ≡ true → vec_len r.ids < vec_capacity r.ids
  last_ids_fit d is =
      let end = parted (records_of c.log) (some_there at (length (records_of c.log)) within) in
      ids_fit start at marks rolls c r way end.front end.last end.whole within (sym (mark_of_last end.front end.last end.whole d) ∙ is)

  pub last_stay_fits : (d : Bool) → get_or marks ((length (records_of c.log) - 1) - at) d ≡ false → vec_len r.stay < vec_capacity r.stay
  last_stay_fits d is =
      let end = parted (records_of c.log) (some_there at (length (records_of c.log)) within) in
      stay_fits start at marks rolls c r way end.front end.last end.whole within (sym (mark_of_last end.front end.last end.whole d) ∙ is)

-- whatever comes of taking the last step back
pub removal_goes_on : (at : ℕ) (marks : List Bool) (c : Course) (r : Rollback) (d : Course) (q : Rollback) (result : Result (Unit {0}) NoMemory)
    → at < length (records_of c.log) → (m : Bool) → get_or marks ((length (records_of c.log) - 1) - at) m ≡ true
    → OnOk result (Removes c r d q) → OnErr result (SameCourse c d) → OnErr result (KeepsLogRoom c d) → OnErr result (q ≡ r) → GoesOn at marks c r d q
removal_goes_on at marks c r d q (Ok done) within m is ok same room still start rolls way =
    after_removal start at marks rolls c r way d q ok within
    (sym (mark_of_last start at marks rolls c r way within (records_of d.log) ok.step ok.records m) ∙ is)
removal_goes_on at marks c r d q (Err why) within m is ok same room still start rolls way =
    subst (IsOnTheWay start at marks d) (sym still) (way_stays start at marks c r d way same room)

-- a rollback goes on where the last step is laid aside
pub aside_goes_on : (at : ℕ) (marks : List Bool) (c : Course) (r : Rollback) (d : Course) (q : Rollback) (front : List Record) (step : Record)
    → at < length (records_of c.log) → (m : Bool) → get_or marks ((length (records_of c.log) - 1) - at) m ≡ false
    → records_of c.log ≡ front ++ step ∷ [] → d.store ≡ c.store → d.pool ≡ c.pool → d.first ≡ c.first → records_of d.log ≡ front
    → ((rest : List Record) → CanTake c.log rest → CanTake d.log (step ∷ rest)) → q.stay.items ≡ r.stay.items ++ step ∷ [] → vec_len q.stay ≡ vec_len r.stay + 1
    → vec_capacity q.stay ≡ vec_capacity r.stay → q.gone ≡ r.gone → q.ids ≡ r.ids → GoesOn at marks c r d q
aside_goes_on at marks c r d q front step within m is items store pool first records room stay len capacity gone ids start rolls way =
    after_aside start at marks rolls c r way front step items within d q
    (sym (mark_of_last start at marks rolls c r way within front step items m) ∙ is) store pool first records
    (room (unmarked way.after way.tail) way.log_room) stay len capacity gone ids
