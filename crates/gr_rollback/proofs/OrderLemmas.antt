-- The order of a log that names give, by its records.
use Rattle.std.proofs.Common.{◌≡◌, suc, Bool, List, [], ◌∷◌, map, length, refl, sym, ap, subst, ◌∙◌}
use Rattle.gr_base.specs.declared.events.Event.{Event}
use Rattle.gr_base.specs.declared.names.StepId.{StepId}
use Rattle.gr_causal.specs.OrderByNames.{Ordered, NamesEach, FirstToChange}
use Rattle.gr_causal.specs.OrderByNames.Ordered.{accepted, other_steps, broken}
use Rattle.gr_causal.specs.Orders.{IsOrder, Swaps, none, here, there, and}
use Rattle.gr_causal.specs.Sequences.{In, Distinct, Rearranges}
use Rattle.gr_causal.proofs.ListLemmas.{In-map, In-of_map, Distinct-by_name}
use Rattle.gr_causal.proofs.OrderByNamesLemmas.{accepts, refuses, breaks}
use Rattle.gr_causal.proofs.OrderLemmas.{reached}
use Rattle.gr_program.specs.Programs.{Program}
use Rattle.gr_rules.specs.States.{State}
use Rattle.gr_laws.specs.Dependence.{clash, StepName, step_name, same_name, ordered_by}
use Rattle.gr_laws.specs.Reached.{Logged, IsRun}
use Rattle.gr_laws.proofs.RunLemmas.{distinct_steps, same_name_is}
use Rattle.gr_refine.specs.Contents.{Contents}
use Rattle.gr_step.specs.Record.{Record}
use Rattle.gr_step.specs.Conflicts.{conflict_of}
use Rattle.gr_step.specs.Kept.{Kept, none, one_more, Tells}
use Rattle.gr_step.specs.Running.{Running}
use Rattle.gr_step.proofs.OrderLemmas.{records_once, rearranged_by_records}
use Rattle.gr_step.proofs.RecordLemmas.{conflicts_alike}
use Rattle.gr_rollback.specs.Pasts.{id_of}
use Rattle.gr_rollback.specs.Backs.{names_in}
use Rattle.gr_rollback.proofs.OrderByNamesLemmas.{Both, both_push, names_alike, Answers, orders_alike}

-- a list in another order has as many items
swaps_count : {A : Type 0} (conflicts : A → A → Bool) (old new : List A) → Swaps conflicts old new → length new ≡ length old
swaps_count conflicts old new none = refl
swaps_count conflicts old new (here {a = a} {b = b} {L = L} free) = refl
swaps_count conflicts old new (there {a = a} {L = L} {N = N} swaps) = ap suc (swaps_count conflicts L N swaps)
swaps_count conflicts old new (and {L = L} {N = N} {P = P} first second) = swaps_count conflicts N P second ∙ swaps_count conflicts L N first

-- the name of a step as the definition of orders has it
abbrev pair : StepId → StepName
pair id = (id.go, id.n)

pair_inj : (a b : StepId) → pair a ≡ pair b → a ≡ b
pair_inj a b e = λ i. record { go = ap (λ (n : StepName). n.0) e i; n = ap (λ (n : StepName). n.1) e i }

abbrev told : Record → StepName
told r = pair r.id

-- the record is that of the step
pub record IsOf (p : Program) (r : Record) (l : Logged p) : Type 0 where
  pub before : Contents
  pub after : Contents
  pub tells : Tells p before r l after

module _ (p : Program) where
  name_is : (r : Record) (l : Logged p) → IsOf p r l → told r ≡ step_name p l
  name_is r l is = λ i. (ap (λ (e : Event). e.go) (sym is.tells.event) i, sym is.tells.ordinal i)

  pub id_is : (r : Record) (l : Logged p) → IsOf p r l → id_of p l ≡ r.id
  id_is r l is = pair_inj (id_of p l) r.id (sym (name_is r l is))

  pub conflict_is : (a b : Record) (k l : Logged p) → IsOf p a k → IsOf p b l → conflict_of a b ≡ clash p k l
  conflict_is a b k l first second = conflicts_alike p first.before first.after second.before second.after a b k l first.tells second.tells

  pub kept_both : (s : Contents) (records : List Record) (log : List (Logged p)) (t : Contents) → Kept p s records log t → Both (IsOf p) records log
  kept_both s _ _ _ none = tt
  kept_both s _ _ _ (one_more {records} {log} {t} r l u kept tells) =
      both_push (IsOf p) records log r l (kept_both s records log t kept) (record { before = t; after = u; tells = tells })

told_pairs : (records : List Record) → map pair (map (λ r. r.id) records) ≡ map told records
told_pairs [] = refl
told_pairs (r ∷ records) = ap (λ ns. told r ∷ ns) (told_pairs records)

In_pairs : (id : StepId) (ids : List StepId) → In (pair id) (map pair ids) → In id ids
In_pairs id ids i = let w = In-of_map pair (pair id) ids i in subst (λ x. In x ids) (sym (pair_inj id w.0 w.2)) w.1

-- the records of a run of a program
module _ (p : Program) (s t : Contents) (end : State) (records : List Record) (log : List (Logged p)) (kept : Kept p s records log t) (run : IsRun p log end) where
  both : Both (IsOf p) records log
  both = kept_both p s records log t kept

  same_names : map told records ≡ map (step_name p) log
  same_names = names_alike (IsOf p) told (step_name p) (name_is p) records log both

  told_once : Distinct (map told records)
  told_once = subst (λ ns. Distinct ns) (sym same_names) (distinct_steps p log end run)

  -- no two of them have one name
  pub ids_once : Distinct (map (λ r. r.id) records)
  ids_once = Distinct-by_name pair (map (λ r. r.id) records) (subst (λ ns. Distinct ns) (sym (told_pairs records)) told_once)

  -- names that are not theirs
  pub others_named : (ids : List StepId) → (NamesEach (λ r. r.id) records ids → ⊥) → ordered_by p (names_in ids) log ≡ other_steps
  others_named ids others =
      refuses (clash p) (step_name p) same_name (λ m n. (same_name_is m n).0) (λ n. (same_name_is n n).1 refl) log (distinct_steps p log end run) (names_in ids)
      (λ each. others (record {
        once = Distinct-by_name pair ids each.once;
        all = λ id. (
          λ i. In_pairs id ids ((each.all (pair id)).0 (subst (In (pair id)) (told_pairs records ∙ same_names) (In-map pair id (map (λ r. r.id) records) i))),
          λ i. In_pairs id (map (λ r. r.id) records)
              (subst (In (pair id)) (sym (told_pairs records ∙ same_names)) ((each.all (pair id)).1 (In-map pair id ids i))),
        );
      }))

  -- an order of the records that does not respect dependence
  pub record BrokenBy (ids : List StepId) (a b : Record) : Type 0 where
    pub earlier : Logged p
    pub later : Logged p
    pub order : ordered_by p (names_in ids) log ≡ broken earlier later
    pub first_is : id_of p earlier ≡ a.id
    pub second_is : id_of p later ≡ b.id

  broken_answer : (ids : List StepId) (a b : Record) (o : Ordered (Logged p)) → ordered_by p (names_in ids) log ≡ o → Answers (IsOf p) (broken a b) o → BrokenBy ids a b
  broken_answer ids a b (broken x y) e is = record { earlier = x; later = y; order = e; first_is = id_is p a x is.0; second_is = id_is p b y is.1 }
  broken_answer ids a b (accepted new) e is = absurd is
  broken_answer ids a b other_steps e is = absurd is

  pub broken_by : (ids : List StepId) (order : List Record) (a b : Record) → Rearranges records order → map (λ r. r.id) order ≡ ids
      → FirstToChange conflict_of records order a b → BrokenBy ids a b
  broken_by ids order a b steps named change =
      let by_records = breaks conflict_of told same_name (λ m n. (same_name_is m n).0) (λ n. (same_name_is n n).1 refl) records told_once (names_in ids)
      order a b steps (sym (told_pairs order) ∙ ap (map pair) named) change in
      broken_answer ids a b (ordered_by p (names_in ids) log) refl
      (subst (λ o. Answers (IsOf p) o (ordered_by p (names_in ids) log)) by_records
      (orders_alike (IsOf p) conflict_of (clash p) told (step_name p) same_name (name_is p) (λ a b k l. conflict_is p a b k l) (names_in ids) records log both))

  -- an order that respects dependence
  pub record TakesOrder (ids : List StepId) (new : List Record) : Type 0 where
    pub steps : List (Logged p)
    pub order : ordered_by p (names_in ids) log ≡ accepted steps
    pub keeps : Kept p s new steps t
    pub count : length new ≡ length records

  pub takes_order : Running p s → (ids : List StepId) (new : List Record) → IsOrder conflict_of records new → map (λ r. r.id) new ≡ ids → TakesOrder ids new
  takes_order running ids new order named =
      let moved = rearranged_by_records p s t records new log running kept order in
      let alike = names_alike (IsOf p) told (step_name p) (name_is p) new moved.0 (kept_both p s new moved.0 t moved.2) in
      record {
        steps = moved.0;
        order = accepts (clash p) (step_name p) same_name (λ m n. (same_name_is m n).0) (λ n. (same_name_is n n).1 refl) log (distinct_steps p log end run)
            (names_in ids) moved.0 moved.1 (sym alike ∙ sym (told_pairs new) ∙ ap (map pair) named);
        keeps = moved.2;
        count = swaps_count conflict_of records new (reached conflict_of records new (records_once p s t records log running kept) order);
      }
