-- Records that are kept: the last of them, how many they are, and the names and events of their steps.
use Rattle.std.proofs.Common.{◌≡◌, ◌+◌, List, [], ◌∷◌, ◌++◌, map, length, refl, sym, ap, ap₂, subst, ◌∙◌}
use Rattle.std.proofs.lemmas.List.{length_push, map-append}
use Rattle.gr_base.specs.declared.events.Event.{Event}
use Rattle.gr_program.specs.Programs.{Program}
use Rattle.gr_laws.specs.Reached.{Logged, IsRun}
use Rattle.gr_refine.specs.Contents.{Contents}
use Rattle.gr_step.specs.Record.{Record}
use Rattle.gr_step.specs.Running.{IsChecked, Running}
use Rattle.gr_step.specs.Records.{event_of}
use Rattle.gr_step.specs.Kept.{Kept, none, one_more, Tells}
use Rattle.gr_rollback.specs.Courses.{Begins}
use Rattle.gr_rollback.specs.Pasts.{id_of, ids_of, events_in}
use Rattle.gr_rollback.proofs.Basics.{ends_same, not_nothing}

-- the last record, and its step
pub record LastKept (p : Program) (s : Contents) (records : List Record) (r : Record) (log : List (Logged p)) (t : Contents) : Type 0 where
  pub before : List (Logged p)
  pub last : Logged p
  pub mid : Contents
  pub log_is : log ≡ before ++ last ∷ []
  pub kept : Kept p s records before mid
  pub tells : Tells p mid r last t

last_in : (p : Program) (s : Contents) (rs : List Record) (log : List (Logged p)) (t : Contents) → Kept p s rs log t → (records : List Record) (r : Record)
    → rs ≡ records ++ r ∷ [] → LastKept p s records r log t
last_in p s _ _ _ none records r e = absurd (not_nothing records r (sym e))
last_in p s _ _ _ (one_more {records} {log} {t} q l u kept tells) rs r e =
    let same = ends_same records rs q r e in
    record {
      before = log;
      last = l;
      mid = t;
      log_is = refl;
      kept = subst (λ xs. Kept p s xs log t) same.0 kept;
      tells = subst (λ x. Tells p t x l u) same.1 tells;
    }

pub last_kept : (p : Program) (s : Contents) (records : List Record) (r : Record) (log : List (Logged p)) (t : Contents) → Kept p s (records ++ r ∷ []) log t
    → LastKept p s records r log t
last_kept p s records r log t kept = last_in p s (records ++ r ∷ []) log t kept records r refl

-- the name of a record is that of its step
pub id_alike : (p : Program) (s t : Contents) (r : Record) (l : Logged p) → Tells p s r l t → r.id ≡ id_of p l
id_alike p s t r l tells = λ i. record { go = sym (ap (λ (e : Event). e.go) tells.event) i; n = sym tells.ordinal i }

-- as many steps as records
pub kept_length : (p : Program) (s : Contents) (records : List Record) (log : List (Logged p)) (t : Contents) → Kept p s records log t → length records ≡ length log
kept_length p s _ _ _ none = refl
kept_length p s _ _ _ (one_more {records} {log} {t} r l u kept tells) =
    length_push records r ∙ ap (λ n. n + 1) (kept_length p s records log t kept) ∙ sym (length_push log l)

-- no step for no record
none_in : (p : Program) (s : Contents) (rs : List Record) (log : List (Logged p)) (t : Contents) → Kept p s rs log t → rs ≡ [] → (log ≡ []) × (t ≡ s)
none_in p s _ _ _ none e = (refl, refl)
none_in p s _ _ _ (one_more {records} {log} {t} r l u kept tells) e = absurd (not_nothing records r e)

pub none_kept : (p : Program) (s : Contents) (log : List (Logged p)) (t : Contents) → Kept p s [] log t → (log ≡ []) × (t ≡ s)
none_kept p s log t kept = none_in p s [] log t kept refl

pub some_kept : (p : Program) (s : Contents) (records : List Record) (r : Record) (log : List (Logged p)) (t : Contents) → Kept p s (records ++ r ∷ []) log t → log ≡ [] → ⊥
some_kept p s records r log t kept e =
    let last = last_kept p s records r log t kept in
    not_nothing last.before last.last (sym last.log_is ∙ e)

-- a program begins as a run of it
pub begins_running : (p : Program) (s : Contents) → IsChecked p → Begins p s → Running p s
begins_running p s checked begins = record {
  program = checked;
  reached = record { log = []; leads = subst (IsRun p []) (sym begins.state) refl };
  stand = begins.stand;
}

-- the names of records are those of their steps, and so are their events
pub ids_alike : (p : Program) (s : Contents) (records : List Record) (log : List (Logged p)) (t : Contents) → Kept p s records log t
    → map (λ r. r.id) records ≡ ids_of p log
ids_alike p s _ _ _ none = refl
ids_alike p s _ _ _ (one_more {records} {log} {t} r l u kept tells) =
    map-append (λ (q : Record). q.id) records (r ∷ []) ∙ ap₂ (λ xs x. xs ++ x ∷ []) (ids_alike p s records log t kept) (id_alike p t u r l tells)
    ∙ sym (map-append (id_of p) log (l ∷ []))

pub events_alike : (p : Program) (s : Contents) (records : List Record) (log : List (Logged p)) (t : Contents) → Kept p s records log t
    → map event_of records ≡ events_in p log
events_alike p s _ _ _ none = refl
events_alike p s _ _ _ (one_more {records} {log} {t} r l u kept tells) =
    map-append event_of records (r ∷ []) ∙ ap₂ (λ xs x. xs ++ x ∷ []) (events_alike p s records log t kept) (sym tells.event)
    ∙ sym (map-append (λ (k : Logged p). k.event) log (l ∷ []))
