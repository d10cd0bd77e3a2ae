-- The sources of a step: steps before it that conflict with it, one for each object that it touched.
use Rattle.std.proofs.Common.{◌≡◌, ◌<◌, ℕ, zero, suc, Bool, true, false, ◌||◌, List, [], ◌∷◌, ◌++◌, length, slice_get, if◌then◌else◌, Option, Some, None, refl, sym, ap, subst, ◌∙◌, inl, inr, arith}
use Rattle.std.specs.List.{list_any}
use Rattle.std.specs.Option.{option_or}
use Rattle.std.proofs.lemmas.Option.{slice_get_within}
use Rattle.gr_base.specs.declared.events.Event.{Event}
use Rattle.gr_base.specs.declared.names.StepId.{StepId}
use Rattle.gr_base.specs.declared.objects.Object.{Object}
use Rattle.gr_base.specs.declared.objects.Object.TheVariants.{Run, Go, Gate, Tail, Head, Slot}
use Rattle.gr_causal.specs.Machine.{meets}
use Rattle.gr_causal.specs.Rules.{Note}
use Rattle.gr_causal.specs.Sequences.{In}
use Rattle.gr_causal.proofs.ListLemmas.{In-append_cases, In-append_left, In-append_right}
use Rattle.gr_causal.proofs.PathLemmas.{path_of}
use Rattle.gr_causal.proofs.StepLemmas.{Goes}
use Rattle.gr_program.specs.Programs.{Program}
use Rattle.gr_rules.specs.Attempts.{Report}
use Rattle.gr_rules.specs.States.{State, same}
use Rattle.gr_rules.specs.Steps.{machine}
use Rattle.gr_rules.specs.Touches.{table, AsTheTable}
use Rattle.gr_laws.specs.Reached.{Logged}
use Rattle.gr_laws.specs.Touched.{TellTouches, each_once}
use Rattle.gr_laws.proofs.AttemptTouches.{touched_as}
use Rattle.gr_laws.proofs.CellLemmas.{same_is, same_self}
use Rattle.gr_laws.proofs.TouchedLemmas.{any_in, told_alike, touched_each, writes_once, meets_in}
use Rattle.gr_record.specs.Pairs.{id_of}
use Rattle.gr_facts.specs.declared.sources.Source.{Source}
use Rattle.gr_facts.specs.Asked.{IsStepAt}
use Rattle.gr_facts.specs.Facts.{last_writer, source_of, sources_of, only_read}
use Rattle.gr_facts.specs.Sources.{IsCause, Causes, TellRead, TellWritten}

-- sources by their objects
module _ (flag : Bool) (writer : Object → Option StepId) where
  abbrev source : Object → Source
  source o = record { object = o; wrote = flag; step = writer o }

  from_one : (o : Object) (os : List Object) (x : Source) → x ≡ source o → In x.object (o ∷ os) × (x.step ≡ writer x.object)
  from_one o os x e = (inl (ap (λ (y : Source). y.object) e), ap (λ (y : Source). y.step) e ∙ sym (ap (λ (y : Source). writer y.object) e))

  from_object : (o : Object) (os : List Object) (x : Source) → In x (source_of flag writer o) → In x.object (o ∷ os) × (x.step ≡ writer x.object)
  from_object Run os x i = absurd i
  from_object (Go n) os x (inl e) = from_one (Go n) os x e
  from_object (Gate c) os x (inl e) = from_one (Gate c) os x e
  from_object (Tail c) os x (inl e) = from_one (Tail c) os x e
  from_object (Head c) os x (inl e) = from_one (Head c) os x e
  from_object (Slot c k) os x (inl e) = from_one (Slot c k) os x e
  from_object (Go n) os x (inr i) = absurd i
  from_object (Gate c) os x (inr i) = absurd i
  from_object (Tail c) os x (inr i) = absurd i
  from_object (Head c) os x (inr i) = absurd i
  from_object (Slot c k) os x (inr i) = absurd i

  from_objects : (os : List Object) (x : Source) → In x (sources_of flag writer os) → In x.object os × (x.step ≡ writer x.object)
  from_objects [] x i = absurd i
  from_objects (o ∷ os) x i = elim (In-append_cases x (source_of flag writer o) (sources_of flag writer os) i) [
    | inl h ↦ from_object o os x h
    | inr h ↦ let rest = from_objects os x h in (inr rest.0, rest.1)
  ]

  of_itself : (o : Object) → (o ≡ Run → ⊥) → In (source o) (source_of flag writer o)
  of_itself Run other = absurd (other refl)
  of_itself (Go n) other = inl refl
  of_itself (Gate c) other = inl refl
  of_itself (Tail c) other = inl refl
  of_itself (Head c) other = inl refl
  of_itself (Slot c k) other = inl refl

  has_source : (os : List Object) (o : Object) → In o os → (o ≡ Run → ⊥) → In (source o) (sources_of flag writer os)
  has_source [] o i other = absurd i
  has_source (q ∷ os) o (inl e) other =
      In-append_left (source o) (source_of flag writer q) (sources_of flag writer os) (subst {_, _} (λ y. In (source o) (source_of flag writer y)) e (of_itself o other))
  has_source (q ∷ os) o (inr i) other = In-append_right (source o) (source_of flag writer q) (sources_of flag writer os) (has_source os o i other)

-- the last writer of an object is a step of the log
record Wrote (p : Program) (ls : List (Logged p)) (o : Object) (id : StepId) : Type 0 where
  place : ℕ
  step : Logged p
  there : slice_get ls place ≡ Some step
  named : id_of p step ≡ id
  wrote : list_any (same o) step.note.writes ≡ true

one_more : (p : Program) (l : Logged p) (ls : List (Logged p)) (o : Object) (id : StepId) (w : Option StepId) (b : Bool)
    → ((i : StepId) → w ≡ Some i → Wrote p ls o i) → list_any (same o) l.note.writes ≡ b
    → option_or w (if b then Some (id_of p l) else None) ≡ Some id → Wrote p (l ∷ ls) o id
one_more p l ls o id (Some i) b earlier is e =
    let rest = earlier id e in
    record { place = suc rest.place; step = rest.step; there = rest.there; named = rest.named; wrote = rest.wrote }
one_more p l ls o id None true earlier is e = record { place = 0; step = l; there = refl; named = (let some : Some (id_of p l) ≡ Some id = e in cc); wrote = is }
one_more p l ls o id None false earlier is e = absurd (let none : None ≡ Some id = e in cc)

writer_there : (p : Program) (ls : List (Logged p)) (o : Object) (id : StepId) → last_writer p ls o ≡ Some id → Wrote p ls o id
writer_there p [] o id e = absurd (let none : None ≡ Some id = e in cc)
writer_there p (l ∷ ls) o id e = one_more p l ls o id (last_writer p ls o) (list_any (same o) l.note.writes) (λ i h. writer_there p ls o i h) refl e

in_front : {A : Type 0} (front behind : List A) (k : ℕ) (x : A) → slice_get front k ≡ Some x → slice_get (front ++ behind) k ≡ Some x
in_front [] behind k x e = absurd (let none : None ≡ Some x = e in cc)
in_front (y ∷ front) behind zero x e = e
in_front (y ∷ front) behind (suc k) x e = in_front front behind k x e

or_left : (a b : Bool) → a ≡ true → (a || b) ≡ true
or_left true b h = refl
or_left false b h = absurd (let never : false ≡ true = h in cc)

module _ (p : Program) (log : List (Logged p)) (place : ℕ) (s : State) (l : Logged p) (at : IsStepAt p log place s l) where
  abbrev e : Event
  e = l.event

  goes : Goes (machine p) s l at.after
  goes =
      let path = path_of (machine p) s (l ∷ []) at.after at.step in
      subst {_, _} (Goes (machine p) s l) path.2 path.1

  as_table : AsTheTable s e l.note
  as_table = touched_as p s e at.after l.note goes.does

  told : TellTouches (each_once l.note.writes (table s e l.note.kind).reads) l.note.writes l.note
  told =
      let row = table s e l.note.kind in
      let n : Note Object Report = record { kind = l.note.kind; reads = row.reads; writes = l.note.writes } in
      let tells_row : AsTheTable s e n = record {
        written = as_table.written;
        touched = λ o. (
          λ i. subst {_, _} (λ ws. In o (row.reads ++ ws)) as_table.written i,
          λ i. subst {_, _} (λ ws. In o (row.reads ++ ws)) (sym as_table.written) i,
        );
      } in
      told_alike s e l.note (each_once l.note.writes row.reads) l.note.writes as_table
      (touched_each s e n tells_row (writes_once p s at.after e l.note goes.does))

  abbrev last : Object → Option StepId
  last = last_writer p at.front

  -- of one object
  is_cause : (o : Object) (id : StepId) → In o (only_read p s l ++ l.note.writes) → last o ≡ Some id → IsCause p log place l id
  is_cause o id touched wrote =
      let w = writer_there p at.front o id wrote in
      let less : w.place < length at.front = slice_get_within at.front w.place w.step w.there in
      let count = at.count in
      record {
        at = w.place;
        cause = w.step;
        before = omega (arith, less, count);
        there = ap (λ ls. slice_get ls w.place) at.split ∙ in_front at.front (l ∷ at.behind) w.place w.step w.there;
        named = w.named;
        conflicts = or_left (meets same w.step.note.writes (l.note.reads ++ l.note.writes)) _
            (meets_in w.step.note.writes (l.note.reads ++ l.note.writes) o
            (any_in same same_is same_self o w.step.note.writes w.wrote) ((told.touched o).0 touched));
      }

  pub are_causes : Causes p log place s l at
  are_causes x id i wrote = elim (In-append_cases x (sources_of false last (only_read p s l)) (sources_of true last l.note.writes) i) [
    | inl h ↦
        let from = from_objects false last (only_read p s l) x h in
        is_cause x.object id (In-append_left x.object (only_read p s l) l.note.writes from.0) (sym from.1 ∙ wrote)
    | inr h ↦
        let from = from_objects true last l.note.writes x h in
        is_cause x.object id (In-append_right x.object (only_read p s l) l.note.writes from.0) (sym from.1 ∙ wrote)
  ]

  pub tell_written : TellWritten p log place s l at
  tell_written o i other =
      In-append_right _ (sources_of false last (only_read p s l)) (sources_of true last l.note.writes) (has_source true last l.note.writes o i other)

  pub tell_read : TellRead p log place s l at
  tell_read o i not other = elim (In-append_cases o (only_read p s l) l.note.writes ((told.touched o).1 i)) [
    | inl h ↦ In-append_left _ (sources_of false last (only_read p s l)) (sources_of true last l.note.writes) (has_source false last (only_read p s l) o h other)
    | inr h ↦ absurd (not h)
  ]
