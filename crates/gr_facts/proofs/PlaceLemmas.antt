-- The step at a place of records that are kept, with what the store contained before it.
use Rattle.std.proofs.Common.{◌≡◌, ℕ, zero, suc, List, [], ◌∷◌, ◌++◌, length, take, slice_get, if◌then◌else◌, Some, None, refl, ap, subst}
use Rattle.std.specs.List.{list_any}
use Rattle.std.specs.Option.{option_or}
use Rattle.gr_causal.specs.Machine.{IsLog}
use Rattle.gr_causal.proofs.PathLemmas.{log_join}
use Rattle.gr_program.specs.Programs.{Program}
use Rattle.gr_rules.specs.Steps.{machine}
use Rattle.gr_laws.specs.Reached.{Logged}
use Rattle.gr_refine.specs.Contents.{Contents}
use Rattle.gr_refine.specs.Standing.{ContentsStand}
use Rattle.gr_lower.specs.Lowered.{lowered, meaning}
use Rattle.gr_record.specs.declared.record.Record.{Record}
use Rattle.gr_record.specs.Kept.{Tells}
use Rattle.gr_record.specs.Listings.{state_in}
use Rattle.gr_record.specs.Pairs.{id_of}
use Rattle.gr_record.proofs.ChainLemmas.{Chain}
use Rattle.gr_depend.proofs.HistoryLemmas.{name_is}
use Rattle.gr_base.specs.declared.objects.Object.{Object}
use Rattle.gr_rules.specs.States.{same as same_object}
use Rattle.gr_record.specs.Conflicts.{written_by}
use Rattle.gr_record.proofs.RecordLemmas.{writes_are}
use Rattle.gr_facts.specs.Facts.{last_writer}
use Rattle.gr_facts.specs.Recorded.{writer_in}

pub record KeptAt (p : Program) (s : Contents) (rs : List Record) (log : List (Logged p)) (place : ℕ) (r : Record) : Type 0 where
  pub front : List (Logged p)
  pub behind : List (Logged p)
  pub step : Logged p
  pub before : Contents
  pub after : Contents
  pub split : log ≡ front ++ step ∷ behind
  pub count : length front ≡ place
  pub leads : IsLog (machine p) (state_in p s) front (state_in p before)
  pub stand : ContentsStand (meaning p) (lowered p) before
  pub tells : Tells p before r step after
  pub writer : (o : Object) → writer_in (take place rs) o ≡ last_writer p front o

-- one step more before the others
writer_on : (p : Program) (rs : List Record) (o : Object) (q : Record) (l : Logged p) (ls : List (Logged p)) → q.id ≡ id_of p l → written_by q ≡ l.note.writes
    → writer_in rs o ≡ last_writer p ls o → writer_in (q ∷ rs) o ≡ last_writer p (l ∷ ls) o
writer_on p rs o q l ls name wrote same = λ j. option_or (same j) (if list_any (same_object o) (wrote j) then Some (name j) else None)

pub kept_at : (p : Program) (s t : Contents) (rs : List Record) (ls : List (Logged p)) → ContentsStand (meaning p) (lowered p) s → Chain p s rs ls t
    → (place : ℕ) (r : Record) → slice_get rs place ≡ Some r → KeptAt p s rs ls place r
kept_at p s t (q ∷ rs) (l ∷ ls) stand chain zero r there = record {
  front = [];
  behind = ls;
  step = l;
  before = s;
  after = chain.0;
  split = refl;
  count = refl;
  leads = refl;
  stand = stand;
  tells = subst {_, _} (λ x. Tells p s x l chain.0) (let some : Some q ≡ Some r = there in let same : q ≡ r = cc in same) chain.1;
  writer = λ o. refl;
}
kept_at p s t (q ∷ rs) (l ∷ ls) stand chain (suc place) r there =
    let rest = kept_at p chain.0 t rs ls chain.1.is.takes.stand chain.2 place r there in
    record {
      front = l ∷ rest.front;
      behind = rest.behind;
      step = rest.step;
      before = rest.before;
      after = rest.after;
      split = ap (λ xs. l ∷ xs) rest.split;
      count = ap suc rest.count;
      leads = log_join (machine p) (state_in p s) (state_in p chain.0) (state_in p rest.before) (l ∷ []) rest.front chain.1.step rest.leads;
      stand = rest.stand;
      tells = rest.tells;
      writer = λ o. writer_on p (take place rs) o q l rest.front (name_is p s q l chain.0 chain.1) (writes_are p s q l chain.0 chain.1) (rest.writer o);
    }
kept_at p s t [] [] stand chain place r there = absurd (let none : None ≡ Some r = there in cc)
kept_at p s t [] (l ∷ ls) stand chain place r there = absurd chain
kept_at p s t (q ∷ rs) [] stand chain place r there = absurd chain
