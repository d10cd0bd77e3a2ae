-- A step and its consequences, which can stand at the end, go back one after the other, and the other steps are kept.
use Rattle.std.proofs.Common.{◌≡◌, ℕ, suc, List, [], ◌∷◌, ◌++◌, length, refl, sym, ap, subst, ◌∙◌, append_assoc}
use Rattle.std.proofs.lemmas.List.{map-append}
use Rattle.gr_causal.specs.Dependence.{dependents, kept, Depends, IsClosedPart, AreTheOthers}
use Rattle.gr_causal.specs.Sequences.{Distinct}
use Rattle.gr_causal.proofs.DependenceLemmas.{dependents_part, others_are}
use Rattle.gr_causal.proofs.ListLemmas.{Distinct-by_name}
use Rattle.gr_causal.proofs.PartLemmas.{part_to_end, last_dependents}
use Rattle.gr_program.specs.Programs.{Program}
use Rattle.gr_laws.specs.Dependence.{clash}
use Rattle.gr_laws.specs.Reached.{Logged}
use Rattle.gr_refine.specs.Contents.{Contents}
use Rattle.gr_record.specs.Conflicts.{conflict_of}
use Rattle.gr_record.specs.declared.record.Record.{Record}
use Rattle.gr_record.specs.Kept.{Kept}
use Rattle.gr_record.specs.Running.{Running}
use Rattle.gr_record.specs.Records.{taken_back, CanGoBack}
use Rattle.gr_record.specs.Back.{all_back}
use Rattle.gr_record.specs.Pairs.{records_in, steps_in, clash_in, AreOf}
use Rattle.gr_record.proofs.AlikeLemmas.{record_of, step_of, same_dependents, same_others}
use Rattle.gr_record.proofs.ChainLemmas.{Chain, chain_of, kept_of, split}
use Rattle.gr_record.proofs.LiftLemmas.{parts_of, lifted, others_lifted, others_mapped}
use Rattle.gr_record.proofs.OrderLemmas.{records_once, steps_once, rearranged, rearranged_by_records}

-- a chain taken back leaves the contents from which it leads
led_from : (p : Program) (m t : Contents) (gone : List Record) (later : List (Logged p)) → Chain p m gone later t → all_back gone t ≡ m
led_from p m t [] [] chain = sym chain
led_from p m t (r ∷ gone) (l ∷ later) chain = ap (taken_back r.id.go r.change) (led_from p chain.0 t gone later chain.2) ∙ chain.1.is.takes.back
led_from p m t [] (l ∷ later) chain = absurd chain
led_from p m t (r ∷ gone) [] chain = absurd chain

-- each step of a chain can go back when those behind it are back
next_goes : (p : Program) (m t : Contents) (left gone : List Record) (r : Record) (log : List (Logged p)) → Chain p m (left ++ r ∷ gone) log t
    → CanGoBack r.id.go r.change (all_back gone t)
next_goes p m t [] gone r (l ∷ log) chain =
    subst {_, _} (CanGoBack r.id.go r.change) (sym (led_from p chain.0 t gone log chain.2)) chain.1.is.takes.fits
next_goes p m t (q ∷ left) gone r (l ∷ log) chain = next_goes p chain.0 t left gone r log chain.2
next_goes p m t [] gone r [] chain = absurd chain
next_goes p m t (q ∷ left) gone r [] chain = absurd chain

pub each_goes_back : (p : Program) (s t : Contents) (records left gone : List Record) (r : Record) (log : List (Logged p)) (i : ℕ) → Running p s
    → Kept p s records log t → dependents conflict_of records i ≡ left ++ r ∷ gone → CanGoBack r.id.go r.change (all_back gone t)
each_goes_back p s t records left gone r log i running are e =
    let stay = kept conflict_of records i in
    let once = records_once p s t records log running are in
    let order = part_to_end conflict_of records (dependents conflict_of records i) stay once (dependents_part conflict_of records i once)
    (others_are conflict_of records i once) in
    let again = rearranged_by_records p s t records (stay ++ dependents conflict_of records i) log running are order in
    let chain = chain_of p s (stay ++ dependents conflict_of records i) again.0 t again.2 in
    next_goes p s t (stay ++ left) gone r again.0 (subst {_, _} (λ rs. Chain p s rs again.0 t) (sym (append_assoc stay left (r ∷ gone)))
    (subst {_, _} (λ rs. Chain p s (stay ++ rs) again.0 t) e chain))

-- steps with their records
as_long : (p : Program) (steps : List (Record × Logged p)) → length (records_in p steps) ≡ length (steps_in p steps)
as_long p [] = refl
as_long p (x ∷ steps) = ap suc (as_long p steps)

-- what is left when these are back, from which they go again
abbrev pub GoBack : (p : Program) → Contents → Contents → List (Record × Logged p) → List (Record × Logged p) → Type 0
GoBack p s t stay gone =
    Kept p s (records_in p stay) (steps_in p stay) (all_back (records_in p gone) t)
    × Kept p (all_back (records_in p gone) t) (records_in p gone) (steps_in p gone) t

end_goes_back : (p : Program) (s t : Contents) (stay gone : List (Record × Logged p)) → Kept p s (records_in p (stay ++ gone)) (steps_in p (stay ++ gone)) t
    → GoBack p s t stay gone
end_goes_back p s t stay gone are =
    let chain = subst {_, _} (λ rs. Chain p s rs (steps_in p stay ++ steps_in p gone) t) (map-append (record_of p) stay gone)
    (subst {_, _} (λ ls. Chain p s (records_in p (stay ++ gone)) ls t) (map-append (step_of p) stay gone)
    (chain_of p s (records_in p (stay ++ gone)) (steps_in p (stay ++ gone)) t are)) in
    let parts = split p s t (records_in p stay) (records_in p gone) (steps_in p stay) (steps_in p gone) (as_long p stay) chain in
    let from = led_from p parts.0 t (records_in p gone) (steps_in p gone) parts.2 in (
      subst {_, _} (Kept p s (records_in p stay) (steps_in p stay)) (sym from) (kept_of p s parts.0 (records_in p stay) (steps_in p stay) parts.1),
      subst {_, _} (λ x. Kept p x (records_in p gone) (steps_in p gone) t) (sym from) (kept_of p parts.0 t (records_in p gone) (steps_in p gone) parts.2),
    )

pairs_once : (p : Program) (s t : Contents) (steps : List (Record × Logged p)) → Running p s → Kept p s (records_in p steps) (steps_in p steps) t → Distinct steps
pairs_once p s t steps running are =
    Distinct-by_name (record_of p) steps (records_once p s t (records_in p steps) (steps_in p steps) running are)

pub closed_go_back : (p : Program) (s t : Contents) (steps gone stay : List (Record × Logged p)) → Running p s
    → Kept p s (records_in p steps) (steps_in p steps) t → IsClosedPart (λ a b. Depends (clash_in p) steps b a) steps gone → AreTheOthers steps gone stay
    → GoBack p s t stay gone
closed_go_back p s t steps gone stay running are closed others =
    let order = part_to_end (clash_in p) steps gone stay (pairs_once p s t steps running are) closed others in
    end_goes_back p s t stay gone (rearranged p s t steps (stay ++ gone) running are order)

-- records that are kept, each with its step
paired : (p : Program) (s t : Contents) (records : List Record) (log : List (Logged p)) → Chain p s records log t
    → (steps : List (Record × Logged p)) × AreOf p steps records log
paired p s t [] [] chain = ([], (refl, refl))
paired p s t (r ∷ records) (l ∷ log) chain =
    let rest = paired p chain.0 t records log chain.2 in
    ((r, l) ∷ rest.0, (ap (λ rs. r ∷ rs) rest.1.0, ap (λ ls. l ∷ ls) rest.1.1))
paired p s t [] (l ∷ log) chain = absurd chain
paired p s t (r ∷ records) [] chain = absurd chain

pub kept_pairs : (p : Program) (s t : Contents) (records : List Record) (log : List (Logged p)) → Kept p s records log t
    → (steps : List (Record × Logged p)) × AreOf p steps records log
kept_pairs p s t records log are = paired p s t records log (chain_of p s records log t are)

-- whatever holds of kept records holds where it holds of pairs of records and steps
by_pairs : (p : Program) (s t : Contents) (Holds : List Record → List (Logged p) → Type 0)
    → ((steps : List (Record × Logged p)) → Kept p s (records_in p steps) (steps_in p steps) t → Holds (records_in p steps) (steps_in p steps))
    → (records : List Record) (log : List (Logged p)) → Kept p s records log t → Holds records log
by_pairs p s t Holds of_pairs records log are =
    let pairs = kept_pairs p s t records log are in
    let steps = pairs.0 in
    let both = subst {_, _} (λ rs. Kept p s rs (steps_in p steps) t) pairs.1.0 (subst {_, _} (λ ls. Kept p s records ls t) pairs.1.1 are) in
    subst {_, _} (λ rs. Holds rs log) (sym pairs.1.0) (subst {_, _} (λ ls. Holds (records_in p steps) ls) (sym pairs.1.1) (of_pairs steps both))

-- all consequences of a step
abbrev pub AllBack : (p : Program) → Contents → Contents → ℕ → List Record → List (Logged p) → Type 0
AllBack p s t i records log =
    Kept p s (kept conflict_of records i) (kept (clash p) log i) (all_back (dependents conflict_of records i) t)
    × Kept p (all_back (dependents conflict_of records i) t) (dependents conflict_of records i) (dependents (clash p) log i) t

pairs_go_back : (p : Program) (s t : Contents) (i : ℕ) → Running p s → (steps : List (Record × Logged p))
    → Kept p s (records_in p steps) (steps_in p steps) t → AllBack p s t i (records_in p steps) (steps_in p steps)
pairs_go_back p s t i running steps are =
    let once = pairs_once p s t steps running are in
    let gone = dependents (clash_in p) steps i in
    let stay = kept (clash_in p) steps i in
    let after = closed_go_back p s t steps gone stay running are (dependents_part (clash_in p) steps i once) (others_are (clash_in p) steps i once) in
    let others = same_others p s t steps i are in
    let same = same_dependents p s t steps i are in
    subst {_, _} (λ rs. Kept p s (kept conflict_of (records_in p steps) i) (kept (clash p) (steps_in p steps) i) (all_back rs t)
    × Kept p (all_back rs t) rs (dependents (clash p) (steps_in p steps) i) t) (sym same.0) (
      subst {_, _} (λ rs. Kept p s rs (kept (clash p) (steps_in p steps) i) (all_back (records_in p gone) t)) (sym others.0)
          (subst {_, _} (λ ls. Kept p s (records_in p stay) ls (all_back (records_in p gone) t)) (sym others.1) after.0),
      subst {_, _} (λ ls. Kept p (all_back (records_in p gone) t) (records_in p gone) ls t) (sym same.1) after.1,
    )

pub all_go_back : (p : Program) (s t : Contents) (records : List Record) (log : List (Logged p)) (i : ℕ) → Running p s → Kept p s records log t
    → AllBack p s t i records log
all_go_back p s t records log i running are = by_pairs p s t (AllBack p s t i) (pairs_go_back p s t i running) records log are

-- the last of the consequences
abbrev pub StopsThere : (p : Program) → Contents → Contents → ℕ → List Record → List Record → List (Logged p) → Type 0
StopsThere p s t i gone stay log = (later : List (Logged p)) × (others : List (Logged p))
    × AreTheOthers log later others × Kept p s stay others (all_back gone t) × Kept p (all_back gone t) gone later t
    × ((before : List (Logged p)) × (dependents (clash p) log i ≡ before ++ later))

lost_pairs : (p : Program) (s t : Contents) (left gone stay : List Record) (i : ℕ) → Running p s → (steps : List (Record × Logged p))
    → Kept p s (records_in p steps) (steps_in p steps) t → dependents conflict_of (records_in p steps) i ≡ left ++ gone
    → AreTheOthers (records_in p steps) gone stay → StopsThere p s t i gone stay (steps_in p steps)
lost_pairs p s t left gone stay i running steps are e others =
    let once = records_once p s t (records_in p steps) (steps_in p steps) running are in
    let parts = parts_of (record_of p) (dependents (clash_in p) steps i) left gone (sym (same_dependents p s t steps i are).0 ∙ e) in
    let lost = parts.1 in
    let closed = last_dependents (clash_in p) steps parts.0 lost i (pairs_once p s t steps running are) parts.2 in
    let rest = lifted (record_of p) steps stay (λ r h. (others.others r h).0) in
    let apart = others_lifted (record_of p) steps lost rest.0 once closed.within_log rest.2
    (subst {_, _} (λ g. AreTheOthers (records_in p steps) g (records_in p rest.0)) (sym parts.3)
    (subst {_, _} (AreTheOthers (records_in p steps) gone) (sym rest.1) others)) in
    let both = closed_go_back p s t steps lost rest.0 running are closed apart in (
      steps_in p lost,
      steps_in p rest.0,
      others_mapped (step_of p) steps lost rest.0 (steps_once p s t (records_in p steps) (steps_in p steps) running are) closed.within_log apart,
      subst {_, _} (λ g. Kept p s stay (steps_in p rest.0) (all_back g t)) parts.3
          (subst {_, _} (λ rs. Kept p s rs (steps_in p rest.0) (all_back (records_in p lost) t)) rest.1 both.0),
      subst {_, _} (λ g. Kept p (all_back g t) g (steps_in p lost) t) parts.3 both.1,
      (steps_in p parts.0, (same_dependents p s t steps i are).1 ∙ ap (steps_in p) parts.2 ∙ map-append (step_of p) parts.0 lost),
    )

pub may_stop : (p : Program) (s t : Contents) (records left gone stay : List Record) (log : List (Logged p)) (i : ℕ) → Running p s → Kept p s records log t
    → dependents conflict_of records i ≡ left ++ gone → AreTheOthers records gone stay → StopsThere p s t i gone stay log
may_stop p s t records left gone stay log i running are =
    by_pairs p s t (λ rs ls. dependents conflict_of rs i ≡ left ++ gone → AreTheOthers rs gone stay → StopsThere p s t i gone stay ls)
    (lost_pairs p s t left gone stay i running) records log are
