-- A step goes back from the middle of those that are kept; steps in another order that respects dependence are kept.
use Rattle.std.proofs.Common.{◌≡◌, false, List, [], ◌∷◌, ◌++◌, map, length, refl, sym, ap, ap₂, subst, ◌∙◌, inl, inr}
use Rattle.std.proofs.lemmas.List.{map-append}
use Rattle.gr_causal.specs.Orders.{IsOrder, Swaps, none, here, there, and}
use Rattle.gr_causal.specs.Sequences.{In, Distinct}
use Rattle.gr_causal.proofs.OrderLemmas.{reached, swaps_order}
use Rattle.gr_causal.proofs.PathLemmas.{log_join}
use Rattle.gr_program.specs.Programs.{Program}
use Rattle.gr_rules.specs.States.{start}
use Rattle.gr_rules.specs.Steps.{machine}
use Rattle.gr_laws.specs.Dependence.{clash, StepName, step_name}
use Rattle.gr_laws.specs.Reached.{Logged}
use Rattle.gr_laws.proofs.RunLemmas.{distinct_steps}
use Rattle.gr_refine.specs.Contents.{Contents}
use Rattle.gr_refine.specs.Standing.{ContentsStand}
use Rattle.gr_lower.specs.Lowered.{lowered, meaning}
use Rattle.gr_record.specs.Conflicts.{conflict_of}
use Rattle.gr_record.specs.declared.record.Record.{Record}
use Rattle.gr_record.specs.Kept.{Kept, Tells}
use Rattle.gr_record.specs.Listings.{state_in}
use Rattle.gr_record.specs.Running.{Running}
use Rattle.gr_record.specs.Records.{taken_back, CanGoBack}
use Rattle.gr_record.specs.Pairs.{records_in, steps_in, clash_in}
use Rattle.gr_record.proofs.ChainLemmas.{Chain, chain_of, kept_of, kept_on, split, chain_stands}
use Rattle.gr_record.proofs.KeptLemmas.{kept_is_log}
use Rattle.gr_record.proofs.RecordLemmas.{conflicts_alike}
use Rattle.gr_record.proofs.SwapLemmas.{neighbours}

-- behind a step come others that do not conflict with it
behind : (p : Program) (s m t : Contents) (r : Record) (k : Logged p) (back : List Record) (later : List (Logged p)) → ContentsStand (meaning p) (lowered p) s
    → Tells p s r k m → Chain p m back later t → ((l : Logged p) → In l later → clash p k l ≡ false)
    → CanGoBack r.id.go r.change t × Chain p s back later (taken_back r.id.go r.change t)
behind p s m t r k [] [] stand tells chain free = (
  subst {_, _} (CanGoBack r.id.go r.change) chain tells.is.takes.fits,
  sym tells.is.takes.back ∙ ap (taken_back r.id.go r.change) chain,
)
behind p s m t r k (b ∷ back) (l ∷ later) stand tells chain free =
    let u = taken_back r.id.go r.change chain.0 in
    let both = neighbours p s m chain.0 r b k l stand tells chain.1 (free l (inl refl)) in
    let rest = behind p u chain.0 t r k back later both.0.is.takes.stand both.1 chain.2 (λ o i. free o (inr i)) in
    (rest.0, (u, both.0, rest.1))
behind p s m t r k [] (l ∷ later) stand tells chain free = absurd chain
behind p s m t r k (b ∷ back) [] stand tells chain free = absurd chain

pub middle_goes_back : (p : Program) (s t : Contents) (front back : List Record) (r : Record) (log later : List (Logged p)) (k : Logged p) → Running p s
    → length front ≡ length log → Kept p s (front ++ r ∷ back) (log ++ k ∷ later) t → ((l : Logged p) → In l later → clash p k l ≡ false)
    → CanGoBack r.id.go r.change t × Kept p s (front ++ back) (log ++ later) (taken_back r.id.go r.change t)
middle_goes_back p s t front back r log later k running same kept free =
    let parts = split p s t front (r ∷ back) log (k ∷ later) same (chain_of p s (front ++ r ∷ back) (log ++ k ∷ later) t kept) in
    let m = parts.0 in
    let gone = behind p m parts.2.0 t r k back later (chain_stands p s m front log running.stand parts.1) parts.2.1 parts.2.2 free in
    (gone.0, kept_on p s m (taken_back r.id.go r.change t) front back log later (kept_of p s m front log parts.1) gone.1)

-- records tell that none of these conflicts with a step
told_free : (p : Program) (s m x t : Contents) (r : Record) (k : Logged p) (back : List Record) (later : List (Logged p)) → Tells p s r k m
    → Chain p x back later t → ((b : Record) → In b back → conflict_of r b ≡ false) → (l : Logged p) → In l later → clash p k l ≡ false
told_free p s m x t r k (b ∷ back) (q ∷ later) tells chain free l i = elim i [
  | inl e ↦ ap (clash p k) e ∙ sym (conflicts_alike p s m x chain.0 r b k q tells chain.1) ∙ free b (inl refl)
  | inr j ↦ told_free p s m chain.0 t r k back later tells chain.2 (λ c h. free c (inr h)) l j
]
told_free p s m x t r k [] [] tells chain free l i = absurd i
told_free p s m x t r k [] (q ∷ later) tells chain free l i = absurd chain
told_free p s m x t r k (b ∷ back) [] tells chain free l i = absurd i

pub middle_goes_back_by_records : (p : Program) (s t : Contents) (front back : List Record) (r : Record) (log later : List (Logged p)) (k : Logged p) → Running p s
    → length front ≡ length log → Kept p s (front ++ r ∷ back) (log ++ k ∷ later) t → ((b : Record) → In b back → conflict_of r b ≡ false)
    → CanGoBack r.id.go r.change t × Kept p s (front ++ back) (log ++ later) (taken_back r.id.go r.change t)
middle_goes_back_by_records p s t front back r log later k running same kept free =
    let parts = split p s t front (r ∷ back) log (k ∷ later) same (chain_of p s (front ++ r ∷ back) (log ++ k ∷ later) t kept) in
    middle_goes_back p s t front back r log later k running same kept
    (told_free p parts.0 parts.2.0 parts.2.0 t r k back later parts.2.1 parts.2.2 free)

-- records have the names of their steps, and these are distinct
abbrev name_told : Record → StepName
name_told r = (r.id.go, r.id.n)

names_told : (p : Program) (s t : Contents) (rs : List Record) (ls : List (Logged p)) → Chain p s rs ls t → map name_told rs ≡ map (step_name p) ls
names_told p s t [] [] chain = refl
names_told p s t (r ∷ rs) (l ∷ ls) chain =
    let here : name_told r ≡ step_name p l = λ i. ((sym chain.1.event i).go, sym chain.1.ordinal i) in
    ap₂ (λ (n : StepName) (ns : List StepName). n ∷ ns) here (names_told p chain.0 t rs ls chain.2)
names_told p s t [] (l ∷ ls) chain = absurd chain
names_told p s t (r ∷ rs) [] chain = absurd chain

-- no element stands twice where no image does
In-of_image : {A B : Type 0} (f : A → B) (x : A) (xs : List A) → In x xs → In (f x) (map f xs)
In-of_image f x [] i = i
In-of_image f x (y ∷ ys) i = elim i [ inl e ↦ inl (ap f e) | inr j ↦ inr (In-of_image f x ys j) ]

images_once : {A B : Type 0} (f : A → B) (xs : List A) → Distinct (map f xs) → Distinct xs
images_once f [] d = tt
images_once f (x ∷ xs) d = (λ i. d.0 (In-of_image f x xs i), images_once f xs d.1)

pub last_once : {A : Type 0} (xs ys : List A) → Distinct (xs ++ ys) → Distinct ys
last_once [] ys d = d
last_once (x ∷ xs) ys d = last_once xs ys d.1

names_once : (p : Program) (s t : Contents) (records : List Record) (log : List (Logged p)) → Running p s → Kept p s records log t
    → Distinct (map (step_name p) log)
names_once p s t records log running kept =
    let before = running.reached.log in
    last_once (map (step_name p) before) (map (step_name p) log) (subst {_, _} Distinct (map-append (step_name p) before log)
    (distinct_steps p (before ++ log) (state_in p t)
    (log_join (machine p) (start p) (state_in p s) (state_in p t) before log running.reached.leads (kept_is_log p s records log t kept))))

pub records_once : (p : Program) (s t : Contents) (records : List Record) (log : List (Logged p)) → Running p s → Kept p s records log t → Distinct records
records_once p s t records log running kept =
    images_once name_told records (subst {_, _} Distinct (sym (names_told p s t records log (chain_of p s records log t kept)))
    (names_once p s t records log running kept))

pub steps_once : (p : Program) (s t : Contents) (records : List Record) (log : List (Logged p)) → Running p s → Kept p s records log t → Distinct log
steps_once p s t records log running kept = images_once (step_name p) log (names_once p s t records log running kept)

-- by swaps of neighbours: of records, for which there are steps
pub record Rearranged (p : Program) (s : Contents) (log : List (Logged p)) (new : List Record) (t : Contents) : Type 0 where
  pub steps : List (Logged p)
  pub swaps : Swaps (clash p) log steps
  pub chain : Chain p s new steps t

records_swap : (p : Program) (old new : List Record) → Swaps conflict_of old new → (s t : Contents) (log : List (Logged p))
    → ContentsStand (meaning p) (lowered p) s → Chain p s old log t → Rearranged p s log new t
records_swap p old new none s t log stand chain = record { steps = log; swaps = none; chain = chain }
records_swap p old new (here {a = a} {b = b} {L = rest} free) s t (k ∷ l ∷ log) stand chain =
    let apart = sym (conflicts_alike p s chain.0 chain.0 chain.2.0 a b k l chain.1 chain.2.1) ∙ free in
    let both = neighbours p s chain.0 chain.2.0 a b k l stand chain.1 chain.2.1 apart in
    record {
      steps = l ∷ k ∷ log;
      swaps = here apart;
      chain = (taken_back a.id.go a.change chain.2.0, both.0, (chain.2.0, both.1, chain.2.2));
    }
records_swap p old new (here {a = a} {b = b} {L = rest} free) s t [] stand chain = absurd chain
records_swap p old new (here {a = a} {b = b} {L = rest} free) s t (k ∷ []) stand chain = absurd chain.2
records_swap p old new (there {a = a} {L = L} {N = N} swaps) s t (k ∷ log) stand chain =
    let more = records_swap p L N swaps chain.0 t log chain.1.is.takes.stand chain.2 in
    record { steps = k ∷ more.steps; swaps = there more.swaps; chain = (chain.0, chain.1, more.chain) }
records_swap p old new (there {a = a} {L = L} {N = N} swaps) s t [] stand chain = absurd chain
records_swap p old new (and {L = L} {N = N} {P = P} first second) s t log stand chain =
    let one = records_swap p L N first s t log stand chain in
    let two = records_swap p N P second s t one.steps stand one.chain in
    record { steps = two.steps; swaps = and one.swaps two.swaps; chain = two.chain }

pub rearranged_by_records : (p : Program) (s t : Contents) (old new : List Record) (log : List (Logged p)) → Running p s → Kept p s old log t
    → IsOrder conflict_of old new → (steps : List (Logged p)) × IsOrder (clash p) log steps × Kept p s new steps t
rearranged_by_records p s t old new log running kept order =
    let swaps = reached conflict_of old new (records_once p s t old log running kept) order in
    let done = records_swap p old new swaps s t log running.stand (chain_of p s old log t kept) in
    (done.steps, swaps_order (clash p) log done.steps done.swaps (steps_once p s t old log running kept), kept_of p s t new done.steps done.chain)

-- swaps of records that stand beside their steps keep the chain
swaps_keep : (p : Program) (old new : List (Record × Logged p)) → Swaps (clash_in p) old new → (s t : Contents) → ContentsStand (meaning p) (lowered p) s
    → Chain p s (records_in p old) (steps_in p old) t → Chain p s (records_in p new) (steps_in p new) t
swaps_keep p old new none s t stand chain = chain
swaps_keep p old new (here {a = a} {b = b} {L = rest} free) s t stand chain =
    let both = neighbours p s chain.0 chain.2.0 a.0 b.0 a.1 b.1 stand chain.1 chain.2.1 free in
    (taken_back a.0.id.go a.0.change chain.2.0, both.0, (chain.2.0, both.1, chain.2.2))
swaps_keep p old new (there {a = a} {L = L} {N = N} swaps) s t stand chain =
    (chain.0, chain.1, swaps_keep p L N swaps chain.0 t chain.1.is.takes.stand chain.2)
swaps_keep p old new (and {L = L} {N = N} {P = P} first second) s t stand chain =
    swaps_keep p N P second s t stand (swaps_keep p L N first s t stand chain)

pub rearranged : (p : Program) (s t : Contents) (old new : List (Record × Logged p)) → Running p s → Kept p s (records_in p old) (steps_in p old) t
    → IsOrder (clash_in p) old new → Kept p s (records_in p new) (steps_in p new) t
rearranged p s t old new running kept order =
    let once = images_once (λ (x : Record × Logged p). x.1) old (steps_once p s t (records_in p old) (steps_in p old) running kept) in
    kept_of p s t (records_in p new) (steps_in p new)
    (swaps_keep p old new (reached (clash_in p) old new once order) s t running.stand (chain_of p s (records_in p old) (steps_in p old) t kept))
