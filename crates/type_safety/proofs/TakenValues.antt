-- Names that take received values.
use Rattle.std.proofs.Common.{◌≡◌, ℕ, true, List, [], ◌∷◌, ◌++◌, map, Option, Some, sym, subst}
use Rattle.gr_tree.specs.Statements.{Target}
use Rattle.gr_program.specs.Types.{Ty}
use Rattle.gr_typing.specs.Types.{assignable}
use Rattle.gr_program.specs.Programs.{Declared}
use Rattle.gr_typing.specs.Scopes.{Scope}
use Rattle.gr_typing.specs.Assignments.{HasVariable, Takes, TakesNew, TakeAll, TakeAllNew, blank_takes, variable_takes, blank_new, old_takes, new_takes, take_none, take_one, take_none_new, take_one_new, may_define}
use Rattle.gr_typing.specs.Statements.{IsTarget, no_target, old_target, new_target}
use Rattle.type_safety.proofs.Sorts.{sort_of, AreTargets, numbers_of}
use Rattle.type_safety.proofs.Promises.{Live, Begins, Grows}
use Rattle.type_safety.proofs.CheckedExprs.{assignable_sort}
use Rattle.type_safety.proofs.Growing.{grows_self, grows_trans}
use Rattle.type_safety.proofs.NewVariables.{Sets, sets_live, sets_none, sets_blank, sets_old, sets_new, sets_then, Definable, may_define_all}

old_taken : (ds : List Declared) (s m : Scope) (x : List ℕ) (k : ℕ) (t u : Ty) → Grows s m → HasVariable s x k u
    → assignable t u ≡ true → Sets ds m m (Some k ∷ []) (sort_of t ∷ [])
old_taken ds s m x k t u g h may =
    subst (λ l. Sets ds m m (Some k ∷ []) (l ∷ [])) (sym (assignable_sort t u may)) (sets_old ds s m x k u g h)

pub taken_sets : (ds : List Declared) (s : Scope) (x : List ℕ) (t : Ty) (k : Option ℕ) → Takes s x t k
    → Sets ds s s (k ∷ []) (sort_of t ∷ [])
taken_sets ds s x t k (blank_takes b) = sets_blank ds s (sort_of t)
taken_sets ds s x t k (variable_takes {k = n} {u = u} h may) = old_taken ds s s x n t u (grows_self s) h may

pub new_taken_sets : (ds : List Declared) (s m n : Scope) (x : List ℕ) (xs : List (List ℕ)) (t : Ty) (k : Option ℕ)
    → Grows s m → Definable s m (x ∷ xs) → TakesNew s x t m k n → Sets ds m n (k ∷ []) (sort_of t ∷ [])
    × Definable s n xs
new_taken_sets ds s m n x xs t k g may (blank_new b) = (sets_blank ds m (sort_of t), may.1)
new_taken_sets ds s m n x xs t k g may (old_takes {k = j} {u = u} here h fits) =
    (old_taken ds s m x j t u g h fits, may.1)
new_taken_sets ds s m n x xs t k g may (new_takes {k = j} b free is) =
    (sets_new ds m x j t (may.0 b free) is, may.2 b t)

all_taken : (ds : List Declared) (s : Scope) (xs : List (List ℕ)) (ts : List Ty) (ks : List (Option ℕ))
    → TakeAll s xs ts ks → Sets ds s s ks (map sort_of ts)
all_taken ds s xs ts ks take_none = sets_none ds s (map sort_of ts)
all_taken ds s xs ts ks (take_one {x = x} {xs = others} {t = t} {ts = rest} {k = k} {ks = js} h others_take) =
    sets_then ds s s s k js (sort_of t) (map sort_of rest) (taken_sets ds s x t k h) (all_taken ds s others rest js others_take)

all_taken_new : (ds : List Declared) (s m o : Scope) (xs : List (List ℕ)) (ts : List Ty) (ks : List (Option ℕ))
    → Grows s m → Definable s m xs → TakeAllNew s xs ts m ks o → Sets ds m o ks (map sort_of ts)
all_taken_new ds s m o xs ts ks g may take_none_new = sets_none ds m (map sort_of ts)
all_taken_new ds s m o xs ts ks g may (take_one_new {x = x} {xs = others} {t = t} {ts = rest} {n = n} {k = k} {ks = js} h others_take) =
    let first = new_taken_sets ds s m n x others t k g may h in
    sets_then ds m n o k js (sort_of t) (map sort_of rest) first.0 (all_taken_new ds s n o others rest js (grows_trans s m n g first.0.grown) first.1 others_take)

-- what a statement's names take, in a scope whose names hold values
pub take_all_sorted : (ds : List Declared) (live : List ℕ) (s : Scope) (xs : List (List ℕ)) (ts : List Ty)
    (ks : List (Option ℕ))
    → Live s live → Begins s ds → TakeAll s xs ts ks → AreTargets ds ks (map sort_of ts)
    × Live s (numbers_of ks ++ live)
take_all_sorted ds live s xs ts ks lives begins h =
    let sets = all_taken ds s xs ts ks h in
    (sets.targets begins, sets_live ds s s ks (map sort_of ts) live sets lives)

pub take_all_new_sorted : (ds : List Declared) (live : List ℕ) (s n : Scope) (xs : List (List ℕ)) (ts : List Ty)
    (ks : List (Option ℕ))
    → Live s live → Begins n ds → may_define s xs ≡ true → TakeAllNew s xs ts s ks n
    → AreTargets ds ks (map sort_of ts) × Grows s n × Live n (numbers_of ks ++ live)
take_all_new_sorted ds live s n xs ts ks lives begins may h =
    let sets = all_taken_new ds s s n xs ts ks (grows_self s) (may_define_all s xs may) h in
    (sets.targets begins, sets.grown, sets_live ds s n ks (map sort_of ts) live sets lives)

target_sets : (ds : List Declared) (s n : Scope) (t : Ty) (x : Target) (k : Option ℕ) → IsTarget s t x k n
    → Sets ds s n (k ∷ []) (sort_of t ∷ [])
target_sets ds s n t x k no_target = sets_blank ds s (sort_of t)
target_sets ds s n t x k (old_target {x = y} h) = taken_sets ds s y t k h
target_sets ds s n t x k (new_target {x = y} may h) =
    (new_taken_sets ds s s n y [] t k (grows_self s) (may_define_all s (y ∷ []) may) h).0

pub target_sorted : (ds : List Declared) (live : List ℕ) (s n : Scope) (t : Ty) (x : Target) (k : Option ℕ)
    → Live s live → Begins n ds → IsTarget s t x k n
    → AreTargets ds (k ∷ []) (sort_of t ∷ []) × Grows s n × Live n (numbers_of (k ∷ []) ++ live)
target_sorted ds live s n t x k lives begins h =
    let sets = target_sets ds s n t x k h in
    (sets.targets begins, sets.grown, sets_live ds s n (k ∷ []) (sort_of t ∷ []) live sets lives)
