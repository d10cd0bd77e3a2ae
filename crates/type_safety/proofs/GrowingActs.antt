-- Scopes grow by what acts declare.
use Rattle.std.proofs.Common.{ℕ, List, [], ◌∷◌, Option}
use Rattle.gr_tree.specs.Exprs as written
use Rattle.gr_tree.specs.Statements as statements
use Rattle.gr_program.specs.Types.{Ty, BoolType}
use Rattle.gr_program.specs.Programs.{Expr, Exprs, Act, Opening}
use Rattle.gr_typing.specs.Scopes.{Scope, Signature, declared}
use Rattle.gr_typing.specs.Values.{Value}
use Rattle.gr_typing.specs.Assignments as assignments
use Rattle.gr_typing.specs.Statements as judged
use Rattle.gr_typing.specs.SimpleStatements as simples
use Rattle.gr_typing.specs.Acts as acts
use Rattle.gr_typing.specs.Contexts.{Context}
use Rattle.gr_typing.specs.Assignments.{IsDefined, AreDefined, AreDeclared, TakesNew, TakeAllNew, all_declared}
use Rattle.gr_typing.specs.SimpleStatements.{DoesSimple}
use Rattle.gr_typing.specs.Acts.{DoesAct}
use Rattle.gr_typing.specs.Statements.{IsOpening, IsTarget}
use Rattle.type_safety.proofs.Promises.{Grows}
use Rattle.type_safety.proofs.Growing.{grows_self, grows_trans, declare_grows, declared_grows}

defined_grows : (s m n : Scope) (x : List ℕ) (v : Value) (k : Option ℕ) (p : Expr) → IsDefined s x v m k p n
    → Grows m n
defined_grows s m n x v k p (assignments.blank b is) = grows_self m
defined_grows s m n x v k p (assignments.old here h fits) = grows_self m
defined_grows s m n x v k p (assignments.new {t = t} b free is named) = declare_grows m x t

all_defined_grows : (fs : List Signature) (s m o : Scope) (xs : List (List ℕ)) (es : written.Trees)
    (ks : List (Option ℕ)) (ps : Exprs) → AreDefined fs s xs es m ks ps o → Grows m o
all_defined_grows fs s m o xs es ks ps assignments.no_defined = grows_self m
all_defined_grows fs s m o xs es ks ps (assignments.defined {x = x} {xs = ys} {es = ds} {v = v} {n = n} {k = k} {ks = js} {p = p} {ps = qs} h is rest) =
    grows_trans m n o (defined_grows s m n x v k p is) (all_defined_grows fs s n o ys ds js qs rest)

values_grow : (fs : List Signature) (s : Scope) (type : Option Ty) (m o : Scope) (xs : List (List ℕ))
    (es : written.Trees) (ks : List (Option ℕ)) (ps : Exprs) → AreDeclared fs s type xs es m ks ps o → Grows m o
values_grow fs s type m o xs es ks ps assignments.no_declared = grows_self m
values_grow fs s type m o xs es ks ps (assignments.one_declared {x = x} {xs = ys} {es = ds} {t = t} {ks = js} {ps = qs} h is rest) =
    grows_trans m (declared m x t) o (declared_grows m x t) (values_grow fs s type (declared m x t) o ys ds js qs rest)

all_declared_grows : (m : Scope) (xs : List (List ℕ)) (t : Ty) → Grows m (all_declared m xs t)
all_declared_grows m [] t = grows_self m
all_declared_grows m (x ∷ xs) t =
    grows_trans m (declared m x t) (all_declared (declared m x t) xs t) (declared_grows m x t)
    (all_declared_grows (declared m x t) xs t)

taken_grows : (s m n : Scope) (x : List ℕ) (t : Ty) (k : Option ℕ) → TakesNew s x t m k n → Grows m n
taken_grows s m n x t k (assignments.blank_new b) = grows_self m
taken_grows s m n x t k (assignments.old_takes here h may) = grows_self m
taken_grows s m n x t k (assignments.new_takes b free named) = declare_grows m x t

pub take_all_new_grows : (s m o : Scope) (xs : List (List ℕ)) (ts : List Ty) (ks : List (Option ℕ))
    → TakeAllNew s xs ts m ks o → Grows m o
take_all_new_grows s m o xs ts ks assignments.take_none_new = grows_self m
take_all_new_grows s m o xs ts ks (assignments.take_one_new {x = x} {xs = ys} {t = t} {ts = us} {n = n} {k = k} {ks = js} h rest) =
    grows_trans m n o (taken_grows s m n x t k h) (take_all_new_grows s n o ys us js rest)

pub target_grows : (s n : Scope) (t : Ty) (x : statements.Target) (k : Option ℕ) → IsTarget s t x k n → Grows s n
target_grows s n t x k judged.no_target = grows_self s
target_grows s n t x k (judged.old_target h) = grows_self s
target_grows s n t x k (judged.new_target {x = y} may h) = taken_grows s s n y t k h

pub simple_grows : (fs : List Signature) (s n : Scope) (a : statements.Simple) (b : Act) → DoesSimple fs s a b n
    → Grows s n
simple_grows fs s n a b (simples.defines {xs = xs} {es = es} {ks = ks} {ps = ps} may h) =
    all_defined_grows fs s s n xs es ks ps h
simple_grows fs s n a b (simples.defines_receive {x = x} {y = y} {t = t} {k = k} {l = l} {m = m} may h first second) =
    grows_trans s m n (taken_grows s s m x t k first) (taken_grows s m n y BoolType l second)
simple_grows fs s n a b (simples.runs h) = grows_self s
simple_grows fs s n a b (simples.sends h) = grows_self s
simple_grows fs s n a b (simples.assigns h) = grows_self s
simple_grows fs s n a b (simples.assigns_receive h first second) = grows_self s
simple_grows fs s n a b (simples.updates h is of typed may) = grows_self s
simple_grows fs s n a b (simples.increments h) = grows_self s
simple_grows fs s n a b (simples.decrements h) = grows_self s

pub opening_grows : (fs : List Signature) (s n : Scope) (heading : Option statements.Heading) (init : Option Opening)
    → IsOpening fs s heading init n → Grows s n
opening_grows fs s n heading init judged.no_opening = grows_self s
opening_grows fs s n heading init (judged.opening {a = a} {b = b} h) = simple_grows fs s n a b h

pub act_grows : (c : Context) (s n : Scope) (a : statements.Act) (b : Act) → DoesAct c s a b n → Grows s n
act_grows c s n a b (acts.simple {fs = fs} {a = simple} h) = simple_grows fs s n simple b h
act_grows c s n a b (acts.var {xs = xs} {t = t} may type) = all_declared_grows s xs t
act_grows c s n a b (acts.var_values {fs = fs} {xs = xs} {t = t} {es = es} {ks = ks} {ps = ps} may type h) =
    values_grow fs s t s n xs es ks ps h
act_grows c s n a b (acts.var_receive {x = x} {y = y} {t = t} may h) =
    grows_trans s (declared s x t) n (declared_grows s x t) (declared_grows (declared s x t) y BoolType)
act_grows c s n a b (acts.var_receive_written {x = x} {y = y} {u = u} may type h first second) =
    all_declared_grows s (x ∷ y ∷ []) u
act_grows c s n a b (acts.go h) = grows_self s
act_grows c s n a b (acts.return h) = grows_self s
act_grows c s n a b (acts.break e) = grows_self s
act_grows c s n a b (acts.continue e) = grows_self s
