-- What the checker finds of a statement is what the judgement says.
use Rattle.std.proofs.Common.{◌≡◌, ℕ, true, false, List, [], ◌∷◌, map, refl, ap, sym, ◌∙◌, subst}
use Rattle.std.specs.Prelude.{Option, Some, None}
use Rattle.gr_tree.specs.declared.expr.Direction.{Direction}
use Rattle.gr_tree.specs.Exprs as tree
use Rattle.gr_tree.specs.Exprs.{WrittenType, Tree, Trees}
use Rattle.gr_tree.specs.Statements as statements
use Rattle.gr_tree.specs.Statements.{Simple, Statement, Statements, Clauses}
use Rattle.gr_program.specs.Types.{Ty, BoolType, ChanType}
use Rattle.gr_typing.specs.Types.{type_written, assignable, may_receive}
use Rattle.gr_program.specs.Programs.{zero_of, Expr, Call, Exprs, Act, Assign, AssignReceive, Go, Return, Break, Continue, Opening, Opens, Stmt, Does, Block, If, For, Range, Select, Stmts, stop, then, joined, Cases, no_case, default_case, send_case, receive_case}
use Rattle.gr_program.specs.Programs as terms
use Rattle.gr_typing.specs.Scopes.{Scope, number_of, entered, left, first_where, Signature}
use Rattle.gr_typing.specs.Values.{Made, IsValue, IsCall}
use Rattle.gr_exprs.specs.Finding.{◌>>=◌, where_true, Typed, given, of_kind, as_channel, call_in, value_in, arguments_in}
use Rattle.gr_typing.specs.Acts as act_rules
use Rattle.gr_typing.specs.Assignments as assigning
use Rattle.gr_typing.specs.Statements as rules
use Rattle.gr_typing.specs.Contexts.{Around, Loop, Choice, Context, Within, functions, inside, is_left, is_continued}
use Rattle.gr_typing.specs.Assignments.{may_define, may_declare, all_declared, zeros, TakeAll, TakeAllNew, IsWritten}
use Rattle.gr_typing.specs.Statements.{declares, defaults, at_most_one, IsOpening, IsCondition, IsLoopCondition, IsTarget, IsStatement, IsIfHead, IsBody, AreClauses}
use Rattle.gr_typing.specs.Communications.{IsReceive}
use Rattle.gr_typing.specs.Acts.{Returns, DoesAct}
use Rattle.gr_types.specs.FindingStatements.{in_scope, receives, receive_in, takes, takes_new, send_in, Done, pair_of, assigned, simple_in, returned_in, written_of, var_pair, var_by, go_with, var_zero, act_in, opening_in, post_in, condition_in, loop_condition_in, target_in, all_take, all_take_new, Checked, alone, if_head_in, Parts, for_parts, range_parts, Opened, received_case, comm_in, statement_in, body_in, clauses_in, all_declared_as}
use Rattle.gr_exprs.proofs.Finds.{some_inj, none_some, on_some, on_true, given_sound, truth_sound, channel_is, value_sound, arguments_sound, call_found}
use Rattle.gr_types.proofs.FindsSimple.{on_cond, takes_sound, takes_new_sound, receive_found, send_sound, simple_sound, all_declared_sound, pair_is}

returns_sound : (fs : List Signature) (s : Scope) (result : Option Ty) (e : Option Tree) (p : Option Expr) → returned_in fs s result e ≡ Some p → Returns fs s result e p
unfolding returned_in
returns_sound fs s None None p q = subst (λ p. Returns fs s None None p) (some_inj q) act_rules.returns_nothing
returns_sound fs s None (Some e) p q = none_some q
returns_sound fs s (Some t) None p q = none_some q
returns_sound fs s (Some t) (Some e) p q = on_some (value_in fs s e >>= given t) (λ p. Some (Some p)) p q (λ z iz q.
    on_some (value_in fs s e) (given t) z iz (λ v iv iz. subst (λ p. Returns fs s (Some t) (Some e) p) (some_inj q) (act_rules.returns_value (value_sound fs s e v iv) (given_sound t v z iz))))

pub written_sound : (w : Option WrittenType) (t : Option Ty) → written_of w ≡ Some t → IsWritten w t
written_sound None t q = subst (λ t. IsWritten None t) (some_inj q) assigning.unwritten
written_sound (Some w) t q = on_some (type_written w) (λ t. Some (Some t)) t q (λ u iu q. subst (λ t. IsWritten (Some w) t) (some_inj q) (assigning.is_written iu))

abbrev IsAct : Context → Scope → statements.Act → Done → Type 0
IsAct c s a d = DoesAct c s a d.0 d.1

var_pair_sound : (fs : List Signature) (result : Option Ty) (around : List Around) (s : Scope) (pair : List ℕ × (List ℕ × Tree)) (w : Option WrittenType) (t : Option Ty) (v : Typed) (d : Done) → may_declare s (pair.0 ∷ (pair.1.0 ∷ [])) ≡ true → IsWritten w t → IsReceive fs s pair.1.1 v.0 v.1 → var_pair s pair t v ≡ Some d → IsAct (Within fs result around) s (statements.VarValues (pair.0 ∷ (pair.1.0 ∷ [])) w (tree.more pair.1.1 tree.none)) d
var_pair_sound fs result around s pair None None v d may assigning.unwritten r q = subst (λ d. IsAct (Within fs result around) s (statements.VarValues (pair.0 ∷ (pair.1.0 ∷ [])) None (tree.more pair.1.1 tree.none)) d) (some_inj q) (act_rules.var_receive may r)
var_pair_sound fs result around s pair None (Some u) v d may x r q = elim x [ ]
var_pair_sound fs result around s pair (Some w) None v d may x r q = elim x [ ]
var_pair_sound fs result around s pair (Some w) (Some u) v d may (assigning.is_written is) r q =
    let n : Scope = all_declared s (pair.0 ∷ (pair.1.0 ∷ [])) u in
    on_some (where_true (assignable v.0 u) n) (λ n. where_true (assignable BoolType u) n >>= λ n. Some (AssignReceive (number_of n pair.0) (number_of n pair.1.0) v.1 (zero_of v.0), n)) d q (λ m im q.
    on_true (assignable v.0 u) n m im (λ fits same.
    on_some (where_true (assignable BoolType u) m) (λ n. Some (AssignReceive (number_of n pair.0) (number_of n pair.1.0) v.1 (zero_of v.0), n)) d q (λ o io q.
    on_true (assignable BoolType u) m o io (λ truth again.
    subst (λ d. IsAct (Within fs result around) s (statements.VarValues (pair.0 ∷ (pair.1.0 ∷ [])) (Some w) (tree.more pair.1.1 tree.none)) d)
    (ap (λ n. (AssignReceive (number_of n pair.0) (number_of n pair.1.0) v.1 (zero_of v.0), n)) (same ∙ again) ∙ some_inj q) (act_rules.var_receive_written may is r fits truth)))))

var_case : (fs : List Signature) (result : Option Ty) (around : List Around) (s : Scope) (xs : List (List ℕ)) (w : Option WrittenType) (t : Option Ty) (es : Trees) → may_declare s xs ≡ true → IsWritten w t → (o : Option (List ℕ × (List ℕ × Tree))) → pair_of xs es ≡ o → (d : Done) → var_by fs s xs t es o ≡ Some d → IsAct (Within fs result around) s (statements.VarValues xs w es) d
var_case fs result around s xs w t es may as_written (Some pair) is d q = on_some (receive_in fs s pair.1.1) (var_pair s pair t) d q (λ v iv q.
    let p = pair_is xs es pair is in
    subst (λ xs. IsAct (Within fs result around) s (statements.VarValues xs w es) d) (sym p.0) (subst (λ es. IsAct (Within fs result around) s (statements.VarValues (pair.0 ∷ (pair.1.0 ∷ [])) w es) d) (sym p.1)
    (var_pair_sound fs result around s pair w t v d (subst (λ xs. may_declare s xs ≡ true) p.0 may) as_written (receive_found fs s pair.1.1 v iv) q)))
var_case fs result around s xs w t es may as_written None is d q = on_some (all_declared_as fs s t xs es s) (λ g. Some (assigned g.0, g.1)) d q (λ g ig q.
    subst (λ d. IsAct (Within fs result around) s (statements.VarValues xs w es) d) (some_inj q) (act_rules.var_values may as_written (all_declared_sound fs s t xs es s g ig)))

go_is : (c : Option Ty × Expr) (a : Act) → go_with c ≡ Some a → (k : ℕ) × ((ps : Exprs) × ((c.1 ≡ Call k ps) × (Go k ps ≡ a)))
go_is (r, Call k ps) a q = (k, (ps, (refl, some_inj q)))
go_is (r, terms.Literally l) a q = none_some q
go_is (r, terms.Variable n) a q = none_some q
go_is (r, terms.Unary op p) a q = none_some q
go_is (r, terms.Binary op p z) a q = none_some q
go_is (r, terms.Receive p l) a q = none_some q
go_is (r, terms.Len p) a q = none_some q
go_is (r, terms.Cap p) a q = none_some q
go_is (r, terms.Make) a q = none_some q
go_is (r, terms.MakeSized p) a q = none_some q

go_sound : (fs : List Signature) (result : Option Ty) (around : List Around) (s : Scope) (x : List ℕ) (es : Trees) (d : Done) → (call_in fs s x (arguments_in fs s es) >>= go_with >>= in_scope s) ≡ Some d → IsAct (Within fs result around) s (statements.Go x es) d
go_sound fs result around s x es d q = on_some (call_in fs s x (arguments_in fs s es) >>= go_with) (in_scope s) d q (λ a ia q.
    on_some (call_in fs s x (arguments_in fs s es)) go_with a ia (λ c ic ia.
    let g = go_is c a ia in
    subst (λ d. IsAct (Within fs result around) s (statements.Go x es) d) (ap (λ a. (a, s)) g.1.1.1 ∙ some_inj q)
    (act_rules.go (subst (λ p. IsCall fs s x es c.0 p) g.1.1.0 (call_found fs s x es (arguments_sound fs s es) c ic)))))

pub act_sound : (c : Context) (s : Scope) (a : statements.Act) (d : Done) → act_in c s a ≡ Some d → DoesAct c s a d.0 d.1
unfolding act_in
act_sound (Within fs result around) s (statements.Plain a) d q = act_rules.simple (simple_sound fs s a d q)
act_sound (Within fs result around) s (statements.Var xs w) d q = on_some (where_true (may_declare s xs) xs) (λ xs. type_written w >>= var_zero s xs) d q (λ ys iy q.
    on_true (may_declare s xs) xs ys iy (λ may same.
    on_some (type_written w) (var_zero s ys) d q (λ t it q.
    subst (λ d. IsAct (Within fs result around) s (statements.Var xs w) d) (ap (λ xs. (Assign (map (number_of (all_declared s xs t)) xs) (zeros xs t), all_declared s xs t)) same ∙ some_inj q) (act_rules.var may it))))
act_sound (Within fs result around) s (statements.VarValues xs w es) d q = on_some (where_true (may_declare s xs) xs) (λ xs. written_of w >>= λ t. var_by fs s xs t es (pair_of xs es)) d q (λ ys iy q.
    on_true (may_declare s xs) xs ys iy (λ may same.
    on_some (written_of w) (λ t. var_by fs s ys t es (pair_of ys es)) d q (λ t it q.
    var_case fs result around s xs w t es may (written_sound w t it) (pair_of xs es) refl d (ap (λ xs. var_by fs s xs t es (pair_of xs es)) same ∙ q))))
act_sound (Within fs result around) s (statements.Go x es) d q = go_sound fs result around s x es d q
act_sound (Within fs result around) s (statements.Return e) d q = on_some (returned_in fs s result e) (λ p. in_scope s (Return p)) d q (λ p ip q. subst (λ d. IsAct (Within fs result around) s (statements.Return e) d) (some_inj q) (act_rules.return (returns_sound fs s result e p ip)))
act_sound (Within fs result around) s (statements.Break x) d q = on_some (first_where (is_left x) around) (λ k. in_scope s (Break k)) d q (λ k ik q. subst (λ d. IsAct (Within fs result around) s (statements.Break x) d) (some_inj q) (act_rules.break ik))
act_sound (Within fs result around) s (statements.Continue x) d q = on_some (first_where (is_continued x) around) (λ k. in_scope s (Continue k)) d q (λ k ik q. subst (λ d. IsAct (Within fs result around) s (statements.Continue x) d) (some_inj q) (act_rules.continue ik))

opening_sound : (fs : List Signature) (s : Scope) (h : Option statements.Heading) (o : Option Opening × Scope) → opening_in fs s h ≡ Some o → IsOpening fs s h o.0 o.1
unfolding opening_in
opening_sound fs s None o q = subst (λ o. IsOpening fs s None o.0 o.1) (some_inj q) rules.no_opening
opening_sound fs s (Some (statements.Heads place a)) o q = on_some (simple_in fs s a) (λ d. Some (Some (Opens place d.0), d.1)) o q (λ d id q.
    subst (λ o. IsOpening fs s (Some (statements.Heads place a)) o.0 o.1) (some_inj q) (rules.opening (simple_sound fs s a d id)))

record IsPost (fs : List Signature) (s : Scope) (post : Option statements.Heading) (o : Option Opening × Scope) : Type 0 where
  keeps : declares post ≡ false
  does : IsOpening fs s post o.0 o.1

post_sound : (fs : List Signature) (s : Scope) (post : Option statements.Heading) (o : Option Opening × Scope) → post_in fs s post ≡ Some o → IsPost fs s post o
unfolding post_in
post_sound fs s post o q = on_cond (declares post) None (opening_in fs s post) o q (λ b q. none_some q) (λ b q. record { keeps = b; does = opening_sound fs s post o q })

condition_sound : (fs : List Signature) (s : Scope) (e : Tree) (p : Expr) → condition_in fs s e ≡ Some p → IsCondition fs s e p
unfolding condition_in
condition_sound fs s e p q = on_some (value_in fs s e) (of_kind BoolType) p q (λ v iv q. rules.condition (value_sound fs s e v iv) (truth_sound v p q))

loop_condition_sound : (fs : List Signature) (s : Scope) (e : Option Tree) (p : Option Expr) → loop_condition_in fs s e ≡ Some p → IsLoopCondition fs s e p
unfolding loop_condition_in
loop_condition_sound fs s None p q = subst (λ p. IsLoopCondition fs s None p) (some_inj q) rules.no_condition
loop_condition_sound fs s (Some e) p q = on_some (condition_in fs s e) (λ p. Some (Some p)) p q (λ z iz q. subst (λ p. IsLoopCondition fs s (Some e) p) (some_inj q) (rules.loop_condition (condition_sound fs s e z iz)))

target_sound : (s : Scope) (t : Ty) (x : statements.Target) (k : Option ℕ × Scope) → target_in s t x ≡ Some k → IsTarget s t x k.0 k.1
unfolding target_in
target_sound s t statements.Nothing k q = subst (λ k. IsTarget s t statements.Nothing k.0 k.1) (some_inj q) rules.no_target
target_sound s t (statements.Old x) k q = on_some (takes s x t) (in_scope s) k q (λ j ij q. subst (λ k. IsTarget s t (statements.Old x) k.0 k.1) (some_inj q) (rules.old_target (takes_sound s x t j ij)))
target_sound s t (statements.New x) k q = on_some (where_true (may_define s (x ∷ [])) x) (λ x. takes_new s x t s) k q (λ y iy q.
    on_true (may_define s (x ∷ [])) x y iy (λ may same. rules.new_target may (takes_new_sound s x t s k (ap (λ x. takes_new s x t s) same ∙ q))))

all_take_sound : (s : Scope) (xs : List (List ℕ)) (ts : List Ty) (ks : List (Option ℕ)) → all_take s xs ts ≡ Some ks → TakeAll s xs ts ks
unfolding all_take
all_take_sound s [] ts ks q = subst (λ ks. TakeAll s [] ts ks) (some_inj q) assigning.take_none
all_take_sound s (x ∷ xs) [] ks q = none_some q
all_take_sound s (x ∷ xs) (t ∷ ts) ks q = on_some (takes s x t) (λ k. all_take s xs ts >>= λ ks. Some (k ∷ ks)) ks q (λ k ik q.
    on_some (all_take s xs ts) (λ ks. Some (k ∷ ks)) ks q (λ rest are q.
    subst (λ ks. TakeAll s (x ∷ xs) (t ∷ ts) ks) (some_inj q) (assigning.take_one (takes_sound s x t k ik) (all_take_sound s xs ts rest are))))

all_take_new_sound : (s : Scope) (xs : List (List ℕ)) (ts : List Ty) (m : Scope) (ks : List (Option ℕ) × Scope) → all_take_new s xs ts m ≡ Some ks → TakeAllNew s xs ts m ks.0 ks.1
unfolding all_take_new
all_take_new_sound s [] ts m ks q = subst (λ ks. TakeAllNew s [] ts m ks.0 ks.1) (some_inj q) assigning.take_none_new
all_take_new_sound s (x ∷ xs) [] m ks q = none_some q
all_take_new_sound s (x ∷ xs) (t ∷ ts) m ks q = on_some (takes_new s x t m) (λ k. all_take_new s xs ts k.1 >>= λ ks. Some (k.0 ∷ ks.0, ks.1)) ks q (λ k ik q.
    on_some (all_take_new s xs ts k.1) (λ ks. Some (k.0 ∷ ks.0, ks.1)) ks q (λ rest are q.
    subst (λ ks. TakeAllNew s (x ∷ xs) (t ∷ ts) m ks.0 ks.1) (some_inj q) (assigning.take_one_new (takes_new_sound s x t m k ik) (all_take_new_sound s xs ts k.1 rest are))))

abbrev IsStep : Context → Scope → Option (List ℕ) → Statement → Checked → Type 0
IsStep c s label a d = IsStatement c s label a d.0 d.1

if_head_sound : (c : Context) (s : Scope) (head : statements.IfHead) (h : (Option Opening × Expr) × Scope) → if_head_in (functions c) s head ≡ Some h → IsIfHead c s head h.0.0 h.0.1 h.1
unfolding if_head_in
if_head_sound c s (statements.Test init e) h q = on_some (opening_in (functions c) s init) (λ i. condition_in (functions c) i.1 e >>= λ p. Some ((i.0, p), i.1)) h q (λ i ii q.
    on_some (condition_in (functions c) i.1 e) (λ p. Some ((i.0, p), i.1)) h q (λ p ip q.
    subst (λ h. IsIfHead c s (statements.Test init e) h.0.0 h.0.1 h.1) (some_inj q) (rules.if_head (opening_sound (functions c) s init i ii) (condition_sound (functions c) i.1 e p ip))))

-- the parts of a for
record AreParts (fs : List Signature) (s : Scope) (init : Option statements.Heading) (e : Option Tree) (post : Option statements.Heading) (h : Parts) : Type 0 where
  middle : Scope
  first : IsOpening fs s init h.0.0 middle
  test : IsLoopCondition fs middle e h.0.1.0
  last : IsPost fs middle post (h.0.1.1, h.1)

parts_sound : (fs : List Signature) (s : Scope) (init : Option statements.Heading) (e : Option Tree) (post : Option statements.Heading) (h : Parts) → for_parts fs s init e post ≡ Some h → AreParts fs s init e post h
unfolding for_parts
parts_sound fs s init e post h q = on_some (opening_in fs s init) (λ i. loop_condition_in fs i.1 e >>= λ p. post_in fs i.1 post >>= λ o. Some ((i.0, (p, o.0)), o.1)) h q (λ i ii q.
    on_some (loop_condition_in fs i.1 e) (λ p. post_in fs i.1 post >>= λ o. Some ((i.0, (p, o.0)), o.1)) h q (λ p ip q.
    on_some (post_in fs i.1 post) (λ o. Some ((i.0, (p, o.0)), o.1)) h q (λ o io q.
    subst (λ h. AreParts fs s init e post h) (some_inj q) (record { middle = i.1; first = opening_sound fs s init i ii; test = loop_condition_sound fs i.1 e p ip; last = post_sound fs i.1 post o io }))))

-- the parts of a range
record IsRange (fs : List Signature) (s : Scope) (x : statements.Target) (e : Tree) (h : (Expr × Option ℕ) × Scope) : Type 0 where
  direction : Direction
  element : Ty
  value : IsValue fs s e (Made (ChanType direction element) h.0.0)
  may : may_receive direction ≡ true
  target : IsTarget (entered s) element x h.0.1 h.1

range_sound : (fs : List Signature) (s : Scope) (x : statements.Target) (e : Tree) (h : (Expr × Option ℕ) × Scope) → range_parts fs s x e ≡ Some h → IsRange fs s x e h
unfolding range_parts
range_sound fs s x e h q = on_some (value_in fs s e >>= as_channel >>= receives) (λ w. target_in (entered s) w.0 x >>= λ k. Some ((w.1, k.0), k.1)) h q (λ w iw q.
    on_some (value_in fs s e >>= as_channel) receives w iw (λ c ic iw.
    on_some (value_in fs s e) as_channel c ic (λ v iv ic.
    on_true (may_receive c.0) c.1 w iw (λ may same.
    on_some (target_in (entered s) w.0 x) (λ k. Some ((w.1, k.0), k.1)) h q (λ k ik q.
    subst (λ h. IsRange fs s x e h) (some_inj q) (record {
      direction = c.0;
      element = w.0;
      value = subst (λ w. IsValue fs s e (Made (ChanType c.0 w.0) w.1)) same (subst (λ v. IsValue fs s e v) (channel_is v c ic) (value_sound fs s e v iv));
      may = may;
      target = target_sound (entered s) w.0 x k ik;
    }))))))

-- the clauses of a select, one by one
record IsCase (c : Context) (s : Scope) (communication : statements.Comm) (h : Opened) : Type 0 where
  adds : (body : Statements) (others : Clauses) (steps : Stmts) (rest : Cases) (m n : Scope) → IsBody c h.1 body steps m → AreClauses c (left m) others rest n → AreClauses c s (statements.case communication body others) (h.0 steps rest) n

comm_sound : (c : Context) (s : Scope) (communication : statements.Comm) (h : Opened) → comm_in (functions c) (entered s) communication ≡ Some h → IsCase c s communication h
unfolding comm_in
comm_sound c s (statements.SendTo a e) h q = on_some (send_in (functions c) (entered s) a e) (λ p. Some (send_case p.0 p.1, entered s)) h q (λ p ip q.
    subst (λ h. IsCase c s (statements.SendTo a e) h) (some_inj q) (record { adds = λ body others steps rest m n b k. rules.send_clause (send_sound (functions c) (entered s) a e p ip) b k }))
comm_sound c s (statements.Receive e) h q = on_some (receive_in (functions c) (entered s) e) (λ w. Some (received_case [] w (entered s))) h q (λ w iw q.
    subst (λ h. IsCase c s (statements.Receive e) h) (some_inj q) (record { adds = λ body others steps rest m n b k. rules.receive_clause (receive_found (functions c) (entered s) e w iw) b k }))
comm_sound c s (statements.AssignTo xs e) h q = on_some (receive_in (functions c) (entered s) e) (λ w. all_take (entered s) xs (w.0 ∷ (BoolType ∷ [])) >>= λ ks. Some (received_case ks w (entered s))) h q (λ w iw q.
    on_some (all_take (entered s) xs (w.0 ∷ (BoolType ∷ []))) (λ ks. Some (received_case ks w (entered s))) h q (λ ks iks q.
    subst (λ h. IsCase c s (statements.AssignTo xs e) h) (some_inj q) (record { adds = λ body others steps rest m n b k. rules.assign_clause (receive_found (functions c) (entered s) e w iw) (all_take_sound (entered s) xs (w.0 ∷ (BoolType ∷ [])) ks iks) b k })))
comm_sound c s (statements.DefineAs xs e) h q = on_some (receive_in (functions c) (entered s) e) (λ w. where_true (may_define (entered s) xs) xs >>= λ xs. all_take_new (entered s) xs (w.0 ∷ (BoolType ∷ [])) (entered s) >>= λ ks. Some (received_case ks.0 w ks.1)) h q (λ w iw q.
    on_some (where_true (may_define (entered s) xs) xs) (λ xs. all_take_new (entered s) xs (w.0 ∷ (BoolType ∷ [])) (entered s) >>= λ ks. Some (received_case ks.0 w ks.1)) h q (λ ys iy q.
    on_true (may_define (entered s) xs) xs ys iy (λ may same.
    on_some (all_take_new (entered s) ys (w.0 ∷ (BoolType ∷ [])) (entered s)) (λ ks. Some (received_case ks.0 w ks.1)) h q (λ ks iks q.
    subst (λ h. IsCase c s (statements.DefineAs xs e) h) (some_inj q) (record {
      adds = λ body others steps rest m n b k.
          rules.define_clause (receive_found (functions c) (entered s) e w iw) may (all_take_new_sound (entered s) xs (w.0 ∷ (BoolType ∷ [])) (entered s) ks (ap (λ xs. all_take_new (entered s) xs (w.0 ∷ (BoolType ∷ [])) (entered s)) same ∙ iks)) b k;
    })))))

mutual
  unfolding statement_in

  pub statement_sound : (c : Context) (s : Scope) (label : Option (List ℕ)) (a : Statement) (d : Checked) → statement_in c s label a ≡ Some d → IsStatement c s label a d.0 d.1
  statement_sound c s label (statements.Does place a) d q = on_some (act_in c s a) (λ d. alone (Does place d.0) d.1) d q (λ x ix q. subst (λ d. IsStep c s label (statements.Does place a) d) (some_inj q) (rules.does (act_sound c s a x ix)))
  statement_sound c s label (statements.Block place body) d q = on_some (body_in c (entered s) body) (λ b. alone (Block b.0) (left b.1)) d q (λ b ib q. subst (λ d. IsStep c s label (statements.Block place body) d) (some_inj q) (rules.block (body_sound c (entered s) body b ib)))
  statement_sound c s label (statements.If place head body) d q =
      on_some (if_head_in (functions c) (entered s) head) (λ h. body_in c (entered h.1) body >>= λ b. alone (If place h.0.0 h.0.1 b.0 stop) (left (left b.1))) d q (λ h ih q.
      on_some (body_in c (entered h.1) body) (λ b. alone (If place h.0.0 h.0.1 b.0 stop) (left (left b.1))) d q (λ b ib q.
      subst (λ d. IsStep c s label (statements.If place head body) d) (some_inj q) (rules.if (if_head_sound c (entered s) head h ih) (body_sound c (entered h.1) body b ib))))
  statement_sound c s label (statements.IfElse place head body otherwise) d q =
      on_some (if_head_in (functions c) (entered s) head) (λ h. body_in c (entered h.1) body >>= λ b. body_in c (entered (left b.1)) otherwise >>= λ o. alone (If place h.0.0 h.0.1 b.0 o.0) (left (left o.1))) d q (λ h ih q.
      on_some (body_in c (entered h.1) body) (λ b. body_in c (entered (left b.1)) otherwise >>= λ o. alone (If place h.0.0 h.0.1 b.0 o.0) (left (left o.1))) d q (λ b ib q.
      on_some (body_in c (entered (left b.1)) otherwise) (λ o. alone (If place h.0.0 h.0.1 b.0 o.0) (left (left o.1))) d q (λ o io q.
      subst (λ d. IsStep c s label (statements.IfElse place head body otherwise) d) (some_inj q) (rules.if_else (if_head_sound c (entered s) head h ih) (body_sound c (entered h.1) body b ib) (body_sound c (entered (left b.1)) otherwise o io)))))
  statement_sound c s label (statements.IfElseIf place head body otherwise) d q =
      on_some (if_head_in (functions c) (entered s) head) (λ h. body_in c (entered h.1) body >>= λ b. statement_in c (left b.1) None otherwise >>= λ o. alone (If place h.0.0 h.0.1 b.0 o.0) (left o.1)) d q (λ h ih q.
      on_some (body_in c (entered h.1) body) (λ b. statement_in c (left b.1) None otherwise >>= λ o. alone (If place h.0.0 h.0.1 b.0 o.0) (left o.1)) d q (λ b ib q.
      on_some (statement_in c (left b.1) None otherwise) (λ o. alone (If place h.0.0 h.0.1 b.0 o.0) (left o.1)) d q (λ o io q.
      subst (λ d. IsStep c s label (statements.IfElseIf place head body otherwise) d) (some_inj q) (rules.if_else_if (if_head_sound c (entered s) head h ih) (body_sound c (entered h.1) body b ib) (statement_sound c (left b.1) None otherwise o io)))))
  statement_sound c s label (statements.For place (statements.Loop init e post) body) d q =
      on_some (for_parts (functions c) (entered s) init e post) (λ h. body_in (inside (Loop label) c) (entered h.1) body >>= λ b. alone (For place h.0.0 h.0.1.0 h.0.1.1 b.0) (left (left b.1))) d q (λ h ih q.
      on_some (body_in (inside (Loop label) c) (entered h.1) body) (λ b. alone (For place h.0.0 h.0.1.0 h.0.1.1 b.0) (left (left b.1))) d q (λ b ib q.
      let p = parts_sound (functions c) (entered s) init e post h ih in
      subst (λ d. IsStep c s label (statements.For place (statements.Loop init e post) body) d) (some_inj q) (rules.for p.first p.test p.last.keeps p.last.does (body_sound (inside (Loop label) c) (entered h.1) body b ib))))
  statement_sound c s label (statements.For place (statements.Range x e) body) d q =
      on_some (range_parts (functions c) s x e) (λ h. body_in (inside (Loop label) c) (entered h.1) body >>= λ b. alone (Range place h.0.1 h.0.0 b.0) (left (left b.1))) d q (λ h ih q.
      on_some (body_in (inside (Loop label) c) (entered h.1) body) (λ b. alone (Range place h.0.1 h.0.0 b.0) (left (left b.1))) d q (λ b ib q.
      let p = range_sound (functions c) s x e h ih in
      subst (λ d. IsStep c s label (statements.For place (statements.Range x e) body) d) (some_inj q) (rules.range p.value p.may p.target (body_sound (inside (Loop label) c) (entered h.1) body b ib))))
  statement_sound c s label (statements.Select place clauses) d q =
      on_some (where_true (at_most_one (defaults clauses)) s) (λ s. clauses_in (inside (Choice label) c) s clauses >>= λ k. alone (Select place k.0) k.1) d q (λ r ir q.
      on_true (at_most_one (defaults clauses)) s r ir (λ one same.
      on_some (clauses_in (inside (Choice label) c) r clauses) (λ k. alone (Select place k.0) k.1) d q (λ k ik q.
      subst (λ d. IsStep c s label (statements.Select place clauses) d) (some_inj q) (rules.select one (clauses_sound (inside (Choice label) c) s clauses k (ap (λ s. clauses_in (inside (Choice label) c) s clauses) same ∙ ik))))))
  statement_sound c s label (statements.Label place x statement) d q = rules.label (statement_sound c s (Some x) statement d q)
  statement_sound c s label (statements.EmptyLabel place x) d q = subst (λ d. IsStep c s label (statements.EmptyLabel place x) d) (some_inj q) rules.empty_label

  pub body_sound : (c : Context) (s : Scope) (body : Statements) (d : Checked) → body_in c s body ≡ Some d → IsBody c s body d.0 d.1
  body_sound c s statements.end d q = subst (λ d. IsBody c s statements.end d.0 d.1) (some_inj q) rules.ends
  body_sound c s (statements.then first others) d q =
      on_some (statement_in c s None first) (λ a. body_in c a.1 others >>= λ b. Some (joined a.0 b.0, b.1)) d q (λ a ia q.
      on_some (body_in c a.1 others) (λ b. Some (joined a.0 b.0, b.1)) d q (λ b ib q.
      subst (λ d. IsBody c s (statements.then first others) d.0 d.1) (some_inj q) (rules.next (statement_sound c s None first a ia) (body_sound c a.1 others b ib))))

  pub clauses_sound : (c : Context) (s : Scope) (clauses : Clauses) (d : Cases × Scope) → clauses_in c s clauses ≡ Some d → AreClauses c s clauses d.0 d.1
  clauses_sound c s statements.closed d q = subst (λ d. AreClauses c s statements.closed d.0 d.1) (some_inj q) rules.no_clause
  clauses_sound c s (statements.default body others) d q =
      on_some (body_in c (entered s) body) (λ b. clauses_in c (left b.1) others >>= λ k. Some (default_case b.0 k.0, k.1)) d q (λ b ib q.
      on_some (clauses_in c (left b.1) others) (λ k. Some (default_case b.0 k.0, k.1)) d q (λ k ik q.
      subst (λ d. AreClauses c s (statements.default body others) d.0 d.1) (some_inj q) (rules.default_clause (body_sound c (entered s) body b ib) (clauses_sound c (left b.1) others k ik))))
  clauses_sound c s (statements.case communication body others) d q =
      on_some (comm_in (functions c) (entered s) communication) (λ h. body_in c h.1 body >>= λ b. clauses_in c (left b.1) others >>= λ k. Some (h.0 b.0 k.0, k.1)) d q (λ h ih q.
      on_some (body_in c h.1 body) (λ b. clauses_in c (left b.1) others >>= λ k. Some (h.0 b.0 k.0, k.1)) d q (λ b ib q.
      on_some (clauses_in c (left b.1) others) (λ k. Some (h.0 b.0 k.0, k.1)) d q (λ k ik q.
      subst (λ d. AreClauses c s (statements.case communication body others) d.0 d.1) (some_inj q) ((comm_sound c s communication h ih).adds body others b.0 k.0 b.1 k.1 (body_sound c h.1 body b ib) (clauses_sound c (left b.1) others k ik)))))
