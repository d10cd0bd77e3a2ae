-- Acts that the checker takes: what stands for them in a program has its sorts, and the scope grows by their declarations.
use Rattle.std.proofs.Common.{◌≡◌, ℕ, pos, Bool, true, false, List, [], ◌∷◌, map, Option, refl, sym, subst, true≢false}
use Rattle.gr_tree.specs.declared.expr.BinaryOp.{BinaryOp}
use Rattle.gr_tree.specs.declared.expr.BinaryOp.TheVariants as binaries
use Rattle.gr_tree.specs.Exprs as written
use Rattle.gr_tree.specs.Statements as statements
use Rattle.gr_program.specs.Types.{Ty, IntType, BoolType, ChanType}
use Rattle.gr_program.specs.Programs as program
use Rattle.gr_program.specs.Programs.{zero_of, Expr, Exprs, Printed, PrintExpr, Act, Assign, AssignReceive, Update, Eval, Go, Return, Opening, Opens}
use Rattle.gr_typing.specs.Scopes.{Scope, declared, number_of}
use Rattle.gr_typing.specs.Values as rules
use Rattle.gr_typing.specs.Values.{Made, IsValue, IsCall, HasType, binary_type}
use Rattle.gr_typing.specs.SimpleStatements as simples
use Rattle.gr_typing.specs.Acts as acts
use Rattle.gr_typing.specs.Statements as judged
use Rattle.gr_typing.specs.Assignments.{HasVariable, all_declared, zeros, may_declare}
use Rattle.gr_typing.specs.Communications.{IsReceive, IsSend}
use Rattle.gr_typing.specs.SimpleStatements.{ArePrinted, Runs, DoesSimple}
use Rattle.gr_typing.specs.Acts.{Returns, DoesAct}
use Rattle.gr_typing.specs.Statements.{IsOpening}
use Rattle.gr_rules.specs.Operands.{operand_of}
use Rattle.gr_rules.specs.Points.{pieces_of, printed_operands}
use Rattle.type_safety.proofs.Sorts as sorts
use Rattle.type_safety.proofs.Sorts.{Sort, IntSort, BoolSort, ChanSort, sort_of, result_sort, nothing_made, is_arithmetic, Setting, SortedOperand, SortedOperands, AreTargets, numbers_of}
use Rattle.type_safety.proofs.Bodies as bodies
use Rattle.type_safety.proofs.Bodies.{Nest, ArePieces, no_piece, text_piece, value_piece, SortedAct, after_act, after_opening, SortedOpening}
use Rattle.type_safety.proofs.Promises.{Live, Begins, Grows, ActSorted}
use Rattle.type_safety.proofs.CheckedExprs.{assignable_sort, zero_sorted, arithmetic_of, typed_sorted, fitting_sorted, arguments_sorted, receive_sorted, send_sorted, variable_sorted, variable_live}
use Rattle.type_safety.proofs.DeclaredNames.{may_all}
use Rattle.type_safety.proofs.Growing.{grows_self, begins_back}
use Rattle.type_safety.proofs.NewVariables.{Sets, sets_live, sets_then, all_sets, both_set, may_define_all}
use Rattle.type_safety.proofs.TakenValues.{taken_sets, new_taken_sets}
use Rattle.type_safety.proofs.GivenValues.{zeros_sorted, AllGive, all_given, all_defined, values_declared}

module _ (d : Setting) (nests : List Nest) (live : List ℕ) (s : Scope) (lives : Live s live) where
  -- a sorted act, after which the names of the scope stand for variables that hold values
  abbrev Acts : Scope → Act → Bool → Type 0
  Acts n b z = SortedAct d nests live b z × Grows s n × Live n (after_act b live)

  -- an act that gives no variable its first value
  stays : (b : Act) (z : Bool) → after_act b live ≡ live → SortedAct d nests live b z → Acts s b z
  stays b z same h = (h, grows_self s, subst (Live s) (sym same) lives)

  assigned : (n : Scope) (ks : List (Option ℕ)) (ps : Exprs) → Begins n d.variables → AllGive d live s s n ks ps
      → Acts n (Assign ks ps) true
  assigned n ks ps begins h = (
    bodies.assigns (h.1.targets begins) (h.2 lives (begins_back s n d.variables h.1.grown begins)),
    h.1.grown,
    sets_live d.variables s n ks h.0 live h.1 lives,
  )

  received : (n : Scope) (e : written.Tree) (t : Ty) (p : Expr) (k l : Option ℕ) → Begins n d.variables
      → IsReceive d.functions s e t p → Sets d.variables s n (k ∷ l ∷ []) (sort_of t ∷ BoolSort ∷ [])
      → Acts n (AssignReceive k l p (zero_of t)) true
  received n e t p k l begins h sets = (
    bodies.assigns_receive (receive_sorted d live s e t p lives (begins_back s n d.variables sets.grown begins) h) (zero_sorted nothing_made t) (sets.targets begins),
    sets.grown,
    sets_live d.variables s n (k ∷ l ∷ []) (sort_of t ∷ BoolSort ∷ []) live sets lives,
  )

  module _ (begins : Begins s d.variables) where
    updated : (x : List ℕ) (k : ℕ) (op : BinaryOp) (p : Expr) → HasVariable s x k IntType → is_arithmetic op ≡ true
        → SortedOperand d nothing_made live (operand_of p) IntSort → Acts s (Update k op p) true
    updated x k op p h arithmetic sorted = stays (Update k op p) true refl
        (bodies.updates (variable_sorted d.variables s x k IntType begins h)
        (variable_live live s x k IntType lives h) arithmetic sorted)

    -- pieces to print, and their values
    abbrev Prints : List Printed → Type 0
    Prints ps =
        (ks : List Sort) × ArePieces (pieces_of ps) ks × SortedOperands d nothing_made live (printed_operands ps) ks

    one_printed : (p : Expr) (ps : List Printed) (k : Sort) → SortedOperand d nothing_made live (operand_of p) k
        → Prints ps → Prints (PrintExpr p ∷ ps)
    one_printed p ps k h rest = (k ∷ rest.0, value_piece rest.1, sorts.one_operand h rest.2)

    printed_sorted : (es : written.Trees) (ps : List Printed) → ArePrinted d.functions s es ps → Prints ps
    printed_sorted es ps simples.nothing_printed = ([], no_piece, sorts.no_operand)
    printed_sorted es ps (simples.text_printed {es = others} {ps = rest} h) =
        let r = printed_sorted others rest h in
        (r.0, text_piece r.1, r.2)
    printed_sorted es ps (simples.int_printed {e = e} {es = others} {v = v} {p = p} {ps = rest} h is others_are) =
        one_printed p rest IntSort (typed_sorted d live s e v IntType p lives begins h is) (printed_sorted others rest others_are)
    printed_sorted es ps (simples.truth_printed {e = e} {es = others} {v = v} {p = p} {ps = rest} h is others_are) =
        one_printed p rest BoolSort (typed_sorted d live s e v BoolType p lives begins h is) (printed_sorted others rest others_are)

    ran_call : (x : List ℕ) (es : written.Trees) (r : Option Ty) (p : Expr) → IsCall d.functions s x es r p
        → Acts s (Eval p) true
    ran_call x es r p (rules.calls {k = k} {ps = ps} free at is h) =
        stays (Eval (program.Call k ps)) true refl (bodies.calls (sorts.call is (arguments_sorted d live s lives begins h)))

    ran : (e : written.Tree) (b : Act) → Runs d.functions s e b → Acts s b true
    ran e b (simples.run_paren {e = inner} h) = ran inner b h
    ran e b (simples.run_receive {e = inner} {t = t} {p = p} h) = stays b true refl
        (bodies.receives (sorts.receive (receive_sorted d live s e t p lives begins h) (zero_sorted nothing_made t)))
    ran e b (simples.run_call {x = x} {es = es} {result = r} {p = p} h) = ran_call x es r p h
    ran e b (simples.run_close {e = inner} {d = direction} {t = t} {p = p} h name g may) = stays b true refl
        (bodies.closes
        (typed_sorted d live s inner (Made (ChanType direction t) p)
        (ChanType direction t) p lives begins g rules.has_made))
    ran e b (simples.run_print {es = es} {ps = ps} h name g) =
        let r = printed_sorted es ps g in
        stays b true refl (bodies.prints r.1 r.2)

    returned : (result : Option Ty) (z : Bool) (e : Option written.Tree) (p : Option Expr) → d.result ≡ result
        → Returns d.functions s result e p → Acts s (Return p) z
    returned result z e p same acts.returns_nothing = stays (Return p) z refl (bodies.returns same)
    returned result z e p same (acts.returns_value {t = t} {e = value} {v = v} {p = q} h fits) =
        stays (Return p) z refl (bodies.returns_value same (fitting_sorted d live s value v t q lives begins h fits))

    gone : (x : List ℕ) (es : written.Trees) (r : Option Ty) (k : ℕ) (ps : Exprs)
        → IsCall d.functions s x es r (program.Call k ps) → Acts s (Go k ps) true
    gone x es r k ps (rules.calls free at is h) =
        stays (Go k ps) true refl (bodies.goes is (arguments_sorted d live s lives begins h))

    sent : (c e : written.Tree) (p q : Expr) → IsSend d.functions s c e p q → Acts s (program.Send p q) true
    sent c e p q h =
        let w = send_sorted d live s c e p q lives begins h in
        stays (program.Send p q) true refl (bodies.sends w.1 w.2)

  var_set : (xs : List (List ℕ)) (t : Ty) → may_declare s xs ≡ true
      → AllGive d live s s (all_declared s xs t) (map (number_of (all_declared s xs t)) xs) (zeros xs t)
  var_set xs t may = (
    map (λ x. sort_of t) xs,
    all_sets d.variables s xs t (may_all s xs may),
    λ lives begins. zeros_sorted d live xs t,
  )

  -- two names declared by a receive, with the types of what it gives or with the type that is written
  var_received : (x y : List ℕ) (e : written.Tree) (t u w : Ty) (p : Expr) → may_declare s (x ∷ y ∷ []) ≡ true
      → IsReceive d.functions s e t p
      → sort_of u ≡ sort_of t → sort_of w ≡ BoolSort
      → let n = declared (declared s x u) y w in Begins n d.variables
      → Acts n (AssignReceive (number_of n x) (number_of n y) p (zero_of t)) true
  var_received x y e t u w p may h first second begins =
      let n = declared (declared s x u) y w in
      let sets = both_set d.variables s x y u w (may_all s (x ∷ y ∷ []) may) in
      received n e t p (number_of n x) (number_of n y) begins h
      (subst (λ k. Sets d.variables s n (number_of n x ∷ number_of n y ∷ []) (sort_of t ∷ k ∷ [])) second
      (subst (λ k. Sets d.variables s n (number_of n x ∷ number_of n y ∷ []) (k ∷ sort_of w ∷ [])) first sets))

  -- an act that is no `return`
  acts_on : (n : Scope) (b : Act) (z : Bool) → (z ≡ false → false ≡ true) → Acts n b true → Acts n b z
  acts_on n b true only h = h
  acts_on n b false only h = absurd (true≢false (sym (only refl)))

  simple_acts : (n : Scope) (a : statements.Simple) (b : Act) → DoesSimple d.functions s a b n → Begins n d.variables
      → Acts n b true
  simple_acts n a b (simples.runs {e = e} h) begins = ran begins e b h
  simple_acts n a b (simples.sends {c = c} {e = e} {p = p} {q = q} h) begins = sent begins c e p q h
  simple_acts n a b (simples.assigns {xs = xs} {es = es} {ks = ks} {ps = ps} h) begins =
      assigned s ks ps begins (all_given d live s xs es ks ps h)
  simple_acts n a b (simples.assigns_receive {x = x} {y = y} {e = e} {t = t} {p = p} {k = k} {l = l} h first second) begins =
      received s e t p k l begins h
      (sets_then d.variables s s s k (l ∷ []) (sort_of t) (BoolSort ∷ []) (taken_sets d.variables s x t k first)
      (taken_sets d.variables s y BoolType l second))
  simple_acts n a b (simples.defines {xs = xs} {es = es} {ks = ks} {ps = ps} may h) begins =
      assigned n ks ps begins (all_defined d live s xs es s n ks ps (grows_self s) (may_define_all s xs may) h)
  simple_acts n a b (simples.defines_receive {x = x} {y = y} {e = e} {t = t} {p = p} {k = k} {l = l} {m = m} may h first second) begins =
      let one =
      new_taken_sets d.variables s s m x (y ∷ []) t k (grows_self s) (may_define_all s (x ∷ y ∷ []) may) first in
      let two = new_taken_sets d.variables s m n y [] BoolType l one.0.grown one.1 second in
      received n e t p k l begins h (sets_then d.variables s m n k (l ∷ []) (sort_of t) (BoolSort ∷ []) one.0 two.0)
  simple_acts n a b (simples.updates {x = x} {op = op} {e = e} {v = v} {k = k} {p = p} variable h is typed may) begins =
      updated begins x k op p variable (arithmetic_of op typed) (typed_sorted d live s e v IntType p lives begins h is)
  simple_acts n a b (simples.increments {x = x} {k = k} variable) begins =
      updated begins x k binaries.Add (program.Literally (program.Number (pos 1))) variable refl (sorts.done sorts.has_int)
  simple_acts n a b (simples.decrements {x = x} {k = k} variable) begins =
      updated begins x k binaries.Subtract (program.Literally (program.Number (pos 1))) variable refl (sorts.done sorts.has_int)

pub opening_sorted : (d : Setting) (nests : List Nest) (live : List ℕ) (s n : Scope)
    (heading : Option statements.Heading) (init : Option Opening)
    → Live s live → Begins n d.variables → IsOpening d.functions s heading init n
    → SortedOpening d nests live init × Grows s n × Live n (after_opening init live)
opening_sorted d nests live s n heading init lives begins judged.no_opening = (bodies.no_opening, grows_self s, lives)
opening_sorted d nests live s n heading init lives begins (judged.opening {a = a} {b = b} h) =
    let w = simple_acts d nests live s lives n a b h begins in (bodies.opening w.0, w.1, w.2)

pub act_sorted : ActSorted
act_sorted d nests live around s n a b z (acts.simple {a = simple} h) straight only lives begins =
    acts_on d nests live s lives n b z only (simple_acts d nests live s lives n simple b h begins)
act_sorted d nests live around s n a b z (acts.var {xs = xs} {t = t} may type) straight only lives begins =
    acts_on d nests live s lives n b z only
    (assigned d nests live s lives n (map (number_of n) xs) (zeros xs t) begins
    (var_set d nests live s lives xs t may))
act_sorted d nests live around s n a b z (acts.var_values {xs = xs} {t = t} {es = es} {ks = ks} {ps = ps} may type h) straight only lives begins =
    acts_on d nests live s lives n b z only
    (assigned d nests live s lives n ks ps begins (values_declared d live s t xs es s n ks ps (may_all s xs may) h))
act_sorted d nests live around s n a b z (acts.var_receive {x = x} {y = y} {e = e} {t = t} {p = p} may h) straight only lives begins =
    acts_on d nests live s lives n b z only (var_received d nests live s lives x y e t t BoolType p may h refl refl begins)
act_sorted d nests live around s n a b z (acts.var_receive_written {x = x} {y = y} {e = e} {t = t} {u = u} {p = p} may type h first second) straight only lives begins =
    acts_on d nests live s lives n b z only
    (var_received d nests live s lives x y e t u u p may h (sym (assignable_sort t u first))
    (sym (assignable_sort BoolType u second)) begins)
act_sorted d nests live around s n a b z (acts.go {x = x} {es = es} {r = r} {k = k} {ps = ps} h) straight only lives begins =
    acts_on d nests live s lives n b z only (gone d nests live s lives begins x es r k ps h)
act_sorted d nests live around s n a b z (acts.return {e = e} {p = p} h) straight only lives begins =
    returned d nests live s lives begins d.result z e p refl h
act_sorted d nests live around s n a b z (acts.break e) straight only lives begins =
    absurd (true≢false (sym straight))
act_sorted d nests live around s n a b z (acts.continue e) straight only lives begins =
    absurd (true≢false (sym straight))
