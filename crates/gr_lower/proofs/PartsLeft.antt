-- The code of operands is read off them: contexts of parts, and what is left.
use Rattle.std.proofs.Common.{◌≡◌, ℕ, zero, suc, ◌+◌, Bool, true, false, List, [], ◌∷◌, ◌++◌, length, Some, refl, ap, ◌∙◌, subst, arith, length-append}
use Rattle.std.specs.Prelude.{if◌then◌else◌, unwrap_or}
use Rattle.gr_tree.specs.declared.expr.UnaryOp.{UnaryOp}
use Rattle.gr_tree.specs.declared.expr.BinaryOp.{BinaryOp}
use Rattle.gr_base.specs.declared.values.Value.{Value}
use Rattle.gr_rules.specs.Operators.{settles}
use Rattle.gr_rules.specs.Operands.{Operand, Done, Variable, Unary, Binary, Receive, Call, Len, Cap, Make, Decided, Operands, nothing, also, one}
use Rattle.gr_rules.specs.Parts.{Ask, Calls, Receives, CountsItems, CountsPlaces, Decides, Next, Plain, Asks, within, on_right, is_logical, next, next_of}
use Rattle.gr_rules.specs.Parts as ask
use Rattle.gr_code.specs.Plugging.{plug, plug_all}
use Rattle.gr_code.specs.Passing.{parts, parts_in, with_decision, passed_by, passed_by_in}
use Rattle.gr_code.specs.Instructions.{Instruction, Part, Decide}
use Rattle.gr_lower.specs.PartCode.{decides, left_binary, left, left_in, right_code, then_part, code, code_in}
use Rattle.gr_lower.specs.StatementPoints.{plugged_again}
use Rattle.gr_lower.proofs.PartsRead.{done, reads, instruction_for, join, lift, same_end, HasPart, has_part, single, ReadsOne, ReadsAll, PlainOne, PlainAll, OneInOne, OneInAll, AllInOne, AllInAll}

in_unary : (op : UnaryOp) → OneInOne (Unary op)
in_unary op = record { asks = λ a ask k e. rw e refl; plugs = λ d a b e. rw e refl; passes = λ a m e. rw e refl }

in_left : (op : BinaryOp) (b : Operand) → OneInOne (λ x. Binary op x b)
in_left op b = record { asks = λ a ask k e. rw e refl; plugs = λ d a c e. rw e refl; passes = λ a m e. rw e refl }

in_right : (op : BinaryOp) (x : Operand) → PlainOne x → is_logical op ≡ false → OneInOne (Binary op x)
in_right op x p l = record {
  asks = λ a ask k e. rw (p.asks, e, l) refl;
  plugs = λ d a c e. rw (p.plugs d, e, l) refl;
  passes = λ a m e. rw (p.passes, e, l) refl;
}

in_decided : (op : BinaryOp) (d : ℕ) → OneInOne (Decided op d)
in_decided op x = record { asks = λ a ask k e. rw e refl; plugs = λ d a c e. rw e refl; passes = λ a m e. rw e refl }

in_receive : (initial : Value) → OneInOne (λ x. Receive x initial)
in_receive initial = record { asks = λ a ask k e. rw e refl; plugs = λ d a c e. rw e refl; passes = λ a m e. rw e refl }

in_call : (f : ℕ) → AllInOne (Call f)
in_call f = record { asks = λ a ask k e. rw e refl; plugs = λ d a c e. rw e refl; passes = λ a m e. rw e refl }

in_len : OneInOne Len
in_len = record { asks = λ a ask k e. rw e refl; plugs = λ d a c e. rw e refl; passes = λ a m e. rw e refl }

in_cap : OneInOne Cap
in_cap = record { asks = λ a ask k e. rw e refl; plugs = λ d a c e. rw e refl; passes = λ a m e. rw e refl }

in_make : OneInOne Make
in_make = record { asks = λ a ask k e. rw e refl; plugs = λ d a c e. rw e refl; passes = λ a m e. rw e refl }

in_first : (others : Operands) → OneInAll (λ x. also x others)
in_first others = record { asks = λ a ask k e. rw e refl; plugs = λ d a c e. rw e refl; passes = λ a m e. rw e refl }

in_others : (x : Operand) → PlainOne x → AllInAll (also x)
in_others x p = record { asks = λ a ask k e. rw (p.asks, e) refl; plugs = λ d a c e. rw (p.plugs d, e) refl; passes = λ a m e. rw (p.passes, e) refl }

-- what is left has no part
plain_binary : (op : BinaryOp) (x : Operand) (n d : ℕ) (right : ℕ → Operand) → PlainOne x → ((d : ℕ) → PlainOne (right d))
    → PlainOne (left_binary op x n d right)
plain_binary op x n d right p q =
    elim (decides op n) as (λ z. PlainOne (if z then Decided op d (right (d + 1)) else Binary op x (right d))) [
      | true ↦ let r : PlainOne (right (d + 1)) = q (d + 1) in record { asks = rw r.asks refl; plugs = λ e. rw (r.plugs e) refl; passes = rw r.passes refl }
      | false ↦ let r : PlainOne
          (right d) = q d in record { asks = rw (p.asks, r.asks) refl; plugs = λ e. rw (p.plugs e, r.plugs e) refl; passes = rw (p.passes, r.passes) refl }
    ]

plain_variable : (x : ℕ) → PlainOne (Variable x)
plain_variable x = record { asks = refl; plugs = λ d. refl; passes = refl }

mutual
  pub plain_left : (e : Operand) (d : ℕ) → PlainOne (left e d)
  plain_left (Done v) d = record { asks = refl; plugs = λ d. refl; passes = refl }
  plain_left (Variable x) d = plain_variable x
  plain_left (Unary op a) d = let p : PlainOne (left a d) = plain_left a d in record
      { asks = rw p.asks refl; plugs = λ e. rw (p.plugs e) refl; passes = rw p.passes refl }
  plain_left (Binary op a b) d = plain_binary op (left a d) (parts b) (d + parts a) (left b) (plain_left a d) (λ e. plain_left b e)
  plain_left (Receive c initial) d = plain_variable (d + parts c)
  plain_left (Call f arguments) d = plain_variable (d + parts_in arguments)
  plain_left (Len c) d = plain_variable (d + parts c)
  plain_left (Cap c) d = plain_variable (d + parts c)
  plain_left (Make n) d = plain_variable (d + parts n)
  plain_left (Decided op x b) d = let p : PlainOne (left b d) = plain_left b d in record
      { asks = rw p.asks refl; plugs = λ e. rw (p.plugs e) refl; passes = rw p.passes refl }

  pub plain_left_in : (es : Operands) (d : ℕ) → PlainAll (left_in es d)
  plain_left_in nothing d = record { asks = refl; plugs = λ d. refl; passes = refl }
  plain_left_in (also a others) d =
      let p : PlainOne (left a d) = plain_left a d in
      let q : PlainAll (left_in others (d + parts a)) = plain_left_in others (d + parts a) in
      record { asks = rw (p.asks, q.asks) refl; plugs = λ e. rw (p.plugs e, q.plugs e) refl; passes = rw (p.passes, q.passes) refl }

-- the code has an instruction for each part
length_right : (op : BinaryOp) (x : Operand) (n d o : ℕ) (right : ℕ → ℕ → List Instruction) → ((d o : ℕ) → length (right d o) ≡ n)
    → length (right_code op x n d o right) ≡ with_decision op n
length_right op x zero d o right e = e d o
length_right op x (suc n) d o right e =
    elim (is_logical op) as
    (λ z. length (if z then Decide op x d (o + 1 + suc n) (o + 1) ∷ right (d + 1) (o + 1) else right d o) ≡ (if z then suc (suc n) else suc n)) [
      | true ↦ ap (λ k. suc k) (e (d + 1) (o + 1))
      | false ↦ e d o
    ]

length_then : (is : List Instruction) (n d o : ℕ) (a : Ask) → length is ≡ n → length (then_part is n d o a) ≡ n + 1
length_then is n d o a e = let l : length (is ++ Part a (Some (d + n)) (o + n + 1) ∷ []) ≡ length is + 1 = length-append is
    (Part a (Some (d + n)) (o + n + 1) ∷ []) in omega arith

mutual
  pub length_code : (e : Operand) (d o : ℕ) → length (code e d o) ≡ parts e
  length_code (Done v) d o = refl
  length_code (Variable x) d o = refl
  length_code (Unary op a) d o = length_code a d o
  length_code (Binary op a b) d o =
      length-append (code a d o) (right_code op (left a d) (parts b) (d + parts a) (o + parts a) (code b))
      ∙ cc (length_code a d o, length_right op (left a d) (parts b) (d + parts a) (o + parts a) (code b) (λ d o. length_code b d o))
  length_code (Receive c initial) d o = length_then (code c d o) (parts c) d o (Receives (left c d) initial) (length_code c d o)
  length_code (Call f arguments) d o = length_then (code_in arguments d o) (parts_in arguments) d o (Calls f (left_in arguments d))
      (length_code_in arguments d o)
  length_code (Len c) d o = length_then (code c d o) (parts c) d o (CountsItems (left c d)) (length_code c d o)
  length_code (Cap c) d o = length_then (code c d o) (parts c) d o (CountsPlaces (left c d)) (length_code c d o)
  length_code (Make n) d o = length_then (code n d o) (parts n) d o (ask.Makes (left n d)) (length_code n d o)
  length_code (Decided op x b) d o = length_code b d o

  pub length_code_in : (es : Operands) (d o : ℕ) → length (code_in es d o) ≡ parts_in es
  length_code_in nothing d o = refl
  length_code_in (also a others) d o =
      length-append (code a d o) (code_in others (d + parts a) (o + parts a)) ∙ cc (length_code a d o, length_code_in others (d + parts a) (o + parts a))

none_left : (is : List Instruction) → length is ≡ 0 → is ≡ []
none_left [] e = refl
none_left (i ∷ is) e = absurd (omega arith)

-- the right operand, after a decision or not
read_logical : (op : BinaryOp) (x b : Operand) (n d o : ℕ) → PlainOne x → is_logical op ≡ true → length (code b (d + 1) (o + 1)) ≡ parts b
    → HasPart next plug passed_by d b → parts b ≡ suc n
    → ReadsOne (d + 1) (o + 1) b (code b (d + 1) (o + 1)) (left b (d + 1))
    → ReadsOne d o (Binary op x b) (Decide op x d (o + 1 + parts b) (o + 1) ∷ code b (d + 1) (o + 1)) (Decided op d (left b (d + 1)))
read_logical op x b n d o p l e h z r =
    reads d o (Binary op x b) (Decided op d b) (Decides op x) (λ v. if settles op v then Done v else b) (parts b) (code b (d + 1) (o + 1))
    (Decided op d (left b (d + 1)))
    (rw (p.asks, h.asks, l) refl) (rw (p.plugs d, h.plugs, l) refl) (rw (p.passes, h.passes, l) refl) (omega arith)
    (lift next plug passed_by next plug passed_by (Decided op d) (in_decided op d) (d + 1) (o + 1) b (left b (d + 1)) (code b (d + 1) (o + 1)) r)

read_right : (op : BinaryOp) (x b : Operand) (d o : ℕ) → PlainOne x → ((d o : ℕ) → ReadsOne d o b (code b d o) (left b d))
    → ReadsOne d o (Binary op x b) (right_code op x (parts b) d o (code b)) (left_binary op x (parts b) d (left b))
read_right op x b d o p r = by_parts (parts b) refl
  where
    by_logical : (z : Bool) (n : ℕ) → is_logical op ≡ z → parts b ≡ suc n
        → ReadsOne d o (Binary op x b) (if z then Decide op x d (o + 1 + parts b) (o + 1) ∷ code b (d + 1) (o + 1) else code b d o)
        (if z then Decided op d (left b (d + 1)) else Binary op x (left b d))
    by_logical true n l e =
        read_logical op x b n d o p l
        (length_code b (d + 1) (o + 1)) (has_part next plug passed_by d o n b (left b d) (code b d o) (r d o) (length_code b d o ∙ e)) e (r (d + 1) (o + 1))
    by_logical false n l e = lift next plug passed_by next plug passed_by (Binary op x) (in_right op x p l) d o b (left b d) (code b d o) (r d o)

    by_parts : (n : ℕ) → parts b ≡ n → ReadsOne d o (Binary op x b) (right_code op x (parts b) d o (code b)) (left_binary op x (parts b) d (left b))
    by_parts zero e =
        let no : code b d o ≡ [] = none_left (code b d o) (length_code b d o ∙ e) in
        let same : b ≡ left b d = same_end next plug passed_by d o b (left b d) (code b d o) (r d o) (length_code b d o ∙ e) in
        rw (ap (decides op) e, no, ← same) (done d o (Binary op x b))
    by_parts (suc n) e = let z : decides op (parts b) ≡ is_logical op = ap (decides op) e in rw z (by_logical (is_logical op) n refl e)

then_reads : (is : List Instruction) (e : Operand) (n d o : ℕ) (a : Ask) (x : Operand) → ReadsOne d o e is x → length is ≡ n
    → next x ≡ Asks a Done → plug (d + n) x ≡ Some (Variable (d + n)) → passed_by x ≡ Some 0
    → instruction_for a (d + n) (o + n) 0 ≡ Part a (Some (d + n)) (o + n + 1)
    → ReadsOne d o e (then_part is n d o a) (Variable (d + n))
then_reads is e n d o a x r l asks plugs passes i =
    join next plug passed_by d o e x (Variable (d + n)) is (Part a (Some (d + n)) (o + n + 1) ∷ []) n r l
    (subst (λ j. ReadsOne (d + n) (o + n) x (j ∷ []) (Variable (d + n))) i
    (single next plug passed_by (d + n) (o + n) x (Variable (d + n)) a Done asks plugs passes))

mutual
  pub reads_one : (e : Operand) (d o : ℕ) → ReadsOne d o e (code e d o) (left e d)
  reads_one (Done v) d o = done d o (Done v)
  reads_one (Variable x) d o = done d o (Variable x)
  reads_one (Unary op a) d o = lift next plug passed_by next plug passed_by (Unary op) (in_unary op) d o a (left a d) (code a d o) (reads_one a d o)
  reads_one (Binary op a b) d o =
      join next plug passed_by d o (Binary op a b) (Binary op (left a d) b) _ (code a d o) _ (parts a)
      (lift next plug passed_by next plug passed_by (λ x. Binary op x b) (in_left op b) d o a (left a d) (code a d o) (reads_one a d o)) (length_code a d o)
      (read_right op (left a d) b (d + parts a) (o + parts a) (plain_left a d) (λ d o. reads_one b d o))
  reads_one (Receive c initial) d o =
      let p : PlainOne (left c d) = plain_left c d in
      then_reads (code c d o) (Receive c initial) (parts c) d o (Receives (left c d) initial) (Receive (left c d) initial)
      (lift next plug passed_by next plug passed_by (λ x. Receive x initial) (in_receive initial) d o c (left c d) (code c d o) (reads_one c d o))
      (length_code c d o)
      (rw p.asks refl) (rw (p.plugs (d + parts c)) refl) (rw p.passes refl) refl
  reads_one (Call f arguments) d o =
      let p : PlainAll (left_in arguments d) = plain_left_in arguments d in
      then_reads (code_in arguments d o) (Call f arguments) (parts_in arguments) d o (Calls f (left_in arguments d)) (Call f (left_in arguments d))
      (lift next_of plug_all passed_by_in next plug passed_by (Call f) (in_call f) d o arguments (left_in arguments d) (code_in arguments d o)
      (reads_all arguments d o)) (length_code_in arguments d o)
      (rw p.asks refl) (rw (p.plugs (d + parts_in arguments)) refl) (rw p.passes refl) refl
  reads_one (Len c) d o =
      let p : PlainOne (left c d) = plain_left c d in
      then_reads (code c d o) (Len c) (parts c) d o (CountsItems (left c d)) (Len (left c d))
      (lift next plug passed_by next plug passed_by Len in_len d o c (left c d) (code c d o) (reads_one c d o)) (length_code c d o)
      (rw p.asks refl) (rw (p.plugs (d + parts c)) refl) (rw p.passes refl) refl
  reads_one (Cap c) d o =
      let p : PlainOne (left c d) = plain_left c d in
      then_reads (code c d o) (Cap c) (parts c) d o (CountsPlaces (left c d)) (Cap (left c d))
      (lift next plug passed_by next plug passed_by Cap in_cap d o c (left c d) (code c d o) (reads_one c d o)) (length_code c d o)
      (rw p.asks refl) (rw (p.plugs (d + parts c)) refl) (rw p.passes refl) refl
  reads_one (Make c) d o =
      let p : PlainOne (left c d) = plain_left c d in
      then_reads (code c d o) (Make c) (parts c) d o (ask.Makes (left c d)) (Make (left c d))
      (lift next plug passed_by next plug passed_by Make in_make d o c (left c d) (code c d o) (reads_one c d o)) (length_code c d o)
      (rw p.asks refl) (rw (p.plugs (d + parts c)) refl) (rw p.passes refl) refl
  reads_one (Decided op x b) d o = lift next plug passed_by next plug passed_by (Decided op x) (in_decided op x) d o b (left b d) (code b d o) (reads_one b d o)

  pub reads_all : (es : Operands) (d o : ℕ) → ReadsAll d o es (code_in es d o) (left_in es d)
  reads_all nothing d o = done d o nothing
  reads_all (also a others) d o =
      join next_of plug_all passed_by_in d o (also a others) (also (left a d) others) _ (code a d o) _ (parts a)
      (lift next plug passed_by next_of plug_all passed_by_in (λ x. also x others) (in_first others) d o a (left a d) (code a d o) (reads_one a d o))
      (length_code a d o)
      (lift next_of plug_all passed_by_in next_of plug_all passed_by_in (also (left a d)) (in_others (left a d) (plain_left a d)) (d + parts a)
      (o + parts a) others
      (left_in others (d + parts a)) (code_in others (d + parts a) (o + parts a)) (reads_all others (d + parts a) (o + parts a)))

-- the contexts of parts of a statement
pub in_self : AllInAll (λ es. es)
in_self = record { asks = λ a ask k e. e; plugs = λ d a b e. e; passes = λ a m e. e }

pub in_whole_receive : (initial : Value) → OneInAll (λ c. one (Receive c initial))
in_whole_receive initial = record { asks = λ a ask k e. rw e refl; plugs = λ d a b e. rw e refl; passes = λ a m e. rw e refl }

pub in_whole_call : (f : ℕ) → AllInAll (λ es. one (Call f es))
in_whole_call f = record { asks = λ a ask k e. rw e refl; plugs = λ d a b e. rw e refl; passes = λ a m e. rw e refl }

-- plugged again and again, operands are what is left of them
again : (d o : ℕ) (a b : Operands) (is : List Instruction) → ReadsAll d o a is b → plugged_again (length is) d a ≡ b
again _ _ _ _ _ (done d o a) = refl
again _ _ _ _ _ (reads d o a a' ask k m is b asks plugs passes enough r) =
    ap (λ o. plugged_again (length is) (d + 1) (unwrap_or o a)) plugs ∙ again (d + 1) (o + 1) a' b is r

pub again_left : (d : ℕ) (es : Operands) → plugged_again (parts_in es) d es ≡ left_in es d
again_left d es = rw (length_code_in es d 0) at (again d 0 es (left_in es d) (code_in es d 0) (reads_all es d 0))
