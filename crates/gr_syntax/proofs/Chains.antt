-- Chains of binary operators: what is read of them is in the grammar.
use Rattle.std.proofs.Common.{◌≡◌, ℕ, zero, suc, ◌+◌, ◌<◌, ◌≤◌, cond, List, ◌∷◌, refl, ap, sym, subst, arith, ltb-true, ltb-false}
use Rattle.std.specs.Prelude.{Option, Some, None, Ok, Err, nat_lt}
use Rattle.gr_scan.specs.declared.token.Mark.TheVariants as marks
use Rattle.gr_scan.specs.Tokens.{Tok, At, Sign}
use Rattle.gr_tree.specs.declared.expr.BinaryOp.{BinaryOp}
use Rattle.gr_tree.specs.declared.expr.BinaryOp.TheVariants as binaries
use Rattle.gr_tree.specs.Exprs.{Tree, height}
use Rattle.gr_syntax.specs.Grammar.{level, after_mark, binary_mark, SpellsUnary, SpellsExpr, alone, binary}
use Rattle.gr_syntax.specs.Reading.{High, Found, Reads, ◌>>=◌, Stop, Go, turned, turns, binary_of, operator_at, joined, chain_at, chain_turn}
use Rattle.gr_syntax.proofs.Cases.{ok_inj, on_ok, on_test, binary_is, operator_is}

-- how strongly the first token binds to what stands before it
abbrev pub strength_of : Option (BinaryOp × List Tok) → ℕ
strength_of None = 0
strength_of (Some o) = level o.0

abbrev pub strength : List Tok → ℕ
strength ts = strength_of (operator_at binary_of ts)

pub level_low : (op : BinaryOp) → level op ≤ 5
level_low binaries.Multiply = omega arith
level_low binaries.Divide = omega arith
level_low binaries.Remainder = omega arith
level_low binaries.ShiftLeft = omega arith
level_low binaries.ShiftRight = omega arith
level_low binaries.BitAnd = omega arith
level_low binaries.AndNot = omega arith
level_low binaries.Add = omega arith
level_low binaries.Subtract = omega arith
level_low binaries.BitOr = omega arith
level_low binaries.BitXor = omega arith
level_low binaries.Equal = omega arith
level_low binaries.NotEqual = omega arith
level_low binaries.Less = omega arith
level_low binaries.LessEqual = omega arith
level_low binaries.Greater = omega arith
level_low binaries.GreaterEqual = omega arith
level_low binaries.LogicalAnd = omega arith
level_low binaries.LogicalOr = omega arith

pub level_pos : (op : BinaryOp) → 0 < level op
level_pos binaries.Multiply = omega arith
level_pos binaries.Divide = omega arith
level_pos binaries.Remainder = omega arith
level_pos binaries.ShiftLeft = omega arith
level_pos binaries.ShiftRight = omega arith
level_pos binaries.BitAnd = omega arith
level_pos binaries.AndNot = omega arith
level_pos binaries.Add = omega arith
level_pos binaries.Subtract = omega arith
level_pos binaries.BitOr = omega arith
level_pos binaries.BitXor = omega arith
level_pos binaries.Equal = omega arith
level_pos binaries.NotEqual = omega arith
level_pos binaries.Less = omega arith
level_pos binaries.LessEqual = omega arith
level_pos binaries.Greater = omega arith
level_pos binaries.GreaterEqual = omega arith
level_pos binaries.LogicalAnd = omega arith
level_pos binaries.LogicalOr = omega arith

strength_of_low : (o : Option (BinaryOp × List Tok)) → strength_of o ≤ 5
strength_of_low None = omega arith
strength_of_low (Some o) = level_low o.0

pub strength_low : (ts : List Tok) → strength ts ≤ 5
strength_low ts = strength_of_low (operator_at binary_of ts)

-- what may follow a whole expression: no binary operator, and no "("
abbrev pub Quiet : List Tok → Type 0
Quiet rest = (strength rest ≡ 0) × (after_mark marks.LeftParen rest ≡ None)

-- what reading an expression answers, under a limit h on its height
pub record IsExpr (h l : ℕ) (ts : List Tok) (u : Found Tree) : Type 0 where
  pub tree : SpellsExpr l u.0 ts u.2
  pub stops : strength u.2 < l
  pub high : u.1 ≡ height u.0
  pub fits : u.1 ≤ h

pub record IsUnary (h : ℕ) (ts : List Tok) (u : Found Tree) : Type 0 where
  pub tree : SpellsUnary u.0 ts u.2
  pub high : u.1 ≡ height u.0
  pub fits : u.1 ≤ h

abbrev pub Sounds : ℕ → (ℕ → List Tok → Reads Tree) → Type 0
Sounds h rec = (l : ℕ) (ts : List Tok) (u : Found Tree) → 0 < l → rec l ts ≡ Ok u → IsExpr h l ts u

looser : {l k : ℕ} {e : Tree} {ts rest : List Tok} → l ≤ k → SpellsExpr k e ts rest → SpellsExpr l e ts rest
looser le (alone d) = alone d
looser le (binary le2 a b) = binary (omega arith) a b

pub tight_unary : {k : ℕ} {e : Tree} {ts rest : List Tok} → 5 < k → SpellsExpr k e ts rest → SpellsUnary e ts rest
tight_unary lt (alone d) = d
tight_unary lt (binary {op = op} le a b) = absurd (omega (arith, level_low op))

-- a chain of operators: what was read so far stands at a level k, and what follows binds no stronger
pub record IsChain (h l : ℕ) (ts : List Tok) (u : Found Tree) : Type 0 where
  pub k : ℕ
  pub le : l ≤ k
  pub tree : SpellsExpr k u.0 ts u.2
  pub binds : strength u.2 ≤ k
  pub high : u.1 ≡ height u.0
  pub fits : u.1 ≤ h

abbrev pub More : ℕ → ℕ → (ℕ → List Tok → Reads Tree) → ℕ → List Tok → Type 0
More h l rec n ts = (a u : Found Tree) → IsChain (suc h) l ts a → turns (chain_turn rec h l) n a ≡ Ok u → IsExpr (suc h) l ts u

chain_joins : (h l : ℕ) (ts : List Tok) (a b : Found Tree) (op : BinaryOp) (mid : List Tok) → IsChain (suc h) l ts a → operator_at binary_of a.2 ≡ Some (op, mid) → l ≤ level op → a.1 ≤ h → IsExpr h (level op + 1) mid b → IsChain (suc h) l ts (joined op a b)
chain_joins h l ts a b op mid c is le fit s =
    let low : level op ≤ c.k = omega (arith, c.binds, ap strength_of is) in
    let o = operator_is binary_of binary_mark binary_is a.2 (op, mid) is in
    let left : SpellsExpr (level op) a.0 ts (At o.place (Sign (binary_mark op)) ∷ mid) = subst (λ r. SpellsExpr (level op) a.0 ts r) o.is (looser low c.tree) in
    record { k = level op; le = le; tree = binary (omega arith) left s.tree; binds = omega (arith, s.stops); high = omega (arith, c.high, s.high); fits = omega (arith, s.fits) }

chain_go : (h l : ℕ) (rec : ℕ → List Tok → Reads Tree) → Sounds h rec → (n : ℕ) (ts : List Tok) → More h l rec n ts → (a u : Found Tree) → IsChain (suc h) l ts a → (o : BinaryOp × List Tok) → operator_at binary_of a.2 ≡ Some o → l ≤ level o.0 → a.1 ≤ h → ((rec (level o.0 + 1) o.1 >>= λ b. Ok (Go (joined o.0 a b))) >>= turned (turns (chain_turn rec h l) n)) ≡ Ok u → IsExpr (suc h) l ts u
chain_go h l rec snd n ts ih a u c o is le fit q =
    on_ok (rec (level o.0 + 1) o.1 >>= λ b. Ok (Go (joined o.0 a b))) (turned (turns (chain_turn rec h l) n)) u q (λ t et q.
    on_ok (rec (level o.0 + 1) o.1) (λ b. Ok (Go (joined o.0 a b))) t et (λ b eb et.
    ih (joined o.0 a b) u
    (chain_joins h l ts a b o.0 o.1 c is le fit (snd (level o.0 + 1) o.1 b (omega arith) eb))
    (subst (λ d. turned (turns (chain_turn rec h l) n) d ≡ Ok u) (sym (ok_inj et)) q)))

chain_stop : (h l : ℕ) (ts : List Tok) (a : Found Tree) → IsChain (suc h) l ts a → strength a.2 < l → IsExpr (suc h) l ts a
chain_stop h l ts a c lt = record { tree = looser c.le c.tree; stops = lt; high = c.high; fits = c.fits }

chain_case : (h l : ℕ) (rec : ℕ → List Tok → Reads Tree) → Sounds h rec → 0 < l → (n : ℕ) (ts : List Tok) → More h l rec n ts → (a u : Found Tree) → IsChain (suc h) l ts a → (o : Option (BinaryOp × List Tok)) → operator_at binary_of a.2 ≡ o → (chain_at rec h l a o >>= turned (turns (chain_turn rec h l) n)) ≡ Ok u → IsExpr (suc h) l ts u
chain_case h l rec snd pos n ts ih a u c None is q = subst (λ v. IsExpr (suc h) l ts v) (ok_inj q) (chain_stop h l ts a c (omega (arith, ap strength_of is)))
chain_case h l rec snd pos n ts ih a u c (Some o) is q =
    on_ok (chain_at rec h l a (Some o)) (turned (turns (chain_turn rec h l) n)) u q (λ t et q.
    on_test (nat_lt (level o.0) l) (Ok (Stop a)) (cond (nat_lt h a.1) (Err High) (rec (level o.0 + 1) o.1 >>= λ b. Ok (Go (joined o.0 a b)))) (Ok t) et
    (λ lt et. let weak : level o.0 < l = ltb-true (level o.0) l lt in
    let same : Stop a ≡ t = ok_inj et in
    let done : ◌≡◌ {A = Reads Tree} (Ok a) (Ok u) = subst (λ d. turned (turns (chain_turn rec h l) n) d ≡ Ok u) (sym same) q in
    subst (λ v. IsExpr (suc h) l ts v) (ok_inj done) (chain_stop h l ts a c (omega (arith, ap strength_of is))))
    (λ ge et. on_test (nat_lt h a.1) (Err High) (rec (level o.0 + 1) o.1 >>= λ b. Ok (Go (joined o.0 a b))) (Ok t) et
    (λ lt et. absurd (cc))
    (λ le et. chain_go h l rec snd n ts ih a u c o is (ltb-false (level o.0) l ge) (ltb-false h a.1 le) (rw et q))))

pub chain_sound : (h l : ℕ) (rec : ℕ → List Tok → Reads Tree) → Sounds h rec → 0 < l → (n : ℕ) (ts : List Tok) → More h l rec n ts
unfolding chain_turn
chain_sound h l rec snd pos zero ts a u c q = absurd (cc)
chain_sound h l rec snd pos (suc n) ts a u c q = chain_case h l rec snd pos n ts (chain_sound h l rec snd pos n ts) a u c (operator_at binary_of a.2) refl q
