-- A list of statements and a block are read as their statements are.
use Rattle.std.proofs.Common.{◌≡◌, ℕ, zero, suc, max, true, false, List, ◌∷◌, length, refl, ap, sym, ◌∙◌, arith}
use Rattle.std.specs.Prelude.{Some, None, Result, Ok}
use Rattle.gr_scan.specs.declared.token.Place.{Place}
use Rattle.gr_scan.specs.declared.token.Mark.TheVariants as marks
use Rattle.gr_scan.specs.Tokens.{Tok, At, Sign}
use Rattle.gr_tree.specs.Statements.{Statement, Statements, end, then, statement_height, body_height}
use Rattle.gr_syntax.specs.Grammar.{after_mark}
use Rattle.gr_syntax.specs.Reading.{ReadError, Found, Reads, ◌>>=◌, Turn, turned, loop, need}
use Rattle.gr_syntax.specs.Reading as reading
use Rattle.gr_syntax.specs.SimpleReading.{stops_at}
use Rattle.gr_syntax.specs.StatementReading.{past_semicolon, added, list_turn, list_at, block_at, tier_at, statement_at}
use Rattle.gr_syntax.proofs.Bound.{bound, within, above, bound_bind, bound_max}
use Rattle.gr_syntax.proofs.Loops.{Shrinks, loop_is}
use Rattle.gr_syntax.proofs.Cases.{on_ok, on_look, on_test, go_inj, stop≢go, after_is}
use Rattle.gr_syntax.proofs.SoundStatements.{joined, added_joined, joined_end, statement_sound}
use Rattle.gr_syntax.proofs.StatementSizes.{statement_shrunk, past_shrinks}
use Rattle.gr_syntax.proofs.StatementStarts.{statement_pos, Starts}

abbrev pub StatementReads : ℕ → Statement → List Tok → List Tok → Type 0
StatementReads h s ts rest = statement_at h ts ≡ bound h (statement_height s) (Ok (s, statement_height s, rest))

abbrev pub Tier : ℕ → Statement → List Tok → List Tok → Type 0
Tier h s ts rest = tier_at h (statement_at h) ts ≡ bound (suc h) (statement_height s) (Ok (s, statement_height s, rest))

pub from_tier : (s : Statement) (ts rest : List Tok) → ((h : ℕ) → Tier h s ts rest) → (h : ℕ) → StatementReads h s ts rest
unfolding statement_at
from_tier s ts rest f zero = sym (above zero (statement_height s) _ (statement_pos s))
from_tier s ts rest f (suc h) = f h

-- the turns of a list
module _ (h : ℕ) where
  abbrev rec : List Tok → Reads Statement
  rec = statement_at h

  abbrev after_one : Found Statements → Found Statement → Result (Turn (Found Statements)) ReadError
  after_one ss s = past_semicolon s.2 >>= λ rest. Ok (reading.Go (added ss.0 s.0, max ss.1 s.1, rest))

  pub list_shrinks : Shrinks (list_turn rec)
  unfolding list_turn
  list_shrinks ss t q =
      on_test (stops_at ss.2) _ _ (Ok (reading.Go t)) q
      (λ b q. stop≢go ss t q)
      (λ b q. on_look (after_mark marks.Semicolon ss.2) _ _ (Ok (reading.Go t)) q
      (λ rest m q. omega (arith, ap length (after_is marks.Semicolon ss.2 rest m).is, ap length (go_inj (ss.0, ss.1, rest) t q)))
      (λ m q. on_ok (rec ss.2) _ (reading.Go t) q (λ s es q. on_ok (past_semicolon s.2) _ (reading.Go t) q (λ rest er q.
      omega (arith, statement_shrunk (statement_sound h ss.2 s es).spelled, past_shrinks s.2 rest er, ap length (go_inj (added ss.0 s.0, max ss.1 s.1, rest) t q))))))

  list_step : (ss : Found Statements) → loop (list_turn rec) ss ≡ (list_turn rec ss >>= turned (loop (list_turn rec)))
  list_step ss = loop_is (list_turn rec) list_shrinks ss

  pub turn_close : (ss : Found Statements) → stops_at ss.2 ≡ true → loop (list_turn rec) ss ≡ Ok ss
  unfolding list_turn
  turn_close ss m = list_step ss ∙ rw m refl

  pub turn_empty : (ss : Found Statements) (rest : List Tok) → stops_at ss.2 ≡ false → after_mark marks.Semicolon ss.2 ≡ Some rest → loop (list_turn rec) ss ≡ loop (list_turn rec) (ss.0, ss.1, rest)
  unfolding list_turn
  turn_empty ss rest m k = list_step ss ∙ rw (m, k) refl

  pub turn_statement : (ss : Found Statements) → stops_at ss.2 ≡ false → after_mark marks.Semicolon ss.2 ≡ None → loop (list_turn rec) ss ≡ ((rec ss.2 >>= after_one ss) >>= turned (loop (list_turn rec)))
  unfolding list_turn
  turn_statement ss m k = list_step ss ∙ rw (m, k) refl

abbrev pub ListTo : ℕ → Statements → ℕ → Statements → List Tok → List Tok → Type 0
ListTo h acc k ss ts rest = loop (list_turn (statement_at h)) (acc, k, ts) ≡ bound h (body_height ss) (Ok (joined acc ss, max k (body_height ss), rest))

pub list_end : (h : ℕ) (acc : Statements) (k : ℕ) (ts : List Tok) → stops_at ts ≡ true → ListTo h acc k end ts ts
list_end h acc k ts m =
    let z : max k 0 ≡ k = omega arith in
    turn_close h (acc, k, ts) m
    ∙ sym (within h 0 _ (omega arith) ∙ rw (z, joined_end acc) refl)

pub list_empty : (h : ℕ) (acc : Statements) (k : ℕ) (ss : Statements) (p : Place) (ts rest : List Tok) → ListTo h acc k ss ts rest → ListTo h acc k ss (At p (Sign marks.Semicolon) ∷ ts) rest
unfolding after_mark stops_at
list_empty h acc k ss p ts rest r = turn_empty h (acc, k, At p (Sign marks.Semicolon) ∷ ts) ts refl refl ∙ r

-- a statement, and the list after it
pub list_statement : (h : ℕ) (acc : Statements) (k : ℕ) (s : Statement) (ts after rest : List Tok) → Starts ts → StatementReads h s ts after → past_semicolon after ≡ Ok rest → loop (list_turn (statement_at h)) (acc, k, ts) ≡ bound h (statement_height s) (loop (list_turn (statement_at h)) (added acc s, max k (statement_height s), rest))
list_statement h acc k s ts after rest o r e =
    let j : ℕ = statement_height s in
    let f : Found Statement → Result (Turn (Found Statements)) ReadError = after_one h (acc, k, ts) in
    let again : Turn (Found Statements) → Reads Statements = turned (loop (list_turn (statement_at h))) in
    turn_statement h (acc, k, ts) o.stops o.semicolon
    ∙ ap (λ r. (r >>= f) >>= again) r
    ∙ ap (λ r. r >>= again) (bound_bind h j (Ok (s, j, after)) f)
    ∙ bound_bind h j (f (s, j, after)) again
    ∙ ap (λ r. bound h j ((r >>= λ (rest : List Tok). Ok (reading.Go (added acc s, max k j, rest))) >>= again)) e

pub past_one : (p : Place) (ts : List Tok) → past_semicolon (At p (Sign marks.Semicolon) ∷ ts) ≡ Ok ts
unfolding past_semicolon need after_mark
past_one p ts = refl

pub past_none : (p : Place) (ts : List Tok) → past_semicolon (At p (Sign marks.RightBrace) ∷ ts) ≡ Ok (At p (Sign marks.RightBrace) ∷ ts)
unfolding past_semicolon after_mark
past_none p ts = refl

pub brace_stops : (p : Place) (ts : List Tok) → stops_at (At p (Sign marks.RightBrace) ∷ ts) ≡ true
unfolding stops_at
brace_stops p ts = refl

pub list_then : (h : ℕ) (acc : Statements) (k : ℕ) (s : Statement) (ss : Statements) (mid rest : List Tok) → ListTo h (added acc s) (max k (statement_height s)) ss mid rest → bound {B = Found Statements} h (statement_height s) (loop (list_turn (statement_at h)) (added acc s, max k (statement_height s), mid)) ≡ bound h (body_height ((then) s ss)) (Ok (joined acc ((then) s ss), max k (body_height ((then) s ss)), rest))
list_then h acc k s ss mid rest r =
    let high : max (max k (statement_height s)) (body_height ss) ≡ max k (max (statement_height s) (body_height ss)) = omega arith in
    ap (bound h (statement_height s)) r
    ∙ bound_max h (statement_height s) (body_height ss) _
    ∙ rw (high, added_joined acc s ss) refl

-- a list is read as its loop, from nothing on
pub list_whole : (h : ℕ) (ss : Statements) (ts rest : List Tok) → ListTo h end 0 ss ts rest → list_at (statement_at h) ts ≡ bound h (body_height ss) (Ok (ss, body_height ss, rest))
unfolding list_at
list_whole h ss ts rest r = let z : max 0 (body_height ss) ≡ body_height ss = omega arith in r ∙ ap (λ n. bound h (body_height ss) (Ok (ss, n, rest))) z

abbrev pub BlockReads : ℕ → Statements → Place → List Tok → List Tok → Type 0
BlockReads h ss q ts rest = block_at (statement_at h) ts ≡ bound h (body_height ss) (Ok ((ss, q), body_height ss, rest))

pub block_whole : (h : ℕ) (ss : Statements) (p q : Place) (ts rest : List Tok) → ListTo h end 0 ss ts (At q (Sign marks.RightBrace) ∷ rest) → BlockReads h ss q (At p (Sign marks.LeftBrace) ∷ ts) rest
unfolding block_at need after_mark
block_whole h ss p q ts rest r =
    let f : Found Statements → Reads (Statements × Place) = λ ss. need marks.RightBrace ss.2 >>= λ b. Ok ((ss.0, b.0), ss.1, b.1) in
    ap (λ r. r >>= f) (list_whole h ss ts (At q (Sign marks.RightBrace) ∷ rest) r)
    ∙ bound_bind h (body_height ss) (Ok (ss, body_height ss, At q (Sign marks.RightBrace) ∷ rest)) f
