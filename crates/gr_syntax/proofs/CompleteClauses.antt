-- The clauses of a select are read as their parts are.
use Rattle.std.proofs.Common.{◌≡◌, ℕ, ◌<◌, max, true, List, ◌∷◌, length, refl, ap, sym, ◌∙◌, arith}
use Rattle.std.specs.Prelude.{Some, Result, Ok}
use Rattle.gr_scan.specs.declared.token.Place.{Place}
use Rattle.gr_scan.specs.declared.token.Mark.TheVariants as marks
use Rattle.gr_scan.specs.Tokens.{Tok, At, Sign}
use Rattle.gr_tree.specs.Statements.{Comm, Statements, Clauses, closed, default, case, comm_height, body_height, clauses_height}
use Rattle.gr_syntax.specs.Grammar.{after_mark}
use Rattle.gr_syntax.specs.StatementGrammar as grammar
use Rattle.gr_syntax.specs.StatementGrammar.{SpellsClauses}
use Rattle.gr_syntax.specs.Reading.{ReadError, Found, Reads, ◌>>=◌, Turn, turned, loop, need}
use Rattle.gr_syntax.specs.Reading as reading
use Rattle.gr_syntax.specs.SimpleReading.{stops_at}
use Rattle.gr_syntax.specs.StatementReading.{comm_at, list_at, with_default, with_case, case_at, default_at, clause_turn, statement_at}
use Rattle.gr_syntax.proofs.Bound.{bound, within, bound_bind, bound_max}
use Rattle.gr_syntax.proofs.Loops.{Shrinks, loop_is}
use Rattle.gr_syntax.proofs.Cases.{on_ok, on_look, go_inj, stop≢go, after_is, need_is}
use Rattle.gr_syntax.proofs.SoundHeads.{comm_sound}
use Rattle.gr_syntax.proofs.SoundStatements.{clauses_joined, default_joined, case_joined, joined_closed, statement_sound, list_sound}
use Rattle.gr_syntax.proofs.StatementSizes.{list_shrunk, comm_shrunk}

-- the turns of the clauses of a select
module _ (h : ℕ) where
  case_shrinks : (cs t : Found Clauses) (rest : List Tok) → after_mark marks.Case cs.2 ≡ Some rest → case_at h (statement_at h) cs rest ≡ Ok (reading.Go t) → length t.2 < length cs.2
  case_shrinks cs t rest m q =
      on_ok (comm_at h rest) _ (reading.Go t) q (λ c ec q. on_ok (need marks.Colon c.2) _ (reading.Go t) q (λ r er q. on_ok (list_at (statement_at h) r.1) _ (reading.Go t) q (λ ss es q.
      omega (arith, ap length (after_is marks.Case cs.2 rest m).is, comm_shrunk (comm_sound h rest c ec).spelled, ap length (need_is marks.Colon c.2 r er), list_shrunk (list_sound h (statement_at h) (statement_sound h) r.1 ss es).spelled, ap length (go_inj (with_case cs.0 c.0 ss.0, max cs.1 (max c.1 ss.1), ss.2) t q)))))

  default_shrinks : (cs t : Found Clauses) (rest : List Tok) → after_mark marks.Default cs.2 ≡ Some rest → default_at (statement_at h) cs rest ≡ Ok (reading.Go t) → length t.2 < length cs.2
  default_shrinks cs t rest m q =
      on_ok (need marks.Colon rest) _ (reading.Go t) q (λ r er q. on_ok (list_at (statement_at h) r.1) _ (reading.Go t) q (λ ss es q.
      omega (arith, ap length (after_is marks.Default cs.2 rest m).is, ap length (need_is marks.Colon rest r er), list_shrunk (list_sound h (statement_at h) (statement_sound h) r.1 ss es).spelled, ap length (go_inj (with_default cs.0 ss.0, max cs.1 ss.1, ss.2) t q))))

  pub clauses_shrink : Shrinks (clause_turn h (statement_at h))
  unfolding clause_turn
  clauses_shrink cs t q =
      on_look (after_mark marks.Case cs.2) _ _ (Ok (reading.Go t)) q
      (λ rest m q. case_shrinks cs t rest m q)
      (λ m q. on_look (after_mark marks.Default cs.2) _ _ (Ok (reading.Go t)) q
      (λ rest m q. default_shrinks cs t rest m q)
      (λ m q. stop≢go cs t q))

  pub clause_step : (cs : Found Clauses) → loop (clause_turn h (statement_at h)) cs ≡ (clause_turn h (statement_at h) cs >>= turned (loop (clause_turn h (statement_at h))))
  clause_step cs = loop_is (clause_turn h (statement_at h)) clauses_shrink cs

abbrev pub ClausesTo : ℕ → Clauses → ℕ → Clauses → List Tok → List Tok → Type 0
ClausesTo h acc k cs ts rest = loop (clause_turn h (statement_at h)) (acc, k, ts) ≡ bound h (clauses_height cs) (Ok (clauses_joined acc cs, max k (clauses_height cs), rest))

pub clauses_end : (h : ℕ) (acc : Clauses) (k : ℕ) (q : Place) (rest : List Tok) → ClausesTo h acc k closed (At q (Sign marks.RightBrace) ∷ rest) (At q (Sign marks.RightBrace) ∷ rest)
unfolding clause_turn after_mark
clauses_end h acc k q rest =
    let z : max k 0 ≡ k = omega arith in
    clause_step h (acc, k, At q (Sign marks.RightBrace) ∷ rest)
    ∙ sym (within h 0 _ (omega arith) ∙ rw (z, joined_closed acc) refl)

abbrev ListReads : ℕ → Statements → List Tok → List Tok → Type 0
ListReads h ss ts rest = list_at (statement_at h) ts ≡ bound h (body_height ss) (Ok (ss, body_height ss, rest))

pub clauses_default : (h : ℕ) (acc : Clauses) (k : ℕ) (p q : Place) (ss : Statements) (cs : Clauses) (ts mid rest : List Tok) → ListReads h ss ts mid → ClausesTo h (with_default acc ss) (max k (body_height ss)) cs mid rest → ClausesTo h acc k (default ss cs) (At p (Sign marks.Default) ∷ At q (Sign marks.Colon) ∷ ts) rest
unfolding clause_turn after_mark need
clauses_default h acc k p q ss cs ts mid rest r rs =
    let j : ℕ = body_height ss in
    let again : Turn (Found Clauses) → Reads Clauses = turned (loop (clause_turn h (statement_at h))) in
    let f : Found Statements → Result (Turn (Found Clauses)) ReadError = λ ss. Ok (reading.Go (with_default acc ss.0, max k ss.1, ss.2)) in
    let high : max (max k j) (clauses_height cs) ≡ max k (max j (clauses_height cs)) = omega arith in
    clause_step h (acc, k, At p (Sign marks.Default) ∷ At q (Sign marks.Colon) ∷ ts)
    ∙ ap (λ r. (r >>= f) >>= again) r
    ∙ ap (λ r. r >>= again) (bound_bind h j (Ok (ss, j, mid)) f)
    ∙ bound_bind h j (f (ss, j, mid)) again
    ∙ ap (bound h j) rs ∙ bound_max h j (clauses_height cs) _
    ∙ rw (high, default_joined acc ss cs) refl

pub clauses_case : (h : ℕ) (acc : Clauses) (k : ℕ) (p q : Place) (c : Comm) (ss : Statements) (cs : Clauses) (ts body mid rest : List Tok) → comm_at h ts ≡ bound h (comm_height c) (Ok (c, comm_height c, At q (Sign marks.Colon) ∷ body)) → ListReads h ss body mid → ClausesTo h (with_case acc c ss) (max k (max (comm_height c) (body_height ss))) cs mid rest → ClausesTo h acc k (case c ss cs) (At p (Sign marks.Case) ∷ ts) rest
unfolding clause_turn after_mark need
clauses_case h acc k p q c ss cs ts body mid rest rc r rs =
    let i : ℕ = comm_height c in
    let j : ℕ = body_height ss in
    let again : Turn (Found Clauses) → Reads Clauses = turned (loop (clause_turn h (statement_at h))) in
    let f : Found Statements → Result (Turn (Found Clauses)) ReadError = λ ss. Ok (reading.Go (with_case acc c ss.0, max k (max i ss.1), ss.2)) in
    let g : Found Comm → Result (Turn (Found Clauses)) ReadError = λ c. need marks.Colon c.2 >>= λ r. list_at (statement_at h) r.1 >>= λ ss. Ok (reading.Go (with_case acc c.0 ss.0, max k (max c.1 ss.1), ss.2)) in
    let high : max (max k (max i j)) (clauses_height cs) ≡ max k (max (max i j) (clauses_height cs)) = omega arith in
    clause_step h (acc, k, At p (Sign marks.Case) ∷ ts)
    ∙ ap (λ r. (r >>= g) >>= again) rc
    ∙ ap (λ r. r >>= again) (bound_bind h i (Ok (c, i, At q (Sign marks.Colon) ∷ body)) g)
    ∙ ap (λ r. bound h i (r >>= f) >>= again) r
    ∙ ap (λ r. bound h i r >>= again) (bound_bind h j (Ok (ss, j, mid)) f)
    ∙ bound_bind h i (bound h j (f (ss, j, mid))) again
    ∙ ap (bound h i) (bound_bind h j (f (ss, j, mid)) again)
    ∙ bound_max h i j _
    ∙ ap (bound h (max i j)) rs ∙ bound_max h (max i j) (clauses_height cs) _
    ∙ rw (high, case_joined acc c ss cs) refl

-- where a list of statements stops
pub clauses_stop : {cs : Clauses} {ts : List Tok} {q : Place} {rest : List Tok} → SpellsClauses cs ts (At q (Sign marks.RightBrace) ∷ rest) → stops_at ts ≡ true
unfolding stops_at
clauses_stop grammar.no_clause = refl
clauses_stop (grammar.default_clause d ds) = refl
clauses_stop (grammar.case_clause c d ds) = refl
