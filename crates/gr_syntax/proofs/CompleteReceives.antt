-- What a clause of a select waits for: what is in the grammar is read, where it is not too high.
use Rattle.std.proofs.Common.{◌≡◌, ℕ, zero, suc, ◌+◌, ◌≤◌, max, true, List, [], ◌∷◌, length, refl, ap, sym, ◌∙◌, arith}
use Rattle.std.specs.Prelude.{None, Ok, Err}
use Rattle.gr_scan.specs.declared.token.Place.{Place}
use Rattle.gr_scan.specs.declared.token.Mark.TheVariants as marks
use Rattle.gr_scan.specs.Tokens.{Tok, At, Sign}
use Rattle.gr_scan.specs.Tokens as words
use Rattle.gr_tree.specs.declared.expr.UnaryOp.TheVariants as unaries
use Rattle.gr_tree.specs.Exprs.{Tree, Name, Paren, Unary, height}
use Rattle.gr_tree.specs.Statements.{Comm, SendTo, Receive, AssignTo, DefineAs, comm_height}
use Rattle.gr_syntax.specs.Grammar.{SpellsUnary, SpellsExpr, SpellsNames, alone, name, paren, unary, last_name, comma_name, after_mark}
use Rattle.gr_syntax.specs.StatementGrammar as grammar
use Rattle.gr_syntax.specs.StatementGrammar.{SpellsReceive, SpellsComm}
use Rattle.gr_syntax.specs.Reading.{Found, Reads, ◌>>=◌, binary_of, name_at, need, expr_at, operand_at}
use Rattle.gr_syntax.specs.SimpleReading.{bare}
use Rattle.gr_syntax.specs.StatementReading.{is_receive, receive_at, received_at, comm_names, comm_after, comm_at}
use Rattle.gr_syntax.proofs.Bound.{bound, within, above, bound_bind, under}
use Rattle.gr_syntax.proofs.Chains.{Quiet}
use Rattle.gr_syntax.proofs.Sizes.{height_pos}
use Rattle.gr_syntax.proofs.CompleteExprs.{expr_whole, unary_whole}
use Rattle.gr_syntax.proofs.CompleteSimple.{goes_on, from_first, over_colon_quiet}
use Rattle.gr_syntax.proofs.CompleteHeads.{quiet_both}

-- receives
receive_zero : (ts : List Tok) → receive_at zero ts ≡ Err Rattle.gr_syntax.specs.Reading.High
unfolding receive_at
receive_zero ts = refl

receive_arrow : (h : ℕ) (p : Place) (ts : List Tok) → receive_at (suc h) (At p (Sign marks.Arrow) ∷ ts) ≡ operand_at h (At p (Sign marks.Arrow) ∷ ts)
unfolding receive_at after_mark
receive_arrow h p ts = refl

receive_opens : (h : ℕ) (p : Place) (ts : List Tok) → receive_at (suc h) (At p (Sign marks.LeftParen) ∷ ts) ≡ (receive_at h ts >>= λ e. need marks.RightParen e.2 >>= λ r. Ok (Paren e.0, e.1 + 1, r.1))
unfolding receive_at after_mark
receive_opens h p ts = refl

paren_closes : (q : Place) (ts : List Tok) → need marks.RightParen (At q (Sign marks.RightParen) ∷ ts) ≡ Ok (q, ts)
unfolding need after_mark
paren_closes q ts = refl

paren_shut : (q : Place) (ts : List Tok) → after_mark marks.LeftParen (At q (Sign marks.RightParen) ∷ ts) ≡ None
unfolding after_mark
paren_shut q ts = refl

arrow_unary : {p : Place} {e : Tree} {ts rest : List Tok} → SpellsUnary e ts rest → SpellsUnary (Unary unaries.Receive e) (At p (Sign marks.Arrow) ∷ ts) rest
arrow_unary d = unary d

pub receive_unary : {e : Tree} {ts rest : List Tok} → SpellsReceive e ts rest → SpellsUnary e ts rest
receive_unary (grammar.receive d) = arrow_unary d
receive_unary (grammar.receive_paren d) = paren (alone (receive_unary d))

abbrev ReceiveReads : ℕ → Tree → List Tok → List Tok → Type 0
ReceiveReads h e ts rest = receive_at h ts ≡ bound h (height e) (Ok (e, height e, rest))

receive_whole : {e : Tree} {ts rest : List Tok} → SpellsReceive e ts rest → after_mark marks.LeftParen rest ≡ None → (h : ℕ) → ReceiveReads h e ts rest
receive_whole (grammar.receive {p = p} {e = e} {ts = ts} {rest = rest} d) m zero = receive_zero (At p (Sign marks.Arrow) ∷ ts) ∙ sym (above zero (height e + 1) _ (omega arith))
receive_whole (grammar.receive {p = p} {e = e} {ts = ts} {rest = rest} d) m (suc h) = receive_arrow h p ts ∙ unary_whole (arrow_unary d) m h
receive_whole (grammar.receive_paren {p = p} {q = q} {e = e} {ts = ts} {rest = rest} d) m zero = receive_zero (At p (Sign marks.LeftParen) ∷ ts) ∙ sym (above zero (height e + 1) _ (omega arith))
receive_whole (grammar.receive_paren {p = p} {q = q} {e = e} {ts = ts} {rest = rest} d) m (suc h) =
    let f : Found Tree → Reads Tree = λ e. need marks.RightParen e.2 >>= λ r. Ok (Paren e.0, e.1 + 1, r.1) in
    receive_opens h p ts
    ∙ under h (height e) (receive_at h ts) (e, height e, At q (Sign marks.RightParen) ∷ rest) f (receive_whole d (paren_shut q rest) h)
    ∙ ap (λ r. bound (suc h) (height e + 1) (r >>= λ (r : Place × List Tok). Ok (Paren e, height e + 1, r.1))) (paren_closes q rest)

is_receive_of : {e : Tree} {ts rest : List Tok} → SpellsReceive e ts rest → (is_receive e ≡ true) × (bare e ≡ None)
unfolding bare
is_receive_of (grammar.receive d) = (refl, refl)
is_receive_of (grammar.receive_paren d) = ((is_receive_of d).0, refl)

abbrev CommReads : ℕ → Comm → List Tok → List Tok → Type 0
CommReads h c ts rest = comm_at h ts ≡ bound h (comm_height c) (Ok (c, comm_height c, rest))

comm_first : (h : ℕ) (c : Comm) (e : Tree) (ts mid rest : List Tok) → SpellsExpr 1 e ts mid → Quiet mid → height e ≤ comm_height c → (height e ≤ h → comm_after h (e, height e, mid) ≡ bound h (comm_height c) (Ok (c, comm_height c, rest))) → CommReads h c ts rest
unfolding comm_at
comm_first h c e ts mid rest d n le g = from_first h e ts mid (λ e. comm_after h e) (comm_height c) (Ok (c, comm_height c, rest)) d n le g

comm_sends : (h : ℕ) (c : Tree) (p : Place) (ts : List Tok) → comm_after h (c, height c, At p (Sign marks.Arrow) ∷ ts) ≡ (expr_at h 1 ts >>= λ e. Ok (SendTo c e.0, max (height c) e.1, e.2))
unfolding comm_after after_mark
comm_sends h c p ts = refl

arrow_quiet : (p : Place) (ts : List Tok) → Quiet (At p (Sign marks.Arrow) ∷ ts)
unfolding after_mark binary_of
arrow_quiet p ts = (refl, refl)

comm_sent : (h : ℕ) (c e : Tree) (p : Place) (ts rest : List Tok) → SpellsExpr 1 e ts rest → Quiet rest → height c ≤ h → comm_after h (c, height c, At p (Sign marks.Arrow) ∷ ts) ≡ bound h (max (height c) (height e)) (Ok (SendTo c e, max (height c) (height e), rest))
comm_sent h c e p ts rest d o le =
    let f : Found Tree → Reads Comm = λ e. Ok (SendTo c e.0, max (height c) e.1, e.2) in
    comm_sends h c p ts
    ∙ goes_on h (height e) h (max (height c) (height e)) (expr_at h 1 ts) (e, height e, rest) f (Ok (SendTo c e, max (height c) (height e), rest)) (expr_whole d o h) (λ fit. sym (within h (max (height c) (height e)) _ (omega (arith, le, fit)))) (λ lt. omega arith)

comm_receives : (h : ℕ) (e : Tree) (q : Place) (ts : List Tok) → is_receive e ≡ true → bare e ≡ None → comm_after h (e, height e, At q (Sign marks.Colon) ∷ ts) ≡ Ok (Receive e, height e, At q (Sign marks.Colon) ∷ ts)
unfolding comm_after after_mark
comm_receives h e q ts r b = rw (b, r) refl

assigns_comm : (h : ℕ) (xs : List (List ℕ)) (e : Tree) (p q : Place) (ts rest : List Tok) → SpellsReceive e ts (At q (Sign marks.Colon) ∷ rest) → received_at h xs (At p (Sign marks.Assign) ∷ ts) ≡ bound h (height e) (Ok (AssignTo xs e, height e, At q (Sign marks.Colon) ∷ rest))
unfolding received_at need after_mark
assigns_comm h xs e p q ts rest d =
    let f : Found Tree → Reads Comm = λ e. Ok (AssignTo xs e.0, e.1, e.2) in
    ap (λ r. r >>= f) (receive_whole d (over_colon_quiet q rest).1 h) ∙ bound_bind h (height e) (Ok (e, height e, At q (Sign marks.Colon) ∷ rest)) f

defines_comm : (h : ℕ) (xs : List (List ℕ)) (e : Tree) (p q : Place) (ts rest : List Tok) → SpellsReceive e ts (At q (Sign marks.Colon) ∷ rest) → received_at h xs (At p (Sign marks.Define) ∷ ts) ≡ bound h (height e) (Ok (DefineAs xs e, height e, At q (Sign marks.Colon) ∷ rest))
unfolding received_at after_mark
defines_comm h xs e p q ts rest d =
    let f : Found Tree → Reads Comm = λ e. Ok (DefineAs xs e.0, e.1, e.2) in
    ap (λ r. r >>= f) (receive_whole d (over_colon_quiet q rest).1 h) ∙ bound_bind h (height e) (Ok (e, height e, At q (Sign marks.Colon) ∷ rest)) f

one_old : (h : ℕ) (x : List ℕ) (p : Place) (ts : List Tok) → comm_after h (Name x, 1, At p (Sign marks.Assign) ∷ ts) ≡ received_at h (x ∷ []) (At p (Sign marks.Assign) ∷ ts)
unfolding comm_after comm_names bare after_mark
one_old h x p ts = refl

one_new : (h : ℕ) (x : List ℕ) (p : Place) (ts : List Tok) → comm_after h (Name x, 1, At p (Sign marks.Define) ∷ ts) ≡ received_at h (x ∷ []) (At p (Sign marks.Define) ∷ ts)
unfolding comm_after comm_names bare after_mark
one_new h x p ts = refl

two_names : (h : ℕ) (x y : List ℕ) (p q : Place) (ts : List Tok) → comm_after h (Name x, 1, At p (Sign marks.Comma) ∷ At q (words.Name y) ∷ ts) ≡ received_at h (x ∷ y ∷ []) ts
unfolding comm_after comm_names bare after_mark name_at
two_names h x y p q ts = refl

names_some : {xs : List (List ℕ)} {ts rest : List Tok} → SpellsNames xs ts rest → 1 ≤ length xs
names_some last_name = omega arith
names_some (comma_name d) = omega arith

-- names, and what reading the rest gives
comm_named : (h : ℕ) (c : Comm) (x : List ℕ) (p : Place) (mid rest : List Tok) → Quiet mid → 1 ≤ comm_height c → comm_after h (Name x, 1, mid) ≡ bound h (comm_height c) (Ok (c, comm_height c, rest)) → CommReads h c (At p (words.Name x) ∷ mid) rest
comm_named h c x p mid rest n pos g =
    let first : SpellsExpr 1 (Name x) (At p (words.Name x) ∷ mid) mid = alone name in
    comm_first h c (Name x) (At p (words.Name x) ∷ mid) mid rest first n pos (λ le. g)

assign_comm : {xs : List (List ℕ)} {ts : List Tok} {p : Place} {mid : List Tok} → SpellsNames xs ts (At p (Sign marks.Assign) ∷ mid) → length xs ≤ 2 → (e : Tree) (q : Place) (rest : List Tok) → SpellsReceive e mid (At q (Sign marks.Colon) ∷ rest) → (h : ℕ) → CommReads h (AssignTo xs e) ts (At q (Sign marks.Colon) ∷ rest)
assign_comm {p = p} {mid = mid} (last_name {p = r} {x = x}) le e q rest d h =
    comm_named h (AssignTo (x ∷ []) e) x r (At p (Sign marks.Assign) ∷ mid) (At q (Sign marks.Colon) ∷ rest) (quiet_both p mid).0 (omega (arith, height_pos e)) (one_old h x p mid ∙ assigns_comm h (x ∷ []) e p q mid rest d)
assign_comm {p = p} {mid = mid} (comma_name {p = r} {q = s} {x = x} (last_name {p = t} {x = y})) le e q rest d h =
    comm_named h (AssignTo (x ∷ y ∷ []) e) x r (At s (Sign marks.Comma) ∷ At t (words.Name y) ∷ At p (Sign marks.Assign) ∷ mid) (At q (Sign marks.Colon) ∷ rest) (quiet_both s (At t (words.Name y) ∷ At p (Sign marks.Assign) ∷ mid)).2 (omega (arith, height_pos e)) (two_names h x y s t (At p (Sign marks.Assign) ∷ mid) ∙ assigns_comm h (x ∷ y ∷ []) e p q mid rest d)
assign_comm (comma_name (comma_name ds)) le e q rest d h = absurd (omega (arith, le, names_some ds))

define_comm : {xs : List (List ℕ)} {ts : List Tok} {p : Place} {mid : List Tok} → SpellsNames xs ts (At p (Sign marks.Define) ∷ mid) → length xs ≤ 2 → (e : Tree) (q : Place) (rest : List Tok) → SpellsReceive e mid (At q (Sign marks.Colon) ∷ rest) → (h : ℕ) → CommReads h (DefineAs xs e) ts (At q (Sign marks.Colon) ∷ rest)
define_comm {p = p} {mid = mid} (last_name {p = r} {x = x}) le e q rest d h =
    comm_named h (DefineAs (x ∷ []) e) x r (At p (Sign marks.Define) ∷ mid) (At q (Sign marks.Colon) ∷ rest) (quiet_both p mid).1 (omega (arith, height_pos e)) (one_new h x p mid ∙ defines_comm h (x ∷ []) e p q mid rest d)
define_comm {p = p} {mid = mid} (comma_name {p = r} {q = s} {x = x} (last_name {p = t} {x = y})) le e q rest d h =
    comm_named h (DefineAs (x ∷ y ∷ []) e) x r (At s (Sign marks.Comma) ∷ At t (words.Name y) ∷ At p (Sign marks.Define) ∷ mid) (At q (Sign marks.Colon) ∷ rest) (quiet_both s (At t (words.Name y) ∷ At p (Sign marks.Define) ∷ mid)).2 (omega (arith, height_pos e)) (two_names h x y s t (At p (Sign marks.Define) ∷ mid) ∙ defines_comm h (x ∷ y ∷ []) e p q mid rest d)
define_comm (comma_name (comma_name ds)) le e q rest d h = absurd (omega (arith, le, names_some ds))

pub comm_whole : {c : Comm} {ts : List Tok} {q : Place} {rest : List Tok} → SpellsComm c ts (At q (Sign marks.Colon) ∷ rest) → (h : ℕ) → CommReads h c ts (At q (Sign marks.Colon) ∷ rest)
comm_whole {q = q} {rest = rest} (grammar.send_case {p = p} {c = c} {e = e} {ts = ts} {mid = mid} d de) h =
    comm_first h (SendTo c e) c ts (At p (Sign marks.Arrow) ∷ mid) (At q (Sign marks.Colon) ∷ rest) d (arrow_quiet p mid) (omega arith) (λ le. comm_sent h c e p mid (At q (Sign marks.Colon) ∷ rest) de (over_colon_quiet q rest) le)
comm_whole {q = q} {rest = rest} (grammar.receive_case {e = e} {ts = ts} d) h =
    let i = is_receive_of d in
    comm_first h (Receive e) e ts (At q (Sign marks.Colon) ∷ rest) (At q (Sign marks.Colon) ∷ rest) (alone (receive_unary d)) (over_colon_quiet q rest) (omega arith) (λ le. comm_receives h e q rest i.0 i.1 ∙ sym (within h (height e) _ le))
comm_whole {q = q} {rest = rest} (grammar.assign_case {e = e} d le de) h = assign_comm d le e q rest de h
comm_whole {q = q} {rest = rest} (grammar.define_case {e = e} d le de) h = define_comm d le e q rest de h
