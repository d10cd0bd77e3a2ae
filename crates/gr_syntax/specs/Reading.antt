-- What the parser's functions read, as functions on lists of tokens. It is a stepping stone of the proofs: no public clause
-- speaks of it.
use Rattle.std.specs.Prelude.{ℕ, zero, suc, ◌+◌, max, Bool, true, false, List, [], ◌∷◌, ◌++◌, length, Option, Some, None, Result, Ok, Err, nat_lt, if◌then◌else◌}
use Rattle.gr_scan.specs.declared.token.Place.{Place}
use Rattle.gr_scan.specs.declared.token.Mark.{Mark}
use Rattle.gr_scan.specs.declared.token.Mark.TheVariants as marks
use Rattle.gr_scan.specs.Tokens.{Tok, At, Sign}
use Rattle.gr_scan.specs.Tokens as words
use Rattle.gr_tree.specs.declared.expr.UnaryOp.{UnaryOp}
use Rattle.gr_tree.specs.declared.expr.UnaryOp.TheVariants as unaries
use Rattle.gr_tree.specs.declared.expr.BinaryOp.{BinaryOp}
use Rattle.gr_tree.specs.declared.expr.BinaryOp.TheVariants as binaries
use Rattle.gr_tree.specs.declared.expr.Direction.{Direction}
use Rattle.gr_tree.specs.declared.expr.Direction.TheVariants as directions
use Rattle.gr_tree.specs.Exprs.{WrittenType, TypeName, UnitType, Chan, ParenType, Tree, Number, Text, Name, UnitValue, Paren, Call, Make, MakeSized, Unary, Binary, Trees, none, more}
use Rattle.gr_syntax.specs.Grammar.{level, after_mark, is_make}

-- why nothing is read: no tree begins like this, or it is too high
pub data ReadError : Type 0 where
  Wrong : ReadError
  High : ReadError

-- what is read, its height, and the tokens after it
abbrev pub Found : Type 0 → Type 0
Found A = A × ℕ × List Tok

abbrev pub Reads : Type 0 → Type 0
Reads A = Result (Found A) ReadError

infixl 10 ◌>>=◌
abbrev pub ◌>>=◌ : {A B : Type 0} → Result A ReadError → (A → Result B ReadError) → Result B ReadError
(Ok x) >>= f = f x
(Err e) >>= f = Err e

-- a turn of a loop: the last, or one more
pub data Turn (S : Type 0) : Type 0 where
  Stop : S → Turn S
  Go : S → Turn S

abbrev pub turned : {S : Type 0} → (S → Result S ReadError) → Turn S → Result S ReadError
turned again (Stop s) = Ok s
turned again (Go s) = again s

-- at most n turns
abbrev pub turns : {S : Type 0} → (S → Result (Turn S) ReadError) → ℕ → S → Result S ReadError
turns step zero s = Err Wrong
turns step (suc n) s = step s >>= turned (turns step n)

-- as many turns as there are tokens
unfoldable pub loop : {A : Type 0} → (Found A → Result (Turn (Found A)) ReadError) → Found A → Reads A
loop step s = turns step (suc (length s.2)) s

abbrev pub match_after : {A B : Type 0} → Option A → (A → B) → B → B
match_after (Some x) f y = f x
match_after None f y = y

unfoldable pub binary_of : Mark → Option BinaryOp
binary_of marks.Star = Some binaries.Multiply
binary_of marks.Slash = Some binaries.Divide
binary_of marks.Percent = Some binaries.Remainder
binary_of marks.ShiftLeft = Some binaries.ShiftLeft
binary_of marks.ShiftRight = Some binaries.ShiftRight
binary_of marks.And = Some binaries.BitAnd
binary_of marks.AndNot = Some binaries.AndNot
binary_of marks.Plus = Some binaries.Add
binary_of marks.Minus = Some binaries.Subtract
binary_of marks.Or = Some binaries.BitOr
binary_of marks.Caret = Some binaries.BitXor
binary_of marks.Equal = Some binaries.Equal
binary_of marks.NotEqual = Some binaries.NotEqual
binary_of marks.Less = Some binaries.Less
binary_of marks.LessEqual = Some binaries.LessEqual
binary_of marks.Greater = Some binaries.Greater
binary_of marks.GreaterEqual = Some binaries.GreaterEqual
binary_of marks.AndAnd = Some binaries.LogicalAnd
binary_of marks.OrOr = Some binaries.LogicalOr
binary_of _ = None

unfoldable pub unary_of : Mark → Option UnaryOp
unary_of marks.Plus = Some unaries.Plus
unary_of marks.Minus = Some unaries.Negate
unary_of marks.Not = Some unaries.Not
unary_of marks.Caret = Some unaries.Complement
unary_of marks.Arrow = Some unaries.Receive
unary_of _ = None

-- the operator that comes first, by what its mark says
abbrev pub operator_at : {O : Type 0} → (Mark → Option O) → List Tok → Option (O × List Tok)
operator_at of [] = None
operator_at of (At p (words.Name x) ∷ ts) = None
operator_at of (At p (words.Number n) ∷ ts) = None
operator_at of (At p (words.Text s) ∷ ts) = None
operator_at of (At p (Sign m) ∷ ts) = match_after (of m) (λ op. Some (op, ts)) None

unfoldable pub need : Mark → List Tok → Result (Place × List Tok) ReadError
need m [] = Err Wrong
need m (At p w ∷ ts) = match_after (after_mark m (At p w ∷ ts)) (λ rest. Ok (p, rest)) (Err Wrong)

unfoldable pub name_at : List Tok → Result (List ℕ × List Tok) ReadError
name_at [] = Err Wrong
name_at (At p (words.Name x) ∷ ts) = Ok (x, ts)
name_at (At p (words.Number n) ∷ ts) = Err Wrong
name_at (At p (words.Text s) ∷ ts) = Err Wrong
name_at (At p (Sign m) ∷ ts) = Err Wrong

abbrev pub names_after : List (List ℕ) → List Tok → Result (Turn (Found (List (List ℕ)))) ReadError
names_after xs ts = match_after (after_mark marks.Comma ts) (λ rest. Ok (Go (xs, 0, rest))) (Ok (Stop (xs, 0, ts)))

unfoldable pub names_turn : Found (List (List ℕ)) → Result (Turn (Found (List (List ℕ)))) ReadError
names_turn xs = name_at xs.2 >>= λ x. names_after (xs.0 ++ (x.0 ∷ [])) x.1

-- names with commas between them
unfoldable pub names_at : List Tok → Reads (List (List ℕ))
names_at ts = loop names_turn ([], 0, ts)

-- a channel type, from its element on
unfoldable pub channel_at : (List Tok → Reads WrittenType) → Direction → List Tok → Reads WrittenType
channel_at rec d ts = rec ts >>= λ t. Ok (Chan d t.0, t.1 + 1, t.2)

-- a channel type, after its "chan"
unfoldable pub both_at : (List Tok → Reads WrittenType) → List Tok → Reads WrittenType
both_at rec ts = match_after (after_mark marks.Arrow ts) (λ rest. channel_at rec directions.Send rest) (channel_at rec directions.Both ts)

-- a type in parentheses, after the first
unfoldable pub paren_type_at : (List Tok → Reads WrittenType) → List Tok → Reads WrittenType
paren_type_at rec ts = rec ts >>= λ t. need marks.RightParen t.2 >>= λ r. Ok (ParenType t.0, t.1 + 1, r.1)

-- a name, or "struct" "{" "}"
unfoldable pub plain_type_at : List Tok → Reads WrittenType
plain_type_at ts = match_after (after_mark marks.Struct ts)
    (λ rest. need marks.LeftBrace rest >>= λ a. need marks.RightBrace a.1 >>= λ b. Ok (UnitType, 1, b.1))
    (name_at ts >>= λ x. Ok (TypeName x.0, 1, x.1))

-- a type, whose parts rec reads
unfoldable pub type_from : (List Tok → Reads WrittenType) → List Tok → Reads WrittenType
type_from rec ts = match_after (after_mark marks.Chan ts)
    (λ rest. both_at rec rest)
    (match_after (after_mark marks.Arrow ts)
    (λ rest. need marks.Chan rest >>= λ c. channel_at rec directions.Receive c.1)
    (match_after (after_mark marks.LeftParen ts)
    (λ rest. paren_type_at rec rest)
    (plain_type_at ts)))

-- a type of height at most h
unfoldable pub type_at : ℕ → List Tok → Reads WrittenType
type_at zero ts = Err High
type_at (suc h) ts = type_from (type_at h) ts

abbrev pub joined : BinaryOp → Found Tree → Found Tree → Found Tree
joined op a b = (Binary op a.0 b.0, max a.1 b.1 + 1, b.2)

-- one more operator, where it binds at least as strongly as l
abbrev pub chain_at : (ℕ → List Tok → Reads Tree) → ℕ → ℕ → Found Tree → Option (BinaryOp × List Tok) → Result (Turn (Found Tree)) ReadError
chain_at rec h l a None = Ok (Stop a)
chain_at rec h l a (Some o) =
    if nat_lt (level o.0) l then Ok (Stop a) else (if nat_lt h a.1 then Err High else (rec (level o.0 + 1) o.1 >>= λ b. Ok (Go (joined o.0 a b))))

unfoldable pub chain_turn : (ℕ → List Tok → Reads Tree) → ℕ → ℕ → Found Tree → Result (Turn (Found Tree)) ReadError
chain_turn rec h l a = chain_at rec h l a (operator_at binary_of a.2)

abbrev pub snoc : Trees → Tree → Trees
snoc none x = more x none
snoc (more e es) x = more e (snoc es x)

-- the list is at its end: a `)` follows the comma, where a comma may stand last
unfoldable pub ends_at : Bool → List Tok → Bool
ends_at false ts = false
ends_at true ts = match_after (after_mark marks.RightParen ts) (λ rest. true) false

-- what follows an expression of a list
abbrev pub exprs_after : Bool → Found Trees → Found Tree → List Tok → Result (Turn (Found Trees)) ReadError
exprs_after trailing es e ts = match_after (after_mark marks.Comma ts)
    (λ rest. if ends_at trailing rest then Ok (Stop (snoc es.0 e.0, max es.1 e.1, rest)) else Ok (Go (snoc es.0 e.0, max es.1 e.1, rest)))
    (Ok (Stop (snoc es.0 e.0, max es.1 e.1, ts)))

unfoldable pub exprs_turn : (ℕ → List Tok → Reads Tree) → Bool → Found Trees → Result (Turn (Found Trees)) ReadError
exprs_turn rec trailing es = rec 1 es.2 >>= λ e. exprs_after trailing es e e.2

-- expressions with commas between them, and one after them where `trailing` and a `)` follows
unfoldable pub exprs_at : (ℕ → List Tok → Reads Tree) → Bool → List Tok → Reads Trees
exprs_at rec trailing ts = loop (exprs_turn rec trailing) (none, 0, ts)

-- the arguments of a call, after its "(", with its ")"
unfoldable pub arguments_at : (ℕ → List Tok → Reads Tree) → List Tok → Reads Trees
arguments_at rec ts = match_after (after_mark marks.RightParen ts)
    (λ rest. Ok (none, 0, rest))
    (exprs_at rec true ts >>= λ es. need marks.RightParen es.2 >>= λ r. Ok (es.0, es.1, r.1))

-- the rest of a call of this function, after its "("
unfoldable pub call_at : (ℕ → List Tok → Reads Tree) → List ℕ → List Tok → Reads Tree
call_at rec x ts = arguments_at rec ts >>= λ es. Ok (Call x es.0, es.1 + 1, es.2)

-- a `)`, perhaps after a comma
unfoldable pub close_at : List Tok → Result (List Tok) ReadError
close_at ts = match_after (after_mark marks.Comma ts) (λ rest. need marks.RightParen rest >>= λ r. Ok r.1) (need marks.RightParen ts >>= λ r. Ok r.1)

-- the size in a make of this type, after the comma before it
unfoldable pub size_at : (ℕ → List Tok → Reads Tree) → Found WrittenType → List Tok → Reads Tree
size_at rec t ts = rec 1 ts >>= λ e. close_at e.2 >>= λ rest. Ok (MakeSized t.0 e.0, max t.1 e.1 + 1, rest)

-- the rest of a make of this type, after the comma behind it
unfoldable pub make_after : (ℕ → List Tok → Reads Tree) → Found WrittenType → List Tok → Reads Tree
make_after rec t ts = match_after (after_mark marks.RightParen ts) (λ rest. Ok (Make t.0, t.1 + 1, rest)) (size_at rec t ts)

-- the rest of a make, after its "("
unfoldable pub make_at : (List Tok → Reads WrittenType) → (ℕ → List Tok → Reads Tree) → List Tok → Reads Tree
make_at types rec ts = types ts >>= λ t. match_after (after_mark marks.Comma t.2)
    (λ rest. make_after rec t rest)
    (need marks.RightParen t.2 >>= λ r. Ok (Make t.0, t.1 + 1, r.1))

-- what begins with this name
unfoldable pub named_at : (List Tok → Reads WrittenType) → (ℕ → List Tok → Reads Tree) → List ℕ → List Tok → Reads Tree
named_at types rec x ts = match_after (after_mark marks.LeftParen ts)
    (λ rest. if is_make x then make_at types rec rest else call_at rec x rest)
    (Ok (Name x, 1, ts))

-- "{" "}" "{" "}", after "struct"
unfoldable pub unit_at : List Tok → Reads Tree
unit_at ts = need marks.LeftBrace ts >>= λ a. need marks.RightBrace a.1 >>= λ b. need marks.LeftBrace b.1 >>= λ c. need marks.RightBrace c.1 >>= λ d. Ok (UnitValue, 1, d.1)

-- an expression in parentheses, after the first
unfoldable pub paren_at : (ℕ → List Tok → Reads Tree) → List Tok → Reads Tree
paren_at rec ts = rec 1 ts >>= λ e. need marks.RightParen e.2 >>= λ r. Ok (Paren e.0, e.1 + 1, r.1)

-- a number, a string, or what begins with a name
unfoldable pub word_at : (List Tok → Reads WrittenType) → (ℕ → List Tok → Reads Tree) → List Tok → Reads Tree
word_at types rec [] = Err Wrong
word_at types rec (At p (words.Number n) ∷ ts) = Ok (Number n, 1, ts)
word_at types rec (At p (words.Text s) ∷ ts) = Ok (Text s, 1, ts)
word_at types rec (At p (words.Name x) ∷ ts) = named_at types rec x ts
word_at types rec (At p (Sign m) ∷ ts) = Err Wrong

-- the level of what no operator joins
abbrev pub tight : ℕ
tight = 6

-- what no binary operator joins; `types` reads its types, and `rec` its expressions
unfoldable pub unary_at : (List Tok → Reads WrittenType) → (ℕ → List Tok → Reads Tree) → List Tok → Reads Tree
unary_at types rec ts = match_after (after_mark marks.LeftParen ts)
    (λ rest. paren_at rec rest)
    (match_after (operator_at unary_of ts)
    (λ o. rec tight o.1 >>= λ e. Ok (Unary o.0 e.0, e.1 + 1, e.2))
    (match_after (after_mark marks.Struct ts)
    (λ rest. unit_at rest)
    (word_at types rec ts)))

-- an expression of height at most h, whose operators bind at least as strongly as l
unfoldable pub expr_at : ℕ → ℕ → List Tok → Reads Tree
expr_at zero l ts = Err High
expr_at (suc h) l ts = unary_at (type_at h) (expr_at h) ts >>= loop (chain_turn (expr_at h) h l)

-- what no binary operator joins, of height at most h + 1
abbrev pub operand_at : ℕ → List Tok → Reads Tree
operand_at h ts = unary_at (type_at h) (expr_at h) ts
