-- What the parser's functions read of simple statements, declarations and jumps, as functions on lists of tokens. It is a
-- stepping stone of the proofs: no public clause speaks of it.
use Rattle.std.specs.Prelude.{ℕ, ◌+◌, max, Bool, true, false, List, [], ◌∷◌, Option, Some, None, Result, Ok, Err, nat_lt, if◌then◌else◌}
use Rattle.gr_scan.specs.declared.token.Place.{Place}
use Rattle.gr_scan.specs.declared.token.Mark.{Mark}
use Rattle.gr_scan.specs.declared.token.Mark.TheVariants as marks
use Rattle.gr_scan.specs.Tokens.{Tok, At, Sign}
use Rattle.gr_scan.specs.Tokens as words
use Rattle.gr_tree.specs.declared.expr.BinaryOp.{BinaryOp}
use Rattle.gr_tree.specs.declared.expr.BinaryOp.TheVariants as binaries
use Rattle.gr_tree.specs.Exprs.{WrittenType, Tree, Name, Trees}
use Rattle.gr_tree.specs.Statements.{Simple, Eval, Send, Assign, Define, Update, Increment, Decrement, Act, Var, VarValues, Go, Return}
use Rattle.gr_syntax.specs.declared.opening.Keyword.{Keyword}
use Rattle.gr_syntax.specs.declared.opening.Keyword.TheVariants as keywords
use Rattle.gr_syntax.specs.declared.opening.Joint.{Joint}
use Rattle.gr_syntax.specs.declared.opening.Joint.TheVariants as joints
use Rattle.gr_syntax.specs.Grammar.{after_mark, is_make}
use Rattle.gr_syntax.specs.Reading.{ReadError, Wrong, High, Found, Reads, ◌>>=◌, match_after, operator_at, name_at, need, names_at, type_at, expr_at, exprs_at, arguments_at}

-- what was found, where its height is allowed
abbrev pub up_to : {A : Type 0} → ℕ → Found A → Reads A
up_to h f = if nat_lt h f.1 then Err High else Ok f

unfoldable pub keyword_of : Mark → Option Keyword
keyword_of marks.Var = Some keywords.Var
keyword_of marks.Go = Some keywords.Go
keyword_of marks.Return = Some keywords.Return
keyword_of marks.Break = Some keywords.Break
keyword_of marks.Continue = Some keywords.Continue
keyword_of marks.LeftBrace = Some keywords.Block
keyword_of marks.If = Some keywords.If
keyword_of marks.For = Some keywords.For
keyword_of marks.Select = Some keywords.Select
keyword_of _ = None

unfoldable pub joint_of : Mark → Option Joint
joint_of marks.Comma = Some joints.Comma
joint_of marks.Assign = Some joints.Values
joint_of marks.Define = Some joints.Values
joint_of marks.StarAssign = Some (joints.Update binaries.Multiply)
joint_of marks.SlashAssign = Some (joints.Update binaries.Divide)
joint_of marks.PercentAssign = Some (joints.Update binaries.Remainder)
joint_of marks.ShiftLeftAssign = Some (joints.Update binaries.ShiftLeft)
joint_of marks.ShiftRightAssign = Some (joints.Update binaries.ShiftRight)
joint_of marks.AndAssign = Some (joints.Update binaries.BitAnd)
joint_of marks.AndNotAssign = Some (joints.Update binaries.AndNot)
joint_of marks.PlusAssign = Some (joints.Update binaries.Add)
joint_of marks.MinusAssign = Some (joints.Update binaries.Subtract)
joint_of marks.OrAssign = Some (joints.Update binaries.BitOr)
joint_of marks.CaretAssign = Some (joints.Update binaries.BitXor)
joint_of marks.PlusPlus = Some joints.Increment
joint_of marks.MinusMinus = Some joints.Decrement
joint_of _ = None

abbrev pub ends_mark : Mark → Bool
ends_mark marks.Semicolon = true
ends_mark marks.RightBrace = true
ends_mark _ = false

-- nothing more belongs to a statement
unfoldable pub done_at : List Tok → Bool
done_at [] = false
done_at (At p (words.Name x) ∷ ts) = false
done_at (At p (words.Number n) ∷ ts) = false
done_at (At p (words.Text s) ∷ ts) = false
done_at (At p (Sign m) ∷ ts) = ends_mark m

abbrev pub stops_mark : Mark → Bool
stops_mark marks.RightBrace = true
stops_mark marks.Case = true
stops_mark marks.Default = true
stops_mark _ = false

-- a list of statements ends here
unfoldable pub stops_at : List Tok → Bool
stops_at [] = false
stops_at (At p (words.Name x) ∷ ts) = false
stops_at (At p (words.Number n) ∷ ts) = false
stops_at (At p (words.Text s) ∷ ts) = false
stops_at (At p (Sign m) ∷ ts) = stops_mark m

-- the name that comes first, and the tokens after it
unfoldable pub first_name : List Tok → Option (List ℕ × List Tok)
first_name [] = None
first_name (At p (words.Name x) ∷ ts) = Some (x, ts)
first_name (At p (words.Number n) ∷ ts) = None
first_name (At p (words.Text s) ∷ ts) = None
first_name (At p (Sign m) ∷ ts) = None

unfoldable pub place_at : List Tok → Result Place ReadError
place_at [] = Err Wrong
place_at (At p w ∷ ts) = Ok p

-- the name that an expression is alone
unfoldable pub bare : Tree → Option (List ℕ)
bare (Name x) = Some x
bare _ = None

abbrev pub valued : (Trees → Simple) → Found Trees → Found Simple
valued simple es = (simple es.0, es.1 + 1, es.2)

-- the tokens after a `:=`, where one may stand
unfoldable pub define_at : Bool → List Tok → Option (List Tok)
define_at true ts = after_mark marks.Define ts
define_at false ts = None

-- after the names of an assignment or, where it may be one, of a definition
unfoldable pub values_at : ℕ → Bool → List (List ℕ) → List Tok → Reads Simple
values_at h may xs ts = match_after (define_at may ts)
    (λ rest. exprs_at (expr_at h) false rest >>= λ es. up_to h (valued (Define xs) es))
    (need marks.Assign ts >>= λ r. exprs_at (expr_at h) false r.1 >>= λ es. up_to h (valued (Assign xs) es))

-- this name, and the names after the comma behind it
unfoldable pub names_from : List ℕ → List Tok → Reads (List (List ℕ))
names_from x ts = names_at ts >>= λ xs. Ok (x ∷ xs.0, 0, xs.2)

unfoldable pub update_at : ℕ → List ℕ → BinaryOp → List Tok → Reads Simple
update_at h x op ts = expr_at h 1 ts >>= λ e. up_to h (Update x op e.0, e.1 + 1, e.2)

-- after a name and this joint
unfoldable pub joined_at : ℕ → Bool → List ℕ → Joint → List Tok → List Tok → Reads Simple
joined_at h may x joints.Comma from ts = names_from x ts >>= λ xs. values_at h may xs.0 xs.2
joined_at h may x joints.Values from ts = values_at h may (x ∷ []) from
joined_at h may x (joints.Update op) from ts = update_at h x op ts
joined_at h may x joints.Increment from ts = up_to h (Increment x, 1, ts)
joined_at h may x joints.Decrement from ts = up_to h (Decrement x, 1, ts)

abbrev pub alone_at : ℕ → Found Tree → Reads Simple
alone_at h e = up_to h (Eval e.0, e.1 + 1, e.2)

unfoldable pub simple_named : ℕ → Bool → Found Tree → List ℕ → Reads Simple
simple_named h may e x = match_after (operator_at joint_of e.2) (λ j. joined_at h may x j.0 e.2 j.1) (alone_at h e)

abbrev pub sent_at : ℕ → Found Tree → List Tok → Reads Simple
sent_at h c ts = expr_at h 1 ts >>= λ e. up_to h (Send c.0 e.0, max c.1 e.1 + 1, e.2)

-- a simple statement that begins with this expression, of height at most h
unfoldable pub simple_after : ℕ → Bool → Found Tree → Reads Simple
simple_after h may e = match_after (after_mark marks.Arrow e.2) (λ rest. sent_at h e rest)
    (match_after (bare e.0) (λ x. simple_named h may e x) (alone_at h e))

-- after the type of a declaration
unfoldable pub var_typed : ℕ → List (List ℕ) → Found WrittenType → Reads Act
var_typed h xs t = match_after (after_mark marks.Assign t.2)
    (λ rest. exprs_at (expr_at h) false rest >>= λ es. up_to h (VarValues xs (Some t.0) es.0, max t.1 es.1 + 1, es.2))
    (up_to h (Var xs t.0, t.1 + 1, t.2))

-- after the names of a declaration
unfoldable pub var_after : ℕ → List (List ℕ) → List Tok → Reads Act
var_after h xs ts = match_after (after_mark marks.Assign ts)
    (λ rest. exprs_at (expr_at h) false rest >>= λ es. up_to h (VarValues xs None es.0, es.1 + 1, es.2))
    (type_at h ts >>= λ t. var_typed h xs t)

unfoldable pub var_at : ℕ → List Tok → Reads Act
var_at h ts = names_at ts >>= λ xs. var_after h xs.0 xs.2

unfoldable pub go_at : ℕ → List Tok → Reads Act
go_at h ts = name_at ts >>= λ f. if is_make f.0 then Err Wrong else (need marks.LeftParen f.1 >>= λ r.
    arguments_at (expr_at h) r.1 >>= λ es. up_to h (Go f.0 es.0, es.1 + 2, es.2))

unfoldable pub return_at : ℕ → List Tok → Reads Act
return_at h ts = if done_at ts then Ok (Return None, 1, ts) else (expr_at h 1 ts >>= λ e. up_to h (Return (Some e.0), e.1 + 1, e.2))

-- a jump, perhaps to a label
unfoldable pub jump_at : (Option (List ℕ) → Act) → List Tok → Reads Act
jump_at act ts = match_after (first_name ts) (λ x. Ok (act (Some x.0), 1, x.1)) (Ok (act None, 1, ts))
