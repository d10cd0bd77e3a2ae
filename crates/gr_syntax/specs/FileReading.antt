-- What the parser reads of functions and files, as functions on lists of tokens. It is a stepping stone of the proofs: no
-- public clause speaks of it.
use Rattle.std.specs.Prelude.{ℕ, true, List, [], ◌∷◌, ◌++◌, Option, Some, None, Result, Ok, if◌then◌else◌}
use Rattle.gr_scan.specs.declared.token.Mark.TheVariants as marks
use Rattle.gr_scan.specs.Tokens.{Tok}
use Rattle.gr_tree.specs.Exprs.{WrittenType}
use Rattle.gr_tree.specs.Files.{Group, GroupOf, Function, FunctionOf, FileTree, FileOf}
use Rattle.gr_syntax.specs.Grammar.{after_mark}
use Rattle.gr_syntax.specs.Reading.{ReadError, Found, Reads, ◌>>=◌, Turn, Stop, Go, loop, match_after, need, name_at, names_at, type_at, ends_at}
use Rattle.gr_syntax.specs.StatementReading.{statement_at, block_at}

-- Nothing above a function asks how high it is: what is found here counts as of no height.

-- what follows the type of a group, after which the groups are these
abbrev pub groups_after : List Group → List Tok → Result (Turn (Found (List Group))) ReadError
groups_after gs ts = match_after (after_mark marks.Comma ts)
    (λ rest. if ends_at true rest then Ok (Stop (gs, 0, rest)) else Ok (Go (gs, 0, rest)))
    (Ok (Stop (gs, 0, ts)))

unfoldable pub groups_turn : ℕ → Found (List Group) → Result (Turn (Found (List Group))) ReadError
groups_turn h gs = names_at gs.2 >>= λ xs. type_at h xs.2 >>= λ t. groups_after (gs.0 ++ (GroupOf xs.0 t.0 ∷ [])) t.2

-- groups of parameters with commas between them, and one after them where a `)` follows
unfoldable pub groups_at : ℕ → List Tok → Reads (List Group)
groups_at h ts = loop (groups_turn h) ([], 0, ts)

-- the parameters of a function, with their parentheses
unfoldable pub parameters_at : ℕ → List Tok → Reads (List Group)
parameters_at h ts = need marks.LeftParen ts >>= λ a. match_after (after_mark marks.RightParen a.1)
    (λ rest. Ok ([], 0, rest))
    (groups_at h a.1 >>= λ gs. need marks.RightParen gs.2 >>= λ b. Ok (gs.0, 0, b.1))

-- the type of a result, if one stands before the `{`
unfoldable pub result_at : ℕ → List Tok → Reads (Option WrittenType)
result_at h ts = match_after (after_mark marks.LeftBrace ts)
    (λ rest. Ok (None, 0, ts))
    (type_at h ts >>= λ t. Ok (Some t.0, 0, t.2))

-- a function with types and statements of height at most h
unfoldable pub function_at : ℕ → List Tok → Reads Function
function_at h ts = do
  a ← need marks.Func ts
  f ← name_at a.1
  gs ← parameters_at h f.1
  t ← result_at h gs.2
  b ← block_at (statement_at h) t.2
  Ok (FunctionOf a.0 f.0 gs.0 t.0 b.0.0 b.0.1, 0, b.2)

-- a function and its semicolon
unfoldable pub functions_more : ℕ → Found (List Function) → Result (Turn (Found (List Function))) ReadError
functions_more h fs = function_at h fs.2 >>= λ f. need marks.Semicolon f.2 >>= λ r. Ok (Go (fs.0 ++ (f.0 ∷ []), 0, r.1))

abbrev pub functions_from : ℕ → Found (List Function) → List Tok → Result (Turn (Found (List Function))) ReadError
functions_from h fs [] = Ok (Stop fs)
functions_from h fs (t ∷ ts) = functions_more h fs

unfoldable pub functions_turn : ℕ → Found (List Function) → Result (Turn (Found (List Function))) ReadError
functions_turn h fs = functions_from h fs fs.2

-- the functions up to the end
unfoldable pub functions_at : ℕ → List Tok → Reads (List Function)
functions_at h ts = loop (functions_turn h) ([], 0, ts)

unfoldable pub file_at : ℕ → List Tok → Result FileTree ReadError
file_at h ts = do
  a ← need marks.Package ts
  x ← name_at a.1
  b ← need marks.Semicolon x.1
  fs ← functions_at h b.1
  Ok (FileOf a.0 x.0 fs.0)
