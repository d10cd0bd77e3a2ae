-- What the parser's values mean. No public clause speaks of it.
use Rattle.std.specs.Prelude.{◌≡◌, ◌<◌, ◌≤◌, ℕ, IfOk, List, [], ◌∷◌, length, Option, Some, None, Result, Ok, Err}
use Rattle.std.specs.Borrow.{Bor}
use Rattle.gr_scan.specs.declared.token.Token.{Token}
use Rattle.gr_scan.specs.Tokens.{Tok, token_of, tokens_of}
use Rattle.gr_tree.specs.declared.expr.Expr.{Expr}
use Rattle.gr_tree.specs.Exprs.{Tree, tree_of}
use Rattle.gr_syntax.specs.declared.look.ReadError as code_fault
use Rattle.gr_syntax.specs.declared.look.ReadError.TheVariants as faults
use Rattle.gr_syntax.specs.declared.look.Found as code
use Rattle.gr_syntax.specs.Reading.{ReadError, Wrong, High, Found}

-- What a function returned, seen by view, is what reading gives, unless memory ran out.
abbrev pub Fails : {Y : Type 0} → code_fault.ReadError → Result Y ReadError → Type 0
Fails (faults.Wrong left) read = read ≡ Err Wrong
Fails (faults.TooHigh left) read = read ≡ Err High
Fails faults.Memory read = Unit {0}

abbrev pub Gives : {X Y : Type 0} → (X → Y) → Result X code_fault.ReadError → Result Y ReadError → Type 0
Gives view (Ok x) read = read ≡ Ok (view x)
Gives view (Err e) read = Fails e read

-- what was found, its height, and the tokens after it
abbrev pub found_of : {X Y : Type 0} → (X → Y) → code.Found X → Found Y
found_of view f = (view f.value, f.height, tokens_of f.rest.now)

-- what a function found in these tokens is what reading them gives, unless memory ran out
abbrev pub Finds : {X Y : Type 0} → (X → Y) → List Token → Result (code.Found X) code_fault.ReadError → (List Tok → Result (Found Y) ReadError) → Type 0
Finds view tokens result read = Gives (found_of view) result (read (tokens_of tokens))

-- what a function found after this expression is what reading on from it gives, unless memory ran out
abbrev pub Continues : {X Y : Type 0} → (X → Y) → code.Found Expr → Result (code.Found X) code_fault.ReadError → (Found Tree → Result (Found Y) ReadError) → Type 0
Continues view first result read = Gives (found_of view) result (read (found_of tree_of first))

-- what was found is no higher than this
abbrev pub AtMost : {X : Type 0} → ℕ → Result (code.Found X) code_fault.ReadError → Type 0
AtMost limit result = IfOk result (λ f. f.height ≤ limit)

-- fewer tokens are left after it than these
abbrev pub Shorter : {X : Type 0} → List Token → Result (code.Found X) code_fault.ReadError → Type 0
Shorter tokens result = IfOk result (λ f. length f.rest.now < length tokens)

-- the first token and the others
abbrev pub Splits : Option (Bor Token × Bor (List Token)) → List Tok → Type 0
Splits (Some p) ts = ts ≡ token_of p.0.now ∷ tokens_of p.1.now
Splits None ts = ts ≡ []

-- the tokens after a mark, if it is there
abbrev pub Sees : Option (Bor (List Token)) → Option (List Tok) → Type 0
Sees (Some r) o = o ≡ Some (tokens_of r.now)
Sees None o = o ≡ None

-- an operator and the tokens after it, if one is there
abbrev pub SeesOperator : {O : Type 0} → Option (O × Bor (List Token)) → Option (O × List Tok) → Type 0
SeesOperator (Some p) o = o ≡ Some (p.0, tokens_of p.1.now)
SeesOperator None o = o ≡ None
