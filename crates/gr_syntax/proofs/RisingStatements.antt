-- The statements of a tree begin one after another, as its tokens do.
use Rattle.std.proofs.Common.{ℕ, ◌+◌, ◌≤◌, List, [], ◌∷◌, ◌++◌, arith}
use Rattle.std.specs.Prelude.{Option, Some, None}
use Rattle.std.specs.Prelude.{All}
use Rattle.std.proofs.lemmas.List.Elements.{All-nil, All-cons}
use Rattle.gr_scan.specs.declared.token.Place.{Place}
use Rattle.gr_scan.specs.Tokens.{Tok, At, Word}
use Rattle.gr_scan.specs.Rising.{RiseFrom}
use Rattle.gr_scan.proofs.Rising.{rise_earlier}
use Rattle.gr_tree.specs.Exprs.{WrittenType, Tree}
use Rattle.gr_tree.specs.Statements.{Heading, Heads, IfHead, Test, ForHead, Loop, Range, Statement, Does, Block, If, IfElse, IfElseIf, For, Select, Label, EmptyLabel, Statements, end, then, Clauses, closed, default, case}
use Rattle.gr_tree.specs.Files.{Group, Function, FunctionOf}
use Rattle.gr_syntax.specs.Grammar.{SpellsType, SpellsExpr}
use Rattle.gr_syntax.specs.StatementGrammar.{SpellsHeading, SpellsPart, SpellsIfHead, SpellsPost, SpellsForHead, SpellsStatement, SpellsIf, SpellsList, SpellsBlock, SpellsClauses}
use Rattle.gr_syntax.specs.StatementGrammar as grammar
use Rattle.gr_syntax.specs.FileGrammar.{SpellsGroups, SpellsParameters, SpellsFunction, SpellsFunctions}
use Rattle.gr_syntax.specs.FileGrammar as files
use Rattle.gr_syntax.proofs.Rising as rising
use Rattle.gr_syntax.proofs.Rising.{Takes, take_type, take_expr, take_names, take_simple, take_act, take_comm}

-- where statements begin, headings included, in the order of the text
abbrev pub heading_begins : Option Heading → List ℕ
heading_begins None = []
heading_begins (Some (Heads place simple)) = place.start ∷ []

abbrev pub if_begins : IfHead → List ℕ
if_begins (Test init condition) = heading_begins init

abbrev pub for_begins : ForHead → List ℕ
for_begins (Loop init condition post) = heading_begins init ++ heading_begins post
for_begins (Range target channel) = []

abbrev mutual
  pub begins_of : Statement → List ℕ
  begins_of (Does place act) = place.start ∷ []
  begins_of (Block place body) = begins_in body
  begins_of (If place head body) = place.start ∷ (if_begins head ++ begins_in body)
  begins_of (IfElse place head body otherwise) = place.start ∷ (if_begins head ++ (begins_in body ++ begins_in otherwise))
  begins_of (IfElseIf place head body otherwise) = place.start ∷ (if_begins head ++ (begins_in body ++ begins_of otherwise))
  begins_of (For place head body) = place.start ∷ (for_begins head ++ begins_in body)
  begins_of (Select place clauses) = place.start ∷ begins_among clauses
  begins_of (Label place name statement) = begins_of statement
  begins_of (EmptyLabel place name) = []

  pub begins_in : Statements → List ℕ
  begins_in end = []
  begins_in (then first others) = begins_of first ++ begins_in others

  pub begins_among : Clauses → List ℕ
  begins_among closed = []
  begins_among (default body others) = begins_in body ++ begins_among others
  begins_among (case communication body others) = begins_in body ++ begins_among others

-- numbers rise from one, and behind them the tokens
abbrev pub After : ℕ → List ℕ → List Tok → Type 0
After n [] rest = RiseFrom n rest
After n (m ∷ ms) rest = (n ≤ m) × After (m + 1) ms rest

after_earlier : (m n : ℕ) → m ≤ n → (xs : List ℕ) (rest : List Tok) → After n xs rest → After m xs rest
after_earlier m n le [] rest a = rise_earlier m n le rest a
after_earlier m n le (x ∷ xs) rest a = let at : n ≤ x = a.0 in (omega arith, a.1)

after_both : (n : ℕ) (xs ys : List ℕ) (mid rest : List Tok) → After n xs mid
    → ((m : ℕ) → RiseFrom m mid → After m ys rest) → After n (xs ++ ys) rest
after_both n [] ys mid rest a next = next n a
after_both n (x ∷ xs) ys mid rest a next = (a.0, after_both (x + 1) xs ys mid rest a.1 next)

after_until : (n : ℕ) (xs : List ℕ) (mid rest : List Tok) → After n xs mid
    → ((m : ℕ) → RiseFrom m mid → RiseFrom m rest) → After n xs rest
after_until n [] mid rest a next = next n a
after_until n (x ∷ xs) mid rest a next = (a.0, after_until (x + 1) xs mid rest a.1 next)

-- the tokens have statements that begin so, and then leave the rest
pub record Gives (ts : List Tok) (begins : List ℕ) (rest : List Tok) : Type 0 where
  pub rises : (n : ℕ) → RiseFrom n ts → After n begins rest

pub stays : {ts : List Tok} → Gives ts [] ts
stays = record { rises = λ n r. r }

pub both : {ts mid rest : List Tok} {xs ys : List ℕ} → Gives ts xs mid → Gives mid ys rest → Gives ts (xs ++ ys) rest
both {ts} {mid} {rest} {xs} {ys} a b = record { rises = λ n r. after_both n xs ys mid rest (a.rises n r) b.rises }

until : {ts mid rest : List Tok} {xs : List ℕ} → Gives ts xs mid → Gives mid [] rest → Gives ts xs rest
until {ts} {mid} {rest} {xs} a b = record { rises = λ n r. after_until n xs mid rest (a.rises n r) b.rises }

over : {p : Place} {w : Word} {ts rest : List Tok} {xs : List ℕ} → Gives ts xs rest → Gives (At p w ∷ ts) xs rest
over {p} {w} {ts} {rest} {xs} a =
    record { rises = λ n r. let at : n ≤ p.start = r.0 in after_earlier n (p.start + 1) (omega arith) xs rest (a.rises (p.start + 1) r.1) }

begins : {p : Place} {w : Word} {ts rest : List Tok} {xs : List ℕ} → Gives ts xs rest → Gives (At p w ∷ ts) (p.start ∷ xs) rest
begins {p} a = record { rises = λ n r. (r.0, a.rises (p.start + 1) r.1) }

past : {p : Place} {w : Word} {ts rest : List Tok} {xs : List ℕ} → Gives ts xs (At p w ∷ rest) → Gives ts xs rest
past a = until a (over stays)

-- what has no statements in it, and what is one
taken : {ts rest : List Tok} → Takes ts rest → Gives ts [] rest
taken {ts} {rest} a = record { rises = λ n r. rise_earlier n (n + 1) (omega arith) rest (a.rises n r) }

stands : {p : Place} {w : Word} {ts rest : List Tok} → Takes (At p w ∷ ts) rest → Gives (At p w ∷ ts) (p.start ∷ []) rest
stands {p} a = record { rises = λ n r. (r.0, a.rises p.start (omega arith, r.1)) }

heading : {h : Heading} {ts rest : List Tok} → SpellsHeading h ts rest → Gives ts (heading_begins (Some h)) rest
heading (grammar.heads d) = stands (take_simple d)

post : {h : Heading} {ts rest : List Tok} → SpellsPost h ts rest → Gives ts (heading_begins (Some h)) rest
post (grammar.post n d) = heading d

heading_part : {h : Option Heading} {ts rest : List Tok} → SpellsPart SpellsHeading h ts rest → Gives ts (heading_begins h) rest
heading_part grammar.missing = stays
heading_part (grammar.there d) = heading d

post_part : {h : Option Heading} {ts rest : List Tok} → SpellsPart SpellsPost h ts rest → Gives ts (heading_begins h) rest
post_part grammar.missing = stays
post_part (grammar.there d) = post d

condition_part : {e : Option Tree} {ts rest : List Tok} → SpellsPart (SpellsExpr 1) e ts rest → Gives ts [] rest
condition_part grammar.missing = stays
condition_part (grammar.there d) = taken (take_expr d)

type_part : {t : Option WrittenType} {ts rest : List Tok} → SpellsPart SpellsType t ts rest → Gives ts [] rest
type_part grammar.missing = stays
type_part (grammar.there d) = taken (take_type d)

if_head : {h : IfHead} {ts rest : List Tok} → SpellsIfHead h ts rest → Gives ts (if_begins h) rest
if_head (grammar.test d) = taken (take_expr d)
if_head (grammar.part_test d e) = until (past (heading_part d)) (taken (take_expr e))

for_head : {h : ForHead} {ts rest : List Tok} → SpellsForHead h ts rest → Gives ts (for_begins h) rest
for_head (grammar.while d) = condition_part d
for_head (grammar.parts d dc ds) = both (until (past (heading_part d)) (past (condition_part dc))) (post_part ds)
for_head (grammar.range d) = over (taken (take_expr d))
for_head (grammar.range_old d) = over (over (over (taken (take_expr d))))
for_head (grammar.range_new d) = over (over (over (taken (take_expr d))))

mutual
  statement : {s : Statement} {ts rest : List Tok} → SpellsStatement s ts rest → Gives ts (begins_of s) rest
  statement (grammar.does d) = stands (take_act d)
  statement (grammar.block d) = block d
  statement (grammar.branch d) = branch d
  statement (grammar.for d b) = begins (both (for_head d) (block b))
  statement (grammar.select d) = begins (over (past (clauses d)))
  statement (grammar.label d) = over (over (statement d))
  statement grammar.empty_label = over (over stays)

  branch : {s : Statement} {ts rest : List Tok} → SpellsIf s ts rest → Gives ts (begins_of s) rest
  branch (grammar.if d b) = begins (both (if_head d) (block b))
  branch (grammar.if_else d b e) = begins (both (if_head d) (both (past (block b)) (block e)))
  branch (grammar.if_else_if d b e) = begins (both (if_head d) (both (past (block b)) (branch e)))

  list : {ss : Statements} {ts rest : List Tok} → SpellsList ss ts rest → Gives ts (begins_in ss) rest
  list grammar.ends = stays
  list (grammar.empty d) = over (list d)
  list (grammar.one d ds) = both (past (statement d)) (list ds)
  list (grammar.final d) = both (statement d) stays

  block : {ss : Statements} {q : Place} {ts rest : List Tok} → SpellsBlock ss q ts rest → Gives ts (begins_in ss) rest
  block (grammar.braces d) = over (past (list d))

  clauses : {cs : Clauses} {ts rest : List Tok} → SpellsClauses cs ts rest → Gives ts (begins_among cs) rest
  clauses grammar.no_clause = stays
  clauses (grammar.default_clause d ds) = over (over (both (list d) (clauses ds)))
  clauses (grammar.case_clause c d ds) = over (both (past (taken (take_comm c))) (both (list d) (clauses ds)))

-- a body and its closing brace
body : {ss : Statements} {q : Place} {ts rest : List Tok} → SpellsBlock ss q ts rest → Gives ts (begins_in ss ++ q.start ∷ []) rest
body (grammar.braces d) = over (both (list d) (begins stays))

groups : {gs : List Group} {ts rest : List Tok} → SpellsGroups gs ts rest → Takes ts rest
groups (files.last_group d t) = rising.both (take_names d) (take_type t)
groups (files.comma_group d t ds) = rising.both (take_names d) (rising.both (rising.past (take_type t)) (groups ds))

parameters : {gs : List Group} {ts rest : List Tok} → SpellsParameters gs ts rest → Gives ts [] rest
parameters files.no_parameters = over (over stays)
parameters (files.parameters d) = over (past (taken (groups d)))
parameters (files.parameters_comma d) = over (past (past (taken (groups d))))

-- the statements of a function begin behind its start, one after another, and before its closing brace
abbrev pub Stands : Function → Type 0
Stands (FunctionOf place name parameters result body closing) = After (place.start + 1) (begins_in body ++ closing.start ∷ []) []

abbrev begins_all : Function → List ℕ
begins_all (FunctionOf place name parameters result body closing) = place.start ∷ (begins_in body ++ closing.start ∷ [])

function : {f : Function} {ts rest : List Tok} → SpellsFunction f ts rest → Gives ts (begins_all f) rest
function (files.function d t b) = begins (over (both (parameters d) (both (type_part t) (body b))))

stand : (n : ℕ) (f : Function) (rest : List Tok) → After n (begins_all f) rest → Stands f
stand n (FunctionOf place name parameters result body closing) rest a = after_until (place.start + 1) (begins_in body ++ closing.start ∷ []) rest [] a.1 (λ m r. tt)

rest_of : (n : ℕ) (xs : List ℕ) (rest : List Tok) → After n xs rest → RiseFrom n rest
rest_of n [] rest a = a
rest_of n (x ∷ xs) rest a = let at : n ≤ x = a.0 in rise_earlier n (x + 1) (omega arith) rest (rest_of (x + 1) xs rest a.1)

pub functions_stand : {fs : List Function} {ts : List Tok} → SpellsFunctions fs ts → (n : ℕ) → RiseFrom n ts → All Stands fs
functions_stand files.no_function n r = All-nil Stands
functions_stand (files.one_function {f = f} {fs = fs} {mid = mid} d ds) n r = All-cons Stands f fs
    (stand n f _ ((function d).rises n r))
    (functions_stand ds n (rest_of n (begins_all f) mid ((past (function d)).rises n r)))
