-- What the judgement asks of trees beyond the rules of the language holds of the trees of texts.
use Rattle.std.proofs.Common.{◌≡◌, ℕ, ◌+◌, ◌≤◌, true, false, nat_lt, List, [], ◌∷◌, ◌++◌, refl, sym, ◌∙◌, ap, ap₂, subst, arith, append_assoc, append-nil}
use Rattle.std.specs.Prelude.{All, Option, Some, None}
use Rattle.std.proofs.lemmas.Bool.Decides.{nat_tests}
use Rattle.std.proofs.lemmas.List.Elements.{All-nil, All-cons, All-append, All-weaker}
use Rattle.gr_scan.specs.declared.token.Place.{Place}
use Rattle.gr_scan.specs.declared.token.Mark.{Mark}
use Rattle.gr_scan.specs.Tokens.{Tok}
use Rattle.gr_scan.specs.Rising.{RiseFrom}
use Rattle.gr_scan.proofs.Rising.{tokens_rise}
use Rattle.gr_tree.specs.declared.expr.BinaryOp.{BinaryOp}
use Rattle.gr_tree.specs.declared.expr.BinaryOp.TheVariants as binaries
use Rattle.gr_tree.specs.Statements as statements
use Rattle.gr_tree.specs.Statements.{Simple, Act, Heading, IfHead, ForHead, Statement, Statements, Clauses}
use Rattle.gr_tree.specs.Files.{Function, FunctionOf, FileTree}
use Rattle.gr_syntax.specs.StatementGrammar.{update_mark, SpellsSimple, SpellsAct, SpellsHeading, SpellsPart, SpellsPost, SpellsIfHead, SpellsForHead, SpellsStatement, SpellsIf, SpellsList, SpellsBlock, SpellsClauses}
use Rattle.gr_syntax.specs.StatementGrammar as grammar
use Rattle.gr_syntax.specs.FileGrammar.{SpellsFunction, SpellsFunctions, SpellsFile}
use Rattle.gr_syntax.specs.FileGrammar as files
use Rattle.gr_syntax.proofs.RisingStatements.{if_begins, begins_of, begins_in, begins_among, heading_begins, After, Stands, functions_stand}
use Rattle.gr_program.specs.Programs.{Expr, Opening, Stmts, stop, then, joined, Cases}
use Rattle.gr_program.specs.Order.{opening_start, starts_of, starts_in, starts_among, rises_from}
use Rattle.gr_typing.specs.Contexts.{Context}
use Rattle.gr_typing.specs.Scopes.{Scope, Signature}
use Rattle.gr_typing.specs.Statements.{IsOpening, no_opening, opening, declares, IsStatement, IsIfHead, IsBody, AreClauses}
use Rattle.gr_typing.specs.Statements as typing
use Rattle.gr_types.specs.Texts.{IsFileOf, functions_in, body_of, of_act, of_heading, of_if, of_for, of_statement, of_body, of_clauses, simple_updates, updates_in, posts_in, GivesNumber, BeginsInOrder}

-- what each simple statement and each third part of a loop has, all of a body have
module _ {A : Type 0} (P : A → Type 0) (of_simple : Simple → List A) (of_post : Option Heading → List A)
    (simple : (s : Simple) (ts rest : List Tok) → SpellsSimple s ts rest → All P (of_simple s))
    (post : (h : Option Heading) (ts rest : List Tok) → SpellsPart SpellsPost h ts rest → All P (of_post h)) where
  abbrev Each : List A → Type 0
  Each xs = All P xs

  both : (xs ys : List A) → Each xs → Each ys → Each (xs ++ ys)
  both xs ys a b = All-append P xs ys a b

  act_all : {a : Act} {ts rest : List Tok} → SpellsAct a ts rest → Each (of_act of_simple of_post a)
  act_all (grammar.plain {s = s} d) = simple s _ _ d
  act_all _ = All-nil P

  heading_all : {h : Heading} {ts rest : List Tok} → SpellsHeading h ts rest → Each (of_heading of_simple of_post (Some h))
  heading_all (grammar.heads {s = s} d) = simple s _ _ d

  heading_part_all : {h : Option Heading} {ts rest : List Tok} → SpellsPart SpellsHeading h ts rest
      → Each (of_heading of_simple of_post h)
  heading_part_all grammar.missing = All-nil P
  heading_part_all (grammar.there d) = heading_all d

  if_all : {h : IfHead} {ts rest : List Tok} → SpellsIfHead h ts rest → Each (of_if of_simple of_post h)
  if_all (grammar.test d) = All-nil P
  if_all (grammar.part_test d e) = heading_part_all d

  for_all : {h : ForHead} {ts rest : List Tok} → SpellsForHead h ts rest → Each (of_for of_simple of_post h)
  for_all (grammar.while d) = post None [] [] grammar.missing
  for_all (grammar.parts {i = i} {s = s} d dc ds) =
      both (of_heading of_simple of_post i) (of_post s) (heading_part_all d) (post s _ _ ds)
  for_all (grammar.range d) = All-nil P
  for_all (grammar.range_old d) = All-nil P
  for_all (grammar.range_new d) = All-nil P

  mutual
    statement_all : {s : Statement} {ts rest : List Tok} → SpellsStatement s ts rest → Each (of_statement of_simple of_post s)
    statement_all (grammar.does d) = act_all d
    statement_all (grammar.block d) = block_all d
    statement_all (grammar.branch d) = branch_all d
    statement_all (grammar.for d b) = both _ _ (for_all d) (block_all b)
    statement_all (grammar.select d) = clauses_all d
    statement_all (grammar.label d) = statement_all d
    statement_all grammar.empty_label = All-nil P

    branch_all : {s : Statement} {ts rest : List Tok} → SpellsIf s ts rest → Each (of_statement of_simple of_post s)
    branch_all (grammar.if d b) = both _ _ (if_all d) (block_all b)
    branch_all (grammar.if_else d b e) = both _ _ (if_all d) (both _ _ (block_all b) (block_all e))
    branch_all (grammar.if_else_if d b e) = both _ _ (if_all d) (both _ _ (block_all b) (branch_all e))

    list_all : {ss : Statements} {ts rest : List Tok} → SpellsList ss ts rest → Each (of_body of_simple of_post ss)
    list_all grammar.ends = All-nil P
    list_all (grammar.empty d) = list_all d
    list_all (grammar.one d ds) = both _ _ (statement_all d) (list_all ds)
    list_all (grammar.final d) = both _ _ (statement_all d) (All-nil P)

    pub block_all : {ss : Statements} {q : Place} {ts rest : List Tok} → SpellsBlock ss q ts rest
        → Each (of_body of_simple of_post ss)
    block_all (grammar.braces d) = list_all d

    clauses_all : {cs : Clauses} {ts rest : List Tok} → SpellsClauses cs ts rest → Each (of_clauses of_simple of_post cs)
    clauses_all grammar.no_clause = All-nil P
    clauses_all (grammar.default_clause d ds) = both _ _ (list_all d) (clauses_all ds)
    clauses_all (grammar.case_clause c d ds) = both _ _ (list_all d) (clauses_all ds)

  functions_all : {fs : List Function} {ts : List Tok} → SpellsFunctions fs ts → All (λ f. Each (of_body of_simple of_post (body_of f))) fs
  functions_all files.no_function = All-nil (λ f. Each (of_body of_simple of_post (body_of f)))
  functions_all (files.one_function {f = f} {fs = fs} d ds) =
      All-cons (λ f. Each (of_body of_simple of_post (body_of f))) f fs (function_all d) (functions_all ds)
    where
      function_all : {f : Function} {ts rest : List Tok} → SpellsFunction f ts rest → Each (of_body of_simple of_post (body_of f))
      function_all (files.function d t b) = block_all b

  pub file_all : {f : FileTree} {ts : List Tok} → SpellsFile f ts → All (λ g. Each (of_body of_simple of_post (body_of g))) (functions_in f)
  file_all (files.file ds) = functions_all ds

-- an operator with a form `x op= e` gives a number
update_gives : (op : BinaryOp) (m : Mark) → update_mark op ≡ Some m → GivesNumber op
update_gives binaries.Equal m e = absurd cc
update_gives binaries.NotEqual m e = absurd cc
update_gives binaries.Less m e = absurd cc
update_gives binaries.LessEqual m e = absurd cc
update_gives binaries.Greater m e = absurd cc
update_gives binaries.GreaterEqual m e = absurd cc
update_gives binaries.LogicalAnd m e = absurd cc
update_gives binaries.LogicalOr m e = absurd cc
update_gives _ m e = refl

update_all : (s : Simple) (ts rest : List Tok) → SpellsSimple s ts rest → All GivesNumber (simple_updates s)
update_all s ts rest (grammar.update {op = op} {m = m} e d) = All-cons GivesNumber op [] (update_gives op m e) (All-nil GivesNumber)
update_all s ts rest _ = All-nil GivesNumber

update_post : (h : Option Heading) (ts rest : List Tok) → SpellsPart SpellsPost h ts rest
    → All GivesNumber (of_heading simple_updates (λ post. []) h)
update_post h ts rest grammar.missing = All-nil GivesNumber
update_post h ts rest (grammar.there (grammar.post n (grammar.heads {s = s} d))) = update_all s _ _ d

pub updates_give : (text : List ℕ) (f : FileTree) → IsFileOf text f → All (λ g. All GivesNumber (updates_in (body_of g))) (functions_in f)
updates_give text f w = file_all GivesNumber simple_updates (of_heading simple_updates (λ post. [])) update_all update_post w.2.spelled

-- the grammar has no post statement that declares
abbrev IsPlain : Option Heading → Type 0
IsPlain h = declares h ≡ false

plain : (h : Heading) → grammar.defines h ≡ false → IsPlain (Some h)
plain (statements.Heads place (statements.Define names values)) e = absurd cc
plain (statements.Heads place s) e = e

post_all : (h : Option Heading) (ts rest : List Tok) → SpellsPart SpellsPost h ts rest → All IsPlain (h ∷ [])
post_all h ts rest grammar.missing = All-cons IsPlain None [] refl (All-nil IsPlain)
post_all h ts rest (grammar.there (grammar.post {h = k} n d)) = All-cons IsPlain (Some k) [] (plain k n) (All-nil IsPlain)

pub posts_plain : (text : List ℕ) (f : FileTree) → IsFileOf text f → All (λ g. All (λ h. declares h ≡ false) (posts_in (body_of g))) (functions_in f)
posts_plain text f w = file_all IsPlain (λ s. []) (λ h. h ∷ []) (λ s ts rest d. All-nil IsPlain) post_all w.2.spelled

-- what the judgement makes of statements begins where they do
joined_starts : (a b : Stmts) → starts_in (joined a b) ≡ starts_in a ++ starts_in b
joined_starts stop b = refl
joined_starts (then s ss) b = ap (λ xs. starts_of s ++ xs) (joined_starts ss b) ∙ sym (append_assoc (starts_of s) (starts_in ss) (starts_in b))

abbrev together : List ℕ → List ℕ → List ℕ
together a b = a ++ b

same_opening : {fs : List Signature} {s n : Scope} {h : Option Heading} {o : Option Opening} → IsOpening fs s h o n
    → opening_start o ≡ heading_begins h
same_opening no_opening = refl
same_opening (opening d) = refl

same_if : {c : Context} {s n : Scope} {h : IfHead} {o : Option Opening} {p : Expr} → IsIfHead c s h o p n
    → opening_start o ≡ if_begins h
same_if (typing.if_head d e) = same_opening d

mutual
  same_statement : {c : Context} {s n : Scope} {label : Option (List ℕ)} {t : Statement} {stmts : Stmts}
      → IsStatement c s label t stmts n → starts_in stmts ≡ begins_of t
  same_statement (typing.does d) = refl
  same_statement (typing.block d) = append-nil _ ∙ same_body d
  same_statement (typing.if {place = place} h b) =
      ap (λ xs. place.start ∷ xs) (append-nil _ ∙ ap₂ together (same_if h) (append-nil _ ∙ same_body b))
  same_statement (typing.if_else {place = place} h b e) =
      ap (λ xs. place.start ∷ xs) (append-nil _ ∙ ap₂ together (same_if h) (ap₂ together (same_body b) (same_body e)))
  same_statement (typing.if_else_if {place = place} h b e) =
      ap (λ xs. place.start ∷ xs) (append-nil _ ∙ ap₂ together (same_if h) (ap₂ together (same_body b) (same_statement e)))
  same_statement (typing.for {place = place} {init = init} {post = post} {body = body} d e n l b) =
      ap (λ xs. place.start ∷ xs) (append-nil _ ∙ ap₂ together (same_opening d) (ap₂ together (same_opening l) (same_body b))
      ∙ sym (append_assoc (heading_begins init) (heading_begins post) (begins_in body)))
  same_statement (typing.range {place = place} v m t b) = ap (λ xs. place.start ∷ xs) (append-nil _ ∙ same_body b)
  same_statement (typing.select {place = place} m cs) = ap (λ xs. place.start ∷ xs) (append-nil _ ∙ same_clauses cs)
  same_statement (typing.label d) = same_statement d
  same_statement typing.empty_label = refl

  same_body : {c : Context} {s n : Scope} {body : Statements} {stmts : Stmts} → IsBody c s body stmts n
      → starts_in stmts ≡ begins_in body
  same_body typing.ends = refl
  same_body (typing.next {stmts = stmts} {rest = rest} d ds) =
      joined_starts stmts rest ∙ ap₂ together (same_statement d) (same_body ds)

  same_clauses : {c : Context} {s n : Scope} {cs : Clauses} {cases : Cases} → AreClauses c s cs cases n
      → starts_among cases ≡ begins_among cs
  same_clauses typing.no_clause = refl
  same_clauses (typing.default_clause b ds) = ap₂ together (same_body b) (same_clauses ds)
  same_clauses (typing.send_clause d b ds) = ap₂ together (same_body b) (same_clauses ds)
  same_clauses (typing.receive_clause d b ds) = ap₂ together (same_body b) (same_clauses ds)
  same_clauses (typing.assign_clause d t b ds) = ap₂ together (same_body b) (same_clauses ds)
  same_clauses (typing.define_clause d m t b ds) = ap₂ together (same_body b) (same_clauses ds)

less_is : (n m : ℕ) → n + 1 ≤ m → nat_lt n m ≡ true
less_is n m le = grind (arith, nat_tests)

rises : (n : ℕ) (xs : List ℕ) → After (n + 1) xs [] → rises_from n xs ≡ true
rises n [] a = refl
rises n (x ∷ xs) a = rw (less_is n x a.0) (rises x xs a.1)

begins_in_order : (f : Function) → Stands f → BeginsInOrder f
begins_in_order (FunctionOf place name groups result body closing) a = λ c s n stmts d.
    rises place.start (starts_in stmts ++ closing.start ∷ [])
    (subst (λ xs. After (place.start + 1) (xs ++ closing.start ∷ []) []) (sym (same_body d)) a)

file_stands : {f : FileTree} {ts : List Tok} (n : ℕ) → SpellsFile f ts → RiseFrom n ts → All Stands (functions_in f)
file_stands n (files.file {r = r} ds) w = functions_stand ds (r.start + 1) w.1.1.1

pub bodies_in_order : (text : List ℕ) (f : FileTree) → IsFileOf text f → All BeginsInOrder (functions_in f)
bodies_in_order text f w =
    All-weaker Stands BeginsInOrder begins_in_order (functions_in f) (file_stands 0 w.2.spelled (tokens_rise text w.0 w.1))
