-- Functions: what is read is in the grammar, and what is in it is read.
use Rattle.std.proofs.Common.{◌≡◌, ℕ, zero, suc, ◌<◌, ◌≤◌, max, List, [], ◌∷◌, ◌++◌, length, refl, ap, sym, ◌∙◌, subst, arith, append_assoc, append-nil}
use Rattle.std.specs.Prelude.{Option, Some, Result, Ok}
use Rattle.gr_scan.specs.declared.token.Place.{Place}
use Rattle.gr_scan.specs.declared.token.Mark.TheVariants as marks
use Rattle.gr_scan.specs.Tokens.{Tok, At, Sign}
use Rattle.gr_scan.specs.Tokens as words
use Rattle.gr_tree.specs.Exprs.{WrittenType, type_height}
use Rattle.gr_tree.specs.Statements.{Statements, body_height, part_height}
use Rattle.gr_tree.specs.Files.{Group, groups_height, Function, FunctionOf, function_height, functions_height}
use Rattle.gr_syntax.specs.Grammar.{after_mark, SpellsType}
use Rattle.gr_syntax.specs.StatementGrammar.{SpellsPart, SpellsBlock, braces}
use Rattle.gr_syntax.specs.FileGrammar.{SpellsParameters, SpellsFunction, function, SpellsFunctions, no_function, one_function}
use Rattle.gr_syntax.specs.Reading.{ReadError, Found, Reads, ◌>>=◌, Turn, Go, turned, turns, loop, name_at, need}
use Rattle.gr_syntax.specs.StatementReading.{statement_at, block_at}
use Rattle.gr_syntax.specs.FileReading.{parameters_at, result_at, function_at, functions_more, functions_from, functions_turn, functions_at}
use Rattle.gr_syntax.proofs.Bound.{bound, within, bound_bind, bound_max}
use Rattle.gr_syntax.proofs.Loops.{Shrinks, loop_is}
use Rattle.gr_syntax.proofs.Cases.{ok_inj, on_ok, go_inj, stop≢go, name_is, need_is}
use Rattle.gr_syntax.proofs.Groups.{IsParameters, parameters_sound, parameters_whole, parameters_shrunk, IsResult, result_sound, result_whole, result_shrunk}
use Rattle.gr_syntax.proofs.SoundStatements.{IsBlock, block_sound, statement_sound}
use Rattle.gr_syntax.proofs.StatementSizes.{block_shrunk}
use Rattle.gr_syntax.proofs.CompleteStatements.{block_at_whole}

abbrev Block : Type 0
Block = Found (Statements × Place)

-- what reading a function answers
pub record IsFunction (h : ℕ) (ts : List Tok) (u : Found Function) : Type 0 where
  pub spelled : SpellsFunction u.0 ts u.2
  pub fits : function_height u.0 ≤ h

heading : {p q : Place} {f : List ℕ} {ts a rest : List Tok} → ts ≡ At p (Sign marks.Func) ∷ a → a ≡ At q (words.Name f) ∷ rest → ts ≡ At p (Sign marks.Func) ∷ At q (words.Name f) ∷ rest
heading e1 e2 = cc

function_is : (h : ℕ) (p q : Place) (f : List ℕ) (ts rest : List Tok) (gs : Found (List Group)) (t : Found (Option WrittenType)) (b : Block) → ts ≡ At p (Sign marks.Func) ∷ At q (words.Name f) ∷ rest → IsParameters h rest gs → IsResult h gs.2 t → IsBlock h t.2 b → IsFunction h ts (FunctionOf p f gs.0 t.0 b.0.0 b.0.1, 0, b.2)
function_is h p q f ts rest gs t b e g r d = rw e (record { spelled = function g.spelled r.spelled d.spelled; fits = omega (arith, g.fits, r.fits, d.high, d.fits) })

pub function_sound : (h : ℕ) (ts : List Tok) (u : Found Function) → function_at h ts ≡ Ok u → IsFunction h ts u
unfolding function_at
function_sound h ts u q =
    on_ok (need marks.Func ts) _ u q (λ a ea q.
    on_ok (name_at a.1) _ u q (λ f ef q.
    on_ok (parameters_at h f.1) _ u q (λ gs eg q.
    on_ok (result_at h gs.2) _ u q (λ t et q.
    on_ok (block_at (statement_at h) t.2) _ u q (λ b eb q.
    let named = name_is a.1 f ef in
    subst (λ u. IsFunction h ts u) (ok_inj q)
    (function_is h a.0 named.0 f.0 ts f.1 gs t b (heading (need_is marks.Func ts a ea) named.1) (parameters_sound h f.1 gs eg) (result_sound h gs.2 t et) (block_sound h (statement_at h) (statement_sound h) t.2 b eb)))))))

-- a block begins with a brace
block_begins : {ss : Statements} {closing : Place} {ts rest : List Tok} → SpellsBlock ss closing ts rest → (tail : List Tok) × (after_mark marks.LeftBrace ts ≡ Some tail)
unfolding after_mark
block_begins (braces {ts = ts} d) = (ts, refl)

module _ (h : ℕ) (p q closing : Place) (f : List ℕ) (gs : List Group) (t : Option WrittenType) (ss : Statements) (rest : List Tok) where
  abbrev made : Found Function
  made = (FunctionOf p f gs t ss closing, 0, rest)

  body_whole : (body : List Tok) → SpellsBlock ss closing body rest → (block_at (statement_at h) body >>= λ b. Ok (FunctionOf p f gs t b.0.0 b.0.1, 0, b.2)) ≡ bound h (body_height ss) (Ok made)
  body_whole body b =
      let k : Block → Reads Function = λ b. Ok (FunctionOf p f gs t b.0.0 b.0.1, 0, b.2) in
      ap (λ r. r >>= k) (block_at_whole b h) ∙ bound_bind h (body_height ss) (Ok ((ss, closing), body_height ss, rest)) k

  after_parameters : (results body : List Tok) → SpellsPart SpellsType t results body → SpellsBlock ss closing body rest → (result_at h results >>= λ t. block_at (statement_at h) t.2 >>= λ b. Ok (FunctionOf p f gs t.0 b.0.0 b.0.1, 0, b.2)) ≡ bound h (max (part_height type_height t) (body_height ss)) (Ok made)
  after_parameters results body r b =
      let k : Found (Option WrittenType) → Reads Function = λ t. block_at (statement_at h) t.2 >>= λ b. Ok (FunctionOf p f gs t.0 b.0.0 b.0.1, 0, b.2) in
      let high : ℕ = part_height type_height t in
      ap (λ r. r >>= k) (result_whole r (block_begins b).1 h)
      ∙ bound_bind h high (Ok (t, 0, body)) k
      ∙ ap (bound h high) (body_whole body b)
      ∙ bound_max h high (body_height ss) (Ok made)

  after_name : (ts results body : List Tok) → SpellsParameters gs ts results → SpellsPart SpellsType t results body → SpellsBlock ss closing body rest → (parameters_at h ts >>= λ gs. result_at h gs.2 >>= λ t. block_at (statement_at h) t.2 >>= λ b. Ok (FunctionOf p f gs.0 t.0 b.0.0 b.0.1, 0, b.2)) ≡ bound h (function_height (FunctionOf p f gs t ss closing)) (Ok made)
  after_name ts results body g r b =
      let k : Found (List Group) → Reads Function = λ gs. result_at h gs.2 >>= λ t. block_at (statement_at h) t.2 >>= λ b. Ok (FunctionOf p f gs.0 t.0 b.0.0 b.0.1, 0, b.2) in
      ap (λ r. r >>= k) (parameters_whole g h)
      ∙ bound_bind h (groups_height gs) (Ok (gs, 0, results)) k
      ∙ ap (bound h (groups_height gs)) (after_parameters results body r b)
      ∙ bound_max h (groups_height gs) (max (part_height type_height t) (body_height ss)) (Ok made)

named : (h : ℕ) (p q : Place) (f : List ℕ) (ts : List Tok) → function_at h (At p (Sign marks.Func) ∷ At q (words.Name f) ∷ ts) ≡ (parameters_at h ts >>= λ gs. result_at h gs.2 >>= λ t. block_at (statement_at h) t.2 >>= λ b. Ok (FunctionOf p f gs.0 t.0 b.0.0 b.0.1, 0, b.2))
unfolding function_at need name_at after_mark
named h p q f ts = refl

pub function_whole : {f : Function} {ts rest : List Tok} → SpellsFunction f ts rest → (h : ℕ) → function_at h ts ≡ bound h (function_height f) (Ok (f, 0, rest))
function_whole (function {p = p} {q = q} {closing = closing} {f = f} {gs = gs} {t = t} {ss = ss} {ts = ts} {results = results} {body = body} {rest = rest} g r b) h =
    named h p q f ts ∙ after_name h p q closing f gs t ss rest ts results body g r b

pub function_shrunk : {f : Function} {ts rest : List Tok} → SpellsFunction f ts rest → length rest < length ts
function_shrunk (function g r b) = omega (arith, parameters_shrunk g, result_shrunk r, block_shrunk b)

-- Functions, each with its semicolon.

abbrev Functions : Type 0
Functions = List Function

-- what reading functions answers: nothing is left
pub record IsFunctions (h : ℕ) (acc : Functions) (ts : List Tok) (u : Found Functions) : Type 0 where
  pub fs : Functions
  pub all : u.0 ≡ acc ++ fs
  pub spelled : SpellsFunctions fs ts
  pub fits : functions_height fs ≤ h

abbrev FunctionsRun : ℕ → ℕ → Type 0
FunctionsRun h n = (acc : Functions) (k : ℕ) (ts : List Tok) (u : Found Functions) → turns (functions_turn h) n (acc, k, ts) ≡ Ok u → IsFunctions h acc ts u

function_first : (h : ℕ) (acc : Functions) (ts : List Tok) (f : Found Function) (r : Place × List Tok) (u : Found Functions) → IsFunction h ts f → f.2 ≡ At r.0 (Sign marks.Semicolon) ∷ r.1 → IsFunctions h (acc ++ (f.0 ∷ [])) r.1 u → IsFunctions h acc ts u
function_first h acc ts f r u d e b =
    let first : SpellsFunction f.0 ts (At r.0 (Sign marks.Semicolon) ∷ r.1) = subst (λ rest. SpellsFunction f.0 ts rest) e d.spelled in
    record { fs = f.0 ∷ b.fs; all = b.all ∙ append_assoc acc (f.0 ∷ []) b.fs; spelled = one_function first b.spelled; fits = omega (arith, d.fits, b.fits) }

functions_end : (h : ℕ) (acc : Functions) (k : ℕ) (u : Found Functions) → ◌≡◌ {A = Reads Functions} (Ok (acc, k, [])) (Ok u) → IsFunctions h acc [] u
functions_end h acc k u q = subst (λ v. IsFunctions h acc [] v) (ok_inj q) (record { fs = []; all = sym (append-nil acc); spelled = no_function; fits = omega arith })

functions_run_sound : (h n : ℕ) → FunctionsRun h n
unfolding functions_turn functions_more
functions_run_sound h zero acc k ts u q = absurd (cc)
functions_run_sound h (suc n) acc k [] u q = functions_end h acc k u q
functions_run_sound h (suc n) acc k (t ∷ ts) u q =
    let next : Turn (Found Functions) → Reads Functions = turned (turns (functions_turn h) n) in
    on_ok (function_at h (t ∷ ts) >>= λ f. need marks.Semicolon f.2 >>= λ r. Ok (Go (acc ++ (f.0 ∷ []), 0, r.1))) next u q (λ v ev q.
    on_ok (function_at h (t ∷ ts)) _ v ev (λ f ef ev. on_ok (need marks.Semicolon f.2) _ v ev (λ r er ev.
    function_first h acc (t ∷ ts) f r u (function_sound h (t ∷ ts) f ef) (need_is marks.Semicolon f.2 r er)
    (functions_run_sound h n (acc ++ (f.0 ∷ [])) 0 r.1 u (subst (λ d. next d ≡ Ok u) (sym (ok_inj ev)) q)))))

pub functions_sound : (h : ℕ) (ts : List Tok) (u : Found Functions) → functions_at h ts ≡ Ok u → IsFunctions h [] ts u
unfolding functions_at loop
functions_sound h ts u q = functions_run_sound h (suc (length ts)) [] 0 ts u q

more_shrinks : (h : ℕ) (s v : Found Functions) → functions_more h s ≡ Ok (Go v) → length v.2 < length s.2
unfolding functions_more
more_shrinks h s v q =
    on_ok (function_at h s.2) (λ f. need marks.Semicolon f.2 >>= λ r. Ok (Go (s.0 ++ (f.0 ∷ []), 0, r.1))) (Go v) q (λ f ef q.
    on_ok (need marks.Semicolon f.2) (λ r. Ok (Go (s.0 ++ (f.0 ∷ []), 0, r.1))) (Go v) q (λ r er q.
    omega (arith, function_shrunk (function_sound h s.2 f ef).spelled, ap length (need_is marks.Semicolon f.2 r er), ap length (go_inj (s.0 ++ (f.0 ∷ []), 0, r.1) v q))))

from_shrinks : (h : ℕ) (s v : Found Functions) (ts : List Tok) → functions_from h s ts ≡ Ok (Go v) → length v.2 < length s.2
from_shrinks h s v [] q = stop≢go s v q
from_shrinks h s v (t ∷ ts) q = more_shrinks h s v q

pub functions_shrinks : (h : ℕ) → Shrinks (functions_turn h)
unfolding functions_turn
functions_shrinks h s v q = from_shrinks h s v s.2 q

pub functions_step : (h : ℕ) (fs : Found Functions) → loop (functions_turn h) fs ≡ (functions_from h fs fs.2 >>= turned (loop (functions_turn h)))
unfolding functions_turn
functions_step h fs = loop_is (functions_turn h) (functions_shrinks h) fs

abbrev FunctionsTo : ℕ → Functions → Functions → List Tok → Type 0
FunctionsTo h acc fs ts = loop (functions_turn h) (acc, 0, ts) ≡ bound h (functions_height fs) (Ok (acc ++ fs, 0, []))

functions_stop : (h : ℕ) (acc : Functions) → FunctionsTo h acc [] []
functions_stop h acc = functions_step h (acc, 0, []) ∙ sym (within h 0 _ (omega arith) ∙ rw (append-nil acc) refl)

from_more : {f : Function} {ts rest : List Tok} → SpellsFunction f ts rest → (h : ℕ) (fs : Found Functions) → functions_from h fs ts ≡ functions_more h fs
from_more (function g r b) h fs = refl

past : (p : Place) (mid : List Tok) → need marks.Semicolon (At p (Sign marks.Semicolon) ∷ mid) ≡ Ok (p, mid)
unfolding need after_mark
past p mid = refl

functions_go : (h : ℕ) (acc : Functions) (f : Function) (fs : Functions) (p : Place) (ts mid : List Tok) → SpellsFunction f ts (At p (Sign marks.Semicolon) ∷ mid) → FunctionsTo h (acc ++ (f ∷ [])) fs mid → FunctionsTo h acc (f ∷ fs) ts
unfolding functions_more
functions_go h acc f fs p ts mid d ih =
    let k : Found Function → Result (Turn (Found Functions)) ReadError = λ f. need marks.Semicolon f.2 >>= λ r. Ok (Go (acc ++ (f.0 ∷ []), 0, r.1)) in
    let again : Turn (Found Functions) → Reads Functions = turned (loop (functions_turn h)) in
    let after : List Tok = At p (Sign marks.Semicolon) ∷ mid in
    functions_step h (acc, 0, ts)
    ∙ ap (λ r. r >>= again) (from_more d h (acc, 0, ts))
    ∙ ap (λ r. (r >>= k) >>= again) (function_whole d h)
    ∙ ap (λ r. r >>= again) (bound_bind h (function_height f) (Ok (f, 0, after)) k)
    ∙ bound_bind h (function_height f) (k (f, 0, after)) again
    ∙ ap (λ r. bound h (function_height f) ((r >>= λ (r : Place × List Tok). Ok (Go (acc ++ (f ∷ []), 0, r.1))) >>= again)) (past p mid)
    ∙ ap (bound h (function_height f)) ih
    ∙ bound_max h (function_height f) (functions_height fs) _
    ∙ ap (λ all. bound h (max (function_height f) (functions_height fs)) (Ok (all, 0, []))) (append_assoc acc (f ∷ []) fs)

functions_run : {fs : Functions} {ts : List Tok} → SpellsFunctions fs ts → (h : ℕ) (acc : Functions) → FunctionsTo h acc fs ts
functions_run no_function h acc = functions_stop h acc
functions_run (one_function {p = p} {f = f} {fs = fs} {ts = ts} {mid = mid} d ds) h acc = functions_go h acc f fs p ts mid d (functions_run ds h (acc ++ (f ∷ [])))

pub functions_whole : {fs : Functions} {ts : List Tok} → SpellsFunctions fs ts → (h : ℕ) → functions_at h ts ≡ bound h (functions_height fs) (Ok (fs, 0, []))
unfolding functions_at
functions_whole d h = functions_run d h []
