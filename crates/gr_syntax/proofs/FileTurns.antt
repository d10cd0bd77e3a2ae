-- What the turns of the loops over groups and functions give.
use Rattle.std.proofs.Common.{◌≡◌, ℕ, ◌<◌, arith, Bool, true, false, List, [], ◌∷◌, ◌++◌, length, refl, ap, ◌∙◌}
use Rattle.std.specs.Prelude.{Option, Some, None, Ok, Err}
use Rattle.std.proofs.lemmas.List.{nil_from_length}
use Rattle.gr_scan.specs.declared.token.Place.{Place}
use Rattle.gr_scan.specs.declared.token.Mark.TheVariants as marks
use Rattle.gr_scan.specs.declared.token.Token.{Token}
use Rattle.gr_scan.specs.Tokens.{Tok, token_of, tokens_of}
use Rattle.std.specs.Option.{is_some}
use Rattle.std.specs.Borrow.{Bor}
use Rattle.gr_syntax.specs.Views.{Sees}
use Rattle.gr_tree.specs.declared.file.Group as code_group
use Rattle.gr_tree.specs.declared.file.Func as code_func
use Rattle.gr_tree.specs.Exprs.{WrittenType, type_of, names_of}
use Rattle.gr_tree.specs.Files.{GroupOf, Function, groups_of, function_of, functions_of}
use Rattle.gr_syntax.specs.Grammar.{after_mark}
use Rattle.gr_syntax.specs.Reading.{ReadError, Found, ◌>>=◌, Go, turned, loop, names_at, type_at, need, ends_at}
use Rattle.gr_syntax.specs.FileReading.{groups_turn, function_at, functions_more, functions_from, functions_turn}
use Rattle.gr_syntax.proofs.Groups.{Groups, groups_step}
use Rattle.gr_syntax.proofs.Turns.{tokens_length}
use Rattle.gr_syntax.proofs.WrittenTypes.{type_sound, type_shrinks}
use Rattle.gr_syntax.proofs.Functions.{function_sound, function_shrunk, functions_step}

-- what a look-up that is only tested says
pub is_none : (o : Option (Bor (List Token))) (x : Option (List Tok)) (t : Bool) → Sees o x → t ≡ is_some o → t ≡ false → x ≡ None
is_none (Some r) x true s e k = absurd (cc)
is_none (Some r) x false s e k = absurd (cc)
is_none None x t s e k = s

pub is_there : (o : Option (Bor (List Token))) (x : Option (List Tok)) (t : Bool) → Sees o x → t ≡ is_some o → t ≡ true → (rest : List Tok) × (x ≡ Some rest)
is_there (Some r) x t s e k = (tokens_of r.now, s)
is_there None x true s e k = absurd (cc)
is_there None x false s e k = absurd (cc)

pub ends_here : (ts rest : List Tok) → after_mark marks.RightParen ts ≡ Some rest → ends_at true ts ≡ true
unfolding ends_at
ends_here ts rest m = rw m refl

pub goes_on : (ts : List Tok) → after_mark marks.RightParen ts ≡ None → ends_at true ts ≡ false
unfolding ends_at
goes_on ts m = rw m refl

-- one turn over groups
module _ (h : ℕ) (gs : Found Groups) where
  pub groups_unnamed : (f : ReadError) → names_at gs.2 ≡ Err f → loop (groups_turn h) gs ≡ Err f
  groups_unnamed f q = groups_step h gs ∙ rw q refl

  pub groups_untyped : (xs : Found (List (List ℕ))) (f : ReadError) → names_at gs.2 ≡ Ok xs → type_at h xs.2 ≡ Err f → loop (groups_turn h) gs ≡ Err f
  groups_untyped xs f q e = groups_step h gs ∙ rw (q, e) refl

  pub groups_last : (xs : Found (List (List ℕ))) (t : Found WrittenType) → names_at gs.2 ≡ Ok xs → type_at h xs.2 ≡ Ok t → after_mark marks.Comma t.2 ≡ None → loop (groups_turn h) gs ≡ Ok (gs.0 ++ (GroupOf xs.0 t.0 ∷ []), 0, t.2)
  groups_last xs t q e m = groups_step h gs ∙ rw (q, e, m) refl

  pub groups_trail : (xs : Found (List (List ℕ))) (t : Found WrittenType) (mid rest : List Tok) → names_at gs.2 ≡ Ok xs → type_at h xs.2 ≡ Ok t → after_mark marks.Comma t.2 ≡ Some mid → after_mark marks.RightParen mid ≡ Some rest → loop (groups_turn h) gs ≡ Ok (gs.0 ++ (GroupOf xs.0 t.0 ∷ []), 0, mid)
  groups_trail xs t mid rest q e m b = groups_step h gs ∙ rw (q, e, m, ends_here mid rest b) refl

  pub groups_go : (xs : Found (List (List ℕ))) (t : Found WrittenType) (mid : List Tok) → names_at gs.2 ≡ Ok xs → type_at h xs.2 ≡ Ok t → after_mark marks.Comma t.2 ≡ Some mid → after_mark marks.RightParen mid ≡ None → loop (groups_turn h) gs ≡ loop (groups_turn h) (gs.0 ++ (GroupOf xs.0 t.0 ∷ []), 0, mid)
  groups_go xs t mid q e m b = groups_step h gs ∙ rw (q, e, m, goes_on mid b) refl

pub groups_push : (gs : List code_group.Group) (g : code_group.Group) → groups_of (gs ++ (g ∷ [])) ≡ groups_of gs ++ (GroupOf (names_of g.names.items) (type_of g.type_tree) ∷ [])
groups_push [] g = refl
groups_push (f ∷ gs) g = ap (λ r. GroupOf (names_of f.names.items) (type_of f.type_tree) ∷ r) (groups_push gs g)

-- one turn over functions
module _ (h : ℕ) (fs : Found (List Function)) where
  pub functions_stop : fs.2 ≡ [] → loop (functions_turn h) fs ≡ Ok fs
  functions_stop e = functions_step h fs ∙ ap (λ ts. functions_from h fs ts >>= turned (loop (functions_turn h))) e

  functions_next : (t : Tok) (ts : List Tok) → fs.2 ≡ t ∷ ts → loop (functions_turn h) fs ≡ ((function_at h fs.2 >>= λ f. need marks.Semicolon f.2 >>= λ r. Ok (Go (fs.0 ++ (f.0 ∷ []), 0, r.1))) >>= turned (loop (functions_turn h)))
  unfolding functions_more
  functions_next t ts e = functions_step h fs ∙ ap (λ ts. functions_from h fs ts >>= turned (loop (functions_turn h))) e

  pub functions_err : (t : Tok) (ts : List Tok) (f : ReadError) → fs.2 ≡ t ∷ ts → function_at h fs.2 ≡ Err f → loop (functions_turn h) fs ≡ Err f
  functions_err t ts f e q = functions_next t ts e ∙ rw q refl

  pub functions_unended : (t : Tok) (ts : List Tok) (x : Found Function) (f : ReadError) → fs.2 ≡ t ∷ ts → function_at h fs.2 ≡ Ok x → need marks.Semicolon x.2 ≡ Err f → loop (functions_turn h) fs ≡ Err f
  functions_unended t ts x f e q m = functions_next t ts e ∙ rw (q, m) refl

  pub functions_go : (t : Tok) (ts : List Tok) (x : Found Function) (r : Place × List Tok) → fs.2 ≡ t ∷ ts → function_at h fs.2 ≡ Ok x → need marks.Semicolon x.2 ≡ Ok r → loop (functions_turn h) fs ≡ loop (functions_turn h) (fs.0 ++ (x.0 ∷ []), 0, r.1)
  functions_go t ts x r e q m = functions_next t ts e ∙ rw (q, m) refl

pub functions_push : (fs : List code_func.Func) (f : code_func.Func) → functions_of (fs ++ (f ∷ [])) ≡ functions_of fs ++ (function_of f ∷ [])
functions_push [] f = refl
functions_push (g ∷ fs) f = ap (λ r. function_of g ∷ r) (functions_push fs f)

pub type_shorter : (h : ℕ) (ts rest : List Token) (t : WrittenType) (k : ℕ) → type_at h (tokens_of ts) ≡ Ok (t, k, tokens_of rest) → length rest < length ts
type_shorter h ts rest t k q = omega (arith, tokens_length ts, tokens_length rest, type_shrinks (type_sound h (tokens_of ts) (t, k, tokens_of rest) q).tree)

pub function_shorter : (h : ℕ) (ts rest : List Token) (f : Function) (k : ℕ) → function_at h (tokens_of ts) ≡ Ok (f, k, tokens_of rest) → length rest < length ts
function_shorter h ts rest f k q = omega (arith, tokens_length ts, tokens_length rest, function_shrunk (function_sound h (tokens_of ts) (f, k, tokens_of rest) q).spelled)

-- whether tokens are left
pub empty : (ts : List Token) → length ts ≡ 0 → tokens_of ts ≡ []
empty ts e = rw (nil_from_length ts e) refl

pub full : (ts : List Token) → (length ts ≡ 0 → ⊥) → (s : Tok) × (rest : List Tok) × (tokens_of ts ≡ s ∷ rest)
full [] e = absurd (e refl)
full (t ∷ ts) e = (token_of t, tokens_of ts, refl)
