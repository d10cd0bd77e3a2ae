-- Files: what is read is in the grammar, and what is in it is read.
use Rattle.std.proofs.Common.{◌≡◌, ℕ, zero, suc, ◌+◌, ◌<◌, ◌≤◌, max, List, [], ◌∷◌, length, refl, ap, sym, ◌∙◌, subst, arith, ltb-true}
use Rattle.std.specs.Prelude.{Some, None, Result, Ok, Err, nat_lt}
use Rattle.std.specs.List.{slice_get}
use Rattle.gr_scan.specs.declared.token.Place.{Place}
use Rattle.gr_scan.specs.declared.token.Mark.TheVariants as marks
use Rattle.gr_scan.specs.declared.token.Token.{Token}
use Rattle.gr_scan.specs.Tokens.{Tok, At, Sign, token_of, tokens_of}
use Rattle.gr_scan.specs.Tokens as words
use Rattle.gr_tree.specs.Files.{Function, functions_height, FileTree, FileOf, file_height}
use Rattle.gr_syntax.specs.Grammar.{after_mark}
use Rattle.gr_syntax.specs.FileGrammar.{SpellsFile, file, IsTreeOf}
use Rattle.gr_syntax.specs.Refused.{IsNoFile, IsTooHigh}
use Rattle.gr_syntax.specs.Reading.{ReadError, Wrong, High, Found, ◌>>=◌, name_at, need}
use Rattle.gr_syntax.specs.FileReading.{functions_at, file_at}
use Rattle.gr_syntax.proofs.Bound.{bound, within, bound_bind}
use Rattle.gr_syntax.proofs.Cases.{ok_inj, on_ok, on_test, name_is, need_is}
use Rattle.gr_syntax.proofs.Turns.{tokens_length}
use Rattle.gr_syntax.proofs.Functions.{functions_sound, functions_whole}
use Rattle.gr_syntax.proofs.FilesLong.{file_high}

-- what reading a file answers
pub record IsFile (h : ℕ) (ts : List Tok) (f : FileTree) : Type 0 where
  pub spelled : SpellsFile f ts
  pub fits : file_height f ≤ h

heading : {p q r : Place} {x : List ℕ} {ts a b c : List Tok} → ts ≡ At p (Sign marks.Package) ∷ a → a ≡ At q (words.Name x) ∷ b → b ≡ At r (Sign marks.Semicolon) ∷ c → ts ≡ At p (Sign marks.Package) ∷ At q (words.Name x) ∷ At r (Sign marks.Semicolon) ∷ c
heading e1 e2 e3 = cc

pub file_sound : (h : ℕ) (ts : List Tok) (f : FileTree) → file_at h ts ≡ Ok f → IsFile h ts f
unfolding file_at
file_sound h ts f q =
    on_ok (need marks.Package ts) _ f q (λ a ea q.
    on_ok (name_at a.1) _ f q (λ x ex q.
    on_ok (need marks.Semicolon x.1) _ f q (λ b eb q.
    on_ok (functions_at h b.1) _ f q (λ fs ef q.
    let named = name_is a.1 x ex in
    let s = functions_sound h b.1 fs ef in
    subst (λ f. IsFile h ts f) (ok_inj q)
    (rw (heading (need_is marks.Package ts a ea) named.1 (need_is marks.Semicolon x.1 b eb), s.all) (record { spelled = file s.spelled; fits = s.fits }))))))

pub file_whole : {f : FileTree} {ts : List Tok} → SpellsFile f ts → (h : ℕ) → file_at h ts ≡ bound h (file_height f) (Ok f)
unfolding file_at need name_at after_mark
file_whole (file {p = p} {x = x} {fs = fs} d) h =
    let f : Found (List Function) → Result FileTree ReadError = λ fs. Ok (FileOf p x fs.0) in
    ap (λ r. r >>= f) (functions_whole d h) ∙ bound_bind h (functions_height fs) (Ok (fs, 0, [])) f

-- what a fault says of a file
err_inj : {A : Type 0} {d e : ReadError} → ◌≡◌ {A = Result A ReadError} (Err d) (Err e) → d ≡ e
err_inj q = cc

ok≢err : {A : Type 0} {Z : Type 0} (x : A) (d : ReadError) → ◌≡◌ {A = Result A ReadError} (Ok x) (Err d) → Z
ok≢err x d q = absurd (cc)

wrong≢high : Wrong ≡ High → ⊥
wrong≢high q = cc

fault_is : {f : FileTree} {ts : List Tok} {d : ReadError} → SpellsFile f ts → (h : ℕ) → file_at h ts ≡ Err d → (d ≡ High) × (h < file_height f)
fault_is {f} {ts} {d} t h q =
    on_test (nat_lt h (file_height f)) (Err High) (Ok f) (Err d) (sym (file_whole t h) ∙ q)
    (λ lt e. let high : High ≡ d = err_inj e in (sym high, omega (arith, ltb-true h (file_height f) lt)))
    (λ le e. ok≢err f d e)

none_wrong : (h : ℕ) (ts : List Tok) → file_at h ts ≡ Err Wrong → (f : FileTree) → SpellsFile f ts → ⊥
none_wrong h ts q f t = wrong≢high (fault_is t h q).0

none_high : (h : ℕ) (ts : List Tok) → file_at h ts ≡ Err High → (f : FileTree) → SpellsFile f ts → file_height f ≤ h → ⊥
none_high h ts q f t le = omega (arith, (fault_is t h q).1)

pub one_tree : (f g : FileTree) (ts : List Tok) → SpellsFile f ts → SpellsFile g ts → f ≡ g
one_tree f g ts a b =
    let h : ℕ = max (file_height f) (file_height g) in
    ok_inj (sym (file_whole a h ∙ within h (file_height f) (Ok f) (omega arith)) ∙ (file_whole b h ∙ within h (file_height g) (Ok g) (omega arith)))

-- what `parse` says
pub is_tree : (ts : List Tok) (f : FileTree) → file_at 200 ts ≡ Ok f → IsTreeOf f ts
is_tree ts f q = let s = file_sound 200 ts f q in record { spelled = s.spelled; low = s.fits }

pub no_file : (ts : List Token) (token : ℕ) → token ≤ length ts → file_at 200 (tokens_of ts) ≡ Err Wrong → IsNoFile token (tokens_of ts)
no_file ts token le q = record { within = omega (arith, tokens_length ts); none = none_wrong 200 (tokens_of ts) q }

long_enough : (h n : ℕ) → h + 3 ≤ n → h < n
long_enough h n le = omega arith

pub too_high : (ts : List Token) (token : ℕ) → token ≤ length ts → file_at 200 (tokens_of ts) ≡ Err High → IsTooHigh token (tokens_of ts)
too_high ts token le q = record { within = omega (arith, tokens_length ts); long = long_enough 200 (length (tokens_of ts)) (file_high 200 (tokens_of ts) q); none = none_high 200 (tokens_of ts) q }

-- the token with an index
pub get_none : (ts : List Token) (token : ℕ) → slice_get ts token ≡ None → slice_get (tokens_of ts) token ≡ None
get_none [] token q = refl
get_none (t ∷ ts) zero q = absurd (cc)
get_none (t ∷ ts) (suc token) q = get_none ts token q

pub get_some : (ts : List Token) (token : ℕ) (t : Token) → slice_get ts token ≡ Some t → slice_get (tokens_of ts) token ≡ Some (token_of t)
get_some [] token t q = absurd (cc)
get_some (s ∷ ts) zero t q = let same : s ≡ t = cc in ap (λ s. Some (token_of s)) same
get_some (s ∷ ts) (suc token) t q = get_some ts token t q
