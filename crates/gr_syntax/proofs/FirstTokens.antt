-- What the first token of a statement, or of what goes on, says.
use Rattle.std.proofs.Common.{◌≡◌, ℕ, ◌≤◌, Bool, true, false, List, [], ◌∷◌, refl, ap, subst, arith, ltb-false}
use Rattle.std.specs.Prelude.{Option, Some, Ok, Err, nat_lt}
use Rattle.std.proofs.lemmas.Option.{same_Some}
use Rattle.gr_scan.specs.declared.token.Place.{Place}
use Rattle.gr_scan.specs.declared.token.Mark.{Mark}
use Rattle.gr_scan.specs.declared.token.Mark.TheVariants as marks
use Rattle.gr_scan.specs.Tokens.{Tok, At, Word, Sign}
use Rattle.gr_scan.specs.Tokens as words
use Rattle.gr_tree.specs.declared.expr.BinaryOp.TheVariants as binaries
use Rattle.gr_tree.specs.Exprs.{Tree, Name}
use Rattle.gr_syntax.specs.declared.opening.Keyword.{Keyword}
use Rattle.gr_syntax.specs.declared.opening.Keyword.TheVariants as keywords
use Rattle.gr_syntax.specs.declared.opening.Joint.{Joint}
use Rattle.gr_syntax.specs.declared.opening.Joint.TheVariants as joints
use Rattle.gr_syntax.specs.Grammar.{SpellsExpr, alone, name}
use Rattle.gr_syntax.specs.StatementGrammar.{update_mark}
use Rattle.gr_syntax.specs.Reading.{High, Found, operator_at}
use Rattle.gr_syntax.specs.SimpleReading.{up_to, keyword_of, joint_of, define_at, place_at, bare, first_name}
use Rattle.gr_syntax.proofs.Cases.{ok_inj, on_look, on_test, Opens, after_is}

-- what was let through is low enough
pub up_is : {A : Type 0} (P : Found A → Type 0) (h : ℕ) (f u : Found A) → up_to h f ≡ Ok u → (f.1 ≤ h → P f) → P u
up_is P h f u q k = on_test (nat_lt h f.1) (Err High) (Ok f) (Ok u) q (λ t e. absurd (cc)) (λ t e. subst P (ok_inj e) (k (omega (arith, ltb-false h f.1 t))))

-- the mark of a keyword
abbrev pub keyword_mark : Keyword → Mark
keyword_mark keywords.Var = marks.Var
keyword_mark keywords.Go = marks.Go
keyword_mark keywords.Return = marks.Return
keyword_mark keywords.Break = marks.Break
keyword_mark keywords.Continue = marks.Continue
keyword_mark keywords.Block = marks.LeftBrace
keyword_mark keywords.If = marks.If
keyword_mark keywords.For = marks.For
keyword_mark keywords.Select = marks.Select

pub keyword_is : (m : Mark) (k : Keyword) → keyword_of m ≡ Some k → m ≡ keyword_mark k
unfolding keyword_of
keyword_is marks.Var k e = ap keyword_mark (same_Some _ _ e)
keyword_is marks.Go k e = ap keyword_mark (same_Some _ _ e)
keyword_is marks.Return k e = ap keyword_mark (same_Some _ _ e)
keyword_is marks.Break k e = ap keyword_mark (same_Some _ _ e)
keyword_is marks.Continue k e = ap keyword_mark (same_Some _ _ e)
keyword_is marks.LeftBrace k e = ap keyword_mark (same_Some _ _ e)
keyword_is marks.If k e = ap keyword_mark (same_Some _ _ e)
keyword_is marks.For k e = ap keyword_mark (same_Some _ _ e)
keyword_is marks.Select k e = ap keyword_mark (same_Some _ _ e)
keyword_is _ k e = absurd (cc)

-- which marks stand for a joint
abbrev pub Joins : Mark → Joint → Type 0
Joins m joints.Comma = m ≡ marks.Comma
Joins m joints.Values = Unit {0}
Joins m (joints.Update op) = update_mark op ≡ Some m
Joins m joints.Increment = m ≡ marks.PlusPlus
Joins m joints.Decrement = m ≡ marks.MinusMinus

joins : (m : Mark) (k j : Joint) → Joins m k → Some k ≡ Some j → Joins m j
joins m k j d e = subst (Joins m) (same_Some _ _ e) d

pub joint_is : (m : Mark) (j : Joint) → joint_of m ≡ Some j → Joins m j
unfolding joint_of
joint_is marks.Comma j e = joins marks.Comma joints.Comma j refl e
joint_is marks.Assign j e = joins marks.Assign joints.Values j tt e
joint_is marks.Define j e = joins marks.Define joints.Values j tt e
joint_is marks.StarAssign j e = joins marks.StarAssign (joints.Update binaries.Multiply) j refl e
joint_is marks.SlashAssign j e = joins marks.SlashAssign (joints.Update binaries.Divide) j refl e
joint_is marks.PercentAssign j e = joins marks.PercentAssign (joints.Update binaries.Remainder) j refl e
joint_is marks.ShiftLeftAssign j e = joins marks.ShiftLeftAssign (joints.Update binaries.ShiftLeft) j refl e
joint_is marks.ShiftRightAssign j e = joins marks.ShiftRightAssign (joints.Update binaries.ShiftRight) j refl e
joint_is marks.AndAssign j e = joins marks.AndAssign (joints.Update binaries.BitAnd) j refl e
joint_is marks.AndNotAssign j e = joins marks.AndNotAssign (joints.Update binaries.AndNot) j refl e
joint_is marks.PlusAssign j e = joins marks.PlusAssign (joints.Update binaries.Add) j refl e
joint_is marks.MinusAssign j e = joins marks.MinusAssign (joints.Update binaries.Subtract) j refl e
joint_is marks.OrAssign j e = joins marks.OrAssign (joints.Update binaries.BitOr) j refl e
joint_is marks.CaretAssign j e = joins marks.CaretAssign (joints.Update binaries.BitXor) j refl e
joint_is marks.PlusPlus j e = joins marks.PlusPlus joints.Increment j refl e
joint_is marks.MinusMinus j e = joins marks.MinusMinus joints.Decrement j refl e
joint_is _ j e = absurd (cc)

-- a mark comes first of which something is known
pub record Marked {O : Type 0} (of : Mark → Option O) (o : O) (ts rest : List Tok) : Type 0 where
  pub place : Place
  pub mark : Mark
  pub known : of mark ≡ Some o
  pub is : ts ≡ At place (Sign mark) ∷ rest

pub marked : {O : Type 0} (of : Mark → Option O) (ts : List Tok) (o : O × List Tok) → operator_at of ts ≡ Some o → Marked of o.0 ts o.1
marked {O} of (At p (Sign m) ∷ ts) o q =
    on_look (of m) _ _ (Some o) q
    (λ j e is. subst (λ (o : O × List Tok). Marked of o.0 (At p (Sign m) ∷ ts) o.1) (same_Some _ _ is) (record { place = p; mark = m; known = e; is = refl }))
    (λ e is. absurd (cc))
marked {O} of _ o q = absurd (cc)

pub define_is : (may : Bool) (ts rest : List Tok) → define_at may ts ≡ Some rest → (may ≡ true) × Opens marks.Define ts rest
unfolding define_at
define_is true ts rest q = (refl, after_is marks.Define ts rest q)
define_is false ts rest q = absurd (cc)

pub first_is : (ts : List Tok) (x : List ℕ × List Tok) → first_name ts ≡ Some x → (p : Place) × (ts ≡ At p (words.Name x.0) ∷ x.1)
unfolding first_name
first_is (At p (words.Name y) ∷ ts) x q = let same : (y, ts) ≡ x = same_Some _ _ q in (p, cc)
first_is _ x q = absurd (cc)

pub bare_is : (e : Tree) (x : List ℕ) → bare e ≡ Some x → e ≡ Name x
unfolding bare
bare_is (Name y) x q = ap Name (same_Some _ _ q)
bare_is _ x q = absurd (cc)

pub name_only : {l : ℕ} {x : List ℕ} {ts rest : List Tok} → SpellsExpr l (Name x) ts rest → (p : Place) × (ts ≡ At p (words.Name x) ∷ rest)
name_only (alone (name {p = p})) = (p, refl)

-- the tokens of an expression that is a name alone
pub bare_tokens : {l : ℕ} (e : Tree) (x : List ℕ) (ts rest : List Tok) → bare e ≡ Some x → SpellsExpr l e ts rest → (p : Place) × (ts ≡ At p (words.Name x) ∷ rest)
bare_tokens {l} e x ts rest q d = name_only (subst (λ e. SpellsExpr l e ts rest) (bare_is e x q) d)

-- the first token, where its place is known
pub record Begins (p : Place) (ts : List Tok) : Type 0 where
  pub word : Word
  pub others : List Tok
  pub is : ts ≡ At p word ∷ others

pub place_is : (ts : List Tok) (p : Place) → place_at ts ≡ Ok p → Begins p ts
unfolding place_at
place_is [] p q = absurd (cc)
place_is (At r w ∷ ts) p q = record { word = w; others = ts; is = ap (λ p. At p w ∷ ts) (ok_inj q) }

same_place : {p q : Place} {w v : Word} {xs ys ts : List Tok} → ts ≡ At p w ∷ xs → ts ≡ At q v ∷ ys → ts ≡ At p v ∷ ys
same_place e f = cc

pub opened : {p : Place} {m : Mark} {ts rest : List Tok} → Begins p ts → Opens m ts rest → ts ≡ At p (Sign m) ∷ rest
opened b o = same_place b.is o.is

pub named : {p q : Place} {x : List ℕ} {ts rest : List Tok} → Begins p ts → ts ≡ At q (words.Name x) ∷ rest → ts ≡ At p (words.Name x) ∷ rest
named b e = same_place b.is e
