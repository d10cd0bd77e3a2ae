-- Types: what is read is in the grammar, and what is in it is read, where it is not too high.
use Rattle.std.proofs.Common.{◌≡◌, ℕ, zero, suc, ◌+◌, ◌<◌, ◌≤◌, List, ◌∷◌, length, refl, ap, sym, ◌∙◌, subst, arith}
use Rattle.std.specs.Prelude.{None, Ok, Err}
use Rattle.gr_scan.specs.declared.token.Place.{Place}
use Rattle.gr_scan.specs.declared.token.Mark.TheVariants as marks
use Rattle.gr_scan.specs.Tokens.{Tok, At, Sign}
use Rattle.gr_scan.specs.Tokens as words
use Rattle.gr_tree.specs.declared.expr.Direction.{Direction}
use Rattle.gr_tree.specs.declared.expr.Direction.TheVariants as directions
use Rattle.gr_tree.specs.Exprs.{WrittenType, TypeName, UnitType, Chan, ParenType, type_height}
use Rattle.gr_syntax.specs.Grammar.{after_mark, SpellsType, type_name, type_unit, type_chan, type_send, type_receive, type_paren}
use Rattle.gr_syntax.specs.Reading.{High, Found, Reads, ◌>>=◌, need, name_at, channel_at, both_at, paren_type_at, plain_type_at, type_from, type_at}
use Rattle.gr_syntax.proofs.Bound.{bound, within, above, under}
use Rattle.gr_syntax.proofs.Cases.{ok_inj, on_ok, on_high, on_look, after_is, name_is, need_is, need_low, name_low}

-- what reading a type answers, under a limit h on its height
pub record IsType (h : ℕ) (ts : List Tok) (u : Found WrittenType) : Type 0 where
  pub tree : SpellsType u.0 ts u.2
  pub high : u.1 ≡ type_height u.0
  pub fits : u.1 ≤ h

abbrev pub TypeSounds : ℕ → (List Tok → Reads WrittenType) → Type 0
TypeSounds h rec = (ts : List Tok) (u : Found WrittenType) → rec ts ≡ Ok u → IsType h ts u

channel_sound : (h : ℕ) (rec : List Tok → Reads WrittenType) → TypeSounds h rec → (d : Direction) (ts all : List Tok) → ((t : WrittenType) (rest : List Tok) → SpellsType t ts rest → SpellsType (Chan d t) all rest) → (u : Found WrittenType) → channel_at rec d ts ≡ Ok u → IsType (suc h) all u
unfolding channel_at
channel_sound h rec snd d ts all build u q =
    on_ok (rec ts) (λ t. Ok (Chan d t.0, t.1 + 1, t.2)) u q (λ t et q.
    let s = snd ts t et in
    subst (λ v. IsType (suc h) all v) (ok_inj q) (record { tree = build t.0 t.2 s.tree; high = omega (arith, s.high); fits = omega (arith, s.fits) }))

both_sound : (h : ℕ) (rec : List Tok → Reads WrittenType) → TypeSounds h rec → (p : Place) (ts : List Tok) (u : Found WrittenType) → both_at rec ts ≡ Ok u → IsType (suc h) (At p (Sign marks.Chan) ∷ ts) u
unfolding both_at
both_sound h rec snd p ts u q =
    on_look (after_mark marks.Arrow ts) _ _ (Ok u) q
    (λ inner m q. let o = after_is marks.Arrow ts inner m in
    channel_sound h rec snd directions.Send inner (At p (Sign marks.Chan) ∷ ts)
    (λ t rest d. subst (λ ts. SpellsType (Chan directions.Send t) (At p (Sign marks.Chan) ∷ ts) rest) (sym o.is) (type_send d)) u q)
    (λ m q. channel_sound h rec snd directions.Both ts (At p (Sign marks.Chan) ∷ ts) (λ t rest d. type_chan m d) u q)

receive_sound : (h : ℕ) (rec : List Tok → Reads WrittenType) → TypeSounds h rec → (p : Place) (ts : List Tok) (u : Found WrittenType) → (need marks.Chan ts >>= λ c. channel_at rec directions.Receive c.1) ≡ Ok u → IsType (suc h) (At p (Sign marks.Arrow) ∷ ts) u
receive_sound h rec snd p ts u q =
    on_ok (need marks.Chan ts) (λ c. channel_at rec directions.Receive c.1) u q (λ c ec q.
    channel_sound h rec snd directions.Receive c.1 (At p (Sign marks.Arrow) ∷ ts)
    (λ t rest d. subst (λ ts. SpellsType (Chan directions.Receive t) (At p (Sign marks.Arrow) ∷ ts) rest) (sym (need_is marks.Chan ts c ec)) (type_receive d)) u q)

paren_type_sound : (h : ℕ) (rec : List Tok → Reads WrittenType) → TypeSounds h rec → (p : Place) (ts : List Tok) (u : Found WrittenType) → paren_type_at rec ts ≡ Ok u → IsType (suc h) (At p (Sign marks.LeftParen) ∷ ts) u
unfolding paren_type_at
paren_type_sound h rec snd p ts u q =
    on_ok (rec ts) (λ t. need marks.RightParen t.2 >>= λ r. Ok (ParenType t.0, t.1 + 1, r.1)) u q (λ t et q.
    on_ok (need marks.RightParen t.2) (λ r. Ok (ParenType t.0, t.1 + 1, r.1)) u q (λ r er q.
    let s = snd ts t et in
    subst (λ v. IsType (suc h) (At p (Sign marks.LeftParen) ∷ ts) v) (ok_inj q)
    (record { tree = type_paren (subst (λ r. SpellsType t.0 ts r) (need_is marks.RightParen t.2 r er) s.tree); high = omega (arith, s.high); fits = omega (arith, s.fits) })))

plain_type_sound : (h : ℕ) (ts : List Tok) (u : Found WrittenType) → plain_type_at ts ≡ Ok u → IsType (suc h) ts u
unfolding plain_type_at
plain_type_sound h ts u q =
    on_look (after_mark marks.Struct ts) _ _ (Ok u) q
    (λ rest m q. let o = after_is marks.Struct ts rest m in
    on_ok (need marks.LeftBrace rest) (λ a. need marks.RightBrace a.1 >>= λ b. Ok (UnitType, 1, b.1)) u q (λ a ea q.
    on_ok (need marks.RightBrace a.1) (λ b. Ok (UnitType, 1, b.1)) u q (λ b eb q.
    let all : ts ≡ At o.place (Sign marks.Struct) ∷ At a.0 (Sign marks.LeftBrace) ∷ At b.0 (Sign marks.RightBrace) ∷ b.1 =
    o.is ∙ ap (λ r. At o.place (Sign marks.Struct) ∷ r) (need_is marks.LeftBrace rest a ea ∙ ap (λ r. At a.0 (Sign marks.LeftBrace) ∷ r) (need_is marks.RightBrace a.1 b eb)) in
    subst (λ v. IsType (suc h) ts v) (ok_inj q) (record { tree = subst (λ ts. SpellsType UnitType ts b.1) (sym all) type_unit; high = refl; fits = omega arith }))))
    (λ m q. on_ok (name_at ts) (λ x. Ok (TypeName x.0, 1, x.1)) u q (λ x ex q.
    subst (λ v. IsType (suc h) ts v) (ok_inj q) (record { tree = subst (λ ts. SpellsType (TypeName x.0) ts x.1) (sym (name_is ts x ex).1) type_name; high = refl; fits = omega arith })))

type_from_sound : (h : ℕ) (rec : List Tok → Reads WrittenType) → TypeSounds h rec → (ts : List Tok) (u : Found WrittenType) → type_from rec ts ≡ Ok u → IsType (suc h) ts u
unfolding type_from
type_from_sound h rec snd ts u q =
    on_look (after_mark marks.Chan ts) _ _ (Ok u) q
    (λ rest m q. let o = after_is marks.Chan ts rest m in subst (λ ts. IsType (suc h) ts u) (sym o.is) (both_sound h rec snd o.place rest u q))
    (λ m q. on_look (after_mark marks.Arrow ts) _ _ (Ok u) q
    (λ rest m q. let o = after_is marks.Arrow ts rest m in subst (λ ts. IsType (suc h) ts u) (sym o.is) (receive_sound h rec snd o.place rest u q))
    (λ m q. on_look (after_mark marks.LeftParen ts) _ _ (Ok u) q
    (λ rest m q. let o = after_is marks.LeftParen ts rest m in subst (λ ts. IsType (suc h) ts u) (sym o.is) (paren_type_sound h rec snd o.place rest u q))
    (λ m q. plain_type_sound h ts u q)))

pub type_sound : (h : ℕ) → TypeSounds h (type_at h)
unfolding type_at
type_sound zero ts u q = absurd (cc)
type_sound (suc h) ts u q = type_from_sound h (type_at h) (type_sound h) ts u q

type_height_pos : (t : WrittenType) → 0 < type_height t
type_height_pos (TypeName x) = omega arith
type_height_pos UnitType = omega arith
type_height_pos (Chan d t) = omega arith
type_height_pos (ParenType t) = omega arith

-- what reading answers at a type
abbrev pub TypeReads : ℕ → WrittenType → List Tok → List Tok → Type 0
TypeReads h t ts rest = type_at h ts ≡ bound h (type_height t) (Ok (t, type_height t, rest))

from_parts : (t : WrittenType) (ts rest : List Tok) → ((h : ℕ) → type_from (type_at h) ts ≡ bound (suc h) (type_height t) (Ok (t, type_height t, rest))) → (h : ℕ) → TypeReads h t ts rest
unfolding type_at
from_parts t ts rest f zero = sym (above zero (type_height t) _ (type_height_pos t))
from_parts t ts rest f (suc h) = f h

channel_whole : (h : ℕ) (d : Direction) (t : WrittenType) (ts rest : List Tok) → TypeReads h t ts rest → channel_at (type_at h) d ts ≡ bound (suc h) (type_height t + 1) (Ok (Chan d t, type_height t + 1, rest))
unfolding channel_at
channel_whole h d t ts rest r = under h (type_height t) (type_at h ts) (t, type_height t, rest) (λ t. Ok (Chan d t.0, t.1 + 1, t.2)) r

chan_opens : (rec : List Tok → Reads WrittenType) (p : Place) (ts : List Tok) → after_mark marks.Arrow ts ≡ None → type_from rec (At p (Sign marks.Chan) ∷ ts) ≡ channel_at rec directions.Both ts
unfolding type_from both_at after_mark
chan_opens rec p ts m = rw m refl

send_opens : (rec : List Tok → Reads WrittenType) (p q : Place) (ts : List Tok) → type_from rec (At p (Sign marks.Chan) ∷ At q (Sign marks.Arrow) ∷ ts) ≡ channel_at rec directions.Send ts
unfolding type_from both_at after_mark
send_opens rec p q ts = refl

receive_opens : (rec : List Tok → Reads WrittenType) (p q : Place) (ts : List Tok) → type_from rec (At p (Sign marks.Arrow) ∷ At q (Sign marks.Chan) ∷ ts) ≡ channel_at rec directions.Receive ts
unfolding type_from need after_mark
receive_opens rec p q ts = refl

paren_type_opens : (rec : List Tok → Reads WrittenType) (p : Place) (ts : List Tok) → type_from rec (At p (Sign marks.LeftParen) ∷ ts) ≡ paren_type_at rec ts
unfolding type_from after_mark
paren_type_opens rec p ts = refl

abbrev closed_type : Found WrittenType → List Tok → Reads WrittenType
closed_type t ts = need marks.RightParen ts >>= λ r. Ok (ParenType t.0, t.1 + 1, r.1)

paren_type_closes : (t : Found WrittenType) (p : Place) (rest : List Tok) → closed_type t (At p (Sign marks.RightParen) ∷ rest) ≡ Ok (ParenType t.0, t.1 + 1, rest)
unfolding need after_mark
paren_type_closes t p rest = refl

paren_type_whole : (h : ℕ) (p : Place) (t : WrittenType) (ts rest : List Tok) → TypeReads h t ts (At p (Sign marks.RightParen) ∷ rest) → paren_type_at (type_at h) ts ≡ bound (suc h) (type_height t + 1) (Ok (ParenType t, type_height t + 1, rest))
unfolding paren_type_at
paren_type_whole h p t ts rest r =
    under h (type_height t) (type_at h ts) (t, type_height t, At p (Sign marks.RightParen) ∷ rest) (λ t. closed_type t t.2) r
    ∙ ap (bound (suc h) (type_height t + 1)) (paren_type_closes (t, type_height t, At p (Sign marks.RightParen) ∷ rest) p rest)

name_opens : (rec : List Tok → Reads WrittenType) (p : Place) (x : List ℕ) (rest : List Tok) → type_from rec (At p (words.Name x) ∷ rest) ≡ Ok (TypeName x, 1, rest)
unfolding type_from plain_type_at name_at after_mark
name_opens rec p x rest = refl

unit_opens : (rec : List Tok → Reads WrittenType) (p q r : Place) (rest : List Tok) → type_from rec (At p (Sign marks.Struct) ∷ At q (Sign marks.LeftBrace) ∷ At r (Sign marks.RightBrace) ∷ rest) ≡ Ok (UnitType, 1, rest)
unfolding type_from plain_type_at need after_mark
unit_opens rec p q r rest = refl

pub type_whole : {t : WrittenType} {ts rest : List Tok} → SpellsType t ts rest → (h : ℕ) → TypeReads h t ts rest
type_whole (type_name {p = p} {x = x} {rest = rest}) h =
    from_parts (TypeName x) (At p (words.Name x) ∷ rest) rest (λ h. name_opens (type_at h) p x rest ∙ sym (within (suc h) 1 _ (omega arith))) h
type_whole (type_unit {p = p} {q = q} {r = r} {rest = rest}) h =
    from_parts UnitType (At p (Sign marks.Struct) ∷ At q (Sign marks.LeftBrace) ∷ At r (Sign marks.RightBrace) ∷ rest) rest (λ h. unit_opens (type_at h) p q r rest ∙ sym (within (suc h) 1 _ (omega arith))) h
type_whole (type_chan {p = p} {t = t} {ts = ts} {rest = rest} m d) h =
    from_parts (Chan directions.Both t) (At p (Sign marks.Chan) ∷ ts) rest (λ h. chan_opens (type_at h) p ts m ∙ channel_whole h directions.Both t ts rest (type_whole d h)) h
type_whole (type_send {p = p} {q = q} {t = t} {ts = ts} {rest = rest} d) h =
    from_parts (Chan directions.Send t) (At p (Sign marks.Chan) ∷ At q (Sign marks.Arrow) ∷ ts) rest (λ h. send_opens (type_at h) p q ts ∙ channel_whole h directions.Send t ts rest (type_whole d h)) h
type_whole (type_receive {p = p} {q = q} {t = t} {ts = ts} {rest = rest} d) h =
    from_parts (Chan directions.Receive t) (At p (Sign marks.Arrow) ∷ At q (Sign marks.Chan) ∷ ts) rest (λ h. receive_opens (type_at h) p q ts ∙ channel_whole h directions.Receive t ts rest (type_whole d h)) h
type_whole (type_paren {p = p} {q = q} {t = t} {ts = ts} {rest = rest} d) h =
    from_parts (ParenType t) (At p (Sign marks.LeftParen) ∷ ts) rest (λ h. paren_type_opens (type_at h) p ts ∙ paren_type_whole h q t ts rest (type_whole d h)) h

-- a type takes as many tokens as it has levels, and one at least
pub type_long : {t : WrittenType} {ts rest : List Tok} → SpellsType t ts rest → type_height t + length rest ≤ length ts
type_long type_name = omega arith
type_long type_unit = omega arith
type_long (type_chan m d) = omega (arith, type_long d)
type_long (type_send d) = omega (arith, type_long d)
type_long (type_receive d) = omega (arith, type_long d)
type_long (type_paren d) = omega (arith, type_long d)

pub type_shrinks : {t : WrittenType} {ts rest : List Tok} → SpellsType t ts rest → length rest < length ts
type_shrinks {t} d = omega (arith, type_long d, type_height_pos t)

-- a type is refused as too high after as many tokens as it may have levels
abbrev TypeLong : ℕ → (List Tok → Reads WrittenType) → Type 0
TypeLong h rec = (ts : List Tok) → rec ts ≡ Err High → h ≤ length ts

channel_high : (h : ℕ) (rec : List Tok → Reads WrittenType) → TypeLong h rec → (d : Direction) (ts : List Tok) → channel_at rec d ts ≡ Err High → h ≤ length ts
unfolding channel_at
channel_high h rec long d ts q = on_high (rec ts) (λ t. Ok (Chan d t.0, t.1 + 1, t.2)) q (λ q. long ts q) (λ t et q. absurd (cc))

both_high : (h : ℕ) (rec : List Tok → Reads WrittenType) → TypeLong h rec → (ts : List Tok) → both_at rec ts ≡ Err High → h ≤ length ts
unfolding both_at
both_high h rec long ts q =
    on_look (after_mark marks.Arrow ts) _ _ (Err High) q
    (λ inner m q. omega (arith, channel_high h rec long directions.Send inner q, ap length (after_is marks.Arrow ts inner m).is))
    (λ m q. channel_high h rec long directions.Both ts q)

plain_type_low : {Z : Type 0} (ts : List Tok) → plain_type_at ts ≡ Err High → Z
unfolding plain_type_at
plain_type_low ts q =
    on_look (after_mark marks.Struct ts) _ _ (Err High) q
    (λ rest m q. on_high (need marks.LeftBrace rest) (λ a. need marks.RightBrace a.1 >>= λ b. Ok (UnitType, 1, b.1)) q (λ q. need_low marks.LeftBrace rest q) (λ a ea q.
    on_high (need marks.RightBrace a.1) (λ b. Ok (UnitType, 1, b.1)) q (λ q. need_low marks.RightBrace a.1 q) (λ b eb q. absurd (cc))))
    (λ m q. on_high (name_at ts) (λ x. Ok (TypeName x.0, 1, x.1)) q (λ q. name_low ts q) (λ x ex q. absurd (cc)))

paren_type_high : (h : ℕ) (rec : List Tok → Reads WrittenType) → TypeLong h rec → (ts : List Tok) → paren_type_at rec ts ≡ Err High → h ≤ length ts
unfolding paren_type_at
paren_type_high h rec long ts q =
    on_high (rec ts) (λ t. need marks.RightParen t.2 >>= λ r. Ok (ParenType t.0, t.1 + 1, r.1)) q (λ q. long ts q) (λ t et q.
    on_high (need marks.RightParen t.2) (λ r. Ok (ParenType t.0, t.1 + 1, r.1)) q (λ q. need_low marks.RightParen t.2 q) (λ r er q. absurd (cc)))

type_from_high : (h : ℕ) (rec : List Tok → Reads WrittenType) → TypeLong h rec → (ts : List Tok) → type_from rec ts ≡ Err High → suc h ≤ length ts
unfolding type_from
type_from_high h rec long ts q =
    on_look (after_mark marks.Chan ts) _ _ (Err High) q
    (λ rest m q. omega (arith, both_high h rec long rest q, ap length (after_is marks.Chan ts rest m).is))
    (λ m q. on_look (after_mark marks.Arrow ts) _ _ (Err High) q
    (λ rest m q. on_high (need marks.Chan rest) (λ c. channel_at rec directions.Receive c.1) q (λ q. need_low marks.Chan rest q) (λ c ec q.
    omega (arith, channel_high h rec long directions.Receive c.1 q, ap length (after_is marks.Arrow ts rest m).is, ap length (need_is marks.Chan rest c ec))))
    (λ m q. on_look (after_mark marks.LeftParen ts) _ _ (Err High) q
    (λ rest m q. omega (arith, paren_type_high h rec long rest q, ap length (after_is marks.LeftParen ts rest m).is))
    (λ m q. plain_type_low ts q)))

pub type_high : (h : ℕ) (ts : List Tok) → type_at h ts ≡ Err High → h ≤ length ts
unfolding type_at
type_high zero ts q = omega arith
type_high (suc h) ts q = type_from_high h (type_at h) (type_high h) ts q
