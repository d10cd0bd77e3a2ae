-- What stands before the block of an if or a for: what is in the grammar is read, where it is not too high.
use Rattle.std.proofs.Common.{◌≡◌, ℕ, max, true, false, List, ◌∷◌, refl, ap, sym, ◌∙◌, arith}
use Rattle.std.specs.Prelude.{Option, Some, None, Result, Ok}
use Rattle.gr_scan.specs.declared.token.Place.{Place}
use Rattle.gr_scan.specs.declared.token.Mark.TheVariants as marks
use Rattle.gr_scan.specs.Tokens.{Tok, At, Sign}
use Rattle.gr_scan.specs.Tokens as words
use Rattle.gr_tree.specs.Exprs.{Tree, Name, height}
use Rattle.gr_tree.specs.Statements.{Heading, Heads, IfHead, Test, Target, Nothing, Old, New, ForHead, Loop, Range, simple_height, heading_height, if_height, for_height, part_height}
use Rattle.gr_syntax.specs.Grammar.{SpellsExpr, alone, name, after_mark}
use Rattle.gr_syntax.specs.StatementGrammar as grammar
use Rattle.gr_syntax.specs.StatementGrammar.{SpellsSimple, SpellsHeading, heads, SpellsPart, missing, there, SpellsIfHead, SpellsPost, SpellsForHead, defines}
use Rattle.gr_syntax.specs.Reading.{ReadError, Found, Reads, ◌>>=◌, match_after, binary_of, need, expr_at}
use Rattle.gr_syntax.specs.SimpleReading.{place_at, bare}
use Rattle.gr_syntax.specs.StatementReading.{heading_after, tested, if_after, if_head_at, ranged, condition_at, post_at, parts_at, target_at, for_init, for_named, for_after, for_head_at}
use Rattle.gr_syntax.proofs.Bound.{bound, within, bound_bind, bound_max}
use Rattle.gr_syntax.proofs.Chains.{Quiet}
use Rattle.gr_syntax.proofs.Sizes.{height_pos}
use Rattle.gr_syntax.proofs.CompleteExprs.{expr_whole}
use Rattle.gr_syntax.proofs.CompleteSimple.{from_first, over_brace, over_semicolon, Opened, expr_opened, First, simple_first, heading_goes}

-- a condition after what stands before it
tested_whole : (h : ℕ) (init : Option Heading) (k : ℕ) (e : Tree) (ts rest : List Tok) → SpellsExpr 1 e ts rest → Quiet rest → tested h init k ts ≡ bound h (height e) (Ok (Test init e, max k (height e), rest))
unfolding tested
tested_whole h init k e ts rest d o =
    let f : Found Tree → Reads IfHead = λ e. Ok (Test init e.0, max k e.1, e.2) in
    ap (λ r. r >>= f) (expr_whole d o h) ∙ bound_bind h (height e) (Ok (e, height e, rest)) f

abbrev IfReads : ℕ → IfHead → List Tok → List Tok → Type 0
IfReads h c ts rest = if_head_at h ts ≡ bound h (if_height c) (Ok (c, if_height c, rest))

if_from : (h : ℕ) (p : Place) (ts : List Tok) → after_mark marks.Semicolon ts ≡ None → place_at ts ≡ Ok p → if_head_at h ts ≡ (expr_at h 1 ts >>= λ e. if_after h p e)
unfolding if_head_at
if_from h p ts m e = rw (m, e) refl

if_alone : (h : ℕ) (p b : Place) (e : Tree) (tail : List Tok) → if_after h p (e, height e, At b (Sign marks.LeftBrace) ∷ tail) ≡ Ok (Test None e, height e, At b (Sign marks.LeftBrace) ∷ tail)
unfolding if_after after_mark
if_alone h p b e tail = refl

if_only : (h : ℕ) (p b : Place) (e : Tree) (ts tail : List Tok) → SpellsExpr 1 e ts (At b (Sign marks.LeftBrace) ∷ tail) → IfReads h (Test None e) ts (At b (Sign marks.LeftBrace) ∷ tail)
if_only h p b e ts tail d =
    let z : max 0 (height e) ≡ height e = omega arith in
    let s = expr_opened d in
    if_from h s.place ts s.semicolon s.placed
    ∙ from_first h e ts (At b (Sign marks.LeftBrace) ∷ tail) (λ e. if_after h s.place e) (height e) (Ok (Test None e, height e, At b (Sign marks.LeftBrace) ∷ tail)) d (over_brace b tail).quiet (omega arith) (λ le. if_alone h s.place b e tail ∙ sym (within h (height e) _ le))
    ∙ ap (λ n. bound h n (Ok (Test None e, n, At b (Sign marks.LeftBrace) ∷ tail))) (sym z)

if_semicolon : (h : ℕ) (p : Place) (mid : List Tok) → if_head_at h (At p (Sign marks.Semicolon) ∷ mid) ≡ tested h None 0 mid
unfolding if_head_at after_mark
if_semicolon h p mid = refl

if_heading : (h : ℕ) (p : Place) (f : Found Tree) → after_mark marks.LeftBrace f.2 ≡ None → if_after h p f ≡ (heading_after h true p f >>= λ i. need marks.Semicolon i.2 >>= λ r. tested h (Some i.0) i.1 r.1)
unfolding if_after
if_heading h p f m = rw m refl

no_open : (p : Place) (ts : List Tok) → after_mark marks.LeftBrace (At p (Sign marks.Semicolon) ∷ ts) ≡ None
unfolding after_mark
no_open p ts = refl

need_semicolon : (p : Place) (ts : List Tok) → need marks.Semicolon (At p (Sign marks.Semicolon) ∷ ts) ≡ Ok (p, ts)
unfolding need after_mark
need_semicolon p ts = refl

-- a heading and its semicolon, and what goes on from there
heading_then : {B : Type 0} (h : ℕ) (p q : Place) (s : _) (ts mid : List Tok) (d : First s ts (At q (Sign marks.Semicolon) ∷ mid)) (k : Option Heading → ℕ → List Tok → Result B ReadError) → (heading_after h true p (d.e, height d.e, d.mid) >>= λ i. need marks.Semicolon i.2 >>= λ r. k (Some i.0) i.1 r.1) ≡ bound h (simple_height s) (k (Some (Heads p s)) (simple_height s) mid)
heading_then {B} h p q s ts mid d k =
    let f : Found Heading → Result B ReadError = λ i. need marks.Semicolon i.2 >>= λ r. k (Some i.0) i.1 r.1 in
    ap (λ r. r >>= f) (heading_goes h true p s ts (At q (Sign marks.Semicolon) ∷ mid) d (λ e. absurd (cc)))
    ∙ bound_bind h (simple_height s) (Ok (Heads p s, simple_height s, At q (Sign marks.Semicolon) ∷ mid)) f
    ∙ ap (λ r. bound h (simple_height s) (r >>= λ (r : Place × List Tok). k (Some (Heads p s)) (simple_height s) r.1)) (need_semicolon q mid)

if_headed : (h : ℕ) (p q : Place) (s : _) (e : Tree) (ts mid rest : List Tok) → place_at ts ≡ Ok p → SpellsSimple s ts (At q (Sign marks.Semicolon) ∷ mid) → SpellsExpr 1 e mid rest → Quiet rest → IfReads h (Test (Some (Heads p s)) e) ts rest
if_headed h p q s e ts mid rest w ds de o =
    let d = simple_first ds (over_semicolon q mid) in
    let a = expr_opened d.spelled in
    if_from h p ts a.semicolon w
    ∙ from_first h d.e ts d.mid (λ e. if_after h p e) (max (simple_height s) (height e)) (Ok (Test (Some (Heads p s)) e, max (simple_height s) (height e), rest)) d.spelled d.quiet (omega (arith, d.low))
    (λ le. if_heading h p (d.e, height d.e, d.mid) (d.brace (no_open q mid))
    ∙ heading_then h p q s ts mid d (λ init k ts. tested h init k ts)
    ∙ ap (bound h (simple_height s)) (tested_whole h (Some (Heads p s)) (simple_height s) e mid rest de o)
    ∙ bound_max h (simple_height s) (height e) _)

if_part : {i : Option Heading} {ts : List Tok} {q : Place} {mid : List Tok} → SpellsPart SpellsHeading i ts (At q (Sign marks.Semicolon) ∷ mid) → (h : ℕ) (e : Tree) (rest : List Tok) → SpellsExpr 1 e mid rest → Quiet rest → IfReads h (Test i e) ts rest
unfolding place_at
if_part {q = q} {mid = mid} missing h e rest de o =
    let z : max 0 (height e) ≡ height e = omega arith in
    if_semicolon h q mid ∙ tested_whole h None 0 e mid rest de o ∙ ap (λ n. bound h n (Ok (Test None e, max 0 (height e), rest))) (sym z)
if_part {q = q} {mid = mid} (there (heads {p = p} {w = w} {s = s} {ts = ts} d)) h e rest de o = if_headed h p q s e (At p w ∷ ts) mid rest refl d de o

pub if_head_whole : {c : IfHead} {ts : List Tok} {b : Place} {tail : List Tok} → SpellsIfHead c ts (At b (Sign marks.LeftBrace) ∷ tail) → (h : ℕ) → IfReads h c ts (At b (Sign marks.LeftBrace) ∷ tail)
if_head_whole {b = b} {tail = tail} (grammar.test {e = e} {ts = ts} d) h = if_only h b b e ts tail d
if_head_whole {b = b} {tail = tail} (grammar.part_test {e = e} d de) h = if_part d h e (At b (Sign marks.LeftBrace) ∷ tail) de (over_brace b tail).quiet

abbrev ForReads : ℕ → ForHead → List Tok → List Tok → Type 0
ForReads h c ts rest = for_head_at h ts ≡ bound h (for_height c) (Ok (c, for_height c, rest))

abbrev PartReads : {A : Type 0} → (List Tok → Reads (Option A)) → (A → ℕ) → ℕ → Option A → List Tok → List Tok → Type 0
PartReads read of h c ts rest = read ts ≡ bound h (part_height of c) (Ok (c, part_height of c, rest))

condition_none : (h : ℕ) (q : Place) (ts : List Tok) → condition_at h (At q (Sign marks.Semicolon) ∷ ts) ≡ Ok (None, 0, At q (Sign marks.Semicolon) ∷ ts)
unfolding condition_at after_mark
condition_none h q ts = refl

condition_some : (h : ℕ) (e : Tree) (ts rest : List Tok) → SpellsExpr 1 e ts rest → Quiet rest → PartReads (condition_at h) height h (Some e) ts rest
unfolding condition_at
condition_some h e ts rest d o =
    let m = (expr_opened d).semicolon in
    let f : Found Tree → Reads (Option Tree) = λ e. Ok (Some e.0, e.1, e.2) in
    rw m (ap (λ r. r >>= f) (expr_whole d o h) ∙ bound_bind h (height e) (Ok (e, height e, rest)) f)

condition_whole : {c : Option Tree} {ts : List Tok} {q : Place} {rest : List Tok} → SpellsPart (SpellsExpr 1) c ts (At q (Sign marks.Semicolon) ∷ rest) → (h : ℕ) → PartReads (condition_at h) height h c ts (At q (Sign marks.Semicolon) ∷ rest)
condition_whole {q = q} {rest = rest} missing h = condition_none h q rest ∙ sym (within h 0 _ (omega arith))
condition_whole {q = q} {rest = rest} (there {a = e} {ts = ts} d) h = condition_some h e ts (At q (Sign marks.Semicolon) ∷ rest) d (over_semicolon q rest).quiet

post_none : (h : ℕ) (b : Place) (ts : List Tok) → post_at h (At b (Sign marks.LeftBrace) ∷ ts) ≡ Ok (None, 0, At b (Sign marks.LeftBrace) ∷ ts)
unfolding post_at after_mark
post_none h b ts = refl

abbrev some_heading : Found Heading → Reads (Option Heading)
some_heading s = Ok (Some s.0, s.1, s.2)

post_from : (h : ℕ) (p : Place) (ts : List Tok) → after_mark marks.LeftBrace ts ≡ None → place_at ts ≡ Ok p → post_at h ts ≡ (expr_at h 1 ts >>= λ e. heading_after h false p e >>= some_heading)
unfolding post_at
post_from h p ts m w = rw (m, w) refl

post_some : (h : ℕ) (p b : Place) (s : _) (ts tail : List Tok) → place_at ts ≡ Ok p → SpellsSimple s ts (At b (Sign marks.LeftBrace) ∷ tail) → defines (Heads p s) ≡ false → PartReads (post_at h) heading_height h (Some (Heads p s)) ts (At b (Sign marks.LeftBrace) ∷ tail)
post_some h p b s ts tail w ds k =
    let rest : List Tok = At b (Sign marks.LeftBrace) ∷ tail in
    let d = simple_first ds (over_brace b tail) in
    post_from h p ts (expr_opened d.spelled).brace w
    ∙ from_first h d.e ts d.mid (λ e. heading_after h false p e >>= some_heading) (simple_height s) (Ok (Some (Heads p s), simple_height s, rest)) d.spelled d.quiet d.low
    (λ le. ap (λ r. r >>= some_heading) (heading_goes h false p s ts rest d (λ e. k))
    ∙ bound_bind h (simple_height s) (Ok (Heads p s, simple_height s, rest)) some_heading)

post_heading : {i : Heading} {ts : List Tok} {b : Place} {tail : List Tok} → SpellsHeading i ts (At b (Sign marks.LeftBrace) ∷ tail) → defines i ≡ false → (h : ℕ) → PartReads (post_at h) heading_height h (Some i) ts (At b (Sign marks.LeftBrace) ∷ tail)
unfolding place_at
post_heading {b = b} {tail = tail} (heads {p = p} {w = w} {s = s} {ts = ts} d) k h = post_some h p b s (At p w ∷ ts) tail refl d k

post_whole : {s : Option Heading} {ts : List Tok} {b : Place} {tail : List Tok} → SpellsPart SpellsPost s ts (At b (Sign marks.LeftBrace) ∷ tail) → (h : ℕ) → PartReads (post_at h) heading_height h s ts (At b (Sign marks.LeftBrace) ∷ tail)
post_whole {b = b} {tail = tail} missing h = post_none h b tail ∙ sym (within h 0 _ (omega arith))
post_whole (there (grammar.post k d)) h = post_heading d k h

-- a condition and a third part, after what stands before them
parts_whole : (h : ℕ) (init : Option Heading) (k : ℕ) (c : Option Tree) (s : Option Heading) (q b : Place) (conditions posts tail : List Tok) → SpellsPart (SpellsExpr 1) c conditions (At q (Sign marks.Semicolon) ∷ posts) → SpellsPart SpellsPost s posts (At b (Sign marks.LeftBrace) ∷ tail) → parts_at h init k conditions ≡ bound h (max (part_height height c) (part_height heading_height s)) (Ok (Loop init c s, max k (max (part_height height c) (part_height heading_height s)), At b (Sign marks.LeftBrace) ∷ tail))
unfolding parts_at
parts_whole h init k c s q b conditions posts tail dc ds =
    let m : ℕ = part_height height c in
    let n : ℕ = part_height heading_height s in
    let rest : List Tok = At b (Sign marks.LeftBrace) ∷ tail in
    let g : Found (Option Heading) → Reads ForHead = λ s. Ok (Loop init c s.0, max k (max m s.1), s.2) in
    let f : Found (Option Tree) → Reads ForHead = λ c. need marks.Semicolon c.2 >>= λ r. post_at h r.1 >>= λ s. Ok (Loop init c.0 s.0, max k (max c.1 s.1), s.2) in
    ap (λ r. r >>= f) (condition_whole dc h)
    ∙ bound_bind h m (Ok (c, m, At q (Sign marks.Semicolon) ∷ posts)) f
    ∙ ap (λ r. bound h m (r >>= λ (r : Place × List Tok). post_at h r.1 >>= g)) (need_semicolon q posts)
    ∙ ap (λ r. bound h m (r >>= g)) (post_whole ds h)
    ∙ ap (bound h m) (bound_bind h n (Ok (s, n, rest)) g)
    ∙ bound_max h m n _

ranged_whole : (h : ℕ) (target : Target) (e : Tree) (ts rest : List Tok) → SpellsExpr 1 e ts rest → Quiet rest → ranged h target ts ≡ bound h (height e) (Ok (Range target e, height e, rest))
unfolding ranged
ranged_whole h target e ts rest d o =
    let f : Found Tree → Reads ForHead = λ e. Ok (Range target e.0, e.1, e.2) in
    ap (λ r. r >>= f) (expr_whole d o h) ∙ bound_bind h (height e) (Ok (e, height e, rest)) f

for_none : (h : ℕ) (b : Place) (tail : List Tok) → for_head_at h (At b (Sign marks.LeftBrace) ∷ tail) ≡ Ok (Loop None None None, 0, At b (Sign marks.LeftBrace) ∷ tail)
unfolding for_head_at after_mark
for_none h b tail = refl

for_semicolon : (h : ℕ) (p : Place) (ts : List Tok) → for_head_at h (At p (Sign marks.Semicolon) ∷ ts) ≡ parts_at h None 0 ts
unfolding for_head_at after_mark
for_semicolon h p ts = refl

for_range : (h : ℕ) (p : Place) (ts : List Tok) → for_head_at h (At p (Sign marks.Range) ∷ ts) ≡ ranged h Nothing ts
unfolding for_head_at after_mark
for_range h p ts = refl

for_from : (h : ℕ) (p : Place) (ts : List Tok) → Opened ts → place_at ts ≡ Ok p → for_head_at h ts ≡ (expr_at h 1 ts >>= λ e. for_after h p e)
unfolding for_head_at
for_from h p ts o w = let a = o.brace in let b = o.range in let c = o.semicolon in rw (a, b, c, w) refl

for_alone : (h : ℕ) (p b : Place) (e : Tree) (tail : List Tok) → for_after h p (e, height e, At b (Sign marks.LeftBrace) ∷ tail) ≡ Ok (Loop None (Some e) None, height e, At b (Sign marks.LeftBrace) ∷ tail)
unfolding for_after after_mark
for_alone h p b e tail = refl

for_condition : (h : ℕ) (b : Place) (e : Tree) (ts tail : List Tok) → SpellsExpr 1 e ts (At b (Sign marks.LeftBrace) ∷ tail) → ForReads h (Loop None (Some e) None) ts (At b (Sign marks.LeftBrace) ∷ tail)
for_condition h b e ts tail d =
    let z : max 0 (max (height e) 0) ≡ height e = omega arith in
    let s = expr_opened d in
    for_from h s.place ts s s.placed
    ∙ from_first h e ts (At b (Sign marks.LeftBrace) ∷ tail) (λ e. for_after h s.place e) (height e) (Ok (Loop None (Some e) None, height e, At b (Sign marks.LeftBrace) ∷ tail)) d (over_brace b tail).quiet (omega arith) (λ le. for_alone h s.place b e tail ∙ sym (within h (height e) _ le))
    ∙ ap (λ n. bound h n (Ok (Loop None (Some e) None, n, At b (Sign marks.LeftBrace) ∷ tail))) (sym z)

look_none : {A B : Type 0} (o : Option A) (f : A → B) (y : B) → ((x : A) → o ≡ Some x → f x ≡ y) → match_after o f y ≡ y
look_none (Some x) f y e = e x refl
look_none None f y e = refl

for_heading : (h : ℕ) (p : Place) (f : Found Tree) → after_mark marks.LeftBrace f.2 ≡ None → ((x : List ℕ) → bare f.0 ≡ Some x → target_at x f.2 ≡ None) → for_after h p f ≡ (heading_after h true p f >>= λ i. need marks.Semicolon i.2 >>= λ r. parts_at h (Some i.0) i.1 r.1)
unfolding for_after for_named for_init
for_heading h p f m n = rw m (look_none (bare f.0) (λ x. for_named h p f x) (for_init h p f) (λ x b. let t = n x b in rw t refl))

for_headed : (h : ℕ) (p r q b : Place) (i : _) (c : Option Tree) (s : Option Heading) (ts conditions posts tail : List Tok) → place_at ts ≡ Ok p → SpellsSimple i ts (At r (Sign marks.Semicolon) ∷ conditions) → SpellsPart (SpellsExpr 1) c conditions (At q (Sign marks.Semicolon) ∷ posts) → SpellsPart SpellsPost s posts (At b (Sign marks.LeftBrace) ∷ tail) → ForReads h (Loop (Some (Heads p i)) c s) ts (At b (Sign marks.LeftBrace) ∷ tail)
for_headed h p r q b i c s ts conditions posts tail w di dc ds =
    let d = simple_first di (over_semicolon r conditions) in
    let a = expr_opened d.spelled in
    let m : ℕ = max (part_height height c) (part_height heading_height s) in
    for_from h p ts a w
    ∙ from_first h d.e ts d.mid (λ e. for_after h p e) (max (simple_height i) m) (Ok (Loop (Some (Heads p i)) c s, max (simple_height i) m, At b (Sign marks.LeftBrace) ∷ tail)) d.spelled d.quiet (omega (arith, d.low))
    (λ le. for_heading h p (d.e, height d.e, d.mid) (d.brace (no_open r conditions)) d.range
    ∙ heading_then h p r i ts conditions d (λ init k ts. parts_at h init k ts)
    ∙ ap (bound h (simple_height i)) (parts_whole h (Some (Heads p i)) (simple_height i) c s q b conditions posts tail dc ds)
    ∙ bound_max h (simple_height i) m _)

for_parts : {i : Option Heading} {ts : List Tok} {r : Place} {conditions : List Tok} → SpellsPart SpellsHeading i ts (At r (Sign marks.Semicolon) ∷ conditions) → (h : ℕ) (c : Option Tree) (s : Option Heading) (q b : Place) (posts tail : List Tok) → SpellsPart (SpellsExpr 1) c conditions (At q (Sign marks.Semicolon) ∷ posts) → SpellsPart SpellsPost s posts (At b (Sign marks.LeftBrace) ∷ tail) → ForReads h (Loop i c s) ts (At b (Sign marks.LeftBrace) ∷ tail)
unfolding place_at
for_parts {r = r} {conditions = conditions} missing h c s q b posts tail dc ds =
    let m : ℕ = max (part_height height c) (part_height heading_height s) in
    let z : max 0 m ≡ m = omega arith in
    for_semicolon h r conditions ∙ parts_whole h None 0 c s q b conditions posts tail dc ds
    ∙ ap (λ n. bound h n (Ok (Loop None c s, max 0 m, At b (Sign marks.LeftBrace) ∷ tail))) (sym z)
for_parts {r = r} {conditions = conditions} (there (heads {p = p} {w = w} {s = i} {ts = ts} d)) h c s q b posts tail dc ds =
    for_headed h p r q b i c s (At p w ∷ ts) conditions posts tail refl d dc ds

old_after : (h : ℕ) (p q r : Place) (x : List ℕ) (ts : List Tok) → for_after h p (Name x, 1, At q (Sign marks.Assign) ∷ At r (Sign marks.Range) ∷ ts) ≡ ranged h (Old x) ts
unfolding for_after for_named target_at bare after_mark
old_after h p q r x ts = refl

new_after : (h : ℕ) (p q r : Place) (x : List ℕ) (ts : List Tok) → for_after h p (Name x, 1, At q (Sign marks.Define) ∷ At r (Sign marks.Range) ∷ ts) ≡ ranged h (New x) ts
unfolding for_after for_named target_at bare after_mark
new_after h p q r x ts = refl

pub quiet_both : (q : Place) (ts : List Tok) → Quiet (At q (Sign marks.Assign) ∷ ts) × Quiet (At q (Sign marks.Define) ∷ ts) × Quiet (At q (Sign marks.Comma) ∷ ts)
unfolding after_mark binary_of
quiet_both q ts = ((refl, refl), (refl, refl), (refl, refl))

-- a range that begins with a name
ranged_name : (h : ℕ) (p : Place) (x : List ℕ) (t : Target) (e : Tree) (mid ts rest : List Tok) → Quiet mid → for_after h p (Name x, 1, mid) ≡ ranged h t ts → SpellsExpr 1 e ts rest → Quiet rest → ForReads h (Range t e) (At p (words.Name x) ∷ mid) rest
unfolding place_at
ranged_name h p x t e mid ts rest n g d o =
    let first : SpellsExpr 1 (Name x) (At p (words.Name x) ∷ mid) mid = alone name in
    for_from h p (At p (words.Name x) ∷ mid) (expr_opened first) refl
    ∙ from_first h (Name x) (At p (words.Name x) ∷ mid) mid (λ e. for_after h p e) (height e) (Ok (Range t e, height e, rest)) first n (omega (arith, height_pos e))
    (λ le. g ∙ ranged_whole h t e ts rest d o)

pub for_head_whole : {c : ForHead} {ts : List Tok} {b : Place} {tail : List Tok} → SpellsForHead c ts (At b (Sign marks.LeftBrace) ∷ tail) → (h : ℕ) → ForReads h c ts (At b (Sign marks.LeftBrace) ∷ tail)
for_head_whole {b = b} {tail = tail} (grammar.while missing) h = for_none h b tail ∙ sym (within h 0 _ (omega arith))
for_head_whole {b = b} {tail = tail} (grammar.while (there {a = e} {ts = ts} d)) h = for_condition h b e ts tail d
for_head_whole {b = b} {tail = tail} (grammar.parts {p = p} {q = q} {i = i} {s = s} {c = c} {posts = posts} d dc ds) h = for_parts d h c s q b posts tail dc ds
for_head_whole {b = b} {tail = tail} (grammar.range {p = p} {e = e} {ts = ts} d) h = for_range h p ts ∙ ranged_whole h Nothing e ts (At b (Sign marks.LeftBrace) ∷ tail) d (over_brace b tail).quiet
for_head_whole {b = b} {tail = tail} (grammar.range_old {p = p} {q = q} {r = r} {x = x} {e = e} {ts = ts} d) h =
    ranged_name h p x (Old x) e (At q (Sign marks.Assign) ∷ At r (Sign marks.Range) ∷ ts) ts (At b (Sign marks.LeftBrace) ∷ tail) (quiet_both q (At r (Sign marks.Range) ∷ ts)).0 (old_after h p q r x ts) d (over_brace b tail).quiet
for_head_whole {b = b} {tail = tail} (grammar.range_new {p = p} {q = q} {r = r} {x = x} {e = e} {ts = ts} d) h =
    ranged_name h p x (New x) e (At q (Sign marks.Define) ∷ At r (Sign marks.Range) ∷ ts) ts (At b (Sign marks.LeftBrace) ∷ tail) (quiet_both q (At r (Sign marks.Range) ∷ ts)).1 (new_after h p q r x ts) d (over_brace b tail).quiet
