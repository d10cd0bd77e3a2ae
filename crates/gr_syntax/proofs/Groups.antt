-- Parameters and results: what is read is in the grammar, and what is in it is read.
use Rattle.std.proofs.Common.{◌≡◌, ℕ, zero, suc, ◌<◌, ◌≤◌, max, true, List, [], ◌∷◌, ◌++◌, length, refl, ap, sym, ◌∙◌, subst, arith, append_assoc}
use Rattle.std.specs.Prelude.{Option, Some, None, Result, Ok}
use Rattle.gr_scan.specs.declared.token.Place.{Place}
use Rattle.gr_scan.specs.declared.token.Mark.TheVariants as marks
use Rattle.gr_scan.specs.Tokens.{Tok, At, Sign}
use Rattle.gr_tree.specs.Exprs.{WrittenType, type_height}
use Rattle.gr_tree.specs.Statements.{part_height}
use Rattle.gr_tree.specs.Files.{Group, GroupOf, groups_height}
use Rattle.gr_syntax.specs.Grammar.{after_mark, SpellsType, type_name, type_unit, type_chan, type_send, type_receive, type_paren, SpellsNames, last_name, comma_name}
use Rattle.gr_syntax.specs.StatementGrammar.{SpellsPart, missing, there}
use Rattle.gr_syntax.specs.FileGrammar.{SpellsGroups, last_group, comma_group, SpellsParameters, no_parameters, parameters, parameters_comma}
use Rattle.gr_syntax.specs.Reading.{ReadError, Found, Reads, ◌>>=◌, Turn, Stop, Go, turned, turns, loop, need, names_at, type_at, ends_at}
use Rattle.gr_syntax.specs.FileReading.{groups_after, groups_turn, groups_at, parameters_at, result_at}
use Rattle.gr_syntax.proofs.Bound.{bound, within, bound_bind, bound_max}
use Rattle.gr_syntax.proofs.Loops.{Shrinks, loop_is}
use Rattle.gr_syntax.proofs.Cases.{ok_inj, on_ok, go_inj, stop≢go, on_look, on_test, after_is, need_is}
use Rattle.gr_syntax.proofs.Names.{names_sound, names_whole, names_shrunk}
use Rattle.gr_syntax.proofs.WrittenTypes.{IsType, type_sound, type_whole, type_shrinks}

abbrev pub Groups : Type 0
Groups = List Group

-- groups, and a comma after them, if one stands there
data Listed : Groups → List Tok → List Tok → Type 0 where
  plain : {gs : Groups} {ts rest : List Tok} → SpellsGroups gs ts rest → Listed gs ts rest
  trailing : {p : Place} {gs : Groups} {ts rest : List Tok} → SpellsGroups gs ts (At p (Sign marks.Comma) ∷ rest) → Listed gs ts rest

before : {p : Place} {xs : List (List ℕ)} {t : WrittenType} {gs : Groups} {ts mid others rest : List Tok} → SpellsNames xs ts mid → SpellsType t mid (At p (Sign marks.Comma) ∷ others) → Listed gs others rest → Listed (GroupOf xs t ∷ gs) ts rest
before n d (plain ds) = plain (comma_group n d ds)
before n d (trailing ds) = trailing (comma_group n d ds)

-- what reading groups answers
record IsGroups (h : ℕ) (acc : Groups) (ts : List Tok) (u : Found Groups) : Type 0 where
  pub gs : Groups
  pub all : u.0 ≡ acc ++ gs
  pub listed : Listed gs ts u.2
  pub fits : groups_height gs ≤ h

abbrev GroupsRun : ℕ → ℕ → Type 0
GroupsRun h n = (acc : Groups) (k : ℕ) (ts : List Tok) (u : Found Groups) → turns (groups_turn h) n (acc, k, ts) ≡ Ok u → IsGroups h acc ts u

-- the last group
module _ (h : ℕ) (acc : Groups) (ts : List Tok) (xs : Found (List (List ℕ))) (t : Found WrittenType) (n : SpellsNames xs.0 ts xs.2) (d : IsType h xs.2 t) where
  group_ends : (rest : List Tok) (u : Found Groups) → Listed (GroupOf xs.0 t.0 ∷ []) ts rest → ◌≡◌ {A = Reads Groups} (Ok (acc ++ (GroupOf xs.0 t.0 ∷ []), 0, rest)) (Ok u) → IsGroups h acc ts u
  group_ends rest u l q = subst (λ v. IsGroups h acc ts v) (ok_inj q) (record { gs = GroupOf xs.0 t.0 ∷ []; all = refl; listed = l; fits = omega (arith, d.high, d.fits) })

  group_goes : (p : Place) (rest : List Tok) (u : Found Groups) → t.2 ≡ At p (Sign marks.Comma) ∷ rest → IsGroups h (acc ++ (GroupOf xs.0 t.0 ∷ [])) rest u → IsGroups h acc ts u
  group_goes p rest u e b =
      let tree : SpellsType t.0 xs.2 (At p (Sign marks.Comma) ∷ rest) = subst (λ r. SpellsType t.0 xs.2 r) e d.tree in
      record { gs = GroupOf xs.0 t.0 ∷ b.gs; all = b.all ∙ append_assoc acc (GroupOf xs.0 t.0 ∷ []) b.gs; listed = before n tree b.listed; fits = omega (arith, d.high, d.fits, b.fits) }

  group_done : (m : ℕ) → GroupsRun h m → (v : Turn (Found Groups)) (u : Found Groups) → groups_after (acc ++ (GroupOf xs.0 t.0 ∷ [])) t.2 ≡ Ok v → turned (turns (groups_turn h) m) v ≡ Ok u → IsGroups h acc ts u
  group_done m ih v u ev q =
      let next : Turn (Found Groups) → Reads Groups = turned (turns (groups_turn h) m) in
      on_look (after_mark marks.Comma t.2) _ _ (Ok v) ev
      (λ rest c ev. let o = after_is marks.Comma t.2 rest c in
      on_test (ends_at true rest) _ _ (Ok v) ev
      (λ e ev. group_ends rest u (trailing (last_group n (subst (λ r. SpellsType t.0 xs.2 r) o.is d.tree))) (subst (λ d. next d ≡ Ok u) (sym (ok_inj ev)) q))
      (λ e ev. group_goes o.place rest u o.is (ih (acc ++ (GroupOf xs.0 t.0 ∷ [])) 0 rest u (subst (λ d. next d ≡ Ok u) (sym (ok_inj ev)) q))))
      (λ c ev. group_ends t.2 u (plain (last_group n d.tree)) (subst (λ d. next d ≡ Ok u) (sym (ok_inj ev)) q))

groups_run_sound : (h n : ℕ) → GroupsRun h n
unfolding groups_turn
groups_run_sound h zero acc k ts u q = absurd (cc)
groups_run_sound h (suc n) acc k ts u q =
    on_ok (names_at ts >>= λ xs. type_at h xs.2 >>= λ t. groups_after (acc ++ (GroupOf xs.0 t.0 ∷ [])) t.2) (turned (turns (groups_turn h) n)) u q (λ v ev q.
    on_ok (names_at ts) (λ xs. type_at h xs.2 >>= λ t. groups_after (acc ++ (GroupOf xs.0 t.0 ∷ [])) t.2) v ev (λ xs ex ev.
    on_ok (type_at h xs.2) (λ t. groups_after (acc ++ (GroupOf xs.0 t.0 ∷ [])) t.2) v ev (λ t et ev.
    group_done h acc ts xs t (names_sound ts xs ex) (type_sound h xs.2 t et) n (groups_run_sound h n) v u ev q)))

groups_sound : (h : ℕ) (ts : List Tok) (u : Found Groups) → groups_at h ts ≡ Ok u → IsGroups h [] ts u
unfolding groups_at loop
groups_sound h ts u q = groups_run_sound h (suc (length ts)) [] 0 ts u q

-- what reading parameters answers
pub record IsParameters (h : ℕ) (ts : List Tok) (u : Found Groups) : Type 0 where
  pub spelled : SpellsParameters u.0 ts u.2
  pub fits : groups_height u.0 ≤ h

closed_groups : {p q : Place} {gs : Groups} {ts mid rest : List Tok} → Listed gs ts mid → mid ≡ At q (Sign marks.RightParen) ∷ rest → SpellsParameters gs (At p (Sign marks.LeftParen) ∷ ts) rest
closed_groups {gs = gs} {ts = ts} (plain d) e = parameters (subst (λ r. SpellsGroups gs ts r) e d)
closed_groups {gs = gs} {ts = ts} (trailing {p = p} d) e = parameters_comma (subst (λ r. SpellsGroups gs ts (At p (Sign marks.Comma) ∷ r)) e d)

pub parameters_sound : (h : ℕ) (ts : List Tok) (u : Found Groups) → parameters_at h ts ≡ Ok u → IsParameters h ts u
unfolding parameters_at
parameters_sound h ts u q =
    on_ok (need marks.LeftParen ts) _ u q (λ a ea q.
    let opens = need_is marks.LeftParen ts a ea in
    on_look (after_mark marks.RightParen a.1) _ _ (Ok u) q
    (λ rest m q. let o = after_is marks.RightParen a.1 rest m in
    subst (λ u. IsParameters h ts u) (ok_inj q) (rw (opens, o.is) (record { spelled = no_parameters; fits = omega arith })))
    (λ m q. on_ok (groups_at h a.1) _ u q (λ gs eg q. on_ok (need marks.RightParen gs.2) _ u q (λ b eb q.
    let s = groups_sound h a.1 gs eg in
    subst (λ u. IsParameters h ts u) (ok_inj q) (rw (opens, s.all) (record { spelled = closed_groups s.listed (need_is marks.RightParen gs.2 b eb); fits = s.fits }))))))

-- what reading a result answers
pub record IsResult (h : ℕ) (ts : List Tok) (u : Found (Option WrittenType)) : Type 0 where
  pub spelled : SpellsPart SpellsType u.0 ts u.2
  pub fits : part_height type_height u.0 ≤ h

pub result_sound : (h : ℕ) (ts : List Tok) (u : Found (Option WrittenType)) → result_at h ts ≡ Ok u → IsResult h ts u
unfolding result_at
result_sound h ts u q =
    on_look (after_mark marks.LeftBrace ts) _ _ (Ok u) q
    (λ rest m q. subst (λ u. IsResult h ts u) (ok_inj q) (record { spelled = missing; fits = omega arith }))
    (λ m q. on_ok (type_at h ts) _ u q (λ t et q. let s = type_sound h ts t et in
    subst (λ u. IsResult h ts u) (ok_inj q) (record { spelled = there s.tree; fits = omega (arith, s.high, s.fits) })))

-- what no type begins with
record Begins (ts : List Tok) : Type 0 where
  pub comma : after_mark marks.Comma ts ≡ None
  pub brace : after_mark marks.LeftBrace ts ≡ None
  pub paren : after_mark marks.RightParen ts ≡ None

type_begins : {t : WrittenType} {ts rest : List Tok} → SpellsType t ts rest → Begins ts
unfolding after_mark
type_begins type_name = record { comma = refl; brace = refl; paren = refl }
type_begins type_unit = record { comma = refl; brace = refl; paren = refl }
type_begins (type_chan n d) = record { comma = refl; brace = refl; paren = refl }
type_begins (type_send d) = record { comma = refl; brace = refl; paren = refl }
type_begins (type_receive d) = record { comma = refl; brace = refl; paren = refl }
type_begins (type_paren d) = record { comma = refl; brace = refl; paren = refl }

names_begin : {xs : List (List ℕ)} {ts rest : List Tok} → SpellsNames xs ts rest → after_mark marks.RightParen ts ≡ None
unfolding after_mark
names_begin last_name = refl
names_begin (comma_name d) = refl

groups_begin : {gs : Groups} {ts rest : List Tok} → SpellsGroups gs ts rest → after_mark marks.RightParen ts ≡ None
groups_begin (last_group n d) = names_begin n
groups_begin (comma_group n d ds) = names_begin n

pub groups_shrinks : (h : ℕ) → Shrinks (groups_turn h)
unfolding groups_turn
groups_shrinks h s v q =
    on_ok (names_at s.2) (λ xs. type_at h xs.2 >>= λ t. groups_after (s.0 ++ (GroupOf xs.0 t.0 ∷ [])) t.2) (Go v) q (λ xs ex q.
    on_ok (type_at h xs.2) (λ t. groups_after (s.0 ++ (GroupOf xs.0 t.0 ∷ [])) t.2) (Go v) q (λ t et q.
    let n = names_shrunk (names_sound s.2 xs ex) in
    let d = type_shrinks (type_sound h xs.2 t et).tree in
    on_look (after_mark marks.Comma t.2) _ _ (Ok (Go v)) q
    (λ rest m q. on_test (ends_at true rest) _ _ (Ok (Go v)) q
    (λ b q. stop≢go (s.0 ++ (GroupOf xs.0 t.0 ∷ []), 0, rest) v q)
    (λ b q. omega (arith, n, d, ap length (after_is marks.Comma t.2 rest m).is, ap length (go_inj (s.0 ++ (GroupOf xs.0 t.0 ∷ []), 0, rest) v q))))
    (λ m q. stop≢go (s.0 ++ (GroupOf xs.0 t.0 ∷ []), 0, t.2) v q)))

abbrev pub groups_from : ℕ → Found Groups → Result (Turn (Found Groups)) ReadError
groups_from h gs = names_at gs.2 >>= λ xs. type_at h xs.2 >>= λ t. groups_after (gs.0 ++ (GroupOf xs.0 t.0 ∷ [])) t.2

pub groups_step : (h : ℕ) (gs : Found Groups) → loop (groups_turn h) gs ≡ (groups_from h gs >>= turned (loop (groups_turn h)))
unfolding groups_turn
groups_step h gs = loop_is (groups_turn h) (groups_shrinks h) gs

-- what follows groups, and what is left where they end
data Follows : List Tok → List Tok → Type 0 where
  closes : {q : Place} {rest : List Tok} → Follows (At q (Sign marks.RightParen) ∷ rest) (At q (Sign marks.RightParen) ∷ rest)
  comma_closes : {p q : Place} {rest : List Tok} → Follows (At p (Sign marks.Comma) ∷ At q (Sign marks.RightParen) ∷ rest) (At q (Sign marks.RightParen) ∷ rest)

after_last : (gs : Groups) {after rest : List Tok} → Follows after rest → groups_after gs after ≡ Ok (Stop (gs, 0, rest))
unfolding after_mark ends_at
after_last gs closes = refl
after_last gs comma_closes = refl

after_comma : (gs : Groups) (p : Place) (ts : List Tok) → after_mark marks.RightParen ts ≡ None → groups_after gs (At p (Sign marks.Comma) ∷ ts) ≡ Ok (Go (gs, 0, ts))
unfolding after_mark ends_at
after_comma gs p ts m = rw m refl

abbrev GroupsTo : ℕ → Groups → Groups → List Tok → List Tok → Type 0
GroupsTo h acc gs ts rest = loop (groups_turn h) (acc, 0, ts) ≡ bound h (groups_height gs) (Ok (acc ++ gs, 0, rest))

one_group : (h : ℕ) (acc : Groups) (xs : List (List ℕ)) (t : WrittenType) (ts mid after : List Tok) → SpellsNames xs ts mid → SpellsType t mid after → loop (groups_turn h) (acc, 0, ts) ≡ bound h (type_height t) (groups_after (acc ++ (GroupOf xs t ∷ [])) after >>= turned (loop (groups_turn h)))
one_group h acc xs t ts mid after n d =
    let f : Found WrittenType → Result (Turn (Found Groups)) ReadError = λ t. groups_after (acc ++ (GroupOf xs t.0 ∷ [])) t.2 in
    let again : Turn (Found Groups) → Reads Groups = turned (loop (groups_turn h)) in
    groups_step h (acc, 0, ts)
    ∙ ap (λ r. (r >>= λ (xs : Found (List (List ℕ))). type_at h xs.2 >>= λ t. groups_after (acc ++ (GroupOf xs.0 t.0 ∷ [])) t.2) >>= again) (names_whole n (type_begins d).comma)
    ∙ ap (λ r. (r >>= f) >>= again) (type_whole d h)
    ∙ ap (λ r. r >>= again) (bound_bind h (type_height t) (Ok (t, type_height t, after)) f)
    ∙ bound_bind h (type_height t) (f (t, type_height t, after)) again

last_turn : (h : ℕ) (acc : Groups) (xs : List (List ℕ)) (t : WrittenType) (ts mid after rest : List Tok) → SpellsNames xs ts mid → SpellsType t mid after → Follows after rest → GroupsTo h acc (GroupOf xs t ∷ []) ts rest
last_turn h acc xs t ts mid after rest n d f =
    let high : type_height t ≡ max (type_height t) 0 = omega arith in
    one_group h acc xs t ts mid after n d
    ∙ ap (λ r. bound h (type_height t) (r >>= turned (loop (groups_turn h)))) (after_last (acc ++ (GroupOf xs t ∷ [])) f)
    ∙ ap (λ k. bound h k (Ok (acc ++ (GroupOf xs t ∷ []), 0, rest))) high

comma_turn : (h : ℕ) (acc : Groups) (xs : List (List ℕ)) (t : WrittenType) (gs : Groups) (p : Place) (ts mid others rest : List Tok) → SpellsNames xs ts mid → SpellsType t mid (At p (Sign marks.Comma) ∷ others) → after_mark marks.RightParen others ≡ None → GroupsTo h (acc ++ (GroupOf xs t ∷ [])) gs others rest → GroupsTo h acc (GroupOf xs t ∷ gs) ts rest
comma_turn h acc xs t gs p ts mid others rest n d b ih =
    one_group h acc xs t ts mid (At p (Sign marks.Comma) ∷ others) n d
    ∙ ap (λ r. bound h (type_height t) (r >>= turned (loop (groups_turn h)))) (after_comma (acc ++ (GroupOf xs t ∷ [])) p others b)
    ∙ ap (bound h (type_height t)) ih
    ∙ bound_max h (type_height t) (groups_height gs) _
    ∙ ap (λ all. bound h (max (type_height t) (groups_height gs)) (Ok (all, 0, rest))) (append_assoc acc (GroupOf xs t ∷ []) gs)

groups_run : {gs : Groups} {ts after : List Tok} → SpellsGroups gs ts after → {rest : List Tok} → Follows after rest → (h : ℕ) (acc : Groups) → GroupsTo h acc gs ts rest
groups_run (last_group {xs = xs} {t = t} {ts = ts} {mid = mid} {rest = after} n d) {rest} f h acc = last_turn h acc xs t ts mid after rest n d f
groups_run (comma_group {p = p} {xs = xs} {t = t} {gs = gs} {ts = ts} {mid = mid} {others = others} n d ds) {rest} f h acc =
    comma_turn h acc xs t gs p ts mid others rest n d (groups_begin ds) (groups_run ds f h (acc ++ (GroupOf xs t ∷ [])))

opened : (h : ℕ) (gs : Groups) (p q : Place) (ts after rest : List Tok) → SpellsGroups gs ts after → Follows after (At q (Sign marks.RightParen) ∷ rest) → parameters_at h (At p (Sign marks.LeftParen) ∷ ts) ≡ bound h (groups_height gs) (Ok (gs, 0, rest))
unfolding parameters_at groups_at need after_mark
opened h gs p q ts after rest d f =
    let k : Found Groups → Reads Groups = λ gs. need marks.RightParen gs.2 >>= λ b. Ok (gs.0, 0, b.1) in
    rw (groups_begin d) refl
    ∙ ap (λ r. r >>= k) (groups_run d f h [])
    ∙ bound_bind h (groups_height gs) (Ok (gs, 0, At q (Sign marks.RightParen) ∷ rest)) k

no_groups : (h : ℕ) (p q : Place) (rest : List Tok) → parameters_at h (At p (Sign marks.LeftParen) ∷ At q (Sign marks.RightParen) ∷ rest) ≡ Ok ([], 0, rest)
unfolding parameters_at need after_mark
no_groups h p q rest = refl

pub parameters_whole : {gs : Groups} {ts rest : List Tok} → SpellsParameters gs ts rest → (h : ℕ) → parameters_at h ts ≡ bound h (groups_height gs) (Ok (gs, 0, rest))
parameters_whole (no_parameters {p = p} {q = q} {rest = rest}) h = no_groups h p q rest ∙ sym (within h 0 _ (omega arith))
parameters_whole (parameters {p = p} {q = q} {gs = gs} {ts = ts} {rest = rest} d) h = opened h gs p q ts (At q (Sign marks.RightParen) ∷ rest) rest d closes
parameters_whole (parameters_comma {p = p} {q = q} {r = r} {gs = gs} {ts = ts} {rest = rest} d) h =
    opened h gs p r ts (At q (Sign marks.Comma) ∷ At r (Sign marks.RightParen) ∷ rest) rest d comma_closes

-- a result before a `{`
pub result_whole : {t : Option WrittenType} {ts rest tail : List Tok} → SpellsPart SpellsType t ts rest → after_mark marks.LeftBrace rest ≡ Some tail → (h : ℕ) → result_at h ts ≡ bound h (part_height type_height t) (Ok (t, 0, rest))
unfolding result_at
result_whole (missing {ts = ts}) m h = rw m (sym (within h 0 _ (omega arith)))
result_whole (there {a = t} {ts = ts} {rest = rest} d) m h =
    let f : Found WrittenType → Reads (Option WrittenType) = λ t. Ok (Some t.0, 0, t.2) in
    rw (type_begins d).brace refl
    ∙ ap (λ r. r >>= f) (type_whole d h)
    ∙ bound_bind h (type_height t) (Ok (t, type_height t, rest)) f

pub groups_shrunk : {gs : Groups} {ts rest : List Tok} → SpellsGroups gs ts rest → length rest < length ts
groups_shrunk (last_group n d) = omega (arith, names_shrunk n, type_shrinks d)
groups_shrunk (comma_group n d ds) = omega (arith, names_shrunk n, type_shrinks d, groups_shrunk ds)

pub parameters_shrunk : {gs : Groups} {ts rest : List Tok} → SpellsParameters gs ts rest → length rest < length ts
parameters_shrunk no_parameters = omega arith
parameters_shrunk (parameters d) = omega (arith, groups_shrunk d)
parameters_shrunk (parameters_comma d) = omega (arith, groups_shrunk d)

pub result_shrunk : {t : Option WrittenType} {ts rest : List Tok} → SpellsPart SpellsType t ts rest → length rest ≤ length ts
result_shrunk missing = omega arith
result_shrunk (there d) = omega (arith, type_shrinks d)
