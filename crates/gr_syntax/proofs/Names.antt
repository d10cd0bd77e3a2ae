-- Lists of names: what is read is in the grammar, and what is in it is read.
use Rattle.std.proofs.Common.{◌≡◌, ℕ, zero, suc, ◌<◌, List, [], ◌∷◌, ◌++◌, length, refl, ap, sym, ◌∙◌, subst, arith, append_assoc}
use Rattle.std.specs.Prelude.{None, Ok, Err}
use Rattle.gr_scan.specs.declared.token.Place.{Place}
use Rattle.gr_scan.specs.declared.token.Mark.TheVariants as marks
use Rattle.gr_scan.specs.Tokens.{Tok, At, Sign}
use Rattle.gr_scan.specs.Tokens as words
use Rattle.gr_syntax.specs.Grammar.{after_mark, SpellsNames, last_name, comma_name}
use Rattle.gr_syntax.specs.Reading.{High, Found, Reads, ◌>>=◌, Turn, Go, turned, turns, loop, name_at, names_after, names_turn, names_at}
use Rattle.gr_syntax.proofs.Loops.{Shrinks, loop_is}
use Rattle.gr_syntax.proofs.Cases.{ok_inj, on_ok, on_look, after_is, name_is, go_inj, stop≢go, on_high, stop_low, name_low}

abbrev Names : Type 0
Names = List (List ℕ)

-- what reading names answers
pub record IsNames (acc : Names) (ts : List Tok) (u : Found Names) : Type 0 where
  pub xs : Names
  pub all : u.0 ≡ acc ++ xs
  pub spelled : SpellsNames xs ts u.2

names_run_sound : (n : ℕ) (acc : Names) (k : ℕ) (ts : List Tok) (u : Found Names) → turns names_turn n (acc, k, ts) ≡ Ok u → IsNames acc ts u
unfolding names_turn
names_run_sound zero acc k ts u q = absurd (cc)
names_run_sound (suc n) acc k ts u q =
    let next : Turn (Found Names) → Reads Names = turned (turns names_turn n) in
    on_ok (name_at ts >>= λ x. names_after (acc ++ (x.0 ∷ [])) x.1) next u q (λ v ev q.
    on_ok (name_at ts) (λ x. names_after (acc ++ (x.0 ∷ [])) x.1) v ev (λ x ex ev.
    let here = name_is ts x ex in
    on_look (after_mark marks.Comma x.1) _ _ (Ok v) ev
    (λ rest m ev.
    let o = after_is marks.Comma x.1 rest m in
    let b : IsNames (acc ++ (x.0 ∷ [])) rest u = names_run_sound n (acc ++ (x.0 ∷ [])) 0 rest u (subst (λ d. next d ≡ Ok u) (sym (ok_inj ev)) q) in
    let both : ts ≡ At here.0 (words.Name x.0) ∷ At o.place (Sign marks.Comma) ∷ rest = here.1 ∙ ap (λ r. At here.0 (words.Name x.0) ∷ r) o.is in
    record { xs = x.0 ∷ b.xs; all = b.all ∙ append_assoc acc (x.0 ∷ []) b.xs; spelled = subst (λ ts. SpellsNames (x.0 ∷ b.xs) ts u.2) (sym both) (comma_name b.spelled) })
    (λ m ev.
    let done : ◌≡◌ {A = Reads Names} (Ok (acc ++ (x.0 ∷ []), 0, x.1)) (Ok u) = subst (λ d. next d ≡ Ok u) (sym (ok_inj ev)) q in
    subst (λ v. IsNames acc ts v) (ok_inj done) (record { xs = x.0 ∷ []; all = refl; spelled = subst (λ ts. SpellsNames (x.0 ∷ []) ts x.1) (sym here.1) last_name }))))

pub names_sound : (ts : List Tok) (u : Found Names) → names_at ts ≡ Ok u → SpellsNames u.0 ts u.2
unfolding names_at loop
names_sound ts u q = let s = names_run_sound (suc (length ts)) [] 0 ts u q in subst (λ xs. SpellsNames xs ts u.2) (sym s.all) s.spelled

pub names_shrinks : Shrinks names_turn
unfolding names_turn
names_shrinks s v q =
    on_ok (name_at s.2) (λ x. names_after (s.0 ++ (x.0 ∷ [])) x.1) (Go v) q (λ x ex q.
    on_look (after_mark marks.Comma x.1) _ _ (Ok (Go v)) q
    (λ rest m q. omega (arith, ap length (name_is s.2 x ex).1, ap length (after_is marks.Comma x.1 rest m).is, ap length (go_inj (s.0 ++ (x.0 ∷ []), 0, rest) v q)))
    (λ m q. stop≢go (s.0 ++ (x.0 ∷ []), 0, x.1) v q))

pub names_step : (s : Found Names) → loop names_turn s ≡ ((name_at s.2 >>= λ x. names_after (s.0 ++ (x.0 ∷ [])) x.1) >>= turned (loop names_turn))
unfolding names_turn
names_step s = loop_is names_turn names_shrinks s

last_turn : (acc : Names) (p : Place) (x : List ℕ) (rest : List Tok) → after_mark marks.Comma rest ≡ None → loop names_turn (acc, 0, At p (words.Name x) ∷ rest) ≡ Ok (acc ++ (x ∷ []), 0, rest)
unfolding name_at
last_turn acc p x rest m = names_step (acc, 0, At p (words.Name x) ∷ rest) ∙ rw m refl

comma_turn : (acc : Names) (p q : Place) (x : List ℕ) (ts : List Tok) → loop names_turn (acc, 0, At p (words.Name x) ∷ At q (Sign marks.Comma) ∷ ts) ≡ loop names_turn (acc ++ (x ∷ []), 0, ts)
unfolding name_at after_mark
comma_turn acc p q x ts = names_step (acc, 0, At p (words.Name x) ∷ At q (Sign marks.Comma) ∷ ts)

names_run : {xs : Names} {ts rest : List Tok} → SpellsNames xs ts rest → after_mark marks.Comma rest ≡ None → (acc : Names) → loop names_turn (acc, 0, ts) ≡ Ok (acc ++ xs, 0, rest)
names_run (last_name {p = p} {x = x} {rest = rest}) m acc = last_turn acc p x rest m
names_run (comma_name {p = p} {q = q} {x = x} {xs = xs} {ts = ts} {rest = rest} d) m acc =
    comma_turn acc p q x ts ∙ names_run d m (acc ++ (x ∷ [])) ∙ ap (λ ys. Ok (ys, 0, rest)) (append_assoc acc (x ∷ []) xs)

pub names_whole : {xs : Names} {ts rest : List Tok} → SpellsNames xs ts rest → after_mark marks.Comma rest ≡ None → names_at ts ≡ Ok (xs, 0, rest)
unfolding names_at
names_whole d m = names_run d m []

pub names_shrunk : {xs : Names} {ts rest : List Tok} → SpellsNames xs ts rest → length rest < length ts
names_shrunk last_name = omega arith
names_shrunk (comma_name d) = omega (arith, names_shrunk d)

-- names are never too high
names_run_low : {Z : Type 0} (n : ℕ) (s : Found Names) → turns names_turn n s ≡ Err High → Z
unfolding names_turn
names_run_low zero s q = absurd (cc)
names_run_low (suc n) s q =
    let next : Turn (Found Names) → Reads Names = turned (turns names_turn n) in
    on_high (name_at s.2 >>= λ x. names_after (s.0 ++ (x.0 ∷ [])) x.1) next q
    (λ q. on_high (name_at s.2) (λ x. names_after (s.0 ++ (x.0 ∷ [])) x.1) q (λ q. name_low s.2 q)
    (λ x ex q. on_look (after_mark marks.Comma x.1) _ _ (Err High) q (λ rest m q. absurd (cc)) (λ m q. absurd (cc))))
    (λ v ev q. on_ok (name_at s.2) (λ x. names_after (s.0 ++ (x.0 ∷ [])) x.1) v ev (λ x ex ev.
    on_look (after_mark marks.Comma x.1) _ _ (Ok v) ev
    (λ rest m ev. names_run_low n (s.0 ++ (x.0 ∷ []), 0, rest) (subst (λ d. next d ≡ Err High) (sym (ok_inj ev)) q))
    (λ m ev. stop_low next (s.0 ++ (x.0 ∷ []), 0, x.1) v (ok_inj ev) (λ s. refl) q)))

pub names_low : {Z : Type 0} (ts : List Tok) → names_at ts ≡ Err High → Z
unfolding names_at loop
names_low ts q = names_run_low (suc (length ts)) ([], 0, ts) q
