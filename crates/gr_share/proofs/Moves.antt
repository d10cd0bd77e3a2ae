-- Each move keeps the rule.
use Rattle.std.proofs.Common.{◌≡◌, ◌≢◌, ℕ, zero, suc, ◌+◌, ◌<◌, ◌≤◌, ◌==◌, Bool, true, false, true≢false, if◌then◌else◌, List, [], ◌∷◌, ◌++◌, length, set, get_or, refl, ap, sym, ◌∙◌, subst, arith, ⊎_elim, eq-eqb, ne_eqb, length-set, length-append, get_or-set_same}
use mathlib.Core.List.{IsPrefix}
use mathlib.Core.Logic.{dite}
use mathlib.Core.Option.{some, some-injective, some-ne-none}
use native.Mathlib.Decide.{ℕ_discrete}
use lib.ListN.{get_elem?}
use prog.Atomic.{either}
use Rattle.atomic_table.specs.Table.{State, Me, keeps, stepped, opening, Allows, Splits, Joins}
use Rattle.atomic_table.proofs.Lists.{at_set, set_again}
use Rattle.gr_share.specs.Lines.{Line}
use Rattle.gr_share.specs.declared.desk.Call.{Call}
use Rattle.gr_share.specs.declared.views.View.{View}
use Rattle.gr_share.specs.Ties.{asked, front, settled, AskedUpTo, keeping, asking, nobody, claim, sight, sight_taken, hearing, with_asker, newest, Fits, IsFull, Kept, told, Compared, longer, called, Entered, Rested, Taken, Settled, Noted}
use Rattle.gr_share.proofs.Lines.{at_snoc, prefix_self, prefix_trans, prefix_length, asked-own, asked-other, asked_prefix, front-push, settled_prefix, settled-push, settled-named, up_to-more, up_to-push, settled_none, whole}

off : false ≡ true → ⊥
off e = true≢false (sym e)

-- what holds of the views holds after one is set, if it holds of that one
on_set : (P : ℕ → View → Type 0) (views : List View) (by : ℕ) (w : View) → ((j : ℕ) (u : View) → j ≢ by → get_elem? views j ≡ some u → P j u) → P by w
    → (j : ℕ) (u : View) → get_elem? (set views by w) j ≡ some u → P j u
on_set P views by w others mine j u e =
    ⊎_elim
    (λ (x : (j ≡ by) × (w ≡ u)). subst (λ (y : ℕ × View). P y.0 y.1) (λ i. (sym x.0 i, x.1 i)) mine)
    (λ (x : (j ≢ by) × (get_elem? views j ≡ some u)). others j u x.0 x.1)
    (at_set views by j w u e)

-- what holds of the views holds after one is added, if it holds of that one
on_snoc : (P : ℕ → View → Type 0) (views : List View) (w : View) → ((j : ℕ) (u : View) → get_elem? views j ≡ some u → P j u) → P (length views) w
    → (j : ℕ) (u : View) → get_elem? (views ++ w ∷ []) j ≡ some u → P j u
on_snoc P views w others mine j u e =
    ⊎_elim
    (λ (was : get_elem? views j ≡ some u). others j u was)
    (λ (x : (j ≡ length views) × (w ≡ u)). subst (λ (y : ℕ × View). P y.0 y.1) (λ i. (sym x.0 i, x.1 i)) mine)
    (at_snoc views w u j e)

nobody_fits : (word seat : ℕ) (home : ℕ → ℕ) (log : List Line) (askers by : ℕ) → Fits word seat home log askers by nobody
nobody_fits word seat home log askers by = record {
  keeper = λ k. absurd (off k);
  asker = λ h. absurd (omega arith);
  noted = omega arith;
  claims = (asked 0 log, refl);
  seen = (log, refl);
  taken = (settled word log, refl);
  full = λ b. absurd (off b);
  noted_full = λ b. absurd (off b);
}

-- a seat of an asker
asker_fits : (word seat : ℕ) (home : ℕ → ℕ) (log : List Line) (askers by a : ℕ) (cs : List Line) (told_full : Bool) → by ≡ home a → a ≤ askers
    → cs ≡ asked a (settled word log) → (told_full ≡ true → IsFull log) → Fits word seat home log askers by (asking a cs told_full)
asker_fits word seat home log askers by a cs told_full at le is full = record {
  keeper = λ k. absurd (off k);
  asker = λ _. (at, le, is);
  noted = omega arith;
  claims = (asked 0 log, refl);
  seen = (log, refl);
  taken = (settled word log, refl);
  full = full;
  noted_full = λ b. absurd (off b);
}

keeper_fits : (home : ℕ → ℕ) (log : List Line) (askers by : ℕ) → Fits 0 by home log askers by (keeping log askers)
keeper_fits home log askers by = record {
  keeper = λ _. (refl, refl, refl, λ _. refl);
  asker = λ h. absurd (omega arith);
  noted = omega arith;
  claims = (asked 0 log, refl);
  seen = (log, refl);
  taken = (log, refl);
  full = λ b. absurd (off b);
  noted_full = λ b. absurd (off b);
}

-- the rule at the start
pub begins : (log : List Line) (askers : ℕ) → AskedUpTo askers log → Kept (opening (0 ∷ []) [] (keeping log askers))
begins log askers known = record {
  wide = refl;
  seat = 0;
  home = λ _. 0;
  log = log;
  askers = askers;
  known = known;
  fits = one;
}
  where
    one : (by : ℕ) (v : View) → get_elem? (keeping log askers ∷ []) by ≡ some v → Fits 0 0 (λ _. 0) log askers by v
    one zero v e = subst (Fits 0 0 (λ _. 0) log askers 0) (some-injective _ _ e) (keeper_fits (λ _. 0) log askers 0)
    one (suc by) v e = absurd (some-ne-none v (sym e))

-- the state after a step, from what holds of its views
placed : (s : State Call View) (word id : ℕ) (carried : List (ℕ × Call)) (w : View) (seat : ℕ) (home : ℕ → ℕ) (log : List Line) (askers : ℕ)
    → length s.words ≡ 1 → AskedUpTo askers log → ((j : ℕ) (u : View) → get_elem? (set s.views id w) j ≡ some u → Fits word seat home log askers j u)
    → Kept (stepped s 0 word id carried w keeps)
placed s word id carried w seat home log askers wide known fits = record {
  wide = length-set s.words 0 word ∙ wide;
  seat = seat;
  home = home;
  log = log;
  askers = askers;
  known = known;
  fits = λ j u e. subst (λ (z : ℕ). Fits z seat home log askers j u) (sym (get_or-set_same s.words 0 word 0 (omega arith))) (fits j u e);
}

-- a step that changes neither word nor view
unmoved : (s : State Call View) (id : ℕ) (carried : List (ℕ × Call)) (v : View) → Kept s → get_elem? s.views id ≡ some v → Kept (stepped s 0 (get_or s.words 0 0) id carried v keeps)
unmoved s id carried v k at =
    placed s (get_or s.words 0 0) id carried v k.seat k.home k.log k.askers k.wide k.known
    (λ j u e. k.fits j u (subst (λ l. get_elem? l j ≡ some u) (set_again s.views id v at) e))

-- a note that the session's seat took in is compared
pub compares : (slots id : ℕ) (me : Me Call View) → me.0.keeps ≡ true → me.0.rests ≡ true → Allows Kept slots id me 0 (λ n. n) (λ r m. Compared me.0 m.0)
compares slots id me keeper rests s k size at small =
    let mine = k.fits id me.0 at in
    let it = mine.keeper keeper in
    let w = keeping me.0.log me.0.askers in (
      w,
      keeps,
      tt,
      placed s (get_or s.words 0 0) id me.1 w k.seat k.home k.log k.askers k.wide k.known
          (on_set (Fits (get_or s.words 0 0) k.seat k.home k.log k.askers) s.views id w (λ j u _ e. k.fits j u e)
          (record {
            keeper = λ _. (it.0, it.1, it.2, λ _. it.3 rests);
            asker = λ h. absurd (omega arith);
            noted = omega arith;
            claims = (asked 0 k.log, refl);
            seen = (k.log, refl);
            taken = (settled (get_or s.words 0 0) k.log, refl);
            full = λ b. absurd (off b);
            noted_full = λ b. absurd (off b);
          })),
      record {
        after = refl;
        known = (let n = mine.noted in let same = it.2 in omega arith);
        begins = subst (λ l. IsPrefix me.0.claims (asked me.0.noted l)) (sym it.1) mine.claims;
        full = λ b. subst IsFull (sym it.1) (mine.noted_full b);
      },
    )

-- a full journal stays full
still_full : (log more : List Line) → IsFull log → IsFull (log ++ more)
still_full log more full = omega (arith, full, length-append log more)

-- a seat that is not the session's, after an entry
grown : (word seat : ℕ) (home : ℕ → ℕ) (log : List Line) (askers by : ℕ) (v : View) (e : Line) → 0 < word → by ≢ seat
    → Fits 0 seat home log askers by v → Fits word seat home (log ++ e ∷ []) askers by v
grown word seat home log askers by v e named apart f = record {
  keeper = λ k. absurd (apart (f.keeper k).0);
  asker = λ h. let t = f.asker h in (t.0, t.1, t.2 ∙ ap (asked v.asker) (sym (settled-push word log e named)));
  noted = f.noted;
  claims = prefix_trans v.claims (asked v.noted log) (asked v.noted (log ++ e ∷ [])) f.claims (asked_prefix v.noted log (log ++ e ∷ []) (e ∷ [], refl));
  seen = prefix_trans v.seen log (log ++ e ∷ []) f.seen (e ∷ [], refl);
  taken = subst (λ (l : List Line). IsPrefix v.taken l) (sym (settled-push word log e named)) f.taken;
  full = λ b. still_full log (e ∷ []) (f.full b);
  noted_full = λ b. still_full log (e ∷ []) (f.noted_full b);
}

-- the session's seat takes an entry
pub enters : (slots id : ℕ) (me : Me Call View) (a : ℕ) (call : Call) → me.0.keeps ≡ true → 0 < a → a ≤ me.0.askers
    → Allows Kept slots id me 0 (λ n. either (n == 0) a n) (λ r m. Entered 0 a (some call) me.0 r m.0)
enters slots id me a call keeper named few s k size at small =
    let e : Line = told a call in
    let own : e.asker ≡ a = refl in
    let x : ℕ = get_or s.words 0 0 in
    let it = (k.fits id me.0 at).keeper keeper in
    let w = longer me.0 a (some call) in
    dite (ℕ_discrete x 0)
    (λ (hit : x ≡ 0). (
      w,
      keeps,
      tt,
      subst (λ b. Kept (stepped s 0 (either b a x) id me.1 w keeps)) (sym (eq-eqb x 0 hit))
          (placed s a id me.1 w k.seat k.home (k.log ++ e ∷ []) k.askers k.wide (up_to-push k.askers k.log e k.known (let same = it.2 in omega arith))
          (on_set (Fits a k.seat k.home (k.log ++ e ∷ []) k.askers) s.views id w
          (λ j u apart there. grown a k.seat k.home k.log k.askers j u e named (λ same. apart (same ∙ sym it.0))
          (subst (λ (z : ℕ). Fits z k.seat k.home k.log k.askers j u) hit (k.fits j u there)))
          (record {
            keeper = λ _. (it.0, ap (λ l. l ++ e ∷ []) it.1, it.2, λ b. absurd (off b));
            asker = λ h. absurd (omega arith);
            noted = omega arith;
            claims = (asked 0 (k.log ++ e ∷ []), refl);
            seen = (k.log ++ e ∷ [], refl);
            taken = (settled a (k.log ++ e ∷ []), refl);
            full = λ b. absurd (off b);
            noted_full = λ b. absurd (off b);
          }))),
      ((λ _. refl), (λ other. absurd (other hit))),
    ))
    (λ miss. (
      me.0,
      keeps,
      tt,
      subst (λ b. Kept (stepped s 0 (either b a x) id me.1 me.0 keeps)) (sym (ne_eqb x 0 miss)) (unmoved s id me.1 me.0 k at),
      ((λ hit. absurd (miss hit)), (λ _. refl)),
    ))

-- the session's seat looks whether the word is 0
pub rests : (slots id : ℕ) (me : Me Call View) → me.0.keeps ≡ true → Allows Kept slots id me 0 (λ n. n) (λ r m. Rested me.0 r m.0)
rests slots id me keeper s k size at small =
    let x : ℕ = get_or s.words 0 0 in
    let it = (k.fits id me.0 at).keeper keeper in
    let w = keeping me.0.log me.0.askers in
    dite (ℕ_discrete x 0)
    (λ (none_out : x ≡ 0). (
      w,
      keeps,
      tt,
      placed s x id me.1 w k.seat k.home k.log k.askers k.wide k.known
          (on_set (Fits x k.seat k.home k.log k.askers) s.views id w (λ j u _ e. k.fits j u e)
          (record {
            keeper = λ _. (it.0, it.1, it.2, λ _. none_out);
            asker = λ h. absurd (omega arith);
            noted = omega arith;
            claims = (asked 0 k.log, refl);
            seen = (k.log, refl);
            taken = (settled x k.log, refl);
            full = λ b. absurd (off b);
            noted_full = λ b. absurd (off b);
          })),
      ((λ _. refl), (λ other. absurd (other none_out))),
    ))
    (λ out. (me.0, keeps, tt, unmoved s id me.1 me.0 k at, ((λ none_out. absurd (out none_out)), (λ _. refl))))

-- another asker's seat, after an asker took its call
left_out : (a seat : ℕ) (home : ℕ → ℕ) (log es : List Line) (askers by id : ℕ) (v : View) (e : Line) → 0 < a → e.asker ≡ a → id ≡ home a → log ≡ es ++ e ∷ [] → by ≢ id
    → Fits a seat home log askers by v → Fits 0 seat home log askers by v
left_out a seat home log es askers by id v e named own mine is apart f = record {
  keeper = λ k. let t = f.keeper k in (t.0, t.1, t.2, λ _. refl);
  asker = λ h.
      let t = f.asker h in
      let other : e.asker ≢ v.asker = λ same. apart (t.0 ∙ (ap home (sym same ∙ own) ∙ sym mine)) in
      let calls : v.calls ≡ asked v.asker es = t.2 ∙ ap (asked v.asker) (settled-named a log named ∙ (ap front is ∙ front-push es e)) in
      (t.0, t.1, calls ∙ (sym (asked-other v.asker es e other) ∙ ap (asked v.asker) (sym is)));
  noted = f.noted;
  claims = f.claims;
  seen = f.seen;
  taken = prefix_trans v.taken (settled a log) log f.taken (settled_prefix a log);
  full = f.full;
  noted_full = f.noted_full;
}

-- an asker's seat takes its call
pub takes : (slots id : ℕ) (me : Me Call View) (a : ℕ) (es : List Line) (call : Call) → me.0.asker ≡ a → 0 < a → me.0.seen ≡ es ++ told a call ∷ [] → length me.0.calls ≤ length (asked a es)
    → Allows Kept slots id me 0 (λ n. either (n == a) 0 n) (λ r m. Taken a (some call) me.0 r m.0)
takes slots id me a es call name named shown few s k size at small =
    let e : Line = told a call in
    let own : e.asker ≡ a = refl in
    let x : ℕ = get_or s.words 0 0 in
    let w = called me.0 a (some call) in
    dite (ℕ_discrete x a)
    (λ (hit : x ≡ a).
    let mine : Fits a k.seat k.home k.log k.askers id me.0 = subst (λ (z : ℕ). Fits z k.seat k.home k.log k.askers id me.0) hit (k.fits id me.0 at) in
    let it = mine.asker (omega arith) in
    let place : id ≡ k.home a = it.0 ∙ ap k.home name in
    let calls : me.0.calls ≡ asked a (front k.log) = it.2 ∙ (ap (λ (b : ℕ). asked b (settled a k.log)) name ∙ ap (asked a) (settled-named a k.log named)) in
    let told : IsPrefix (es ++ e ∷ []) k.log = subst (λ (l : List Line). IsPrefix l k.log) shown mine.seen in
    let is : k.log ≡ es ++ e ∷ [] = whole a k.log me.0.calls es e calls own few told.0 told.1 in
    let now : me.0.calls ++ e ∷ [] ≡ asked a k.log =
    ap (λ l. l ++ e ∷ []) (calls ∙ ap (asked a) (ap front is ∙ front-push es e)) ∙ (sym (asked-own a es e own) ∙ ap (asked a) (sym is)) in (
      w,
      keeps,
      tt,
      subst (λ b. Kept (stepped s 0 (either b 0 x) id me.1 w keeps)) (sym (eq-eqb x a hit))
          (placed s 0 id me.1 w k.seat k.home k.log k.askers k.wide k.known
          (on_set (Fits 0 k.seat k.home k.log k.askers) s.views id w
          (λ j u apart there. left_out a k.seat k.home k.log es k.askers j id u e named own place is apart
          (subst (λ (z : ℕ). Fits z k.seat k.home k.log k.askers j u) hit (k.fits j u there)))
          (asker_fits 0 k.seat k.home k.log k.askers id me.0.asker (me.0.calls ++ e ∷ []) me.0.told_full it.0 it.1
          (now ∙ ap (λ (b : ℕ). asked b k.log) (sym name)) mine.full))),
      ((λ _. refl), (λ other. absurd (other hit))),
    ))
    (λ miss. (
      me.0,
      keeps,
      tt,
      subst (λ b. Kept (stepped s 0 (either b 0 x) id me.1 me.0 keeps)) (sym (ne_eqb x a miss)) (unmoved s id me.1 me.0 k at),
      ((λ hit. absurd (miss hit)), (λ _. refl)),
    ))

-- an asker's seat compares its calls with a journal, whose lines are all among the calls of their askers
pub settles : (slots id : ℕ) (me : Me Call View) → 0 < me.0.asker → Allows Kept slots id me 0 (λ n. n) (λ r m. Settled me.0 m.0)
settles slots id me named s k size at small =
    let x : ℕ = get_or s.words 0 0 in
    let mine = k.fits id me.0 at in
    let it = mine.asker named in
    let w = asking me.0.asker me.0.calls me.0.told_full in (
      w,
      keeps,
      tt,
      placed s x id me.1 w k.seat k.home k.log k.askers k.wide k.known
          (on_set (Fits x k.seat k.home k.log k.askers) s.views id w (λ j u _ e. k.fits j u e)
          (asker_fits x k.seat k.home k.log k.askers id me.0.asker me.0.calls me.0.told_full it.0 it.1 it.2 mine.full)),
      (
        refl,
        subst (IsPrefix (asked me.0.asker me.0.taken)) (sym it.2) (asked_prefix me.0.asker me.0.taken (settled x k.log) mine.taken),
      ),
    )

-- an asker's seat that was shown a full journal notes it
pub notes : (slots id : ℕ) (me : Me Call View) → 0 < me.0.asker → IsFull me.0.seen → Allows Kept slots id me 0 (λ n. n) (λ r m. Noted me.0 m.0)
notes slots id me named full s k size at small =
    let x : ℕ = get_or s.words 0 0 in
    let mine = k.fits id me.0 at in
    let it = mine.asker named in
    let w = asking me.0.asker me.0.calls true in (
      w,
      keeps,
      tt,
      placed s x id me.1 w k.seat k.home k.log k.askers k.wide k.known
          (on_set (Fits x k.seat k.home k.log k.askers) s.views id w (λ j u _ e. k.fits j u e)
          (asker_fits x k.seat k.home k.log k.askers id me.0.asker me.0.calls true it.0 it.1 it.2
          (λ _. let longer = prefix_length me.0.seen k.log mine.seen in omega (arith, full, longer)))),
      refl,
    )

-- a note of an asker's calls
pub claims : (id : ℕ) (v : View) → 0 < v.asker → Splits Kept id v v (claim v.asker v.calls v.told_full)
claims id v named s k at =
    let x : ℕ = get_or s.words 0 0 in
    let it = (k.fits id v at).asker named in record {
      wide = k.wide;
      seat = k.seat;
      home = k.home;
      log = k.log;
      askers = k.askers;
      known = k.known;
      fits = on_snoc (Fits x k.seat k.home k.log k.askers) (set s.views id v) (claim v.asker v.calls v.told_full)
          (λ j u e. k.fits j u (subst (λ l. get_elem? l j ≡ some u) (set_again s.views id v at) e))
          (record {
            keeper = λ b. absurd (off b);
            asker = λ h. absurd (omega arith);
            noted = it.1;
            claims = subst (λ (l : List Line). IsPrefix l (asked v.asker k.log)) (sym it.2) (asked_prefix v.asker (settled x k.log) k.log (settled_prefix x k.log));
            seen = (k.log, refl);
            taken = (settled x k.log, refl);
            full = λ b. absurd (off b);
            noted_full = (k.fits id v at).full;
          });
    }

-- a note of the journal
pub shows : (id : ℕ) (v : View) → v.keeps ≡ true → Splits Kept id v v (sight v.log)
shows id v keeper s k at =
    let x : ℕ = get_or s.words 0 0 in
    let it = (k.fits id v at).keeper keeper in record {
      wide = k.wide;
      seat = k.seat;
      home = k.home;
      log = k.log;
      askers = k.askers;
      known = k.known;
      fits = on_snoc (Fits x k.seat k.home k.log k.askers) (set s.views id v) (sight v.log)
          (λ j u e. k.fits j u (subst (λ l. get_elem? l j ≡ some u) (set_again s.views id v at) e))
          (record {
            keeper = λ b. absurd (off b);
            asker = λ h. absurd (omega arith);
            noted = omega arith;
            claims = (asked 0 k.log, refl);
            seen = subst (λ (l : List Line). IsPrefix l k.log) (sym it.1) (prefix_self k.log);
            taken = (settled x k.log, refl);
            full = λ b. absurd (off b);
            noted_full = λ b. absurd (off b);
          });
    }

-- a note of the journal, whose lines are all among the calls of their askers
pub shows_taken : (id : ℕ) (v : View) → v.keeps ≡ true → v.rests ≡ true → Splits Kept id v v (sight_taken v.log)
shows_taken id v keeper rests s k at =
    let x : ℕ = get_or s.words 0 0 in
    let it = (k.fits id v at).keeper keeper in
    let whole : k.log ≡ settled x k.log = ap (λ (z : ℕ). settled z k.log) (sym (it.3 rests)) in record {
      wide = k.wide;
      seat = k.seat;
      home = k.home;
      log = k.log;
      askers = k.askers;
      known = k.known;
      fits = on_snoc (Fits x k.seat k.home k.log k.askers) (set s.views id v) (sight_taken v.log)
          (λ j u e. k.fits j u (subst (λ l. get_elem? l j ≡ some u) (set_again s.views id v at) e))
          (record {
            keeper = λ b. absurd (off b);
            asker = λ h. absurd (omega arith);
            noted = omega arith;
            claims = (asked 0 k.log, refl);
            seen = (k.log, refl);
            taken = subst (λ (l : List Line). IsPrefix l (settled x k.log)) (sym (it.1 ∙ whole)) (prefix_self (settled x k.log));
            full = λ b. absurd (off b);
            noted_full = λ b. absurd (off b);
          });
    }

-- a note is taken in
pub hears : (id : ℕ) (v : View) (other : ℕ) (w : View) → Joins Kept id v other w (hearing v w) nobody
hears id v other w s k at apart there =
    let x : ℕ = get_or s.words 0 0 in
    let mine = k.fits id v at in
    let theirs : Fits x k.seat k.home k.log k.askers other w =
    ⊎_elim
    (λ (t : (other ≡ id) × (hearing v w ≡ w)). absurd (apart t.0))
    (λ (t : (other ≢ id) × (get_elem? s.views other ≡ some w)). k.fits other w t.1)
    (at_set s.views id other (hearing v w) w there) in
    record {
      wide = k.wide;
      seat = k.seat;
      home = k.home;
      log = k.log;
      askers = k.askers;
      known = k.known;
      fits = on_set (Fits x k.seat k.home k.log k.askers) (set s.views id (hearing v w)) other nobody
          (λ j u _ e. on_set (Fits x k.seat k.home k.log k.askers) s.views id (hearing v w) (λ i y _ f. k.fits i y f)
          (record {
            keeper = mine.keeper;
            asker = mine.asker;
            noted = theirs.noted;
            claims = theirs.claims;
            seen = theirs.seen;
            taken = theirs.taken;
            full = mine.full;
            noted_full = theirs.noted_full;
          }) j u e)
          (nobody_fits x k.seat k.home k.log k.askers other);
    }

-- where the newest asker sits
seated : (ℕ → ℕ) → ℕ → ℕ → ℕ → ℕ
seated home newest place a = if a == newest then place else home a

seated_old : (home : ℕ → ℕ) (new place a : ℕ) → a ≢ new → seated home new place a ≡ home a
unfolding seated
seated_old home new place a apart = ap (λ (b : Bool). if b then place else home a) (ne_eqb a new apart)

seated_new : (home : ℕ → ℕ) (new place : ℕ) → seated home new place new ≡ place
unfolding seated
seated_new home new place = ap (λ (b : Bool). if b then place else home new) (eq-eqb new new refl)

-- a seat that was there, after a further asker
older : (word seat : ℕ) (home : ℕ → ℕ) (log : List Line) (askers by place : ℕ) (v : View) → by ≢ seat → Fits word seat home log askers by v
    → Fits word seat (seated home (askers + 1) place) log (askers + 1) by v
older word seat home log askers by place v apart f = record {
  keeper = λ b. absurd (apart (f.keeper b).0);
  asker = λ h.
      let t = f.asker h in
      let le = t.1 in
      (t.0 ∙ sym (seated_old home (askers + 1) place v.asker (λ e. omega arith)), omega arith, t.2);
  noted = (let n = f.noted in omega arith);
  claims = f.claims;
  seen = f.seen;
  taken = f.taken;
  full = f.full;
  noted_full = f.noted_full;
}

-- a further asker
pub opens : (id : ℕ) (v : View) → v.keeps ≡ true → v.rests ≡ true → Splits Kept id v (with_asker v) (newest v)
opens id v keeper rests s k at =
    let x : ℕ = get_or s.words 0 0 in
    let it = (k.fits id v at).keeper keeper in
    let place = length (set s.views id (with_asker v)) in
    let home = seated k.home (k.askers + 1) place in
    let n : k.askers ≤ k.askers + 1 = omega arith in
    let more : v.askers + 1 ≡ k.askers + 1 = ap (λ (m : ℕ). m + 1) it.2 in record {
      wide = k.wide;
      seat = k.seat;
      home = home;
      log = k.log;
      askers = k.askers + 1;
      known = up_to-more k.askers (k.askers + 1) k.log n k.known;
      fits = on_snoc (Fits x k.seat home k.log (k.askers + 1)) (set s.views id (with_asker v)) (newest v)
          (on_set (Fits x k.seat home k.log (k.askers + 1)) s.views id (with_asker v)
          (λ j u apart e. older x k.seat k.home k.log k.askers j place u (λ same. apart (same ∙ sym it.0)) (k.fits j u e))
          (record {
            keeper = λ _. (it.0, it.1, more, λ _. it.3 rests);
            asker = λ h. absurd (omega arith);
            noted = omega arith;
            claims = (asked 0 k.log, refl);
            seen = (k.log, refl);
            taken = (settled x k.log, refl);
            full = λ b. absurd (off b);
            noted_full = λ b. absurd (off b);
          }))
          (asker_fits x k.seat home k.log (k.askers + 1) place (v.askers + 1) [] false
          (sym (seated_new k.home (k.askers + 1) place) ∙ ap home (sym more))
          (omega arith)
          (sym (settled_none x k.askers (v.askers + 1) k.log (omega arith) k.known)) (λ b. absurd (off b)));
    }
