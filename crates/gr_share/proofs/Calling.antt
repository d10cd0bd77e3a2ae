-- One call more, and the calls of a worker.
use Rattle.std.proofs.Common.{◌≡◌, ℕ, suc, ◌+◌, ◌<◌, ◌≤◌, Bool, true, List, [], ◌∷◌, ◌++◌, length, All, refl, subst, ap, ◌∙◌, append-nil, append_assoc, length-append, sym, arith, not, true≢false}
use Rattle.std.proofs.lemmas.List.Elements.{All-push}
use Rattle.std.specs.Prelude.{◌↔◌, IsTrue}
use Rattle.gr_program.specs.Programs.{Program}
use Rattle.gr_command.specs.Replies.{Said}
use Rattle.gr_session.specs.declared.journal.AskRefused.{AskRefused}
use Rattle.gr_session.specs.declared.journal.Receipt.{Receipt}
use Rattle.gr_share.specs.declared.desk.Asked.{Asked as Wanted}
use Rattle.gr_share.specs.declared.desk.Call.{Call}
use Rattle.gr_share.specs.Calls.{Asker, Gains, after_refusal}
use Rattle.gr_share.specs.Works.{IsWork, IsAtWork, IsCut, IsCutTo, HasWorked}
use Rattle.gr_share.specs.Finding.{WorksOnce, has_rested, has_called}

cons_is : {A : Type 0} (a b : A) (xs ys : List A) → a ∷ xs ≡ b ∷ ys → (a ≡ b) × (xs ≡ ys)
cons_is a b xs ys e = (cc, cc)

pub gains : (old : Asker) (number : ℕ) (before after : List Call) (full now : Bool) (wanted kept : Wanted) (r : Receipt)
    → record { number = number; calls = before; told_full = full } ≡ old → after ≡ before ++ record { asked = kept; receipt = r } ∷ [] → kept ≡ wanted
    → now ≡ full → All (λ (c : Call). c.receipt.number < r.number) before
    → Gains old wanted (record { number = number; calls = after; told_full = now })
gains old number before after full now wanted kept r was is same still rises =
    let P : Asker → Type 0 = λ a. Gains a wanted (record { number = number; calls = after; told_full = now }) in
    subst P was (
      r,
      (
        ap (λ (l : List Call). record { number = number; calls = l; told_full = now }) is
            ∙ ap (λ (k : Wanted). record { number = number; calls = before ++ record { asked = k; receipt = r } ∷ []; told_full = now }) same
            ∙ ap (λ (b : Bool). record { number = number; calls = before ++ record { asked = wanted; receipt = r } ∷ []; told_full = b }) still,
        rises,
      ),
    )

-- an asker that was refused has no call more
pub rested : (p : Program) (place : ℕ) (on : Bool) (why : AskRefused) (old new : Asker) → new ≡ after_refusal why old → WorksOnce p place on old new
rested p place on why old new is = has_rested (ap (λ (a : Asker). a.number) is) (ap (λ (a : Asker). a.calls) is)

-- an asker that has a call more
pub called : (p : Program) (place : ℕ) (on : Bool) (old new : Asker) (wanted : Wanted) (gained : Gains old wanted new) → IsWork p place wanted
    → (on ≡ true → ¬ IsCut (record { asked = wanted; receipt = gained.0 })) → WorksOnce p place on old new
called p place on old new wanted gained work whole = has_called (record { asked = wanted; receipt = gained.0 })
    (ap (λ (a : Asker). a.number) gained.1.0) (ap (λ (a : Asker). a.calls) gained.1.0) work whole

-- a worker goes on only behind a batch that was not cut
pub not_cut : (on cut : Bool) (count steps : ℕ) (reply other : Said) → on ≡ not cut → (IsTrue cut ↔ IsCutTo count reply) → count ≡ steps → reply ≡ other
    → on ≡ true → ¬ IsCutTo steps other
not_cut on cut count steps reply other is tells many same goes h =
    let yes : cut ≡ true = tells.1 (subst (λ (z : ℕ × Said). IsCutTo z.0 z.1) (λ k. (sym many k, sym same k)) h) in
    true≢false (sym goes ∙ is ∙ ap not yes)

-- what a worker has done so far, where it may go on: none of its calls was cut
pub record GoesOn (old new : Asker) : Type 0 where
  pub number : new.number ≡ old.number
  pub more : List Call
  pub calls : new.calls ≡ old.calls ++ more
  pub whole : All (λ c. ¬ IsCut c) more

pub no_work : (a : Asker) → GoesOn a a
no_work a = record { number = refl; more = []; calls = sym (append-nil a.calls); whole = λ k d lt. absurd (omega arith) }

-- the calls of a worker that worked once more are work at its place
pub at_work : (p : Program) (place : ℕ) (on : Bool) (old new : Asker) → IsAtWork p (record { seat = old; place = place }) → WorksOnce p place on old new
    → IsAtWork p (record { seat = new; place = place })
at_work p place on old new is (has_rested number calls) = subst (All (λ c. IsWork p place c.asked)) (sym calls) is
at_work p place on old new is (has_called c number calls work whole) =
    subst (All (λ c. IsWork p place c.asked)) (sym calls) (All-push (λ c. IsWork p place c.asked) old.calls c is work)

-- a worker that works once has at most one call more
pub one_call : (p : Program) (place : ℕ) (on : Bool) (old new : Asker) → WorksOnce p place on old new → length new.calls ≤ length old.calls + 1
one_call p place on old new (has_rested number calls) = omega (arith, ap length calls)
one_call p place on old new (has_called c number calls work whole) = omega (arith, ap length calls, length-append old.calls (c ∷ []))

-- once more, and it may go on
pub goes_on : (p : Program) (place : ℕ) (first old new : Asker) → GoesOn first old → WorksOnce p place true old new → GoesOn first new
goes_on p place first old new before (has_rested number calls) =
    record { number = number ∙ before.number; more = before.more; calls = calls ∙ before.calls; whole = before.whole }
goes_on p place first old new before (has_called c number calls work whole) = record {
  number = number ∙ before.number;
  more = before.more ++ c ∷ [];
  calls = calls ∙ (ap (λ (l : List Call). l ++ c ∷ []) before.calls ∙ append_assoc first.calls before.more (c ∷ []));
  whole = All-push (λ c. ¬ IsCut c) before.more c before.whole (whole refl);
}

-- what stands behind a call that was cut, where only the last may be
behind : (cs : List Call) (last c : Call) (before after : List Call) → All (λ c. ¬ IsCut c) cs → cs ++ last ∷ [] ≡ before ++ c ∷ after → IsCut c → after ≡ []
behind [] last c [] after whole is cut = sym (cons_is last c [] after is).1
behind [] last c (b ∷ before) after whole is cut = absurd (let n = ap length is in let m = length-append before (c ∷ after) in omega (arith, n, m))
behind (x ∷ cs) last c [] after whole is cut = absurd (whole 0 x (omega arith) (subst IsCut (sym (cons_is x c (cs ++ last ∷ []) after is).0) cut))
behind (x ∷ cs) last c (b ∷ before) after whole is cut =
    behind cs last c before after (λ k d lt. whole (suc k) d (omega (arith, lt))) (cons_is x b (cs ++ last ∷ []) (before ++ c ∷ after) is).1 cut

none_cut : (cs : List Call) (c : Call) (before after : List Call) → All (λ c. ¬ IsCut c) cs → cs ≡ before ++ c ∷ after → IsCut c → after ≡ []
none_cut [] c before after whole is cut = absurd (let n = ap length is in let m = length-append before (c ∷ after) in omega (arith, n, m))
none_cut (x ∷ cs) c [] after whole is cut = absurd (whole 0 x (omega arith) (subst IsCut (sym (cons_is x c cs after is).0) cut))
none_cut (x ∷ cs) c (b ∷ before) after whole is cut =
    none_cut cs c before after (λ k d lt. whole (suc k) d (omega (arith, lt))) (cons_is x b cs (before ++ c ∷ after) is).1 cut

-- a worker that may go on, and does not
pub has_worked : (old new : Asker) → GoesOn old new → HasWorked old new
has_worked old new g =
    record { number = g.number; more = g.more; calls = g.calls; ends = λ before after c is cut. none_cut g.more c before after g.whole is cut }

-- once more, and then no more
pub worked_last : (p : Program) (place : ℕ) (on : Bool) (first old new : Asker) → GoesOn first old → WorksOnce p place on old new → HasWorked first new
worked_last p place on first old new before (has_rested number calls) =
    has_worked first new (record { number = number ∙ before.number; more = before.more; calls = calls ∙ before.calls; whole = before.whole })
worked_last p place on first old new before (has_called c number calls work whole) = record {
  number = number ∙ before.number;
  more = before.more ++ c ∷ [];
  calls = calls ∙ (ap (λ (l : List Call). l ++ c ∷ []) before.calls ∙ append_assoc first.calls before.more (c ∷ []));
  ends = λ b a x is cut. behind before.more c x b a before.whole is cut;
}
