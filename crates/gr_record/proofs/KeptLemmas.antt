-- Records that are kept are a log of the rules; the last of them goes back.
use Rattle.std.proofs.Common.{◌≡◌, List, [], ◌∷◌, ◌++◌, refl, sym, ap, subst, ◌∙◌}
use Rattle.gr_causal.specs.Machine.{IsLog}
use Rattle.gr_causal.proofs.PathLemmas.{log_push, log_join}
use Rattle.gr_program.specs.Programs.{Program}
use Rattle.gr_rules.specs.States.{start}
use Rattle.gr_rules.specs.Steps.{machine}
use Rattle.gr_laws.specs.Reached.{Logged, IsRun}
use Rattle.gr_refine.specs.Contents.{Contents}
use Rattle.gr_record.specs.declared.record.Record.{Record}
use Rattle.gr_record.specs.Kept.{Kept, none, one_more, Tells}
use Rattle.gr_record.specs.Listings.{state_in}
use Rattle.gr_record.specs.Running.{Running}
use Rattle.gr_record.specs.Records.{taken_back, CanGoBack}
use Rattle.gr_record.proofs.ChainLemmas.{chain_of, chain_stands}

not_empty : {A : Type 0} (xs : List A) (x : A) → [] ≡ xs ++ x ∷ [] → ⊥
not_empty [] x e = cc
not_empty (y ∷ xs) x e = cc

head_same : {A : Type 0} {x y : A} {xs ys : List A} → x ∷ xs ≡ y ∷ ys → x ≡ y
head_same e = cc

tail_same : {A : Type 0} {x y : A} {xs ys : List A} → x ∷ xs ≡ y ∷ ys → xs ≡ ys
tail_same e = cc

-- two lists with one item more at the end
ends_same : {A : Type 0} (xs ys : List A) (x y : A) → xs ++ x ∷ [] ≡ ys ++ y ∷ [] → (xs ≡ ys) × (x ≡ y)
ends_same [] [] x y e = (refl, head_same e)
ends_same [] (z ∷ ys) x y e = absurd (not_empty ys y (tail_same e))
ends_same (z ∷ xs) [] x y e = absurd (not_empty xs x (sym (tail_same e)))
ends_same (z ∷ xs) (v ∷ ys) x y e =
    let rest = ends_same xs ys x y (tail_same e) in
    (ap (λ zs. z ∷ zs) rest.0 ∙ ap (λ u. u ∷ ys) (head_same e), rest.1)

-- the last record, and its step
last_in : (p : Program) (s : Contents) (rs : List Record) (ls : List (Logged p)) (t : Contents) → Kept p s rs ls t
    → (records : List Record) (r : Record) (log : List (Logged p)) (k : Logged p) → rs ≡ records ++ r ∷ [] → ls ≡ log ++ k ∷ []
    → (m : Contents) × Kept p s records log m × Tells p m r k t
last_in p s _ _ _ none records r log k e f = absurd (not_empty records r e)
last_in p s _ _ _ (one_more {records} {log} {t} q l u kept tells) rs r ls k e f =
    let one = ends_same records rs q r e in
    let two = ends_same log ls l k f in (
      t,
      subst {_, _} (λ x. Kept p s x ls t) one.0 (subst {_, _} (λ x. Kept p s records x t) two.0 kept),
      subst {_, _} (λ x. Tells p t x k u) one.1 (subst {_, _} (λ x. Tells p t q x u) two.1 tells),
    )

pub last_goes_back : (p : Program) (s t : Contents) (records : List Record) (r : Record) (log : List (Logged p)) (k : Logged p)
    → Kept p s (records ++ r ∷ []) (log ++ k ∷ []) t
    → CanGoBack r.id.go r.change t × Kept p s records log (taken_back r.id.go r.change t)
last_goes_back p s t records r log k kept =
    let last = last_in p s (records ++ r ∷ []) (log ++ k ∷ []) t kept records r log k refl refl in
    (last.2.is.takes.fits, subst {_, _} (Kept p s records log) (sym last.2.is.takes.back) last.1)

-- the log leads from the first contents to the last
pub kept_is_log : (p : Program) (s : Contents) (records : List Record) (log : List (Logged p)) (t : Contents) → Kept p s records log t
    → IsLog (machine p) (state_in p s) log (state_in p t)
kept_is_log p s _ _ _ none = refl
kept_is_log p s _ _ _ (one_more {records} {log} {t} r l u kept tells) =
    log_push (machine p) (state_in p s) log (state_in p t) l (state_in p u) (kept_is_log p s records log t kept) tells.step

pub kept_is_run : (p : Program) (s t : Contents) (records : List Record) (log : List (Logged p)) → state_in p s ≡ start p → Kept p s records log t
    → IsRun p log (state_in p t)
kept_is_run p s t records log begins kept =
    subst {_, _} (λ x. IsLog (machine p) x log (state_in p t)) begins (kept_is_log p s records log t kept)

-- a run of the program leads to where they lead
pub runs_on : (p : Program) (s t : Contents) (records : List Record) (log : List (Logged p)) → Running p s → Kept p s records log t → Running p t
runs_on p s t records log running kept = record {
  program = running.program;
  reached = record {
    log = running.reached.log ++ log;
    leads = log_join (machine p) (start p) (state_in p s) (state_in p t) running.reached.log log running.reached.leads (kept_is_log p s records log t kept);
  };
  stand = chain_stands p s t records log running.stand (chain_of p s records log t kept);
}
