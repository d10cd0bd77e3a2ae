-- Marked steps go back from where they stand, the last first, where no later step that stays conflicts with them.
use Rattle.std.proofs.Common.{◌≡◌, suc, Bool, true, false, List, [], ◌∷◌, ◌++◌, length, refl, sym, ap, subst, append_assoc}
use Rattle.gr_program.specs.Programs.{Program}
use Rattle.gr_laws.specs.Reached.{Logged}
use Rattle.gr_refine.specs.Contents.{Contents}
use Rattle.gr_record.specs.Conflicts.{conflict_of}
use Rattle.gr_record.specs.declared.record.Record.{Record}
use Rattle.gr_record.specs.Kept.{Kept}
use Rattle.gr_record.specs.Running.{Running}
use Rattle.gr_record.specs.Records.{CanGoBack}
use Rattle.gr_record.specs.Back.{all_back, marked, unmarked, AreFree}
use Rattle.gr_record.proofs.ChainLemmas.{chain_of, as_many, split}
use Rattle.gr_record.proofs.OrderLemmas.{middle_goes_back_by_records}

tails_long : {A B : Type 0} (xs : List A) (ys : List B) → suc (length xs) ≡ suc (length ys) → length xs ≡ length ys
tails_long xs ys e = cc

one_longer : {A B : Type 0} (xs : List A) (ys : List B) (x : A) (y : B) → length xs ≡ length ys → length (xs ++ x ∷ []) ≡ length (ys ++ y ∷ [])
one_longer [] [] x y e = refl
one_longer (a ∷ xs) (b ∷ ys) x y e = ap suc (one_longer xs ys x y (tails_long xs ys e))
one_longer [] (b ∷ ys) x y e = absurd (let no : 0 ≡ suc (length ys) = e in cc)
one_longer (a ∷ xs) [] x y e = absurd (let no : suc (length xs) ≡ 0 = e in cc)

module _ (p : Program) (s : Contents) (running : Running p s) where
  -- a record at the end of the first part or at the beginning of the second
  into_first : (t : Contents) (front tail : List Record) (r : Record) (first later : List (Logged p)) (k : Logged p)
      → Kept p s (front ++ r ∷ tail) (first ++ k ∷ later) t → Kept p s ((front ++ r ∷ []) ++ tail) ((first ++ k ∷ []) ++ later) t
  into_first t front tail r first later k are =
      subst {_, _} (λ rs. Kept p s rs ((first ++ k ∷ []) ++ later) t) (sym (append_assoc front (r ∷ []) tail))
      (subst {_, _} (λ ls. Kept p s (front ++ r ∷ tail) ls t) (sym (append_assoc first (k ∷ []) later)) are)

  into_second : (t : Contents) (front tail : List Record) (r : Record) (first later : List (Logged p)) (k : Logged p)
      → Kept p s ((front ++ r ∷ []) ++ tail) ((first ++ k ∷ []) ++ later) t → Kept p s (front ++ r ∷ tail) (first ++ k ∷ later) t
  into_second t front tail r first later k are =
      subst {_, _} (λ rs. Kept p s rs (first ++ k ∷ later) t) (append_assoc front (r ∷ []) tail)
      (subst {_, _} (λ ls. Kept p s ((front ++ r ∷ []) ++ tail) ls t) (append_assoc first (k ∷ []) later) are)

  abbrev AfterMarked : Contents → List Bool → List Record → List Record → List (Logged p) → List (Logged p) → Type 0
  AfterMarked t marks front tail first later =
      Kept p s (front ++ unmarked marks tail) (first ++ unmarked marks later) (all_back (marked marks tail) t)

  marked_are_back : (t : Contents) (marks : List Bool) (front tail : List Record) (first later : List (Logged p)) → length front ≡ length first
      → length tail ≡ length later → Kept p s (front ++ tail) (first ++ later) t → AreFree conflict_of marks tail → AfterMarked t marks front tail first later
  marked_are_back t marks front [] first [] same long are free = are
  marked_are_back t [] front (r ∷ tail) first (k ∷ later) same long are free = are
  marked_are_back t (false ∷ marks) front (r ∷ tail) first (k ∷ later) same long are free =
      into_second (all_back (marked marks tail) t) front (unmarked marks tail) r first (unmarked marks later) k
      (marked_are_back t marks (front ++ r ∷ []) tail (first ++ k ∷ []) later (one_longer front first r k same) (tails_long tail later long)
      (into_first t front tail r first later k are) free)
  marked_are_back t (true ∷ marks) front (r ∷ tail) first (k ∷ later) same long are free =
      let m = all_back (marked marks tail) t in
      let others = marked_are_back t marks (front ++ r ∷ []) tail (first ++ k ∷ []) later (one_longer front first r k same) (tails_long tail later long)
      (into_first t front tail r first later k are) free.1 in
      (middle_goes_back_by_records p s m front (unmarked marks tail) r first (unmarked marks later) k running same
      (into_second m front (unmarked marks tail) r first (unmarked marks later) k others) free.0).1
  marked_are_back t marks front [] first (k ∷ later) same long are free = absurd (let no : 0 ≡ suc (length later) = long in cc)
  marked_are_back t marks front (r ∷ tail) first [] same long are free = absurd (let no : suc (length tail) ≡ 0 = long in cc)

  pub marked_go_back : (t : Contents) (front tail : List Record) (first later : List (Logged p)) (marks : List Bool) → length front ≡ length first
      → Kept p s (front ++ tail) (first ++ later) t → AreFree conflict_of marks tail
      → Kept p s (front ++ unmarked marks tail) (first ++ unmarked marks later) (all_back (marked marks tail) t)
  marked_go_back t front tail first later marks same are free =
      let parts = split p s t front tail first later same (chain_of p s (front ++ tail) (first ++ later) t are) in
      marked_are_back t marks front tail first later same (as_many p parts.0 t tail later parts.2) are free

  pub next_marked : (t : Contents) (front tail : List Record) (r : Record) (first later : List (Logged p)) (k : Logged p) (marks : List Bool)
      → length front ≡ length first → Kept p s (front ++ r ∷ tail) (first ++ k ∷ later) t → AreFree conflict_of (true ∷ marks) (r ∷ tail)
      → CanGoBack r.id.go r.change (all_back (marked marks tail) t)
  next_marked t front tail r first later k marks same are free =
      let m = all_back (marked marks tail) t in
      let others = marked_go_back t (front ++ r ∷ []) tail (first ++ k ∷ []) later marks (one_longer front first r k same)
      (into_first t front tail r first later k are) free.1 in
      (middle_goes_back_by_records p s m front (unmarked marks tail) r first (unmarked marks later) k running same
      (into_second m front (unmarked marks tail) r first (unmarked marks later) k others) free.0).0
