-- Seats whose numbers follow each other: none is missing.
use Rattle.std.proofs.Common.{◌≡◌, ◌≢◌, ℕ, suc, ◌+◌, ◌<◌, ◌≤◌, List, [], ◌∷◌, ◌++◌, length, refl, sym, ◌∙◌, ap, inl, inr, arith, append_assoc}
use mathlib.Core.List.{reverse}
use mathlib.Core.Logic.{dite}
use native.Mathlib.Decide.{ℕ_discrete}
use Rattle.std.proofs.lemmas.List.{reverse-append}
use Rattle.gr_share.specs.Calls.{Asker, Staff}
use Rattle.gr_share.specs.Seats.{IsWorker, AreAll, LacksSeat}
use Rattle.rewind.specs.Beside.{AreFrom, numbers_of}

cons_is : {A : Type 0} (a b : A) (xs ys : List A) → a ∷ xs ≡ b ∷ ys → (a ≡ b) × (xs ≡ ys)
cons_is a b xs ys e = (cc, cc)

-- one worker more, with the next number
pub one_more : (first : ℕ) (ws : List Staff) (w : Staff) → AreFrom first ws → w.seat.number ≡ first + length ws → AreFrom first (ws ++ w ∷ [])
one_more first [] w from is = (omega (arith, is), tt)
one_more first (x ∷ xs) w from is = (from.0, one_more (suc first) xs w from.1 (omega (arith, is)))

-- a worker of each of these numbers is here
worker_at : (first number : ℕ) (ws : List Staff) → AreFrom first ws → first ≤ number → number < first + length ws → IsWorker number ws
worker_at first number [] from low high = absurd (omega arith)
worker_at first number (w ∷ ws) from low high =
    dite (ℕ_discrete number first)
    (λ (is : number ≡ first). (0, omega arith, λ d. from.0 ∙ sym is))
    (λ (isnt : number ≢ first).
    let later = worker_at (suc first) number ws from.1 (omega arith) (omega arith) in
    (suc later.0, (let n = later.1 in omega arith), later.2))

same_from : (first : ℕ) (xs ys : List Staff) → numbers_of xs ≡ numbers_of ys → AreFrom first ys → AreFrom first xs
same_from first [] ys e from = tt
same_from first (x ∷ xs) [] e from = absurd (cc e)
same_from first (x ∷ xs) (y ∷ ys) e from =
    let both = cons_is x.seat.number y.seat.number (numbers_of xs) (numbers_of ys) e in
    (both.0 ∙ from.0, same_from (suc first) xs ys both.1 from.1)

as_many : (ws : List Staff) → length (numbers_of ws) ≡ length ws
as_many [] = refl
as_many (w ∷ ws) = ap suc (as_many ws)

-- the desk and the workers that come back have all seats
pub all_here : (last : ℕ) (desk : Asker) (workers back : List Staff) → desk.number ≡ 1 → AreFrom 2 workers → numbers_of back ≡ numbers_of workers
    → last ≤ 1 + length workers → AreAll 0 last (desk ∷ []) back
all_here last desk workers back one from same few number above upto =
    let long = ap length same in
    dite (ℕ_discrete number 1)
    (λ (is : number ≡ 1). inl (0, omega arith, λ d. one ∙ sym is))
    (λ (isnt : number ≢ 1). inr (worker_at 2 number back (same_from 2 back workers same from) (omega arith) (omega (arith, long, as_many back, as_many workers))))

pub none_missing : (first last : ℕ) (desks : List Asker) (workers : List Staff) → AreAll first last desks workers → LacksSeat first last desks workers → ⊥
none_missing first last desks workers all lacks =
    elim (all lacks.number lacks.after lacks.upto) [ inl desk ↦ lacks.no_desk desk | inr worker ↦ lacks.no_worker worker ]

-- the last of these goes over to those that are done
pub one_over : (done rest : List ℕ) (n : ℕ) → (done ++ n ∷ []) ++ reverse rest ≡ done ++ reverse (rest ++ n ∷ [])
one_over done rest n =
    append_assoc done (n ∷ []) (reverse rest) ∙ ap (λ (l : List ℕ). done ++ l) (sym (reverse-append rest (n ∷ [])))
