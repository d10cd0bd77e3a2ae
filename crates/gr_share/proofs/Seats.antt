-- Seats that are there, and lists of them that are handed back.
use Rattle.std.proofs.Common.{◌≡◌, ◌≢◌, ◌⊎◌, ℕ, ◌+◌, ◌<◌, ◌≤◌, false, List, [], ◌∷◌, ◌++◌, length, get_or, take, drop, refl, ap, ◌∙◌, sym, subst, arith, append-nil, All}
use Rattle.std.proofs.lemmas.List.{take_all}
use mathlib.Core.Logic.{dite}
use native.Mathlib.Decide.{ℕ_discrete}
use Rattle.gr_share.specs.Calls.{Asker, Staff}
use Rattle.gr_share.specs.Seats.{IsDesk, IsWorker, AreAll, LacksSeat}

pub one_more : (first n : ℕ) (ds : List Asker) (ws : List Staff) → AreAll first n ds ws → IsDesk (n + 1) ds ⊎ IsWorker (n + 1) ws → AreAll first (n + 1) ds ws
one_more first n ds ws all last number after upto =
    dite (ℕ_discrete number (n + 1))
    (λ (is : number ≡ n + 1). subst (λ (m : ℕ). IsDesk m ds ⊎ IsWorker m ws) (sym is) last)
    (λ (isnt : number ≢ n + 1). all number after (omega arith))

somebody : Asker
somebody = record { number = 0; calls = []; told_full = false }

-- where none has the number, the asker is missing
pub no_desk : (number n : ℕ) (ds : List Asker) → ((k : ℕ) (d : Asker) → k < n → (get_or ds k d).number ≢ number) → length ds ≤ n → ¬ IsDesk number ds
no_desk number n ds others long is = others is.0 somebody (let k = is.1 in omega arith) (is.2 somebody)

pub no_worker : (number n : ℕ) (ws : List Staff) → ((k : ℕ) (w : Staff) → k < n → (get_or ws k w).seat.number ≢ number) → length ws ≤ n
    → ¬ IsWorker number ws
no_worker number n ws others long is =
    let some : Staff = record { seat = somebody; place = 0 } in others is.0 some (let k = is.1 in omega arith) (is.2 some)

pub lacks_upto : (first n last : ℕ) (ds : List Asker) (ws : List Staff) → n ≤ last → LacksSeat first n ds ws → LacksSeat first last ds ws
lacks_upto first n last ds ws le lacks = record {
  number = lacks.number;
  after = lacks.after;
  upto = (let k = lacks.upto in omega arith);
  no_desk = lacks.no_desk;
  no_worker = lacks.no_worker;
}

drop_all : {A : Type 0} (xs : List A) → drop (length xs) xs ≡ []
drop_all [] = refl
drop_all (x ∷ xs) = drop_all xs

as_before : {A : Type 0} (n : ℕ) (items : List A) → n ≡ length items → take n (items ++ drop (length items) items) ≡ items
as_before n items is = ap (λ l. take n (items ++ l)) (drop_all items) ∙ (ap (take n) (append-nil items) ∙ take_all n items (omega (arith, is)))

-- a list that was lent and came back as it was, with what holds of its items
pub handed_back : {A : Type 0} (P : A → Type 0) (n : ℕ) (items mid new : List A) → new ≡ mid → mid ≡ items → n ≡ length items → All P mid
    → (take n (new ++ drop (length new) items) ≡ items) × All P (take n (new ++ drop (length new) items))
handed_back P n items mid new kept lent is all =
    let whole : take n (new ++ drop (length new) items) ≡ items = ap (λ l. take n (l ++ drop (length l) items)) (kept ∙ lent) ∙ as_before n items is in
    (whole, subst (All P) (lent ∙ sym whole) all)
