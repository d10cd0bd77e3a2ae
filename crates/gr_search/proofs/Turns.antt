-- What steps and turns of the search keep.
use Rattle.std.proofs.Common.{◌≡◌, ℕ, ◌+◌, Bool, true, false, nat_eq, List, ◌∷◌, length, Option, Some, None, drop, sym, ◌∙◌, ap, subst, arith}
use Rattle.std.specs.Cmp.Lexicographic.{pointwise}
use Rattle.std.specs.List.{list_any, IsDistinct}
use Rattle.std.proofs.lemmas.List.{drop-drop}
use Rattle.gr_search.specs.System.{System, Follows, goes}
use Rattle.gr_search.specs.Going.{AreReached, Ended, Known, Stepped, Going, Turned}
use Rattle.gr_search.specs.declared.search.Explored.TheVariants.{AllStates}
use Rattle.gr_search.specs.declared.search.Task.{Task}
use Rattle.gr_search.specs.declared.search.Turn.{Turn}
use Rattle.gr_search.specs.declared.search.Turn.TheVariants.{GoOn, Done}

pub drop_one : {A : Type 0} (n : ℕ) (x : A) (xs : List A) → drop (n + 1) (x ∷ xs) ≡ drop n xs
drop_one n x xs = let e : n + 1 ≡ 1 + n = omega arith in ap (λ k. drop k (x ∷ xs)) e ∙ sym (drop-drop n 1 (x ∷ xs))

module _ {State Event Key : Type 0} (Y : System State Event Key) where
  pub possible : (done : Bool) (e : Event) (s t : State) (log more : List Event) → done ≡ true → Stepped Y done e s t log more → (Y.next s e ≡ Some t) × (more ≡ e ∷ log)
  possible done e s t log more h w = let P : Bool → Type 0 = λ b. Stepped Y b e s t log more in subst P h w

  pub impossible : (done : Bool) (e : Event) (s t : State) (log more : List Event) → done ≡ false → Stepped Y done e s t log more → (Y.next s e ≡ None) × (t ≡ s) × (more ≡ log)
  impossible done e s t log more h w = let P : Bool → Type 0 = λ b. Stepped Y b e s t log more in subst P h w

module _ {State Event Key : Type 0} (Y Z : System State Event Key) (same : Y ≡ Z) where
  pub follow_on : (o s t : State) (found : Option Event) (a : Event) → found ≡ Some a → ((b : Event) → found ≡ Some b → Y.alone s b ≡ true) → Y.next s a ≡ Some t
      → ((u : State) → Follows Z s u → Follows Z o u) → (u : State) → Follows Z t u → Follows Z o u
  follow_on o s t found a e h g f u w = f u (goes {a = a} (ap (λ (y : System State Event Key). y.alone s a) (sym same) ∙ h a e) (ap (λ (y : System State Event Key). y.next s a) (sym same) ∙ g) w)

pub drop_steps : {A : Type 0} (n : ℕ) (e : A) (xs ys zs : List A) → drop n xs ≡ ys → ys ≡ e ∷ zs → drop (n + 1) xs ≡ zs
drop_steps n e xs ys zs h g = sym (drop-drop 1 n xs) ∙ ap (drop 1) (h ∙ g)

-- what a turn keeps that goes on
pub goes_on : {State Event Key : Type 0} (Y : System State Event Key) (turn : Turn) (V : Key → Type 0) (ts : List (Task Event)) (log : List Event) (s : State) → turn ≡ GoOn
    → Turned Y turn V ts log s → Going Y V ts log
goes_on Y turn V ts log s h w = let P : Turn → Type 0 = λ t. Turned Y t V ts log s in subst P h w

-- where nothing is left, the keys that were seen are closed
pub all_seen : {State Event Matter : Type 0} (Y : System State Event Matter) (means : List ℕ → Matter → Type 0) (turn : Turn) (keys : List (List ℕ)) (count : ℕ) (ts : List (Task Event)) (log : List Event)
    (s : State) → turn ≡ Done → Turned Y turn (Known means (λ k. list_any (pointwise nat_eq k) keys)) ts log s → AreReached Y means (λ k. list_any (pointwise nat_eq k) keys) → IsDistinct (pointwise nat_eq) keys
    → count ≡ length keys → Ended Y means (AllStates count) log s
all_seen Y means turn keys count ts log s h w reached distinct many =
    let P : Turn → Type 0 = λ t. Turned Y t (Known means (λ k. list_any (pointwise nat_eq k) keys)) ts log s in
    let done : Turned Y Done (Known means (λ k. list_any (pointwise nat_eq k) keys)) ts log s = subst P h w in
    (done.0, record { keys = keys; distinct = distinct; reached = reached; closed = done.1; many = many }, done.2)
