-- What is done with values, and with outcomes of evaluations, by their sorts.
use Rattle.std.proofs.Common.{◌≡◌, ℕ, ℤ, Bool, List, [], ◌∷◌, Option, Some, None, refl, sym, ap, subst}
use Rattle.gr_base.specs.Values.{value_text}
use Rattle.gr_base.specs.declared.names.ChName.{ChName}
use Rattle.gr_base.specs.declared.values.Value.{Value}
use Rattle.gr_base.specs.declared.values.Value.TheVariants as values
use Rattle.gr_base.specs.declared.kinds.Fault.{Fault}
use Rattle.gr_program.specs.Programs.{Declared}
use Rattle.gr_rules.specs.Outcomes.{Outcome, gives, faults, ◌>>=◌}
use Rattle.gr_rules.specs.Evaluation.{Variables}
use Rattle.gr_rules.specs.Points.{Piece}
use Rattle.gr_rules.specs.Deeds.{as_channel, as_int, texts}
use Rattle.type_safety.proofs.Sorts.{Sort, IntSort, BoolSort, ChanSort, Made, HasSort, has_int, has_truth, has_nil, has_channel, HaveSorts, no_value, one_value, Yields, yields, faulty, Holding}
use Rattle.type_safety.proofs.Bodies.{ArePieces, no_piece, text_piece, value_piece}
use Rattle.type_safety.proofs.Running.{IsMade}
use Rattle.type_safety.proofs.Promises.{Assigns, assigns, YieldAll, yield_all, one_faulty}

-- nil, or a channel of such elements
abbrev pub IsChannel : Made → Sort → Option ChName → Type 0
IsChannel made e None = Unit {0}
IsChannel made e (Some c) = made c ≡ Some e

pub channel_sorted : (made : Made) (e : Sort) (c : Option ChName) → IsChannel made e c
    → HasSort made (values.Chan c) (ChanSort e)
channel_sorted made e None h = has_nil
channel_sorted made e (Some c) h = has_channel h

pub is_made : (made : Made) (e : Sort) (c : Option ChName) → IsChannel made e c → IsMade made c
is_made made e None h = tt
is_made made e (Some c) h = (e, h)

-- Values by their sorts.
module _ {made : Made} where
  pub by_channel : {e : Sort} {v : Value} (P : Value → Type 0) → HasSort made v (ChanSort e)
      → ((c : Option ChName) → IsChannel made e c → P (values.Chan c)) → P v
  by_channel P has_nil f = f None tt
  by_channel P (has_channel {c} q) f = f (Some c) q

  pub by_int : {v : Value} (P : Value → Type 0) → HasSort made v IntSort → ((n : ℤ) → P (values.Int n)) → P v
  by_int P (has_int {n}) f = f n

  pub by_truth : {v : Value} (P : Value → Type 0) → HasSort made v BoolSort → ((b : Bool) → P (values.Bool b)) → P v
  by_truth P (has_truth {b}) f = f b

  pub by_one : {k : Sort} {vs : List Value} (P : List Value → Type 0) → HaveSorts made vs (k ∷ [])
      → ((v : Value) → HasSort made v k → P (v ∷ [])) → P vs
  by_one P (one_value {v = v} h no_value) f = f v h

  pub by_two : {k l : Sort} {vs : List Value} (P : List Value → Type 0) → HaveSorts made vs (k ∷ l ∷ [])
      → ((v w : Value) → HasSort made v k → HasSort made w l → P (v ∷ w ∷ [])) → P vs
  by_two P (one_value {v = v} h (one_value {v = w} g no_value)) f = f v w h g

  -- what is done with the outcome of an evaluation
  pub on_value : {A : Type 0} {k : Sort} {o : Outcome Value} (P : Outcome A → Type 0) (g : Value → Outcome A)
      → ((e : Fault) → P (faults e)) → Yields made o k → ((v : Value) → HasSort made v k → P (g v)) → P (o >>= g)
  on_value P g z (yields {v = v} h) f = f v h
  on_value P g z (faulty {e = e}) f = z e

  pub on_values : {A : Type 0} {ks : List Sort} {o : Outcome (List Value)} (P : Outcome A → Type 0)
      (g : List Value → Outcome A)
      → ((e : Fault) → P (faults e)) → YieldAll made o ks → ((vs : List Value) → HaveSorts made vs ks → P (g vs))
      → P (o >>= g)
  on_values P g z (yield_all {vs = vs} h) f = f vs h
  on_values P g z (one_faulty {e = e}) f = z e

  pub on_channel : {A : Type 0} {e : Sort} {o : Outcome Value} (P : Outcome A → Type 0)
      (g : Option ChName → Outcome A)
      → ((e : Fault) → P (faults e)) → Yields made o (ChanSort e)
      → ((c : Option ChName) → IsChannel made e c → P (g c)) → P ((o >>= as_channel) >>= g)
  on_channel P g z (yields {v = v} h) f = by_channel (λ v. P (as_channel v >>= g)) h f
  on_channel P g z (faulty {e = e}) f = z e

  pub on_int : {A : Type 0} {o : Outcome Value} (P : Outcome A → Type 0) (g : ℤ → Outcome A)
      → ((e : Fault) → P (faults e)) → Yields made o IntSort → ((n : ℤ) → P (g n)) → P ((o >>= as_int) >>= g)
  on_int P g z (yields {v = v} h) f = by_int (λ v. P (as_int v >>= g)) h f
  on_int P g z (faulty {e = e}) f = z e

  pub on_assigned : {A : Type 0} {ds : List Declared} {live : List ℕ} {o : Outcome Variables}
      (P : Outcome A → Type 0) (g : Variables → Outcome A)
      → Assigns ds made live o → ((held : Variables) → Holding ds made live held → P (g held)) → P (o >>= g)
  on_assigned P g (assigns {held = held} h) f = f held h

  -- each piece has its text
  texts_there : {ps : List Piece} {ks : List Sort} {vs : List Value} → ArePieces ps ks → HaveSorts made vs ks
      → (ts : List (List ℕ)) × (texts ps vs ≡ gives ts)
  texts_there no_piece no_value = ([], refl)
  texts_there (text_piece {bytes} rest) h =
      let t = texts_there rest h in
      (bytes ∷ t.0, ap (λ o. o >>= λ ts. gives (bytes ∷ ts)) t.1)
  texts_there (value_piece rest) (one_value {v} g h) =
      let t = texts_there rest h in
      (value_text v ∷ t.0, ap (λ o. o >>= λ ts. gives (value_text v ∷ ts)) t.1)

  pub on_texts : {A : Type 0} {ps : List Piece} {ks : List Sort} {vs : List Value} (P : Outcome A → Type 0)
      (g : List (List ℕ) → Outcome A)
      → ArePieces ps ks → HaveSorts made vs ks → ((ts : List (List ℕ)) → P (g ts)) → P (texts ps vs >>= g)
  on_texts P g pieces h f = let t = texts_there pieces h in subst (λ o. P (o >>= g)) (sym t.1) (f t.0)
