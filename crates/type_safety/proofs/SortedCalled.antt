-- The frame of a function that is called has sorts.
use Rattle.std.proofs.Common.{◌≡◌, ℕ, zero, suc, true, List, [], ◌++◌, map, Option, Some, None, refl, sym, subst, append-nil}
use Rattle.std.proofs.lemmas.List.{length-replicate}
use Rattle.std.specs.Prelude.{slice_get, length, replicate}
use Rattle.gr_causal.specs.Sequences.{In}
use Rattle.gr_causal.proofs.ListLemmas.{In-append_left}
use Rattle.gr_base.specs.declared.values.Value.{Value}
use Rattle.gr_program.specs.Types.{Ty}
use Rattle.gr_program.specs.Programs.{Declared, Function, ProgramIs}
use Rattle.gr_typing.specs.Scopes.{Signature, Sign, signature}
use Rattle.gr_rules.specs.Outcomes.{Outcome, gives, wrong, ◌>>=◌}
use Rattle.gr_rules.specs.Evaluation.{Variables}
use Rattle.gr_rules.specs.Points.{closing, Point, onto, point_after}
use Rattle.gr_rules.specs.Frames.{variable_of, called}
use Rattle.type_safety.proofs.Sorts.{Setting, sort_of, result_sort, Made, HaveSorts, Holding, numbers_of}
use Rattle.type_safety.proofs.Bodies.{SortedFunction, function, SortedFunctions, no_function, one_function, main}
use Rattle.type_safety.proofs.Running.{closes, GoesOn, on_as}
use Rattle.type_safety.proofs.Promises.{Assigns, assigns, CalledSorted}
use Rattle.type_safety.proofs.SortedValues.{assigned_holding}
use Rattle.type_safety.proofs.SortedPoints.{Stands, onto_sorted, after_stands}
use Rattle.type_safety.proofs.SortedParts.{setting, placed}

nothing_there : (n x : ℕ) (v : Value) → slice_get (replicate n None) x ≡ Some (Some v) → ⊥
nothing_there zero x v e = let f : None ≡ Some (Some v) = e in absurd cc
nothing_there (suc n) zero v e = let f : Some None ≡ Some (Some v) = e in absurd cc
nothing_there (suc n) (suc x) v e = nothing_there n x v e

-- before its parameters have values no variable has one
empty_holding : (ds : List Declared) (made : Made) → Holding ds made [] (replicate (length ds) None)
empty_holding ds made = record {
  sizes = length-replicate (length ds) None;
  sorts = λ x v e. absurd (nothing_there (length ds) x v e);
  values = λ x i. absurd i;
}

left_in : (x : ℕ) (xs : List ℕ) → In x (xs ++ []) → In x xs
left_in x xs i = subst (In x) (append-nil xs) i

numbered_function : (fs gs : List Signature) (functions : List Function) (n : ℕ) (g : Signature)
    → SortedFunctions fs gs functions → signature gs n ≡ Some g → (f : Function) × (slice_get functions n ≡ Some f)
    × SortedFunction fs g f
numbered_function fs _ _ n g no_function e = let f : None ≡ Some g = e in absurd cc
numbered_function fs _ _ zero g (one_function {g = h} {f = f} s rest) e =
    let x : Some h ≡ Some g = e in
    let y : h ≡ g = cc in
    (f, refl, subst (λ z. SortedFunction fs z f) y s)
numbered_function fs _ _ (suc n) g (one_function {gs = gs} {others = others} s rest) e =
    numbered_function fs gs others n g rest e

module _ (fs : List Signature) (made : Made) (n : ℕ) where
  -- before its first statement, with the values of its parameters
  begun : {ds : List Declared} {live : List ℕ} {o : Outcome Variables} (result : Option Ty) (p : Point)
      → Stands (setting fs ds result) made live p → Assigns ds made live o
      → GoesOn fs made (result_sort result) n
      (o >>= λ held. gives (record { function = n; variables = held; point = p }))
  begun {ds} {live} result p stands (assigns {held = held} h) =
      on_as refl (placed fs ds result (result_sort result) refl made live (record { function = n; variables = held; point = p }) p h stands)

  called_frame : (vs : List Value) {y : List ℕ} {ts : List Ty} {r : Option Ty} {f : Function}
      → SortedFunction fs (Sign y ts r) f → HaveSorts made vs (map sort_of ts)
      → GoesOn fs made (result_sort r) n (called n vs f)
  called_frame vs (function {name = name} {ts} {parameters} {result} {variables} {body} {last} {z} targets ss end) h =
      let xs : List ℕ = numbers_of (map variable_of parameters) in
      let d : Setting = setting fs variables result in
      let start =
      onto_sorted d made xs (xs ++ []) (xs ++ []) true (closing last) (λ x i. In-append_left x xs [] i)
      (λ x i. left_in x xs i) ss (closes end) in
      begun result (point_after (onto body (closing last))) (after_stands d made start refl)
      (assigned_holding variables made [] _ (map variable_of parameters) vs (map sort_of ts) targets h
      (empty_holding variables made))

pub called_sorted : CalledSorted
called_sorted fs (ProgramIs functions k) made n name ts r vs (main all e) g h =
    let s = numbered_function fs fs functions n (Sign name ts r) all g in
    subst (λ o. GoesOn fs made (result_sort r) n (elim o [ Some f ↦ called n vs f | None ↦ wrong ])) (sym s.1) (called_frame fs made n vs s.2 h)
