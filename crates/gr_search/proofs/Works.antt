-- How many tasks the looks at states make.
use Rattle.std.proofs.Common.{◌≡◌, ℕ, ◌+◌, Bool, true, false, ◌||◌, cond, nat_eq, List, [], ◌∷◌, ◌++◌, length, Option, Some, refl, sym, ◌∙◌, ap, subst, arith}
use Rattle.std.specs.Cmp.Lexicographic.{pointwise, same_text}
use Rattle.std.specs.Option.{option_to_list}
use Rattle.gr_search.specs.System.{System, Reached}
use Rattle.gr_search.specs.Going.{Look, Does, has_key, tries}
use Rattle.gr_search.specs.declared.search.Task.{Task}
use Rattle.gr_search.specs.declared.search.Task.TheVariants.{Try, TakeBack}
use Rattle.gr_search.proofs.Safe.{not_both}
use Rattle.gr_search.proofs.Seen.{has, keeps}

length_tries : {E : Type 0} (es : List E) (ts : List (Task E)) → length (tries es ts) ≡ length es + length ts
length_tries [] ts = omega arith
length_tries (e ∷ es) ts = let h = length_tries es (Try e ∷ ts) in omega (arith, h)

-- what was not there is no known key
is_false : (b : Bool) → (b ≡ true → ⊥) → b ≡ false
is_false true h = absurd (h refl)
is_false false h = refl

module _ {State Event Matter : Type 0} (Y : System State Event Matter) (means : List ℕ → Matter → Type 0) (offers : State → List Event → Type 0) where
  abbrev D : (List ℕ → Bool) → List (Task Event) → ℕ → Type 0
  D = Does Y means offers

  -- before the first look
  pub none_yet : (seen : List ℕ → Bool) (ts : List (Task Event)) → ts ≡ [] → D seen ts 0
  none_yet seen ts h = record { looks = []; are = tt; known = λ k n. absurd (not_both false n refl); count = let l = ap length h in omega (arith, l) }

  -- a task is done
  pub one_done : (seen : List ℕ → Bool) (all ts : List (Task Event)) (o : Option (Task Event)) (t : Task Event) (done : ℕ)
      → all ≡ option_to_list o ++ ts → o ≡ Some t → D seen all done → D seen ts (done + 1)
  one_done seen all ts o t done e h d =
      let n = ap length (e ∙ ap (λ x. option_to_list x ++ ts) h) in
      let c = d.count in
      record { looks = d.looks; are = d.are; known = d.known; count = omega (arith, n, c) }

  module _ (seen more : List ℕ → Bool) (key : List ℕ) (adds : (k : List ℕ) → more k ≡ cond (pointwise nat_eq key k) true (seen k)) where
    -- no look more
    pub does_known : (ts : List (Task Event)) (done : ℕ) → D seen ts done → D more ts done
    does_known ts done d = record { looks = d.looks; are = d.are; known = λ k h. keeps seen more key adds k (d.known k h); count = d.count }

    -- one look more
    pub does_new : (ts us : List (Task Event)) (n : ℕ) (u : State) (es : List Event) (done : ℕ) → seen key ≡ false → Reached Y u → means key (Y.key u) → offers u es
        → us ≡ tries es (TakeBack n ∷ ts) → D seen ts done → D more us done
    does_new ts us n u es done new r m o e d =
        let look : Look State Event = record { key = key; at = u; events = es } in
        let l = ap length e ∙ length_tries es (TakeBack n ∷ ts) in
        let c = d.count in
        record {
          looks = look ∷ d.looks;
          are = (record { reached = r; is_key = m; offered = o }, is_false (has_key key d.looks) (λ h. not_both (seen key) (d.known key h) new), d.are);
          known = λ k. elim (pointwise nat_eq k key) as (λ b. b ≡ pointwise nat_eq k key → (b || has_key k d.looks) ≡ true → more k ≡ true) [
            | true ↦ λ q h. subst (λ x. more x ≡ true) (sym (same_text k key q)) (has seen more key adds)
            | false ↦ λ q h. keeps seen more key adds k (d.known k h)
          ] refl;
          count = omega (arith, l, c);
        }
