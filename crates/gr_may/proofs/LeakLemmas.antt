-- The worked example: bounds that cover the state in which the reader is left waiting.
use Rattle.std.proofs.Common.{◌≡◌, ℕ, zero, suc, Bool, true, false, if◌then◌else◌, List, [], ◌∷◌, ◌++◌, Some, None, refl, sym, ◌∙◌, ap, subst, inl, inr, slice_get}
use Rattle.std.proofs.lemmas.Bool.{cases_Bool}
use Rattle.std.proofs.lemmas.Option.{none-some}
use Rattle.gr_base.specs.declared.names.ChName.{ChName}
use Rattle.gr_base.specs.declared.values.Value.{Value}
use Rattle.gr_base.specs.declared.values.Value.TheVariants.{Chan}
use Rattle.gr_causal.specs.Sequences.{In}
use Rattle.gr_causal.proofs.ListLemmas.{some_is}
use Rattle.gr_channels.specs.declared.waiter.Waiter.{Waiter}
use Rattle.gr_channels.specs.Objects.{GateContent}
use Rattle.gr_program.specs.Programs.{Function}
use Rattle.gr_rules.specs.Operators.{same_channel}
use Rattle.gr_rules.specs.Goroutines.{Wait, ToReceive, channel_of, waiting, Goroutine}
use Rattle.gr_rules.specs.States.{same_go}
use Rattle.gr_laws.proofs.CellLemmas.{go_is}
use Rattle.gr_may.specs.Uses.{Use, to_receive, to_share, Uses, no_use, only, Usage, MayUse, Shared}
use Rattle.gr_may.specs.Demands.{function_at}
use Rattle.gr_may.specs.Covers.{wish, FunctionFits, GoFits, Covers}
use Rattle.gr_may.specs.MayStill.{MayStill}
use Rattle.gr_may.specs.Dead.{MayServe, WaitsFor, IsDead}
use Rattle.gr_may.specs.Example.{leaks, made, reader, main_goes_on, reader_waits, gate, leaked}

-- the reader may receive from the channel, and nobody else may use it
abbrev knows : List ℕ → Uses
knows [] = no_use
knows (zero ∷ ns) = no_use
knows (suc zero ∷ ns) = only to_receive
knows (suc (suc k) ∷ ns) = no_use

abbrev known : Bool → List ℕ → Uses
known true n = knows n
known false n = λ u. true

abbrev bounds : Usage
bounds = record {
  variables = λ k x. only to_receive;
  results = λ k. no_use;
  permits = λ n c. known (same_channel c made) n;
}

code_fits : (k : ℕ) (f : Function) → function_at leaks k ≡ Some f → FunctionFits leaks bounds k f
code_fits zero f e = subst (FunctionFits leaks bounds 0) (some_is _ _ e) (λ n. ((tt, tt), (((λ u t. t), tt), (tt, tt))))
code_fits (suc zero) f e = subst (FunctionFits leaks bounds 1) (some_is _ _ e) (λ n. ((((λ u t. t), tt), tt), tt))
code_fits (suc (suc k)) f e = absurd (none-some _ e)

main_fits : GoFits leaks bounds [] main_goes_on
main_fits = record {
  frames = (record { uses = λ x. no_use; held = held; stands = record { operands = tt; work = tt; rest = tt } }, tt, tt);
  status = tt;
}
  where
    held : (x : ℕ) (v : Value) → slice_get (Some (Chan (Some made)) ∷ []) x ≡ Some (Some v) → MayUse bounds [] no_use v
    held zero v e = subst (MayUse bounds [] no_use) (some_is _ _ (some_is _ _ e)) (λ u t. absurd (let f : false ≡ true = t in cc))
    held (suc x) v e = absurd (none-some _ e)

reader_fits : GoFits leaks bounds reader reader_waits
reader_fits = record {
  frames = (record { uses = λ x. only to_receive; held = held; stands = record { operands = (((λ u t. t), tt), tt); work = tt; rest = tt } }, tt, tt);
  status = waits;
}
  where
    held : (x : ℕ) (v : Value) → slice_get (Some (Chan (Some made)) ∷ []) x ≡ Some (Some v) → MayUse bounds reader (only to_receive) v
    held zero v e = subst (MayUse bounds reader (only to_receive)) (some_is _ _ (some_is _ _ e)) (λ u t. t)
    held (suc x) v e = absurd (none-some _ e)

    waits : (w : Wait) → In w (ToReceive made None ∷ []) → bounds.permits reader (channel_of w) (wish w) ≡ true
    waits w (inl e) = subst (λ (w : Wait). bounds.permits reader (channel_of w) (wish w) ≡ true) (sym e) refl
    waits w (inr i) = absurd i

by_name : {X : Type 0} (P : List ℕ → X → Type 0) (n : List ℕ) (x : X) (a b : X) → P [] a → P reader b
    → (if same_go n [] then Some a else (if same_go n reader then Some b else None)) ≡ Some x → P n x
by_name P n x a b p q e = elim (cases_Bool (same_go n [])) [
  | inl t ↦ subst (λ n. P n x) (sym (go_is n [] t)) (subst (P []) (some_is _ _ (rw t at e)) p)
  | inr f ↦ elim (cases_Bool (same_go n reader)) [
    | inl t ↦ subst (λ n. P n x) (sym (go_is n reader t)) (subst (P reader) (some_is _ _ (rw (f, t) at e)) q)
    | inr g ↦ absurd (none-some _ (rw (f, g) at e))
  ]
]

share_fits : (b : Bool) (n : List ℕ) → known b n to_share ≡ true → (m : List ℕ) (u : Use) → known b m u ≡ true
share_fits true [] e m u = absurd (let f : false ≡ true = e in cc)
share_fits true (zero ∷ ns) e m u = absurd (let f : false ≡ true = e in cc)
share_fits true (suc zero ∷ ns) e m u = absurd (let f : false ≡ true = e in cc)
share_fits true (suc (suc k) ∷ ns) e m u = absurd (let f : false ≡ true = e in cc)
share_fits false n e m u = refl

queue_fits : (b : Bool) (x : GateContent) → (if b then Some gate else None) ≡ Some x → (w : Waiter Value) → In w x.senders → Shared bounds w.value
queue_fits true x e w i = let j : In w [] = subst (λ (x : GateContent). In w x.senders) (sym (some_is _ _ e)) i in absurd j
queue_fits false x e w i = absurd (none-some _ e)

child_alike : (b : Bool) (n : List ℕ) (k : ℕ) → leaked.goroutines (n ++ k ∷ []) ≡ None → known b (n ++ k ∷ []) ≡ known b n
child_alike false n k e = refl
child_alike true [] zero e = refl
child_alike true [] (suc zero) e = absurd (none-some _ (sym e))
child_alike true [] (suc (suc k)) e = refl
child_alike true (zero ∷ ns) k e = refl
child_alike true (suc zero ∷ ns) k e = refl
child_alike true (suc (suc m) ∷ ns) k e = refl

unmade_fits : (c : ChName) (b : Bool) → same_channel c made ≡ b → (if b then Some gate else None) ≡ None → (n : List ℕ) (u : Use) → known b n u ≡ true
unmade_fits c true e d n u = absurd (none-some _ (sym d))
unmade_fits c false e d n u = refl

covered : Covers leaks bounds leaked
covered = record {
  code = code_fits;
  goroutines = λ n g e. by_name (GoFits leaks bounds) n g main_goes_on reader_waits main_fits reader_fits e;
  sharing = λ n c e. share_fits (same_channel c made) n e;
  queued = λ c x e w i. queue_fits (same_channel c made) x e w i;
  buffered = λ c i k v e. absurd (none-some _ e);
  unstarted = λ n k e. fun (λ c. child_alike (same_channel c made) n k e);
  unmade = λ c e. unmade_fits c (same_channel c made) refl e;
}
  where
    fun : {f g : ChName → Uses} → ((c : ChName) → f c ≡ g c) → f ≡ g
    fun h = λ i c. h c i

-- it may not receive from the channel again
pub main_may_not : (u : Use) → MayStill leaks leaked [] made u → ⊥
main_may_not u h = let t : false ≡ true = h bounds covered in cc

waits_one : (us vs : List Wait) → waiting us ≡ waiting vs → us ≡ vs
waits_one us vs e = cc

abbrev dead : List ℕ → Bool
dead n = same_go n reader

pub reader_is_dead : IsDead leaks leaked reader
reader_is_dead = record {
  usage = bounds;
  dead = dead;
  are = record { covers = covered; wait = λ n d. (ToReceive made None ∷ [], waits n d); alone = alone };
  member = refl;
}
  where
    waits : (n : List ℕ) → dead n ≡ true → WaitsFor leaked n (ToReceive made None ∷ [])
    waits n d = subst (λ n. WaitsFor leaked n (ToReceive made None ∷ [])) (sym (go_is n reader d)) (reader_waits, refl, refl)

    no_server : (m : List ℕ) (g : Goroutine) (w : Wait) → w ≡ ToReceive made None → leaked.goroutines m ≡ Some g → dead m ≡ false → MayServe bounds m w → ⊥
    no_server m g w e at alive k = by_name (λ m g. dead m ≡ false → MayServe bounds m w → ⊥) m g main_goes_on reader_waits
        (λ alive k. none (subst (MayServe bounds []) e k)) (λ alive k. let f : true ≡ false = alive in cc) at alive k
      where
        none : MayServe bounds [] (ToReceive made None) → ⊥
        none (inl t) = let f : false ≡ true = t in cc
        none (inr t) = let f : false ≡ true = t in cc

    alone : (n : List ℕ) (ws : List Wait) (w : Wait) (m : List ℕ) (g : Goroutine)
        → dead n ≡ true → WaitsFor leaked n ws → In w ws → leaked.goroutines m ≡ Some g → dead m ≡ false → MayServe bounds m w → ⊥
    alone n ws w m g d for i at alive k = elim (subst (In w) (same_waits n ws d for) i) [
      | inl e ↦ no_server m g w e at alive k
      | inr j ↦ absurd j
    ]
      where
        same_waits : (n : List ℕ) (ws : List Wait) → dead n ≡ true → WaitsFor leaked n ws → ws ≡ ToReceive made None ∷ []
        same_waits n ws d for =
            let here : WaitsFor leaked reader ws = subst (λ n. WaitsFor leaked n ws) (go_is n reader d) for in
            let one : reader_waits ≡ here.0 = some_is _ _ here.1 in
            waits_one _ _ (sym here.2 ∙ sym (ap (λ (g : Goroutine). g.status) one))
