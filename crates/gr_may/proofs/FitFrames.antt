-- Frames within bounds stay so as they go on.
use Rattle.std.proofs.Common.{◌≡◌, ℕ, zero, suc, ◌-◌, Bool, true, false, List, [], ◌∷◌, map, length, replicate, Option, Some, None, refl, sym, ap, subst, ◌⊎◌, inl, inr}
use Rattle.std.specs.Prelude.{slice_get, slice_set}
use Rattle.gr_base.specs.declared.values.Value.{Value}
use Rattle.gr_base.specs.declared.values.Value.TheVariants.{Bool as Truth}
use Rattle.std.proofs.lemmas.Option.{none-some}
use Rattle.gr_causal.proofs.ListLemmas.{some_is}
use Rattle.gr_program.specs.Programs.{Stmts, Cases, no_case, default_case, send_case, receive_case, Function, FunctionIs, Program, ProgramIs}
use Rattle.gr_rules.specs.Outcomes.{wrong, ◌>>=◌}
use Rattle.gr_rules.specs.Operands.{Done, Operands, nothing, also, two}
use Rattle.gr_rules.specs.Parts.{Calls, Receives, Makes, CountsItems, CountsPlaces, Decides, Next, Plain, Asks, next_of}
use Rattle.gr_rules.specs.Evaluation.{Variables}
use Rattle.gr_rules.specs.Points.{Rest, closing, Work, AssignReceive, Send, Turn, Select, Point, onto}
use Rattle.gr_rules.specs.Frames.{Frame, written, assigned, variable_of, called, moved, goes_on, is_over, filled}
use Rattle.gr_rules.specs.Deeds.{resumed_by, resumed, past_statement, past_next, body_after, clause_point, past_case, cases_from, cases_at, past}
use Rattle.gr_rules.specs.States.{call_of}
use Rattle.gr_may.specs.Uses.{Uses, no_use, Usage, MayUse, Shared, target}
use Rattle.gr_may.specs.Demands.{function_at, uses_of_parameters, parameter_uses, OperandsFit, work_uses, StmtsFit, CasesFit, RestFits, WorkFits, PointFits}
use Rattle.gr_may.specs.Covers.{Calling, AwaitsResultOf, FrameFits, FunctionFits}
use Rattle.gr_may.proofs.Given.{IfGives, given, stray, then_gives, if_either}
use Rattle.gr_may.proofs.FitValues.{GotFits, shared_may, ValuesFit, Holds}
use Rattle.gr_may.proofs.FitParts.{NextFits, plain, asks, nexts_fit}
use Rattle.gr_may.proofs.FitPoints.{onto_fits, after_fits}

-- what a variable holds once another value is put into one
set_is : (vs : Variables) (k : ℕ) (w : Option Value) (x : ℕ) (v : Value) → slice_get (slice_set vs k w) x ≡ Some (Some v)
    → ((x ≡ k) × (w ≡ Some v)) ⊎ (slice_get vs x ≡ Some (Some v))
set_is [] k w x v e = inr e
set_is (u ∷ us) zero w zero v e = inl (refl, some_is _ _ e)
set_is (u ∷ us) zero w (suc x) v e = inr e
set_is (u ∷ us) (suc k) w zero v e = inr e
set_is (u ∷ us) (suc k) w (suc x) v e = elim (set_is us k w x v e) [ inl h ↦ inl (ap suc h.0, h.1) | inr h ↦ inr h ]

none_held : (k x : ℕ) (v : Value) → slice_get (replicate k None) x ≡ Some (Some v) → ⊥
none_held zero x v e = none-some _ e
none_held (suc k) zero v e = none-some _ (some_is _ _ e)
none_held (suc k) (suc x) v e = none_held k x v e

module _ (p : Program) (usage : Usage) (n : List ℕ) where
  abbrev F : Frame → Type 0
  F f = FrameFits p usage n f

  -- the frame goes on as this one, of the same function
  pub record On (f g : Frame) : Type 0 where
    pub fits : FrameFits p usage n g
    pub same : g.function ≡ f.function

  put_holds : (uses : ℕ → Uses) (vs : Variables) (k : ℕ) (v : Value) → Holds usage n uses vs → MayUse usage n (uses k) v
      → Holds usage n uses (slice_set vs k (Some v))
  put_holds uses vs k v h m x w e = elim (set_is vs k (Some v) x w e) [
    | inl q ↦ subst (λ y. MayUse usage n (uses y) w) (sym q.0) (subst (MayUse usage n (uses k)) (some_is _ _ q.1) m)
    | inr q ↦ h x w q
  ]

  pub assigned_holds : (uses : ℕ → Uses) (targets : List (Option ℕ)) (vs : List Value) (held : Variables)
      → ValuesFit usage n (map (target uses) targets) vs → Holds usage n uses held → IfGives (Holds usage n uses) (assigned targets vs held)
  assigned_holds uses [] vs held h o = given o
  assigned_holds uses (Some k ∷ ks) (v ∷ vs) held h o =
      by_old (slice_get held k) (assigned_holds uses ks vs (slice_set held k (Some v)) h.1 (put_holds uses held k v o h.0))
    where
      by_old : (old : Option (Option Value)) → IfGives (Holds usage n uses) (assigned ks vs (slice_set held k (Some v)))
          → IfGives (Holds usage n uses) (written old k v held >>= λ held. assigned ks vs held)
      by_old None a = stray
      by_old (Some old) a = a
  assigned_holds uses (None ∷ ks) (v ∷ vs) held h o = assigned_holds uses ks vs held h.1 o
  assigned_holds uses (Some k ∷ ks) [] held h o = stray
  assigned_holds uses (None ∷ ks) [] held h o = stray

  -- a call of a function whose parameters may be used so
  pub called_fits : (k : ℕ) (vs : List Value) → ((f : Function) → function_at p k ≡ Some f → FunctionFits p usage k f)
      → ValuesFit usage n (parameter_uses p usage k) vs → IfGives (λ f. F f × (f.function ≡ k)) (call_of p k vs)
  called_fits k vs code h = by_program p code h
    where
      by_found : (q : Program) (o : Option Function) → ((f : Function) → o ≡ Some f → FunctionFits p usage k f)
          → ValuesFit usage n (uses_of_parameters usage k o) vs
          → IfGives (λ f. F f × (f.function ≡ k)) (elim o [ Some function ↦ called k vs function | None ↦ wrong ])
      by_found q None code h = stray
      by_found q (Some (FunctionIs name parameters result variables body last)) code h =
          then_gives (assigned_holds (usage.variables k) (map variable_of parameters) vs (replicate (length variables) None) h
          (λ x v e. absurd (none_held (length variables) x v e)))
          (λ held o. given (
            record {
              uses = usage.variables k;
              held = o;
              stands = after_fits p usage n (usage.variables k) k (onto body (closing last)) (onto_fits p usage n (usage.variables k) k body (closing last) (code (FunctionIs name parameters result variables body last) refl n) tt);
            },
            refl,
          ))

      by_program : (q : Program) → ((f : Function) → function_at q k ≡ Some f → FunctionFits p usage k f)
          → ValuesFit usage n (parameter_uses q usage k) vs → IfGives (λ f. F f × (f.function ≡ k)) (call_of q k vs)
      by_program (ProgramIs functions main) code h = by_found (ProgramIs functions main) (slice_get functions k) code h

  module _ (f : Frame) (h : F f) where
    abbrev Here : Point → Type 0
    Here q = PointFits p usage n h.uses f.function q

    abbrev R : Rest → Type 0
    R rest = RestFits p usage n h.uses f.function rest

    pub moved_on : (q : Point) → Here q → On f (moved f q)
    moved_on q s = record { fits = record { uses = h.uses; held = h.held; stands = s }; same = refl }

    pub goes_on_fits : On f (goes_on f)
    goes_on_fits = moved_on _ (after_fits p usage n h.uses f.function f.point.rest h.stands.rest)

    pub goes_on_with : (held : Variables) → Holds usage n h.uses held → On f (goes_on (record f { variables = held }))
    goes_on_with held o = record { fits = record { uses = h.uses; held = o; stands = after_fits p usage n h.uses f.function f.point.rest h.stands.rest }; same = refl }

    pub filled_on : (operands : Operands) → OperandsFit p usage n h.uses f.function (work_uses p usage n h.uses f.function f.point.work) operands
        → On f (filled f operands)
    filled_on operands o = if_either (On f) (is_over f.point.work operands) (λ e. goes_on_fits)
        (λ e. moved_on _ (record { operands = o; work = h.stands.work; rest = h.stands.rest }))

    abbrev Operands_fit : Operands → Type 0
    Operands_fit os = OperandsFit p usage n h.uses f.function (work_uses p usage n h.uses f.function f.point.work) os

    next_here : NextFits p usage n h.uses f.function Operands_fit (next_of f.point.operands)
    next_here = nexts_fit p usage n h.uses f.function (work_uses p usage n h.uses f.function f.point.work) f.point.operands h.stands.operands

    -- a value that may be used in every way, in place of the next part
    pub resumed_on : (v : Value) → Shared usage v → IfGives (On f) (resumed f v)
    resumed_on v s = by_next (next_of f.point.operands) next_here
      where
        by_next : (x : Next Operands) → NextFits p usage n h.uses f.function Operands_fit x → IfGives (On f) (resumed_by f x v)
        by_next Plain plain = stray
        by_next (Asks (Calls k arguments) with) (asks a o) = given (filled_on (with v) (o v (shared_may usage n (usage.results k) v s)))
        by_next (Asks (Decides op left) with) (asks a o) = given (filled_on (with v) (o v tt))
        by_next (Asks (Receives c initial) with) (asks a o) = given (filled_on (with v) (o v s))
        by_next (Asks (Makes size) with) (asks a o) = given (filled_on (with v) (o v s))
        by_next (Asks (CountsItems c) with) (asks a o) = given (filled_on (with v) (o v s))
        by_next (Asks (CountsPlaces c) with) (asks a o) = given (filled_on (with v) (o v s))

    -- a result of the function that the next part calls
    pub returned_on : (k : ℕ) (v : Value) → AwaitsResultOf k f → MayUse usage n (usage.results k) v → IfGives (On f) (resumed f v)
    returned_on k v w m = by_next (next_of f.point.operands) next_here w
      where
        by_next : (x : Next Operands) → NextFits p usage n h.uses f.function Operands_fit x → Calling k x → IfGives (On f) (resumed_by f x v)
        by_next Plain plain w = absurd w
        by_next (Asks (Calls j arguments) with) (asks a o) w = given (filled_on (with v) (o v (subst (λ i. MayUse usage n (usage.results i) v) (sym w) m)))
        by_next (Asks (Decides op left) with) (asks a o) w = absurd w
        by_next (Asks (Receives c initial) with) (asks a o) w = absurd w
        by_next (Asks (Makes size) with) (asks a o) w = absurd w
        by_next (Asks (CountsItems c) with) (asks a o) w = absurd w
        by_next (Asks (CountsPlaces c) with) (asks a o) w = absurd w

    values_for : (bs : List Uses) (v : Value) (b : Bool) → Shared usage v → OperandsFit p usage n h.uses f.function bs (two (Done v) (Done (Truth b)))
    values_for [] v b s = (shared_may usage n no_use v s, (tt, tt))
    values_for (u ∷ []) v b s = (shared_may usage n u v s, (tt, tt))
    values_for (u ∷ w ∷ bs) v b s = (shared_may usage n u v s, (tt, tt))

    past_work : (work : Work) (operands : Operands) (got : Option (Value × Bool)) → WorkFits p usage n h.uses f.function work
        → OperandsFit p usage n h.uses f.function (work_uses p usage n h.uses f.function work) operands
        → GotFits usage got → IfGives (On f) (past_statement f work operands got)
    past_work Send operands None w o g = given goes_on_fits
    past_work (AssignReceive value ok initial) operands (Some got) w o g =
        given (moved_on _ (record { operands = values_for (map (target h.uses) (value ∷ ok ∷ [])) got.0 got.1 g; work = tt; rest = h.stands.rest }))
    past_work (Turn t body) (also c nothing) (Some (v, true)) w o g =
        given (moved_on _ (record {
          operands = (shared_may usage n (target h.uses t) v g, tt);
          work = tt;
          rest = onto_fits p usage n h.uses f.function body _ w (o.0, w, h.stands.rest);
        }))
    past_work (Turn t body) (also c nothing) (Some (v, false)) w o g = given (moved_on _ (record { operands = tt; work = tt; rest = h.stands.rest }))
    past_work _ operands got w o g = stray

    past_part : (got : Option (Value × Bool)) (x : Next Operands) → NextFits p usage n h.uses f.function Operands_fit x → GotFits usage got
        → IfGives (On f) (past_next f x got)
    past_part got Plain plain g = past_work f.point.work f.point.operands got h.stands.work h.stands.operands g
    past_part None (Asks (Receives c initial) with) a g = stray
    past_part None (Asks (Calls k arguments) with) a g = stray
    past_part None (Asks (Decides op left) with) a g = stray
    past_part None (Asks (Makes size) with) a g = stray
    past_part None (Asks (CountsItems c) with) a g = stray
    past_part None (Asks (CountsPlaces c) with) a g = stray
    past_part (Some got) (Asks (Receives c initial) with) (asks a o) g = given (filled_on (with got.0) (o got.0 g))
    past_part (Some got) (Asks (Calls k arguments) with) a g = stray
    past_part (Some got) (Asks (Decides op left) with) a g = stray
    past_part (Some got) (Asks (Makes size) with) a g = stray
    past_part (Some got) (Asks (CountsItems c) with) a g = stray
    past_part (Some got) (Asks (CountsPlaces c) with) a g = stray

    abbrev Cs : Cases → Type 0
    Cs cases = CasesFit p usage n h.uses f.function cases

    body_fits : (number : ℕ) (body : Stmts) → StmtsFit p usage n h.uses f.function body → R (body_after f number body)
    body_fits number body b = onto_fits p usage n h.uses f.function body _ b h.stands.rest

    clause_fits : (targets : List (Option ℕ)) (rest : Rest) (got : Value × Bool) → R rest → Shared usage got.0
        → Here (clause_point f.point.place targets rest got)
    clause_fits [] rest got r s = after_fits p usage n h.uses f.function rest r
    clause_fits (k ∷ ks) rest got r s = record { operands = values_for (map (target h.uses) (k ∷ ks)) got.0 got.1 s; work = tt; rest = r }

    past_clause : (number : ℕ) (cases : Cases) (got : Option (Value × Bool)) → Cs cases → GotFits usage got → IfGives (On f) (past_case f number cases got)
    past_clause number (default_case body others) None c g = given (moved_on _ (after_fits p usage n h.uses f.function (body_after f number body) (body_fits number body c.0)))
    past_clause number (send_case channel value body others) None c g = given (moved_on _ (after_fits p usage n h.uses f.function (body_after f number body) (body_fits number body c.0)))
    past_clause number (receive_case targets channel initial body others) (Some got) c g =
        given (moved_on _ (clause_fits targets (body_after f number body) got (body_fits number body c.0) g))
    past_clause number _ got c g = stray

    cases_beyond : (i : ℕ) (cases : Cases) → Cs cases → Cs (cases_from i cases)
    cases_beyond zero cases c = c
    cases_beyond (suc i) no_case c = tt
    cases_beyond (suc i) (default_case body others) c = cases_beyond i others c.1
    cases_beyond (suc i) (send_case channel value body others) c = cases_beyond i others c.1
    cases_beyond (suc i) (receive_case targets channel initial body others) c = cases_beyond i others c.1

    cases_here : (work : Work) → WorkFits p usage n h.uses f.function work → Cs (cases_at work)
    cases_here (Select cases) w = w
    cases_here _ w = tt

    -- past its communication
    pub past_on : (clause : Option ℕ) (got : Option (Value × Bool)) → GotFits usage got → IfGives (On f) (past f clause got)
    past_on None got g = past_part got (next_of f.point.operands) next_here g
    past_on (Some number) got g =
        past_clause number (cases_from (number - 1) (cases_at f.point.work)) got
        (cases_beyond (number - 1) (cases_at f.point.work) (cases_here f.point.work h.stands.work)) g
