-- A pool that is brought back before changes of goroutines, and before a step.
use Rattle.std.proofs.Common.{◌≡◌, ℕ, suc, ◌<◌, true, false, if◌then◌else◌, List, [], ◌∷◌, length, drop, Option, Some, None, inl, inr, get_or, refl, sym, ap, subst, ◌∙◌, drop-cons}
use Rattle.std.proofs.lemmas.Bool.{cases_Bool}
use Rattle.gr_code.specs.Goroutines.{CodeGoroutine}
use Rattle.gr_refine.specs.Contents.{Contents}
use Rattle.gr_goros.specs.Undoing.{undone}
use Rattle.gr_goros.specs.declared.undo.Spot.{Spot}
use Rattle.gr_goros.specs.declared.undo.GoUndo.{GoUndo}
use Rattle.gr_goros.specs.declared.undo.GoUndo.TheVariants.{Parked}
use Rattle.gr_laws.proofs.CellLemmas.{go_is, go_self}
use Rattle.gr_pool.specs.Goroutines as pools
use Rattle.gr_pool.specs.Goroutines.{is_among, with_name, without_name}
use Rattle.gr_rules.specs.Goroutines.{ready}
use Rattle.gr_rules.specs.States.{same_go}
use Rattle.gr_step.specs.Form.{Form}
use Rattle.gr_step.specs.Effects.{Effect, effect_in}
use Rattle.gr_step.specs.Records.{begun_by, go_back, go_undone, is_go, taken_back, goroutines_changed, GoesFit, CanGoBack}
use Rattle.gr_rollback.specs.Prior.{changes_back, BringsBack, BringsStepBack, Loses}
use Rattle.gr_rollback.specs.Readiness.{IsAsIn, HasAllReady, KnowsThere, HasReady, Settles, AllKnown, met_by, others_of}
use Rattle.gr_rollback.proofs.Basics.{some_inj, or_right, true_not_false, neither}
use Rattle.gr_rollback.proofs.OwnerLemmas.{back_none, fitting, met_is_there, others_stay, own_is_there}
use Rattle.gr_rollback.proofs.PoolLemmas.{with_itself, without_itself, with_others, without_others}

-- a goroutine that is as it was, in a pool that has it as it did
pub as_in_alike : (s t : Contents) (old new : pools.Goroutines) (q : List ℕ) → t.goroutines q ≡ s.goroutines q → is_among q new.ready ≡ is_among q old.ready
    → IsAsIn old s q → IsAsIn new t q
as_in_alike s t old new q there same was = record {
  has = λ up. same ∙ was.has (record { goroutine = up.goroutine; there = sym there ∙ up.there; is_ready = up.is_ready });
  only = λ r.
      let up = was.only (sym same ∙ r) in
      record { goroutine = up.goroutine; there = there ∙ up.there; is_ready = up.is_ready };
}

-- one change
module _ (n : List ℕ) (u : GoUndo) (old new : pools.Goroutines) (s : Contents) (fits : GoesFit ((n, u) ∷ []) s.goroutines) (all : HasAllReady old s) where
  abbrev t : Contents
  t = changes_back ((n, u) ∷ []) s

  here : (g : CodeGoroutine) × (s.goroutines n ≡ Some g)
  here = fitting u (s.goroutines n) fits.0

  back_here : t.goroutines n ≡ Some (undone u here.0)
  back_here = rw (go_self n) (ap (go_undone u) here.1)

  elsewhere : (q : List ℕ) → same_go q n ≡ false → t.goroutines q ≡ s.goroutines q
  elsewhere q e = rw e refl

  others : (q : List ℕ) → same_go q n ≡ false → is_among q new.ready ≡ is_among q old.ready → IsAsIn new t q
  others q e same = as_in_alike s t old new q (elsewhere q e) same (all q)

  -- of a goroutine that was ready before it
  pub brings_ready : ((g : CodeGoroutine) → (undone u g).status ≡ ready) → new.ready ≡ with_name n old.ready → HasAllReady new t
  brings_ready up is q = elim (cases_Bool (same_go q n)) [
    | inl e ↦ subst (IsAsIn new t) (sym (go_is q n e)) (record {
      has = λ r. ap (is_among n) is ∙ with_itself n old.ready;
      only = λ r. record { goroutine = undone u here.0; there = back_here; is_ready = up here.0 };
    })
    | inr e ↦ others q e (ap (is_among q) is ∙ with_others q n old.ready e)
  ]

  -- a goroutine that was not ready before the change
  pub brings_unready : ((g : CodeGoroutine) → (undone u g).status ≡ ready → ⊥) → new.ready ≡ without_name n old.ready → HasAllReady new t
  brings_unready down is q = elim (cases_Bool (same_go q n)) [
    | inl e ↦ subst (IsAsIn new t) (sym (go_is q n e)) (record {
      has = λ r. absurd (down here.0 (ap (λ (g : CodeGoroutine). g.status) (some_inj (sym back_here ∙ r.there)) ∙ r.is_ready));
      only = λ r. absurd (true_not_false r (ap (is_among n) is ∙ without_itself n old.ready));
    })
    | inr e ↦ others q e (ap (is_among q) is ∙ without_others q n old.ready e)
  ]

  -- a goroutine that was ready before the change if it is after it
  pub brings_same : ((g : CodeGoroutine) → (undone u g).status ≡ g.status) → new ≡ old → HasAllReady new t
  brings_same keeps is q = elim (cases_Bool (same_go q n)) [
    | inl e ↦ subst (IsAsIn new t) (sym (go_is q n e)) (record {
      has = λ r. ap (λ (p : pools.Goroutines). is_among n p.ready) is ∙ (all n).has (record {
        goroutine = here.0;
        there = here.1;
        is_ready = sym (keeps here.0) ∙ ap (λ (g : CodeGoroutine). g.status) (some_inj (sym back_here ∙ r.there)) ∙ r.is_ready;
      });
      only = λ r.
          let was = (all n).only (ap (λ (p : pools.Goroutines). is_among n p.ready) (sym is) ∙ r) in
          record {
            goroutine = undone u here.0;
            there = back_here;
            is_ready = keeps here.0 ∙ ap (λ (g : CodeGoroutine). g.status) (some_inj (sym here.1 ∙ was.there)) ∙ was.is_ready;
          };
    })
    | inr e ↦ others q e (ap (λ (p : pools.Goroutines). is_among q p.ready) is)
  ]

-- changes, and one more before them
pub brings_none : (pool : pools.Goroutines) → BringsBack [] pool pool
brings_none pool = record { known = refl; ready = λ s fits all. all }

pub brings_more : (e : List ℕ × GoUndo) (us : List (List ℕ × GoUndo)) (old mid new : pools.Goroutines) → BringsBack us old mid → BringsBack (e ∷ []) mid new
    → BringsBack (e ∷ us) old new
brings_more e us old mid new first next = record {
  known = next.known ∙ first.known;
  ready = λ s fits all. next.ready (changes_back us s) (fits.0, tt) (first.ready s fits.1 all);
}

pub brings_on : (us : List (List ℕ × GoUndo)) (i left : ℕ) (e : List ℕ × GoUndo) (old mid new : pools.Goroutines) → i < length us → left ≡ suc i → e ≡ get_or us i e
    → BringsBack (drop left us) old mid → BringsBack (e ∷ []) mid new → BringsBack (drop i us) old new
brings_on us i left e old mid new within more is first next =
    subst (λ xs. BringsBack xs old new) (sym (drop-cons us i e within ∙ ap (λ x. x ∷ drop (suc i) us) (sym is)))
    (brings_more e (drop (suc i) us) old mid new (subst (λ k. BringsBack (drop k us) old mid) more first) next)

-- a step that started no goroutine
pub loses_none : (pool : pools.Goroutines) → Loses None pool pool
loses_none pool = record { known = refl; gone = λ q e. absurd (true_not_false e refl); others = λ q e. refl }

pub loses_one : (n : List ℕ) (old new : pools.Goroutines) → new.ready ≡ without_name n old.ready → new.known ≡ old.known → Loses (Some n) old new
loses_one n old new is known = record {
  known = known;
  gone = λ q e. ap (λ m. is_among m new.ready) (go_is q n e) ∙ ap (is_among n) is ∙ without_itself n old.ready;
  others = λ q e. ap (is_among q) is ∙ without_others q n old.ready e;
}

-- a step that met no other goroutine, and started none
pub brings_own : (n : List ℕ) (u : GoUndo) (old new : pools.Goroutines) → BringsBack ((n, u) ∷ []) old new → BringsStepBack ((n, u) ∷ []) None old new
brings_own n u old new back = record { mid = new; back = back; loses = loses_none new }

pub brings_unstarted : (us : List (List ℕ × GoUndo)) (old new : pools.Goroutines) → BringsBack us old new → BringsStepBack us None old new
brings_unstarted us old new back = record { mid = new; back = back; loses = loses_none new }

-- its goroutine came to wait, and was ready before
pub brings_waiting : (n : List ℕ) (spot : Spot) (old new : pools.Goroutines) → new.known ≡ old.known → new.ready ≡ with_name n old.ready
    → BringsBack ((n, Parked spot) ∷ []) old new
brings_waiting n spot old new known is = record {
  known = known;
  ready = λ s fits all. brings_ready n (Parked spot) old new s fits all (λ g. refl) is;
}

-- a step whose change is kept in this form
pub brings_in : (n : List ℕ) (f g : Form) (c : Effect) (old new : pools.Goroutines) → effect_in f ≡ c → f ≡ g
    → BringsStepBack (goroutines_changed n (effect_in g)) (begun_by (effect_in g)) old new → BringsStepBack (goroutines_changed n c) (begun_by c) old new
brings_in n f g c old new is kept =
    subst (λ (e : Effect). BringsStepBack (goroutines_changed n e) (begun_by e) old new) (ap effect_in (sym kept) ∙ is)

-- a step is taken back
module _ (n : List ℕ) (c : Effect) (s : Contents) (can : CanGoBack n c s) where
  abbrev changed : List (List ℕ × GoUndo)
  changed = goroutines_changed n c

  -- what is there before it was there after it
  was_there : (x : Option CodeGoroutine) (us : List (List ℕ × GoUndo)) (q : List ℕ) (g : CodeGoroutine) → go_back us q x ≡ Some g → (h : CodeGoroutine) × (x ≡ Some h)
  was_there (Some h) us q g there = (h, refl)
  was_there None us q g there = absurd (let f : None ≡ Some g = sym (back_none us q) ∙ there in cc)

  still_there : (q : List ℕ) (g : CodeGoroutine) → (taken_back n c s).goroutines q ≡ Some g → (h : CodeGoroutine) × (s.goroutines q ≡ Some h)
  still_there q g there = elim (cases_Bool (is_go q (begun_by c))) [
    | inl e ↦ absurd (let f : None ≡ Some g = sym (ap (λ b. if b then None else go_back changed q (s.goroutines q)) e) ∙ there in cc)
    | inr e ↦ was_there (s.goroutines q) changed q g (sym (ap (λ b. if b then None else go_back changed q (s.goroutines q)) e) ∙ there)
  ]

  -- its goroutine and those that it met are known
  module _ (pool : pools.Goroutines) (knows : KnowsThere pool s) where
    pub own_known : is_among n pool.known ≡ true
    own_known = let own = own_is_there n c s can in knows n own.0 own.1

    pub met_known : AllKnown (met_by c) pool
    met_known q among =
        let back = met_is_there changed s.goroutines q can.goroutines (or_right (same_go q n) (is_among q (met_by c)) among) in
        let there = was_there (s.goroutines q) changed q back.0 back.1 in
        knows q there.0 there.1

  -- the pool has those that are ready before it
  module _ (old new : pools.Goroutines) (has : HasReady old s) (brings : BringsStepBack changed (begun_by c) old new) where
    known_are : new.known ≡ old.known
    known_are = brings.loses.known ∙ brings.back.known

    each_back : HasAllReady new (taken_back n c s)
    each_back q = elim (cases_Bool (is_go q (begun_by c))) [
      | inl e ↦ record {
        has = λ up. absurd (let f : None ≡ Some up.goroutine = sym (ap (λ b. if b then None else go_back changed q (s.goroutines q)) e) ∙ up.there in cc);
        only = λ r. absurd (true_not_false r (brings.loses.gone q e));
      }
      | inr e ↦
          as_in_alike (changes_back changed s) (taken_back n c s) brings.mid new q (ap (λ b. if b then None else go_back changed q (s.goroutines q)) e)
          (brings.loses.others q e) (brings.back.ready s can.goroutines has.each q)
    ]

    pub ready_before : HasReady new (taken_back n c s)
    ready_before = record {
      knows = λ q g there. let was = still_there q g there in ap (is_among q) known_are ∙ has.knows q was.0 was.1;
      each = each_back;
    }

    pub knows_still : KnowsThere new s
    knows_still q g there = ap (is_among q) known_are ∙ has.knows q g there

    -- the pool has those again that are ready after the step, where it was not taken back
    pub ready_again : (last : pools.Goroutines) → Settles (n ∷ others_of c) s new last → HasReady last s
    ready_again last settles = record {
      knows = λ q g there. ap (is_among q) settles.known ∙ knows_still q g there;
      each = λ q. elim (cases_Bool (is_among q (n ∷ others_of c))) [
        | inl m ↦ settles.these q m
        | inr m ↦
            let both = neither (same_go q n) (is_among q (others_of c)) m in
            as_in_alike (taken_back n c s) s new last q (sym (others_stay n c s q both.0 both.1)) (settles.others q m) (each_back q)
      ];
    }
