-- A step stands in the list of its goroutine.
use Rattle.std.proofs.Common.{◌≡◌, ◌<◌, ◌+◌, ◌==◌, ◌||◌, ℕ, suc, Bool, true, false, List, length, take, drop, get_or, slice_get, Option, Some, None, refl, sym, ap, subst, ◌∙◌, eqb-true, zero-add, inl, inr, arith}
use Rattle.std.specs.Prelude.{IfNone}
use Rattle.std.specs.List.{list_any}
use Rattle.std.proofs.lemmas.Bool.{cases_Bool}
use Rattle.std.proofs.lemmas.List.{drop_more, take-append-drop}
use Rattle.std.proofs.lemmas.List.Folds.{list_any-append}
use Rattle.gr_base.specs.declared.objects.Object.TheVariants.{Go}
use Rattle.gr_base.specs.declared.names.StepId.{StepId}
use Rattle.gr_rules.specs.States.{same}
use Rattle.gr_laws.proofs.CellLemmas.{same_self}
use Rattle.gr_record.specs.declared.record.Record.{Record}
use Rattle.gr_record.specs.Conflicts.{read_by, written_by, touched_by}
use Rattle.gr_touches.specs.declared.touch.Touch.{Touch}
use Rattle.gr_touches.specs.declared.marks.Wanted.TheVariants as which_are
use Rattle.gr_touches.specs.Marks.{hits, IsAscending}
use Rattle.gr_depend.specs.Named.{IsNamed, NoneFrom, IsLastOf}
use Rattle.gr_touches.specs.Touches.{is_among, touches_in}
use Rattle.gr_touches.proofs.LaneLemmas.{all_wanted}
use Rattle.gr_touches.proofs.MarkLemmas.{cut_later}
use Rattle.gr_depend.proofs.ConflictLemmas.{hits_touched, touches_ascend}

abbrev pub is_at : ℕ → List Touch → Bool
is_at p ts = list_any (λ t. t.place == p) ts

hits_all : (ts : List Touch) (p : ℕ) → hits which_are.All ts p ≡ is_at p ts
hits_all ts p = ap (is_at p) (all_wanted ts)

or_right : (a b : Bool) → b ≡ true → (a || b) ≡ true
or_right true b h = refl
or_right false b h = h

own_among : (r : Record) → is_among (Go r.id.go) (touched_by r) ≡ true
own_among r =
    list_any-append (same (Go r.id.go)) (read_by r) (written_by r)
    ∙ or_right (is_among (Go r.id.go) (read_by r)) (is_among (Go r.id.go) (written_by r))
    (ap (λ b. b || list_any (same (Go r.id.go)) (drop 1 (written_by r))) (same_self (Go r.id.go)))

-- the list of its goroutine has the step
pub own_there : (rs : List Record) (go : List ℕ) (i : ℕ) (r : Record) → slice_get rs i ≡ Some r → r.id.go ≡ go → is_at i (touches_in (Go go) 0 rs) ≡ true
own_there rs go i r there own =
    sym (hits_all (touches_in (Go go) 0 rs) i) ∙ ap (hits which_are.All (touches_in (Go go) 0 rs)) (sym (zero-add i)) ∙ hits_touched which_are.All (Go go) 0 rs i r there
    ∙ subst (λ g. is_among (Go g) (touched_by r) ≡ true) own (own_among r)

pub not_named : (rs : List Record) (id : StepId) (n : ℕ) (a b ts : List Touch) → ts ≡ touches_in (Go id.go) 0 rs → a ≡ take n ts → b ≡ drop n ts
    → ((p : ℕ) → is_at p b ≡ true → IsNamed rs p id → ⊥) → ((p : ℕ) → is_at p a ≡ true → IsNamed rs p id → ⊥) → (p : ℕ) → IsNamed rs p id → ⊥
not_named rs id n a b ts is front back none_back none_front p named =
    let at : is_at p ts ≡ true = ap (is_at p) is ∙ own_there rs id.go p named.step named.there (ap (λ s. s.go) named.named) in
    let both : (is_at p a || is_at p b) ≡ true =
    (λ x. is_at p (front x) || is_at p (back x)) ∙ sym (list_any-append (λ t. t.place == p) (take n ts) (drop n ts)) ∙ ap (is_at p) (take-append-drop n ts) ∙ at in
    elim (cases_Bool (is_at p a)) [
      | inl t ↦ none_front p t named
      | inr f ↦ none_back p (rw f at both) named
    ]

pub if_none : {A : Type 0} (o : Option A) (P Q : Type 0) → (P → Q) → IfNone o P → IfNone o Q
if_none None P Q f h = f h
if_none (Some x) P Q f h = tt

module _ (rs : List Record) (go : List ℕ) (ts : List Touch) (is : ts ≡ touches_in (Go go) 0 rs) where
  abbrev pub NoneAfter : ℕ → Type 0
  NoneAfter n = (i : ℕ) (r : Record) → is_at i (drop n ts) ≡ true → slice_get rs i ≡ Some r → r.id.go ≡ go → ⊥

  -- one touch more whose step is not of the goroutine
  pub none_more : (n : ℕ) (d : Touch) → n < length ts → ((r : Record) → slice_get rs (get_or ts n d).place ≡ Some r → r.id.go ≡ go → ⊥)
      → NoneAfter (n + 1) → NoneAfter n
  none_more n d within not none i r at there own =
      let both : (((get_or ts n d).place == i) || is_at i (drop (n + 1) ts)) ≡ true = sym (ap (is_at i) (drop_more ts n d within)) ∙ at in
      elim (cases_Bool ((get_or ts n d).place == i)) [
        | inl t ↦ not r (ap (slice_get rs) (eqb-true (get_or ts n d).place i t) ∙ there) own
        | inr f ↦ none i r (rw f at both) there own
      ]

  pub none_at_all : NoneAfter 0 → NoneFrom rs 0 go
  none_at_all none i r le there own = none i r (ap (is_at i) is ∙ own_there rs go i r there own) there own

  pub last_there : (n : ℕ) (d : Touch) (id : StepId) → n < length ts → IsNamed rs (get_or ts n d).place id → id.go ≡ go → NoneAfter (n + 1) → IsLastOf rs go id
  last_there n d id within named own none = record {
    place = (get_or ts n d).place;
    named = named;
    own = own;
    last = λ i x le at its.
        let e : n + 1 ≡ suc n = omega arith in
        none i x
        (ap (λ m. is_at i (drop m ts)) e ∙ sym (hits_all (drop (suc n) ts) i)
        ∙ cut_later which_are.All 0 ts n d (get_or ts n d).place i (subst (IsAscending 0) (sym is) (touches_ascend (Go go) 0 rs)) within (omega arith) (omega arith)
        ∙ hits_all ts i ∙ ap (is_at i) is ∙ own_there rs go i x at its)
        at its;
  }
