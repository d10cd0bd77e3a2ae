-- What is filled evaluates as before, and has the same next part, filled.
use Rattle.std.proofs.Common.{◌≡◌, ℕ, Bool, true, false, ◌∷◌, Option, Some, None, refl, sym, ap, true≢false, ◌∙◌, subst}
use Rattle.std.specs.Prelude.{slice_get, if◌then◌else◌}
use Rattle.gr_tree.specs.declared.expr.BinaryOp.{BinaryOp}
use Rattle.gr_base.specs.declared.values.Value.{Value}
use Rattle.gr_rules.specs.Outcomes.{gives, ◌>>=◌}
use Rattle.gr_rules.specs.Operators.{operate, apply, settles}
use Rattle.gr_rules.specs.Operands.{Operand, Done, Variable, Unary, Binary, Decided, Receive, Call, Len, Cap, Make, Operands, nothing, also}
use Rattle.gr_rules.specs.Evaluation.{Variables, held, evaluate, evaluate_all}
use Rattle.gr_rules.specs.Parts.{Next, Plain, Asks, Decides, within, on_right, is_logical, next, next_of}
use Rattle.gr_code.specs.Filling.{Temporaries, variable_filled, decided, fill, fill_all, fill_ask, Wanted, Clear, ClearAll}
use Rattle.gr_code.specs.Instructions.{Spot}
use Rattle.gr_code.specs.Code.{value_or, Holds}

variable_fill : (vs : Variables) (x : ℕ) (o : Option Value) → evaluate vs (variable_filled x o) ≡ value_or o (held (slice_get vs x))
variable_fill vs x (Some v) = refl
variable_fill vs x None = refl

decided_fill : (vs : Variables) (op : BinaryOp) (x : ℕ) (b : Operand) (o : Option Value)
    → evaluate vs (decided op x b o) ≡ (value_or o (held (slice_get vs x)) >>= λ v. if settles op v then gives v else (evaluate vs b))
decided_fill vs op x b (Some v) = elim (settles op v) as (λ s. evaluate vs (if s then Done v else b) ≡ (if s then gives v else (evaluate vs b))) [ true ↦ refl | false ↦ refl ]
decided_fill vs op x b None = refl

-- one vector holds the variables and the temporaries
module _ (s : Spot) (all : Variables) (holds : Holds s all) where
  pub evaluate_fill : (e : Operand) → evaluate s.variables (fill s.temporaries e) ≡ evaluate all e
  evaluate_fill (Done v) = refl
  evaluate_fill (Variable x) = variable_fill s.variables x (s.temporaries x) ∙ sym (holds x)
  evaluate_fill (Unary op a) = ap (λ o. o >>= apply op) (evaluate_fill a)
  evaluate_fill (Binary op a b) =
      ap (λ o. o >>= λ x. if settles op x then gives x else (evaluate s.variables (fill s.temporaries b) >>= operate op x)) (evaluate_fill a)
      ∙ ap (λ o. evaluate all a >>= λ x. if settles op x then gives x else (o >>= operate op x)) (evaluate_fill b)
  evaluate_fill (Receive c zero) = refl
  evaluate_fill (Call f arguments) = refl
  evaluate_fill (Len c) = refl
  evaluate_fill (Cap c) = refl
  evaluate_fill (Make n) = refl
  evaluate_fill (Decided op x b) =
      decided_fill s.variables op x (fill s.temporaries b) (s.temporaries x)
      ∙ ap (λ o. o >>= λ v. if settles op v then gives v else (evaluate s.variables (fill s.temporaries b))) (sym (holds x))
      ∙ ap (λ o. held (slice_get all x) >>= λ v. if settles op v then gives v else o) (evaluate_fill b)

  pub evaluate_all_fill : (es : Operands) → evaluate_all s.variables (fill_all s.temporaries es) ≡ evaluate_all all es
  evaluate_all_fill nothing = refl
  evaluate_all_fill (also a others) =
      ap (λ o. o >>= λ x. evaluate_all s.variables (fill_all s.temporaries others) >>= λ xs. gives (x ∷ xs)) (evaluate_fill a)
      ∙ ap (λ o. evaluate all a >>= λ x. o >>= λ xs. gives (x ∷ xs)) (evaluate_all_fill others)

-- the second next part asks the same, filled, and goes on with the filled whole
abbrev pub Fills : {A : Type 0} → (A → A) → Temporaries → Next A → Next A → Type 0
Fills f ts Plain Plain = Unit {0}
Fills f ts (Asks ask k) (Asks ask' k') = (ask' ≡ fill_ask ts ask) × ((v : Value) → k' v ≡ f (k v))
Fills f ts _ _ = ⊥

fills_within : {A B : Type 0} → (f : A → A) (g : B → B) (ts : Temporaries) (h h' : A → B) (n n' : Next A) (m m' : Next B)
    → Fills f ts n n' → ((a : A) → h' (f a) ≡ g (h a)) → Fills g ts m m' → Fills g ts (within h n m) (within h' n' m')
fills_within f g ts h h' Plain Plain m m' e c o = o
fills_within f g ts h h' (Asks ask k) (Asks ask' k') m m' e c o = (e.0, λ v. ap h' (e.1 v) ∙ c (k v))
fills_within f g ts h h' Plain (Asks ask' k') m m' e c o = absurd e
fills_within f g ts h h' (Asks ask k) Plain m m' e c o = absurd e

fills_right : (ts : Temporaries) (op : BinaryOp) (a b : Operand) (n n' : Next Operand) → Fills (fill ts) ts n n'
    → Fills (fill ts) ts (on_right op a b n) (on_right op (fill ts a) (fill ts b) n')
fills_right ts op a b Plain Plain e = tt
fills_right ts op a b (Asks ask k) (Asks ask' k') e =
    elim (is_logical op) as (λ l. Fills (fill ts) ts (if l then Asks (Decides op a) (λ v. if settles op v then Done v else b) else Asks ask (λ v. Binary op a (k v)))
    (if l then Asks (Decides op (fill ts a)) (λ v. if settles op v then Done v else fill ts b) else Asks ask' (λ v. Binary op (fill ts a) (k' v)))) [
      | true ↦ (refl, λ v. elim (settles op v) as (λ s. (if s then Done v else fill ts b) ≡ fill ts (if s then Done v else b)) [ true ↦ refl | false ↦ refl ])
      | false ↦ (e.0, λ v. ap (Binary op (fill ts a)) (e.1 v))
    ]
fills_right ts op a b Plain (Asks ask' k') e = absurd e
fills_right ts op a b (Asks ask k) Plain e = absurd e

abbrev asks : {A : Type 0} → Next A → Bool
asks Plain = false
asks (Asks ask k) = true

pub to_plain : {A : Type 0} → (f : A → A) (ts : Temporaries) (n n' : Next A) → Fills f ts n n' → n ≡ Plain → n' ≡ Plain
to_plain f ts Plain Plain e p = refl
to_plain f ts Plain (Asks ask' k') e p = absurd e
to_plain f ts (Asks ask k) (Asks ask' k') e p = absurd (true≢false (ap asks p))
to_plain f ts (Asks ask k) Plain e p = absurd e

within_self : (n : Next Operand) → within (λ a. a) n Plain ≡ n
within_self Plain = refl
within_self (Asks ask k) = refl

-- a right operand whose left one is decided
fills_decided : (ts : Temporaries) (op : BinaryOp) (x : ℕ) (b : Operand) (o : Option Value) → ts x ≡ o → Wanted op o b
    → Fills (fill ts) ts (next b) (next (fill ts b)) → Fills (fill ts) ts (within (Decided op x) (next b) Plain) (next (decided op x (fill ts b) o))
fills_decided ts op x b None same wanted e =
    fills_within (fill ts) (fill ts) ts (Decided op x) (Decided op x) (next b) (next (fill ts b)) Plain Plain e
    (λ a. sym (ap (decided op x (fill ts a)) same)) tt
fills_decided ts op x b (Some v) same wanted e = settled (settles op v) refl
  where
    settled : (s : Bool) → settles op v ≡ s → Fills (fill ts) ts (within (Decided op x) (next b) Plain) (next (if settles op v then Done v else fill ts b))
    settled true is = rw (is, wanted is) tt
    settled false is = rw is
        (subst (λ n. Fills (fill ts) ts (within (Decided op x) (next b) Plain) n) (within_self (next (fill ts b)))
        (fills_within (fill ts) (fill ts) ts (Decided op x) (λ a. a) (next b) (next (fill ts b)) Plain Plain e
        (λ a. sym (ap (decided op x (fill ts a)) same ∙ ap (λ s. if s then Done v else fill ts a) is)) tt))

mutual
  pub next_fill : (ts : Temporaries) (t : Operand) → Clear ts t → Fills (fill ts) ts (next t) (next (fill ts t))
  next_fill ts (Done v) h = tt
  next_fill ts (Variable x) h = elim (ts x) as (λ o. Fills (fill ts) ts Plain (next (variable_filled x o))) [ Some v ↦ tt | None ↦ tt ]
  next_fill ts (Unary op a) h = fills_within (fill ts) (fill ts) ts (Unary op) (Unary op) (next a) (next (fill ts a)) Plain Plain (next_fill ts a h) (λ a. refl) tt
  next_fill ts (Binary op a b) h =
      fills_within (fill ts) (fill ts) ts (λ x. Binary op x b) (λ x. Binary op x (fill ts b)) (next a) (next (fill ts a)) _ _ (next_fill ts a h.0) (λ a. refl)
      (fills_right ts op a b (next b) (next (fill ts b)) (next_fill ts b h.1))
  next_fill ts (Decided op x b) h = fills_decided ts op x b (ts x) refl h.0 (next_fill ts b h.1)
  next_fill ts (Receive c zero) h =
      fills_within (fill ts) (fill ts) ts (λ x. Receive x zero) (λ x. Receive x zero) (next c) (next (fill ts c)) _ _ (next_fill ts c h) (λ a. refl) (refl, λ v. refl)
  next_fill ts (Call f arguments) h =
      fills_within (fill_all ts) (fill ts) ts (Call f) (Call f) (next_of arguments) (next_of (fill_all ts arguments)) _ _ (next_of_fill ts arguments h) (λ a. refl) (refl, λ v. refl)
  next_fill ts (Len c) h = fills_within (fill ts) (fill ts) ts Len Len (next c) (next (fill ts c)) _ _ (next_fill ts c h) (λ a. refl) (refl, λ v. refl)
  next_fill ts (Cap c) h = fills_within (fill ts) (fill ts) ts Cap Cap (next c) (next (fill ts c)) _ _ (next_fill ts c h) (λ a. refl) (refl, λ v. refl)
  next_fill ts (Make n) h = fills_within (fill ts) (fill ts) ts Make Make (next n) (next (fill ts n)) _ _ (next_fill ts n h) (λ a. refl) (refl, λ v. refl)

  pub next_of_fill : (ts : Temporaries) (t : Operands) → ClearAll ts t → Fills (fill_all ts) ts (next_of t) (next_of (fill_all ts t))
  next_of_fill ts nothing h = tt
  next_of_fill ts (also a rest) h =
      fills_within (fill ts) (fill_all ts) ts (λ x. also x rest) (λ x. also x (fill_all ts rest)) (next a) (next (fill ts a)) _ _ (next_fill ts a h.0) (λ a. refl)
      (fills_within (fill_all ts) (fill_all ts) ts (also a) (also (fill ts a)) (next_of rest) (next_of (fill_all ts rest)) Plain Plain (next_of_fill ts rest h.1) (λ a. refl) tt)
