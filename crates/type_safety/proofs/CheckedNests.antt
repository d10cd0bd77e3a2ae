-- What is around a statement, beside the nests of its statements: a nest after which control may not go on is left by no `break`
-- in the statement.
use Rattle.std.proofs.Common.{◌≡◌, ℕ, Bool, true, false, List, [], ◌∷◌, Option, Some, None, refl, sym, ◌∙◌, subst, arith}
use Rattle.std.proofs.lemmas.Option.{same_Some, none-some}
use Rattle.std.specs.Prelude.{slice_get, suc, ◌||◌, ◌+◌, if◌then◌else◌}
use Rattle.gr_causal.proofs.ListLemmas.{or_false}
use Rattle.gr_tree.specs.Statements as statements
use Rattle.gr_tree.specs.Statements.{Statement, Statements, Clauses}
use Rattle.gr_typing.specs.Scopes.{first_where, next_number}
use Rattle.gr_typing.specs.Contexts.{Around, has_label, is_left, is_continued}
use Rattle.gr_typing.specs.Contexts.{Loop, Choice}
use Rattle.gr_typing.specs.Endings.{breaks_act, breaks_of, breaks_in, breaks_among}
use Rattle.type_safety.proofs.Bodies.{Nest, Loops, Chooses, goes_on_after}

-- whether what stands at a place leaves the for or select around it with this label; the truth value says that it is the
-- innermost
abbrev pub Leaving : Type 0
Leaving = Option (List ℕ) → Bool → Bool

pub data Permits (leaves : Leaving) : Bool → List Around → List Nest → Type 0 where
  outermost : {near : Bool} → Permits leaves near [] []
  in_loop : {near : Bool} {label : Option (List ℕ)} {z : Bool} {around : List Around} {nests : List Nest}
      → (z ≡ false → leaves label near ≡ false) → Permits leaves false around nests
      → Permits leaves near (Loop label ∷ around) (Loops z ∷ nests)
  in_choice : {near : Bool} {label : Option (List ℕ)} {z : Bool} {around : List Around} {nests : List Nest}
      → (z ≡ false → leaves label near ≡ false) → Permits leaves false around nests
      → Permits leaves near (Choice label ∷ around) (Chooses z ∷ nests)

-- what leaves less is permitted too
pub permits_less : (f g : Leaving)
    → ((label : Option (List ℕ)) (near : Bool) → f label near ≡ false → g label near ≡ false)
    → (near : Bool) (around : List Around) (nests : List Nest) → Permits f near around nests
    → Permits g near around nests
permits_less f g less near _ _ outermost = outermost
permits_less f g less near _ _ (in_loop {label = label} {around = around} {nests = nests} h rest) =
    in_loop (λ e. less label near (h e)) (permits_less f g less false around nests rest)
permits_less f g less near _ _ (in_choice {label = label} {around = around} {nests = nests} h rest) =
    in_choice (λ e. less label near (h e)) (permits_less f g less false around nests rest)

-- inside one more for or select none of those around is the innermost
pub permits_inside : (f : Leaving) (near : Bool) (around : List Around) (nests : List Nest)
    → Permits (λ label near. f label false) near around nests → Permits f false around nests
permits_inside f near _ _ outermost = outermost
permits_inside f near _ _ (in_loop {around = around} {nests = nests} h rest) =
    in_loop h (permits_inside f false around nests rest)
permits_inside f near _ _ (in_choice {around = around} {nests = nests} h rest) =
    in_choice h (permits_inside f false around nests rest)

-- the statements of two parts, and of the body of one more for or select
pub permits_first : (f g : Leaving) (around : List Around) (nests : List Nest)
    → Permits (λ label near. f label near || g label near) true around nests → Permits f true around nests
permits_first f g around nests h =
    permits_less (λ label near. f label near || g label near) f
    (λ label near e. (or_false (f label near) (g label near) e).0) true around nests h

pub permits_second : (f g : Leaving) (around : List Around) (nests : List Nest)
    → Permits (λ label near. f label near || g label near) true around nests → Permits g true around nests
permits_second f g around nests h =
    permits_less (λ label near. f label near || g label near) g
    (λ label near e. (or_false (f label near) (g label near) e).1) true around nests h

pub loop_permits : (f : Leaving) (around : List Around) (nests : List Nest) (label : Option (List ℕ)) (z : Bool)
    → (z ≡ false → f label true ≡ false)
    → Permits (λ label near. f label false) true around nests → Permits f true (Loop label ∷ around) (Loops z ∷ nests)
loop_permits f around nests label z h rest = in_loop h (permits_inside f true around nests rest)

pub choice_permits : (f : Leaving) (around : List Around) (nests : List Nest) (label : Option (List ℕ)) (z : Bool)
    → (z ≡ false → f label true ≡ false)
    → Permits (λ label near. f label false) true around nests
    → Permits f true (Choice label ∷ around) (Chooses z ∷ nests)
choice_permits f around nests label z h rest = in_choice h (permits_inside f true around nests rest)

abbrev pub leaves_of : Statement → Leaving
leaves_of a label near = breaks_of label near a

abbrev pub leaves_in : Statements → Leaving
leaves_in body label near = breaks_in label near body

abbrev pub leaves_among : Clauses → Leaving
leaves_among clauses label near = breaks_among label near clauses

-- the nest that is left is one after which control goes on
abbrev pub Left : List Nest → ℕ → Type 0
Left nests k = (n : Nest) × (slice_get nests k ≡ Some n) × (goes_on_after n ≡ true)

if_next : (b : Bool) (o : Option ℕ) (k : ℕ) (P : Type 0) → (if b then Some 0 else next_number o) ≡ Some k
    → (b ≡ true → k ≡ 0 → P) → ((j : ℕ) → b ≡ false → o ≡ Some j → k ≡ suc j → P) → P
if_next true o k P e here there = here refl (sym (same_Some 0 k e))
if_next false None k P e here there = absurd (none-some k e)
if_next false (Some j) k P e here there = there j refl refl (sym (same_Some (j + 1) k e) ∙ omega arith)

goes_on : (z leaves : Bool) → (z ≡ false → leaves ≡ false) → leaves ≡ true → z ≡ true
goes_on true leaves h e = refl
goes_on false leaves h e = sym (h refl) ∙ e

next_left : (n : Nest) (nests : List Nest) (j k : ℕ) → k ≡ suc j → Left nests j → Left (n ∷ nests) k
next_left n nests j k e l = subst (Left (n ∷ nests)) (sym e) l

-- a `break` that names a label
named_left : (x : List ℕ) (near : Bool) (around : List Around) (nests : List Nest) (k : ℕ)
    → Permits (λ label near. breaks_act label near (statements.Break (Some x))) near around nests
    → first_where (is_left (Some x)) around ≡ Some k → Left nests k
named_left x near _ _ k outermost e = absurd (none-some k e)
named_left x near _ _ k (in_loop {label = label} {z = z} {around = around} {nests = nests} h rest) e =
    if_next (has_label label x) (first_where (is_left (Some x)) around) k (Left (Loops z ∷ nests) k) e
    (λ b at. subst (Left (Loops z ∷ nests)) (sym at) (Loops z, refl, goes_on z (has_label label x) h b))
    (λ j b f at. next_left (Loops z) nests j k at (named_left x false around nests j rest f))
named_left x near _ _ k (in_choice {label = label} {z = z} {around = around} {nests = nests} h rest) e =
    if_next (has_label label x) (first_where (is_left (Some x)) around) k (Left (Chooses z ∷ nests) k) e
    (λ b at. subst (Left (Chooses z ∷ nests)) (sym at) (Chooses z, refl, goes_on z (has_label label x) h b))
    (λ j b f at. next_left (Chooses z) nests j k at (named_left x false around nests j rest f))

pub nest_left : (x : Option (List ℕ)) (around : List Around) (nests : List Nest) (k : ℕ)
    → Permits (λ label near. breaks_act label near (statements.Break x)) true around nests
    → first_where (is_left x) around ≡ Some k → Left nests k
nest_left (Some x) around nests k h e = named_left x true around nests k h e
nest_left None _ _ k outermost e = absurd (none-some k e)
nest_left None _ _ k (in_loop {label = label} {z = z} {around = around} {nests = nests} h rest) e =
    subst (Left (Loops z ∷ nests)) (same_Some 0 k e) (Loops z, refl, goes_on z true h refl)
nest_left None _ _ k (in_choice {label = label} {z = z} {around = around} {nests = nests} h rest) e =
    subst (Left (Chooses z ∷ nests)) (same_Some 0 k e) (Chooses z, refl, goes_on z true h refl)

-- the nest that is begun anew is a loop
abbrev pub Continued : List Nest → ℕ → Type 0
Continued nests k = (z : Bool) × (slice_get nests k ≡ Some (Loops z))

if_loop : (x label : Option (List ℕ)) (z : Bool) (around : List Around) (nests : List Nest) (k : ℕ)
    → first_where (is_continued x) (Loop label ∷ around) ≡ Some k
    → ((j : ℕ) → first_where (is_continued x) around ≡ Some j → Continued nests j) → Continued (Loops z ∷ nests) k
if_loop x label z around nests k e later =
    if_next (is_continued x (Loop label)) (first_where (is_continued x) around) k (Continued (Loops z ∷ nests) k) e
    (λ b at. subst (Continued (Loops z ∷ nests)) (sym at) (z, refl))
    (λ j b f at. subst (Continued (Loops z ∷ nests)) (sym at) (later j f))

if_choice : (x label : Option (List ℕ)) (z : Bool) (around : List Around) (nests : List Nest) (k : ℕ)
    → first_where (is_continued x) (Choice label ∷ around) ≡ Some k
    → ((j : ℕ) → first_where (is_continued x) around ≡ Some j → Continued nests j) → Continued (Chooses z ∷ nests) k
if_choice x label z around nests k e later =
    if_next false (first_where (is_continued x) around) k (Continued (Chooses z ∷ nests) k) e
    (λ b at. absurd (let P : false ≡ true = b in cc))
    (λ j b f at. subst (Continued (Chooses z ∷ nests)) (sym at) (later j f))

pub nest_continued : (f : Leaving) (x : Option (List ℕ)) (near : Bool) (around : List Around) (nests : List Nest)
    (k : ℕ)
    → Permits f near around nests → first_where (is_continued x) around ≡ Some k → Continued nests k
nest_continued f x near _ _ k outermost e = absurd (none-some k e)
nest_continued f x near _ _ k (in_loop {label = label} {z = z} {around = around} {nests = nests} h rest) e =
    if_loop x label z around nests k e (λ j. nest_continued f x false around nests j rest)
nest_continued f x near _ _ k (in_choice {label = label} {z = z} {around = around} {nests = nests} h rest) e =
    if_choice x label z around nests k e (λ j. nest_continued f x false around nests j rest)
