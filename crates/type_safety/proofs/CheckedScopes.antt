-- Scopes of statements: what a block declares ends with it, its variables keep their numbers.
use Rattle.std.proofs.Common.{◌≡◌, ℕ, List, [], ◌∷◌, ◌++◌, Option, Some, None, refl, sym, ◌∙◌, ap, subst, append_assoc, append-nil}
use Rattle.gr_program.specs.Programs.{Declared}
use Rattle.gr_typing.specs.Scopes.{Block, Scope, In, in_block, in_blocks, first_of, entered, left, last_block, but_last}
use Rattle.type_safety.proofs.Promises.{Live, Begins, Grows, grows}

first_first : (a b c : Option ℕ) → first_of (first_of a b) c ≡ first_of a (first_of b c)
first_first (Some k) b c = refl
first_first None b c = refl

first_none : (a : Option ℕ) → first_of a None ≡ a
first_none (Some k) = refl
first_none None = refl

in_blocks_push : (bs : List Block) (b : Block) (x : List ℕ)
    → in_blocks (bs ++ (b ∷ [])) x ≡ first_of (in_block b x) (in_blocks bs x)
in_blocks_push [] b x = sym (first_none (in_block b x))
in_blocks_push (a ∷ bs) b x =
    ap (λ r. first_of r (in_block a x)) (in_blocks_push bs b x)
    ∙ first_first (in_block b x) (in_blocks bs x) (in_block a x)

last_push : (bs : List Block) (b : Block) → last_block (bs ++ (b ∷ [])) ≡ b
last_push [] b = refl
last_push (a ∷ []) b = refl
last_push (a ∷ (c ∷ bs)) b = last_push (c ∷ bs) b

but_push : (bs : List Block) (b : Block) → but_last (bs ++ (b ∷ [])) ≡ bs
but_push [] b = refl
but_push (a ∷ []) b = refl
but_push (a ∷ (c ∷ bs)) b = ap (λ l. a ∷ l) (but_push (c ∷ bs) b)

-- more variables; and more names of the block
abbrev pub wider : Scope → List Declared → Scope
wider (In here around variables) more = In here around (variables ++ more)

abbrev pub grown : Scope → Block → List Declared → Scope
grown (In here around variables) names more = In (here ++ names) around (variables ++ more)

abbrev pub Widens : Scope → Scope → Type 0
Widens s n = (more : List Declared) × (n ≡ wider s more)

growth : (s n : Scope) → Grows s n → (names : Block) × (more : List Declared) × (n ≡ grown s names more)
growth _ _ (grows names more) = (names, more, refl)

wider_grows : (s : Scope) (more : List Declared) → Grows s (wider s more)
wider_grows (In here around variables) more =
    subst (λ h. Grows (In here around variables) (In h around (variables ++ more))) (append-nil here) (grows [] more)

pub grows_wide : (s n : Scope) → Widens s n → Grows s n
grows_wide s n w = subst (Grows s) (sym w.1) (wider_grows s w.0)

pub widens_itself : (s : Scope) → Widens s s
widens_itself (In here around variables) = ([], ap (In here around) (sym (append-nil variables)))

wider_twice : (s : Scope) (more others : List Declared) → wider (wider s more) others ≡ wider s (more ++ others)
wider_twice (In here around variables) more others = ap (In here around) (append_assoc variables more others)

pub widens_twice : (a b c : Scope) → Widens a b → Widens b c → Widens a c
widens_twice a b c v w = (v.0 ++ w.0, w.1 ∙ ap (λ s. wider s w.0) v.1 ∙ wider_twice a v.0 w.0)

live_wider : (s : Scope) (more : List Declared) (live : List ℕ) → Live s live → Live (wider s more) live
live_wider (In here around variables) more live h = h

pub live_wide : (s n : Scope) (live : List ℕ) → Widens s n → Live s live → Live n live
live_wide s n live w h = subst (λ n. Live n live) (sym w.1) (live_wider s w.0 live h)

left_grown : (s : Scope) (names : Block) (more : List Declared) → left (grown (entered s) names more) ≡ wider s more
left_grown (In here around variables) names more =
    ap (λ b. In b (but_last (around ++ (here ∷ []))) (variables ++ more)) (last_push around here)
    ∙ ap (λ bs. In here bs (variables ++ more)) (but_push around here)

-- out of a block again
pub left_wide : (s n : Scope) → Grows (entered s) n → Widens s (left n)
left_wide s n g = let h = growth (entered s) n g in (h.1, ap left h.2 ∙ left_grown s h.0 h.1)

pub live_entered : (s : Scope) (live : List ℕ) → Live s live → Live (entered s) live
live_entered (In here around variables) live h x k e = h x k (sym (in_blocks_push around here x) ∙ e)

pub begins_left : (n : Scope) (ds : List Declared) → Begins (left n) ds → Begins n ds
begins_left (In here around variables) ds h = h

pub begins_entered : (s : Scope) (ds : List Declared) → Begins (entered s) ds → Begins s ds
begins_entered (In here around variables) ds h = h
