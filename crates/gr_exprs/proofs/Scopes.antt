-- Look-ups in tables are look-ups in a scope.
use Rattle.std.proofs.lemmas.Bool.{cases_Bool}
use Rattle.std.proofs.Common.{◌≡◌, ℕ, zero, suc, true, false, List, [], ◌∷◌, ◌++◌, length, get_or, ◌<◌, ◌≤◌, refl, ap, sym, ◌∙◌, true≢false, arith, inl, inr, nat_eq, Global}
use Rattle.std.specs.Prelude.{Option, Some, None, is_some, Vec}
use Rattle.std.specs.Cmp.Lexicographic.{pointwise}
use Rattle.std.specs.Map.{lookup}
use Rattle.indexmap.specs.IndexMap.{insert_entry}
use Rattle.gr_exprs.specs.declared.names.NameTable.{NameTable}
use Rattle.gr_program.specs.declared.program.Variable.{Variable}
use Rattle.gr_program.specs.Programs.{Declared, Named}
use Rattle.gr_typing.specs.Names.{is_blank}
use Rattle.gr_typing.specs.Scopes.{Block, In, in_block, in_blocks, first_of, numbered, type_of, declared, last_block, but_last}
use Rattle.gr_program.specs.TypeViews.{ty_of, variable_of, declared_of}
use Rattle.gr_exprs.specs.Tables.{entries_of, block_of, blocks_of}

pub looked_up : (es : List (Vec ℕ Global × ℕ)) (x : List ℕ) → lookup (λ k. pointwise nat_eq x k.items) es ≡ in_block (entries_of es) x
looked_up [] x = refl
looked_up (e ∷ es) x = elim (cases_Bool (pointwise nat_eq x e.0.items)) [
  | inl t ↦ rw t refl
  | inr f ↦ rw f (looked_up es x)
]

some_none : (n : ℕ) → Some n ≡ None → ⊥
some_none n e = cc

pub entry_inserted : (es : List (Vec ℕ Global × ℕ)) (k : Vec ℕ Global) (v : ℕ) → in_block (entries_of es) k.items ≡ None → entries_of (insert_entry (λ a b. pointwise nat_eq a.items b.items) es k v) ≡ entries_of es ++ ((k.items, v) ∷ [])
entry_inserted [] k v h = refl
entry_inserted (e ∷ es) k v h = elim (cases_Bool (pointwise nat_eq k.items e.0.items)) [
  | inl t ↦ absurd (some_none e.1 (rw t at h))
  | inr f ↦ rw f (ap (λ r. (e.0.items, e.1) ∷ r) (entry_inserted es k v (rw f at h)))
]

pub first_first : (a b c : Option ℕ) → first_of (first_of a b) c ≡ first_of a (first_of b c)
first_first (Some k) b c = refl
first_first None b c = refl

pub first_none : (a : Option ℕ) → first_of a None ≡ a
first_none (Some k) = refl
first_none None = refl

pub blocks_push : (ts : List NameTable) (t : NameTable) → blocks_of (ts ++ (t ∷ [])) ≡ blocks_of ts ++ (block_of t ∷ [])
blocks_push [] t = refl
blocks_push (u ∷ ts) t = ap (λ r. block_of u ∷ r) (blocks_push ts t)

pub in_blocks_push : (bs : List Block) (b : Block) (x : List ℕ) → in_blocks (bs ++ (b ∷ [])) x ≡ first_of (in_block b x) (in_blocks bs x)
in_blocks_push [] b x = sym (first_none (in_block b x))
in_blocks_push (a ∷ bs) b x = ap (λ r. first_of r (in_block a x)) (in_blocks_push bs b x) ∙ first_first (in_block b x) (in_blocks bs x) (in_block a x)

pub declared_push : (vs : List Variable) (v : Variable) → declared_of (vs ++ (v ∷ [])) ≡ declared_of vs ++ (variable_of v ∷ [])
declared_push [] v = refl
declared_push (u ∷ vs) v = ap (λ r. variable_of u ∷ r) (declared_push vs v)

pub declared_length : (vs : List Variable) → length (declared_of vs) ≡ length vs
declared_length [] = refl
declared_length (v ∷ vs) = omega (arith, declared_length vs)

pub numbered_at : (vs : List Variable) (k : ℕ) (v : Variable) → k < length vs → v ≡ get_or vs k v → Some (ty_of v.value_type) ≡ type_of (numbered (declared_of vs) k)
numbered_at [] k v lt e = absurd (omega arith)
numbered_at (u ∷ vs) zero v lt e = ap (λ w. Some (ty_of w.value_type)) e
numbered_at (u ∷ vs) (suc k) v lt e = numbered_at vs k v (omega arith) e

pub numbered_past : (vs : List Variable) (k : ℕ) → length vs ≤ k → None ≡ type_of (numbered (declared_of vs) k)
numbered_past [] k le = refl
numbered_past (u ∷ vs) zero le = absurd (omega arith)
numbered_past (u ∷ vs) (suc k) le = numbered_past vs k (omega arith)

-- the blocks around a place, from the nearest outwards
blocks_split : (ts others : List NameTable) (t : NameTable) (x : List ℕ) → ts ≡ others ++ (t ∷ []) → in_blocks (blocks_of ts) x ≡ first_of (in_block (block_of t) x) (in_blocks (blocks_of others) x)
blocks_split ts others t x e =
    ap (λ l. in_blocks (blocks_of l) x) e ∙ ap (λ bs. in_blocks bs x) (blocks_push others t) ∙ in_blocks_push (blocks_of others) (block_of t) x

first_some : (r o : Option ℕ) → is_some r ≡ true → first_of r o ≡ r
first_some (Some k) o e = refl
first_some None o e = absurd (true≢false (sym e))

first_other : (r o : Option ℕ) → is_some r ≡ false → first_of r o ≡ o
first_other (Some k) o e = absurd (true≢false e)
first_other None o e = refl

pub found_last : (ts others : List NameTable) (t : NameTable) (x : List ℕ) (r o : Option ℕ) → ts ≡ others ++ (t ∷ []) → r ≡ in_block (block_of t) x → is_some r ≡ true → in_blocks (blocks_of ts) x ≡ o → r ≡ o
found_last ts others t x r o e f some h =
    let rest = in_blocks (blocks_of others) x in
    sym (first_some r rest some) ∙ ap (λ q. first_of q rest) f ∙ sym (blocks_split ts others t x e) ∙ h

pub not_last : (ts others : List NameTable) (t : NameTable) (x : List ℕ) (r o : Option ℕ) → ts ≡ others ++ (t ∷ []) → r ≡ in_block (block_of t) x → is_some r ≡ false → in_blocks (blocks_of ts) x ≡ o → in_blocks (blocks_of others) x ≡ o
not_last ts others t x r o e f other h =
    let rest = in_blocks (blocks_of others) x in
    sym (first_other r rest other) ∙ ap (λ q. first_of q rest) f ∙ sym (blocks_split ts others t x e) ∙ h

pub no_block : (ts : List NameTable) (x : List ℕ) (o : Option ℕ) → length ts ≡ 0 → in_blocks (blocks_of ts) x ≡ o → None ≡ o
no_block [] x o e h = h
no_block (t ∷ ts) x o e h = absurd (omega (arith, e))

-- a declaration, and the ways into and out of a block
pub declared_is : (here new : Block) (around : List Block) (vs ws : List Variable) (x y : List ℕ) (n : ℕ) (v : Variable) → is_blank x ≡ false → n ≡ length vs → y ≡ x → v.name.items ≡ x → new ≡ here ++ ((y, n) ∷ []) → ws ≡ vs ++ (v ∷ []) → In new around (declared_of ws) ≡ declared (In here around (declared_of vs)) x (ty_of v.value_type)
declared_is here new around vs ws x y n v named long copied again added pushed =
    let t = ty_of v.value_type in
    let e : new ≡ here ++ ((x, length (declared_of vs)) ∷ []) = added ∙ ap (λ y. here ++ ((y, n) ∷ [])) copied ∙ ap (λ n. here ++ ((x, n) ∷ [])) (long ∙ sym (declared_length vs)) in
    let f : declared_of ws ≡ declared_of vs ++ (Named x t ∷ []) = ap declared_of pushed ∙ declared_push vs v ∙ ap (λ x. declared_of vs ++ (Named x t ∷ [])) again in
    rw named (ap (λ b. In b around (declared_of ws)) e ∙ ap (λ l. In (here ++ ((x, length (declared_of vs)) ∷ [])) around l) f)

pub entered_is : (old new : List NameTable) (here outer fresh table : NameTable) (vs : List Declared) → new ≡ old ++ (outer ∷ []) → outer ≡ here → table ≡ fresh → block_of fresh ≡ [] → In (block_of table) (blocks_of new) vs ≡ In [] (blocks_of old ++ (block_of here ∷ [])) vs
entered_is old new here outer fresh table vs pushed same e empty =
    ap (λ b. In b (blocks_of new) vs) (ap block_of e ∙ empty) ∙ ap (λ bs. In [] bs vs) (ap blocks_of pushed ∙ blocks_push old outer ∙ ap (λ t. blocks_of old ++ (block_of t ∷ [])) same)

last_push : (bs : List Block) (b : Block) → last_block (bs ++ (b ∷ [])) ≡ b
last_push [] b = refl
last_push (a ∷ []) b = refl
last_push (a ∷ (c ∷ bs)) b = last_push (c ∷ bs) b

but_push : (bs : List Block) (b : Block) → but_last (bs ++ (b ∷ [])) ≡ bs
but_push [] b = refl
but_push (a ∷ []) b = refl
but_push (a ∷ (c ∷ bs)) b = ap (λ l. a ∷ l) (but_push (c ∷ bs) b)

pub left_is : (old new : List NameTable) (outer : NameTable) (vs : List Declared) → old ≡ new ++ (outer ∷ []) → In (block_of outer) (blocks_of new) vs ≡ In (last_block (blocks_of old)) (but_last (blocks_of old)) vs
left_is old new outer vs e =
    let f : blocks_of old ≡ blocks_of new ++ (block_of outer ∷ []) = ap blocks_of e ∙ blocks_push new outer in
    let last : last_block (blocks_of old) ≡ block_of outer = ap last_block f ∙ last_push (blocks_of new) (block_of outer) in
    let rest : but_last (blocks_of old) ≡ blocks_of new = ap but_last f ∙ but_push (blocks_of new) (block_of outer) in
    ap (λ b. In b (blocks_of new) vs) (sym last) ∙ ap (λ bs. In (last_block (blocks_of old)) bs vs) (sym rest)
