-- Names that are declared one after another.
use Rattle.std.proofs.lemmas.Bool.{cases_Bool}
use Rattle.std.proofs.Common.{◌≡◌, ℕ, true, false, List, [], ◌∷◌, ◌++◌, length, refl, sym, true≢false, inl, inr, nat_eq}
use Rattle.std.specs.Prelude.{Option, Some, None, is_some}
use Rattle.std.specs.Cmp.Lexicographic.{pointwise}
use Rattle.gr_program.specs.Types.{Ty}
use Rattle.gr_typing.specs.Names.{is_blank}
use Rattle.gr_typing.specs.Scopes.{Block, Scope, In, in_block, in_blocks, first_of, variable_named, declare, declared, number_of}
use Rattle.gr_exprs.specs.Finding.{◌>>=◌}
use Rattle.gr_exprs.proofs.Basics.{same_name}

-- a name that was declared stands for a variable
in_pushed : (here : Block) (x : List ℕ) (n : ℕ) → is_some (in_block (here ++ ((x, n) ∷ [])) x) ≡ true
in_pushed [] x n = rw (same_name x) refl
in_pushed (e ∷ here) x n = elim (cases_Bool (pointwise nat_eq x e.0)) [
  | inl t ↦ rw t refl
  | inr f ↦ rw f (in_pushed here x n)
]

first_some : (a b : Option ℕ) → is_some a ≡ true → is_some (first_of a b) ≡ true
first_some (Some k) b e = refl
first_some None b e = absurd (true≢false (sym e))

declared_named : (m : Scope) (x : List ℕ) (t : Ty) → is_some (variable_named (declare m x t) x) ≡ true
declared_named (In here around variables) x t = first_some (in_block (here ++ ((x, length variables) ∷ [])) x) (in_blocks around x) (in_pushed here x (length variables))

some_named : {A : Type 0} (o : Option ℕ) (make : Option ℕ → A) → is_some o ≡ true → (o >>= λ k. Some (make (Some k))) ≡ Some (make o)
some_named (Some k) make e = refl
some_named None make e = absurd (true≢false (sym e))

pub named_after : {A : Type 0} (m : Scope) (x : List ℕ) (t : Ty) (make : Option ℕ → Scope → A) → is_blank x ≡ false → (variable_named (declare m x t) x >>= λ k. Some (make (Some k) (declare m x t))) ≡ Some (make (number_of (declared m x t) x) (declared m x t))
named_after m x t make b = rw b (some_named (variable_named (declare m x t) x) (λ k. make k (declare m x t)) (declared_named m x t))

-- variables before others
abbrev pub placed : List (Option ℕ) → List (Option ℕ) × Scope → List (Option ℕ) × Scope
placed ks rest = (ks ++ rest.0, rest.1)
