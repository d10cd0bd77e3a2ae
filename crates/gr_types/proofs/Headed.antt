-- Headings that fit one after the other are those of functions that may stand together.
use Rattle.std.proofs.lemmas.Bool.{cases_Bool}
use Rattle.std.proofs.Common.{◌≡◌, ℕ, Bool, true, false, List, [], ◌∷◌, ◌++◌, refl, ap, sym, ◌∙◌, inl, inr, append_assoc, append-nil}
use Rattle.std.specs.Prelude.{Option, Some, None, ◌&&◌}
use Rattle.gr_scan.specs.declared.token.Place.{Place}
use Rattle.gr_tree.specs.Exprs.{WrittenType}
use Rattle.gr_tree.specs.Statements.{Statements}
use Rattle.gr_tree.specs.Files as files
use Rattle.gr_tree.specs.Files.{Group}
use Rattle.gr_program.specs.Types.{Ty}
use Rattle.gr_typing.specs.Scopes.{Signature, Sign, may_name}
use Rattle.gr_typing.specs.FileChecks.{parameter_names}
use Rattle.gr_exprs.specs.Finding.{◌>>=◌, where_true}
use Rattle.gr_types.specs.FindingStatements.{written_of}
use Rattle.gr_types.specs.FindingFiles.{types_in, signature_in, signatures_in}
use Rattle.gr_types.specs.Outlines.{none_taken, take_groups, Outline, OutlineOf, name_fits, fits_main, Headed, headed, heading_in, headings_in}
use Rattle.gr_types.proofs.TakenGroups.{groups_are, made}

-- one heading
abbrev pub outlined : files.Function → Signature → Outline
outlined (files.FunctionOf place name groups w body closing) (Sign y ts result) =
    OutlineOf (files.FunctionOf place name groups w body closing) (made groups ts).0 result (made groups ts).1

abbrev pub with_outline : files.Function → Signature → Headed
with_outline f g = (g, outlined f g)

abbrev pub fits : List Signature → Signature → Bool
fits known (Sign name ts result) = name_fits known name && fits_main (Sign name ts result)

abbrev heading_by : List Signature → files.Function → List Group → List ℕ → (o : Option (List Ty)) (v : Option (Option Ty)) (may : Bool) → Option Headed
heading_by known f groups name o v may = (o >>= λ ts. v >>= λ r. where_true may (Sign name ts r)) >>= λ g. where_true (fits known g) (with_outline f g)

unnamed : (known : List Signature) (f : files.Function) (groups : List Group) (name : List ℕ) (o : Option (List Ty)) (v : Option (Option Ty)) (may : Bool) → name_fits known name ≡ false → None ≡ heading_by known f groups name o v may
unnamed known f groups name None v may e = refl
unnamed known f groups name (Some ts) None may e = refl
unnamed known f groups name (Some ts) (Some r) false e = refl
unnamed known f groups name (Some ts) (Some r) true e = ap (λ b. where_true (b && fits_main (Sign name ts r)) (with_outline f (Sign name ts r))) (sym e)

named : (known : List Signature) (place closing : Place) (groups : List Group) (name : List ℕ) (w : Option WrittenType) (body : Statements) (o : Option (List Ty)) (v : Option (Option Ty)) (may : Bool) → name_fits known name ≡ true
    → ((o >>= λ ts. where_true may (ts, made groups ts)) >>= λ p. v >>= headed (files.FunctionOf place name groups w body closing) name p) ≡ heading_by known (files.FunctionOf place name groups w body closing) groups name o v may
named known place closing groups name w body None v may e = refl
named known place closing groups name w body (Some ts) None true e = refl
named known place closing groups name w body (Some ts) None false e = refl
named known place closing groups name w body (Some ts) (Some r) false e = refl
named known place closing groups name w body (Some ts) (Some r) true e =
    let f = files.FunctionOf place name groups w body closing in
    ap (λ b. where_true (b && fits_main (Sign name ts r)) (with_outline f (Sign name ts r))) (sym e)

heading_is : (known : List Signature) (f : files.Function) → heading_in known f ≡ (signature_in f >>= λ g. where_true (fits known g) (with_outline f g))
unfolding heading_in signature_in
heading_is known (files.FunctionOf place name groups w body closing) =
    let f = files.FunctionOf place name groups w body closing in
    let v = written_of w in
    let may = may_name (parameter_names groups) in
    elim (cases_Bool (name_fits known name)) [
      | inl t ↦
          ap (λ b. where_true b groups >>= λ gs. take_groups none_taken gs >>= λ p. v >>= headed f name p) t
          ∙ ap (λ o. o >>= λ p. v >>= headed f name p) (groups_are groups) ∙ named known place closing groups name w body (types_in groups) v may t
      | inr e ↦
          ap (λ b. where_true b groups >>= λ gs. take_groups none_taken gs >>= λ p. v >>= headed f name p) e
          ∙ unnamed known f groups name (types_in groups) v may e
    ]

-- all headings
abbrev pub outlined_all : List files.Function → List Signature → List Outline
outlined_all [] own = []
outlined_all (f ∷ others) [] = []
outlined_all (f ∷ others) (g ∷ own) = outlined f g ∷ outlined_all others own

abbrev pub all_fit : List Signature → List Signature → Bool
all_fit known [] = true
all_fit known (g ∷ gs) = fits known g && all_fit (known ++ (g ∷ [])) gs

abbrev Listed : Type 0
Listed = List Signature × List Outline

abbrev listed : List Signature → List Outline → List files.Function → List Signature → Option Listed
listed known os fs gs = where_true (all_fit known gs) (known ++ gs, os ++ outlined_all fs gs)

by_signature : (known : List Signature) (os : List Outline) (f : files.Function) (others : List files.Function) (g : Signature) (o : Option (List Signature)) (b : Bool) → fits known g ≡ b
    → headings_in (known ++ (g ∷ [])) (os ++ (outlined f g ∷ [])) others ≡ (o >>= listed (known ++ (g ∷ [])) (os ++ (outlined f g ∷ [])) others)
    → (where_true (fits known g) (with_outline f g) >>= λ h. headings_in (known ++ (h.0 ∷ [])) (os ++ (h.1 ∷ [])) others) ≡ ((o >>= λ gs. Some (g ∷ gs)) >>= listed known os (f ∷ others))
by_signature known os f others g None false e h = ap (λ b. where_true b (with_outline f g) >>= λ h. headings_in (known ++ (h.0 ∷ [])) (os ++ (h.1 ∷ [])) others) e
by_signature known os f others g None true e h = ap (λ b. where_true b (with_outline f g) >>= λ h. headings_in (known ++ (h.0 ∷ [])) (os ++ (h.1 ∷ [])) others) e ∙ h
by_signature known os f others g (Some gs) false e h =
    ap (λ b. where_true b (with_outline f g) >>= λ h. headings_in (known ++ (h.0 ∷ [])) (os ++ (h.1 ∷ [])) others) e
    ∙ sym (ap (λ b. where_true (b && all_fit (known ++ (g ∷ [])) gs) (known ++ (g ∷ gs), os ++ (outlined f g ∷ outlined_all others gs))) e)
by_signature known os f others g (Some gs) true e h =
    let rest = all_fit (known ++ (g ∷ [])) gs in
    ap (λ b. where_true b (with_outline f g) >>= λ h. headings_in (known ++ (h.0 ∷ [])) (os ++ (h.1 ∷ [])) others) e ∙ h
    ∙ ap (λ l. where_true rest (l, (os ++ (outlined f g ∷ [])) ++ outlined_all others gs)) (append_assoc known (g ∷ []) gs)
    ∙ ap (λ l. where_true rest (known ++ (g ∷ gs), l)) (append_assoc os (outlined f g ∷ []) (outlined_all others gs))
    ∙ sym (ap (λ b. where_true (b && rest) (known ++ (g ∷ gs), os ++ (outlined f g ∷ outlined_all others gs))) e)

by_first : (known : List Signature) (os : List Outline) (f : files.Function) (others : List files.Function) (s : Option Signature) (o : Option (List Signature))
    → ((known : List Signature) (os : List Outline) → headings_in known os others ≡ (o >>= listed known os others))
    → ((s >>= λ g. where_true (fits known g) (with_outline f g)) >>= λ h. headings_in (known ++ (h.0 ∷ [])) (os ++ (h.1 ∷ [])) others) ≡ ((s >>= λ g. o >>= λ gs. Some (g ∷ gs)) >>= listed known os (f ∷ others))
by_first known os f others None o h = refl
by_first known os f others (Some g) o h = by_signature known os f others g o (fits known g) refl (h (known ++ (g ∷ [])) (os ++ (outlined f g ∷ [])))

pub headings_are : (fs : List files.Function) (known : List Signature) (os : List Outline) → headings_in known os fs ≡ (signatures_in fs >>= listed known os fs)
unfolding headings_in signatures_in
headings_are [] known os = rw (append-nil known, append-nil os) refl
headings_are (f ∷ others) known os =
    ap (λ o. o >>= λ h. headings_in (known ++ (h.0 ∷ [])) (os ++ (h.1 ∷ [])) others) (heading_is known f)
    ∙ by_first known os f others (signature_in f) (signatures_in others) (headings_are others)
