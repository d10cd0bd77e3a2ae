-- The table of functions finds the first one with a name.
use Rattle.std.proofs.lemmas.Bool.{cases_Bool}
use Rattle.std.proofs.Common.{◌≡◌, ℕ, zero, suc, ◌+◌, true, false, List, [], ◌∷◌, ◌++◌, length, get_or, ◌<◌, ◌≤◌, refl, ap, sym, ◌∙◌, subst, true≢false, arith, inl, inr, nat_eq}
use Rattle.std.specs.Prelude.{Option, Some, None, if◌then◌else◌}
use Rattle.std.specs.Slice.{IsItemAt}
use Rattle.std.proofs.Common.{Bor}
use Rattle.gr_tree.specs.Statements.{optional}
use Rattle.std.specs.Cmp.Lexicographic.{pointwise, bytes_decides}
use Rattle.gr_exprs.specs.declared.types.Signature as code
use Rattle.gr_typing.specs.Names.{is_blank}
use Rattle.gr_typing.specs.Scopes.{Block, in_block, first_of, Signature, Sign, has_name, next_number, function_in, signature}
use Rattle.gr_exprs.specs.Signatures.{sign_of, signs_of}
use Rattle.gr_exprs.specs.Tables.{Finds}
use Rattle.gr_exprs.specs.FunctionNumbers.{if_new, with_function}
use Rattle.gr_exprs.proofs.Scopes.{first_none}

abbrev pub name_of : Signature → List ℕ
name_of (Sign name parameters result) = name

pub has_other : (f : Signature) (x : List ℕ) → pointwise nat_eq (name_of f) x ≡ false → has_name f x ≡ false
has_other (Sign name parameters result) x e = rw e refl

pub has_own : (f : Signature) → is_blank (name_of f) ≡ false → has_name f (name_of f) ≡ true
has_own (Sign name parameters result) e = rw ((bytes_decides name name).1 refl, e) refl

pub has_blank : (f : Signature) (x : List ℕ) → is_blank x ≡ true → has_name f x ≡ false
has_blank (Sign name parameters result) x e = elim (cases_Bool (pointwise nat_eq name x)) [ inl t ↦ rw (t, e) refl | inr f ↦ rw f refl ]

pub block_push : (b : Block) (y : List ℕ) (n : ℕ) (x : List ℕ) → in_block (b ++ ((y, n) ∷ [])) x ≡ first_of (in_block b x) (in_block ((y, n) ∷ []) x)
block_push [] y n x = refl
block_push (e ∷ b) y n x = elim (cases_Bool (pointwise nat_eq x e.0)) [ inl t ↦ rw t refl | inr f ↦ rw f (block_push b y n x) ]

pub other_way : (x y : List ℕ) → pointwise nat_eq y x ≡ false → pointwise nat_eq x y ≡ false
other_way x y e = elim (cases_Bool (pointwise nat_eq x y)) [
  | inl t ↦ absurd (true≢false (sym ((bytes_decides y x).1 (sym ((bytes_decides x y).0 t))) ∙ e))
  | inr f ↦ f
]

-- a function after others
last_found : (n : ℕ) (o : Option ℕ) (f : Signature) (x : List ℕ) → next_number (first_of o (if has_name f x then Some n else None)) ≡ first_of (next_number o) (if has_name f x then Some (suc n) else None)
last_found n (Some k) f x = refl
last_found n None f x = elim (cases_Bool (has_name f x)) [
  | inl t ↦ let one : n + 1 ≡ suc n = omega arith in rw t (ap Some one)
  | inr f ↦ rw f refl
]

pub function_push : (fs : List Signature) (f : Signature) (x : List ℕ) → function_in (fs ++ (f ∷ [])) x ≡ first_of (function_in fs x) (if has_name f x then Some (length fs) else None)
function_push [] f x = refl
function_push (g ∷ fs) f x = elim (cases_Bool (has_name g x)) [
  | inl t ↦ rw t refl
  | inr e ↦ rw e (ap next_number (function_push fs f x) ∙ last_found (length fs) (function_in fs x) f x)
]

-- the table with a function
other_found : (b : Block) (y x : List ℕ) (n : ℕ) (o : Option ℕ) → pointwise nat_eq y x ≡ false → in_block (if_new b y n o) x ≡ in_block b x
other_found b y x n (Some k) e = refl
other_found b y x n None e =
    let alone : in_block ((y, n) ∷ []) x ≡ None = rw (other_way x y e) refl in
    block_push b y n x ∙ ap (first_of (in_block b x)) alone ∙ first_none (in_block b x)

own_found : (b : Block) (y : List ℕ) (n : ℕ) (o : Option ℕ) → in_block b y ≡ o → in_block (if_new b y n o) y ≡ first_of o (Some n)
own_found b y n (Some k) e = e
own_found b y n None e = block_push b y n y ∙ rw (e, (bytes_decides y y).1 refl) refl

found_here : (b : Block) (fs : List Signature) (f : Signature) → is_blank (name_of f) ≡ false → Finds b fs → in_block (if_new b (name_of f) (length fs) (in_block b (name_of f))) (name_of f) ≡ function_in (fs ++ (f ∷ [])) (name_of f)
found_here b fs f named finds =
    let y = name_of f in
    own_found b y (length fs) (in_block b y) refl ∙ ap (λ o. first_of o (Some (length fs))) (finds y)
    ∙ sym (function_push fs f y ∙ rw (has_own f named) refl)

found_there : (b : Block) (fs : List Signature) (f : Signature) (x : List ℕ) → has_name f x ≡ false → Finds b fs → in_block b x ≡ function_in (fs ++ (f ∷ [])) x
found_there b fs f x e finds = finds x ∙ sym (function_push fs f x ∙ rw e (first_none (function_in fs x)))

blank_found : (b : Block) (fs : List Signature) (f : Signature) (x : List ℕ) → is_blank (name_of f) ≡ true → Finds b fs → in_block b x ≡ function_in (fs ++ (f ∷ [])) x
blank_found b fs f x e finds = elim (cases_Bool (pointwise nat_eq (name_of f) x)) [
  | inl t ↦ found_there b fs f x (has_blank f x (ap is_blank (sym ((bytes_decides (name_of f) x).0 t)) ∙ e)) finds
  | inr o ↦ found_there b fs f x (has_other f x o) finds
]

named_found : (b : Block) (fs : List Signature) (f : Signature) (x : List ℕ) → is_blank (name_of f) ≡ false → Finds b fs → in_block (if_new b (name_of f) (length fs) (in_block b (name_of f))) x ≡ function_in (fs ++ (f ∷ [])) x
named_found b fs f x e finds = elim (cases_Bool (pointwise nat_eq (name_of f) x)) [
  | inl t ↦ subst (λ x. in_block (if_new b (name_of f) (length fs) (in_block b (name_of f))) x ≡ function_in (fs ++ (f ∷ [])) x) ((bytes_decides (name_of f) x).0 t) (found_here b fs f e finds)
  | inr o ↦ other_found b (name_of f) x (length fs) (in_block b (name_of f)) o ∙ found_there b fs f x (has_other f x o) finds
]

finds_with : (b : Block) (fs : List Signature) (f : Signature) → Finds b fs → Finds (with_function b (name_of f) (length fs)) (fs ++ (f ∷ []))
finds_with b fs f finds x = elim (cases_Bool (is_blank (name_of f))) [
  | inl t ↦ rw t (blank_found b fs f x t finds)
  | inr e ↦ rw e (named_found b fs f x e finds)
]

pub signs_push : (ss : List code.Signature) (s : code.Signature) → signs_of (ss ++ (s ∷ [])) ≡ signs_of ss ++ (sign_of s ∷ [])
signs_push [] s = refl
signs_push (u ∷ ss) s = ap (λ l. sign_of u ∷ l) (signs_push ss s)

signs_length : (ss : List code.Signature) → length (signs_of ss) ≡ length ss
signs_length [] = refl
signs_length (s ∷ ss) = ap suc (signs_length ss)

pub finds_more : (b new : Block) (old all : List code.Signature) (s : code.Signature) (n : ℕ) → Finds b (signs_of old) → n ≡ length old → new ≡ with_function b s.name.items n → all ≡ old ++ (s ∷ []) → Finds new (signs_of all)
finds_more b new old all s n finds long e f x =
    ap (λ b. in_block b x) (e ∙ ap (with_function b s.name.items) (long ∙ sym (signs_length old)))
    ∙ finds_with b (signs_of old) (sign_of s) finds x
    ∙ sym (ap (λ l. function_in l x) (ap signs_of f ∙ signs_push old s))

-- the signature with a number
sign_at : (ss : List code.Signature) (k : ℕ) (s : code.Signature) → k < length ss → s ≡ get_or ss k s → Some (sign_of s) ≡ signature (signs_of ss) k
sign_at [] k s lt e = absurd (omega arith)
sign_at (u ∷ ss) zero s lt e = ap (λ w. Some (sign_of w)) e
sign_at (u ∷ ss) (suc k) s lt e = sign_at ss k s (omega arith) e

sign_past : (ss : List code.Signature) (k : ℕ) → length ss ≤ k → None ≡ signature (signs_of ss) k
sign_past [] k le = refl
sign_past (u ∷ ss) zero le = absurd (omega arith)
sign_past (u ∷ ss) (suc k) le = sign_past ss k (omega arith)

pub signature_is : (ss : List code.Signature) (k : ℕ) (r : Option (Bor code.Signature)) → IsItemAt ss k r → optional (λ s. sign_of s.now) r ≡ signature (signs_of ss) k
signature_is ss k (Some s) h = sign_at ss k s.now h.3.0 h.1
signature_is ss k None h = sign_past ss k h.3
