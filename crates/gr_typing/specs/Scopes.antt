-- Names and their scopes (Go: Declarations and scope, Blocks, Blank identifier, Predeclared identifiers).
use Rattle.std.specs.Prelude.{ℕ, zero, suc, ◌+◌, Bool, true, not, ◌&&◌, List, [], ◌∷◌, ◌++◌, length, Option, Some, None, if◌then◌else◌, is_some, nat_eq}
use Rattle.std.specs.Cmp.Lexicographic.{pointwise}
use Rattle.std.specs.List.{list_all}
use Rattle.gr_program.specs.Types.{Ty}
use Rattle.gr_program.specs.Programs.{Declared, Named}
use Rattle.gr_typing.specs.Names.{predeclared, among, is_blank, are_distinct}

-- the names that a block declares, each with its variable's number
abbrev pub Block : Type 0
Block = List (List ℕ × ℕ)

-- the block of a place, the blocks around it with the nearest last, and the variables of the function so far, by their numbers
pub data Scope : Type 0 where
  In : (here : Block) (around : List Block) (variables : List Declared) → Scope

-- what a block says of a name, and what blocks say, the last one first
abbrev pub in_block : Block → List ℕ → Option ℕ
in_block [] x = None
in_block (entry ∷ block) x = if pointwise nat_eq x entry.0 then Some entry.1 else in_block block x

abbrev pub first_of : Option ℕ → Option ℕ → Option ℕ
first_of (Some k) other = Some k
first_of None other = other

abbrev pub in_blocks : List Block → List ℕ → Option ℕ
in_blocks [] x = None
in_blocks (block ∷ blocks) x = first_of (in_blocks blocks x) (in_block block x)

-- the variable with a number
abbrev pub numbered : List Declared → ℕ → Option Declared
numbered [] k = None
numbered (v ∷ vs) zero = Some v
numbered (v ∷ vs) (suc k) = numbered vs k

-- the variable that a name stands for
abbrev pub variable_named : Scope → List ℕ → Option ℕ
variable_named (In here around variables) x = first_of (in_block here x) (in_blocks around x)

abbrev pub type_of : Option Declared → Option Ty
type_of (Some (Named name type)) = Some type
type_of None = None

-- the type of the variable with a number
abbrev pub type_of_variable : Scope → ℕ → Option Ty
type_of_variable (In here around variables) k = type_of (numbered variables k)

-- the variables by their numbers
abbrev pub variables_in : Scope → List Declared
variables_in (In here around variables) = variables

-- whether the block itself declares a name
abbrev pub is_here : Scope → List ℕ → Bool
is_here (In here around variables) x = is_some (in_block here x)

-- a declaration: the variable gets the next number
abbrev pub declare : Scope → List ℕ → Ty → Scope
declare (In here around variables) x t = In (here ++ ((x, length variables) ∷ [])) around (variables ++ (Named x t ∷ []))

-- into a block
abbrev pub entered : Scope → Scope
entered (In here around variables) = In [] (around ++ (here ∷ [])) variables

-- the last block, and those before it
abbrev pub last_block : List Block → Block
last_block [] = []
last_block (block ∷ []) = block
last_block (block ∷ (next ∷ blocks)) = last_block (next ∷ blocks)

abbrev pub but_last : List Block → List Block
but_last [] = []
but_last (block ∷ []) = []
but_last (block ∷ (next ∷ blocks)) = block ∷ but_last (next ∷ blocks)

-- out of a block: its names are forgotten, its variables keep their numbers
abbrev pub left : Scope → Scope
left (In here around variables) = In (last_block around) (but_last around) variables

-- a function that calls may name, with its parameters' types and its result
pub data Signature : Type 0 where
  Sign : (name : List ℕ) (parameters : List Ty) (result : Option Ty) → Signature

abbrev pub has_name : Signature → List ℕ → Bool
has_name (Sign name parameters result) x = pointwise nat_eq name x && not (is_blank x)

abbrev pub next_number : Option ℕ → Option ℕ
next_number (Some k) = Some (k + 1)
next_number None = None

-- the number of the first function with this name; the blank identifier names none
abbrev pub function_in : List Signature → List ℕ → Option ℕ
function_in [] x = None
function_in (f ∷ fs) x = if has_name f x then Some 0 else next_number (function_in fs x)

abbrev pub signature : List Signature → ℕ → Option Signature
signature [] k = None
signature (f ∷ fs) zero = Some f
signature (f ∷ fs) (suc k) = signature fs k

-- whether names may be declared together: none twice, none predeclared (the blank identifier is no declaration)
abbrev pub may_name : List (List ℕ) → Bool
may_name names = are_distinct [] names && list_all (λ x. not (among predeclared x)) names

-- a declaration of a name with a type; the blank identifier declares nothing
abbrev pub declared : Scope → List ℕ → Ty → Scope
declared s x t = if is_blank x then s else declare s x t

abbrev pub number_of : Scope → List ℕ → Option ℕ
number_of s x = if is_blank x then None else variable_named s x

-- a name on the left of `:=` that declares nothing new
abbrev pub is_old : Scope → List ℕ → Bool
is_old s x = if is_blank x then true else is_here s x

-- a name that the block doesn't declare
abbrev pub is_free : Scope → List ℕ → Bool
is_free s x = if is_blank x then true else not (is_here s x)

-- the number of the first for which the test holds
abbrev pub first_where : {A : Type 0} → (A → Bool) → List A → Option ℕ
first_where holds [] = None
first_where holds (a ∷ around) = if holds a then Some 0 else next_number (first_where holds around)
