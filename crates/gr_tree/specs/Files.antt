-- Functions and files, without where they lie in memory.
use Rattle.std.specs.Prelude.{ℕ, max, List, [], ◌∷◌, Option}
use Rattle.gr_scan.specs.declared.token.Place.{Place}
use Rattle.gr_tree.specs.declared.file.Group as code_group
use Rattle.gr_tree.specs.declared.file.Func as code_func
use Rattle.gr_tree.specs.declared.file.File.{File}
use Rattle.gr_tree.specs.Exprs.{WrittenType, type_height, type_of, names_of}
use Rattle.gr_tree.specs.Statements.{Statements, body_height, part_height, statements_of, optional}

-- parameters of one type
pub data Group : Type 0 where
  GroupOf : (names : List (List ℕ)) (type : WrittenType) → Group

-- a function: where `func` stands, its name, its parameters, its result, its body, and where its closing brace stands
pub data Function : Type 0 where
  FunctionOf : (place : Place) (name : List ℕ) (parameters : List Group) (result : Option WrittenType)
      (body : Statements) (closing : Place) → Function

-- a file: where `package` stands, its name, and its functions
pub data FileTree : Type 0 where
  FileOf : (place : Place) (package_name : List ℕ) (functions : List Function) → FileTree

-- the highest type of the parameters
abbrev pub groups_height : List Group → ℕ
groups_height [] = 0
groups_height (GroupOf names type ∷ rest) = max (type_height type) (groups_height rest)

-- a file, a function and its body add no level
abbrev pub function_height : Function → ℕ
function_height (FunctionOf place name parameters result body closing) =
    max (groups_height parameters) (max (part_height type_height result) (body_height body))

abbrev pub functions_height : List Function → ℕ
functions_height [] = 0
functions_height (f ∷ fs) = max (function_height f) (functions_height fs)

abbrev pub file_height : FileTree → ℕ
file_height (FileOf place name functions) = functions_height functions

-- The pure trees of the code's.
abbrev pub groups_of : List code_group.Group → List Group
groups_of [] = []
groups_of (g ∷ gs) = GroupOf (names_of g.names.items) (type_of g.type_tree) ∷ groups_of gs

abbrev pub function_of : code_func.Func → Function
function_of f = FunctionOf f.place f.name.items (groups_of f.parameters.items) (optional type_of f.result) (statements_of f.body.items) f.end

abbrev pub functions_of : List code_func.Func → List Function
functions_of [] = []
functions_of (f ∷ fs) = function_of f ∷ functions_of fs

abbrev pub file_of : File → FileTree
file_of f = FileOf f.place f.package.items (functions_of f.funcs.items)
