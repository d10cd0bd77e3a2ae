-- The program of a text.
use Rattle.std.proofs.Common.{◌≡◌, ℕ, List, subst}
use Rattle.gr_program.specs.Programs.{Program}
use Rattle.gr_scan.specs.Scan.{IsScan}
use Rattle.gr_scan.specs.Tokens.{Tok}
use Rattle.gr_session.specs.Source.{IsProgramOf}
use Rattle.gr_syntax.specs.FileGrammar.{SpellsFile}
use Rattle.gr_tree.specs.Files.{FileTree}
use Rattle.gr_typing.specs.FileChecks.{ProgramOf}

-- a text has one program, since it has one list of tokens, they have one tree, and it has one program
pub one_program_of : ((text : List ℕ) (a b : List Tok) → IsScan text a → IsScan text b → a ≡ b)
    → ((f g : FileTree) (ts : List Tok) → SpellsFile f ts → SpellsFile g ts → f ≡ g)
    → ((f : FileTree) (p q : Program) → ProgramOf f p → ProgramOf f q → p ≡ q)
    → (text : List ℕ) (p q : Program) → IsProgramOf text p → IsProgramOf text q → p ≡ q
one_program_of one_list one_tree one_program text p q a b =
    let tokens = one_list text a.tokens b.tokens a.scanned b.scanned in
    let tree = one_tree a.tree b.tree b.tokens (subst (SpellsFile a.tree) tokens a.parsed.spelled) b.parsed.spelled in
    one_program b.tree p q (subst (λ f. ProgramOf f p) tree a.rules) b.rules
