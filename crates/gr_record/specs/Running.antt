-- What is asked of contents: that a run of a checked program leads to them.
use Rattle.gr_tree.specs.Files.{FileTree}
use Rattle.gr_program.specs.Programs.{Program}
use Rattle.gr_typing.specs.FileChecks.{ProgramOf}
use Rattle.gr_laws.specs.Reached.{Reached}
use Rattle.gr_refine.specs.Contents.{Contents}
use Rattle.gr_refine.specs.Standing.{ContentsStand}
use Rattle.gr_lower.specs.Lowered.{lowered, meaning}
use Rattle.gr_record.specs.Listings.{state_in}

-- the program of a file that meets the rules of the language
pub record IsChecked (p : Program) : Type 0 where
  pub file : FileTree
  pub checked : ProgramOf file p

-- contents to which some run of a checked program leads, in frames of its code
pub record Running (p : Program) (s : Contents) : Type 0 where
  pub program : IsChecked p
  pub reached : Reached p (state_in p s)
  pub stand : ContentsStand (meaning p) (lowered p) s
