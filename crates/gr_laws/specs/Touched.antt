-- The objects that a step touched, each once: those that it wrote, and those that it read and did not write.
use Rattle.std.specs.Prelude.{◌↔◌, List, [], ◌∷◌, ◌++◌, if◌then◌else◌}
use Rattle.std.specs.List.{list_any}
use Rattle.gr_base.specs.declared.objects.Object.{Object}
use Rattle.gr_causal.specs.Rules.{Note}
use Rattle.gr_causal.specs.Sequences.{In, Distinct}
use Rattle.gr_rules.specs.Attempts.{Report}
use Rattle.gr_rules.specs.States.{same}
use Rattle.gr_rules.specs.Touches.{Touches}

-- the lists have the objects of the table's row, none twice; what is written is not told as read
pub record AreTouched (row : Touches) (reads writes : List Object) : Type 0 where
  pub written : (o : Object) → In o writes ↔ In o row.writes
  pub read : (o : Object) → In o reads ↔ (In o row.reads × ¬ In o row.writes)
  pub once : Distinct (reads ++ writes)

-- the lists have the objects that the note of a step has
pub record TellTouches (reads writes : List Object) (n : Note Object Report) : Type 0 where
  pub written : (o : Object) → In o writes ↔ In o n.writes
  pub touched : (o : Object) → In o (reads ++ writes) ↔ In o (n.reads ++ n.writes)

-- these objects, each once, but for those that were seen
abbrev pub each_once : List Object → List Object → List Object
each_once seen [] = []
each_once seen (o ∷ os) = if list_any (same o) seen then each_once seen os else o ∷ each_once (o ∷ seen) os

-- what a step read and did not write
abbrev pub read_only : Note Object Report → List Object
read_only n = each_once n.writes n.reads
