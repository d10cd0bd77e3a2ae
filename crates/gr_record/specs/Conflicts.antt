-- Which steps conflict, as their records tell it: one of them wrote what the other touched (Bernstein's conditions, 1966).
use Rattle.std.specs.Prelude.{Bool, ◌||◌, List, ◌++◌}
use Rattle.gr_base.specs.declared.objects.Object.{Object}
use Rattle.gr_causal.specs.Machine.{meets}
use Rattle.gr_rules.specs.States.{same}
use Rattle.gr_record.specs.declared.record.Record.{Record}
use Rattle.gr_record.specs.Records.{writes_of, reads_of}

-- the objects that the step of a record wrote, those that it read and did not write, and all that it touched
abbrev pub written_by : Record → List Object
written_by r = writes_of r.id.go r.change

abbrev pub read_by : Record → List Object
read_by r = reads_of r.change

abbrev pub touched_by : Record → List Object
touched_by r = read_by r ++ written_by r

abbrev pub conflict_of : Record → Record → Bool
conflict_of a b = meets same (written_by a) (touched_by b) || meets same (written_by b) (touched_by a)
