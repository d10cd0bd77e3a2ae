-- The facts that the code tells, as the rules tell them.
use Rattle.std.specs.Prelude.{map, option_map}
use Rattle.gr_record.specs.Records.{operation_of}
use Rattle.gr_facts.specs.declared.telling.Facts as told
use Rattle.gr_facts.specs.declared.moving.Moved as moves
use Rattle.gr_facts.specs.Facts.{Facts}
use Rattle.gr_facts.specs.Moved.{Moved}

abbrev pub facts_in : told.Facts → Facts
facts_in a = record {
  id = a.id;
  kind = a.kind;
  operation = option_map operation_of a.operation;
  prints = a.prints;
  function = option_map (λ name. name.items) a.function;
  line = a.line;
  given = map (λ name. name.items) a.given.items;
  reached = a.reached.items;
  made = a.made;
  sources = a.sources.items;
}

abbrev pub moved_in : moves.Moved → Moved
moved_in a = record { id = a.id; value = a.value; printed = option_map (λ line. line.items) a.printed }
