use Rattle.std.proofs.Common.{refl}
use Rattle.gr_tables.proofs.ByNumber.{written_unique, sets_to}
use Rattle.gr_tables.proofs.goroutines.Goroutines.remove.Goals as goal

pub invariant_of-self : goal.invariant_of-self
invariant_of-self c = record { unique = written_unique c.args.self.now.map c.args.number _ c.args.self.now.unique }

pub returns-clause-after : goal.returns-clause-after
returns-clause-after c = sets_to c.args.self.now _ c.args.number c.replace.new.dest _ refl c.replace.ensures.after c.requires
