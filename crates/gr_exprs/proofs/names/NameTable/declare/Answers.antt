use Rattle.std.proofs.Common.{◌∙◌, ap}
use Rattle.gr_exprs.specs.Tables.{entries_of}
use Rattle.gr_exprs.proofs.Scopes.{entry_inserted}
use Rattle.gr_exprs.proofs.names.NameTable.declare.Goals as goal

pub returns : goal.returns
returns c =
    ap entries_of c.in_ok-insert.ensures.entries ∙ entry_inserted c.args.self.now.numbers.entries c.args.name c.args.number c.requires
