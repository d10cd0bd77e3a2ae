use Rattle.std.proofs.Common.{Some, sym, ap, ◌∙◌}
use Rattle.std.specs.Cmp.Lexicographic.{same_text}
use Rattle.gr_tables.proofs.ByNumber.{key_at}
use Rattle.gr_tables.proofs.goroutines.Goroutines.is_at.Goals as goal

pub returns-in-Some-default-Some-clause-named : goal.returns-in-Some-default-Some-clause-named
returns-in-Some-default-Some-clause-named c is =
    key_at c.args.self.now.map.entries c.args.number c.in-Some-default-Some.known.now c.in-Some-default-Some.field-0-1.now
    (sym c.in-Some-default-Some.ensures.entry)
    ∙ ap Some (same_text c.in-Some-default-Some.known.now c.args.name.now (sym is ∙ c.eq.ensures))
