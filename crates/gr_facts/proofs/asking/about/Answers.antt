use Rattle.std.proofs.Common.{subst, sym}
use Rattle.gr_depend.specs.Logs.{records_of}
use Rattle.gr_depend.specs.Named.{IsNamed}
use Rattle.gr_facts.proofs.AskLemmas.{named_on, not_named}
use Rattle.gr_facts.proofs.asking.about.Goals as goal

pub returns-in-Some : goal.returns-in-Some
returns-in-Some c =
    named_on c.args.machine.now c.args.id.now c.in-Some.place
    (subst {_, _} (λ l. IsNamed (records_of l) c.in-Some.place c.args.id.now) c.log.ensures c.in-Some.ensures.found) c.about_at.result c.about_at.ensures

pub returns-in-None : goal.returns-in-None
returns-in-None c = λ p w s place named.
    not_named p w c.args.machine.now s c.args.id.now place
    (λ here. c.in-None.ensures.missing place (subst {_, _} (λ l. IsNamed (records_of l) place c.args.id.now) (sym c.log.ensures) here)) named
