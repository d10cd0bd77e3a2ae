-- An order of the log that is refused.
use Rattle.std.specs.Prelude.{◌≡◌, ℕ, List, []}
use Rattle.gr_step.specs.Record.{Record}
use Rattle.gr_depend.specs.Named.{IsNamed}
use Rattle.gr_rollback.specs.declared.refusal.BackRefused.{BackRefused}
use Rattle.gr_rollback.specs.declared.refusal.BackRefused.TheVariants.{BreaksDependence, NoMemory}

-- the refusal names the steps at two places; or there was no memory for their names
abbrev pub NamesPair : List Record → ℕ → ℕ → BackRefused → Type 0
NamesPair rs earlier later (BreaksDependence first second) = IsNamed rs earlier first × IsNamed rs later second
NamesPair rs earlier later (NoMemory ids) = ids.items ≡ []
NamesPair rs earlier later _ = ⊥
