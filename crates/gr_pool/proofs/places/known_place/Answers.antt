use Rattle.std.proofs.Common.{◌∙◌, sym, ap}
use Rattle.std.specs.Prelude.{option_copied}
use Rattle.gr_pool.proofs.Sets.{known_here, known_found}
use Rattle.gr_pool.proofs.places.known_place.Goals as goal

pub returns-then-eq : goal.returns-then-eq
returns-then-eq c = known_here _ _ _ _ (sym c.get_index.ensures.key ∙ ap option_copied c.in-Some.is) (sym c.eq.ensures ∙ c.if-eq.true)

pub returns : goal.returns
returns c = known_found _ _ _ (sym c.get_index_of.ensures.index ∙ c.unwrap.ensures)
