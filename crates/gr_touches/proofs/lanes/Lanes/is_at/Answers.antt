use Rattle.std.proofs.Common.{◌≡◌, true, false, sym}
use Rattle.gr_touches.proofs.LaneLemmas.{is_key_at, no_key_at}
use Rattle.gr_touches.proofs.lanes.Lanes.is_at.Goals as goal

pub returns-in-Some : goal.returns-in-Some
returns-in-Some g c =
    is_key_at c.args.self.now.map.entries c.args.number c.in-Some.key.now c.in-Some.field-0-1.now (g.N.Named.object c.args.object.now) c.names.result
    (sym c.in-Some.ensures.entry) c.names.ensures

pub returns-in-None : goal.returns-in-None
returns-in-None g c = (λ t. absurd (let no : false ≡ true = t in cc), λ t. no_key_at c.args.self.now.map.entries c.args.number _ c.in-None.ensures.entry t)
