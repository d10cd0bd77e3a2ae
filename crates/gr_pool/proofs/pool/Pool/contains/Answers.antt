use Rattle.std.proofs.Common.{sym, ◌∙◌, ap}
use Rattle.gr_pool.specs.Goroutines.{Goroutines, is_among}
use Rattle.gr_pool.proofs.Sets.{among_standing, among_missing}
use Rattle.gr_pool.proofs.pool.Pool.contains.Goals as goal

pub returns-in-Ok : goal.returns-in-Ok
returns-in-Ok c =
    let stands = rw (c.as_slice.ensures.keys, c.as_slice-2.ensures.value) at c.in-Ok.ensures.found in
    sym (ap (λ (p : Goroutines). is_among c.args.name.now p.ready) (sym c.self.view_is) ∙ among_standing _ _ _ stands)

pub returns-in-Err : goal.returns-in-Err
returns-in-Err c =
    let belongs = rw (c.as_slice.ensures.keys, c.as_slice-2.ensures.value) at c.in-Err.ensures.missing in
    sym (ap (λ (p : Goroutines). is_among c.args.name.now p.ready) (sym c.self.view_is) ∙ among_missing _ _ _ belongs)
