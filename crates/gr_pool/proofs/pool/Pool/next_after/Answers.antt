use Rattle.std.proofs.Common.{◌<◌, length, sym, subst, ◌∙◌, ap, arith}
use Rattle.std.specs.Prelude.{slice_get, All}
use Rattle.gr_pool.specs.Goroutines.{Goroutines, names_at, next_name}
use Rattle.gr_pool.proofs.Sets.{name_there, none_there, next_of_one}
use Rattle.gr_pool.proofs.pool.Pool.next_after.Goals as goal

pub returns-then-place-len-clause-next : goal.returns-then-place-len-clause-next
returns-then-place-len-clause-next c =
    let next = rw (c.as_slice-2.ensures.keys, c.as_slice-3.ensures.value) at c.next_place-place.ensures in
    c.get_index-then-place-len.ensures.key ∙ ap (slice_get c.self.inside.known.keys) c.index.ensures
    ∙ sym (name_there c.self.inside.known.keys c.self.inside.ready.items c.next_place-place.result c.index.result.now (c.self.invariant.0) (omega arith))
    ∙ next ∙ ap (λ (p : Goroutines). next_name c.args.name.now p.ready) c.self.view_is

pub returns-clause-next : goal.returns-clause-next
returns-clause-next c =
    let next = rw (c.as_slice-2.ensures.keys, c.as_slice-3.ensures.value) at c.next_place-place.ensures in
    sym (none_there c.self.inside.known.keys c.self.inside.ready.items c.next_place-place.result (omega arith)) ∙ next ∙ ap (λ (p : Goroutines). next_name c.args.name.now p.ready) c.self.view_is

pub returns-in-len1-clause-next : goal.returns-in-len1-clause-next
returns-in-len1-clause-next c =
    let known = c.self.inside.known.keys in
    let one = c.as_slice.ensures.value in
    c.get_index.ensures.key
    ∙ next_of_one c.args.name.now known c.as_slice.result.now _ (subst (All (λ place. place < length known)) (sym one) c.self.invariant.0)
    c.in-len1.len_at_least c.in-len1.len_below
    ∙ ap (λ is. next_name c.args.name.now (names_at known is)) one ∙ ap (λ (p : Goroutines). next_name c.args.name.now p.ready) c.self.view_is
