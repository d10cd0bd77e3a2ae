use Rattle.std.proofs.Common.{◌^◌, arith, ap, ◌∙◌, drop}
use Rattle.std.proofs.lemmas.Bool.{false≢true}
use Rattle.gr_channels.specs.Changes.{need}
use Rattle.gr_tables.specs.NamedChannels.{minus, frees}
use Rattle.gr_tables.specs.Places.{room_of}
use Rattle.gr_tables.proofs.SuffixLemmas.{needed_sum, freed_sum}
use Rattle.gr_tables.proofs.channels.places.room_to_go_back.Goals as goal

pub returns-in_err-needed-clause-fits : goal.returns-in_err-needed-clause-fits
returns-in_err-needed-clause-fits c = λ w.
    let e = c.index-undos-place.result in
    let missing = c.minus.ensures ∙ ap (λ r. minus r (room_of c.loop-place.freed)) c.needed_by-need.ensures
    ∙ ap (minus (need e.1)) c.loop-place.invariant.freed in
    absurd (false≢true (c.in_err-needed.ensures.fits
    (needed_sum c.args.undos.now c.args.from c.loop-place.place e c.args.name.now (room_of c.loop-place.needed) (room_of c.minus.result) _
    c.loop-place-test.true c.loop-place.invariant.within c.index-undos-place.is c.if-eq.ensures c.loop-place.invariant.needed missing w)))

pub returns-in_err-freed-clause-fits : goal.returns-in_err-freed-clause-fits
returns-in_err-freed-clause-fits c = λ w.
    let e = c.index-undos-place.result in
    let left = c.minus-then-eq.ensures ∙ ap (λ r. minus r (room_of c.needed_by-need.result)) c.loop-place.invariant.freed
    ∙ ap (minus (frees (drop c.loop-place.place c.args.undos.now) c.args.name.now)) c.needed_by-need.ensures in
    absurd (false≢true (c.in_err-freed.ensures.fits
    (freed_sum c.args.undos.now c.loop-place.place (2 ^ 64) e c.args.name.now (room_of c.freed_by.result) (room_of c.minus-then-eq.result)
    (omega arith) c.loop-place.invariant.within c.loop-place.invariant.small c.index-undos-place.is c.if-eq.ensures c.freed_by.ensures left)))
