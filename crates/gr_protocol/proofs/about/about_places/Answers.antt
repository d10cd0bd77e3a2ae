use Rattle.std.proofs.Common.{◌≡◌, ◌∙◌, length, sym, ap, arith}
use Rattle.std.proofs.lemmas.Result.{IfOk-weaker}
use Rattle.gr_protocol.specs.About.{next_place}
use Rattle.gr_protocol.proofs.about.about_places.Goals as goal

pub returns : goal.returns
returns c =
    let count : length c.in_ok-rows.rows.items ≡ c.in_ok-rows.rows.len = omega (arith, c.in_ok-rows.rows.ok.0) in
    let next = c.next_place-next.ensures ∙ ap (next_place c.args.first c.args.last) (c.len.ensures ∙ sym count) in
    let rows = rw (c.saturating_sub-place.ensures, c.rows_between.ensures) at c.in_ok-rows.ensures in
    let value = rw (c.as_slice.ensures.value, next) at c.rows_value.ensures in
    IfOk-weaker c.rows_value.result _ _ (λ v is p w s. record { rows = c.in_ok-rows.rows.items; tells = rows p w s; is = is }) value
