use Rattle.std.proofs.Common.{◌≡◌, ◌∙◌, ap, sym}
use Rattle.gr_rules.specs.Operators.{same_channel}
use Rattle.gr_record.specs.Effects.{effect_in}
use Rattle.gr_record.specs.Fews.{members}
use Rattle.gr_record.specs.Parts.{made_in}
use Rattle.gr_record.specs.Records.{beyond}
use Rattle.gr_keys.proofs.Writing.{on_ok}
use Rattle.gr_explore.specs.Books.{channels_noted, with_first, with_some}
use Rattle.gr_explore.proofs.changed.note_channels.Goals as goal

pub returns-in_ok-note_first-in-Further-clause-changed : goal.returns-in_ok-note_first-in-Further-clause-changed
returns-in_ok-note_first-in-Further-clause-changed c =
    let old = c.args.pages.now.changed.items in
    let b = c.in-Further.further.value.beyond in
    on_ok {Q = c.note_some.new.pages.changed.items ≡ channels_noted c.args.step.now old} c.note_some.result (λ e.
    e ∙ ap (λ o. with_some same_channel o c.note_first.new.pages.changed.items) c.made.ensures
    ∙ ap (λ further. with_some same_channel (made_in further.beyond) c.note_first.new.pages.changed.items) c.deref-in-Further-2.ensures
    ∙ ap (with_some same_channel (made_in b)) (c.in_ok-note_first-in-Further.ensures.changed ∙ ap (λ es. with_first same_channel es old) c.as_slice.ensures
    ∙ ap (λ further. with_first same_channel (members further.beyond.channels) old) c.deref-in-Further.ensures)
    ∙ ap (λ change. beyond old (λ b. with_some same_channel (made_in b) (with_first same_channel (members b.channels) old)) change) (ap effect_in (sym c.in-Further.is) ∙ c.form.ensures)) c.note_some.ensures.changed
