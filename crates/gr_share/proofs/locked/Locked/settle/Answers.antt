use Rattle.std.proofs.Common.{◌≡◌, ◌∙◌, subst}
use mathlib.Core.List.{IsPrefix}
use Rattle.gr_share.specs.declared.views.View.{View}
use Rattle.gr_share.specs.Calls.{Asker, IsTied}
use Rattle.gr_share.specs.Seats.{Held}
use Rattle.gr_share.specs.Ties.{asked, asking, hearing, sight_taken, calls_of}
use Rattle.gr_share.proofs.Lines.{prefix_both}
use Rattle.gr_share.proofs.Telling.{tied}
use Rattle.gr_share.proofs.locked.Locked.settle.Goals as goal

pub returns-clause-tied : goal.returns-clause-tied
returns-clause-tied g c =
    let d = c.desk.inside in
    let cs = calls_of d.number d.calls.items in
    let log = c.self.inside.keeper.me.0.log in
    let mine = c.compare.ensures.desk.1 ∙ c.desk.invariant.2 in
    let kept = c.compare.ensures.keeper.1 in
    let shown : c.show_taken.new.desk.me.0 ≡ hearing (asking d.number cs d.seat.me.0.told_full) (sight_taken log) =
    c.show_taken.ensures.desk.1 ∙ (λ k. hearing (mine k) (sight_taken (kept k).log)) in
    let back : IsPrefix (asked d.number log) cs = subst (λ (v : View). IsPrefix (asked v.asker v.taken) v.calls) shown c.settle.ensures.settled in
    let forth : IsPrefix cs (asked d.number log) =
    subst (λ (z : View). IsPrefix z.calls (asked z.asker log)) c.desk.invariant.2 c.compare.ensures.begins in
    let asker : Asker = record { number = d.number; calls = d.calls.items; told_full = d.seat.me.0.told_full } in
    let it : IsTied c.self.inside.session asker = tied c.self.inside.session log asker c.self.invariant.2 (prefix_both (asked d.number log) cs back forth)
    c.journal.ensures.short c.compare.ensures.full in
    subst (λ (z : Held × Asker). IsTied z.0.session z.1) (λ k. (c.self.view_is k, c.desk.view_is k)) it
