use Rattle.std.proofs.Common.{◌≡◌, List, ap, sym, ◌∙◌, subst, arith}
use mathlib.Core.List.{IsPrefix}
use Rattle.gr_program.specs.Views.{program_of}
use Rattle.gr_share.specs.declared.views.View.{View}
use Rattle.gr_share.specs.Lines.{Line}
use Rattle.gr_share.specs.Ties.{keeping, older_lines, Tells}
use Rattle.gr_share.proofs.Lines.{prefix_self}
use Rattle.gr_share.proofs.Telling.{tells_older}
use Rattle.gr_share.proofs.shared.Shared.new.Goals as goal

pub invariant_of-new : goal.invariant_of-new
invariant_of-new g c =
    let o = c.opened.invariant in
    let s = c.opened.inside.session in
    let askers = ap (λ n. n.session.askers) c.opened.view_is ∙ c.requires.session.1 in
    let lines : c.opened.inside.keeper.me.0.log ≡ older_lines 1 s.journal = ap (λ (v : View). v.log) o.1 in (
      o.0 ∙ (ap (λ n. n.table) c.opened.view_is ∙ c.requires.table),
      o.1 ∙ (λ k. keeping (sym lines k) s.askers),
      subst (λ (l : List Line). Tells (program_of s.program) s.journal l) (sym lines) (tells_older (program_of s.program) s.journal),
      ap (λ n. program_of n.session.program) c.opened.view_is ∙ c.requires.session.0,
      omega (arith, askers),
      subst (λ before. IsPrefix before s.journal) (ap (λ n. n.session.journal) c.opened.view_is ∙ c.requires.before) (prefix_self s.journal),
      omega (arith, askers, c.requires.seats),
    )
