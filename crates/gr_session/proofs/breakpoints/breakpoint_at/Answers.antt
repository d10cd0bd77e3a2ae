use Rattle.std.proofs.Common.{◌≡◌, Some, None, nat_eq, sym, ap, ◌∙◌, rules}
use Rattle.std.specs.Prelude.{option_map}
use Rattle.indexmap.specs.IndexMap.{get}
use Rattle.gr_rules.specs.Turns.{break_at, at_break}
use Rattle.gr_session.proofs.DebuggeeLemmas.{line_here}
use Rattle.gr_session.proofs.LineLemmas.{break_by_table}
use Rattle.gr_session.proofs.breakpoints.breakpoint_at.Goals as goal

pub returns-in_default : goal.returns-in_default
returns-in_default c = λ p w s.
    sym (ap (break_at w.lines) (line_here p w c.args.debuggee.now s c.args.go.now _ None c.store.ensures (sym c.in_default.is ∙ c.next_line.ensures)))

pub returns : goal.returns
returns c = λ p w s.
    let gets : get nat_eq c.args.debuggee.now.lines c.in-Some.line ≡ c.copied.result = search rules in
    sym (ap (break_at w.lines) (line_here p w c.args.debuggee.now s c.args.go.now _ (Some c.in-Some.line) c.store.ensures (sym c.in-Some.is ∙ c.next_line.ensures)))
    ∙ break_by_table w.lines c.args.debuggee.now.lines s.lines c.in-Some.line ∙ ap (option_map at_break) gets
