use Rattle.std.proofs.Common.{◌||◌, sym, ap, ◌∙◌}
use Rattle.std.specs.List.{list_any}
use Rattle.gr_record.specs.Conflicts.{written_by, touched_by}
use Rattle.gr_touches.specs.Touches.{is_among}
use Rattle.gr_depend.proofs.ConflictLemmas.{conflict_split}
use Rattle.gr_depend.proofs.conflicts.conflict.Goals as goal

pub returns-then-overwrites : goal.returns-then-overwrites
returns-then-overwrites c =
    let second = list_any (λ o. is_among o (touched_by c.args.second.now)) (written_by c.args.first.now) in
    c.if-overwrites.true ∙ ap (λ b. b || second) c.if-overwrites.ensures ∙ sym (conflict_split c.args.first.now c.args.second.now)

pub returns-else-overwrites : goal.returns-else-overwrites
returns-else-overwrites c =
    let second = list_any (λ o. is_among o (touched_by c.args.second.now)) (written_by c.args.first.now) in
    c.meets_writes.ensures ∙ ap (λ b. b || second) c.if-overwrites.ensures ∙ sym (conflict_split c.args.first.now c.args.second.now)
