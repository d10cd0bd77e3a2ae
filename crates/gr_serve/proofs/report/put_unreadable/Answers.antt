use Rattle.std.proofs.Common.{◌++◌, codes, ap, ◌∙◌, append_assoc}
use Rattle.gr_serve.proofs.Growing.{on_ok}
use Rattle.gr_serve.proofs.report.put_unreadable.Goals as goal

pub returns-clause-ok : goal.returns-clause-ok
returns-clause-ok c = on_ok c.put-2.result _ _
    (λ h. h ∙ ap (λ t. t ++ c.args.file.now) c.in_ok-put.ensures.ok ∙ append_assoc c.args.text.now.items (codes "cannot read ") c.args.file.now)
    c.put-2.ensures.ok
