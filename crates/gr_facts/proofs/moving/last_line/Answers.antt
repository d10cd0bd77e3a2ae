use Rattle.std.proofs.lemmas.Result.{IfOk-weaker}
use Rattle.std.proofs.Common.{option_map}
use Rattle.gr_step.specs.Stores.{contents_at, program_at}
use Rattle.gr_facts.proofs.MovedLemmas.{last_told, none_told}
use Rattle.gr_facts.proofs.moving.last_line.Goals as goal

pub returns-in_default : goal.returns-in_default
returns-in_default c = none_told (program_at c.args.store.now) (contents_at c.args.store.now) c.args.go.now c.in_default.ensures

pub returns : goal.returns
returns c = IfOk-weaker c.last_copied.result _ _
    (λ line is. last_told (program_at c.args.store.now) (contents_at c.args.store.now) c.args.go.now c.in-Some.goroutine.now.content c.text.result.now
    (option_map (λ l. l.items) line) c.in-Some.ensures c.text.ensures is) c.last_copied.ensures
