use Rattle.std.proofs.lemmas.Result.{IfOk-weaker}
use Rattle.gr_step.specs.Stores.{contents_at, program_at}
use Rattle.gr_facts.proofs.ValueLemmas.{got_left, got_sent, no_channel}
use Rattle.gr_facts.proofs.values.received.Goals as goal

pub returns-in_default : goal.returns-in_default
returns-in_default c = no_channel (program_at c.args.store.now) (contents_at c.args.store.now) c.args.channel.now c.args.zero.now c.in_default.ensures

pub returns-in_default-next_sent : goal.returns-in_default-next_sent
returns-in_default-next_sent c = IfOk-weaker c.left.result _ _
    (λ value is. got_left (program_at c.args.store.now) (contents_at c.args.store.now) c.args.channel.now c.args.zero.now
    c.in-Some.channel.now.content c.in-Some.ensures value c.in_default-next_sent.ensures is) c.left.ensures

pub returns : goal.returns
returns c =
    got_sent (program_at c.args.store.now) (contents_at c.args.store.now) c.args.channel.now c.args.zero.now c.in-Some.channel.now.content
    c.in-Some.ensures _ _ c.in-Some-next_sent.ensures c.in_ok-value.ensures.ok
