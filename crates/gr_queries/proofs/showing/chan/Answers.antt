use Rattle.gr_step.specs.Stores.{program_at, contents_at}
use Rattle.gr_queries.proofs.ChannelsShown.{channel_answer}
use Rattle.gr_queries.proofs.showing.chan.Goals as goal

pub returns : goal.returns
returns c =
    channel_answer (program_at c.args.store.now) (contents_at c.args.store.now) c.args.channel.now c.in-Some.channel.now.content c.in-Some.ensures
    c.capacity.ensures.valid _ _ _ _ _ c.capacity.ensures.value c.is_closed.ensures c.in_ok-items.ensures c.in_ok-senders.ensures
    c.in_ok-receivers.ensures
