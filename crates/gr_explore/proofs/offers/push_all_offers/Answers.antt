use Rattle.gr_step.specs.Stores.{program_at, state_at}
use Rattle.gr_explore.proofs.ChoiceLists.{next_choices}
use Rattle.gr_explore.proofs.offers.push_all_offers.Goals as goal

pub loop-go-preserved : goal.loop-go-preserved
loop-go-preserved c =
    next_choices (program_at c.args.store.now) (state_at c.args.store.now) c.args.names.now c.loop-go.go-index c.go-item.result c.loop-go.events.items c.push_offers.new.events.items _
    c.loop-go-test.true c.go-item.is c.in_ok-push_offers.ensures c.loop-go.invariant
