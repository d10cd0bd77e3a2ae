use Rattle.gr_step.specs.Stores.{program_at, state_at}
use Rattle.gr_explore.proofs.ChoiceLists.{next_choices_of}
use Rattle.gr_explore.proofs.offers.push_page_offers.Goals as goal

pub loop-page-preserved : goal.loop-page-preserved
loop-page-preserved c =
    next_choices_of (program_at c.args.store.now) (state_at c.args.store.now) c.args.pages.now c.loop-page.page-index c.page-item.result c.loop-page.events.items c.push_offers.new.events.items _
    c.loop-page-test.true c.page-item.is c.in_ok-push_offers.ensures c.loop-page.invariant
