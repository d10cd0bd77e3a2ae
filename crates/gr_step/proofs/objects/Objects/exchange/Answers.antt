use Rattle.gr_step.proofs.objects.Objects.exchange.Goals as goal

pub exchange_alone-requires : goal.exchange_alone-requires
exchange_alone-requires c = rw c.in-Alone.is at c.requires

pub exchange_with_more-requires : goal.exchange_with_more-requires
exchange_with_more-requires c = rw c.in-Selects.is at c.requires

pub returns-in-Alone-clause-ok : goal.returns-in-Alone-clause-ok
returns-in-Alone-clause-ok c = rw c.in-Alone.is c.exchange_alone.ensures.ok

pub returns-in-Alone-clause-err_goroutines : goal.returns-in-Alone-clause-err_goroutines
returns-in-Alone-clause-err_goroutines c = c.exchange_alone.ensures.err_goroutines

pub returns-in-Alone-clause-err_channels : goal.returns-in-Alone-clause-err_channels
returns-in-Alone-clause-err_channels c = rw c.in-Alone.is c.exchange_alone.ensures.err_channels

pub returns-in-Selects-clause-ok : goal.returns-in-Selects-clause-ok
returns-in-Selects-clause-ok c = rw c.in-Selects.is c.exchange_with_more.ensures.ok

pub returns-in-Selects-clause-err_goroutines : goal.returns-in-Selects-clause-err_goroutines
returns-in-Selects-clause-err_goroutines c = c.exchange_with_more.ensures.err_goroutines

pub returns-in-Selects-clause-err_channels : goal.returns-in-Selects-clause-err_channels
returns-in-Selects-clause-err_channels c = rw c.in-Selects.is c.exchange_with_more.ensures.err_channels
