use Rattle.gr_keys.proofs.CodeLemmas.{numbers}
use Rattle.gr_keys.proofs.ValueLemmas.{names, channel_names, values_told}
use Rattle.gr_keys.proofs.GoroutineLemmas.{goroutines, channels}
use Rattle.gr_keys.proofs.law_of_codes.Goals as goal

pub returns-clause-numbers : goal.returns-clause-numbers
returns-clause-numbers c = numbers

pub returns-clause-names : goal.returns-clause-names
returns-clause-names c = names

pub returns-clause-channel_names : goal.returns-clause-channel_names
returns-clause-channel_names c = channel_names

pub returns-clause-values : goal.returns-clause-values
returns-clause-values c = values_told

pub returns-clause-goroutines : goal.returns-clause-goroutines
returns-clause-goroutines c = goroutines

pub returns-clause-channels : goal.returns-clause-channels
returns-clause-channels c = channels
