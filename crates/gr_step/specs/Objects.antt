-- What the objects of a running program contain.
use Rattle.gr_rules.specs.States as rules
use Rattle.gr_tables.specs.NamedChannels as channels
use Rattle.gr_tables.specs.NamedGoroutines.{goroutines_of}
use Rattle.gr_refine.specs.Contents.{Contents}
use Rattle.gr_step.specs.declared.objects.Run.{Run}
use Rattle.gr_step.specs.declared.objects.Run.TheVariants.{Live, Ended, Faulted}
use Rattle.gr_step.specs.declared.objects.Objects.{Objects}

abbrev pub run_of : Run → rules.Run
run_of Live = rules.live
run_of Ended = rules.ended
run_of (Faulted fault) = rules.faulted fault

-- what each name has
abbrev pub contents_in : Objects → Contents
contents_in o = record { run = run_of o.run; goroutines = goroutines_of o.goroutines; channels = channels.contents_of o.channels }
