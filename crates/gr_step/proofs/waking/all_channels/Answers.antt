use Rattle.std.proofs.Common.{◌++◌, ap, ◌∙◌}
use Rattle.gr_rules.specs.Actors.{channels_but}
use Rattle.gr_tables.specs.NamedGoroutines.{goroutines_of}
use Rattle.gr_step.specs.Wakes.{waits_known}
use Rattle.gr_step.proofs.WakeLemmas.{channels_next}
use Rattle.gr_step.proofs.waking.all_channels.Goals as goal

pub loop-go-preserved : goal.loop-go-preserved
loop-go-preserved c =
    let f = goroutines_of c.args.goroutines.now in
    let seen = c.loop-go.seen.items in
    channels_next f c.args.names.now c.loop-go.go-index seen _ c.loop-go.invariant c.go-item.result c.append.new.self.items c.loop-go-test.true
    c.go-item.is
    (c.in_ok-append.ensures.items ∙ ap (λ l. seen ++ l) (c.in_ok-more.ensures
    ∙ ap (λ l. channels_but l (waits_known (f c.go-item.result))) c.deref.ensures.value))
