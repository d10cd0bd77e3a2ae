use Rattle.std.proofs.Common.{◌∙◌, ◌++◌, ◌∷◌, [], ◌+◌, drop, sym, ap}
use Rattle.gr_rules.specs.Operators.{same_channel}
use Rattle.gr_rules.specs.Actors.{channels_but}
use Rattle.gr_goros.specs.Views.{waits_of}
use Rattle.gr_step.proofs.ChannelsButLemmas.{known, found, any_seen, any_found, in_neither, all_named}
use Rattle.gr_step.proofs.channels_named.channels_but.Goals as goal

pub loop-wait-preserved-then-is_among : goal.loop-wait-preserved-then-is_among
loop-wait-preserved-then-is_among c =
    let names = c.loop-wait.names.items in
    let name = c.channel_of-channel.result.now in
    known c.args.seen.now c.args.waits.now c.loop-wait.wait-index c.wait-item.result names c.loop-wait-test.true c.wait-item.is
    name c.channel_of-channel.ensures
    (any_seen (same_channel name) names c.args.seen.now (sym c.is_among.ensures ∙ c.if-is_among.true)) ∙ c.loop-wait.invariant

pub loop-wait-preserved-then-is_among-2 : goal.loop-wait-preserved-then-is_among-2
loop-wait-preserved-then-is_among-2 c =
    let names = c.loop-wait.names.items in
    let name = c.channel_of-channel.result.now in
    known c.args.seen.now c.args.waits.now c.loop-wait.wait-index c.wait-item.result names c.loop-wait-test.true c.wait-item.is
    name c.channel_of-channel.ensures
    (any_found (same_channel name) names c.args.seen.now (rw c.deref.ensures.value at (sym c.is_among-in-loop-wait.ensures ∙ c.if-is_among-2.true)))
    ∙ c.loop-wait.invariant

pub loop-wait-preserved : goal.loop-wait-preserved
loop-wait-preserved c =
    let names = c.loop-wait.names.items in
    let name = c.channel_of-channel.result.now in
    let pushed = c.in_ok-push.ensures.items ∙ ap (λ k. names ++ k ∷ []) c.in_ok-copy.ensures in
    ap (λ ns. ns ++ channels_but (ns ++ c.args.seen.now) (waits_of (drop (c.loop-wait.wait-index + 1) c.args.waits.now))) pushed
    ∙ found c.args.seen.now c.args.waits.now c.loop-wait.wait-index c.wait-item.result names c.loop-wait-test.true c.wait-item.is
    name c.channel_of-channel.ensures
    (in_neither (same_channel name) names c.args.seen.now (sym c.is_among.ensures ∙ c.if-is_among.false)
    (rw c.deref.ensures.value at (sym c.is_among-in-loop-wait.ensures ∙ c.if-is_among-2.false)))
    ∙ c.loop-wait.invariant

pub returns : goal.returns
returns c = all_named c.args.seen.now c.args.waits.now c.loop-wait.wait-index c.loop-wait.names.items c.loop-wait-test.false ∙ c.loop-wait.invariant
