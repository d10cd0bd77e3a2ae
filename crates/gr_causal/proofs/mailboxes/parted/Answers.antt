use Rattle.std.proofs.Common.{refl, arith}
use Rattle.gr_causal.specs.Mailboxes.{clash}
use Rattle.gr_causal.proofs.AsideLemmas.{kept_start, dependents_start}
use Rattle.gr_causal.proofs.mailboxes.parted.Goals as goal

pub loop-event-init : goal.loop-event-init
loop-event-init c =
    let L = c.args.log.now in
    let i = c.args.place in
    record {
      stay = kept_start clash L i _ _ c.in_ok-stay.stay.items c.in_ok-gone.gone.items c.requires refl (grind (arith, c.in_ok-stay.ensures)) c.in_ok-gone.ensures.items;
      gone = dependents_start clash L i _ _ c.in_ok-gone.gone.items c.requires refl c.in_ok-gone.ensures.items;
    }
