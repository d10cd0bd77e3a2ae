use Rattle.std.proofs.Common.{◌∷◌, [], refl, ap}
use Rattle.gr_tables.specs.NamedChannels.{contents_of}
use Rattle.gr_tables.proofs.Withdrawals.{none_after}
use Rattle.gr_record.specs.declared.record.Exchange.{Exchange}
use Rattle.gr_record.specs.Parts.{channel_in}
use Rattle.gr_step.proofs.objects.Objects.exchange_alone.Goals as goal

pub returns-in-Ok-clause-ok : goal.returns-in-Ok-clause-ok
returns-in-Ok-clause-ok c = λ operation reads writes h.
    let done = (channel_in c.args.exchange.value.passage.contact.operation, c.args.undo) ∷ [] in
    record {
      own = c.in-Ok.own;
      met = c.in-Ok.met;
      changed = done;
      tells = c.told_alone.ensures operation reads writes h;
      exchanges = record {
        both = rw (ap (λ (e : Exchange). e.met.0) c.deref.ensures) at c.in-Ok.ensures.after;
        withdraws = ap contents_of c.both_arrive.ensures.channels;
        follows = rw c.both_arrive.ensures.channels (none_after done c.args.self.now.channels);
        gates = record { more = []; are = refl; at_gates = tt };
        run = c.both_arrive.ensures.run;
      };
    }
