use Rattle.std.proofs.Common.{refl, ap, length, arith}
use Rattle.gr_goros.specs.declared.arrivals.Halt.TheVariants.{Faulted}
use Rattle.gr_goros.specs.Views.{halted}
use Rattle.gr_rules.specs.States.{faulted}
use Rattle.gr_record.specs.Fews.{members}
use Rattle.gr_step.proofs.NeedNoFrameLemmas.{need_none}
use Rattle.gr_step.proofs.PlaceLemmas.{placed, no_rooms}
use Rattle.gr_tables.specs.NamedChannels.{contents_of, rooms_of}
use Rattle.gr_step.proofs.objects.Objects.fault.Goals as goal

pub returns-clause-ok : goal.returns-clause-ok
returns-clause-ok c = λ n g named there.
    let own = placed c.args.number n c.args.self.now.goroutines c.halt.new.self named g there (halted Faulted) c.in_ok-own.own
    c.in_ok-own.ensures.ok in
    rw c.further.ensures (record {
      after = λ j. record { run = faulted c.args.fault; goroutines = own.is j; channels = contents_of c.args.self.now.channels };
      kind = refl;
      beyond = c.in_ok-further.ensures;
      back = own.back;
      fits = own.fits;
    })

pub returns-clause-room : goal.returns-clause-room
returns-clause-room c = λ n.
    let h = c.in_ok-own.ensures.ok in
    let none = need_none h.0.content h.1.content c.in_ok-own.own h.3.1.back (ap (λ g. length g.frames) h.3.0) in
    rw c.further.ensures (record {
      frames = rw none (omega arith);
      places = no_rooms (members c.in_ok-further.further.value.beyond.channels) (rooms_of c.args.self.now.channels) c.in_ok-further.ensures.channels;
    })
