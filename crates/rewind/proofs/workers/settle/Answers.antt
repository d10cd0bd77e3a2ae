use Rattle.std.proofs.Common.{ℕ, List, subst, sym, All}
use Rattle.gr_share.specs.Entries.{IsLegal}
use Rattle.gr_share.specs.Calls.{Staff, IsTied}
use Rattle.gr_share.specs.Seats.{AreAll, LacksSeat}
use Rattle.rewind.proofs.Seats.{none_missing}
use Rattle.rewind.proofs.workers.settle.Goals as goal

pub returns : goal.returns
returns g c =
    let session = c.in-Ok.finished.session in
    record {
      session = session;
      program_is = c.in-Ok.ensures.program;
      legal = subst (λ p. IsLegal p session.askers session.journal) c.in-Ok.ensures.program c.journal.ensures.legal;
      workers = c.in-Ok.finished.workers.items;
      all = subst (λ (z : ℕ × List Staff). AreAll z.0 session.askers c.args.desks.items z.1)
          (λ k. (c.requires.first k, sym c.in-Ok.ensures.workers.0 k)) c.in-Ok.ensures.all;
      tied = subst (λ ds. All (λ d. IsTied session d) ds) c.in-Ok.ensures.desks.0 c.in-Ok.ensures.desks.1;
      workers_tied = c.in-Ok.ensures.workers.1;
      at_work = c.in-Ok.ensures.at_work;
    }

pub unreachable-requires : goal.unreachable-requires
unreachable-requires g c =
    none_missing 0 g.B.Room.last c.args.desks.items c.args.workers.items c.requires.all
    (subst (λ (n : ℕ). LacksSeat n g.B.Room.last c.args.desks.items c.args.workers.items) c.requires.first c.in-Err.ensures.lacks)
