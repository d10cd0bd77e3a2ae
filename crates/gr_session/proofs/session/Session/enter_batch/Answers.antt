use Rattle.std.proofs.Common.{◌<◌, ◌≤◌, length, refl, ap, ◌∙◌, rules}
use Rattle.gr_rollback.specs.StepLeasing.{loan_of}
use Rattle.gr_session.specs.declared.TheConstants.{JOURNAL_LIMIT}
use Rattle.gr_session.proofs.CommitLemmas.{means_batch}
use Rattle.gr_session.proofs.Deciding.{decides}
use Rattle.gr_session.proofs.JournalLemmas.{keeps_entry}
use Rattle.gr_session.proofs.session.Session.enter_batch.Goals as goal

pub invariant_of-self-2 : goal.invariant_of-self-2
invariant_of-self-2 c =
    let asker : (1 ≤ c.args.desk.number) × (c.args.desk.number ≤ c.self.inside.askers) = search rules in
    let room : length c.self.inside.journal.items < JOURNAL_LIMIT = search rules in
    let comes = c.commit-batch.ensures.commits _ c.self.invariant.world c.self.invariant.stands in
    rw (c.keep.ensures.entry, c.make_room.ensures.items)
    (keeps_entry c.self.inside.debuggee c.commit-batch.new.debuggee _ _ _ _ c.self.invariant asker.0 asker.1 room
    comes.world (means_batch _ c.self.invariant.world comes.world c.commit-batch.result.batch _ c.commit-batch.result.stood c.commit-batch.result.memory _ c.commit-batch.ensures.kept comes.commits) comes.stands)

pub returns : goal.returns
returns c =
    let comes = c.commit-batch.ensures.commits _ c.self.invariant.world c.self.invariant.stands in
    record {
      entry = rw (← c.self.view_is, c.keep.ensures.reply, c.keep.ensures.number, c.keep.ensures.entry, c.make_room.ensures.items)
          (record {
            batch = c.commit-batch.result.batch;
            is_loan = c.commit-batch.ensures.kept ∙ ap loan_of c.batch.view_is;
            as_lent = c.commit-batch.result.stood;
            enters = record {
              memory = c.commit-batch.result.memory;
              entered = refl;
              number_is = refl;
              before = c.self.invariant.world;
              stood = c.self.invariant.means;
              after = comes.world;
              meant = means_batch _ c.self.invariant.world comes.world c.commit-batch.result.batch _ c.commit-batch.result.stood c.commit-batch.result.memory _ c.commit-batch.ensures.kept comes.commits;
            };
          });
      decided = rw (← c.self.view_is, ← c.batch.view_is, c.keep.ensures.reply, c.keep.ensures.entry, c.make_room.ensures.items)
          (decides c.self.inside.debuggee c.self.inside.journal.items c.self.inside.askers c.self.invariant c.batch.inside.copy _ _ c.commit-batch.result.stood
          c.commit-batch.new.debuggee _ refl c.commit-batch.ensures.as_lent c.commit-batch.ensures.stale c.commit-batch.ensures.joins c.commit-batch.ensures.contents);
      full = search rules;
      memory = search rules;
      err = search rules;
      others = search rules;
    }
