-- What a batch comes to that is of another program, or whose goroutine is not as it was lent.
use Rattle.std.proofs.Common.{◌≡◌, false, refl, inl}
use Rattle.gr_command.specs.Replies.{Stale, said_of}
use Rattle.gr_rollback.specs.LentCopy.{LentCopy}
use Rattle.gr_rollback.specs.StepLeasing.{IsAsLent, loan_kept, loan_of}
use Rattle.gr_session.specs.declared.committing.Outcome.{Outcome}
use Rattle.gr_session.specs.declared.debuggee.Debuggee.{Debuggee}
use Rattle.gr_session.specs.declared.journal.Memory.TheVariants.{Enough}
use Rattle.gr_session.specs.Carried.{BatchComesTo}
use Rattle.gr_session.specs.Debuggees.{store_in}
use Rattle.gr_session.proofs.CommitLemmas.{stale_where_changed, is_stale, no_join_when_changed}
use Rattle.gr_session.proofs.GrantLemmas.{never}

pub comes_to_stale : (d : Debuggee) (l : LentCopy) (o : Outcome) → (IsAsLent l (store_in d) → ⊥) → loan_kept o.batch ≡ loan_of l
    → o.stood ≡ false → o.memory ≡ Enough → said_of o.reply ≡ Stale → BatchComesTo d l o d
comes_to_stale d l o other kept stood memory reply = record {
  kept = kept;
  commits = λ p w s. rw (stood, memory, reply) (stale_where_changed p w d s (loan_of l) other);
  as_lent = rw stood (never other);
  stale = rw reply (is_stale (inl other));
  joins = λ p w s may room. absurd (no_join_when_changed p w d s (loan_of l) other may);
  contents = rw reply refl;
  listing = refl;
}
