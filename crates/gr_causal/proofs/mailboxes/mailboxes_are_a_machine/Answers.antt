use Rattle.gr_causal.proofs.MailboxLemmas.{mailbox_laws, mailbox_counts, mailbox_notes}
use Rattle.gr_causal.proofs.mailboxes.mailboxes_are_a_machine.Goals as goal

pub returns-clause-laws : goal.returns-clause-laws
returns-clause-laws c = mailbox_laws

pub returns-clause-counts : goal.returns-clause-counts
returns-clause-counts c = mailbox_counts

pub returns-clause-notes : goal.returns-clause-notes
returns-clause-notes c = mailbox_notes
