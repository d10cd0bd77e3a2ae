use Rattle.std.proofs.Common.{refl}
use Rattle.litmus.proofs.EndLemmas.{one_end}
use Rattle.litmus.proofs.law_of_needless_dependence.Goals as goal

pub returns-clause-cap_and_wait : goal.returns-clause-cap_and_wait
returns-clause-cap_and_wait c = record { first = refl; second = refl; one_end = one_end refl refl (λ ns. refl) (λ ns. refl) (λ ns. refl) (λ n ns e f. refl) refl refl (λ n e. refl) (λ m ms n. refl) (λ c. refl) (λ c. refl) (λ c j. refl); depend = refl; depend_too = refl }

pub returns-clause-cap_and_close : goal.returns-clause-cap_and_close
returns-clause-cap_and_close c = record { first = refl; second = refl; one_end = one_end refl refl (λ ns. refl) (λ ns. refl) (λ ns. refl) (λ n ns e f. refl) refl refl (λ n e. refl) (λ m ms n. refl) (λ c. refl) (λ c. refl) (λ c j. refl); depend = refl; depend_too = refl }

pub returns-clause-len_and_wait : goal.returns-clause-len_and_wait
returns-clause-len_and_wait c = record { first = refl; second = refl; one_end = one_end refl refl (λ ns. refl) (λ ns. refl) (λ ns. refl) (λ n ns e f. refl) refl refl (λ n e. refl) (λ m ms n. refl) (λ c. refl) (λ c. refl) (λ c j. refl); depend = refl; depend_too = refl }

pub returns-clause-len_and_close : goal.returns-clause-len_and_close
returns-clause-len_and_close c = record { first = refl; second = refl; one_end = one_end refl refl (λ ns. refl) (λ ns. refl) (λ ns. refl) (λ n ns e f. refl) refl refl (λ n e. refl) (λ m ms n. refl) (λ c. refl) (λ c. refl) (λ c j. refl); depend = refl; depend_too = refl }

pub returns-clause-close_and_take : goal.returns-clause-close_and_take
returns-clause-close_and_take c = record { first = refl; second = refl; one_end = one_end refl refl (λ ns. refl) (λ ns. refl) (λ ns. refl) (λ n ns e f. refl) refl refl (λ n e. refl) (λ m ms n. refl) (λ c. refl) (λ c. refl) (λ c j. refl); depend = refl; depend_too = refl }

pub returns-clause-hand_and_wait : goal.returns-clause-hand_and_wait
returns-clause-hand_and_wait c = record { first = refl; second = refl; one_end = one_end refl refl (λ ns. refl) (λ ns. refl) (λ ns. refl) (λ n ns e f. rw (e, f) refl) refl refl (λ n e. rw e refl) (λ m ms n. refl) (λ c. refl) (λ c. refl) (λ c j. refl); depend = refl; depend_too = refl }

pub returns-clause-meet_and_wait : goal.returns-clause-meet_and_wait
returns-clause-meet_and_wait c = record { first = refl; second = refl; one_end = one_end refl refl (λ ns. refl) (λ ns. refl) (λ ns. refl) (λ n ns e f. rw (e, f) refl) refl refl (λ n e. rw e refl) (λ m ms n. refl) (λ c. refl) (λ c. refl) (λ c j. refl); depend = refl; depend_too = refl }

pub returns-clause-take_and_wait : goal.returns-clause-take_and_wait
returns-clause-take_and_wait c = record { first = refl; second = refl; one_end = one_end refl refl (λ ns. refl) (λ ns. refl) (λ ns. refl) (λ n ns e f. rw (e, f) refl) refl refl (λ n e. rw e refl) (λ m ms n. refl) (λ c. refl) (λ c. refl) (λ c j. refl); depend = refl; depend_too = refl }

pub returns-clause-default_and_wait : goal.returns-clause-default_and_wait
returns-clause-default_and_wait c = record { first = refl; second = refl; one_end = one_end refl refl (λ ns. refl) (λ ns. refl) (λ ns. refl) (λ n ns e f. refl) refl refl (λ n e. refl) (λ m ms n. refl) (λ c. refl) (λ c. refl) (λ c j. refl); depend = refl; depend_too = refl }

pub returns-clause-len_and_hand : goal.returns-clause-len_and_hand
returns-clause-len_and_hand c = record { first = refl; second = refl; one_end = one_end refl refl (λ ns. refl) (λ ns. refl) (λ ns. refl) (λ n ns e f. rw (e, f) refl) refl refl (λ n e. refl) (λ m ms n. refl) (λ c. refl) (λ c. refl) (λ c j. refl); depend = refl; depend_too = refl }

pub returns-clause-default_and_send_wait : goal.returns-clause-default_and_send_wait
returns-clause-default_and_send_wait c = record { first = refl; second = refl; one_end = one_end refl refl (λ ns. refl) (λ ns. refl) (λ ns. refl) (λ n ns e f. refl) refl refl (λ n e. refl) (λ m ms n. refl) (λ c. refl) (λ c. refl) (λ c j. refl); depend = refl; depend_too = refl }
