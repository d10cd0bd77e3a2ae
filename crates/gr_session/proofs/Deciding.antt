-- What a session makes of a batch: what was found of it where it was committed, as its entry and reply tell.
use Rattle.std.proofs.Common.{◌≡◌, ℕ, List, [], ◌∷◌, ◌++◌, Bool, refl, sym, ap, subst, ◌∙◌}
use Rattle.std.specs.Prelude.{◌↔◌, IsTrue}
use Rattle.gr_causal.proofs.ListLemmas.{cons_is}
use Rattle.gr_command.specs.Replies.{Said, Stale}
use Rattle.gr_rollback.specs.LentCopy.{LentCopy}
use Rattle.gr_rollback.specs.StepLeasing.{IsAsLent, loan_of}
use Rattle.gr_rollback.specs.Stores.{program_at, contents_at}
use Rattle.gr_session.specs.declared.debuggee.Debuggee.{Debuggee}
use Rattle.gr_session.specs.declared.journal.Entry.{Entry}
use Rattle.gr_session.specs.Debuggees.{store_in, log_in}
use Rattle.gr_session.specs.Carried.{JoinsWhereItMay}
use Rattle.gr_session.specs.Keeps.{Seen, Keeps, program_held}
use Rattle.gr_session.specs.Committing.{Decides, MustBeStale, notes_as_lent, contents_after}
use Rattle.gr_session.proofs.OneMeaningLists.{same_parts}

abbrev seen : Debuggee → List Entry → ℕ → Seen
seen d journal askers =
    record { program = program_held (store_in d); store = store_in d; log = log_in d; journal = journal; askers = askers }

same_last : (journal : List Entry) (e f : Entry) → journal ++ e ∷ [] ≡ journal ++ f ∷ [] → e ≡ f
same_last journal e f is = (cons_is e f [] [] (same_parts journal journal (e ∷ []) (f ∷ []) refl is).1).0

pub decides : (d : Debuggee) (journal : List Entry) (askers : ℕ) (k : Keeps d journal askers) (l : LentCopy) (reply : Said) (e : Entry) (as_lent : Bool)
    (new : Debuggee) (others : ℕ) → notes_as_lent e ≡ as_lent → (IsTrue as_lent ↔ IsAsLent l (store_in d))
    → ((reply ≡ Stale) ↔ MustBeStale (program_at (store_in d)) (contents_at (store_in d)) d.grant (loan_of l))
    → JoinsWhereItMay d l reply → contents_at (store_in new) ≡ contents_after reply l (contents_at (store_in d))
    → Decides (seen d journal askers) l reply (seen new (journal ++ e ∷ []) others)
decides d journal askers k l reply e as_lent new others note lent stale joins after = record {
  stale = record {
    world = k.world;
    means = k.means;
    holds = subst (λ (g : ℕ). (reply ≡ Stale) ↔ MustBeStale (program_at (store_in d)) (contents_at (store_in d)) g (loan_of l)) k.stands.grant stale;
  };
  joins = record { world = k.world; means = k.means; holds = joins _ k.world k.stands };
  noted = λ f is.
      subst (λ (b : Bool). IsTrue b ↔ IsAsLent l (store_in d)) (sym note ∙ ap notes_as_lent (same_last journal e f is)) lent;
  contents = after;
}
