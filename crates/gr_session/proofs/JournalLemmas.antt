-- A journal that begins, and one that gets one more entry.
use Rattle.std.proofs.Common.{ℕ, ◌<◌, ◌≤◌, List, [], ◌∷◌, ◌++◌, length, sym, subst, arith}
use Rattle.std.specs.Prelude.{All}
use Rattle.std.proofs.lemmas.List.{length_push}
use Rattle.std.proofs.lemmas.List.Elements.{All-push}
use Rattle.gr_program.specs.Programs.{Program}
use Rattle.gr_command.specs.Replies.{Said}
use Rattle.gr_rollback.specs.Stores.{program_at}
use Rattle.gr_session.specs.declared.TheConstants.{JOURNAL_LIMIT, ASKER_LIMIT}
use Rattle.gr_session.specs.declared.debuggee.Debuggee.{Debuggee}
use Rattle.gr_session.specs.declared.journal.Entry.{Entry}
use Rattle.gr_session.specs.Journal.{World, first_world}
use Rattle.gr_session.specs.Entries.{Means, Lead, no_entry, one_more, IsAskedBy}
use Rattle.gr_session.specs.Debuggees.{Stands, store_in}
use Rattle.gr_session.specs.Keeps.{Keeps}

-- what the journal of a program means, and that it stands there
pub record MeansFor (p : Program) (journal : List Entry) (d : Debuggee) : Type 0 where
  pub world : World p
  pub means : Lead p (first_world p) journal world
  pub stands : Stands p world d

means_here : (p : Program) (journal : List Entry) (d : Debuggee) → MeansFor p journal d → MeansFor (program_at (store_in d)) journal d
means_here p journal d m = subst (λ q. MeansFor q journal d) (sym m.stands.machine.holds.program) m

pub keeps_meaning : (p : Program) (journal : List Entry) (askers : ℕ) (d : Debuggee) → All (IsAskedBy askers) journal → length journal ≤ JOURNAL_LIMIT
    → askers ≤ ASKER_LIMIT → MeansFor p journal d → Keeps d journal askers
keeps_meaning p journal askers d asked short few m =
    let here = means_here p journal d m in
    record { asked = asked; world = here.world; means = here.means; stands = here.stands; short = short; few = few }

-- a journal with no entry
pub keeps_first : (p : Program) (d : Debuggee) → Stands p (first_world p) d → Keeps d [] 0
keeps_first p d s = keeps_meaning p [] 0 d (λ i d within. absurd (omega arith)) (omega arith) (omega arith)
    (record { world = first_world p; means = no_entry; stands = s })

more_room : (es : List Entry) (e : Entry) (limit : ℕ) → length es < limit → length (es ++ e ∷ []) ≤ limit
more_room es e limit h = rw (length_push es e) (omega arith)

-- one more entry
pub keeps_entry : (d new : Debuggee) (journal : List Entry) (askers : ℕ) (e : Entry) (reply : Said) → (k : Keeps d journal askers)
    → 1 ≤ e.asker → e.asker ≤ askers → length journal < JOURNAL_LIMIT
    → (u : World (program_at (store_in d))) → Means (program_at (store_in d)) k.world e.asked e.memory u reply → Stands (program_at (store_in d)) u new
    → Keeps new (journal ++ e ∷ []) askers
keeps_entry d new journal askers e reply k low high room u means stands = keeps_meaning (program_at (store_in d)) (journal ++ e ∷ []) askers new
    (All-push (IsAskedBy askers) journal e k.asked (low, high)) (more_room journal e JOURNAL_LIMIT room) k.few
    (record { world = u; means = one_more e k.means means; stands = stands })

-- the same journal
pub keeps_still : (d new : Debuggee) (journal : List Entry) (askers : ℕ) → (k : Keeps d journal askers) → Stands (program_at (store_in d)) k.world new → Keeps new journal askers
keeps_still d new journal askers k s = keeps_meaning (program_at (store_in d)) journal askers new k.asked k.short k.few
    (record { world = k.world; means = k.means; stands = s })
