-- A legal journal stays legal under an asker's commands.
use Rattle.std.proofs.Common.{ℕ, ◌≤◌, List, [], ◌∷◌, subst, sym, arith}
use Rattle.std.proofs.lemmas.List.Elements.{All-push}
use Rattle.gr_program.specs.Programs.{Program}
use Rattle.gr_command.specs.declared.command.Command.{Command}
use Rattle.gr_session.specs.declared.journal.Entry.{Entry}
use Rattle.gr_session.specs.declared.journal.Asked.TheVariants as asks
use Rattle.gr_session.specs.Journal.{first_world}
use Rattle.gr_session.specs.Entries.{IsAskedBy, IsLegal, EntersCommand, no_entry, one_more}
use Rattle.gr_command.specs.Replies.{Said}
use Rattle.gr_serve.specs.Replies.{Answer, Replied, JournalFull, NoMemory}
use Rattle.gr_serve.specs.Stream.{Answered, of_session}

pub legal_empty : (program : Program) (askers : ℕ) → IsLegal program askers []
legal_empty program askers = record { asked = λ k d h. absurd (omega (arith, h)); world = first_world program; means = no_entry }

pub legal_entry : (program : Program) (askers asker : ℕ) (command : Command) (old new : List Entry) (number : ℕ) (said : Said)
    → 1 ≤ asker → asker ≤ askers → IsLegal program askers old → EntersCommand program asker command old new number said → IsLegal program askers new
legal_entry program askers asker command old new number said low high legal e =
    let entry : Entry = record { asker = asker; asked = asks.Command command; memory = e.memory } in
    rw e.entered (record {
      asked = All-push (IsAskedBy askers) old entry legal.asked (low, high);
      world = e.after;
      means = one_more entry e.stood e.meant;
    })

pub legal_answered : (program : Program) (askers asker : ℕ) (old : List Entry) (commands : List Command) (answers : List Answer) (new : List Entry)
    → 1 ≤ asker → asker ≤ askers → IsLegal program askers old → Answered (of_session program asker) old commands answers new → IsLegal program askers new
legal_answered program askers asker old [] [] new low high legal h = subst (λ (j : List Entry). IsLegal program askers j) (sym h) legal
legal_answered program askers asker old [] (a ∷ others) new low high legal h = absurd h
legal_answered program askers asker old (c ∷ cs) [] new low high legal h = absurd h
legal_answered program askers asker old (c ∷ cs) (Replied said ∷ more) new low high legal h =
    legal_answered program askers asker h.0 cs more new low high (legal_entry program askers asker c old h.0 _ said low high legal h.1) h.2
legal_answered program askers asker old (c ∷ cs) (JournalFull ∷ more) new low high legal h =
    legal_answered program askers asker h.0 cs more new low high (subst (λ (j : List Entry). IsLegal program askers j) (sym h.1.1) legal) h.2
legal_answered program askers asker old (c ∷ cs) (NoMemory ∷ more) new low high legal h =
    legal_answered program askers asker h.0 cs more new low high (subst (λ (j : List Entry). IsLegal program askers j) (sym h.1.1) legal) h.2
