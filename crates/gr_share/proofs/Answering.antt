-- What stands under the lock after an entry more.
use Rattle.std.proofs.Common.{◌≡◌, ℕ, List, [], ◌∷◌, ◌++◌, length, refl, ap, sym, subst, arith}
use Rattle.std.specs.Prelude.{IsErrOf, Err}
use mathlib.Core.List.{IsPrefix}
use Rattle.gr_program.specs.Programs.{Program}
use Rattle.gr_program.specs.Views.{program_of}
use Rattle.gr_command.specs.Replies.{said_of}
use Rattle.gr_session.specs.declared.journal.AskRefused.{AskRefused}
use Rattle.gr_session.specs.declared.journal.Entry.{Entry}
use Rattle.gr_session.specs.declared.TheConstants.{JOURNAL_LIMIT}
use Rattle.gr_session.specs.Keeps.{Seen}
use Rattle.gr_share.specs.Lines.{Line}
use Rattle.gr_share.specs.Calls.{EntersCall}
use Rattle.gr_share.specs.declared.desk.Call.{Call}
use Rattle.gr_share.specs.Ties.{asked, told, IsFull, Tells, AllBelow, numbers_of}
use Rattle.gr_share.proofs.Lines.{prefix_trans}
use Rattle.gr_share.proofs.Telling.{tells_push, more_by, before_next}

-- a journal with an entry more begins as it did before
pub begins_on : (before : List Entry) (s : Seen) (a : ℕ) (call : Call) (journal : List Entry) → IsPrefix before s.journal
    → EntersCall (program_of s.program) a call.asked s.journal journal call.receipt.number (said_of call.receipt.reply)
    → IsPrefix before journal
begins_on before s a call journal begins entered =
    let m = more_by (program_of s.program) a call.asked s.journal journal call.receipt.number (said_of call.receipt.reply) entered in
    prefix_trans before s.journal journal begins (m.entry ∷ [], sym m.grows)

-- the lines are as many as the entries of a full journal
pub full_on : (s : Seen) (log : List Line) → Tells (program_of s.program) s.journal log → length s.journal ≡ JOURNAL_LIMIT → IsFull log
full_on s log tells full = let long = tells.as_long in omega (arith, long, full)

-- a refusal for this reason
pub refused_with : {A : Type 0} {why other : AskRefused} → why ≡ other → IsErrOf {T = A} (Err why) other
refused_with {A = A} {why} {other} is = subst (λ (w : AskRefused). IsErrOf {T = A} (Err why) w) is refl

-- a refusal that is handed on is the same refusal
pub handed_on : {A B : Type 0} (why other : AskRefused) → IsErrOf {T = A} (Err why) other → IsErrOf {T = B} (Err why) other
handed_on {B = B} why other e = subst (λ (w : AskRefused). IsErrOf {T = B} (Err why) w) (why_is e) refl
  where
    why_is : {A : Type 0} {why other : AskRefused} → IsErrOf {T = A} (Err why) other → why ≡ other
    why_is e = cc

module _ (s : Seen) (a : ℕ) (call : Call) (log : List Line) (tells : Tells (program_of s.program) s.journal log) where
  -- the lines tell of the journal with the call
  pub tells_on : (t : Seen) (new : List Line) → t.program ≡ s.program → new ≡ log ++ told a call ∷ []
      → EntersCall (program_of s.program) a call.asked s.journal t.journal call.receipt.number (said_of call.receipt.reply)
      → Tells (program_of t.program) t.journal new
  tells_on t new program lines entered =
      subst (λ (z : Program × List Line). Tells z.0 t.journal z.1) (λ k. (ap program_of (sym program) k, sym lines k))
      (tells_push (program_of s.program) s.journal t.journal log a call tells entered)

  -- the call's number is larger than those before
  pub rises_on : (journal : List Entry) (calls : List Line) → IsPrefix calls (asked a log)
      → EntersCall (program_of s.program) a call.asked s.journal journal call.receipt.number (said_of call.receipt.reply)
      → AllBelow call.receipt.number (numbers_of calls)
  rises_on journal calls begins entered =
      let m = more_by (program_of s.program) a call.asked s.journal journal call.receipt.number (said_of call.receipt.reply) entered in
      before_next (program_of s.program) a call.receipt.number calls log s.journal tells begins (let n = m.number_is in omega (arith, n))
