-- Answers to lines, one after another.
use Rattle.std.proofs.Common.{◌≡◌, ℕ, suc, codes, true, false, List, [], ◌∷◌, ◌++◌, length, refl, sym, ap, subst, ◌∙◌, append-nil, append_assoc, arith, Ok, Err, OnOk}
use Rattle.std.specs.declared.option.Option.{Option}
use Rattle.std.specs.declared.result.Result.{Result}
use Rattle.gr_program.specs.Programs.{Program}
use Rattle.gr_command.specs.declared.command.Command.{Command}
use Rattle.gr_session.specs.declared.journal.Entry.{Entry}
use Rattle.gr_session.specs.Entries.{EntersCommand}
use Rattle.std.specs.Io.KnownBytes.{Keeps}
use Rattle.gr_command.specs.declared.command.Line.{Line}
use Rattle.gr_command.specs.declared.command.Line.TheVariants as says
use Rattle.gr_command.specs.Commands.{meaning}
use Rattle.gr_serve.specs.Lines.{is_quit}
use Rattle.gr_serve.specs.Replies.{Answer, Replied, answer_text}
use Rattle.gr_command.specs.Replies.{Said}
use Rattle.gr_serve.specs.Stream.{output_at, output, commands_at, commands, Gets, of_session, Answered, AnsweredLine, NoQuit, QuitLast}
use Rattle.gr_serve.specs.Served.{Served, Begun}
use Rattle.gr_serve.specs.Clients.{IsAnswered}
use Rattle.gr_lines.proofs.Known.{Keeps-refl, Appends-nil, Appends-then, Appends-kept}

pub NoQuit-append : (ls ms : List (List ℕ)) → NoQuit ls → NoQuit ms → NoQuit (ls ++ ms)
NoQuit-append [] ms p q = q
NoQuit-append (l ∷ ls) ms p q = (p.0, NoQuit-append ls ms p.1 q)

pub QuitLast-none : (ls : List (List ℕ)) → NoQuit ls → QuitLast ls
QuitLast-none [] n = tt
QuitLast-none (l ∷ []) n = tt
QuitLast-none (l ∷ m ∷ ls) n = (n.0, QuitLast-none (m ∷ ls) n.1)

pub QuitLast-one : (ls : List (List ℕ)) (q : List ℕ) → NoQuit ls → QuitLast (ls ++ q ∷ [])
QuitLast-one [] q n = tt
QuitLast-one (l ∷ []) q n = (n.0, tt)
QuitLast-one (l ∷ m ∷ ls) q n = (n.0, QuitLast-one (m ∷ ls) q n.1)

commands_at-append : (m : Line) (cs ds : List Command) → is_quit m ≡ false → commands_at m (cs ++ ds) ≡ commands_at m cs ++ ds
commands_at-append says.Blank cs ds n = refl
commands_at-append says.Rejected cs ds n = refl
commands_at-append says.Quit cs ds n = cc
commands_at-append (says.Command c) cs ds n = refl

pub commands-append : (ls ms : List (List ℕ)) → NoQuit ls → commands (ls ++ ms) ≡ commands ls ++ commands ms
commands-append [] ms n = refl
commands-append (l ∷ ls) ms n = ap (λ cs. commands_at (meaning l) cs) (commands-append ls ms n.1) ∙ commands_at-append (meaning l) (commands ls) (commands ms) n.0

output_at-append : (m : Line) (f g : List Answer → List ℕ) (cs : List Command) (more : List Answer) (rest : List ℕ) → is_quit m ≡ false
    → ((xs : List Answer) → length xs ≡ length cs → f (xs ++ more) ≡ g xs ++ rest)
    → (xs : List Answer) → length xs ≡ length (commands_at m cs) → output_at m f (xs ++ more) ≡ output_at m g xs ++ rest
output_at-append says.Blank f g cs more rest n h xs e = h xs e
output_at-append says.Rejected f g cs more rest n h xs e = rw (h xs e) (sym (append_assoc (codes "? bad command\n") (g xs) rest))
output_at-append says.Quit f g cs more rest n h xs e = cc
output_at-append (says.Command c) f g cs more rest n h [] e = absurd (omega (arith, e))
output_at-append (says.Command c) f g cs more rest n h (x ∷ xs) e = rw (h xs (omega (arith, e))) (sym (append_assoc (answer_text x) (g xs) rest))

pub output-append : (ls ms : List (List ℕ)) (xs ys : List Answer) → NoQuit ls → length xs ≡ length (commands ls) → output (ls ++ ms) (xs ++ ys) ≡ output ls xs ++ output ms ys
output-append [] ms [] ys n e = refl
output-append [] ms (x ∷ xs) ys n e = absurd (omega (arith, e))
output-append (l ∷ ls) ms xs ys n e =
    output_at-append (meaning l) (output (ls ++ ms)) (output ls) (commands ls) ys (output ms ys) n.0 (λ zs h. output-append ls ms zs ys n.1 h) xs e

pub Answered-length : {S : Type 0} (gets : Gets S) (old : S) (cs : List Command) (xs : List Answer) (new : S) → Answered gets old cs xs new → length xs ≡ length cs
Answered-length gets old [] [] new h = refl
Answered-length gets old [] (x ∷ xs) new h = absurd h
Answered-length gets old (c ∷ cs) [] new h = absurd h
Answered-length gets old (c ∷ cs) (x ∷ xs) new h = ap suc (Answered-length gets h.0 cs xs new h.2)

pub Answered-append : {S : Type 0} (gets : Gets S) (old : S) (cs : List Command) (xs : List Answer) (mid : S) (ds : List Command) (ys : List Answer) (new : S)
    → Answered gets old cs xs mid → Answered gets mid ds ys new → Answered gets old (cs ++ ds) (xs ++ ys) new
Answered-append {S = S} gets old [] [] mid ds ys new h k = subst (λ (j : S). Answered gets j ds ys new) h k
Answered-append gets old [] (x ∷ xs) mid ds ys new h k = absurd h
Answered-append gets old (c ∷ cs) [] mid ds ys new h k = absurd h
Answered-append gets old (c ∷ cs) (x ∷ xs) mid ds ys new h k = (h.0, h.1, Answered-append gets h.0 cs xs mid ds ys new h.2 k)

pub Served-none : {S : Type 0} (gets : Gets S) (old : S) (held : Option (List ℕ)) → Served gets [] old old held held
Served-none gets old held = record { answers = []; answered = refl; written = Appends-nil held held (Keeps-refl held) }

pub Served-append : {S : Type 0} {gets : Gets S} {ls ms : List (List ℕ)} {old mid new : S} {a b c : Option (List ℕ)}
    → NoQuit ls → Served gets ls old mid a b → Served gets ms mid new b c → Served gets (ls ++ ms) old new a c
Served-append {gets = gets} {ls = ls} {ms = ms} {old = old} {mid = mid} {new = new} {a = a} {b = b} {c = c} n s t = record {
  answers = s.answers ++ t.answers;
  answered = rw (commands-append ls ms n) (Answered-append gets old (commands ls) s.answers mid (commands ms) t.answers new s.answered t.answered);
  written = rw (output-append ls ms s.answers t.answers n (Answered-length gets old (commands ls) s.answers mid s.answered))
      (Appends-then a b c (output ls s.answers) (output ms t.answers) s.written t.written);
}

-- what stays as it was is served as before
pub Served-kept : {S : Type 0} {gets : Gets S} {ls : List (List ℕ)} {old mid new : S} {a b c : Option (List ℕ)}
    → Served gets ls old mid a b → new ≡ mid → Keeps b c → Served gets ls old new a c
Served-kept {gets = gets} {ls = ls} {old = old} {a = a} {b = b} {c = c} s same kept = record {
  answers = s.answers;
  answered = rw same s.answered;
  written = Appends-kept a b c (output ls s.answers) s.written kept;
}

pub quit_is : (m : Line) → is_quit m ≡ true → m ≡ says.Quit
quit_is says.Blank h = cc
quit_is says.Rejected h = cc
quit_is says.Quit h = refl
quit_is (says.Command c) h = cc

-- after `quit` nothing is read
pub Served-quit : {S : Type 0} {gets : Gets S} {q : List ℕ} {old new : S} {a b : Option (List ℕ)} (more : List (List ℕ))
    → is_quit (meaning q) ≡ true → Served gets (q ∷ []) old new a b → Served gets (q ∷ more) old new a b
Served-quit {q = q} more h s = let e : meaning q ≡ says.Quit = quit_is (meaning q) h in record {
  answers = s.answers;
  answered = rw e (rw e at s.answered);
  written = rw e (rw e at s.written);
}

-- lines with one meaning are served alike
pub Served-same : {S : Type 0} {gets : Gets S} {k l : List ℕ} {old new : S} {a b : Option (List ℕ)}
    → meaning k ≡ meaning l → Served gets (k ∷ []) old new a b → Served gets (l ∷ []) old new a b
Served-same e s = record { answers = s.answers; answered = rw (← e) s.answered; written = rw (← e) s.written }

pub Begun-same : {S : Type 0} {gets : Gets S} {k l : List ℕ} {old new : S} {a b : Option (List ℕ)}
    → meaning k ≡ meaning l → Begun gets k old new a b → Begun gets l old new a b
Begun-same e s = record { answers = s.answers; answered = rw (← e) s.answered; count = s.count; written = rw (← e) s.written }

-- what came of one command, with its text or without memory for one
pub told : {S A E : Type 0} (gets : Gets S) (command : Command) (old new : S) (before text : List ℕ) (result : Result A E) (a : Answer)
    → gets old command a new → before ≡ [] → OnOk result (text ≡ before ++ answer_text a) → IsAnswered gets (says.Command command) old new text result
told gets command old new before text (Ok v) a h none e =
    let put : text ≡ answer_text a = rw none at e in
    record { answers = a ∷ []; answered = (new, h, refl); text_is = put ∙ sym (append-nil (answer_text a)) }
told gets command old new before text (Err e) a h none t = record { answers = a ∷ []; answered = (new, h, refl) }

-- an entry of a session is numbered by its place
pub entered : (program : Program) (asker : ℕ) (command : Command) (old new : List Entry) (number : ℕ) (said : Said)
    → EntersCommand program asker command old new number said → of_session program asker old command (Replied said) new
entered program asker command old new number said h =
    record { memory = h.memory; entered = h.entered; number_is = refl; before = h.before; stood = h.stood; after = h.after; meant = h.meant }

-- of the answer to a line nothing is written yet
pub begun_none : {S : Type 0} (gets : Gets S) (line : List ℕ) (old new : S) (held : Option (List ℕ))
    → AnsweredLine gets (meaning line) old new → Begun gets line old new held held
begun_none gets line old new held h = record {
  answers = h.answers;
  answered = h.answered;
  count = 0;
  written = Appends-nil held held (Keeps-refl held);
}
