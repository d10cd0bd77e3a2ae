-- What a stream has come to between two lines, and where it ends.
use Rattle.std.proofs.Common.{◌≡◌, ℕ, ◌+◌, ◌<◌, false, List, [], ◌∷◌, ◌++◌, length, take, true, Option, refl, sym, ap, subst, ◌∙◌, append-nil, append_assoc, inl, inr}
use Rattle.std.proofs.lemmas.Bool.{lt-ltb}
use Rattle.std.specs.Io.KnownBytes.{Appends, Consumes}
use Rattle.gr_command.specs.Requests.{request_meant}
use Rattle.gr_command.specs.declared.command.Line.TheVariants.{Rejected}
use Rattle.gr_command.specs.declared.read.TheConstants.{LINE_LIMIT}
use Rattle.gr_command.specs.declared.request.Request.TheVariants.{Say}
use Rattle.gr_lines.proofs.Known.{Appends-nil, Appends-then, Consumes-nil, Consumes-then, Keeps-refl, known_end}
use Rattle.gr_lines.specs.Bytes.{LineRead}
use Rattle.gr_lines.specs.declared.counted.LineEnd.TheVariants.{Newline, End}
use Rattle.gr_program.specs.Programs.{Program}
use Rattle.gr_protocol.specs.Answers.{Answers, is_quit}
use Rattle.gr_protocol.specs.Streams.{AnswersAll, Conversed, QuitLast, Unserved}
use Rattle.gr_serve.proofs.Cuts.{AllPlain, AllPlain-append, lines-last, lines-line, lines-text, text_of, text_of-snoc}
use Rattle.gr_serve.proofs.SoFar.{kept_means, something_kept, nothing_kept}
use Rattle.gr_lines.specs.Devices.{Change}
use Rattle.gr_serve.specs.Debug.{DebugLeft}
use Rattle.gr_serve.specs.Lines.{lines_of}
use Rattle.gr_serve.specs.declared.debug.DebugFault.{DebugFault}
use Rattle.gr_serve.specs.declared.debug.DebugFault.TheVariants.{Source, Open, Serve, Threads}
use Rattle.gr_session.specs.declared.journal.Entry.{Entry}

abbrev NoQuit : List (List ℕ) → Type 0
NoQuit [] = Unit {0}
NoQuit (l ∷ ls) = (is_quit (request_meant l) ≡ false) × NoQuit ls

NoQuit-append : (ls ms : List (List ℕ)) → NoQuit ls → NoQuit ms → NoQuit (ls ++ ms)
NoQuit-append [] ms p q = q
NoQuit-append (l ∷ ls) ms p q = (p.0, NoQuit-append ls ms p.1 q)

QuitLast-none : (ls : List (List ℕ)) → NoQuit ls → QuitLast ls
QuitLast-none [] n = tt
QuitLast-none (l ∷ []) n = tt
QuitLast-none (l ∷ m ∷ ls) n = (n.0, QuitLast-none (m ∷ ls) n.1)

QuitLast-one : (ls : List (List ℕ)) (q : List ℕ) → NoQuit ls → QuitLast (ls ++ q ∷ [])
QuitLast-one [] q n = tt
QuitLast-one (l ∷ []) q n = (n.0, tt)
QuitLast-one (l ∷ m ∷ ls) q n = (n.0, QuitLast-one (m ∷ ls) q n.1)

too_long : (line : List ℕ) → LINE_LIMIT < length line → request_meant line ≡ Say Rejected
too_long line h = rw (lt-ltb LINE_LIMIT (length line) h) refl

-- what is kept of a line asks what the line asks
asks_the_same : (text kept : List ℕ) → kept ≡ take (LINE_LIMIT + 1) text → request_meant kept ≡ request_meant text
asks_the_same text kept e = elim (kept_means LINE_LIMIT text kept e) [
  | inl alike ↦ ap request_meant alike
  | inr long ↦ too_long kept long.0 ∙ sym (too_long text long.1)
]

-- a fault without a session leaves what it leaves of a session of the plain program
pub none_served : (fault : DebugFault) (source reader writer : Change) → DebugLeft fault source reader writer → Unserved fault source reader writer
none_served Source source reader writer h = h
none_served (Open error) source reader writer h = h
none_served (Serve fault) source reader writer h = tt
none_served Threads source reader writer h = absurd h

module _ (p : Program) (asker : ℕ) where
  all_append : (ls ms : List (List ℕ)) (old mid new : List Entry) (a b : List ℕ)
      → AnswersAll p asker ls old mid a → AnswersAll p asker ms mid new b → AnswersAll p asker (ls ++ ms) old new (a ++ b)
  all_append [] ms old mid new a b h k =
      subst {_, _} (λ (x : List ℕ). AnswersAll p asker ms old new (x ++ b)) (sym h.1) (subst {_, _} (λ (j : List Entry). AnswersAll p asker ms j new b) h.0 k)
  all_append (l ∷ ls) ms old mid new a b h k =
      (h.0, h.1, h.2 ++ b, h.3, all_append ls ms h.0 mid new h.2 b h.4 k, ap (λ x. x ++ b) h.5 ∙ append_assoc h.1 h.2 b)

  -- one line
  one : (line : List ℕ) (old new : List Entry) (out : List ℕ) → Answers p asker (request_meant line) old new out → AnswersAll p asker (line ∷ []) old new out
  one line old new out h = (new, out, [], h, (refl, refl), sym (append-nil out))

  -- whole lines were read and answered, none of them `quit`
  pub record SoFar (had has : Option (List ℕ)) (old new : List Entry) (held holds : Option (List ℕ)) : Type 0 where
    pub done : List (List ℕ)
    pub plain : AllPlain done
    pub going : NoQuit done
    pub taken : Consumes had has (text_of done)
    pub out : List ℕ
    pub answered : AnswersAll p asker done old new out
    pub written : Appends held holds out

  pub so_far_nothing : (had : Option (List ℕ)) (old : List Entry) (held : Option (List ℕ)) → SoFar had had old old held held
  so_far_nothing had old held = record {
    done = [];
    plain = tt;
    going = tt;
    taken = Consumes-nil had had (Keeps-refl had);
    out = [];
    answered = (refl, refl);
    written = Appends-nil held held (Keeps-refl held);
  }

  module _ (had has rest : Option (List ℕ)) (old mid new : List Entry) (held holds then_holds : Option (List ℕ)) (kept out : List ℕ)
      (s : SoFar had has old mid held holds) (answers : Answers p asker (request_meant kept) mid new out) (written : Appends holds then_holds out) where
    -- the answers with that to a line whose bytes are these
    answered_with : (text : List ℕ) → request_meant kept ≡ request_meant text → AnswersAll p asker (s.done ++ text ∷ []) old new (s.out ++ out)
    answered_with text same =
        all_append s.done (text ∷ []) old mid new s.out out s.answered
        (one text mid new out (subst {_, _} (λ request. Answers p asker request mid new out) same answers))

    -- a line with its newline, which is no `quit`
    pub so_far_line : LineRead has rest kept Newline → is_quit (request_meant kept) ≡ false → SoFar had rest old new held then_holds
    so_far_line read none =
        let part = read.1 in
        let same = asks_the_same part.text kept part.kept_is in
        record {
          done = s.done ++ part.text ∷ [];
          plain = AllPlain-append s.done (part.text ∷ []) s.plain (part.plain, tt);
          going = NoQuit-append s.done (part.text ∷ []) s.going (subst {_, _} (λ request. is_quit request ≡ false) same none, tt);
          taken = rw (text_of-snoc s.done part.text)
              (Consumes-then had has rest (text_of s.done) (part.text ++ 10 ∷ []) s.taken (Consumes-then has read.0 rest part.text (10 ∷ []) part.taken read.2));
          out = s.out ++ out;
          answered = answered_with part.text same;
          written = Appends-then held holds then_holds s.out out s.written written;
        }

    -- a line with its newline, with which the stream ends
    pub ends_in_quit : LineRead has rest kept Newline → is_quit (request_meant kept) ≡ true → Conversed p asker had rest old new held then_holds
    ends_in_quit read quit =
        let part = read.1 in
        let lines : lines_of (text_of s.done ++ (part.text ++ 10 ∷ [])) ≡ s.done ++ part.text ∷ [] =
        lines-text s.done (part.text ++ 10 ∷ []) s.plain ∙ ap (λ ls. s.done ++ ls) (lines-line part.text [] part.plain) in
        record {
          bytes = text_of s.done ++ (part.text ++ 10 ∷ []);
          taken = Consumes-then had has rest (text_of s.done) (part.text ++ 10 ∷ []) s.taken (Consumes-then has read.0 rest part.text (10 ∷ []) part.taken read.2);
          last = rw lines (QuitLast-one s.done part.text s.going);
          ends = inr (record {
            front = s.done;
            line = part.text;
            split = lines;
            quits = subst {_, _} (λ request. is_quit request ≡ true) (asks_the_same part.text kept part.kept_is) quit;
          });
          out = s.out ++ out;
          answered = rw lines (answered_with part.text (asks_the_same part.text kept part.kept_is));
          written = Appends-then held holds then_holds s.out out s.written written;
        }

    -- a line without a newline, which is the last
    pub ends_in_line : LineRead has rest kept End → 0 < length kept → Conversed p asker had rest old new held then_holds
    ends_in_line read some =
        let part = read.0 in
        let lines : lines_of (text_of s.done ++ part.text) ≡ s.done ++ part.text ∷ [] =
        lines-text s.done part.text s.plain ∙ ap (λ ls. s.done ++ ls) (lines-last part.text part.plain (something_kept LINE_LIMIT part.text kept part.kept_is some)) in
        record {
          bytes = text_of s.done ++ part.text;
          taken = Consumes-then had has rest (text_of s.done) part.text s.taken part.taken;
          last = rw lines (QuitLast-one s.done part.text s.going);
          ends = inl (known_end had has rest (text_of s.done) s.taken read.1);
          out = s.out ++ out;
          answered = rw lines (answered_with part.text (asks_the_same part.text kept part.kept_is));
          written = Appends-then held holds then_holds s.out out s.written written;
        }

  -- the bytes end after a newline
  pub ends_after : (had has rest : Option (List ℕ)) (old new : List Entry) (held holds : Option (List ℕ)) (kept : List ℕ)
      → SoFar had has old new held holds → LineRead has rest kept End → length kept ≡ 0 → Conversed p asker had rest old new held holds
  ends_after had has rest old new held holds kept s read none =
      let part = read.0 in
      let nothing : part.text ≡ [] = nothing_kept LINE_LIMIT part.text kept part.kept_is none in
      let lines : lines_of (text_of s.done ++ []) ≡ s.done = lines-text s.done [] s.plain ∙ append-nil s.done in
      record {
        bytes = text_of s.done ++ [];
        taken = Consumes-then had has rest (text_of s.done) [] s.taken (rw nothing at part.taken);
        last = rw lines (QuitLast-none s.done s.going);
        ends = inl (known_end had has rest (text_of s.done) s.taken read.1);
        out = s.out;
        answered = rw lines s.answered;
        written = s.written;
      }
