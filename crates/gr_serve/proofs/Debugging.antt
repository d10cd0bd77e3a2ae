-- From a source to the fault of its session.
use Rattle.std.proofs.Common.{◌≡◌, ◌↔◌, ℕ, ◌<◌, ◌≤◌, List, [], ◌++◌, length, refl, sym, subst, ap, ◌∙◌, IfSome, inl, inr, None, Some, append-nil, length-append, length-take, take, ◌+◌, arith}
use Rattle.std.specs.declared.option.Option.{Option}
use Rattle.std.specs.Io.KnownBytes.{Consumes, IsAtEnd}
use Rattle.gr_scan.specs.declared.scan.ScanError.TheVariants as scanning
use Rattle.gr_scan.specs.declared.scan.TheConstants.{TEXT_LIMIT}
use Rattle.gr_program.specs.Programs.{Program}
use Rattle.gr_session.specs.declared.journal.Entry.{Entry}
use Rattle.gr_session.specs.declared.open.OpenError.{OpenError}
use Rattle.gr_session.specs.declared.open.OpenError.TheVariants as opening
use Rattle.gr_session.specs.Entries.{IsLegal}
use Rattle.gr_session.specs.Source.{IsProgramOf}
use Rattle.gr_session.specs.Refused.{NoProgram, SaysWhy}
use Rattle.gr_serve.specs.declared.stream.ServeFault.{ServeFault}
use Rattle.gr_serve.specs.declared.stream.ServeFault.TheVariants.{Read, Write, Memory}
use Rattle.gr_serve.specs.declared.debug.DebugFault.{DebugFault}
use Rattle.gr_serve.specs.declared.debug.DebugFault.TheVariants.{Source, Open, Serve, Threads}
use Rattle.gr_lines.specs.Devices.{Device, Change, Fails}
use Rattle.gr_serve.specs.Fault.{Left}
use Rattle.gr_serve.specs.Stream.{of_session}
use Rattle.gr_serve.specs.Served.{Served, ServedPart}
use Rattle.gr_serve.specs.Debug.{SourceRead, ReadInPart, Opened, Unopened, Stopped, SourceLeft, DebugLeft, BlamesSource, BlamesDevice}
use Rattle.gr_lines.proofs.Known.{Keeps-refl}
use Rattle.gr_serve.proofs.Legal.{legal_empty, legal_answered}

-- a text that is too long has no tokens, and so no program
past : (n : ℕ) (text : List ℕ) → n < length text → length text ≤ n → ⊥
past n text long short = absurd (omega arith)

pub long_source : (text : List ℕ) → TEXT_LIMIT < length text → NoProgram text
long_source text long = λ p h. past TEXT_LIMIT text long h.scanned.short

-- the refusal of a text that is too long says so
long_refused : (error : OpenError) (all : List ℕ) → error ≡ opening.Scan scanning.TooLong None → TEXT_LIMIT < length all → SaysWhy error all
long_refused error all e long =
    subst (λ f. SaysWhy f all) (sym e) (record { fault = long; place = refl; none = long_source all long })

longer : (n m k : ℕ) → n < m → n < m + k
longer n m k h = omega arith

-- all that there was, where it is known, is the text, or is too long as the text is
all_of : (had has : Option (List ℕ)) (text : List ℕ) (P : List ℕ → Type 0) → SourceRead had has text
    → (IsAtEnd has → P text) → (TEXT_LIMIT < length text → (all : List ℕ) → TEXT_LIMIT < length all → P all) → IfSome had P
all_of None has text P h ends long = tt
all_of (Some all) None text P h ends long = absurd h.taken
all_of (Some all) (Some rest) text P h ends long = elim h.enough [
  | inl e ↦ rw (h.taken ∙ ap (λ t. text ++ t) e ∙ append-nil text) (ends e)
  | inr more ↦ long more all (rw (h.taken, length-append text rest) (longer TEXT_LIMIT (length text) (length rest) more))
]

known : (had has : Option (List ℕ)) (text : List ℕ) → Consumes had has text → IsAtEnd has → IfSome had (λ all. all ≡ text)
known None has text h e = tt
known (Some all) None text h e = absurd h
known (Some all) (Some rest) text h e = h ∙ ap (λ t. text ++ t) e ∙ append-nil text

pub opened : (had has : Option (List ℕ)) (text : List ℕ) (program : Program) → SourceRead had has text → IsProgramOf text program → Opened had has program
opened had has text program h is = record {
  text = text;
  taken = h.taken;
  bound = h.bound;
  whole = elim h.enough [
    | inl e ↦ known had has text h.taken e
    | inr long ↦ absurd (long_source text long program is)
  ];
  is_program = is;
}

pub unopened : (error : OpenError) (had has : Option (List ℕ)) (text : List ℕ) → SourceRead had has text → SaysWhy error text
    → (error ≡ opening.Scan scanning.TooLong None) ↔ (TEXT_LIMIT < length text) → Unopened error had has
unopened error had has text h says when = record {
  text = text;
  taken = h.taken;
  bound = h.bound;
  refused = says;
  whole = all_of had has text (λ all. SaysWhy error all) h (λ e. says) (λ more all long. long_refused error all (when.1 more) long);
}

-- a text that may still grow, and some bytes of a block
pub one_block_more : (text block : List ℕ) (n limit most : ℕ) → length text ≤ limit → length block ≤ most → length (text ++ take n block) ≤ limit + most
one_block_more text block n limit most few short =
    let one = length-take n block in
    let both = length-append text (take n block) in
    omega (arith, one, both, few, short)

-- a source that was opened was read in part
pub read_in_part : {had has : Option (List ℕ)} {program : Program} → Opened had has program → ReadInPart had has
read_in_part o = record { text = o.text; taken = o.taken; bound = o.bound }

-- without a session nothing was done
pub unserved : (fault : DebugFault) (source : Change) (reader writer : Device) → SourceLeft fault source
    → DebugLeft fault source (record { old = reader; new = reader }) (record { old = writer; new = writer })
unserved Source source reader writer h = (h, (Keeps-refl reader.bytes, Keeps-refl writer.bytes))
unserved (Open error) source reader writer h = (h, (Keeps-refl reader.bytes, Keeps-refl writer.bytes))
unserved (Serve Read) source reader writer h = absurd h
unserved (Serve Write) source reader writer h = absurd h
unserved (Serve Memory) source reader writer h = inl (h, (Keeps-refl reader.bytes, Keeps-refl writer.bytes))
unserved Threads source reader writer h = absurd h

-- a fault of the source names no device but the source
pub source_blamed : (fault : DebugFault) (source : Change) (reader writer : Device) → SourceLeft fault source → BlamesSource fault source
    → BlamesDevice fault source (record { old = reader; new = reader }) (record { old = writer; new = writer })
source_blamed Source source reader writer h b = (b, (refl, refl))
source_blamed (Open error) source reader writer h b = (b, (refl, refl))
source_blamed (Serve Read) source reader writer h b = absurd h
source_blamed (Serve Write) source reader writer h b = absurd h
source_blamed (Serve Memory) source reader writer h b = (b, (refl, refl))
source_blamed Threads source reader writer h b = absurd h

-- the journal after lines is legal
pub legal_served : {program : Program} {lines : List (List ℕ)} {journal : List Entry} {held holds : Option (List ℕ)} → Served (of_session program 1) lines [] journal held holds → IsLegal program 1 journal
legal_served {program = program} {journal = journal} s = legal_answered program 1 1 [] _ s.answers journal (omega arith) (omega arith) (legal_empty program 1) s.answered

legal_part : {program : Program} {had has : Option (List ℕ)} {journal : List Entry} {held holds : Option (List ℕ)} → ServedPart (of_session program 1) had has [] journal held holds → IsLegal program 1 journal
legal_part {program = program} {journal = journal} s = legal_answered program 1 1 s.mid _ s.begun.answers journal (omega arith) (omega arith) (legal_served s.served) s.begun.answered

pub legal_left : (fault : ServeFault) (program : Program) (had has : Option (List ℕ)) (journal : List Entry) (held holds : Option (List ℕ)) (reader_failed writer_failed : Type 0)
    → Left fault (of_session program 1) had has [] journal held holds reader_failed writer_failed → IsLegal program 1 journal
legal_left Read program had has journal held holds reader_failed writer_failed h = legal_served h.0.served
legal_left Write program had has journal held holds reader_failed writer_failed h = legal_part h.0
legal_left Memory program had has journal held holds reader_failed writer_failed (inl h) = legal_served h.served
legal_left Memory program had has journal held holds reader_failed writer_failed (inr (inl h)) = legal_served h.served
legal_left Memory program had has journal held holds reader_failed writer_failed (inr (inr h)) = legal_part h

stopped_left : (fault : ServeFault) (source reader writer : Change) → Stopped fault source reader writer → DebugLeft (Serve fault) source reader writer
stopped_left Read source reader writer s = s
stopped_left Write source reader writer s = s
stopped_left Memory source reader writer s = inr s

-- the stream's fault is the session's
pub stopped : (fault : ServeFault) (source reader writer : Change) (program : Program) (journal : List Entry)
    → Opened source.old.bytes source.new.bytes program
    → Left fault (of_session program 1) reader.old.bytes reader.new.bytes [] journal writer.old.bytes writer.new.bytes (Fails reader) (Fails writer)
    → DebugLeft (Serve fault) source reader writer
stopped fault source reader writer program journal o l =
    let legal = legal_left fault program reader.old.bytes reader.new.bytes journal writer.old.bytes writer.new.bytes (Fails reader) (Fails writer) l in
    let s : Stopped fault source reader writer = record { program = program; opened = o; journal = journal; left = l; legal = legal } in
    stopped_left fault source reader writer s
