-- What a stream has come to between two lines, and where it can end.
use Rattle.std.proofs.Common.{◌≡◌, ℕ, ◌+◌, ◌≤◌, ◌<◌, ◌==◌, zero, suc, nat_lt, Bool, true, false, List, [], ◌∷◌, ◌++◌, length, take, refl, sym, ap, subst, ◌∙◌, append-nil, append_assoc, arith, None, Some, IfSome, OnSome, inl, inr, ◌⊎◌}
use Rattle.std.proofs.lemmas.List.{take_all, length-take}
use Rattle.std.proofs.lemmas.Bool.{ltb-true, lt-ltb, ltb-false}
use Rattle.std.specs.declared.option.Option.{Option}
use Rattle.std.specs.Io.KnownBytes.{Consumes, IsAtEnd}
use Rattle.gr_command.specs.declared.read.TheConstants.{LINE_LIMIT}
use Rattle.gr_command.specs.declared.command.Line.TheVariants.{Rejected}
use Rattle.gr_lines.specs.declared.counted.LineEnd.TheVariants.{Newline, End}
use Rattle.gr_command.specs.Commands.{meaning}
use Rattle.gr_serve.specs.Lines.{is_quit, lines_of}
use Rattle.gr_lines.specs.Bytes.{Plain, Taken, LineRead}
use Rattle.gr_lines.specs.Devices.{HasFailed, one_more, Device, Change, NeverFails}
use Rattle.gr_serve.specs.Stream.{Gets, NoQuit, QuitLast}
use Rattle.gr_serve.specs.Served.{Served, Begun, ServedAll, ServedWhole, ServedBefore, ServedPart}
use Rattle.gr_serve.specs.Fault.{Untouched, LineLeft, Left, Blames, BlamesWriter}
use Rattle.gr_serve.specs.declared.stream.ServeFault.{ServeFault}
use Rattle.gr_serve.specs.declared.stream.ServeFault.TheVariants.{Read, Write, Memory}
use Rattle.gr_lines.proofs.Known.{Keeps-refl, Consumes-nil, Consumes-then, known_end}
use Rattle.gr_serve.proofs.Cuts.{text_of, AllPlain, AllPlain-append, text_of-snoc, lines-line, lines-last, whole-last, lines-text, whole-text}
use Rattle.gr_serve.proofs.Answers.{QuitLast-none, QuitLast-one, NoQuit-append, Served-none, Served-kept, Served-append, Served-quit, Served-same, Begun-same}

-- whole lines were read and served, none of them `quit`
pub record SoFar {S : Type 0} (gets : Gets S) (had has : Option (List ℕ)) (old new : S) (held holds : Option (List ℕ)) : Type 0 where
  pub done : List (List ℕ)
  pub plain : AllPlain done
  pub going : NoQuit done
  pub taken : Consumes had has (text_of done)
  pub served : Served gets done old new held holds

pub SoFar-none : {S : Type 0} (gets : Gets S) (had : Option (List ℕ)) (old : S) (held : Option (List ℕ)) → SoFar gets had had old old held held
SoFar-none gets had old held = record {
  done = [];
  plain = tt;
  going = tt;
  taken = Consumes-nil had had (Keeps-refl had);
  served = Served-none gets old held;
}

true_or_false : (b : Bool) → (b ≡ true) ⊎ (b ≡ false)
true_or_false true = inl refl
true_or_false false = inr refl

-- what is kept of a line says what the line says
pub kept_means : (n : ℕ) (text kept : List ℕ) → kept ≡ take (n + 1) text → (kept ≡ text) ⊎ ((n < length kept) × (n < length text))
kept_means n text kept e = elim (true_or_false (nat_lt n (length text))) [
  | inl t ↦ let more : n < length text = ltb-true n (length text) t in inr (omega (arith, length-take (n + 1) text, ap length e), more)
  | inr f ↦ let less : length text ≤ n = omega (arith, ltb-false n (length text) f) in inl (e ∙ take_all (n + 1) text (omega arith))
]

too_long : (line : List ℕ) → LINE_LIMIT < length line → meaning line ≡ Rejected
too_long line h = rw (lt-ltb LINE_LIMIT (length line) h) refl

pub meaning-kept : (text kept : List ℕ) → kept ≡ take (LINE_LIMIT + 1) text → meaning kept ≡ meaning text
meaning-kept text kept e = elim (kept_means LINE_LIMIT text kept e) [
  | inl alike ↦ ap meaning alike
  | inr long ↦ too_long kept long.0 ∙ sym (too_long text long.1)
]

pub nothing_kept : (n : ℕ) (text kept : List ℕ) → kept ≡ take (n + 1) text → length kept ≡ 0 → text ≡ []
nothing_kept n [] kept e z = refl
nothing_kept n (t ∷ ts) kept e z = absurd (omega (arith, length-take (n + 1) (t ∷ ts), ap length e))

pub something_kept : (n : ℕ) (text kept : List ℕ) → kept ≡ take (n + 1) text → 0 < length kept → 0 < length text
something_kept n text kept e z = omega (arith, length-take (n + 1) text, ap length e)

-- a line with its newline was read and served, and was no `quit`
pub SoFar-line : {S : Type 0} {gets : Gets S} {had has rest : Option (List ℕ)} {old mid new : S} {a b c : Option (List ℕ)} {kept : List ℕ}
    → SoFar gets had has old mid a b → LineRead has rest kept Newline → Served gets (kept ∷ []) mid new b c → is_quit (meaning kept) ≡ false
    → SoFar gets had rest old new a c
SoFar-line {gets = gets} {had = had} {has = has} {rest = rest} {kept = kept} s r t n =
    let p = r.1 in
    let same : meaning kept ≡ meaning p.text = meaning-kept p.text kept p.kept_is in
    record {
      done = s.done ++ p.text ∷ [];
      plain = AllPlain-append s.done (p.text ∷ []) s.plain (p.plain, tt);
      going = NoQuit-append s.done (p.text ∷ []) s.going (rw (← same) n, tt);
      taken = rw (text_of-snoc s.done p.text)
          (Consumes-then had has rest (text_of s.done) (p.text ++ 10 ∷ []) s.taken (Consumes-then has r.0 rest p.text (10 ∷ []) p.taken r.2));
      served = Served-append s.going s.served (Served-same same t);
    }

-- the reader fails, or memory, within a line
pub SoFar-broken : {S : Type 0} {gets : Gets S} {had has rest : Option (List ℕ)} {old new : S} {a b : Option (List ℕ)}
    → SoFar gets had has old new a b → Taken has rest → ServedWhole gets had rest old new a b
SoFar-broken {gets = gets} {had = had} {has = has} {rest = rest} {old = old} {new = new} {a = a} {b = b} s p = record {
  bytes = text_of s.done ++ p.text;
  taken = Consumes-then had has rest (text_of s.done) p.text s.taken p.taken;
  going = rw (whole-text s.done p.text s.plain, whole-last p.text p.plain, append-nil s.done) s.going;
  served = rw (whole-text s.done p.text s.plain, whole-last p.text p.plain, append-nil s.done) s.served;
}

-- all the bytes that there were, where they are known
all_read : (had has : Option (List ℕ)) (bytes : List ℕ) → Consumes had has bytes → OnSome had (IsAtEnd has) → IfSome had (λ input. input ≡ bytes)
all_read None has bytes h e = tt
all_read (Some xs) None bytes h e = absurd h
all_read (Some xs) (Some ys) bytes h e = h ∙ ap (λ t. bytes ++ t) e ∙ append-nil bytes

if_all : (had : Option (List ℕ)) (bytes : List ℕ) (P : List ℕ → Type 0) → IfSome had (λ input. input ≡ bytes) → P bytes → IfSome had P
if_all None bytes P h p = tt
if_all (Some xs) bytes P h p = subst P (sym h) p

-- what was known is what was read and some rest
had_more : (had has : Option (List ℕ)) (bytes : List ℕ) (P : List ℕ → Type 0) → Consumes had has bytes → ((rest : List ℕ) → P (bytes ++ rest)) → IfSome had P
had_more None has bytes P h p = tt
had_more (Some xs) None bytes P h p = absurd h
had_more (Some xs) (Some ys) bytes P h p = subst P (sym h) (p ys)

ends : {S : Type 0} {gets : Gets S} {had has : Option (List ℕ)} {old new : S} {a b : Option (List ℕ)} (bytes : List ℕ)
    → Consumes had has bytes → OnSome had (IsAtEnd has) → QuitLast (lines_of bytes) → Served gets (lines_of bytes) old new a b → ServedAll gets had has old new a b
ends {gets = gets} {had = had} {has = has} {old = old} {new = new} {a = a} {b = b} bytes t e l s = record {
  bytes = bytes;
  taken = t;
  last = l;
  served = s;
  whole = if_all had bytes (λ input. Served gets (lines_of input) old new a b) (all_read had has bytes t e) s;
}

-- the bytes end after a newline
pub SoFar-end : {S : Type 0} {gets : Gets S} {had has rest : Option (List ℕ)} {old new : S} {a b : Option (List ℕ)} {kept : List ℕ}
    → SoFar gets had has old new a b → LineRead has rest kept End → length kept ≡ 0 → ServedAll gets had rest old new a b
SoFar-end {gets = gets} {had = had} {has = has} {rest = rest} {old = old} {new = new} {a = a} {b = b} {kept = kept} s r z =
    let p = r.0 in
    let none : p.text ≡ [] = nothing_kept LINE_LIMIT p.text kept p.kept_is z in
    let lines : lines_of (text_of s.done ++ []) ≡ s.done = lines-text s.done [] s.plain ∙ append-nil s.done in
    ends (text_of s.done ++ []) (Consumes-then had has rest (text_of s.done) [] s.taken (rw none at p.taken)) (known_end had has rest (text_of s.done) s.taken r.1) (rw lines (QuitLast-none s.done s.going)) (rw lines s.served)

-- the bytes end in a line with no newline
pub SoFar-last : {S : Type 0} {gets : Gets S} {had has rest : Option (List ℕ)} {old mid new : S} {a b c : Option (List ℕ)} {kept : List ℕ}
    → SoFar gets had has old mid a b → LineRead has rest kept End → 0 < length kept → Served gets (kept ∷ []) mid new b c → ServedAll gets had rest old new a c
SoFar-last {gets = gets} {had = had} {has = has} {rest = rest} {kept = kept} s r z t =
    let p = r.0 in
    let lines : lines_of (text_of s.done ++ p.text) ≡ s.done ++ p.text ∷ [] =
    lines-text s.done p.text s.plain ∙ ap (λ ls. s.done ++ ls) (lines-last p.text p.plain (something_kept LINE_LIMIT p.text kept p.kept_is z)) in
    ends (text_of s.done ++ p.text) (Consumes-then had has rest (text_of s.done) p.text s.taken p.taken) (known_end had has rest (text_of s.done) s.taken r.1)
    (rw lines (QuitLast-one s.done p.text s.going))
    (rw lines (Served-append s.going s.served (Served-same (meaning-kept p.text kept p.kept_is) t)))

-- a line was `quit`
quits : {S : Type 0} {gets : Gets S} {had has : Option (List ℕ)} {old new : S} {a b : Option (List ℕ)} (done : List (List ℕ)) (line : List ℕ)
    → AllPlain done → Plain line → NoQuit done
    → Consumes had has (text_of done ++ (line ++ 10 ∷ [])) → ((more : List (List ℕ)) → Served gets (done ++ line ∷ more) old new a b) → ServedAll gets had has old new a b
quits {gets = gets} {had = had} {has = has} {old = old} {new = new} {a = a} {b = b} done line q p n t s = record {
  bytes = text_of done ++ (line ++ 10 ∷ []);
  taken = t;
  last = rw (lines-text done (line ++ 10 ∷ []) q, lines-line line [] p) (QuitLast-one done line n);
  served = rw (lines-text done (line ++ 10 ∷ []) q, lines-line line [] p) (s []);
  whole = had_more had has (text_of done ++ (line ++ 10 ∷ [])) (λ input. Served gets (lines_of input) old new a b) t
      (λ rest. rw (append_assoc (text_of done) (line ++ 10 ∷ []) rest, append_assoc line (10 ∷ []) rest, lines-text done (line ++ 10 ∷ rest) q, lines-line line rest p) (s (lines_of rest)));
}

pub SoFar-quit : {S : Type 0} {gets : Gets S} {had has rest : Option (List ℕ)} {old mid new : S} {a b c : Option (List ℕ)} {kept : List ℕ}
    → SoFar gets had has old mid a b → LineRead has rest kept Newline → Served gets (kept ∷ []) mid new b c → is_quit (meaning kept) ≡ true
    → ServedAll gets had rest old new a c
SoFar-quit {gets = gets} {had = had} {has = has} {rest = rest} {kept = kept} s r t n =
    let p = r.1 in
    let same : meaning kept ≡ meaning p.text = meaning-kept p.text kept p.kept_is in
    quits s.done p.text s.plain p.plain s.going
    (Consumes-then had has rest (text_of s.done) (p.text ++ 10 ∷ []) s.taken (Consumes-then has r.0 rest p.text (10 ∷ []) p.taken r.2))
    (λ more. Served-append s.going s.served (Served-quit more (rw (← same) n) (Served-same same t)))

-- the answer to a line was begun
pub SoFar-begun : {S : Type 0} {gets : Gets S} {had has rest : Option (List ℕ)} {old mid new : S} {a b c : Option (List ℕ)} {kept : List ℕ}
    → SoFar gets had has old mid a b → LineRead has rest kept Newline → Begun gets kept mid new b c → ServedPart gets had rest old new a c
SoFar-begun {gets = gets} {had = had} {has = has} {rest = rest} {old = old} {mid = mid} {new = new} {a = a} {b = b} {c = c} {kept = kept} s r t =
    let p = r.1 in
    record {
      bytes = text_of s.done ++ (p.text ++ 10 ∷ []);
      taken = Consumes-then had has rest (text_of s.done) (p.text ++ 10 ∷ []) s.taken (Consumes-then has r.0 rest p.text (10 ∷ []) p.taken r.2);
      done = s.done;
      line = p.text;
      lines = lines-text s.done (p.text ++ 10 ∷ []) s.plain ∙ ap (λ ls. s.done ++ ls) (lines-line p.text [] p.plain);
      going = s.going;
      mid = mid;
      middle = b;
      served = s.served;
      begun = Begun-same (meaning-kept p.text kept p.kept_is) t;
    }

pub SoFar-begun_last : {S : Type 0} {gets : Gets S} {had has rest : Option (List ℕ)} {old mid new : S} {a b c : Option (List ℕ)} {kept : List ℕ}
    → SoFar gets had has old mid a b → LineRead has rest kept End → 0 < length kept → Begun gets kept mid new b c → ServedPart gets had rest old new a c
SoFar-begun_last {gets = gets} {had = had} {has = has} {rest = rest} {old = old} {mid = mid} {new = new} {a = a} {b = b} {c = c} {kept = kept} s r z t =
    let p = r.0 in
    record {
      bytes = text_of s.done ++ p.text;
      taken = Consumes-then had has rest (text_of s.done) p.text s.taken p.taken;
      done = s.done;
      line = p.text;
      lines = lines-text s.done p.text s.plain ∙ ap (λ ls. s.done ++ ls) (lines-last p.text p.plain (something_kept LINE_LIMIT p.text kept p.kept_is z));
      going = s.going;
      mid = mid;
      middle = b;
      served = s.served;
      begun = Begun-same (meaning-kept p.text kept p.kept_is) t;
    }

-- a line was read and not asked
pub SoFar-before : {S : Type 0} {gets : Gets S} {had has rest : Option (List ℕ)} {old mid new : S} {a b c : Option (List ℕ)} {kept : List ℕ}
    → SoFar gets had has old mid a b → LineRead has rest kept Newline → Untouched mid new b c → ServedBefore gets had rest old new a c
SoFar-before {gets = gets} {had = had} {has = has} {rest = rest} {old = old} {mid = mid} {new = new} {a = a} {b = b} {c = c} s r u =
    let p = r.1 in
    record {
      bytes = text_of s.done ++ (p.text ++ 10 ∷ []);
      taken = Consumes-then had has rest (text_of s.done) (p.text ++ 10 ∷ []) s.taken (Consumes-then has r.0 rest p.text (10 ∷ []) p.taken r.2);
      done = s.done;
      line = p.text;
      lines = lines-text s.done (p.text ++ 10 ∷ []) s.plain ∙ ap (λ ls. s.done ++ ls) (lines-line p.text [] p.plain);
      going = s.going;
      served = Served-kept s.served u.0 u.1;
    }

pub SoFar-before_last : {S : Type 0} {gets : Gets S} {had has rest : Option (List ℕ)} {old mid new : S} {a b c : Option (List ℕ)} {kept : List ℕ}
    → SoFar gets had has old mid a b → LineRead has rest kept End → 0 < length kept → Untouched mid new b c → ServedBefore gets had rest old new a c
SoFar-before_last {gets = gets} {had = had} {has = has} {rest = rest} {old = old} {mid = mid} {new = new} {a = a} {b = b} {c = c} {kept = kept} s r z u =
    let p = r.0 in
    record {
      bytes = text_of s.done ++ p.text;
      taken = Consumes-then had has rest (text_of s.done) p.text s.taken p.taken;
      done = s.done;
      line = p.text;
      lines = lines-text s.done p.text s.plain ∙ ap (λ ls. s.done ++ ls) (lines-last p.text p.plain (something_kept LINE_LIMIT p.text kept p.kept_is z));
      going = s.going;
      served = Served-kept s.served u.0 u.1;
    }

pub failed_later : (before mid after : ℕ) → before ≤ mid → HasFailed mid after → HasFailed before after
failed_later before mid after h k = omega arith

pub failed_now : (before mid after : ℕ) → mid ≡ before → after ≡ one_more mid → HasFailed before after
failed_now before mid after h k = omega arith

-- a line's fault names the device that failed
pub line_blames : (fault : ServeFault) (reader : Change) (before mid after : Device) → NeverFails reader → mid.failures ≡ before.failures
    → BlamesWriter fault (record { old = mid; new = after }) → Blames fault reader (record { old = before; new = after })
line_blames Read reader before mid after r w h = absurd h
line_blames Write reader before mid after r w h = (r, failed_later before.failures mid.failures after.failures (omega (arith, w)) h)
line_blames Memory reader before mid after r w h = (r, h ∙ w)

-- a line's fault is the stream's
pub line_left : (fault : ServeFault) {S : Type 0} {gets : Gets S} {had has rest : Option (List ℕ)} {old mid : S} {a b : Option (List ℕ)} {kept : List ℕ} (new : S) (c : Option (List ℕ)) (reader_failed : Type 0) (early late last : ℕ)
    → SoFar gets had has old mid a b → LineRead has rest kept Newline → early ≤ late → LineLeft fault gets kept mid new b c (HasFailed late last)
    → Left fault gets had rest old new a c reader_failed (HasFailed early last)
line_left Read new c reader_failed early late last s r l h = absurd h
line_left Write new c reader_failed early late last s r l h = (SoFar-begun s r h.0, failed_later early late last l h.1)
line_left Memory new c reader_failed early late last s r l (inl u) = inr (inl (SoFar-before s r u))
line_left Memory new c reader_failed early late last s r l (inr t) = inr (inr (SoFar-begun s r t))

pub last_left : (fault : ServeFault) {S : Type 0} {gets : Gets S} {had has rest : Option (List ℕ)} {old mid : S} {a b : Option (List ℕ)} {kept : List ℕ} (new : S) (c : Option (List ℕ)) (reader_failed : Type 0) (early late last : ℕ)
    → SoFar gets had has old mid a b → LineRead has rest kept End → 0 < length kept → early ≤ late → LineLeft fault gets kept mid new b c (HasFailed late last)
    → Left fault gets had rest old new a c reader_failed (HasFailed early last)
last_left Read new c reader_failed early late last s r z l h = absurd h
last_left Write new c reader_failed early late last s r z l h = (SoFar-begun_last s r z h.0, failed_later early late last l h.1)
last_left Memory new c reader_failed early late last s r z l (inl u) = inr (inl (SoFar-before_last s r z u))
last_left Memory new c reader_failed early late last s r z l (inr t) = inr (inr (SoFar-begun_last s r z t))

pub not_empty : (n m : ℕ) (b : Bool) → b ≡ (n == 0) → b ≡ false → m ≡ n → 0 < m
not_empty zero m b e f g = let bad : true ≡ false = sym e ∙ f in cc
not_empty (suc n) m b e f g = omega arith
