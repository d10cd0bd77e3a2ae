-- Lines that tell of a journal, and calls that are its entries.
use Rattle.std.proofs.Common.{◌≡◌, ℕ, zero, suc, ◌+◌, ◌<◌, ◌≤◌, ◌==◌, Bool, true, false, if◌then◌else◌, List, [], ◌∷◌, ◌++◌, map, length, refl, ap, sym, ◌∙◌, subst, arith, length-append, append-nil, Some, None}
use Rattle.std.specs.Prelude.{All}
use mathlib.Core.List.{IsPrefix, map-append}
use Rattle.gr_program.specs.Programs.{Program}
use Rattle.gr_program.specs.Views.{program_of}
use Rattle.gr_command.specs.Replies.{Said, said_of}
use Rattle.gr_session.specs.declared.TheConstants.{JOURNAL_LIMIT}
use Rattle.gr_session.specs.declared.journal.Entry.{Entry}
use Rattle.gr_session.specs.declared.journal.Asked.TheVariants as entries
use Rattle.gr_session.specs.Entries.{IsAskedBy}
use Rattle.gr_session.specs.Keeps.{Seen}
use Rattle.gr_share.specs.Calls.{Asker, IsEntry, IsTied, EntersCall, places}
use Rattle.gr_share.specs.declared.desk.Asked.{Asked as Wanted}
use Rattle.gr_share.specs.declared.desk.Asked.TheVariants.{Command, Batch}
use Rattle.gr_share.specs.declared.desk.Call.{Call}
use Rattle.gr_share.specs.Lines.{Line}
use Rattle.gr_share.specs.Ties.{asked, older_lines, AskedUpTo, IsFull, told, calls_of, AllBelow, numbers_of, IsTold, AllTold, Tells}
use Rattle.gr_share.proofs.Lines.{asked-append, prefix_trans}

some_inj : {A : Type 0} {a b : A} → Some a ≡ Some b → a ≡ b
some_inj e = cc

-- the places of an asker's entries

places_step : (b : Bool) (n : ℕ) (p q r : List ℕ) → p ≡ q ++ r → (if b then n ∷ p else p) ≡ (if b then n ∷ q else q) ++ r
places_step true n p q r e = ap (λ l. n ∷ l) e
places_step false n p q r e = e

places_push : (a first : ℕ) (es : List Entry) (e : Entry) (number : ℕ) → number ≡ first + length es
    → places a first (es ++ e ∷ []) ≡ places a first es ++ (if e.asker == a then number ∷ [] else [])
places_push a first [] e number is = ap (λ (n : ℕ). if e.asker == a then n ∷ [] else []) (omega (arith, is))
places_push a first (x ∷ xs) e number is =
    places_step (x.asker == a) first (places a (suc first) (xs ++ e ∷ [])) (places a (suc first) xs) (if e.asker == a then number ∷ [] else [])
    (places_push a (suc first) xs e number (omega (arith, is)))

numbers_one : (b : Bool) (x : Line) → numbers_of (if b then x ∷ [] else []) ≡ (if b then x.number ∷ [] else [])
numbers_one true x = refl
numbers_one false x = refl

numbers_push : (a : ℕ) (log : List Line) (x : Line) → numbers_of (asked a (log ++ x ∷ [])) ≡ numbers_of (asked a log) ++ (if x.asker == a then x.number ∷ [] else [])
numbers_push a log x =
    ap numbers_of (asked-append a log (x ∷ []))
    ∙ (map-append (λ (y : Line). y.number) (asked a log) (asked a (x ∷ [])) ∙ ap (λ l. numbers_of (asked a log) ++ l) (numbers_one (x.asker == a) x))

below_step : (b : Bool) (n m : ℕ) (p : List ℕ) → m < n → AllBelow n p → AllBelow n (if b then m ∷ p else p)
below_step true n m p lt h = (lt, h)
below_step false n m p lt h = h

-- they are at most as many as the entries
places_below : (a first n : ℕ) (es : List Entry) → first + length es ≤ n → AllBelow n (places a first es)
places_below a first n [] le = tt
places_below a first n (e ∷ es) le = below_step (e.asker == a) n first (places a (suc first) es) (omega arith) (places_below a (suc first) n es (omega arith))

below_front : (n : ℕ) (xs ys : List ℕ) → AllBelow n (xs ++ ys) → AllBelow n xs
below_front n [] ys h = tt
below_front n (x ∷ xs) ys h = (h.0, below_front n xs ys h.1)

-- an asker's calls, with which its lines begin, have smaller numbers than the next entry
pub before_next : (p : Program) (a number : ℕ) (cs log : List Line) (journal : List Entry) → Tells p journal log → IsPrefix cs (asked a log) → 1 + length journal ≤ number
    → AllBelow number (numbers_of cs)
before_next p a number cs log journal tells begins le =
    let all : numbers_of cs ++ numbers_of begins.0 ≡ places a 1 journal =
    sym (map-append (λ (x : Line). x.number) cs begins.0) ∙ (ap numbers_of begins.1 ∙ tells.numbers a) in
    below_front number (numbers_of cs) (numbers_of begins.0) (subst (AllBelow number) (sym all) (places_below a 1 number journal le))

-- of calls: each receipt has a smaller number
pub before_calls : (a number : ℕ) (calls : List Call) → AllBelow number (numbers_of (calls_of a calls)) → All (λ c. c.receipt.number < number) calls
before_calls a number [] h k d lt = absurd (omega arith)
before_calls a number (c ∷ cs) h zero d lt = h.0
before_calls a number (c ∷ cs) h (suc k) d lt = before_calls a number cs h.1 k d (omega arith)

-- calls that are entries

entry_later : (p : Program) (old new : List Entry) (a : ℕ) (c : Call) → IsPrefix old new → IsEntry p old a c → IsEntry p new a c
entry_later p old new a c begins e = record { before = e.before; after = e.after; begins = prefix_trans e.after old new e.begins begins; entered = e.entered }

told_later : (p : Program) (old new : List Entry) (log : List Line) → IsPrefix old new → AllTold p old log → AllTold p new log
told_later p old new [] begins h = tt
told_later p old new (x ∷ xs) begins h = ((λ c is. entry_later p old new x.asker c begins (h.0 c is)), told_later p old new xs begins h.1)

told_push : (p : Program) (journal : List Entry) (log : List Line) (x : Line) → AllTold p journal log → IsTold p journal x → AllTold p journal (log ++ x ∷ [])
told_push p journal [] x h one = (one, tt)
told_push p journal (y ∷ ys) x h one = (h.0, told_push p journal ys x h.1 one)

pub told_front : (p : Program) (journal : List Entry) (xs ys : List Line) → AllTold p journal (xs ++ ys) → AllTold p journal xs
told_front p journal [] ys h = tt
told_front p journal (x ∷ xs) ys h = (h.0, told_front p journal xs ys h.1)

told_step : (b : Bool) (p : Program) (journal : List Entry) (x : Line) (xs : List Line) → IsTold p journal x → AllTold p journal xs → AllTold p journal (if b then x ∷ xs else xs)
told_step true p journal x xs one h = (one, h)
told_step false p journal x xs one h = h

pub told_asked : (p : Program) (journal : List Entry) (a : ℕ) (log : List Line) → AllTold p journal log → AllTold p journal (asked a log)
told_asked p journal a [] h = tt
told_asked p journal a (x ∷ xs) h = told_step (x.asker == a) p journal x (asked a xs) h.0 (told_asked p journal a xs h.1)

pub told_calls : (p : Program) (journal : List Entry) (a : ℕ) (calls : List Call) → AllTold p journal (calls_of a calls) → All (IsEntry p journal a) calls
told_calls p journal a [] h k d lt = absurd (omega arith)
told_calls p journal a (c ∷ cs) h zero d lt = h.0 c refl
told_calls p journal a (c ∷ cs) h (suc k) d lt = told_calls p journal a cs h.1 k d (omega arith)

numbers_of_calls : (a : ℕ) (calls : List Call) → numbers_of (calls_of a calls) ≡ map (λ c. c.receipt.number) calls
numbers_of_calls a [] = refl
numbers_of_calls a (c ∷ cs) = ap (λ l. c.receipt.number ∷ l) (numbers_of_calls a cs)

-- the lines of an asker that are its calls tie it to the journal
pub tied : (s : Seen) (log : List Line) (d : Asker) → Tells (program_of s.program) s.journal log → asked d.number log ≡ calls_of d.number d.calls
    → length s.journal ≤ JOURNAL_LIMIT → (d.told_full ≡ true → IsFull log) → IsTied s d
tied s log d tells same short full = let p = program_of s.program in let journal = s.journal in record {
  numbers = sym (numbers_of_calls d.number d.calls) ∙ (ap numbers_of (sym same) ∙ tells.numbers d.number);
  entries = told_calls p journal d.number d.calls (subst (AllTold p journal) same (told_asked p journal d.number log tells.entries));
  full = λ told. let long = full told in omega (arith, long, short, tells.as_long);
}

-- the journal got one entry of an asker, with this number
pub record MoreBy (a number : ℕ) (old new : List Entry) : Type 0 where
  pub entry : Entry
  pub grows : new ≡ old ++ entry ∷ []
  pub of_asker : entry.asker ≡ a
  pub number_is : number ≡ 1 + length old

pub more_by : (p : Program) (a : ℕ) (wanted : Wanted) (old new : List Entry) (number : ℕ) (reply : Said)
    → EntersCall p a wanted old new number reply → MoreBy a number old new
more_by p a (Command c) old new number reply e =
    let entry : Entry = record { asker = a; asked = entries.Command c; memory = e.memory } in record {
      entry = entry;
      grows = e.entered;
      of_asker = refl;
      number_is = omega (arith, e.number_is, ap length e.entered, length-append old (entry ∷ []));
    }
more_by p a (Batch go steps) old new number reply b =
    let e = b.enters.enters in
    let entry : Entry = record { asker = a; asked = entries.Batch b.enters.batch b.enters.as_lent; memory = e.memory } in record {
      entry = entry;
      grows = e.entered;
      of_asker = refl;
      number_is = omega (arith, e.number_is, ap length e.entered, length-append old (entry ∷ []));
    }

-- an entry more, and a line more
pub tells_push : (p : Program) (old new : List Entry) (log : List Line) (a : ℕ) (c : Call) → Tells p old log
    → EntersCall p a c.asked old new c.receipt.number (said_of c.receipt.reply) → Tells p new (log ++ told a c ∷ [])
tells_push p old new log a c tells enters =
    let m = more_by p a c.asked old new c.receipt.number (said_of c.receipt.reply) enters in
    let more : IsPrefix old new = (m.entry ∷ [], sym m.grows) in
    let own : IsEntry p new a c = record { before = old; after = new; begins = ([], append-nil new); entered = enters } in record {
      numbers = λ b.
          numbers_push b log (told a c)
          ∙ (ap (λ l. l ++ (if a == b then c.receipt.number ∷ [] else [])) (tells.numbers b)
          ∙ (ap (λ (k : ℕ). places b 1 old ++ (if k == b then c.receipt.number ∷ [] else [])) (sym m.of_asker)
          ∙ (sym (places_push b 1 old m.entry c.receipt.number m.number_is) ∙ ap (places b 1) (sym m.grows))));
      as_long = let long = tells.as_long in let grows = ap length m.grows in
          omega (arith, long, grows, length-append old (m.entry ∷ []), length-append log (told a c ∷ []));
      entries = told_push p new log (told a c) (told_later p old new log more tells.entries) (λ d is. subst (IsEntry p new a) (some_inj is) own);
    }

-- the journal that a session has when it begins to be shared

pub up_to_older : (askers first : ℕ) (es : List Entry) → All (IsAskedBy askers) es → AskedUpTo askers (older_lines first es)
up_to_older askers first [] h = tt
up_to_older askers first (e ∷ es) h = ((h 0 e (omega arith)).1, up_to_older askers (suc first) es (λ k d lt. h (suc k) d (omega arith)))

numbers_step : (b : Bool) (x : Line) (xs : List Line) (ns : List ℕ) → numbers_of xs ≡ ns → numbers_of (if b then x ∷ xs else xs) ≡ (if b then x.number ∷ ns else ns)
numbers_step true x xs ns e = ap (λ l. x.number ∷ l) e
numbers_step false x xs ns e = e

numbers_older : (a first : ℕ) (es : List Entry) → numbers_of (asked a (older_lines first es)) ≡ places a first es
numbers_older a first [] = refl
numbers_older a first (e ∷ es) =
    numbers_step (e.asker == a) (record { asker = e.asker; number = first; call = None }) (asked a (older_lines (suc first) es)) (places a (suc first) es) (numbers_older a (suc first) es)

told_older : (p : Program) (journal : List Entry) (first : ℕ) (es : List Entry) → AllTold p journal (older_lines first es)
told_older p journal first [] = tt
told_older p journal first (e ∷ es) = ((λ c is. none_some is), told_older p journal (suc first) es)
  where
    none_some : {Z : Type 0} {c : Call} → None ≡ Some c → Z
    none_some e = absurd (cc)

older_long : (first : ℕ) (es : List Entry) → length (older_lines first es) ≡ length es
older_long first [] = refl
older_long first (e ∷ es) = ap suc (older_long (suc first) es)

pub tells_older : (p : Program) (journal : List Entry) → Tells p journal (older_lines 1 journal)
tells_older p journal =
    record { numbers = λ a. numbers_older a 1 journal; as_long = older_long 1 journal; entries = told_older p journal 1 journal }
