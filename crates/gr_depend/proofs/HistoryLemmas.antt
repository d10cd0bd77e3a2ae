-- Steps that commands ask for, by the records and by the rules.
use Rattle.std.proofs.Common.{◌≡◌, ℕ, zero, suc, Bool, true, false, not, ◌&&◌, ◌||◌, List, [], ◌∷◌, map, find, filter, slice_get, Option, Some, None, option_map, refl, sym, ap, ap₂, subst, ◌∙◌, inl, inr}
use Rattle.std.specs.List.{list_any}
use Rattle.std.specs.Option.{option_map_or}
use Rattle.std.proofs.lemmas.Bool.{cases_Bool}
use Rattle.gr_base.specs.declared.names.ChName.{ChName}
use Rattle.gr_base.specs.declared.names.StepId.{StepId}
use Rattle.gr_base.specs.declared.kinds.Kind.{Kind}
use Rattle.gr_base.specs.declared.kinds.Kind.TheVariants as kinds
use Rattle.gr_base.specs.declared.objects.Object.TheVariants.{Go}
use Rattle.gr_refine.specs.Contents.{Contents}
use Rattle.gr_program.specs.Programs.{Program}
use Rattle.gr_rules.specs.Attempts.{Operation, sends_on, receives_from, takes_len_of, takes_cap_of, closes, Report, kind_of}
use Rattle.gr_rules.specs.History as rules
use Rattle.gr_rules.specs.History.{is_go, sends, receives, is_on, numbered_step}
use Rattle.gr_rules.specs.Operators.{same_channel}
use Rattle.gr_rules.specs.States.{same_go, same}
use Rattle.gr_rules.specs.Steps.{attempt}
use Rattle.gr_laws.specs.Reached.{Logged}
use Rattle.gr_record.specs.declared.record.Record.{Record}
use Rattle.gr_record.specs.Kept.{Tells}
use Rattle.gr_record.specs.Listings.{state_in}
use Rattle.gr_record.specs.Records.{event_of, operation_in}
use Rattle.gr_record.specs.Pairs.{id_of}
use Rattle.gr_record.proofs.ChainLemmas.{Chain}
use Rattle.gr_record.proofs.RecordLemmas.{report_is, writes_are}
use Rattle.gr_depend.specs.Histories.{starts, is_fault, sends_to, receives_of}
use Rattle.gr_depend.proofs.OperationLemmas.{sends_by, receives_by}
use Rattle.gr_depend.proofs.ReportLemmas.{Fits, Picked, IsTold, told_of, attempt_told}

-- kinds of steps exclude each other
pub record AreApart (k : Kind) : Type 0 where
  pub both : (sends k && receives k) ≡ false
  pub send : (sends k && is_fault k) ≡ false
  pub receive : (receives k && is_fault k) ≡ false
  pub either : ((sends k || receives k) && is_fault k) ≡ false
  pub start : ((sends k || receives k) && is_go k) ≡ false

apart : (k : Kind) → AreApart k
apart kinds.Pure = record { both = refl; send = refl; receive = refl; either = refl; start = refl }
apart kinds.Call = record { both = refl; send = refl; receive = refl; either = refl; start = refl }
apart kinds.Return = record { both = refl; send = refl; receive = refl; either = refl; start = refl }
apart kinds.Go = record { both = refl; send = refl; receive = refl; either = refl; start = refl }
apart kinds.Make = record { both = refl; send = refl; receive = refl; either = refl; start = refl }
apart kinds.Length = record { both = refl; send = refl; receive = refl; either = refl; start = refl }
apart kinds.Hand = record { both = refl; send = refl; receive = refl; either = refl; start = refl }
apart kinds.Meet = record { both = refl; send = refl; receive = refl; either = refl; start = refl }
apart kinds.Buffer = record { both = refl; send = refl; receive = refl; either = refl; start = refl }
apart kinds.Take = record { both = refl; send = refl; receive = refl; either = refl; start = refl }
apart kinds.Closed = record { both = refl; send = refl; receive = refl; either = refl; start = refl }
apart kinds.SendWait = record { both = refl; send = refl; receive = refl; either = refl; start = refl }
apart kinds.RecvWait = record { both = refl; send = refl; receive = refl; either = refl; start = refl }
apart (kinds.Pick x) = record { both = refl; send = refl; receive = refl; either = refl; start = refl }
apart kinds.Default = record { both = refl; send = refl; receive = refl; either = refl; start = refl }
apart kinds.SelectWait = record { both = refl; send = refl; receive = refl; either = refl; start = refl }
apart kinds.Close = record { both = refl; send = refl; receive = refl; either = refl; start = refl }
apart kinds.Exit = record { both = refl; send = refl; receive = refl; either = refl; start = refl }
apart (kinds.Fault x) = record { both = refl; send = refl; receive = refl; either = refl; start = refl }

-- on truth values
not_other : (a b : Bool) → a ≡ true → (a && b) ≡ false → false ≡ b
not_other true b t e = sym e
not_other false b t e = absurd (let never : false ≡ true = t in cc)

as_asked : (own fault on : Bool) → (own || fault) ≡ true → (own && fault) ≡ false → (on && not fault) ≡ (own && on)
as_asked true true on t e = absurd (let never : true ≡ false = e in cc)
as_asked true false true t e = refl
as_asked true false false t e = refl
as_asked false true true t e = refl
as_asked false true false t e = refl
as_asked false false on t e = absurd (let never : false ≡ true = t in cc)

not_asked : (own other fault on : Bool) → (other || fault) ≡ true → (own && other) ≡ false → (own && fault) ≡ false → false ≡ (own && on)
not_asked false other fault on t e f = refl
not_asked true true fault on t e f = absurd (let never : true ≡ false = e in cc)
not_asked true false true on t e f = absurd (let never : true ≡ false = f in cc)
not_asked true false false on t e f = absurd (let never : false ≡ true = t in cc)

never_on : (own : Bool) → false ≡ (own && false)
never_on true = refl
never_on false = refl

swapped : (a b : Bool) → (a && b) ≡ false → (b && a) ≡ false
swapped true true e = e
swapped true false e = refl
swapped false true e = refl
swapped false false e = refl

-- the kind that is told is a fault, or a `go`, where the deed is
fault_told : (k : Kind) (clause : Option ℕ) → Picked k clause → is_fault (option_map_or kinds.Pick clause k) ≡ is_fault k
fault_told k None picked = refl
fault_told k (Some i) picked = not_other (sends k || receives k) (is_fault k) picked (apart k).either

go_told : (k : Kind) (clause : Option ℕ) → Picked k clause → is_go (option_map_or kinds.Pick clause k) ≡ is_go k
go_told k None picked = refl
go_told k (Some i) picked = not_other (sends k || receives k) (is_go k) picked (apart k).start

sends_told : (c : ChName) (k : Kind) (o : Option Operation) → Fits k o → sends_by c o (is_fault k) ≡ (sends k && is_on c o)
sends_told c k (Some (sends_on d)) fits = as_asked (sends k) (is_fault k) (same_channel c d) fits (apart k).send
sends_told c k (Some (receives_from d)) fits = not_asked (sends k) (receives k) (is_fault k) (same_channel c d) fits (apart k).both (apart k).send
sends_told c k (Some (takes_len_of d)) fits = never_on (sends k)
sends_told c k (Some (takes_cap_of d)) fits = never_on (sends k)
sends_told c k (Some (closes d)) fits = never_on (sends k)
sends_told c k None fits = never_on (sends k)

receives_told : (c : ChName) (k : Kind) (o : Option Operation) → Fits k o → receives_by c o (is_fault k) ≡ (receives k && is_on c o)
receives_told c k (Some (receives_from d)) fits = as_asked (receives k) (is_fault k) (same_channel c d) fits (apart k).receive
receives_told c k (Some (sends_on d)) fits = not_asked (receives k) (sends k) (is_fault k) (same_channel c d) fits (swapped (sends k) (receives k) (apart k).both) (apart k).receive
receives_told c k (Some (takes_len_of d)) fits = never_on (receives k)
receives_told c k (Some (takes_cap_of d)) fits = never_on (receives k)
receives_told c k (Some (closes d)) fits = never_on (receives k)
receives_told c k None fits = never_on (receives k)

-- a record tells what the rules note
module _ (p : Program) (s : Contents) (r : Record) (l : Logged p) (t : Contents) (tells : Tells p s r l t) where
  told : IsTold l.note.kind
  told =
      let takes = tells.is.takes in
      subst IsTold (report_is p s r l t tells)
      (told_of (state_in p s) (attempt p (event_of r)) (attempt_told p (event_of r)) takes.report takes.steps.cells takes.steps.ends)

  operation_is : operation_in r.change ≡ l.note.kind.operation
  operation_is = tells.is.takes.operation ∙ ap (λ (k : Report). k.operation) (report_is p s r l t tells)

  kind_is : r.change.kind ≡ kind_of l.note.kind
  kind_is = sym tells.kind

  go_is : r.id.go ≡ l.event.go
  go_is = ap (λ e. e.go) (sym tells.event)

  pub name_is : r.id ≡ id_of p l
  name_is = λ i. record { go = go_is i; n = sym tells.ordinal i }

  fault_is : is_fault r.change.kind ≡ is_fault l.note.kind.deed
  fault_is = ap is_fault kind_is ∙ fault_told l.note.kind.deed l.note.kind.clause told.clause

  pub sends_alike : (c : ChName) → sends_to c r ≡ (sends l.note.kind.deed && is_on c l.note.kind.operation)
  sends_alike c = (λ i. sends_by c (operation_is i) (fault_is i)) ∙ sends_told c l.note.kind.deed l.note.kind.operation told.operation

  pub receives_alike : (c : ChName) → receives_of c r ≡ (receives l.note.kind.deed && is_on c l.note.kind.operation)
  receives_alike c = (λ i. receives_by c (operation_is i) (fault_is i)) ∙ receives_told c l.note.kind.deed l.note.kind.operation told.operation

  starts_go : is_go r.change.kind ≡ is_go l.note.kind.deed
  starts_go = ap is_go kind_is ∙ go_told l.note.kind.deed l.note.kind.clause told.clause

  pub starts_alike : (g : List ℕ) → starts g r ≡ rules.starts p g l
  starts_alike g = λ i. starts_go i && not (same_go g (go_is i)) && list_any (same (Go g)) (writes_are p s r l t tells i)

-- two lists side by side
module _ {A B C : Type 0} (f : A → Bool) (g : B → Bool) (n : A → C) (m : B → C) (x : A) (y : B) (xs : List A) (ys : List B) (same : f x ≡ g y) (one : n x ≡ m y) where
  pub both_found : option_map n (find f xs) ≡ option_map m (find g ys) → option_map n (find f (x ∷ xs)) ≡ option_map m (find g (y ∷ ys))
  both_found rest = elim (cases_Bool (f x)) [
    | inl t ↦ let u : g y ≡ true = sym same ∙ t in rw (t, u) (ap Some one)
    | inr t ↦ let u : g y ≡ false = sym same ∙ t in rw (t, u) rest
  ]

  pub both_chosen : map n (filter f xs) ≡ map m (filter g ys) → map n (filter f (x ∷ xs)) ≡ map m (filter g (y ∷ ys))
  both_chosen rest = elim (cases_Bool (f x)) [
    | inl t ↦ let u : g y ≡ true = sym same ∙ t in rw (t, u) (ap₂ (λ a l. a ∷ l) one rest)
    | inr t ↦ let u : g y ≡ false = sym same ∙ t in rw (t, u) rest
  ]

mapped_at : {A C : Type 0} (n : A → C) (xs : List A) (i : ℕ) → option_map n (slice_get xs i) ≡ slice_get (map n xs) i
mapped_at n [] i = refl
mapped_at n (x ∷ xs) zero = refl
mapped_at n (x ∷ xs) (suc i) = mapped_at n xs i

both_numbered : {A B C : Type 0} (n : A → C) (m : B → C) (xs : List A) (ys : List B) (k : ℕ) → map n xs ≡ map m ys
    → option_map n (numbered_step k xs) ≡ option_map m (numbered_step k ys)
both_numbered n m xs ys zero e = refl
both_numbered n m xs ys (suc i) e = mapped_at n xs i ∙ ap (λ l. slice_get l i) e ∙ sym (mapped_at m ys i)

abbrev name : Record → StepId
name r = r.id

module _ (p : Program) where
  pub started : (s t : Contents) (g : List ℕ) (rs : List Record) (ls : List (Logged p)) → Chain p s rs ls t
      → option_map name (find (starts g) rs) ≡ option_map (id_of p) (find (rules.starts p g) ls)
  started s t g [] [] chain = refl
  started s t g (r ∷ rs) (l ∷ ls) chain =
      both_found (starts g) (rules.starts p g) name (id_of p) r l rs ls (starts_alike p s r l chain.0 chain.1 g) (name_is p s r l chain.0 chain.1)
      (started chain.0 t g rs ls chain.2)
  started s t g [] (l ∷ ls) chain = absurd chain
  started s t g (r ∷ rs) [] chain = absurd chain

  all_sent : (s t : Contents) (c : ChName) (rs : List Record) (ls : List (Logged p)) → Chain p s rs ls t
      → map name (filter (sends_to c) rs) ≡ map (id_of p) (rules.sends_to p c ls)
  all_sent s t c [] [] chain = refl
  all_sent s t c (r ∷ rs) (l ∷ ls) chain =
      both_chosen (sends_to c) (λ l. sends l.note.kind.deed && is_on c l.note.kind.operation) name (id_of p) r l rs ls
      (sends_alike p s r l chain.0 chain.1 c) (name_is p s r l chain.0 chain.1) (all_sent chain.0 t c rs ls chain.2)
  all_sent s t c [] (l ∷ ls) chain = absurd chain
  all_sent s t c (r ∷ rs) [] chain = absurd chain

  all_received : (s t : Contents) (c : ChName) (rs : List Record) (ls : List (Logged p)) → Chain p s rs ls t
      → map name (filter (receives_of c) rs) ≡ map (id_of p) (rules.receives_of p c ls)
  all_received s t c [] [] chain = refl
  all_received s t c (r ∷ rs) (l ∷ ls) chain =
      both_chosen (receives_of c) (λ l. receives l.note.kind.deed && is_on c l.note.kind.operation) name (id_of p) r l rs ls
      (receives_alike p s r l chain.0 chain.1 c) (name_is p s r l chain.0 chain.1) (all_received chain.0 t c rs ls chain.2)
  all_received s t c [] (l ∷ ls) chain = absurd chain
  all_received s t c (r ∷ rs) [] chain = absurd chain

  pub sent_alike : (s t : Contents) (c : ChName) (k : ℕ) (rs : List Record) (ls : List (Logged p)) → Chain p s rs ls t
      → option_map name (numbered_step k (filter (sends_to c) rs)) ≡ option_map (id_of p) (rules.sent p c k ls)
  sent_alike s t c k rs ls chain = both_numbered name (id_of p) (filter (sends_to c) rs) (rules.sends_to p c ls) k (all_sent s t c rs ls chain)

  pub received_alike : (s t : Contents) (c : ChName) (k : ℕ) (rs : List Record) (ls : List (Logged p)) → Chain p s rs ls t
      → option_map name (numbered_step k (filter (receives_of c) rs)) ≡ option_map (id_of p) (rules.received p c k ls)
  received_alike s t c k rs ls chain = both_numbered name (id_of p) (filter (receives_of c) rs) (rules.receives_of p c ls) k (all_received s t c rs ls chain)
