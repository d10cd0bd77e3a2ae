-- Steps that a goroutine takes on a copy of it, away from its store: none reaches further than the goroutine.
use Rattle.std.specs.Prelude.{◌≡◌, ◌+◌, ◌<◌, ◌^◌, ℕ, Bool, true, false, List, [], ◌∷◌, ◌++◌, length, None, Some}
use Rattle.gr_base.specs.declared.events.Choice.TheVariants.{Plain}
use Rattle.gr_base.specs.declared.kinds.Fault.{Fault}
use Rattle.gr_base.specs.declared.kinds.Kind.TheVariants as kinds
use Rattle.gr_program.specs.Programs.{Program}
use Rattle.gr_rules.specs.Goroutines.{ready}
use Rattle.gr_rules.specs.Outcomes.{gives}
use Rattle.gr_rules.specs.LocalSteps as rules
use Rattle.gr_rules.specs.States.{State, live}
use Rattle.gr_code.specs.CodeFrames.{ProgramCode}
use Rattle.gr_code.specs.Goroutines.{CodeGoroutine, is_local, local}
use Rattle.gr_refine.specs.Contents.{Contents}
use Rattle.gr_refine.specs.Partners.{AreChannels}
use Rattle.gr_goros.specs.Alone.{stays_alone}
use Rattle.gr_goros.specs.Undoing.{undone, Fits}
use Rattle.gr_lower.specs.Lowered.{lowered}
use Rattle.gr_step.specs.declared.leasing.LocalRun.{LocalRun}
use Rattle.gr_step.specs.declared.leasing.LentCopy.{LentCopy}
use Rattle.gr_record.specs.Effects.{Effect}
use Rattle.gr_record.specs.declared.record.Record.{Record}
use Rattle.gr_step.specs.declared.store.Store.{Store}
use Rattle.gr_record.specs.Listings.{program_in, IsCoded}
use Rattle.gr_record.specs.Running.{Running}
use Rattle.gr_step.specs.Stores.{program_at, contents_at, state_at}
use Rattle.gr_record.specs.Taking.{IsRecord}

-- the goroutine goes on by a step that reaches no further than itself and is no fault; the change tells how it goes back
pub record GoesAlone (code : ProgramCode) (g : CodeGoroutine) (c : Effect) (h : CodeGoroutine) : Type 0 where
  pub here : is_local code g ≡ true
  pub step : local code g ≡ gives (c.kind, h)
  pub no_fault : (f : Fault) → ¬ (c.kind ≡ kinds.Fault f)
  pub beyond : c.beyond ≡ None
  pub back : undone c.own h ≡ g
  pub fits : Fits c.own h

-- its count of steps can rise
abbrev pub CanCountOn : CodeGoroutine → Type 0
CanCountOn g = g.steps + 1 < 2 ^ 64

-- its next step is one
abbrev pub HasOwnStep : ProgramCode → CodeGoroutine → Type 0
HasOwnStep code g = stays_alone code g ≡ true

-- the record is that of such a step of the goroutine of this name
pub record IsOwnRecord (code : ProgramCode) (go : List ℕ) (g : CodeGoroutine) (r : Record) (h : CodeGoroutine) : Type 0 where
  pub name : r.id ≡ record { go = go; n = g.steps + 1 }
  pub plain : r.choice ≡ Plain
  pub goes : GoesAlone code g r.change h

-- records of such steps, one after the other, and where they lead
pub data Walk (code : ProgramCode) (go : List ℕ) (from : CodeGoroutine) : List Record → CodeGoroutine → Type 0 where
  no_step : Walk code go from [] from
  one_more : {records : List Record} {g : CodeGoroutine} (r : Record) (h : CodeGoroutine)
      → Walk code go from records g → IsOwnRecord code go g r h → Walk code go from (records ++ r ∷ []) h

-- some run of the program leads to contents in which the goroutine is ready, while the program runs
pub record CanBe (p : Program) (go : List ℕ) (g : CodeGoroutine) : Type 0 where
  pub contents : Contents
  pub running : Running p contents
  pub channels : AreChannels contents
  pub runs : contents.run ≡ live
  pub there : contents.goroutines go ≡ Some g
  pub is_ready : g.status ≡ ready

-- whether the program runs and the next step of a goroutine is local
abbrev pub goes_alone : State → List ℕ → Bool
goes_alone s n = elim s.run [ live ↦ rules.is_local s n | _ ↦ false ]

-- what is lent: the program, the goroutine's name and its content, and how many steps it took by itself since
pub record Loan : Type 0 where
  pub program : Program
  pub name : List ℕ
  pub goroutine : CodeGoroutine
  pub steps : ℕ

abbrev pub loan_kept : LocalRun → Loan
loan_kept b = record {
  program = program_in b.lent.value.listing;
  name = b.lent.value.go;
  goroutine = b.lent.value.goroutine.content;
  steps = b.len;
}

abbrev pub loan_of : LentCopy → Loan
loan_of l = loan_kept l.batch

-- what a lease has: its program, its goroutine's name and content when it was lent, and its content after the steps, with their
-- records
abbrev pub program_lent : LentCopy → Program
program_lent l = (loan_of l).program

abbrev pub name_lent : LentCopy → List ℕ
name_lent l = (loan_of l).name

abbrev pub goroutine_lent : LentCopy → CodeGoroutine
goroutine_lent l = (loan_of l).goroutine

abbrev pub goroutine_led_to : LentCopy → CodeGoroutine
goroutine_led_to l = l.reached.content

abbrev pub records_led : LentCopy → List Record
records_led l = l.records.items

-- a goroutine that some run has ready, and steps of its own from there
pub record IsLease (l : LentCopy) : Type 0 where
  pub coded : IsCoded l.batch.lent.value.listing
  pub walk : Walk (lowered (program_lent l)) (name_lent l) (goroutine_lent l) (records_led l) (goroutine_led_to l)
  pub can_be : CanBe (program_lent l) (name_lent l) (goroutine_led_to l)
  pub was_ready : (goroutine_lent l).status ≡ ready
  pub counted : (loan_of l).steps ≡ length (records_led l)

-- the goroutine that is lent, and its program, are those of another copy
pub record SameLoan (old new : LentCopy) : Type 0 where
  pub program : program_lent new ≡ program_lent old
  pub name : name_lent new ≡ name_lent old
  pub lent : goroutine_lent new ≡ goroutine_lent old

-- it took one step more, or none
pub record LeadsOn (old new : LentCopy) : Type 0 where
  pub record_of : Record
  pub records : records_led new ≡ records_led old ++ record_of ∷ []
  pub steps : (loan_of new).steps ≡ (loan_of old).steps + 1

-- the goroutine has a further step of its own, and can count it
pub record CanLeadOn (l : LentCopy) : Type 0 where
  pub own : HasOwnStep (lowered (program_lent l)) (goroutine_led_to l)
  pub counts : CanCountOn (goroutine_led_to l)

pub record Stays (old new : LentCopy) : Type 0 where
  pub loan : loan_of new ≡ loan_of old
  pub records : records_led new ≡ records_led old
  pub reached : goroutine_led_to new ≡ goroutine_led_to old

-- the program is the one that runs, and the goroutine is as it was lent
pub record IsAsLentIn (l : Loan) (p : Program) (s : Contents) : Type 0 where
  pub program : l.program ≡ p
  pub runs : s.run ≡ live
  pub there : s.goroutines l.name ≡ Some l.goroutine

abbrev pub IsAsLent : LentCopy → Store → Type 0
IsAsLent l s = IsAsLentIn (loan_of l) (program_at s) (contents_at s)

-- a lease of a goroutine of the store, with no step
pub record IsLoanOf (s : Store) (go : List ℕ) (l : LentCopy) : Type 0 where
  pub name : name_lent l ≡ go
  pub as_lent : IsAsLent l s
  pub steps : (loan_of l).steps ≡ 0
  pub records : records_led l ≡ []
  pub reached : goroutine_led_to l ≡ goroutine_lent l
  pub alone : stays_alone (lowered (program_lent l)) (goroutine_led_to l) ≡ goes_alone (state_at s) go

-- records of steps, one after the other, from the first contents to the second
pub data AreRecords (p : Program) (s : Contents) : List Record → Contents → Type 0 where
  no_record : AreRecords p s [] s
  one_more_record : {records : List Record} {t : Contents} (r : Record) (u : Contents)
      → AreRecords p s records t → Running p t → IsRecord p t r u → AreRecords p s (records ++ r ∷ []) u
