-- The book of a machine that explores, after its steps.
use Rattle.std.proofs.Common.{◌≡◌, ℕ, Bool, true, false, Result, Ok, Err, sym, ap, subst}
use Rattle.gr_base.specs.declared.events.Event.{Event}
use Rattle.gr_program.specs.Programs.{Program}
use Rattle.gr_rules.specs.States.{State}
use Rattle.gr_step.specs.Stores.{program_at}
use Rattle.gr_rollback.specs.declared.machine.Machine.{Machine}
use Rattle.gr_rollback.specs.Machines.{store_of}
use Rattle.gr_search.specs.declared.searched.Limit.{Limit}
use Rattle.gr_explore.specs.declared.book.Book.{Book}
use Rattle.gr_explore.specs.Exploring.{origin_of, state_seen}
use Rattle.gr_explore.specs.Books.{Fits}
use Rattle.gr_explore.specs.Trying.{IsApartAtLast, Remains, Tried, Returned}
use Rattle.gr_explore.proofs.BookLemmas.{apart_itself}

-- what noting the last step of a machine does to its book
abbrev pub Notes : Machine → Book → Book → Type 0
Notes m old new = (p : Program) (s t : State) → IsApartAtLast m s t → Fits p s old → Fits p t new

module _ (m n : Machine) (base : ℕ) where
  same_program : origin_of n base ≡ origin_of m base → program_at (store_of n) ≡ program_at (store_of m)
  same_program e = ap (λ o. o.program) e

  stays_fit : (b : Book) → Remains m n base → Fits (program_at (store_of m)) (state_seen m) b → Fits (program_at (store_of n)) (state_seen n) b
  stays_fit b r f = subst (λ p. Fits p (state_seen n) b) (sym (same_program r.origin)) (subst (λ s. Fits (program_at (store_of m)) s b) (sym r.state) f)

  -- what is noted where nothing has changed
  noted_in_vain : (k : Machine) (old new : Book) → Notes k old new → Remains m n base → Fits (program_at (store_of m)) (state_seen m) old → Fits (program_at (store_of n)) (state_seen n) new
  noted_in_vain k old new notes r f =
      stays_fit new r (notes (program_at (store_of m)) (state_seen m) (state_seen m) (λ front r is. apart_itself r (state_seen m)) f)

  pub fits_after_try : (e : Event) (r : Result Bool Limit) → Tried base e r m n → (old new : Book) → Notes n old new
      → Fits (program_at (store_of m)) (state_seen m) old → Fits (program_at (store_of n)) (state_seen n) new
  fits_after_try e (Ok true) a old new notes f =
      subst (λ p. Fits p (state_seen n) new) (sym (same_program a.origin)) (notes (program_at (store_of m)) (state_seen m) (state_seen n) a.apart f)
  fits_after_try e (Ok false) t old new notes f = noted_in_vain n old new notes t.0 f
  fits_after_try e (Err limit) t old new notes f = noted_in_vain n old new notes t.0 f

  pub fits_after_back : (r : Result (Unit {0}) Limit) → Returned base r m n → (old new : Book) → Notes m old new
      → Fits (program_at (store_of m)) (state_seen m) old → Fits (program_at (store_of n)) (state_seen n) new
  fits_after_back (Ok done) t old new notes f =
      subst (λ p. Fits p (state_seen n) new) (sym (same_program t.origin)) (notes (program_at (store_of m)) (state_seen m) (state_seen n) t.apart f)
  fits_after_back (Err limit) t old new notes f = noted_in_vain m old new notes t.0 f
