-- What holds where a journal leads: there is one world of it.
use Rattle.std.proofs.Common.{◌≡◌, ◌↔◌, ℕ, ◌+◌, ◌-◌, min, Bool, true, false, not, true≢false, List, length, refl, sym, ◌∙◌, subst, arith}
use Rattle.std.specs.Prelude.{IsTrue}
use Rattle.gr_program.specs.Programs.{Program}
use Rattle.gr_program.specs.Views.{program_of}
use Rattle.gr_rules.specs.Limits.{most_steps}
use Rattle.gr_session.specs.declared.journal.Entry.{Entry}
use Rattle.gr_session.specs.Copies.{Lent}
use Rattle.gr_session.specs.Entries.{InItsWorld, Lead}
use Rattle.gr_session.specs.Granting.{IsLoan, CanLend, IsTurnDue}
use Rattle.gr_session.specs.Journal.{World, first_world}
use Rattle.gr_share.specs.Seats.{Held}
use Rattle.gr_share.specs.Works.{Lends}

abbrev OneWorld : Program → List Entry → Type 0
OneWorld p journal = (u v : World p) → Lead p (first_world p) journal u → Lead p (first_world p) journal v → u ≡ v

-- that it is told whether a worker has to wait
abbrev pub TellsIdle : Held → Bool → Type 0
TellsIdle h idle = IsTrue idle ↔ ((h.closed ≡ false)
    × InItsWorld (program_of h.session.program) h.session.journal (λ w. ¬ CanLend (program_of h.session.program) w × ¬ IsTurnDue (program_of h.session.program) w))

rest_of : (room used most : ℕ) → room + used ≡ most → room ≡ most - used
rest_of room used most e = omega (arith, e)

module _ (p : Program) (journal : List Entry) (one : OneWorld p journal) where
  -- what holds where the journal leads, holds beside what else does
  beside : (A B : World p → Type 0) → InItsWorld p journal A → InItsWorld p journal B → InItsWorld p journal (λ w. A w × B w)
  beside A B a b = record { world = a.world; means = a.means; holds = (a.holds, subst B (one b.world a.world b.means a.means) b.holds) }

  -- a copy that is lent, and how many steps the log and the grant have room for
  pub lends : (place : ℕ) (lease : Lent) (room grant : ℕ) → lease.place ≡ place
      → InItsWorld p journal (λ w. IsLoan p w place lease.copy)
      → InItsWorld p journal (λ w. room + length w.log ≡ most_steps)
      → InItsWorld p journal (λ w. grant ≡ w.grant)
      → Lends p journal place lease (min room grant)
  lends place lease room grant at loan left granted =
      let limits = beside (λ w. room + length w.log ≡ most_steps) (λ w. grant ≡ w.grant) left granted in
      let all = beside (λ w. IsLoan p w place lease.copy) (λ w. (room + length w.log ≡ most_steps) × (grant ≡ w.grant)) loan limits in
      let of_log = rest_of room (length all.world.log) most_steps all.holds.1.0 in record {
        place_is = at;
        lent = record {
          world = all.world;
          means = all.means;
          holds = (all.holds.0, (λ k. min (of_log k) (all.holds.1.1 k)));
        };
      }

  -- what a worker asks before it waits: whether the workers are to end, whether a goroutine can be lent, and whether a turn is
  -- due
  abbrev Idle : Bool → Bool → Type 0
  Idle idle closed = IsTrue idle ↔ ((closed ≡ false) × InItsWorld p journal (λ w. ¬ CanLend p w × ¬ IsTurnDue p w))

  pub closed_now : (closed : Bool) → closed ≡ true → Idle false closed
  closed_now closed is = ((λ e. absurd (true≢false (sym e))), (λ h. absurd (true≢false (sym is ∙ h.0))))

  pub can_lend_now : (closed lend : Bool) → lend ≡ true → InItsWorld p journal (λ w. IsTrue lend ↔ CanLend p w) → Idle false closed
  can_lend_now closed lend is told = (
    (λ e. absurd (true≢false (sym e))),
    (λ h.
        let both = beside (λ w. IsTrue lend ↔ CanLend p w) (λ w. ¬ CanLend p w × ¬ IsTurnDue p w) told h.1 in
        absurd (both.holds.1.0 (both.holds.0.0 is))),
  )

  pub turn_now : (closed lend due : Bool) → closed ≡ false → lend ≡ false
      → InItsWorld p journal (λ w. IsTrue lend ↔ CanLend p w) → InItsWorld p journal (λ w. IsTrue due ↔ IsTurnDue p w)
      → Idle (not due) closed
  turn_now closed lend due goes none told when =
      let both = beside (λ w. IsTrue lend ↔ CanLend p w) (λ w. IsTrue due ↔ IsTurnDue p w) told when in
      (waits due both, works due both)
    where
      waits : (due : Bool) → InItsWorld p journal (λ w. (IsTrue lend ↔ CanLend p w) × (IsTrue due ↔ IsTurnDue p w)) → IsTrue (not due)
          → (closed ≡ false) × InItsWorld p journal (λ w. ¬ CanLend p w × ¬ IsTurnDue p w)
      waits true both e = absurd (true≢false (sym e))
      waits false both e = (
        goes,
        record {
          world = both.world;
          means = both.means;
          holds = ((λ can. absurd (true≢false (sym (both.holds.0.1 can) ∙ none))), (λ turn. absurd (true≢false (sym (both.holds.1.1 turn)))));
        },
      )

      works : (due : Bool) → InItsWorld p journal (λ w. (IsTrue lend ↔ CanLend p w) × (IsTrue due ↔ IsTurnDue p w))
          → (closed ≡ false) × InItsWorld p journal (λ w. ¬ CanLend p w × ¬ IsTurnDue p w) → IsTrue (not due)
      works false both h = refl
      works true both h =
          let all = beside (λ w. (IsTrue lend ↔ CanLend p w) × (IsTrue true ↔ IsTurnDue p w)) (λ w. ¬ CanLend p w × ¬ IsTurnDue p w) both h.1 in
          absurd (all.holds.1.1 (all.holds.0.1.0 refl))
