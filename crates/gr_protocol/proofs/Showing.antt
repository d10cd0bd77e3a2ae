-- What a machine shows, and what its session's log says of it.
use Rattle.std.proofs.Common.{◌≡◌, ◌∙◌, ◌≤◌, ◌<◌, ℕ, List, length, refl, sym, ap, subst, arith}
use Rattle.gr_base.specs.declared.names.ChName.{ChName}
use Rattle.gr_command.specs.declared.request.View.{View}
use Rattle.gr_command.specs.declared.request.View.TheVariants.{Goroutine, Channel, Text, Console}
use Rattle.gr_command.specs.declared.refusal.Refusal.TheVariants.{NotKept}
use Rattle.gr_command.specs.Replies.{Said, No}
use Rattle.gr_follow.specs.Following.{IsOf, StandsAfter}
use Rattle.gr_program.specs.Programs.{Program}
use Rattle.gr_program.specs.Views.{program_of}
use Rattle.gr_protocol.specs.Earlier.{Shows, ShowsAt, command_of, world_of}
use Rattle.gr_queries.specs.Consoles.{OfEachLog}
use Rattle.gr_queries.specs.Said.{goroutine_said, channel_said, text_said, console_said}
use Rattle.gr_rollback.proofs.KeptLemmas.{kept_length}
use Rattle.gr_rollback.specs.declared.machine.Machine.{Machine}
use Rattle.gr_rollback.specs.Machines.{Stands, steps_of, store_of}
use Rattle.gr_rollback.specs.Pasts.{Timeline}
use Rattle.gr_session.specs.declared.journal.Memory.TheVariants.{Enough}
use Rattle.gr_session.specs.Entries.{InItsWorld}
use Rattle.gr_session.specs.Keeps.{Seen}
use Rattle.gr_session.specs.Journal.{Leads, shows, shows_channel, tells_text, tells_console}
use Rattle.gr_step.specs.declared.store.Store.{Store}
use Rattle.gr_step.specs.Listings.{state_in}
use Rattle.gr_step.specs.Record.{Record}
use Rattle.gr_step.specs.Stores.{program_at, contents_at, state_at}

module _ (p : Program) (w : Timeline p) (m : Machine) (s : Stands p w m) where
  -- the state that its store is in
  state_is : state_at (store_of m) ≡ w.past.state
  state_is = ap (λ q. state_in q (contents_at (store_of m))) s.holds.program ∙ sym s.holds.state

  -- as many steps as records
  pub as_many : length (steps_of m) ≡ length w.past.log
  as_many = kept_length p s.holds.begins (steps_of m) w.past.log (contents_at (store_of m)) s.holds.kept

  says : (view : View) (reply said : Said) → reply ≡ said → Shows p w.past view said → Shows p w.past view reply
  says view reply said is leads = subst (Leads p (world_of p w.past) (command_of view) Enough (world_of p w.past)) (sym is) leads

  pub goroutine_shown : (go : List ℕ) (reply : Said)
      → reply ≡ goroutine_said (program_at (store_of m)) go ((state_at (store_of m)).goroutines go) → Shows p w.past (Goroutine go) reply
  goroutine_shown go reply is = says (Goroutine go) reply (goroutine_said p go (w.past.state.goroutines go))
      (is ∙ ap (λ q. goroutine_said q go ((state_at (store_of m)).goroutines go)) s.holds.program
      ∙ ap (λ t. goroutine_said p go (t.goroutines go)) state_is) shows

  channel_shown : (c : ChName) (reply : Said)
      → reply ≡ channel_said (state_at (store_of m)) c ((state_at (store_of m)).gates c) → Shows p w.past (Channel c) reply
  channel_shown c reply is = says (Channel c) reply (channel_said w.past.state c (w.past.state.gates c))
      (is ∙ ap (λ t. channel_said t c (t.gates c)) state_is) shows_channel

  pub text_shown : (go : List ℕ) (reply : Said) → reply ≡ text_said ((state_at (store_of m)).goroutines go) → Shows p w.past (Text go) reply
  text_shown go reply is = says (Text go) reply (text_said (w.past.state.goroutines go))
      (is ∙ ap (λ t. text_said (t.goroutines go)) state_is) tells_text

  console_shown : (reply : Said)
      → OfEachLog (program_at (store_of m)) (steps_of m) (contents_at (store_of m)) (λ log. reply ≡ console_said (program_at (store_of m)) log)
      → Shows p w.past Console reply
  console_shown reply each =
      let each_here = subst (λ q. OfEachLog q (steps_of m) (contents_at (store_of m)) (λ log. reply ≡ console_said q log)) s.holds.program each in
      says Console reply (console_said p w.past.log) (each_here s.holds.begins w.past.log s.holds.begun.state s.holds.kept) tells_console

  -- where the store, and the records, are those of the machine
  pub channel_told : (store : Store) (c : ChName) (reply : Said) → store ≡ store_of m
      → reply ≡ channel_said (state_at store) c ((state_at store).gates c) → Shows p w.past (Channel c) reply
  channel_told store c reply is e = channel_shown c reply (subst (λ q. reply ≡ channel_said (state_at q) c ((state_at q).gates c)) is e)

  pub console_told : (store : Store) (records : List Record) (reply : Said) → store ≡ store_of m → records ≡ steps_of m
      → OfEachLog (program_at store) records (contents_at store) (λ log. reply ≡ console_said (program_at store) log) → Shows p w.past Console reply
  console_told store records reply is are each = console_shown reply
      (subst (λ q. OfEachLog (program_at q) (steps_of m) (contents_at q) (λ log. reply ≡ console_said (program_at q) log)) is
      (subst (λ rs. OfEachLog (program_at store) rs (contents_at store) (λ log. reply ≡ console_said (program_at store) log)) are each))

  -- a second machine stands after the first steps: what it shows is what is asked for
  pub shown_after : (n : Machine) (k : ℕ) (view : View) (reply : Said) → k ≤ length (steps_of m) → StandsAfter p w.past.log k n
      → ((v : Timeline p) → Stands p v n → Shows p v.past view reply) → ShowsAt p w.past.log k view reply
  shown_after n k view reply few there shown = record {
    kept = λ h. record { state = there.state; run = there.run; shows = shown _ there.stands };
    not_kept = λ h. absurd (omega (arith, as_many, few, h));
  }

  -- more are asked for than there are
  pub none_shown : (k : ℕ) (view : View) → length (steps_of m) < k → ShowsAt p w.past.log k view (No NotKept)
  none_shown k view many = record {
    kept = λ h. absurd (omega (arith, as_many, many, h));
    not_kept = λ h. refl;
  }

-- a machine of the program of another
pub of_leader : (p : Program) (w : Timeline p) (m n : Machine) → Stands p w m → IsOf p n → IsOf (program_at (store_of m)) n
of_leader p w m n s of = subst (λ q. IsOf q n) (sym s.holds.program) of

pub of_session : (p : Program) (w : Timeline p) (m n : Machine) → Stands p w m → IsOf (program_at (store_of m)) n → IsOf p n
of_session p w m n s of = subst (λ q. IsOf q n) s.holds.program of

-- what is shown, of a session that is the same
pub shown_in : (old new : Seen) (k : ℕ) (view : View) (reply : Said) → new ≡ old
    → InItsWorld (program_of new.program) new.journal (λ w. ShowsAt (program_of new.program) w.log k view reply)
    → InItsWorld (program_of old.program) old.journal (λ w. ShowsAt (program_of old.program) w.log k view reply)
shown_in old new k view reply same h = subst (λ (s : Seen). InItsWorld (program_of s.program) s.journal (λ w. ShowsAt (program_of s.program) w.log k view reply)) same h
