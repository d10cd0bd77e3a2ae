-- Queries, which change nothing.
use Rattle.std.proofs.Common.{◌≡◌, ℕ, List, sym, ap, subst, ◌∙◌}
use Rattle.gr_base.specs.declared.names.ChName.{ChName}
use Rattle.gr_base.specs.declared.names.StepId.{StepId}
use Rattle.gr_causal.specs.Dependence.{dependents, causes}
use Rattle.gr_program.specs.Programs.{Program}
use Rattle.gr_laws.specs.Dependence.{clash}
use Rattle.gr_laws.specs.Reached.{Logged}
use Rattle.gr_rollback.specs.Contents.{Contents}
use Rattle.gr_command.specs.declared.command.Command.{Command}
use Rattle.gr_command.specs.declared.command.Command.TheVariants.{Dependents, Causes, Show, Chan, Text, Console, Log}
use Rattle.gr_command.specs.declared.refusal.Refusal.TheVariants.{NotKept}
use Rattle.gr_command.specs.Replies.{Said, Steps, No}
use Rattle.gr_rollback.specs.Logs.{records_of}
use Rattle.gr_rollback.specs.Asking.{TellsSteps}
use Rattle.gr_rollback.specs.Backs.{IsNamed}
use Rattle.gr_rollback.specs.Pasts.{ids_of}
use Rattle.gr_rollback.specs.Record.{Record}
use Rattle.gr_rollback.specs.Store.{Store}
use Rattle.gr_rollback.specs.Kept.{Kept}
use Rattle.gr_rollback.specs.Stores.{program_at, contents_at, state_at}
use Rattle.gr_queries.specs.Said.{goroutine_said, channel_said, text_said, console_said, log_said}
use Rattle.gr_queries.specs.Consoles.{OfEachLog}
use Rattle.gr_session.specs.declared.debuggee.Debuggee.{Debuggee}
use Rattle.gr_session.specs.declared.journal.Memory.TheVariants.{Enough}
use Rattle.gr_session.specs.Journal.{World, Leads, tells_dependents, has_no_dependents, tells_causes, has_no_causes, shows, shows_channel, tells_text, tells_console, tells_log}
use Rattle.gr_session.specs.Debuggees.{store_in, log_in, Stands}
use Rattle.gr_session.specs.Carried.{LeadsTo}
use Rattle.gr_session.proofs.DebuggeeLemmas.{state_is}

module _ (p : Program) (w : World p) (d : Debuggee) (s : Stands p w d) where
  stays_with : (command : Command) (reply said : Said) → reply ≡ said → Leads p w command Enough w said → LeadsTo p w command Enough reply d
  stays_with command reply said is leads = record { world = w; leads = subst (Leads p w command Enough w) (sym is) leads; stands = s }

  here : state_at (store_in d) ≡ w.state
  here = state_is p w d s

  pub show_leads : (go : List ℕ) (reply : Said)
      → reply ≡ goroutine_said (program_at (store_in d)) go ((state_at (store_in d)).goroutines go) → LeadsTo p w (Show go) Enough reply d
  show_leads go reply is = stays_with (Show go) reply (goroutine_said p go (w.state.goroutines go))
      (is ∙ ap (λ q. goroutine_said q go ((state_at (store_in d)).goroutines go)) s.machine.holds.program
      ∙ ap (λ t. goroutine_said p go (t.goroutines go)) here) shows

  pub chan_leads : (k : ChName) (reply : Said)
      → reply ≡ channel_said (state_at (store_in d)) k ((state_at (store_in d)).gates k) → LeadsTo p w (Chan k) Enough reply d
  chan_leads k reply is = stays_with (Chan k) reply (channel_said w.state k (w.state.gates k)) (is ∙ ap (λ t. channel_said t k (t.gates k)) here) shows_channel

  pub text_leads : (go : List ℕ) (reply : Said) → reply ≡ text_said ((state_at (store_in d)).goroutines go) → LeadsTo p w (Text go) Enough reply d
  text_leads go reply is = stays_with (Text go) reply (text_said (w.state.goroutines go)) (is ∙ ap (λ t. text_said (t.goroutines go)) here) tells_text

  pub console_leads : (reply : Said)
      → OfEachLog (program_at (store_in d)) (records_of (log_in d)) (contents_at (store_in d)) (λ log. reply ≡ console_said (program_at (store_in d)) log)
      → LeadsTo p w Console Enough reply d
  console_leads reply each =
      let holds = s.machine.holds in
      let each_here = subst (λ q. OfEachLog q (records_of (log_in d)) (contents_at (store_in d)) (λ log. reply ≡ console_said q log)) holds.program each in
      stays_with Console reply (console_said p w.log) (each_here holds.begins w.log holds.begun.state holds.kept) tells_console

  pub log_leads : (reply : Said) → reply ≡ log_said p w.log → LeadsTo p w Log Enough reply d
  log_leads reply is = stays_with Log reply (log_said p w.log) is tells_log

  pub dependents_lead : (id : StepId) (ids : List StepId) → TellsSteps p w.log id (dependents (clash p) w.log) ids
      → LeadsTo p w (Dependents id) Enough (Steps ids) d
  dependents_lead id ids t = stays_with (Dependents id) (Steps ids) (Steps (ids_of p (dependents (clash p) w.log t.place))) (ap Steps t.names)
      (tells_dependents t.place t.named)

  pub no_dependents_lead : (id : StepId) → ((place : ℕ) → ¬ IsNamed p w.log id place) → LeadsTo p w (Dependents id) Enough (No NotKept) d
  no_dependents_lead id none = record { world = w; leads = has_no_dependents none; stands = s }

  pub causes_lead : (id : StepId) (ids : List StepId) → TellsSteps p w.log id (causes (clash p) w.log) ids
      → LeadsTo p w (Causes id) Enough (Steps ids) d
  causes_lead id ids t = stays_with (Causes id) (Steps ids) (Steps (ids_of p (causes (clash p) w.log t.place))) (ap Steps t.names)
      (tells_causes t.place t.named)

  pub no_causes_lead : (id : StepId) → ((place : ℕ) → ¬ IsNamed p w.log id place) → LeadsTo p w (Causes id) Enough (No NotKept) d
  no_causes_lead id none = record { world = w; leads = has_no_causes none; stands = s }

  -- what is told of a channel, where the store is that of the debuggee
  pub chan_told : (store : Store) (k : ChName) (reply : Said) → store ≡ store_in d → reply ≡ channel_said (state_at store) k ((state_at store).gates k)
      → LeadsTo p w (Chan k) Enough reply d
  chan_told store k reply is e = chan_leads k reply (subst (λ q. reply ≡ channel_said (state_at q) k ((state_at q).gates k)) is e)

  pub console_told : (store : Store) (records : List Record) (reply : Said) → store ≡ store_in d → records ≡ records_of (log_in d)
      → OfEachLog (program_at store) records (contents_at store) (λ log. reply ≡ console_said (program_at store) log)
      → LeadsTo p w Console Enough reply d
  console_told store records reply is are each = console_leads reply
      (subst (λ q. OfEachLog (program_at q) (records_of (log_in d)) (contents_at q) (λ log. reply ≡ console_said (program_at q) log)) is
      (subst (λ rs. OfEachLog (program_at store) rs (contents_at store) (λ log. reply ≡ console_said (program_at store) log)) are each))

  pub log_told : (records : List Record) (reply : Said) → records ≡ records_of (log_in d)
      → ((q : Program) (b t : Contents) (log : List (Logged q)) → Kept q b records log t → reply ≡ log_said q log)
      → LeadsTo p w Log Enough reply d
  log_told records reply are each =
      let kept = subst (λ rs. Kept p s.machine.holds.begins rs w.log (contents_at (store_in d))) (sym are) s.machine.holds.kept in
      log_leads reply (each p s.machine.holds.begins (contents_at (store_in d)) w.log kept)
