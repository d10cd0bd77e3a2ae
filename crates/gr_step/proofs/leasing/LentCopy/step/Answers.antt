use Rattle.std.proofs.Common.{◌≡◌, ◌+◌, ◌++◌, true, true≢false, List, [], ◌∷◌, length, None, sym, ap, subst, ◌∙◌, refl}
use Rattle.std.proofs.lemmas.List.{length_push}
use Rattle.gr_base.specs.declared.events.Choice.TheVariants.{Plain}
use Rattle.gr_code.specs.CodeFrames.{ProgramCode}
use Rattle.gr_code.specs.CodeViews.{program_code_of}
use Rattle.gr_code.specs.Goroutines.{is_local, local, task_of}
use Rattle.gr_rules.specs.Outcomes.{gives, wrong}
use Rattle.gr_goros.specs.Kinds.{kind_of}
use Rattle.gr_goros.specs.Tasks.{IsStep}
use Rattle.gr_lower.specs.Lowered.{lowered}
use Rattle.gr_record.specs.Effects.{Effect}
use Rattle.gr_record.specs.declared.record.Record.{Record}
use Rattle.gr_step.specs.declared.leasing.Lent.{Lent}
use Rattle.gr_step.specs.Leasing.{IsOwnRecord, Walk, name_lent, program_lent, goroutine_lent, goroutine_led_to, records_led}
use Rattle.gr_step.proofs.LeaseLemmas.{has_task, has_step, lease_goes}
use Rattle.gr_step.proofs.LocalLemmas.{still_no_fault}
use Rattle.gr_step.proofs.StayLemmas.{fault_stays_not}
use Rattle.gr_step.proofs.leasing.LentCopy.step.Goals as goal

pub is_local-requires : goal.is_local-requires
is_local-requires c =
    let l = c.args.self.now in
    let can = c.requires.can_be in
    let code = ap program_code_of (c.deref-else-steps.ensures ∙ ap (λ (lent : Lent). lent.listing.code.value) c.deref.ensures) ∙ c.requires.coded in
    subst {_, _} (λ (code : ProgramCode). ¬ (task_of code (goroutine_led_to l) ≡ wrong)) (sym code)
    (has_task (program_lent l) can.contents can.running can.channels can.runs (name_lent l) (goroutine_led_to l) can.there can.is_ready)

pub local_step-requires-clause-right : goal.local_step-requires-clause-right
local_step-requires-clause-right c =
    let l = c.args.self.now in
    let can = c.requires.can_be in
    let code = ap program_code_of (c.deref-else-steps.ensures ∙ ap (λ (lent : Lent). lent.listing.code.value) c.deref.ensures) ∙ c.requires.coded in
    let more = ap program_code_of (c.deref-4.ensures ∙ ap (λ (lent : Lent). lent.listing.code.value) c.deref-3.ensures) ∙ c.requires.coded in
    let here : is_local (lowered (program_lent l)) (goroutine_led_to l) ≡ true =
    subst {_, _} (λ (code : ProgramCode). is_local code (goroutine_led_to l) ≡ true) code (sym c.is_local.ensures ∙ c.if-not-is_local.false) in
    subst {_, _} (λ (code : ProgramCode). ¬ (local code (goroutine_led_to l) ≡ wrong)) (sym more)
    (has_step (program_lent l) can.contents can.running can.channels can.runs (name_lent l) (goroutine_led_to l) can.there can.is_ready here)

pub returns-in-Fault-clause-none : goal.returns-in-Fault-clause-none
returns-in-Fault-clause-none c = λ bad leads.
    let l = c.args.self.now in
    let p = program_lent l in
    let g = goroutine_led_to l in
    let more = ap program_code_of (c.deref-4.ensures ∙ ap (λ (lent : Lent). lent.listing.code.value) c.deref-3.ensures) ∙ c.requires.coded in
    let step : IsStep (c.in_ok-kind.kind, c.in_ok-kind.own) (local (lowered p) g) l.reached c.local_step.new.self =
    subst {_, _} (λ (code : ProgramCode). IsStep (c.in_ok-kind.kind, c.in_ok-kind.own) (local code g) l.reached c.local_step.new.self) more
    c.in_ok-kind.ensures.step in
    let is = step.is ∙ (λ i. gives (kind_of (c.in-Fault.is i), c.local_step.new.self.content)) in
    true≢false (sym leads.own ∙ fault_stays_not (lowered p) g c.local_step.new.self.content c.in-Fault.field-0 is)

pub returns : goal.returns
returns c =
    let l = c.args.self.now in
    let p = program_lent l in
    let g = goroutine_led_to l in
    let code = ap program_code_of (c.deref-else-steps.ensures ∙ ap (λ (lent : Lent). lent.listing.code.value) c.deref.ensures) ∙ c.requires.coded in
    let more = ap program_code_of (c.deref-4.ensures ∙ ap (λ (lent : Lent). lent.listing.code.value) c.deref-3.ensures) ∙ c.requires.coded in
    let here : is_local (lowered p) g ≡ true =
    subst {_, _} (λ (code : ProgramCode). is_local code g ≡ true) code (sym c.is_local.ensures ∙ c.if-not-is_local.false) in
    let step : IsStep (c.in_ok-kind.kind, c.in_ok-kind.own) (local (lowered p) g) l.reached c.local_step.new.self =
    subst {_, _} (λ (code : ProgramCode). IsStep (c.in_ok-kind.kind, c.in_ok-kind.own) (local code g) l.reached c.local_step.new.self) more
    c.in_ok-kind.ensures.step in
    let named = c.in_ok-copy.ensures ∙ ap (λ (lent : Lent). lent.go) c.deref-2.ensures in
    let r : Record = record {
      id = record { go = c.in_ok-copy.field-0; n = c.steps-2.result + 1 };
      choice = Plain;
      change = record { kind = kind_of c.in_ok-kind.kind; own = c.in_ok-kind.own; beyond = None };
    } in
    let own : IsOwnRecord (lowered p) (name_lent l) g r c.local_step.new.self.content = record {
      name = λ i. record { go = named i; n = c.steps-2.ensures i + 1 };
      plain = refl;
      goes = record {
        here = here;
        step = step.is;
        no_fault = still_no_fault c.in_ok-kind.kind c.in_default.not-Fault;
        beyond = refl;
        back = step.undone.back;
        fits = step.undone.fits;
      };
    } in
    let on = lease_goes p (name_lent l) (goroutine_lent l) g c.local_step.new.self.content (records_led l) r c.requires.walk c.requires.can_be own in
    let records = c.push_reserved.ensures.items ∙ ap (λ rs. rs ++ (record r { change = c.alone.result }) ∷ []) c.in_ok-reserve.ensures.items
    ∙ ap (λ (change : Effect). records_led l ++ (record r { change = change }) ∷ []) c.alone.ensures in
    record {
      lease = record {
        coded = c.requires.coded;
        walk = subst {_, _} (λ (rs : List Record). Walk (lowered p) (name_lent l) (goroutine_lent l) rs c.local_step.new.self.content) (sym records) on.0;
        can_be = on.1;
        was_ready = c.requires.was_ready;
        counted = c.len-self.ensures ∙ c.push_reserved.new.self.ok.0;
      };
      loan = record { program = refl; name = refl; lent = refl };
      goes = λ _. record {
        record_of = r;
        records = records;
        steps = c.len-self.ensures ∙ c.push_reserved.new.self.ok.0 ∙ ap length records ∙ length_push (records_led l) r ∙ ap (λ n. n + 1) (sym c.requires.counted);
      };
      none = λ bad. absurd (true≢false bad);
      stays = λ bad. absurd (true≢false bad);
      err = tt;
    }
