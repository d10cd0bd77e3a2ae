use Rattle.std.proofs.Common.{◌≡◌, true, false, ◌∷◌, None, inl, inr, refl, sym, ap, subst, ◌∙◌}
use Rattle.std.proofs.lemmas.Result.{err_from_is_err_and}
use Rattle.gr_pool.specs.Goroutines.{is_among}
use Rattle.gr_rules.specs.Steps.{refusal}
use Rattle.gr_step.specs.Record.{Record}
use Rattle.gr_step.specs.Records.{taken_back}
use Rattle.gr_step.specs.Stores.{program_at, contents_at}
use Rattle.gr_step.proofs.RecordLemmas.{no_object_twice}
use Rattle.gr_depend.specs.Logs.{records_of}
use Rattle.gr_rollback.specs.declared.course.Course.{Course}
use Rattle.gr_rollback.specs.Readiness.{AllKnown, IsReadyIn, KeepsStatus, Settles, met_by, others_of}
use Rattle.gr_rollback.specs.Steps.{Keeps}
use Rattle.gr_rollback.proofs.Basics.{last_same, no_item, not_nothing}
use Rattle.gr_rollback.proofs.CourseLemmas.{can_count, stays, keeps, own_stays_ready, own_in_pool, met_in_pool, follows, logged, ready_still, tells}
use Rattle.gr_rollback.proofs.StepLemmas.{asked_no_step, meant_here, record_is_allowed}
use Rattle.gr_rollback.proofs.course.Course.keep_further.Goals as goal

pub step_meant-requires-clause-counted : goal.step_meant-requires-clause-counted
step_meant-requires-clause-counted c = can_count _ c.requires.past c.args.self.now c.requires.holds

pub returns-in_err-step-clause-kept : goal.returns-in_err-step-clause-kept
returns-in_err-step-clause-kept c = λ p w s.
    let told = err_from_is_err_and c.from_residual.result c.from_residual.ensures.1 in
    rw (told.1, told.2) (
      asked_no_step p w c.args.self.now c.args.go c.args.choice _ s c.in_err-step.ensures.why,
      stays p w c.args.self.now _ s (record {
        listing = c.in_err-step.ensures.listing;
        contents = c.in_err-step.ensures.err;
        records = refl;
        pool = λ has. ready_still c.args.self.now.pool c.args.self.now.pool _ _ has c.in_err-step.ensures.err (λ n k. k) refl;
        first = refl;
      }),
    )

pub returns-in_err-step-clause-not_taken : goal.returns-in_err-step-clause-not_taken
returns-in_err-step-clause-not_taken c =
    let told = err_from_is_err_and c.from_residual.result c.from_residual.ensures.1 in
    rw told.1 (inl c.in_err-step.ensures.not_taken)

pub returns-in_err-step-clause-err : goal.returns-in_err-step-clause-err
returns-in_err-step-clause-err c =
    let told = err_from_is_err_and c.from_residual.result c.from_residual.ensures.1 in
    rw told.1 c.in_err-step.ensures.err

pub enter-entered-requires : goal.enter-entered-requires
enter-entered-requires c =
    let p = program_at c.args.self.now.store in
    let before = contents_at c.args.self.now.store in
    let after = contents_at c.step_meant.new.self in
    let is = c.in_ok-step.ensures.step in
    no_object_twice p before c.in_ok-step.step (logged p before after c.in_ok-step.step is) after (tells p before after c.in_ok-step.step is)

pub returns-in-Err-clause-kept : goal.returns-in-Err-clause-kept
returns-in-Err-clause-kept c = λ p w s.
    let is = c.in_ok-step.ensures.step in (
      subst (λ e. refusal p w.state e ≡ None) (c.in_ok-step.ensures.event ∙ meant_here p w c.args.self.now c.args.go c.args.choice s) (record_is_allowed p w c.args.self.now c.in_ok-step.step (contents_at c.step_meant.new.self) s is),
      stays p w c.args.self.now _ s (record {
        listing = c.withdraw.ensures.listing ∙ c.in_ok-step.ensures.listing;
        contents = c.withdraw.ensures.back ∙ ap (λ (r : Record). taken_back r.id.go r.change (contents_at c.step_meant.new.self)) c.in-Err.ensures.handed_back ∙ is.takes.back;
        records = c.in-Err.ensures.err;
        pool = λ has. ready_still c.args.self.now.pool c.enter-entered.new.pool _ _ has
            (c.withdraw.ensures.back ∙ ap (λ (r : Record). taken_back r.id.go r.change (contents_at c.step_meant.new.self)) c.in-Err.ensures.handed_back ∙ is.takes.back)
            c.in-Err.ensures.more c.in-Err.ensures.ready;
        first = refl;
      }),
    )

pub returns-in-Err-clause-err : goal.returns-in-Err-clause-err
returns-in-Err-clause-err c =
    c.withdraw.ensures.back
    ∙ ap (λ (r : Record). taken_back r.id.go r.change (contents_at c.step_meant.new.self)) c.in-Err.ensures.handed_back
    ∙ c.in_ok-step.ensures.step.takes.back

pub returns-in-Err-clause-not_taken : goal.returns-in-Err-clause-not_taken
returns-in-Err-clause-not_taken c = inr (refl, c.withdraw.ensures.taken ∙ c.in_ok-step.ensures.taken)

pub settle_taken-requires-clause-own : goal.settle_taken-requires-clause-own
settle_taken-requires-clause-own c =
    let r = c.in_ok-step.step in
    let last = last_same (records_of c.enter-entered.new.log) (records_of c.args.self.now.log) r c.in-Some.last.now c.in_default.ensures.ok c.in-Some.ensures in
    let own = (own_in_pool _ c.requires.past c.args.self.now c.requires.holds r (contents_at c.step_meant.new.self) c.in_ok-step.ensures.step).1 in
    subst (λ (q : Record). is_among q.id.go c.enter-entered.new.pool.ready ≡ true) (sym last) (ap (is_among r.id.go) c.in_default.ensures.ready ∙ own)

pub settle_taken-requires-clause-ready : goal.settle_taken-requires-clause-ready
settle_taken-requires-clause-ready c =
    let p = program_at c.args.self.now.store in
    let r = c.in_ok-step.step in
    let after = contents_at c.step_meant.new.self in
    let last = last_same (records_of c.enter-entered.new.log) (records_of c.args.self.now.log) r c.in-Some.last.now c.in_default.ensures.ok c.in-Some.ensures in
    subst (λ (q : Record). is_among q.id.go (others_of q.change) ≡ false → KeepsStatus q.change.own → IsReadyIn after q.id.go) (sym last)
    (own_stays_ready p (contents_at c.args.self.now.store) after r c.in_ok-step.ensures.step)

pub settle_taken-requires-clause-met : goal.settle_taken-requires-clause-met
settle_taken-requires-clause-met c =
    let r = c.in_ok-step.step in
    let last = last_same (records_of c.enter-entered.new.log) (records_of c.args.self.now.log) r c.in-Some.last.now c.in_default.ensures.ok c.in-Some.ensures in
    subst (λ (q : Record). AllKnown (met_by q.change) c.enter-entered.new.pool) (sym last)
    (met_in_pool _ c.requires.past c.args.self.now c.requires.holds r (contents_at c.step_meant.new.self) c.in_ok-step.ensures.step c.enter-entered.new.pool
    c.in_default.ensures.more c.in_default.ensures.child)

pub settle_taken-requires-clause-child : goal.settle_taken-requires-clause-child
settle_taken-requires-clause-child c =
    let r = c.in_ok-step.step in
    let last = last_same (records_of c.enter-entered.new.log) (records_of c.args.self.now.log) r c.in-Some.last.now c.in_default.ensures.ok c.in-Some.ensures in
    rw last c.in_default.ensures.child

pub returns-in-Some-clause-kept : goal.returns-in-Some-clause-kept
returns-in-Some-clause-kept c = λ p w s.
    let r = c.in_ok-step.step in
    let is = c.in_ok-step.ensures.step in
    let last = last_same (records_of c.enter-entered.new.log) (records_of c.args.self.now.log) r c.in-Some.last.now c.in_default.ensures.ok c.in-Some.ensures in
    let met = met_in_pool _ c.requires.past c.args.self.now c.requires.holds r (contents_at c.step_meant.new.self) is c.enter-entered.new.pool
    c.in_default.ensures.more c.in_default.ensures.child in
    let settles : Settles (r.id.go ∷ others_of r.change) (contents_at c.step_meant.new.self) c.enter-entered.new.pool c.settle_taken.new.pool =
    subst (λ (q : Record). Settles (q.id.go ∷ others_of q.change) (contents_at c.step_meant.new.self) c.enter-entered.new.pool c.settle_taken.new.pool) last c.settle_taken.ensures in
    let new : Course = record { store = c.step_meant.new.self; log = c.enter-entered.new.log; pool = c.settle_taken.new.pool; first = c.args.self.now.first } in
    subst (λ e. Keeps p w e c.of-told.result new) (c.in_ok-step.ensures.event ∙ meant_here p w c.args.self.now c.args.go c.args.choice s)
    (keeps p w c.args.self.now new r c.of-told.result c.of-told.ensures s (record {
      is = is;
      run = c.in_ok-step.ensures.run;
      listing = c.in_ok-step.ensures.listing;
      follows = follows r (contents_at c.step_meant.new.self) c.args.self.now.pool c.enter-entered.new.pool c.settle_taken.new.pool c.in_default.ensures.more
          c.in_default.ensures.ready met c.in_default.ensures.child settles;
      log = c.in_default.ensures.ok;
      short = c.in_default.ensures.short;
      first = refl;
    }))

pub returns-in_default-last-clause-kept : goal.returns-in_default-last-clause-kept
returns-in_default-last-clause-kept c =
    absurd (not_nothing (records_of c.args.self.now.log) c.in_ok-step.step
    (sym c.in_default.ensures.ok ∙ no_item (records_of c.enter-entered.new.log) c.in_default-last.ensures))
