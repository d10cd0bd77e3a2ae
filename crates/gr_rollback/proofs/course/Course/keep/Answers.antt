use Rattle.std.proofs.Common.{◌≡◌, None, ap, subst, ◌∙◌}
use Rattle.std.specs.Option.{unwrap_or}
use Rattle.std.specs.Prelude.{OnErr}
use Rattle.gr_base.specs.declared.events.Choice.{Choice}
use Rattle.gr_base.specs.declared.events.Choice.TheVariants.{Plain}
use Rattle.gr_base.specs.declared.events.Event.{Event}
use Rattle.gr_rules.specs.Steps.{refusal}
use Rattle.gr_step.specs.Records.{event_of}
use Rattle.gr_step.specs.Stores.{program_at, contents_at, taken_at}
use Rattle.gr_step.proofs.RecordLemmas.{no_object_twice}
use Rattle.gr_rollback.specs.Stepping.{event_meant}
use Rattle.gr_rollback.specs.Steps.{Kept}
use Rattle.gr_rollback.proofs.JoinLemmas.{joined_or_not, may_count, nothing_taken, same_contents}
use Rattle.gr_rollback.proofs.CourseLemmas.{can_count, is_course, logged, tells}
use Rattle.gr_rollback.proofs.ChoiceLemmas.{plain_is_meant}
use Rattle.gr_rollback.proofs.StepLemmas.{record_is_allowed}
use Rattle.gr_rollback.proofs.course.Course.keep.Goals as goal

pub step_ints-requires-clause-counted : goal.step_ints-requires-clause-counted
step_ints-requires-clause-counted c = can_count _ c.requires.past c.args.self.now c.requires.holds

pub join-requires-clause-once : goal.join-requires-clause-once
join-requires-clause-once c =
    let p = program_at c.args.self.now.store in
    let before = contents_at c.args.self.now.store in
    let after = contents_at c.step_ints.new.self in
    let is = c.in-Ok.ensures.step in
    no_object_twice p before c.in-Ok.step (logged p before after c.in-Ok.step is) after (tells p before after c.in-Ok.step is)

pub returns-in-Ok-clause-kept : goal.returns-in-Ok-clause-kept
returns-in-Ok-clause-kept c = λ p w s.
    let step = c.in-Ok.ensures in
    let plain : Event = record { go = c.args.go; choice = unwrap_or c.args.choice Plain } in
    let event : event_of c.in-Ok.step ≡ plain = step.event ∙ ap (λ (ch : Choice). record { go = c.args.go; choice = ch }) c.unwrap_or.ensures in
    let allowed = subst (λ e. refusal p w.state e ≡ None) event (record_is_allowed p w c.args.self.now c.in-Ok.step (contents_at c.step_ints.new.self) s step.step) in
    subst (λ e. Kept p w e c.join.result c.join.new.self) (plain_is_meant p w.state c.args.go c.args.choice allowed)
    (joined_or_not p w c.args.self.now s c.in-Ok.step c.step_ints.new.self
    (record { is = step.step; alone = step.alone; keeps = step.stays; run = step.run; listing = step.listing })
    plain c.join.result c.join.new.self event c.join.ensures.joined)

pub returns-in-Ok-clause-not_taken : goal.returns-in-Ok-clause-not_taken
returns-in-Ok-clause-not_taken c =
    may_count _ c.in-Ok.step c.join.result c.join.new.self (taken_at c.args.self.now.store) c.join.ensures.joined
    (c.join.ensures.taken ∙ c.in-Ok.ensures.taken)

pub returns-in-Ok-clause-err : goal.returns-in-Ok-clause-err
returns-in-Ok-clause-err c =
    same_contents c.args.self.now c.step_ints.new.self c.in-Ok.step c.join.result c.join.new.self c.in-Ok.ensures.step.takes.back
    c.join.ensures.joined

pub returns-in-Err-clause-err : goal.returns-in-Err-clause-err
returns-in-Err-clause-err c =
    subst (λ s. OnErr c.keep_further.result (contents_at c.keep_further.new.self.store ≡ s)) c.in-Err.ensures.err c.keep_further.ensures.err

pub keep_further-requires : goal.keep_further-requires
keep_further-requires c =
    let here = c.requires in
    is_course _ here.past _ (nothing_taken _ here.past c.args.self.now c.step_ints.new.self here.holds c.in-Err.ensures.listing c.in-Err.ensures.err)

pub returns-in-Err-clause-kept : goal.returns-in-Err-clause-kept
returns-in-Err-clause-kept c = λ p w s.
    subst (λ g. Kept p w (event_meant p w.state g c.args.choice) c.keep_further.result c.keep_further.new.self)
    (ap (λ (e : Event). e.go) c.in-Err.ensures.returned)
    (c.keep_further.ensures.kept p w (nothing_taken p w c.args.self.now c.step_ints.new.self s c.in-Err.ensures.listing c.in-Err.ensures.err))
