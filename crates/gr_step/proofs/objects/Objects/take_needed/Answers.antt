use Rattle.std.proofs.Common.{◌≡◌, true, false, refl, sym, ap, subst, ◌∙◌}
use Rattle.std.proofs.Common.{ℤ, w64, SFits, rules}
use Rattle.std.proofs.lemmas.Int.{to_z-of_z}
use Rattle.gr_rules.specs.Outcomes.{gives}
use Rattle.gr_rules.specs.Deeds.{Makes}
use Rattle.gr_code.specs.CodeFrames.{Wants}
use Rattle.gr_code.specs.Goroutines.{task_of}
use Rattle.gr_refine.specs.Tasks.{chooses}
use Rattle.gr_goros.specs.Needs.{NeedIs}
use Rattle.gr_lower.specs.Lowered.{lowered}
use Rattle.gr_record.specs.Listings.{program_in}
use Rattle.gr_step.specs.Objects.{contents_in}
use Rattle.gr_step.specs.Communicating.{Chosen}
use Rattle.gr_step.proofs.EventLemmas.{is_plain, plain_by, never_refused}
use Rattle.gr_step.proofs.objects.Objects.take_needed.Goals as goal

pub make-requires-clause-task : goal.make-requires-clause-task
make-requires-clause-task c g there =
    let is = subst (λ n. NeedIs n (lowered (program_in c.args.turn.now.listing.now)) g) c.in-Make.is (c.requires.need g there) in
    let fits : SFits w64 c.in-Make.size = search rules in
    subst (λ (z : ℤ). task_of (lowered (program_in c.args.turn.now.listing.now)) g ≡ gives (Wants (Makes z))) (sym (to_z-of_z w64 c.in-Make.size fits)) is

pub make-requires-clause-plain : goal.make-requires-clause-plain
make-requires-clause-plain c =
    plain_by (program_in c.args.turn.now.listing.now) c.args.turn.now.event.now c.args.turn.now.number c.args.self.now c.requires.may.acting _ c.requires.possible refl
    (λ g there. subst (λ n. NeedIs n (lowered (program_in c.args.turn.now.listing.now)) g) c.in-Make.is (c.requires.need g there))

pub start-requires-clause-task : goal.start-requires-clause-task
start-requires-clause-task c g there =
    subst (λ n. NeedIs n (lowered (program_in c.args.turn.now.listing.now)) g) c.in-Start.is (c.requires.need g there)

pub start-requires-clause-plain : goal.start-requires-clause-plain
start-requires-clause-plain c =
    plain_by (program_in c.args.turn.now.listing.now) c.args.turn.now.event.now c.args.turn.now.number c.args.self.now c.requires.may.acting _ c.requires.possible refl
    (start-requires-clause-task c)

pub len-requires-clause-task : goal.len-requires-clause-task
len-requires-clause-task c g there =
    subst (λ n. NeedIs n (lowered (program_in c.args.turn.now.listing.now)) g) c.in-Len.is (c.requires.need g there)

pub len-requires-clause-plain : goal.len-requires-clause-plain
len-requires-clause-plain c =
    plain_by (program_in c.args.turn.now.listing.now) c.args.turn.now.event.now c.args.turn.now.number c.args.self.now c.requires.may.acting _ c.requires.possible refl
    (len-requires-clause-task c)

pub cap-requires-clause-task : goal.cap-requires-clause-task
cap-requires-clause-task c g there =
    subst (λ n. NeedIs n (lowered (program_in c.args.turn.now.listing.now)) g) c.in-Cap.is (c.requires.need g there)

pub cap-requires-clause-plain : goal.cap-requires-clause-plain
cap-requires-clause-plain c =
    plain_by (program_in c.args.turn.now.listing.now) c.args.turn.now.event.now c.args.turn.now.number c.args.self.now c.requires.may.acting _ c.requires.possible refl
    (cap-requires-clause-task c)

pub close-requires-clause-task : goal.close-requires-clause-task
close-requires-clause-task c g there =
    subst (λ n. NeedIs n (lowered (program_in c.args.turn.now.listing.now)) g) c.in-Close.is (c.requires.need g there)

pub close-requires-clause-plain : goal.close-requires-clause-plain
close-requires-clause-plain c =
    plain_by (program_in c.args.turn.now.listing.now) c.args.turn.now.event.now c.args.turn.now.number c.args.self.now c.requires.may.acting _ c.requires.possible refl
    (close-requires-clause-task c)

pub send_or_wait-requires-clause-task : goal.send_or_wait-requires-clause-task
send_or_wait-requires-clause-task c g there =
    subst (λ n. NeedIs n (lowered (program_in c.args.turn.now.listing.now)) g) c.in-Send.is (c.requires.need g there)

pub send_or_wait-requires-clause-plain : goal.send_or_wait-requires-clause-plain
send_or_wait-requires-clause-plain c =
    plain_by (program_in c.args.turn.now.listing.now) c.args.turn.now.event.now c.args.turn.now.number c.args.self.now c.requires.may.acting _ c.requires.possible refl
    (send_or_wait-requires-clause-task c)

pub receive_or_wait-requires-clause-task : goal.receive_or_wait-requires-clause-task
receive_or_wait-requires-clause-task c g there =
    subst (λ n. NeedIs n (lowered (program_in c.args.turn.now.listing.now)) g) c.in-Receive.is (c.requires.need g there)

pub receive_or_wait-requires-clause-plain : goal.receive_or_wait-requires-clause-plain
receive_or_wait-requires-clause-plain c =
    plain_by (program_in c.args.turn.now.listing.now) c.args.turn.now.event.now c.args.turn.now.number c.args.self.now c.requires.may.acting _ c.requires.possible refl
    (receive_or_wait-requires-clause-task c)

pub select-requires-clause-task : goal.select-requires-clause-task
select-requires-clause-task c g there =
    subst (λ n. NeedIs n (lowered (program_in c.args.turn.now.listing.now)) g) c.in-Select.is (c.requires.need g there)

pub unreachable-requires : goal.unreachable-requires
unreachable-requires c =
    let a = c.requires.may.acting in
    let alone = subst (λ n. NeedIs n (lowered (program_in c.args.turn.now.listing.now)) a.goroutine) c.in-Local.is (c.requires.need a.goroutine a.there) in
    let no : false ≡ true = sym (c.requires.task a.goroutine a.there) ∙ alone in cc

pub exit-requires-clause-plain : goal.exit-requires-clause-plain
exit-requires-clause-plain c =
    let a = c.requires.may.acting in
    let leaves = subst (λ n. NeedIs n (lowered (program_in c.args.turn.now.listing.now)) a.goroutine) c.in-Exit.is (c.requires.need a.goroutine a.there) in
    is_plain (program_in c.args.turn.now.listing.now) c.args.turn.now.event.now c.args.turn.now.number c.args.self.now a (ap chooses leaves.3) c.requires.possible

pub exit-requires-clause-task : goal.exit-requires-clause-task
exit-requires-clause-task c g there = subst (λ n. NeedIs n (lowered (program_in c.args.turn.now.listing.now)) g) c.in-Exit.is (c.requires.need g there)

pub unreachable-requires-in-None : goal.unreachable-requires-in-None
unreachable-requires-in-None c =
    let chosen = subst (λ o. Chosen (program_in c.args.turn.now.listing.now) c.args.turn.now.event.now (contents_in c.args.self.now) o (contents_in c.select.new.self))
    c.in-None.is c.in_ok-change-in-Select.ensures.taken in
    never_refused (program_in c.args.turn.now.listing.now) c.args.turn.now.event.now c.args.turn.now.number c.args.self.now c.requires.may.acting c.requires.possible chosen.1

pub fail-requires-clause-plain : goal.fail-requires-clause-plain
fail-requires-clause-plain c =
    let a = c.requires.may.acting in
    let fault = subst (λ n. NeedIs n (lowered (program_in c.args.turn.now.listing.now)) a.goroutine) c.in-Fault.is (c.requires.need a.goroutine a.there) in
    is_plain (program_in c.args.turn.now.listing.now) c.args.turn.now.event.now c.args.turn.now.number c.args.self.now a (ap chooses fault.1) c.requires.possible

pub fail-requires-clause-task : goal.fail-requires-clause-task
fail-requires-clause-task c g there = subst (λ n. NeedIs n (lowered (program_in c.args.turn.now.listing.now)) g) c.in-Fault.is (c.requires.need g there)
