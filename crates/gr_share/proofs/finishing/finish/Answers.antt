use Rattle.std.proofs.Common.{rules, ◌≡◌, ℕ, List, All, length, refl, ap, sym, ◌∙◌, subst}
use Rattle.gr_session.specs.Keeps.{Seen}
use Rattle.gr_share.specs.Calls.{Asker, Staff, IsTied}
use Rattle.gr_share.specs.Seats.{AreAll, LacksSeat}
use Rattle.gr_share.specs.Works.{IsAtWork}
use Rattle.gr_share.proofs.Seats.{handed_back, lacks_upto}
use Rattle.gr_share.proofs.finishing.finish.Goals as goal

pub returns-then-are_all-clause-desks : goal.returns-then-are_all-clause-desks
returns-then-are_all-clause-desks g c =
    let session = sym (c.into_session.ensures.session ∙ ap (λ h. h.session) c.settle.ensures.same.0) in
    let count : c.args.desks.len ≡ length c.args.desks.items = search rules in
    handed_back (λ d. IsTied c.into_session.result d) c.args.desks.len c.args.desks.items c.as_mut_slice.result.now c.settle.new.desks
    c.settle.ensures.same.1 c.as_mut_slice.ensures.value count
    (subst (λ (s : Seen). All (λ d. IsTied s d) c.as_mut_slice.result.now) session c.settle.ensures.desks)

pub returns-then-are_all-clause-workers : goal.returns-then-are_all-clause-workers
returns-then-are_all-clause-workers g c =
    let session = sym (c.into_session.ensures.session ∙ ap (λ h. h.session) c.settle.ensures.same.0) in
    let count : c.args.workers.len ≡ length c.args.workers.items = search rules in
    handed_back (λ w. IsTied c.into_session.result w.seat) c.args.workers.len c.args.workers.items c.as_mut_slice-then-are_all.result.now c.settle.new.workers
    c.settle.ensures.same.2 c.as_mut_slice-then-are_all.ensures.value count
    (subst (λ (s : Seen). All (λ w. IsTied s w.seat) c.as_mut_slice-then-are_all.result.now) session c.settle.ensures.workers)

pub returns-then-are_all-clause-at_work : goal.returns-then-are_all-clause-at_work
returns-then-are_all-clause-at_work g c =
    let count : c.args.workers.len ≡ length c.args.workers.items = search rules in
    (handed_back (IsAtWork g.B.Room.program) c.args.workers.len c.args.workers.items c.as_mut_slice-then-are_all.result.now c.settle.new.workers
    c.settle.ensures.same.2 c.as_mut_slice-then-are_all.ensures.value count c.settle.ensures.at_work).1

pub returns-then-are_all-clause-all : goal.returns-then-are_all-clause-all
returns-then-are_all-clause-all g c =
    let askers = ap (λ s. s.askers) c.into_session.ensures.session ∙ ap (λ h. h.session.askers) c.settle.ensures.same.0 in
    subst (λ (z : ℕ × ℕ × List Asker × List Staff). AreAll z.0 z.1 z.2 z.3)
    (λ k. (ap (λ s. s.first) c.shared.view_is k, (c.askers.ensures.count ∙ sym askers) k, c.as_slice.ensures.value k, c.as_slice-2.ensures.value k))
    (c.if-are_all.ensures.all refl)

pub returns-else-are_all-clause-lacks : goal.returns-else-are_all-clause-lacks
returns-else-are_all-clause-lacks g c =
    subst (λ (z : ℕ × List Asker × List Staff). LacksSeat z.0 g.B.Room.last z.1 z.2)
    (λ k. (ap (λ s. s.first) c.shared.view_is k, c.as_slice.ensures.value k, c.as_slice-2.ensures.value k))
    (lacks_upto _ _ g.B.Room.last _ _ c.askers.ensures.few (c.if-are_all.ensures.lacks refl))
