use Rattle.std.proofs.Common.{refl, true, ◌++◌, sym, ap, ◌∙◌}
use Rattle.std.specs.Option.{option_copied_mut}
use Rattle.gr_base.specs.declared.objects.Object.TheVariants.{Go}
use Rattle.gr_touches.specs.Touches.{stretch}
use Rattle.gr_touches.proofs.LaneLemmas.{written_unique, wrote, wrote_nothing, on_ok, on_err}
use Rattle.gr_touches.proofs.StretchLemmas.{has_room_for, no_room_for}
use Rattle.gr_touches.proofs.lanes.Lanes.note_writes.Goals as goal

pub invariant_of-self : goal.invariant_of-self
invariant_of-self c = record { unique = written_unique c.args.self.now.map _ _ c.args.self.now.unique; writers = c.args.self.now.writers }

pub returns-in-Some-clause-ok : goal.returns-in-Some-clause-ok
returns-in-Some-clause-ok c =
    on_ok c.extend.result _ _
    (λ e. wrote (λ k. k.0) c.args.self.now.run.items c.args.self.now.map c.args.self.now.unique (Go c.args.go.now) refl c.in-Some.number c.in-Some.ensures.named
    c.unwrap.result.now c.extend.new.self (sym (ap option_copied_mut c.unwrap.ensures) ∙ c.get_index_mut.ensures.value)
    (λ ts. ts ++ stretch true c.args.place c.args.count) e)
    c.extend.ensures.ok

pub returns-in-Some-clause-err : goal.returns-in-Some-clause-err
returns-in-Some-clause-err c =
    on_err c.extend.result _ _
    (λ e. wrote_nothing (λ k. k.0) c.args.self.now.run.items c.args.self.now.map c.args.self.now.unique (Go c.args.go.now) refl c.in-Some.number c.in-Some.ensures.named
    c.unwrap.result.now c.extend.new.self (sym (ap option_copied_mut c.unwrap.ensures) ∙ c.get_index_mut.ensures.value) e)
    c.extend.ensures.err

pub returns-in-Some-clause-succeeds : goal.returns-in-Some-clause-succeeds
returns-in-Some-clause-succeeds c fits =
    c.extend.ensures.succeeds
    (has_room_for c.args.self.now (Go c.args.go.now) refl c.in-Some.number c.in-Some.ensures.named c.unwrap.result.now
    (sym (ap option_copied_mut c.unwrap.ensures) ∙ c.get_index_mut.ensures.value) c.args.count fits)

pub returns-in-None-clause-succeeds : goal.returns-in-None-clause-succeeds
returns-in-None-clause-succeeds c fits = absurd (no_room_for c.args.self.now (Go c.args.go.now) refl c.in-None.ensures.absent c.args.count c.requires.some fits)
