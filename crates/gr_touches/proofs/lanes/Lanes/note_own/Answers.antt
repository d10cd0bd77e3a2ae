use Rattle.std.proofs.Common.{◌≡◌, ◌++◌, if◌then◌else◌, true, false, List, filter, sym, ap, subst, ◌∙◌, arith}
use Rattle.gr_base.specs.declared.objects.Object.TheVariants.{Go}
use Rattle.gr_rules.specs.States.{same}
use Rattle.gr_touches.specs.declared.touch.Touch.{Touch}
use Rattle.gr_touches.specs.Lists.{list_of}
use Rattle.gr_touches.specs.Touches.{stretch}
use Rattle.gr_touches.proofs.LaneLemmas.{parts}
use Rattle.gr_touches.proofs.StretchLemmas.{as_written, own_added, run_fits, writes_fit}
use Rattle.gr_touches.proofs.lanes.Lanes.note_own.Goals as goal

pub invariant_of-self-2 : goal.invariant_of-self-2
invariant_of-self-2 c =
    let lanes = c.note_writes.new.self in
    record {
      unique = lanes.unique;
      writers = lanes.writers ∙ sym (as_written lanes.run.items c.args.place c.args.count)
          ∙ ap (filter (λ (t : Touch). t.writes)) (sym c.extend.ensures);
    }

pub returns-clause-ok : goal.returns-clause-ok
returns-clause-ok c =
    let old = c.args.self.now in
    let go = c.args.go.now in
    let wrote = stretch true c.args.place c.args.count in
    own_added go c.args.place c.args.count (list_of old) c.note_writes.new.self c.extend.new.touches.items
    (λ q. subst {_, _} (λ (r : List Touch). list_of c.note_writes.new.self q
    ≡ (if same (Go go) q then parts (λ k. k.0) r old.map q ++ wrote else parts (λ k. k.0) r old.map q)) c.reserve.ensures.items (c.in_ok-note_writes.ensures.ok q))
    (c.extend.ensures ∙ ap (λ (l : List Touch). l ++ stretch false c.args.place c.args.count) (ap (λ v. v.items) c.note_writes.ensures.run ∙ c.reserve.ensures.items))

pub returns-in_err-reserve-clause-succeeds : goal.returns-in_err-reserve-clause-succeeds
returns-in_err-reserve-clause-succeeds c fits =
    let room = run_fits c.args.self.now c.args.go.now c.args.place c.args.count fits in
    absurd (omega (arith, room, c.in_err-reserve.ensures.full, c.args.self.now.run.ok.0))

pub returns-in_err-note_writes-clause-succeeds : goal.returns-in_err-note_writes-clause-succeeds
returns-in_err-note_writes-clause-succeeds c fits =
    absurd (let no : false ≡ true = c.in_err-note_writes.ensures.succeeds (writes_fit c.args.self.now c.args.go.now c.args.place c.args.count fits) in cc)
