use Rattle.std.proofs.Common.{◌≡◌, ◌≤◌, ◌^◌, ◌++◌, true, false, length, subst, sym, ap, ◌∙◌, length-append, arith}
use Rattle.std.specs.List.{list_all}
use Rattle.std.specs.Prelude.{if◌then◌else◌}
use Rattle.gr_record.specs.Conflicts.{touched_by}
use Rattle.gr_touches.specs.Lists.{list_of}
use Rattle.gr_touches.specs.Touches.{touches_in, none_twice}
use Rattle.gr_depend.proofs.AppendLemmas.{with_own, own_fits, all_once_then}
use Rattle.gr_depend.proofs.log.Log.append.Goals as goal

pub note_own-requires : goal.note_own-requires
note_own-requires c =
    omega (arith, c.if-count-left.false)

pub unwrap-requires : goal.unwrap-requires
unwrap-requires c =
    c.append.ensures.succeeds (omega (arith, c.in_ok-reserve.ensures.ok, c.reserve.ensures.len, c.len-count.ensures))

pub invariant_of-self-in-Break-branch-2 : goal.invariant_of-self-in-Break-branch-2
invariant_of-self-in-Break-branch-2 c =
    let log = c.args.self.now in
    record {
      touches = λ o. c.in_err-note_own.ensures.err o ∙ log.touches o ∙ ap (touches_in o 0) (sym c.reserve.ensures.items);
      once = subst (λ l. list_all (λ r. none_twice (touched_by r)) l ≡ true) (sym c.reserve.ensures.items) log.once;
      few = subst (λ l. length l ≤ 2 ^ 31) (sym c.reserve.ensures.items) log.few;
    }

pub invariant_of-self-2 : goal.invariant_of-self-2
invariant_of-self-2 c =
    let log = c.args.self.now in
    let steps = c.args.steps in
    let fits = c.append.ensures.succeeds (omega (arith, c.in_ok-reserve.ensures.ok, c.reserve.ensures.len, c.len-count.ensures)) in
    let joined : c.append.new.self.items ≡ log.records.items ++ steps.items =
    c.append.ensures.items ∙ ap (λ b. if b then c.reserve.new.self.items ++ steps.items else c.reserve.new.self.items) fits
    ∙ ap (λ l. l ++ steps.items) c.reserve.ensures.items in
    let at : c.len-place.result ≡ length log.records.items = omega (arith, log.records.ok.0, c.len-place.ensures, c.reserve.ensures.len) in
    let long : c.len-count.result ≡ length steps.items = omega (arith, steps.ok.0, c.len-count.ensures) in
    record {
      touches = λ o. with_own c.args.go.now log.records.items steps.items c.requires o (list_of log.lanes o) (list_of c.note_own.new.self o) c.len-place.result c.len-count.result
          (log.touches o) at long (c.in_ok-note_own.ensures.ok o) ∙ ap (touches_in o 0) (sym joined);
      once = subst (λ l. list_all (λ r. none_twice (touched_by r)) l ≡ true) (sym joined) (all_once_then c.args.go.now log.records.items steps.items log.once c.requires);
      few = let all = ap length joined in let both = length-append log.records.items steps.items in omega (arith, all, both, at, long, c.if-count-left.false);
    }

pub returns-in_err-note_own-clause-succeeds : goal.returns-in_err-note_own-clause-succeeds
returns-in_err-note_own-clause-succeeds c can =
    let log = c.args.self.now in
    let steps = c.args.steps in
    let at : c.len-place.result ≡ length log.records.items = omega (arith, log.records.ok.0, c.len-place.ensures) in
    let long : c.len-count.result ≡ length steps.items = omega (arith, steps.ok.0, c.len-count.ensures) in
    absurd (let no : false ≡ true = c.in_err-note_own.ensures.succeeds (own_fits c.args.go.now log.records.items steps.items c.requires log.lanes c.len-place.result
    c.len-count.result log.touches at long can.touches) in cc)
