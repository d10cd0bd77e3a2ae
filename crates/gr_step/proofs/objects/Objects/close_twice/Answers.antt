use Rattle.std.proofs.Common.{◌≡◌, ℕ, List, [], ◌∷◌, Some, subst}
use Rattle.std.proofs.lemmas.Result.{IfOk-weaker}
use Rattle.gr_base.specs.declared.kinds.Fault.TheVariants.{CloseOfClosed}
use Rattle.gr_base.specs.declared.names.ChName.{ChName}
use Rattle.gr_base.specs.declared.objects.Object.TheVariants.{Gate}
use Rattle.gr_code.specs.Goroutines.{CodeGoroutine}
use Rattle.gr_tables.specs.NamedGoroutines.{name_at}
use Rattle.gr_record.specs.declared.record.Operation.TheVariants.{Closes}
use Rattle.gr_step.specs.Beyonds.{Stops}
use Rattle.gr_step.specs.Objects.{contents_in}
use Rattle.gr_step.proofs.objects.Objects.close_twice.Goals as goal

pub returns-clause-ok : goal.returns-clause-ok
returns-clause-ok c =
    let old = c.args.self.now in
    let s = contents_in old in
    let t = contents_in c.fault.new.self in
    IfOk-weaker c.fault.result
    (λ change. (n : List ℕ) (g : CodeGoroutine) → name_at old.goroutines c.args.number ≡ Some n → s.goroutines n ≡ Some g
    → Stops n CloseOfClosed (Some (Closes c.in_ok-copy.field-0)) c.in_ok-reads.reads.items s g change t)
    (λ change. (n : List ℕ) (g : CodeGoroutine) → name_at old.goroutines c.args.number ≡ Some n → s.goroutines n ≡ Some g
    → Stops n CloseOfClosed (Some (Closes c.args.channel.now)) (Gate c.args.channel.now ∷ []) s g change t)
    (λ change stops n g named there.
    subst (λ os. Stops n CloseOfClosed (Some (Closes c.args.channel.now)) os s g change t) c.in_ok-reads.ensures
    (subst (λ (k : ChName). Stops n CloseOfClosed (Some (Closes k)) c.in_ok-reads.reads.items s g change t) c.in_ok-copy.ensures (stops n g named there)))
    c.fault.ensures.ok
