use Rattle.std.proofs.Common.{[], ◌∷◌, Some, if◌then◌else◌, refl, sym, ap, subst, ◌∙◌}
use Rattle.std.specs.Prelude.{option_map}
use Rattle.gr_base.specs.declared.kinds.Kind.TheVariants as kinds
use Rattle.gr_base.specs.declared.objects.Object.TheVariants as objects
use Rattle.gr_rules.specs.Attempts.{closes}
use Rattle.gr_record.specs.declared.record.Beyond.{Beyond}
use Rattle.gr_record.specs.Effects.{Effect}
use Rattle.gr_record.specs.Parts.{reads_in}
use Rattle.gr_step.specs.Passing.{Tells}
use Rattle.gr_record.specs.Records.{operation_of, NeedNoFrame}
use Rattle.gr_step.proofs.closing.closed.Goals as goal

pub returns-clause-told : goal.returns-clause-told
returns-clause-told c = λ k writes h.
    let own = c.args.own in
    let value = c.args.further.value.beyond in
    subst {_, _} (λ (e : Effect). Tells e kinds.Close (Some (closes k)) [] writes own c.args.met.items c.args.channels.items) (sym c.further.ensures)
    (subst {_, _} (λ (b : Beyond). Tells
    (record {
      kind = kinds.Close;
      own = own;
      beyond = Some b;
    })
    kinds.Close (Some (closes k)) [] writes own c.args.met.items c.args.channels.items)
    (sym c.with_changes-further.ensures)
    (record {
      kind_is = refl;
      own_is = refl;
      operation_is = ap (option_map operation_of) h.operation;
      reads_are = ap (λ s. if s then reads_in value else objects.Run ∷ reads_in value) h.stops ∙ ap (λ os. objects.Run ∷ os) h.reads;
      writes_are = λ n. ap (λ os. objects.Go n ∷ os) h.writes;
      goroutines_are = λ n. ap (λ us. (n, own) ∷ us) c.of_many.ensures;
      channels_are = c.of_many-2.ensures;
      begins_none = h.begins;
      makes_none = h.makes;
      runs_on = h.stops;
      frames = λ n none. subst {_, _} (λ us. NeedNoFrame ((n, own) ∷ us)) (sym c.of_many.ensures) none;
    }))
