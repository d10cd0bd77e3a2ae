use Rattle.std.proofs.Common.{◌≡◌, refl, ap}
use Rattle.gr_record.specs.declared.record.Further.{Further}
use Rattle.gr_record.specs.declared.record.Form.TheVariants as forms
use Rattle.gr_record.specs.Effects.{effect_in}
use Rattle.gr_step.proofs.BeyondLemmas.{taken}
use Rattle.gr_step.proofs.objects.Objects.take_beyond_back.Goals as goal

pub returns-clause-back : goal.returns-clause-back
returns-clause-back c =
    let own : c.into_inner-own.result.own ≡ c.args.further.value.own = ap (λ (f : Further). f.own) c.into_inner-own.ensures in
    taken c.args.go.now (effect_in (forms.Further c.args.kind c.args.further)) c.args.further.value.beyond c.into_inner-own.result.beyond c.args.self.now
    c.make_room.new.self c.take_rest_back.new.self refl (ap (λ (f : Further). f.beyond) c.into_inner-own.ensures)
    (rw own at c.take_rest_back.ensures.goroutines) c.make_room.ensures.contents c.take_rest_back.ensures.channels c.take_rest_back.ensures.run
