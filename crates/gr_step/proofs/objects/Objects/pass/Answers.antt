use Rattle.std.proofs.Common.{◌≡◌, ap, refl}
use Rattle.gr_code.specs.CodeViews.{program_code_of}
use Rattle.gr_rules.specs.Outcomes.{wrong}
use Rattle.gr_code.specs.Goroutines.{arrived, CanCount}
use Rattle.gr_goros.specs.Views.{arrival_of}
use Rattle.gr_step.proofs.ArrivesAtLemmas.{at_number, arrives_at}
use Rattle.gr_step.proofs.objects.Objects.pass.Goals as goal

pub deliver-requires : goal.deliver-requires
deliver-requires c = rw (ap program_code_of c.deref.ensures)
    (at_number (λ g. (¬ (arrived (program_code_of c.args.turn.now.listing.now.code.value) (arrival_of c.args.passes) g ≡ wrong)) × CanCount (arrival_of c.args.passes) g)
    c.args.turn.now.number c.args.turn.now.event.now.go c.args.self.now.goroutines c.requires.named c.requires.can)

pub returns-in-Ok-clause-ok : goal.returns-in-Ok-clause-ok
returns-in-Ok-clause-ok c = λ operation reads writes h. record {
  own = c.in-Ok.own;
  tells = c.told.ensures operation reads writes h;
  goes = arrives_at (program_code_of c.args.turn.now.listing.now.code.value) c.args.turn.now.number c.args.turn.now.event.now.go (arrival_of c.args.passes) c.in-Ok.own
      c.args.self.now.goroutines c.deliver.new.self c.requires.named (rw (ap program_code_of c.deref.ensures) at c.in-Ok.ensures.after);
  channels = refl;
  run = refl;
}
