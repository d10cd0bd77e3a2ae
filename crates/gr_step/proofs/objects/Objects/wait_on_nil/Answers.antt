use Rattle.std.proofs.Common.{◌∙◌, [], ◌∷◌, None, ap}
use Rattle.gr_rules.specs.Touches.{side}
use Rattle.gr_laws.specs.Touched.{each_once}
use Rattle.gr_refine.specs.Contents.{state_of}
use Rattle.gr_goros.specs.Views.{communication_of, waits_of}
use Rattle.gr_tables.specs.NamedChannels.{contents_of}
use Rattle.gr_step.specs.Parks.{gates_of, with_channels}
use Rattle.gr_step.proofs.WaitForLemmas.{nil_waits, nil_made, nil_touched}
use Rattle.gr_step.proofs.objects.Objects.wait_on_nil.Goals as goal

pub begin_to_wait-requires-clause-made : goal.begin_to_wait-requires-clause-made
begin_to_wait-requires-clause-made c = nil_made (contents_of c.args.self.now.channels) (communication_of c.args.communication) c.requires.nil

pub begin_to_wait-requires-clause-waits : goal.begin_to_wait-requires-clause-waits
begin_to_wait-requires-clause-waits c = ap (λ w. waits_of w.items) c.in_ok-waits.ensures.ok ∙ ap waits_of c.new.ensures.items ∙ nil_waits (communication_of c.args.communication) c.requires.nil

pub returns-clause-ok : goal.returns-clause-ok
returns-clause-ok c = λ frame.
    let w = communication_of c.args.communication in
    let s = state_of frame (with_channels (contents_of c.args.self.now.channels)) in
    c.begin_to_wait.ensures.ok None (side s w)
    (c.in_ok-further.ensures (each_once (gates_of ((None, w) ∷ [])) (side s w)) (gates_of ((None, w) ∷ [])) (rw c.untouched.ensures (nil_touched s w c.requires.nil)))
