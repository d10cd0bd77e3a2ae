use Rattle.std.proofs.Common.{◌≡◌, ◌++◌, drop, true}
use Rattle.std.specs.List.{list_all, flat_map}
use Rattle.gr_rules.specs.Frames.{Frame}
use Rattle.gr_rules.specs.Touches as rules
use Rattle.gr_code.specs.CodeFrames.{CodeFrame}
use Rattle.gr_refine.specs.Contents.{state_of}
use Rattle.gr_refine.specs.Partners.{is_made_for}
use Rattle.gr_goros.specs.Views.{communications_of}
use Rattle.gr_tables.specs.NamedChannels.{contents_of}
use Rattle.gr_step.specs.Parks.{with_channels}
use Rattle.gr_step.proofs.sides.sides.Given as goal

abbrev pub invariant-loop-communication : goal.invariant-loop-communication
invariant-loop-communication l = record {
  made : list_all (is_made_for (with_channels (contents_of l.channels))) (communications_of (drop l.communication-index l.communications)) ≡ true;
  told : (frame : CodeFrame → Frame)
      → l.touched.items ++ flat_map (rules.side (state_of frame (with_channels (contents_of l.channels)))) (communications_of (drop l.communication-index l.communications))
      ≡ flat_map (rules.side (state_of frame (with_channels (contents_of l.channels)))) (communications_of l.communications);
}
