use Rattle.std.proofs.Common.{◌≡◌, map, take}
use Rattle.gr_step.specs.Records.{event_of}
use Rattle.gr_follow.proofs.following.shared.Given as goal

abbrev pub invariant-loop-place : goal.invariant-loop-place
invariant-loop-place l = take l.place (map event_of l.steps) ≡ take l.place (map event_of l.others)
