use Rattle.std.proofs.Common.{reverse, ap}
use Rattle.gr_program.specs.Views.{program_of}
use Rattle.gr_rollback.proofs.MachineLemmas.{stands_alone}
use Rattle.gr_rollback.specs.Pasts.{first_past}
use Rattle.gr_rollback.proofs.machine.Machine.start.Goals as goal

pub returns : goal.returns
returns c = stands_alone (program_of c.args.program) (first_past (program_of c.args.program)) _ c.in_ok-course.ensures (ap reverse c.new.ensures.items)
