use Rattle.std.proofs.Common.{ℕ, Global, Vec}
use Rattle.gr_command.specs.Texts.{row}
use Rattle.gr_command.proofs.Views.{each_of_views}
use Rattle.gr_command.proofs.write.put_lines.Goals as goal

pub returns : goal.returns
returns c = rw (each_of_views row (λ (line : Vec ℕ Global). line.items) c.args.lines.now) c.put_two.ensures
