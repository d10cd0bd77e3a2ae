-- What the objects tell of the choices of a goroutine.
use Rattle.std.proofs.Common.{◌≡◌, ℕ, Bool, true, false, List, [], ◌∷◌, Some, refl, ap}
use Rattle.gr_base.specs.declared.events.Choice.TheVariants.{Plain}
use Rattle.gr_program.specs.Programs.{Program}
use Rattle.gr_rules.specs.Outcomes.{Outcome, gives, faults, wrong}
use Rattle.gr_rules.specs.Goroutines.{ready}
use Rattle.gr_rules.specs.States.{live}
use Rattle.gr_code.specs.CodeFrames.{CodeFrame, ProgramCode}
use Rattle.gr_code.specs.Instructions.{Instruction, Part, Decide, Perform, Choose}
use Rattle.gr_code.specs.Goroutines.{CodeGoroutine, has_caller, instruction_in, is_local_here, is_local_in, task_of}
use Rattle.gr_refine.specs.Contents.{Contents}
use Rattle.gr_refine.specs.Partners.{AreChannels}
use Rattle.gr_refine.specs.Tasks.{chooses}
use Rattle.gr_refine.proofs.TaskLemmas.{task_is_there}
use Rattle.gr_goros.specs.Needs.{NeedIs, is_choice, is_select_in}
use Rattle.gr_goros.specs.declared.needs.Need.{Need}
use Rattle.gr_goros.specs.declared.needs.Need.TheVariants as needs
use Rattle.gr_lower.specs.Lowered.{lowered, meaning}
use Rattle.gr_tables.proofs.Validity.{contents_valid}
use Rattle.gr_step.specs.declared.objects.Objects.{Objects}
use Rattle.gr_step.specs.Objects.{contents_in}
use Rattle.gr_record.specs.Running.{Running}
use Rattle.gr_step.proofs.RunningLemmas.{never_unsound}
use Rattle.gr_step.proofs.MayLemmas.{acts_at, chosen_by}

pub are_channels : (o : Objects) → AreChannels (contents_in o)
are_channels o = contents_valid o.channels.map o.channels.are_channels

module _ (p : Program) (s : Contents) (run : Running p s) (n : List ℕ) (g : CodeGoroutine) (runs : s.run ≡ live) (there : s.goroutines n ≡ Some g)
    (is_ready : g.status ≡ ready) where
  -- a goroutine that is ready has a task
  pub task_there : ¬ (task_of (lowered p) g ≡ wrong)
  task_there =
      let h = acts_at p s run (chosen_by n Plain) g runs there is_ready in
      task_is_there (meaning p) p (lowered p) s (chosen_by n Plain) g h.f h.below h.acts refl (never_unsound p s run (chosen_by n Plain))

-- the instruction of a select is not local
not_local_here : (caller : Bool) (o : Outcome Instruction) → is_choice o ≡ true → is_local_here caller o ≡ true → ⊥
not_local_here caller (gives (Part ask slot on)) select local = let never : false ≡ true = select in cc
not_local_here caller (gives (Decide op left slot settled right)) select local = let never : false ≡ true = select in cc
not_local_here caller (gives (Perform action operands)) select local = let never : false ≡ true = select in cc
not_local_here caller (gives (Choose arms)) select local = let never : false ≡ true = local in cc
not_local_here caller (faults e) select local = let never : false ≡ true = select in cc
not_local_here caller wrong select local = let never : false ≡ true = select in cc

not_local : (code : ProgramCode) (fs : List CodeFrame) → is_select_in code fs ≡ true → is_local_in code fs ≡ true → ⊥
not_local code [] select local = let never : false ≡ true = select in cc
not_local code (f ∷ below) select local = not_local_here (has_caller below) (instruction_in code f) select local

-- a need other than that of a select leaves no choice
pub other_need : (code : ProgramCode) (g : CodeGoroutine) (need : Need) → NeedIs need code g → is_select_in code g.frames ≡ true
    → ((cs : _) → need ≡ needs.Select cs → ⊥) → chooses (task_of code g) ≡ false
other_need code g needs.Local is select other = absurd (not_local code g.frames select is)
other_need code g needs.Exit is select other = ap chooses is.3
other_need code g (needs.Start f vs) is select other = ap chooses is
other_need code g (needs.Make n) is select other = ap chooses is
other_need code g (needs.Len c) is select other = ap chooses is
other_need code g (needs.Cap c) is select other = ap chooses is
other_need code g (needs.Close c) is select other = ap chooses is
other_need code g (needs.Send c v) is select other = ap chooses is
other_need code g (needs.Receive c v) is select other = ap chooses is
other_need code g (needs.Select cs) is select other = absurd (other cs refl)
other_need code g (needs.Fault e) is select other = ap chooses is.1
