-- From a source and a script to a machine that stands where the script leaves it.
use Rattle.std.proofs.Common.{◌≡◌, ℕ, List, [], sym, subst}
use Rattle.gr_program.specs.Programs.{Program}
use Rattle.gr_rollback.specs.Machines.{Stands}
use Rattle.gr_rollback.specs.declared.machine.Machine.{Machine}
use Rattle.gr_session.specs.declared.journal.Entry.{Entry}
use Rattle.gr_session.specs.Entries.{InItsWorld}
use Rattle.gr_session.specs.Journal.{course_of}
use Rattle.gr_session.specs.Source.{IsProgramOf}
use Rattle.gr_serve.specs.Lines.{lines_of}
use Rattle.gr_survey.specs.Scripts.{Follows, IsRefused}
use Rattle.gr_survey.specs.Surveys.{IsAfter, HasRefused}

-- a session was opened, with its one asker it followed the script, and it gave its machine; its program stayed
pub after_script : (source script : List ℕ) (opened enrolled left : Program) (asker : ℕ) (first last : List Entry) (m : Machine)
    → IsProgramOf source opened → enrolled ≡ opened → left ≡ enrolled → asker ≡ 1 → first ≡ []
    → Follows enrolled asker (lines_of script) first last → InItsWorld left last (λ w. Stands left (course_of left w) m) → IsAfter source script m
after_script source script opened enrolled left asker first last m is same stays one none follows ends =
    let from_none = subst (λ j. Follows enrolled asker (lines_of script) j last) none follows in
    let by_one = subst (λ n. Follows enrolled n (lines_of script) [] last) one from_none in
    let there = subst (λ q. InItsWorld q last (λ w. Stands q (course_of q w) m)) stays ends in
    record {
      after = record {
        program = enrolled;
        is_program = subst (IsProgramOf source) (sym same) is;
        journal = last;
        follows = by_one;
        world = there.world;
        means = there.means;
      };
      stands = there.holds;
    }

-- it refused a line of it
pub refused_line : (source script : List ℕ) (opened enrolled : Program) (asker : ℕ) (first : List Entry) (number : ℕ)
    → IsProgramOf source opened → enrolled ≡ opened → asker ≡ 1 → first ≡ []
    → IsRefused enrolled asker (lines_of script) number first → HasRefused source script number
refused_line source script opened enrolled asker first number is same one none refused =
    let from_none = subst (λ j. IsRefused enrolled asker (lines_of script) number j) none refused in
    record {
      program = enrolled;
      is_program = subst (IsProgramOf source) (sym same) is;
      refused = subst (λ n. IsRefused enrolled n (lines_of script) number []) one from_none;
    }
