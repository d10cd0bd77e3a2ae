use Rattle.std.proofs.Common.{append_assoc, subst, sym, ◌∷◌, [], ◌++◌}
use Rattle.gr_causal.proofs.MiddleLemmas.{from_middle, still_stands}
use Rattle.gr_causal.proofs.PathLemmas.{log_split}
use Rattle.gr_causal.specs.Machine.{IsLog}
use Rattle.gr_causal.proofs.ListLemmas.{In-append_right}
use Rattle.gr_rules.specs.States.{start}
use Rattle.gr_rules.specs.Steps.{machine}
use Rattle.gr_laws.proofs.CellLemmas.{machine_laws}
use Rattle.gr_laws.proofs.law_of_taking_back.Goals as goal

pub returns : goal.returns
returns c p t front back r l f =
    let whole = subst (λ log. IsLog (machine p) (start p) log t) (sym (append_assoc front (r ∷ []) back)) l in
    let first = log_split (machine p) (start p) (front ++ r ∷ []) back t whole in
    let begun = log_split (machine p) (start p) front (r ∷ []) first.0 first.1 in
    record {
      before = begun.0;
      after = first.0;
      step = begun.2;
      stands = λ o i. still_stands (machine p) (machine_laws p) (start p) first.0 t front back r first.1 l f o (In-append_right o r.note.reads r.note.writes i);
      leaves = record { log = front ++ back; leads = (from_middle (machine p) (machine_laws p) (start p) t front back r l f).0 };
    }
