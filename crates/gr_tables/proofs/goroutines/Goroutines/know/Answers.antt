use Rattle.std.proofs.Common.{◌≡◌, sym, subst}
use Rattle.indexmap.specs.IndexMap.{keys, insert_entry}
use Rattle.std.specs.List.{position_or_len}
use Rattle.gr_rules.specs.States.{same_go}
use Rattle.gr_tables.proofs.ByNumber.{found_name, known_found, known_names, none_found, new_names, new_number}
use Rattle.gr_tables.proofs.goroutines.Goroutines.know.Goals as goal

pub returns-in-Some-clause-number : goal.returns-in-Some-clause-number
returns-in-Some-clause-number c = found_name _ _ _ (sym c.in-Some.ensures.index)

pub returns-in-Some-clause-names : goal.returns-in-Some-clause-names
returns-in-Some-clause-names c = known_names _ _ _ (sym c.in-Some.ensures.index)

pub returns-clause-number : goal.returns-clause-number
returns-clause-number c =
    new_number c.args.self.now.map c.insert_full.new.self c.args.name.now _ (none_found _ _ c.get_index_of.ensures.found c.in_default.is)
    (subst (λ n. c.insert_full.new.self.entries ≡ insert_entry same_go c.args.self.now.map.entries n _) c.in_ok-name.ensures c.in_ok-number.ensures.entries) _
    (subst (λ n. c.in_ok-number.number ≡ position_or_len (same_go n) (keys c.args.self.now.map)) c.in_ok-name.ensures c.in_ok-number.ensures.index)

pub returns-clause-names : goal.returns-clause-names
returns-clause-names c =
    new_names c.args.self.now.map c.insert_full.new.self c.args.name.now _ (none_found _ _ c.get_index_of.ensures.found c.in_default.is)
    (subst (λ n. c.insert_full.new.self.entries ≡ insert_entry same_go c.args.self.now.map.entries n _) c.in_ok-name.ensures c.in_ok-number.ensures.entries)

pub returns-in_err-name-clause-succeeds : goal.returns-in_err-name-clause-succeeds
returns-in_err-name-clause-succeeds c h =
    absurd (known_found _ c.args.self.now.map.entries (none_found _ _ c.get_index_of.ensures.found c.in_default.is) h)

pub returns-in_err-number-clause-succeeds : goal.returns-in_err-number-clause-succeeds
returns-in_err-number-clause-succeeds c h =
    absurd (known_found _ c.args.self.now.map.entries (none_found _ _ c.get_index_of.ensures.found c.in_default.is) h)
