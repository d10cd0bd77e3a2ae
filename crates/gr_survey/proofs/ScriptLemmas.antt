-- Lines that are cut off a script, and carried out one after the other.
use Rattle.std.proofs.Common.{◌≡◌, ◌==◌, ◌<◌, ◌≤◌, ◌+◌, ◌-◌, ℕ, suc, List, [], ◌∷◌, ◌++◌, take, drop, length, sym, ap, subst, ◌∙◌, append-nil, arith, Bool, true, Result, Ok, Err}
use Rattle.std.proofs.lemmas.Bool.{eqb-true}
use Rattle.std.proofs.lemmas.List.{take_all, nil_from_length}
use Rattle.gr_lines.specs.Bytes.{Plain, BeginsNewline}
use Rattle.gr_serve.specs.Lines.{lines_of}
use Rattle.gr_serve.proofs.Cuts.{lines-line, lines-last}
use Rattle.gr_program.specs.Programs.{Program}
use Rattle.gr_command.specs.Commands.{meaning}
use Rattle.gr_session.specs.declared.journal.Entry.{Entry}
use Rattle.gr_survey.specs.declared.script.Outcome.{Outcome}
use Rattle.gr_survey.specs.declared.script.ScriptFault.{ScriptFault}
use Rattle.gr_survey.specs.declared.script.ScriptFault.TheVariants as faults
use Rattle.gr_survey.specs.declared.script.Outcome.TheVariants.{Done, Quit, Refused}
use Rattle.gr_survey.specs.Scripts.{Comes, Does, Follows, IsRefused, to_the_end, to_quit, one_more, first_is, later_is}

-- bytes without a newline
pub last_line : (bytes line rest : List ℕ) → bytes ≡ line ++ rest → Plain line → length rest < 1 → 0 < length bytes → lines_of bytes ≡ line ∷ lines_of rest
last_line bytes line [] cut plain none some =
    let is : bytes ≡ line = cut ∙ append-nil line in
    ap lines_of is ∙ lines-last line plain (subst (λ l. 0 < length l) is some)
last_line bytes line (b ∷ rest) cut plain none some = absurd (omega (arith, none))

-- bytes with one
pub first_line : (bytes line rest : List ℕ) → bytes ≡ line ++ rest → Plain line → BeginsNewline rest → 1 ≤ length rest
    → lines_of bytes ≡ line ∷ lines_of (take (length rest - 1) (drop 1 rest))
first_line bytes line [] cut plain begins some = absurd (omega (arith, some))
first_line bytes line (b ∷ rest) cut plain begins some =
    let all : take (length (b ∷ rest) - 1) rest ≡ rest = take_all (length (b ∷ rest) - 1) rest (omega arith) in
    ap lines_of (cut ∙ ap (λ c. line ++ c ∷ rest) begins) ∙ lines-line line rest plain ∙ ap (λ r. line ∷ lines_of r) (sym all)

pub nothing_left : (bytes : List ℕ) (empty : Bool) → empty ≡ (length bytes == 0) → empty ≡ true → bytes ≡ []
nothing_left bytes empty is e = nil_from_length bytes (eqb-true (length bytes) 0 (sym is ∙ e))

-- the number of the line that is refused, if one is
abbrev refused_number : Result (Unit {0}) ScriptFault → ℕ
refused_number (Ok done) = 0
refused_number (Err (faults.Refused n)) = n
refused_number (Err faults.Memory) = 0

pub same_number : (a b : ℕ) → ◌≡◌ {A = Result (Unit {0}) ScriptFault} (Err (faults.Refused a)) (Err (faults.Refused b)) → a ≡ b
same_number a b e = ap refused_number e

module _ (p : Program) (asker : ℕ) where
  -- what follows the lines that are left follows all lines
  abbrev pub LeadsOn : List (List ℕ) → List Entry → List (List ℕ) → List Entry → Type 0
  LeadsOn lines start left now = (end : List Entry) → Follows p asker left now end → Follows p asker lines start end

  -- where a line of those left is refused, the line so many further on is refused of all
  abbrev pub CountsOn : List (List ℕ) → List Entry → ℕ → List (List ℕ) → List Entry → Type 0
  CountsOn lines start taken left now = (n : ℕ) → IsRefused p asker left n now → IsRefused p asker lines (taken + n) start

  -- one line more was carried out
  pub leads_on : (lines left rest : List (List ℕ)) (line : List ℕ) (start now next : List Entry) (out : Outcome)
      → LeadsOn lines start left now → left ≡ line ∷ rest → out ≡ Done → Comes p asker (meaning line) now out next → LeadsOn lines start rest next
  leads_on lines left rest line start now next out so is done comes =
      let does : Does p asker (meaning line) now next = subst (λ o. Comes p asker (meaning line) now o next) done comes in
      λ end more. so end (subst (λ ls. Follows p asker ls now end) (sym is) (one_more does more))

  pub counts_on : (lines left rest : List (List ℕ)) (line : List ℕ) (start now next : List Entry) (taken : ℕ) (out : Outcome)
      → CountsOn lines start taken left now → left ≡ line ∷ rest → out ≡ Done → Comes p asker (meaning line) now out next
      → CountsOn lines start (taken + 1) rest next
  counts_on lines left rest line start now next taken out so is done comes =
      let does : Does p asker (meaning line) now next = subst (λ o. Comes p asker (meaning line) now o next) done comes in
      λ n more. let e : taken + suc n ≡ (taken + 1) + n = omega arith in
      subst (λ k. IsRefused p asker lines k start) e (so (suc n) (subst (λ ls. IsRefused p asker ls (suc n) now) (sym is) (later_is does more)))

  -- no line is left
  pub ends_there : (lines left : List (List ℕ)) (start now : List Entry) → LeadsOn lines start left now → left ≡ [] → Follows p asker lines start now
  ends_there lines left start now so is = so now (subst (λ ls. Follows p asker ls now now) (sym is) to_the_end)

  -- the line says `quit`
  pub ends_at_quit : (lines left rest : List (List ℕ)) (line : List ℕ) (start now next : List Entry) (out : Outcome)
      → LeadsOn lines start left now → left ≡ line ∷ rest → out ≡ Quit → Comes p asker (meaning line) now out next → Follows p asker lines start next
  ends_at_quit lines left rest line start now next out so is quit comes =
      let said = subst (λ o. Comes p asker (meaning line) now o next) quit comes in
      subst (λ j. Follows p asker lines start j) (sym said.1) (so now (subst (λ ls. Follows p asker ls now now) (sym is) (to_quit said.0)))

  -- the line is refused
  pub refused_there : (lines left rest : List (List ℕ)) (line : List ℕ) (start now next : List Entry) (taken : ℕ) (out : Outcome)
      → CountsOn lines start taken left now → left ≡ line ∷ rest → out ≡ Refused → Comes p asker (meaning line) now out next
      → IsRefused p asker lines (taken + 1) start
  refused_there lines left rest line start now next taken out so is refused comes =
      so 1 (subst (λ ls. IsRefused p asker ls 1 now) (sym is) (first_is next (subst (λ o. Comes p asker (meaning line) now o next) refused comes)))
