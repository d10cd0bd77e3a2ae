-- The lines that are told by the records of a log are its console.
use Rattle.std.proofs.Common.{◌≡◌, ℕ, Bool, true, false, if◌then◌else◌, List, [], ◌∷◌, ◌++◌, take, drop, is_some, Option, Some, None, refl}
use Rattle.std.proofs.Common.{sym, ap, ◌∙◌, subst, inl, inr}
use Rattle.std.specs.List.{cons_option}
use Rattle.std.specs.Option.{option_map_or}
use Rattle.std.specs.Prelude.{option_map}
use Rattle.std.proofs.lemmas.Bool.{cases_Bool}
use Rattle.gr_causal.specs.Machine.{IsLog}
use Rattle.gr_program.specs.Programs.{Program}
use Rattle.gr_rules.specs.States.{same_go, start}
use Rattle.gr_rules.specs.Steps.{machine}
use Rattle.gr_rules.specs.Tells.{console}
use Rattle.gr_laws.specs.Reached.{Logged}
use Rattle.gr_laws.specs.Consoles.{text_of, steps_by}
use Rattle.gr_laws.proofs.CellLemmas.{go_self}
use Rattle.gr_laws.proofs.RunLemmas.{tally_of_run}
use Rattle.gr_code.specs.Goroutines.{CodeGoroutine}
use Rattle.gr_refine.specs.Contents.{Contents, goroutine_of}
use Rattle.gr_step.specs.Record.{Record}
use Rattle.gr_step.specs.Listings.{frame_in, state_in}
use Rattle.gr_step.specs.Before.{is_printed}
use Rattle.gr_step.specs.Kept.{Kept, none, one_more}
use Rattle.gr_queries.specs.Consoles.{texts_of, passed, line_of, lines_after, lines_told}
use Rattle.gr_queries.proofs.Logs.{kept_is_log}
use Rattle.gr_queries.proofs.NextLines.{Texts}

-- the record and the step are of one goroutine, and both printed or neither
pub record Matches (p : Program) (r : Record) (l : Logged p) : Type 0 where
  pub go : l.event.go ≡ r.id.go
  pub printed : is_printed r.change.own ≡ is_some l.note.kind.printed

-- records and steps that match, one by one
abbrev pub Match : (p : Program) → List Record → List (Logged p) → Type 0
Match p [] [] = Unit {0}
Match p (r ∷ rs) (l ∷ ls) = Matches p r l × Match p rs ls
Match p _ _ = ⊥

-- one more of each
match_last : (p : Program) (rs : List Record) (ls : List (Logged p)) (r : Record) (l : Logged p) → Match p rs ls → Matches p r l
    → Match p (rs ++ r ∷ []) (ls ++ l ∷ [])
match_last p [] [] r l all last = (last, tt)
match_last p (x ∷ rs) (y ∷ ls) r l all last = (all.0, match_last p rs ls r l all.1 last)
match_last p [] (y ∷ ls) r l all last = absurd all
match_last p (x ∷ rs) [] r l all last = absurd all

-- records that are kept match their log
pub kept_match : (p : Program) (s : Contents) (records : List Record) (log : List (Logged p)) (t : Contents)
    → Kept p s records log t → Match p records log
kept_match p s _ _ _ none = tt
kept_match p s _ _ _ (one_more {records} {log} {t} r l u kept tells) =
    match_last p records log r l (kept_match p s records log t kept)
    (record { go = ap (λ e. e.go) tells.event; printed = sym tells.printed })

module _ (p : Program) where
  -- what is left of the texts is what later steps print
  abbrev pub Left : Texts → List (Logged p) → Type 0
  Left texts ls = (g : List ℕ) → texts g ≡ console p (steps_by p g ls)

  -- what a goroutine prints from a step on
  abbrev from_step : List ℕ → Logged p → List (Logged p) → Bool → List (List ℕ)
  from_step g l ls mine = if mine then cons_option l.note.kind.printed (console p (steps_by p g ls)) else console p (steps_by p g ls)

  -- what a goroutine prints from a step on, by whether the step is its own
  from_here : (g : List ℕ) (l : Logged p) (ls : List (Logged p)) → console p (steps_by p g (l ∷ ls)) ≡ from_step g l ls (same_go g l.event.go)
  from_here g l ls = elim (cases_Bool (same_go g l.event.go)) [ inl e ↦ rw e refl | inr e ↦ rw e refl ]

  module _ (texts : Texts) (r : Record) (l : Logged p) (ls : List (Logged p)) (m : Matches p r l) (left : Left texts (l ∷ ls)) where
    -- what the goroutine of the step has left
    mine : texts r.id.go ≡ cons_option l.note.kind.printed (console p (steps_by p r.id.go ls))
    mine = left r.id.go ∙ from_here r.id.go l ls ∙ ap (from_step r.id.go l ls) (ap (same_go r.id.go) m.go ∙ go_self r.id.go)

    -- what any goroutine has left after the step
    abbrev Onward : Option (List ℕ) → Type 0
    Onward line = (l.note.kind.printed ≡ line) → (line_of r texts ≡ cons_option line []) × Left (lines_after r texts) ls

    -- where the step printed nothing, and where it printed a line
    silent : Onward None
    silent is = (
      ap (λ (b : Bool). if b then take 1 (texts r.id.go) else []) quiet,
      λ g. ap (λ (b : Bool). (if b then passed r.id.go texts else texts) g) quiet ∙ left g ∙ from_here g l ls ∙ here g,
    )
      where
        quiet : is_printed r.change.own ≡ false
        quiet = m.printed ∙ ap is_some is

        here : (g : List ℕ) → from_step g l ls (same_go g l.event.go) ≡ console p (steps_by p g ls)
        here g = elim (cases_Bool (same_go g l.event.go)) [
          | inl e ↦ rw e (ap (λ o. cons_option o (console p (steps_by p g ls))) is)
          | inr e ↦ rw e refl
        ]

    prints : (line : List ℕ) → Onward (Some line)
    prints line is = (
      ap (λ (b : Bool). if b then take 1 (texts r.id.go) else []) loud
          ∙ ap (take 1) (mine ∙ ap (λ o. cons_option o (console p (steps_by p r.id.go ls))) is),
      λ g. ap (λ (b : Bool). (if b then passed r.id.go texts else texts) g) loud ∙ here g,
    )
      where
        loud : is_printed r.change.own ≡ true
        loud = m.printed ∙ ap is_some is

        here : (g : List ℕ) → passed r.id.go texts g ≡ console p (steps_by p g ls)
        here g = elim (cases_Bool (same_go g r.id.go)) [
          | inl e ↦
              let rest : texts g ≡ line ∷ console p (steps_by p g ls) =
              left g ∙ from_here g l ls ∙ ap (from_step g l ls) (ap (same_go g) m.go ∙ e)
              ∙ ap (λ o. cons_option o (console p (steps_by p g ls))) is in
              rw e (ap (drop 1) rest)
          | inr e ↦ rw e (left g ∙ from_here g l ls ∙ ap (from_step g l ls) (ap (same_go g) m.go ∙ e))
        ]

  -- the lines are the console
  told_is_console : (texts : Texts) (rs : List Record) (ls : List (Logged p)) → Match p rs ls → Left texts ls → lines_told texts rs ≡ console p ls
  told_is_console texts [] [] all left = refl
  told_is_console texts (r ∷ rs) (l ∷ ls) all left = by_line l.note.kind.printed refl (λ t. told_is_console t rs ls all.1)
    where
      by_line : (o : Option (List ℕ)) → l.note.kind.printed ≡ o → ((t : Texts) → Left t ls → lines_told t rs ≡ console p ls)
          → line_of r texts ++ lines_told (lines_after r texts) rs ≡ cons_option l.note.kind.printed (console p ls)
      by_line None is rest =
          let on = silent texts r l ls all.0 left is in
          ap (λ x. x ++ lines_told (lines_after r texts) rs) on.0 ∙ rest (lines_after r texts) on.1 ∙ ap (λ o. cons_option o (console p ls)) (sym is)
      by_line (Some line) is rest =
          let on = prints texts r l ls all.0 left line is in
          ap (λ x. x ++ lines_told (lines_after r texts) rs) on.0 ∙ ap (λ x. line ∷ x) (rest (lines_after r texts) on.1)
          ∙ ap (λ o. cons_option o (console p ls)) (sym is)
  told_is_console texts [] (l ∷ ls) all left = absurd all
  told_is_console texts (r ∷ rs) [] all left = absurd all

  -- of a log from the start of the program
  pub console_told : (s : Contents) (records : List Record) (log : List (Logged p)) (t : Contents) → state_in p s ≡ start p → Kept p s records log t
      → lines_told (texts_of t) records ≡ console p log
  console_told s records log t starts kept = told_is_console (texts_of t) records log (kept_match p s records log t kept) texts
    where
      run : IsLog (machine p) (start p) log (state_in p t)
      run = subst (λ x. IsLog (machine p) x log (state_in p t)) starts (kept_is_log p s records log t kept)

      same_text : (o : Option CodeGoroutine) → option_map_or (λ g. g.text) o [] ≡ text_of (option_map (goroutine_of (frame_in p)) o)
      same_text None = refl
      same_text (Some g) = refl

      texts : (g : List ℕ) → texts_of t g ≡ console p (steps_by p g log)
      texts g = same_text (t.goroutines g) ∙ (tally_of_run p (state_in p t) log g run).0
