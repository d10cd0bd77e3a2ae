-- Records that are kept, and the log that they are.
use Rattle.std.proofs.Common.{◌≡◌, List, [], ◌∷◌, ◌++◌, map, refl, ap, ◌∙◌, sym}
use Rattle.gr_base.specs.declared.kinds.Kind.{Kind}
use Rattle.gr_base.specs.declared.names.StepId.{StepId}
use Rattle.gr_causal.specs.Machine.{IsLog}
use Rattle.gr_causal.proofs.PathLemmas.{log_push}
use Rattle.gr_program.specs.Programs.{Program}
use Rattle.gr_rules.specs.Steps.{machine}
use Rattle.gr_laws.specs.Reached.{Logged}
use Rattle.gr_refine.specs.Contents.{Contents}
use Rattle.gr_step.specs.Record.{Record}
use Rattle.gr_step.specs.Listings.{state_in}
use Rattle.gr_step.specs.Kept.{Kept, none, one_more, Tells}
use Rattle.gr_step.specs.Pairs.{id_of}
use Rattle.gr_queries.specs.Said.{step_kind}
use Rattle.gr_queries.proofs.Copying.{map_last}

-- a step with its kind, as a record and as a log tells it
abbrev pub told_of : Record → StepId × Kind
told_of r = (r.id, r.change.kind)

abbrev pub logged_as : (p : Program) → Logged p → StepId × Kind
logged_as p l = (id_of p l, step_kind p l)

-- a record and its step tell the same
told_alike : (p : Program) (s : Contents) (r : Record) (l : Logged p) (t : Contents) → Tells p s r l t → told_of r ≡ logged_as p l
told_alike p s r l t tells =
    λ j. (record { go = sym (ap (λ e. e.go) tells.event) j; n = sym tells.ordinal j }, sym tells.kind j)

-- the records and the log tell the same
pub kept_tells : (p : Program) (s : Contents) (records : List Record) (log : List (Logged p)) (t : Contents) → Kept p s records log t
    → map told_of records ≡ map (logged_as p) log
kept_tells p s _ _ _ none = refl
kept_tells p s _ _ _ (one_more {records} {log} {t} r l u kept tells) =
    map_last told_of records r ∙ ap (λ x. map told_of records ++ x ∷ []) (told_alike p t r l u tells)
    ∙ ap (λ xs. xs ++ logged_as p l ∷ []) (kept_tells p s records log t kept) ∙ sym (map_last (logged_as p) log l)

-- the log leads from the first contents to the last
pub kept_is_log : (p : Program) (s : Contents) (records : List Record) (log : List (Logged p)) (t : Contents) → Kept p s records log t
    → IsLog (machine p) (state_in p s) log (state_in p t)
kept_is_log p s _ _ _ none = refl
kept_is_log p s _ _ _ (one_more {records} {log} {t} r l u kept tells) =
    log_push (machine p) (state_in p s) log (state_in p t) l (state_in p u) (kept_is_log p s records log t kept) tells.step
