-- An event makes one step of a state, or is refused.
use Rattle.std.proofs.Common.{◌≡◌, List, [], ◌∷◌, Some, sym, ◌∙◌, ap}
use Rattle.gr_base.specs.declared.events.Event.{Event}
use Rattle.gr_causal.specs.Machine.{IsLog, replay}
use Rattle.gr_causal.proofs.ListLemmas.{some_is, none_not, cons_is}
use Rattle.gr_causal.proofs.PathLemmas.{path_of}
use Rattle.gr_program.specs.Programs.{Program}
use Rattle.gr_rules.specs.Attempts.{Refusal}
use Rattle.gr_rules.specs.States.{State}
use Rattle.gr_rules.specs.Steps.{machine, refusal}
use Rattle.gr_laws.specs.Reached.{Logged}
use Rattle.gr_laws.proofs.RefusalLemmas.{refused_is_no_step}

-- what a log keeps of a step, and where the step leads, are fixed by its event
pub one_step : (p : Program) (s t u : State) (r q : Logged p) → r.event ≡ q.event → IsLog (machine p) s (r ∷ []) t → IsLog (machine p) s (q ∷ []) u → (r ≡ q) × (t ≡ u)
one_step p s t u r q same a b =
    let both : Some (t, r ∷ []) ≡ Some (u, q ∷ []) = sym a ∙ ap (λ e. replay (machine p) s (e ∷ [])) same ∙ b in
    let is = some_is (t, r ∷ []) (u, q ∷ []) both in
    ((cons_is r q [] [] (ap (λ (x : State × List (Logged p)). x.1) is)).0, ap (λ (x : State × List (Logged p)). x.0) is)

-- an event that makes a step is not refused
pub step_is_not_refused : (p : Program) (s t : State) (e : Event) (r : Logged p) (reason : Refusal) → r.event ≡ e → IsLog (machine p) s (r ∷ []) t → refusal p s e ≡ Some reason → ⊥
step_is_not_refused p s t e r reason is goes refused =
    let path = path_of (machine p) s (r ∷ []) t goes in
    none_not _ (sym ((refused_is_no_step p s e).1 (reason, refused)) ∙ ap ((machine p).step s) (sym is) ∙ path.1.does)
