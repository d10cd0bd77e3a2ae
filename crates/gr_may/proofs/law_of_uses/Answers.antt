use Rattle.gr_causal.proofs.PathLemmas.{path_of}
use Rattle.gr_rules.specs.Steps.{machine}
use Rattle.gr_rules.specs.Goroutines.{channel_of}
use Rattle.gr_may.specs.Covers.{wish}
use Rattle.gr_laws.proofs.RuleSound.{reached_sound}
use Rattle.std.proofs.Common.{sym, ◌∙◌, ap}
use Rattle.gr_may.proofs.FitRuns.{covers_along, uses_along, starts_alike, permitted, waits_permitted}
use Rattle.gr_may.proofs.law_of_uses.Goals as goal

pub returns-clause-covers : goal.returns-clause-covers
returns-clause-covers c p s t usage steps r l h = covers_along p usage s t steps (reached_sound p s r.log r.leads) h (path_of (machine p) s steps t l)

pub returns-clause-steps : goal.returns-clause-steps
returns-clause-steps c p s t steps r n d u reached l i b so usage h =
    let sound = reached_sound p s reached.log reached.leads in
    let o = uses_along p usage s t steps r sound h (path_of (machine p) s steps t l) i in
    ap (λ f. f d u) (sym (starts_alike p usage s n r.event.go h b)) ∙ permitted p usage r.event.go d u r.note.kind.operation o so

pub returns-clause-waits : goal.returns-clause-waits
returns-clause-waits c p s t steps n m w reached l b i usage h =
    let sound = reached_sound p s reached.log reached.leads in
    let after = covers_along p usage s t steps sound h (path_of (machine p) s steps t l) in
    ap (λ f. f (channel_of w) (wish w)) (sym (starts_alike p usage s n m h b)) ∙ waits_permitted p usage t m w after i
