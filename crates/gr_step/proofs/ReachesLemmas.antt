-- What a change tells that reaches no other goroutine and no channel.
use Rattle.std.proofs.Common.{◌≡◌, ℕ, Bool, false, if◌then◌else◌, List, [], ◌∷◌, Option, Some, None, refl, sym, ap, subst, ◌∙◌}
use Rattle.std.specs.Prelude.{option_map}
use Rattle.gr_base.specs.declared.kinds.Kind.{Kind}
use Rattle.gr_base.specs.declared.objects.Object.{Object}
use Rattle.gr_base.specs.declared.objects.Object.TheVariants.{Go}
use Rattle.gr_base.specs.declared.objects.Object.TheVariants as objects
use Rattle.gr_goros.specs.Undoing.{need}
use Rattle.gr_goros.specs.declared.undo.GoUndo.{GoUndo}
use Rattle.gr_record.specs.declared.record.Operation.{Operation}
use Rattle.gr_record.specs.declared.record.Beyond.{Beyond}
use Rattle.gr_record.specs.Effects.{Effect}
use Rattle.gr_record.specs.Records.{operation_of, operation_in, stops, writes_of, reads_of, NeedNoFrame}
use Rattle.gr_record.specs.Parts.{reads_in}
use Rattle.gr_step.specs.Beyonds.{Reaches, ReachesBeyond}
use Rattle.gr_step.proofs.OwnTakesLemmas.{IsOwn}

-- what it did with a channel, what it read and wrote, and whether it stopped the program
pub record Told (did : Option Operation) (read written : List Object) (stopped : Bool) (n : List ℕ) (c : Effect) : Type 0 where
  pub own : IsOwn n c
  pub operation : operation_in c ≡ option_map operation_of did
  pub writes : writes_of n c ≡ Go n ∷ written
  pub reads : reads_of c ≡ (if stopped then read else objects.Run ∷ read)
  pub stops : stops c ≡ stopped

module _ (did : Option Operation) (read written : List Object) (stopped : Bool) (n : List ℕ) where
  by : (k : Kind) (u : GoUndo) (o : Option Beyond) → ReachesBeyond did read written stopped (record { kind = k; own = u; beyond = o })
      → need u ≡ 0 → Told did read written stopped n (record { kind = k; own = u; beyond = o })
  by k u None h none = absurd h
  by k u (Some b) h none = record {
    own = record {
      goroutines = ap (λ met. (n, u) ∷ met) h.met;
      channels = h.channels;
      begins = h.begins;
      makes = h.makes;
      frames = (none, subst {_, _} NeedNoFrame (sym h.met) tt);
    };
    operation = ap (option_map operation_of) h.operation;
    writes = ap (λ os. Go n ∷ os) h.writes;
    reads = ap (λ s. if s then reads_in b else objects.Run ∷ reads_in b) h.stops
        ∙ ap (λ os. if stopped then os else objects.Run ∷ os) h.reads;
    stops = h.stops;
  }

  pub told : (c : Effect) → ReachesBeyond did read written stopped c → need c.own ≡ 0 → Told did read written stopped n c
  told c h none = by c.kind c.own c.beyond h none

-- a change that reaches no further than its goroutine
pub alone : (n : List ℕ) (k : Kind) (u : GoUndo) → IsOwn n (record { kind = k; own = u; beyond = None })
alone n k u = record { goroutines = refl; channels = refl; begins = refl; makes = refl; frames = tt }

-- a change whose reach is known
abbrev ReachesIn : Option Operation → List Object → List Object → Bool → Option Beyond → Type 0
ReachesIn did read written stopped o = elim o [ Some b ↦ Reaches did read written stopped b | None ↦ ⊥ ]

pub reaches_some : (did : Option Operation) (read written : List Object) (stopped : Bool) (c : Effect) (b : Beyond) → c.beyond ≡ Some b
    → Reaches did read written stopped b → ReachesBeyond did read written stopped c
reaches_some did read written stopped c b is h = subst {_, _} (ReachesIn did read written stopped) (sym is) h

-- what is told of a change that reaches no further than its goroutine
pub told_none : (n : List ℕ) (c : Effect) → c.beyond ≡ None → Told None [] [] false n c
told_none n c is =
    subst {_, _} (λ (o : Option Beyond). Told None [] [] false n (record { kind = c.kind; own = c.own; beyond = o })) (sym is)
    (record { own = alone n c.kind c.own; operation = refl; writes = refl; reads = refl; stops = refl })
