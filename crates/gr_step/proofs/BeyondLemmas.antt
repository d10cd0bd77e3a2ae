-- What a step reached beyond its goroutine, taken back.
use Rattle.std.proofs.Common.{◌≡◌, ℕ, Bool, true, false, if◌then◌else◌, List, [], ◌∷◌, Option, Some, None, refl, sym, ap, subst, ◌∙◌}
use Rattle.gr_base.specs.declared.names.ChName.{ChName}
use Rattle.gr_rules.specs.States as rules
use Rattle.gr_tables.specs.NamedChannels.{TookBack, chan_back, contents_of, listed}
use Rattle.gr_tables.specs.NamedGoroutines.{goroutines_of}
use Rattle.gr_tables.specs.declared.channels.Channels.{Channels}
use Rattle.gr_step.specs.declared.objects.Objects.{Objects}
use Rattle.gr_step.specs.declared.objects.Run.TheVariants.{Live}
use Rattle.gr_record.specs.declared.record.Beyond.{Beyond}
use Rattle.gr_base.specs.declared.kinds.Kind.{Kind}
use Rattle.gr_channels.specs.declared.changes.ChanUndo.{ChanUndo}
use Rattle.gr_goros.specs.declared.undo.GoUndo.{GoUndo}
use Rattle.gr_record.specs.declared.record.Exchange.{Exchange}
use Rattle.gr_record.specs.declared.record.Passage.{Passage}
use Rattle.gr_record.specs.Effects.{Effect, one_or_none, reached_by_exchange, reached_by_passage}
use Rattle.gr_step.specs.Objects.{run_of, contents_in}
use Rattle.gr_record.specs.Fews.{members}
use Rattle.gr_record.specs.Parts.{begun_in, made_in, channel_in}
use Rattle.gr_step.specs.Unstepping.{after_back, GoBack, IsForgotten, AreUndone}
use Rattle.gr_record.specs.Records.{taken_back, go_back, is_go, is_channel}

live_or : (b : Bool) (old : _) → run_of (if b then Live else old) ≡ (if b then rules.live else run_of old)
live_or true old = refl
live_or false old = refl

-- the change of each goroutine and of each channel, the one that it started and the one that it made, and whether the program
-- runs
pub taken : (n : List ℕ) (change : Effect) (box : Beyond) (rest : Beyond) (old : Objects) (mid : Channels) (new : Objects)
    → change.beyond ≡ Some box → rest ≡ box
    → IsForgotten (begun_in rest) (after_back ((n, change.own) ∷ members rest.met) old.goroutines) new.goroutines
    → contents_of mid ≡ contents_of old.channels → AreUndone (made_in rest) (members rest.channels) mid new.channels
    → new.run ≡ (if rest.stops then Live else old.run)
    → contents_in new ≡ taken_back n change (contents_in old)
taken n change box rest old mid new is alike goroutines same channels runs =
    let run : run_of new.run ≡ (if box.stops then rules.live else run_of old.run) =
    ap run_of runs ∙ live_or rest.stops old.run ∙ ap (λ (b : Beyond). if b.stops then rules.live else run_of old.run) alike in
    let by_name : (q : List ℕ) → goroutines_of new.goroutines q
    ≡ (if is_go q (begun_in box) then None else go_back ((n, change.own) ∷ members box.met) q (goroutines_of old.goroutines q)) =
    λ q. goroutines q
    ∙ ap (λ (b : Beyond). if is_go q (begun_in b) then None else go_back ((n, change.own) ∷ members b.met) q (goroutines_of old.goroutines q)) alike in
    let by_channel : (q : ChName) → contents_of new.channels q
    ≡ (if is_channel q (made_in box) then None else chan_back (members box.channels) q (contents_of old.channels q)) =
    λ q. channels q
    ∙ ap (λ (b : Beyond). if is_channel q (made_in b) then None else chan_back (members b.channels) q (contents_of mid q)) alike
    ∙ ap (λ f. if is_channel q (made_in box) then None else chan_back (members box.channels) q (f q)) same in
    subst (λ o. contents_in new ≡ taken_back n (record change { beyond = o }) (contents_in old)) (sym is)
    (λ i. record { run = run i; goroutines = λ q. by_name q i; channels = λ q. by_channel q i })

-- one change, if there is one, as what a step keeps of it
same_changes : (c : ChName) (undo : Option ChanUndo) → listed c undo ≡ members (one_or_none c undo)
same_changes c None = refl
same_changes c (Some u) = refl

-- the contents when a step that met nobody is taken back
pub passage_taken : (n : List ℕ) (kind : Kind) (own : GoUndo) (p : Passage) (old : Objects) (mid : Channels) (new : Objects)
    → GoBack ((n, own) ∷ []) old.goroutines new.goroutines
    → contents_of mid ≡ contents_of old.channels → TookBack (listed (channel_in p.contact.operation) p.undo) mid new.channels
    → new.run ≡ old.run
    → contents_in new ≡ taken_back n (record { kind = kind; own = own; beyond = Some (reached_by_passage p) }) (contents_in old)
passage_taken n kind own p old mid new goroutines same back runs =
    taken n (record { kind = kind; own = own; beyond = Some (reached_by_passage p) }) (reached_by_passage p) (reached_by_passage p) old mid new refl refl
    goroutines same
    (λ q. back.back q ∙ ap (λ us. chan_back us q (contents_of mid q)) (same_changes (channel_in p.contact.operation) p.undo))
    runs

-- the contents when a step is taken back that met a goroutine which waited for this alone
pub exchange_taken : (n : List ℕ) (kind : Kind) (own : GoUndo) (e : Exchange) (old : Objects) (mid : Channels) (new : Objects)
    → GoBack ((n, own) ∷ e.met ∷ []) old.goroutines new.goroutines
    → contents_of mid ≡ contents_of old.channels → TookBack (listed (channel_in e.passage.contact.operation) e.passage.undo) mid new.channels
    → new.run ≡ old.run
    → contents_in new ≡ taken_back n (record { kind = kind; own = own; beyond = Some (reached_by_exchange e) }) (contents_in old)
exchange_taken n kind own e old mid new goroutines same back runs =
    taken n (record { kind = kind; own = own; beyond = Some (reached_by_exchange e) }) (reached_by_exchange e) (reached_by_exchange e) old mid new refl refl
    goroutines same
    (λ q. back.back q ∙ ap (λ us. chan_back us q (contents_of mid q)) (same_changes (channel_in e.passage.contact.operation) e.passage.undo))
    runs
