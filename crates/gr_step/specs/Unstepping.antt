-- What is left of a step that is taken back.
use Rattle.std.specs.Prelude.{◌≡◌, ℕ, List, Option, None, if◌then◌else◌}
use Rattle.gr_base.specs.declared.names.ChName.{ChName}
use Rattle.gr_code.specs.Goroutines.{CodeGoroutine}
use Rattle.gr_goros.specs.declared.undo.GoUndo.{GoUndo}
use Rattle.gr_channels.specs.declared.changes.ChanUndo.{ChanUndo}
use Rattle.gr_tables.specs.NamedChannels.{contents_of, chan_back}
use Rattle.gr_tables.specs.NamedGoroutines.{goroutines_of}
use Rattle.gr_tables.specs.declared.channels.Channels.{Channels}
use Rattle.gr_tables.specs.declared.goroutines.Goroutines.{Goroutines}
use Rattle.gr_step.specs.declared.objects.Objects.{Objects}
use Rattle.gr_record.specs.Effects.{Effect}
use Rattle.gr_step.specs.Objects.{contents_in}
use Rattle.gr_record.specs.Records.{taken_back, go_back, is_go, is_channel}

-- the goroutines with these changes taken back
abbrev pub after_back : List (List ℕ × GoUndo) → Goroutines → List ℕ → Option CodeGoroutine
after_back us old q = go_back us q (goroutines_of old q)

abbrev pub GoBack : List (List ℕ × GoUndo) → Goroutines → Goroutines → Type 0
GoBack us old new = (q : List ℕ) → goroutines_of new q ≡ after_back us old q

-- without the goroutine that was started, and without the channel that was made
abbrev pub IsForgotten : Option (List ℕ) → (List ℕ → Option CodeGoroutine) → Goroutines → Type 0
IsForgotten begun old new = (q : List ℕ) → goroutines_of new q ≡ (if is_go q begun then None else old q)

abbrev pub IsUnmade : Option ChName → Channels → Channels → Type 0
IsUnmade made old new = (q : ChName) → contents_of new q ≡ (if is_channel q made then None else contents_of old q)

-- without the channel that was made, and with changes of channels taken back
abbrev pub AreUndone : Option ChName → List (ChName × ChanUndo) → Channels → Channels → Type 0
AreUndone made us old new = (q : ChName) → contents_of new q ≡ (if is_channel q made then None else chan_back us q (contents_of old q))

-- the step of a goroutine is taken back
abbrev pub IsTakenBack : List ℕ → Effect → Objects → Objects → Type 0
IsTakenBack n c old new = contents_in new ≡ taken_back n c (contents_in old)
