-- Each channel of a store is one.
use Rattle.std.specs.Prelude.{◌≡◌, Option, Some}
use Rattle.gr_base.specs.declared.names.ChName.{ChName}
use Rattle.gr_channels.specs.Channels.{Seen, IsChannel}

-- each channel that is there has a content that a channel can have
abbrev pub AreChannels : (ChName → Option Seen) → Type 0
AreChannels seen = (name : ChName) (c : Seen) → seen name ≡ Some c → IsChannel c.content
