-- A number of places in memory, as the room that it is.
use Rattle.gr_channels.specs.Channels.{Room}
use Rattle.gr_tables.specs.declared.channels.places.Places.{Places}

abbrev pub room_of : Places → Room
room_of p = record { items = p.items; senders = p.senders; receivers = p.receivers }
