-- A client of a session, and what its lines leave of it.
use Rattle.std.specs.Prelude.{◌≡◌, ◌≤◌, IfSome}
use Rattle.gr_follow.specs.Following.{IsOf}
use Rattle.gr_program.specs.Views.{program_of}
use Rattle.gr_protocol.specs.declared.client.Client.{Client}
use Rattle.gr_session.specs.Source.{IsProgramOf}

-- the session has the client among its askers, the source is that of its program, and so is the second machine
pub record IsClient (c : Client) : Type 0 where
  pub desk : (1 ≤ c.desk.number) × (c.desk.number ≤ c.session.askers)
  pub source : IsProgramOf c.source.items (program_of c.session.program)
  pub follower : IfSome c.follower (IsOf (program_of c.session.program))

-- only the second machine may be another
pub record StaysClient (old new : Client) : Type 0 where
  pub is : IsClient new
  pub session : new.session ≡ old.session
  pub desk : new.desk ≡ old.desk

-- it is the same client, of a session of the same program
pub record RemainsClient (old new : Client) : Type 0 where
  pub is : IsClient new
  pub program : new.session.program ≡ old.session.program
  pub desk : new.desk ≡ old.desk
