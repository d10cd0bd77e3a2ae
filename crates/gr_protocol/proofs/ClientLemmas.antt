-- What is left of a client.
use Rattle.std.proofs.Common.{◌≡◌, ◌∙◌, ◌≤◌, IfSome, ap, refl, subst, sym}
use Rattle.gr_follow.specs.Following.{IsOf}
use Rattle.gr_program.specs.Views.{program_of}
use Rattle.gr_protocol.specs.Clients.{IsClient, RemainsClient, StaysClient}
use Rattle.gr_protocol.specs.declared.client.Client.{Client}
use Rattle.gr_session.specs.Source.{IsProgramOf}

-- a client of the same program, asker and source, with a second machine of the program or none
is_client : (old new : Client) → IsClient old → new.session.program ≡ old.session.program → new.session.askers ≡ old.session.askers → new.desk ≡ old.desk
    → new.source ≡ old.source → IfSome new.follower (IsOf (program_of new.session.program)) → IsClient new
is_client old new is program askers desk source follower = record {
  desk = (
    subst (λ d. 1 ≤ d.number) (sym desk) is.desk.0,
    subst (λ d. d.number ≤ new.session.askers) (sym desk) (subst (λ n. old.desk.number ≤ n) (sym askers) is.desk.1),
  );
  source = subst (λ s. IsProgramOf s.items (program_of new.session.program)) (sym source)
      (subst (λ q. IsProgramOf old.source.items (program_of q)) (sym program) is.source);
  follower = follower;
}

-- after a command
pub remains : (old new : Client) → IsClient old → (new.session.program ≡ old.session.program) × (new.session.askers ≡ old.session.askers) → new.desk ≡ old.desk
    → new.source ≡ old.source → new.follower ≡ old.follower → RemainsClient old new
remains old new is others desk source follower = record {
  is = is_client old new is others.0 others.1 desk source
      (subst (λ o. IfSome o (IsOf (program_of new.session.program))) (sym follower)
      (subst (λ q. IfSome old.follower (IsOf (program_of q))) (sym others.0) is.follower));
  program = others.0;
  desk = desk;
}

-- after a query
pub stays : (old new : Client) → IsClient old → new.session ≡ old.session → new.desk ≡ old.desk → new.source ≡ old.source
    → IfSome new.follower (IsOf (program_of old.session.program)) → StaysClient old new
stays old new is session desk source follower = record {
  is = is_client old new is (ap (λ s. s.program) session) (ap (λ s. s.askers) session) desk source
      (subst (λ s. IfSome new.follower (IsOf (program_of s.program))) (sym session) follower);
  session = session;
  desk = desk;
}

-- after a query whose second machine is put back
pub stays_with : (old mid new : Client) → StaysClient old mid → new.session ≡ mid.session → new.desk ≡ mid.desk → new.source ≡ mid.source
    → IfSome new.follower (IsOf (program_of mid.session.program)) → StaysClient old new
stays_with old mid new before session desk source follower =
    let s = stays mid new before.is session desk source follower in
    record { is = s.is; session = session ∙ before.session; desk = desk ∙ before.desk }

pub stays_itself : (c : Client) → IsClient c → StaysClient c c
stays_itself c is = record { is = is; session = refl; desk = refl }

pub remains_itself : (c : Client) → IsClient c → RemainsClient c c
remains_itself c is = record { is = is; program = refl; desk = refl }

-- what a query leaves is what a command may leave
pub remains_by : (old new : Client) → StaysClient old new → RemainsClient old new
remains_by old new s = record { is = s.is; program = ap (λ x. x.program) s.session; desk = s.desk }
