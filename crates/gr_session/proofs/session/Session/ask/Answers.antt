use Rattle.std.proofs.Common.{◌<◌, ◌≤◌, length, refl, rules}
use Rattle.gr_session.specs.declared.TheConstants.{JOURNAL_LIMIT}
use Rattle.gr_session.specs.Entries.{by_command}
use Rattle.gr_session.proofs.JournalLemmas.{keeps_entry, keeps_still}
use Rattle.gr_session.proofs.session.Session.ask.Goals as goal

pub invariant_of-self-in-Err-carry_out : goal.invariant_of-self-in-Err-carry_out
invariant_of-self-in-Err-carry_out c =
    rw c.make_room.ensures.items
    (keeps_still c.self.inside.debuggee c.carry_out.new.debuggee _ _ c.self.invariant (c.in-Err-carry_out.ensures.leads _ c.self.invariant.world c.self.invariant.stands))

pub invariant_of-self-in-Ok : goal.invariant_of-self-in-Ok
invariant_of-self-in-Ok c =
    let asker : (1 ≤ c.args.desk.number) × (c.args.desk.number ≤ c.self.inside.askers) = search rules in
    let room : length c.self.inside.journal.items < JOURNAL_LIMIT = search rules in
    let leads = c.in-Ok.ensures.leads _ c.self.invariant.world c.self.invariant.stands in
    rw (c.keep.ensures.entry, c.make_room.ensures.items)
    (keeps_entry c.self.inside.debuggee c.carry_out.new.debuggee _ _ _ _ c.self.invariant asker.0 asker.1 room
    leads.world (by_command leads.leads) leads.stands)

pub returns-in-Ok-clause-entry : goal.returns-in-Ok-clause-entry
returns-in-Ok-clause-entry c =
    let leads = c.in-Ok.ensures.leads _ c.self.invariant.world c.self.invariant.stands in
    rw (← c.with_shared_name-command.ensures, ← c.self.view_is, c.keep.ensures.reply, c.keep.ensures.number, c.keep.ensures.entry, c.make_room.ensures.items)
    (record {
      memory = c.in-Ok.memory;
      entered = refl;
      number_is = refl;
      before = c.self.invariant.world;
      stood = c.self.invariant.means;
      after = leads.world;
      meant = by_command leads.leads;
    })

pub returns-in-Ok-clause-contents : goal.returns-in-Ok-clause-contents
returns-in-Ok-clause-contents c = rw (← c.self.view_is, c.keep.ensures.reply) c.in-Ok.ensures.contents
