use Rattle.std.proofs.Common.{sym, ◌∙◌}
use Rattle.std.proofs.lemmas.Bool.{false≢true}
use Rattle.gr_record.specs.Listings.{program_in}
use Rattle.gr_code.specs.Goroutines.{finished}
use Rattle.gr_step.proofs.ExitLemmas.{can_finish, exit_takes, exit_room, return_takes}
use Rattle.gr_step.proofs.PlaceLemmas.{placed}
use Rattle.gr_tables.proofs.ByNumber.{if_ok}
use Rattle.gr_step.proofs.objects.Objects.exit.Goals as goal

pub end-requires : goal.end-requires
end-requires c =
    let acting = c.requires.may.acting in
    can_finish (program_in c.args.turn.now.listing.now) c.args.turn.now.event.now c.args.turn.now.number c.args.self.now acting (c.requires.task acting.goroutine acting.there)

pub returns-then-is_main-clause-ok : goal.returns-then-is_main-clause-ok
returns-then-is_main-clause-ok c =
    let acting = c.requires.may.acting in
    if_ok c.end.result _ _ (λ change ends.
    exit_takes (program_in c.args.turn.now.listing.now) c.args.turn.now.event.now c.args.turn.now.number c.args.self.now acting (c.requires.task acting.goroutine acting.there)
    c.requires.plain change c.end.new.self ends (c.is_main.ensures.0 c.if-is_main.true))
    c.end.ensures.ok

pub returns-then-is_main-clause-room : goal.returns-then-is_main-clause-room
returns-then-is_main-clause-room c =
    let acting = c.requires.may.acting in
    if_ok c.end.result _ _ (λ change ends.
    exit_room (program_in c.args.turn.now.listing.now) c.args.turn.now.event.now c.args.turn.now.number c.args.self.now acting (c.requires.task acting.goroutine acting.there)
    c.requires.plain change c.end.new.self ends)
    c.end.ensures.ok

pub halt-requires : goal.halt-requires
halt-requires c =
    let acting = c.requires.may.acting in
    can_finish (program_in c.args.turn.now.listing.now) c.args.turn.now.event.now c.args.turn.now.number c.args.self.now acting (c.requires.task acting.goroutine acting.there)

pub returns-clause-ok : goal.returns-clause-ok
returns-clause-ok c =
    let acting = c.requires.may.acting in
    let o = c.args.self.now in
    let own = placed c.args.turn.now.number c.args.turn.now.event.now.go o.goroutines c.halt.new.self acting.named acting.goroutine acting.there finished
    c.in_ok-own.own
    c.in_ok-own.ensures.ok in
    rw (c.alone.ensures, c.new.ensures) (return_takes (program_in c.args.turn.now.listing.now) c.args.turn.now.event.now c.args.turn.now.number o acting (c.requires.task acting.goroutine acting.there)
    c.requires.plain
    c.in_ok-own.own c.halt.new.self own (λ main. false≢true (sym c.if-is_main.false ∙ c.is_main.ensures.1 main)))
