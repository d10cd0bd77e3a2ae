use Rattle.std.proofs.Common.{◌≡◌, [], false, true, Some, refl, sym, ap, subst, ◌∙◌}
use Rattle.std.specs.Prelude.{option_copied}
use Rattle.std.specs.List.{list_all}
use Rattle.gr_base.specs.declared.kinds.Kind.TheVariants as kinds
use Rattle.gr_code.specs.CodeViews.{program_code_of}
use Rattle.gr_code.specs.Goroutines.{Completion}
use Rattle.gr_refine.specs.Closing.{waiting_on}
use Rattle.gr_rules.specs.Attempts.{closes}
use Rattle.gr_tables.specs.NamedChannels.{contents_of, seen_of, AreAtGates}
use Rattle.gr_tables.specs.NamedGoroutines.{Arrives, ChangesBy, goroutines_of}
use Rattle.gr_record.specs.declared.record.Operation.TheVariants.{Closes}
use Rattle.gr_step.specs.Beyonds.{Reaches}
use Rattle.gr_step.specs.Passing.{ArrivesAt, Tells}
use Rattle.gr_step.specs.Wakes.{left_by_close, is_live_there, with_each_woken, written_by_close, IsShut}
use Rattle.gr_step.proofs.CloseLemmas.{arrives_at_name, all_live_after, content_is, content_seen}
use Rattle.gr_step.proofs.objects.Objects.close_open.Goals as goal

pub wake_each-met-requires-clause-live : goal.wake_each-met-requires-clause-live
wake_each-met-requires-clause-live c =
    let code = program_code_of c.args.turn.now.listing.now.code.value in
    let n = c.args.turn.now.event.now.go in
    let old = c.args.self.now in
    let f = goroutines_of old.goroutines in
    let h = goroutines_of c.deliver-arrives.new.self in
    let seen : seen_of old.channels c.args.channel.now ≡ Some c.unwrap.result.now = sym c.get.ensures ∙ ap option_copied c.unwrap.ensures in
    let x = c.unwrap.result.now.content in
    let goes : ArrivesAt code n Completion c.in-Ok.own f h =
    arrives_at_name code c.args.turn.now.number n Completion c.in-Ok.own old.goroutines c.deliver-arrives.new.self c.requires.named
    (subst (λ k. ChangesBy c.args.turn.now.number (Arrives (program_code_of k) Completion c.in-Ok.own) old.goroutines c.deliver-arrives.new.self) c.deref-3.ensures
    c.in-Ok.ensures.after) in
    subst (λ names. list_all (λ q. is_live_there (h q)) names ≡ true) (sym c.in_ok-names.ensures)
    (all_live_after code n c.in-Ok.own f h goes (waiting_on x) (c.requires.live x (content_seen old.channels c.args.channel.now c.unwrap.result.now seen)))

pub returns-clause-ok : goal.returns-clause-ok
returns-clause-ok c x there =
    let code = program_code_of c.args.turn.now.listing.now.code.value in
    let n = c.args.turn.now.event.now.go in
    let channel = c.args.channel.now in
    let old = c.args.self.now in
    let f = goroutines_of old.goroutines in
    let h = goroutines_of c.deliver-arrives.new.self in
    let seen : seen_of old.channels channel ≡ Some c.unwrap.result.now = sym c.get.ensures ∙ ap option_copied c.unwrap.ensures in
    let names : c.in_ok-names.names.items ≡ waiting_on x =
    c.in_ok-names.ensures ∙ ap waiting_on (content_is old.channels channel c.unwrap.result.now x seen there) in
    let goes : ArrivesAt code n Completion c.in-Ok.own f h =
    arrives_at_name code c.args.turn.now.number n Completion c.in-Ok.own old.goroutines c.deliver-arrives.new.self c.requires.named
    (subst (λ k. ChangesBy c.args.turn.now.number (Arrives (program_code_of k) Completion c.in-Ok.own) old.goroutines c.deliver-arrives.new.self) c.deref-3.ensures
    c.in-Ok.ensures.after) in
    let reaches : Reaches (Some (Closes channel)) [] (written_by_close channel f (waiting_on x)) false c.in_ok-further.further.value.beyond =
    subst (λ ns. Reaches (Some (Closes channel)) [] (written_by_close channel f ns) false c.in_ok-further.further.value.beyond) (c.deref.ensures.value ∙ names)
    c.in_ok-further.ensures in
    record {
      between = h;
      met = c.wake_each-met.result.items;
      changed = c.in_ok-undos.undos.items;
      goes = subst (λ u. ArrivesAt code n Completion u f h) (sym c.closed.ensures.own) goes;
      wakes = c.wake_each-met.ensures.woken ∙ ap (λ ns. with_each_woken ns h) names;
      over = c.wake_each-met.ensures.back;
      shuts = subst (λ ns. IsShut channel f ns (contents_of old.channels) (contents_of c.shut.new.channels)) (c.deref-2.ensures.value ∙ names)
          c.in_ok-undos.ensures.contents;
      back = c.in_ok-undos.ensures.back;
      named = c.wake_each-met.ensures.names ∙ names;
      gates = subst (λ ns. AreAtGates (left_by_close channel f ns) c.in_ok-undos.undos.items) (c.deref-2.ensures.value ∙ names) c.in_ok-undos.ensures.gates;
      run = refl;
      tells = subst (λ u. Tells c.closed.result kinds.Close (Some (closes channel)) [] (written_by_close channel f (waiting_on x)) u
          c.wake_each-met.result.items c.in_ok-undos.undos.items) (sym c.closed.ensures.own)
          (c.closed.ensures.told channel (written_by_close channel f (waiting_on x)) reaches);
    }
