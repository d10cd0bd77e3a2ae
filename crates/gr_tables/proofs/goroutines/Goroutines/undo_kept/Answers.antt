use Rattle.std.proofs.Common.{Some, refl, sym, ap, ◌∙◌}
use Rattle.std.specs.Option.{option_copied_mut}
use Rattle.gr_goros.specs.Undoing.{Fits}
use Rattle.gr_tables.proofs.ByNumber.{written_unique, changed, kept, on_ok, on_err, both_done, both_err}
use Rattle.gr_tables.proofs.goroutines.Goroutines.undo_kept.Goals as goal

pub invariant_of-self : goal.invariant_of-self
invariant_of-self c = record { unique = written_unique c.args.self.now.map c.args.number _ c.args.self.now.unique }

pub returns-clause-ok : goal.returns-clause-ok
returns-clause-ok c =
    on_ok c.undo_kept.result _ _ (λ s. changed c.args.self.now _ c.args.number c.unwrap-slot.result.now (Some c.undo_kept.new.self)
    refl (sym (ap option_copied_mut c.unwrap-slot.ensures) ∙ c.get_index_mut.ensures.value)
    (λ g. Fits c.args.undo g.content) c.requires _
    (c.in-Some.goroutine, c.undo_kept.new.self, c.in-Some.is, refl, s)) (both_done c.undo_kept.result _ _ c.undo_kept.ensures.ok c.undo_kept.ensures.spends)

pub returns-clause-err : goal.returns-clause-err
returns-clause-err c =
    on_err c.undo_kept.result _ _ (λ s. kept c.args.self.now _ c.args.number c.unwrap-slot.result.now (Some c.undo_kept.new.self)
    refl (sym (ap option_copied_mut c.unwrap-slot.ensures) ∙ c.get_index_mut.ensures.value)
    (λ g. Fits c.args.undo g.content) c.requires
    (c.in-Some.goroutine, c.undo_kept.new.self, c.in-Some.is, refl, s.0, s.1)) (both_err c.undo_kept.result _ _ c.undo_kept.ensures.err c.undo_kept.ensures.err_room)
