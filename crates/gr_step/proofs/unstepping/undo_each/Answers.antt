use Rattle.std.proofs.Common.{◌≡◌, ℕ, List, [], ◌∷◌, arith, subst, ◌∙◌}
use Rattle.std.specs.Prelude.{OnOk}
use Rattle.gr_tables.specs.NamedGoroutines.{goroutines_of}
use Rattle.gr_record.specs.Records.{go_back}
use Rattle.gr_step.proofs.UnstepLemmas.{last_fits, last_needs_none, first_need_none, first_fit, first_back}
use Rattle.gr_step.proofs.unstepping.undo_each.Goals as goal

pub undo_at-requires : goal.undo_at-requires
undo_at-requires c = (
  last_fits c.loop-name.undos.items c.pop.new.self.items c.in-Some.name c.in-Some.undo c.in-Some.ensures.items
      (goroutines_of c.loop-name.goroutines) c.loop-name.invariant.fits,
  tt,
)

pub unwrap-requires : goal.unwrap-requires
unwrap-requires c =
    let none = last_needs_none c.loop-name.undos.items c.pop.new.self.items c.in-Some.name c.in-Some.undo c.in-Some.ensures.items
    c.loop-name.invariant.frames in
    c.undo_at.ensures.succeeds (omega (arith, none))

pub loop-name-preserved : goal.loop-name-preserved
loop-name-preserved c =
    let undos = c.loop-name.undos.items in
    let rest = c.pop.new.self.items in
    let are = c.in-Some.ensures.items in
    let old = goroutines_of c.loop-name.goroutines in
    let new = goroutines_of c.undo_at.new.goroutines in
    let back : (q : List ℕ) → new q ≡ go_back ((c.in-Some.name, c.in-Some.undo) ∷ []) q (old q) =
    subst (λ r. OnOk r ((q : List ℕ) → new q ≡ go_back ((c.in-Some.name, c.in-Some.undo) ∷ []) q (old q))) c.unwrap.ensures
    c.undo_at.ensures.ok in
    record {
      back = λ q. first_back undos rest c.in-Some.name c.in-Some.undo are old new back q ∙ c.loop-name.invariant.back q;
      fits = first_fit undos rest c.in-Some.name c.in-Some.undo are old new back c.loop-name.invariant.fits;
      frames = first_need_none undos rest c.in-Some.name c.in-Some.undo are c.loop-name.invariant.frames;
    }
