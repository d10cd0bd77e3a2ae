use Rattle.std.proofs.Common.{refl, sym, ap, subst, ◌∙◌}
use Rattle.gr_base.specs.declared.events.Choice.TheVariants.{Plain}
use Rattle.gr_code.specs.CodeFrames.{ProgramCode}
use Rattle.gr_code.specs.CodeViews.{program_code_of}
use Rattle.gr_tables.specs.Counting.{CanTry}
use Rattle.gr_tables.specs.NamedGoroutines.{At, seen_at}
use Rattle.gr_step.specs.Stores.{program_at, contents_at}
use Rattle.gr_step.proofs.StepIntsLemmas.{can_try, count_takes, count_room, count_ordinal, counted_by}
use Rattle.gr_step.proofs.StoreLemmas.{runs_on}
use Rattle.gr_step.proofs.store.Store.step_ints.Goals as goal

pub step_ints-counted-requires : goal.step_ints-counted-requires
step_ints-counted-requires c =
    let s = c.args.self.now in
    let code = ap program_code_of c.deref.ensures ∙ c.requires.run.coded in
    subst {_, _} (λ (code : ProgramCode). At (CanTry code) (seen_at s.objects.goroutines c.in-Ok.number)) (sym code)
    (can_try (program_at s) c.args.event c.in-Ok.number s.objects c.requires.run.running c.requires.counted c.in-Ok.ensures.ok.runs
    c.in-Ok.ensures.ok.named c.in-Ok.ensures.ok.present)

pub returns-clause-step : goal.returns-clause-step
returns-clause-step c =
    let s = c.args.self.now in
    let code = ap program_code_of c.deref.ensures ∙ c.requires.run.coded in
    let step = rw code at c.in-Some.ensures.step in
    let event = record c.args.event { choice = Plain } in
    rw c.alone.ensures (record {
      takes = count_takes (program_at s) event c.in-Ok.number s.objects c.requires.run.running c.requires.counted c.in-Ok.ensures.ok.runs
          c.in-Ok.ensures.ok.named c.in-Ok.ensures.ok.present refl _ c.step_ints-counted.new.self step;
      named = count_ordinal (program_at s) event c.in-Ok.number s.objects c.requires.run.running c.requires.counted c.in-Ok.ensures.ok.runs
          c.in-Ok.ensures.ok.named c.in-Ok.ensures.ok.present refl _ c.step_ints-counted.new.self step;
    })

pub returns-clause-run : goal.returns-clause-run
returns-clause-run c =
    let s = c.args.self.now in
    let code = ap program_code_of c.deref.ensures ∙ c.requires.run.coded in
    let step = rw code at c.in-Some.ensures.step in
    let event = record c.args.event { choice = Plain } in
    record {
      coded = c.requires.run.coded;
      running = runs_on (program_at s) event (contents_at s) _ (counted_by c.in-Some.own) c.requires.run.running
          (count_takes (program_at s) event c.in-Ok.number s.objects c.requires.run.running c.requires.counted c.in-Ok.ensures.ok.runs
          c.in-Ok.ensures.ok.named c.in-Ok.ensures.ok.present refl _ c.step_ints-counted.new.self step);
    }

pub returns-clause-room : goal.returns-clause-room
returns-clause-room c =
    let s = c.args.self.now in
    let code = ap program_code_of c.deref.ensures ∙ c.requires.run.coded in
    let step = rw code at c.in-Some.ensures.step in
    rw c.alone.ensures (count_room (program_at s) (record c.args.event { choice = Plain }) c.in-Ok.number s.objects c.requires.run.running c.requires.counted
    c.in-Ok.ensures.ok.runs c.in-Ok.ensures.ok.named c.in-Ok.ensures.ok.present refl _ c.step_ints-counted.new.self step)
