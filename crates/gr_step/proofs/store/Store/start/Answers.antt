use Rattle.std.proofs.Common.{◌≡◌, refl, sym, ap, subst, ◌∙◌}
use Rattle.gr_program.specs.Views.{program_of}
use Rattle.gr_rules.specs.States as rules
use Rattle.gr_code.specs.CodeViews.{program_code_of}
use Rattle.gr_code.specs.declared.code.Code.{Code}
use Rattle.gr_lower.specs.Lowered.{lowered}
use Rattle.gr_record.specs.Listings.{state_in}
use Rattle.gr_step.specs.Objects.{contents_in}
use Rattle.gr_record.specs.Running.{Running}
use Rattle.gr_step.specs.declared.objects.Objects.{Objects}
use Rattle.gr_step.specs.declared.objects.Run.TheVariants.{Live}
use Rattle.gr_step.proofs.StartLemmas.{main_right, begins, one_there, no_channel}
use Rattle.gr_step.proofs.store.Store.start.Goals as goal

pub start-requires : goal.start-requires
start-requires c =
    main_right (program_of c.args.program.value) c.requires (program_code_of c.deref.result.now) c.deref-2.result.now.main
    c.new-arguments.result.items
    (ap program_code_of c.deref.ensures ∙ c.in_ok-listing.ensures.code ∙ ap (λ q. lowered (program_of q.value)) c.in_ok-listing.ensures.program)
    (ap (λ (k : Code). k.main) (c.deref-2.ensures ∙ sym c.deref.ensures)) c.new-arguments.ensures.items

pub returns : goal.returns
returns c =
    let p = program_of c.args.program.value in
    let program = ap (λ q. program_of q.value) c.in_ok-listing.ensures.program in
    let objects : Objects = record { run = Live; goroutines = c.put.new.self; channels = c.new-2.result; alloc = c.args.alloc } in
    let b = begins p c.requires (contents_in objects) (program_code_of c.deref.result.now) c.deref-2.result.now.main c.new-arguments.result.items
    c.in_ok-main.main.content
    (ap program_code_of c.deref.ensures ∙ c.in_ok-listing.ensures.code ∙ ap (λ q. lowered (program_of q.value)) c.in_ok-listing.ensures.program)
    (ap (λ (k : Code). k.main) (c.deref-2.ensures ∙ sym c.deref.ensures)) c.new-arguments.ensures.items c.in_ok-main.ensures refl
    (one_there c.new-goroutines.result c.know.new.self c.put.new.self c.in_ok-number.number c.in_ok-name.name c.in_ok-main.main c.in_ok-name.ensures
    c.new-goroutines.ensures.goroutines c.in_ok-number.ensures.goroutines c.in_ok-number.ensures.number c.put.ensures)
    (no_channel c.new-2.result c.new-2.ensures) in
    record {
      program = program;
      run = record { coded = c.in_ok-listing.ensures.code; running = subst (λ q. Running q (contents_in objects)) (sym program) b.running };
      state = subst (λ q. state_in q (contents_in objects) ≡ rules.start p) (sym program) b.state;
      taken = refl;
    }
