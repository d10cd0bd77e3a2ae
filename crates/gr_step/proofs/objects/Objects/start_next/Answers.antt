use Rattle.std.proofs.Common.{◌≡◌, ◌<◌, ◌+◌, ◌^◌, ◌++◌, ◌∷◌, [], slice_get, sym, ap, subst, ◌∙◌}
use Rattle.std.specs.Prelude.{Result, Ok, Err, OnErr}
use Rattle.gr_code.specs.CodeFrames.{ProgramCode, entered}
use Rattle.gr_code.specs.CodeViews.{program_code_of}
use Rattle.gr_refine.specs.CodeSteps.{next_child}
use Rattle.gr_goros.specs.Views.{IsStarted}
use Rattle.gr_rules.specs.Outcomes.{wrong}
use Rattle.gr_tables.specs.NamedChannels.{contents_of}
use Rattle.gr_tables.specs.NamedGoroutines.{names_of}
use Rattle.gr_record.specs.Listings.{program_in}
use Rattle.gr_step.specs.Objects.{run_of}
use Rattle.gr_step.proofs.PlaceLemmas.{same_seen}
use Rattle.gr_step.proofs.StartNextLemmas.{can_enter, known_arrives, within_names, start_takes}
use Rattle.gr_step.proofs.objects.Objects.start_next.Goals as goal

always : {A E P : Type 0} (r : Result A E) → P → OnErr r P
always (Ok x) h = tt
always (Err e) h = h

pub start-requires : goal.start-requires
start-requires c =
    let acting = c.requires.may.acting in
    let few = c.requires.few acting.goroutine acting.there in
    let code = ap program_code_of c.deref.ensures ∙ c.requires.may.coded in
    subst {_, _} (λ (code : ProgramCode). ¬ (entered code c.args.function c.args.arguments.items ≡ wrong)) (sym code)
    (can_enter (program_in c.args.turn.now.listing.now) c.args.turn.now.event.now c.args.turn.now.number c.args.self.now acting c.requires.plain c.args.function
    c.args.arguments.items (c.requires.task acting.goroutine acting.there) c.requires.short few.1)

pub returns-in_err-place-clause-err : goal.returns-in_err-place-clause-err
returns-in_err-place-clause-err c =
    let o = c.args.self.now in
    always c.from_residual-in_err-place.result
    (λ j. record {
      run = run_of o.run;
      goroutines = same_seen o.goroutines c.know.new.self c.know.ensures.goroutines j;
      channels = contents_of
          o.channels;
    })

pub returns-in_err-further-clause-err : goal.returns-in_err-further-clause-err
returns-in_err-further-clause-err c =
    let o = c.args.self.now in
    always c.from_residual-in_err-further.result
    (λ j. record {
      run = run_of o.run;
      goroutines = same_seen o.goroutines c.know.new.self c.know.ensures.goroutines j;
      channels = contents_of
          o.channels;
    })

pub deliver-requires : goal.deliver-requires
deliver-requires c =
    let acting = c.requires.may.acting in
    let few = c.requires.few acting.goroutine acting.there in
    let code = ap program_code_of c.deref-2.ensures ∙ c.requires.may.coded in
    let child : c.in_ok-child.child ≡ next_child c.args.turn.now.event.now acting.goroutine =
    c.in_ok-child.ensures ∙ ap (λ k. c.args.turn.now.event.now.go ++ k ∷ []) (sym few.0) in
    let fits : acting.goroutine.children + 1 < 2 ^ 32 = rw few.0 c.ranges.count.fits in
    rw code (known_arrives (program_in c.args.turn.now.listing.now) c.args.turn.now.event.now c.args.turn.now.number c.args.self.now acting c.requires.plain c.args.function
    c.args.arguments.items (c.requires.task acting.goroutine acting.there) c.requires.short few.1 c.know.new.self
    (rw child at c.in_ok-place.ensures.names) c.know.ensures.goroutines fits)

pub returns-in_err-own-clause-err : goal.returns-in_err-own-clause-err
returns-in_err-own-clause-err c =
    let o = c.args.self.now in
    let is = c.in_err-own.ensures.err.goroutines ∙ same_seen o.goroutines c.know.new.self c.know.ensures.goroutines in
    always c.from_residual-in_err-own.result (λ j. record { run = run_of o.run; goroutines = is j; channels = contents_of o.channels })

pub put-requires : goal.put-requires
put-requires c =
    let change = c.in_ok-own.ensures.after in
    within_names (names_of c.deliver.new.self) c.in_ok-place.place c.in_ok-child.child
    (ap (λ l. slice_get l c.in_ok-place.place) change.2.sets.names ∙ c.in_ok-place.ensures.number)

pub returns-clause-ok : goal.returns-clause-ok
returns-clause-ok c =
    let acting = c.requires.may.acting in
    let few = c.requires.few acting.goroutine acting.there in
    let code = ap program_code_of c.deref.ensures ∙ c.requires.may.coded in
    let again = ap program_code_of c.deref-2.ensures ∙ c.requires.may.coded in
    let child : c.in_ok-child.child ≡ next_child c.args.turn.now.event.now acting.goroutine =
    c.in_ok-child.ensures ∙ ap (λ k. c.args.turn.now.event.now.go ++ k ∷ []) (sym few.0) in
    let begins = subst {_, _}
    (λ (code : ProgramCode). IsStarted (entered code c.args.function c.args.arguments.items) c.in_ok-goroutine.goroutine.content)
    code c.in_ok-goroutine.ensures in
    rw c.further.ensures (start_takes (program_in c.args.turn.now.listing.now) c.args.turn.now.event.now c.args.turn.now.number c.args.self.now acting c.requires.plain c.args.function
    c.args.arguments.items (c.requires.task acting.goroutine acting.there) c.requires.short few.1 c.know.new.self
    (rw child at c.in_ok-place.ensures.names) c.know.ensures.goroutines c.in_ok-own.own c.deliver.new.self (rw again at c.in_ok-own.ensures.after)
    c.in_ok-place.place c.in_ok-goroutine.goroutine c.put.new.self (rw child at c.in_ok-place.ensures.number) begins
    c.in_ok-further.further.value.beyond (rw child at c.in_ok-further.ensures) c.put.ensures)
