use Rattle.std.proofs.Common.{ℕ, ◌++◌, ◌∙◌, List, All, Some, refl, ap, subst, sym}
use Rattle.gr_refine.specs.Contents.{with_goroutine}
use Rattle.gr_step.specs.Leasing.{Loan, goroutine_led_to, goroutine_lent, loan_of, name_lent, program_lent, records_led}
use Rattle.gr_step.specs.Record.{Record}
use Rattle.gr_step.specs.Stores.{contents_at}
use Rattle.gr_depend.specs.Logs.{IsAlone, records_of}
use Rattle.gr_rollback.proofs.LeasingLemmas.{alone_of_walk, joins_all}
use Rattle.gr_rollback.proofs.course.Course.keep_all.Goals as goal

pub append-requires : goal.append-requires
append-requires c =
    let lease = c.args.lease.now in
    subst {_, _} (λ (rs : List Record). All (IsAlone c.go.result.now) rs) (sym c.take_records-records.ensures.records)
    (subst {_, _} (λ (n : List ℕ). All (IsAlone n) (records_led lease)) (sym (c.go.ensures ∙ ap (λ (x : Loan). x.name) c.take_records-records.ensures.loan))
    (alone_of_walk (program_lent lease) (name_lent lease) (goroutine_lent lease) (records_led lease) (goroutine_led_to lease) c.requires.lease.walk))

pub returns-clause-contents : goal.returns-clause-contents
returns-clause-contents c =
    let l = c.args.lease.now in
    let old = c.args.self.now in
    let lent = c.take_records-records in
    c.take_over.ensures.after
    ∙ ap (λ (x : Loan). with_goroutine (contents_at old.store) x.name (Some (goroutine_led_to lent.new.self))) lent.ensures.loan
    ∙ ap (λ h. with_goroutine (contents_at old.store) (loan_of l).name (Some h)) lent.ensures.reached

pub returns-clause-kept : goal.returns-clause-kept
returns-clause-kept c = λ p w s.
    let l = c.args.lease.now in
    let old = c.args.self.now in
    let lent = c.take_records-records in
    joins_all p w old _ l s c.requires.lease c.requires.lent (record {
      log = c.in_ok-append.ensures.ok ∙ ap (λ rs. records_of old.log ++ rs) lent.ensures.records;
      contents = returns-clause-contents c;
      listing = c.take_over.ensures.listing;
      pool = refl;
      first = refl;
      room = c.requires.room;
    })
