-- A step that reached no further than its goroutine, which is ready still, joins the log, or is taken back.
use Rattle.std.proofs.Common.{◌≡◌, ℕ, [], ◌∷◌, None, Result, Ok, Err, inr, refl, sym, ap, subst, ◌∙◌}
use Rattle.std.specs.Option.{option_to_list}
use Rattle.std.specs.Prelude.{IfErr, OnErr}
use Rattle.gr_base.specs.declared.events.Event.{Event}
use Rattle.gr_pool.specs.Goroutines as pools
use Rattle.gr_pool.specs.Goroutines.{is_among}
use Rattle.gr_program.specs.Programs.{Program}
use Rattle.gr_rules.specs.Steps.{refusal}
use Rattle.gr_step.specs.Effects.{Effect}
use Rattle.gr_step.specs.Record.{Record}
use Rattle.gr_step.specs.declared.refusal.StepRefused.{StepRefused}
use Rattle.gr_step.specs.declared.store.Store.{Store}
use Rattle.gr_step.specs.Records.{begun_by, event_of, taken_back}
use Rattle.gr_step.specs.Stores as stores
use Rattle.gr_step.specs.Stores.{program_at, contents_at, taken_at, SameListing}
use Rattle.gr_step.specs.Taking.{IsRecord}
use Rattle.gr_rollback.specs.declared.course.Course.{Course}
use Rattle.gr_rollback.specs.declared.stepped.Stepped.{Stepped}
use Rattle.gr_rollback.specs.Courses.{Holds}
use Rattle.gr_rollback.specs.Joined.{IsLast, IsTakenBack, Joined}
use Rattle.gr_rollback.specs.Pasts.{Past}
use Rattle.gr_rollback.specs.Readiness.{AllKnown, Follows, KeepsStatus, Settles, others_of}
use Rattle.gr_rollback.specs.Stepping.{one_more, MayCount}
use Rattle.gr_rollback.specs.Steps.{Keeps, Kept}
use Rattle.gr_rollback.proofs.Basics.{true_not_false}
use Rattle.gr_rollback.proofs.CourseLemmas.{follows, keeps, met_in_pool, own_in_pool, own_stays_ready, ready_still, stays}
use Rattle.gr_rollback.proofs.PoolLemmas.{settles_still}
use Rattle.gr_rollback.proofs.StepLemmas.{record_is_allowed}

-- such a step met no goroutine, and started none
none_begun : (c : Effect) → c.beyond ≡ None → begun_by c ≡ None
none_begun c alone = ap (λ o. begun_by (record c { beyond = o })) alone

no_others : (c : Effect) → c.beyond ≡ None → others_of c ≡ []
no_others c alone = ap (λ o. others_of (record c { beyond = o })) alone

-- it was taken
pub record Alone (old : Course) (r : Record) (s : Store) : Type 0 where
  pub is : IsRecord (program_at old.store) (contents_at old.store) r (contents_at s)
  pub alone : r.change.beyond ≡ None
  pub keeps : KeepsStatus r.change.own
  pub run : stores.IsRun s
  pub listing : SameListing old.store s

module _ (p : Program) (w : Past p) (old : Course) (s : Holds p w old) (r : Record) (q : Store) (taken : Alone old r q) where
  here : IsRecord p (contents_at old.store) r (contents_at q)
  here = subst (λ x. IsRecord x (contents_at old.store) r (contents_at q)) s.program taken.is

  -- its goroutine was ready, and is so still
  settled : Settles (r.id.go ∷ others_of r.change) (contents_at q) old.pool old.pool
  settled =
      subst (λ ns. Settles (r.id.go ∷ ns) (contents_at q) old.pool old.pool) (sym (no_others r.change taken.alone))
      (settles_still (contents_at q) r.id.go old.pool
      (own_stays_ready p (contents_at old.store) (contents_at q) r here (ap (is_among r.id.go) (no_others r.change taken.alone)) taken.keeps)
      (own_in_pool p w old s r (contents_at q) here).1)

  followed : Follows r (contents_at q) old.pool old.pool
  followed =
      let child : AllKnown (option_to_list (begun_by r.change)) old.pool = λ n among. absurd (true_not_false (sym (ap (λ o. is_among n (option_to_list o)) (none_begun r.change taken.alone)) ∙ among) refl) in
      follows r (contents_at q) old.pool old.pool old.pool (λ n k. k) refl
      (met_in_pool p w old s r (contents_at q) here old.pool (λ n k. k) child) child settled

  joins : (told : Stepped) (new : Course) → IsLast r told (record old { store = q }) new → Keeps p w (event_of r) told new
  joins told new last = keeps p w old new r told last.tells s (record {
    is = subst (λ x. IsRecord (program_at old.store) (contents_at old.store) r (contents_at x)) (sym last.store) taken.is;
    run = subst stores.IsRun (sym last.store) taken.run;
    listing = subst (SameListing old.store) (sym last.store) taken.listing;
    follows = subst (λ x. Follows r (contents_at x) old.pool new.pool) (sym last.store)
        (subst (λ x. Follows r (contents_at q) old.pool x) (sym last.pool) followed);
    log = last.records;
    short = last.short;
    first = last.first;
  })

  goes_back : (new : Course) → IsTakenBack r (record old { store = q }) new → Holds p w new
  goes_back new back =
      let same = back.contents ∙ here.takes.back in
      stays p w old new s (record {
        listing = back.listing ∙ taken.listing;
        contents = same;
        records = back.records;
        pool = λ has. ready_still old.pool new.pool (contents_at old.store) (contents_at new.store) has same
            (λ n k. ap (λ (x : pools.Goroutines). is_among n x.known) back.pool ∙ k) (ap (λ (x : pools.Goroutines). x.ready) back.pool);
        first = back.first;
      })

  pub joined_or_not : (e : Event) (result : Result Stepped StepRefused) (new : Course) → event_of r ≡ e
      → Joined (record old { store = q }) r result new → Kept p w e result new
  joined_or_not e (Ok told) new same joined = subst (λ x. Keeps p w x told new) same (joins told new joined)
  joined_or_not e (Err why) new same joined =
      subst (λ x. Kept p w e (Err x) new) (sym joined.0) (
        subst (λ x. refusal p w.state x ≡ None) same (record_is_allowed p w old r (contents_at q) s taken.is),
        goes_back new joined.1,
      )

-- a step that joined counts, and one that was taken back for memory does too
pub may_count : (old : Course) (r : Record) (result : Result Stepped StepRefused) (new : Course) (n : ℕ) → Joined old r result new
    → taken_at new.store ≡ one_more n → IfErr result (λ why. MayCount why n (taken_at new.store))
may_count old r (Ok told) new n joined at = tt
may_count old r (Err why) new n joined at = inr (joined.0, at)

-- a step that did not join leaves the contents from which it was taken
pub same_contents : (old : Course) (q : Store) (r : Record) (result : Result Stepped StepRefused) (new : Course)
    → taken_back r.id.go r.change (contents_at q) ≡ contents_at old.store → Joined (record old { store = q }) r result new
    → OnErr result (contents_at new.store ≡ contents_at old.store)
same_contents old q r (Ok told) new back joined = tt
same_contents old q r (Err why) new back joined = joined.1.contents ∙ back

-- where the store has not changed, nothing has
pub nothing_taken : (p : Program) (w : Past p) (old : Course) (q : Store) → Holds p w old → SameListing old.store q → contents_at q ≡ contents_at old.store
    → Holds p w (record old { store = q })
nothing_taken p w old q s listing same = stays p w old (record old { store = q }) s (record {
  listing = listing;
  contents = same;
  records = refl;
  pool = λ has. ready_still old.pool old.pool (contents_at old.store) (contents_at q) has same (λ n k. k) refl;
  first = refl;
})
