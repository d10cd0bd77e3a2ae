use Rattle.std.proofs.Common.{refl}
use Rattle.gr_rules.specs.Operators.{same_channel}
use Rattle.gr_rules.specs.States.{same_go}
use Rattle.gr_laws.proofs.CellLemmas.{go_is, go_self, channel_is, channel_self}
use Rattle.gr_step.specs.Stores.{contents_at, program_at, state_at}
use Rattle.gr_explore.specs.Books.{Describes, channel_seen, channel_view, goroutine_view}
use Rattle.gr_explore.specs.Keeping.{channel_page, goroutine_page}
use Rattle.gr_explore.specs.declared.book.Book.{Book}
use Rattle.gr_explore.proofs.PageLemmas.{fit_renewed, on_three}
use Rattle.gr_explore.proofs.book.Book.renew.Goals as goal

pub returns-clause-fits : goal.returns-clause-fits
returns-clause-fits c d =
    let p = program_at c.args.store.now in
    let s = state_at c.args.store.now in
    let new : Book = record { goroutines = c.renew.new.self; channels = c.renew-2.new.self; is_whole = c.args.self.now.is_whole } in
    on_three {S = Describes p s new} c.renew-2.result (λ names pages none. record {
      goroutines = fit_renewed same_go go_is go_self goroutine_page (goroutine_view p) c.args.self.now.goroutines c.renew.new.self s.goroutines (contents_at c.args.store.now).goroutines (λ n. refl)
          c.in_ok-renew.ensures.names c.in_ok-renew.ensures.pages c.in_ok-renew.ensures.none d.goroutines;
      channels = fit_renewed same_channel channel_is channel_self channel_page channel_view c.args.self.now.channels c.renew-2.new.self (channel_seen s) (contents_at c.args.store.now).channels (λ n. refl)
          names pages none d.channels;
    }) c.renew-2.ensures.names c.renew-2.ensures.pages c.renew-2.ensures.none
