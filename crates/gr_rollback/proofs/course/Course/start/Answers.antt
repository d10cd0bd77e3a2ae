use Rattle.std.proofs.Common.{◌≡◌, true, [], ◌∷◌, ◌∙◌, ap, subst}
use Rattle.gr_pool.specs.Goroutines as pools
use Rattle.gr_pool.specs.Goroutines.{is_among, with_name}
use Rattle.gr_program.specs.Views.{program_of}
use Rattle.gr_step.specs.Stores.{IsStart}
use Rattle.gr_rollback.proofs.StartLemmas.{stands_first}
use Rattle.gr_rollback.proofs.course.Course.start.Goals as goal

pub returns : goal.returns
returns c =
    let known : is_among [] c.insert.new.self.known ≡ true = ap (is_among []) c.insert.ensures.known
    ∙ subst (λ n. is_among n c.know.new.self.known ≡ true) c.in_ok-first.ensures c.in_ok-know.ensures.there in
    let empty : c.know.new.self.ready ≡ [] = c.in_ok-know.ensures.ready ∙ ap (λ (g : pools.Goroutines). g.ready) c.new-pool.ensures in
    let only : c.insert.new.self.ready ≡ [] ∷ [] = c.insert.ensures.ready ∙ ap (λ n. with_name n c.know.new.self.ready) c.in_ok-first.ensures
    ∙ ap (with_name []) empty in
    stands_first (program_of c.args.program) _ (subst (λ q. IsStart (program_of q) c.in_ok-store.store) c.in_ok-program.ensures.ok c.in_ok-store.ensures)
    c.new-2.ensures known only c.in_ok-first.ensures
