use Rattle.std.proofs.Common.{◌≡◌, ◌<◌, ◌≤◌, length, get_or, subst}
use Rattle.gr_exprs.proofs.Scopes.{numbered_at, numbered_past}
use Rattle.gr_exprs.proofs.scope.Scope.type_of.Goals as goal

pub returns-in-Some : goal.returns-in-Some
returns-in-Some c =
    let same = c.deref.ensures.value in
    let v = c.in-Some.variable.now in
    let k = c.args.number in
    let found = c.in-Some.ensures.lookup in
    numbered_at c.args.self.now.variables.items k v (subst (λ l. k < length l) same found.3.0) (subst (λ l. v ≡ get_or l k v) same found.1)

pub returns-in-None : goal.returns-in-None
returns-in-None c =
    let k = c.args.number in
    numbered_past c.args.self.now.variables.items k (subst (λ l. length l ≤ k) c.deref.ensures.value c.in-None.ensures.lookup.3)
