-- What remains of a function within bounds leads to points within them.
use Rattle.std.proofs.Common.{ℕ, zero, suc, List, Option, Some, None}
use Rattle.gr_scan.specs.declared.token.Place.{Place}
use Rattle.gr_program.specs.Programs as program
use Rattle.gr_program.specs.Programs.{Expr, Act, Opening, Opens, Stmt, Does, Block, If, For, Stmts, stop, then, Cases, Program}
use Rattle.gr_rules.specs.Points.{Rest, closing, following, looping, ranging, chosen, Point, onto, outside, next_turn, going_on, act_at, opened, turn, first_of, first_in, point_after}
use Rattle.gr_may.specs.Uses.{Uses, Usage}
use Rattle.gr_may.specs.Demands.{ActFits, OpeningFits, StmtFits, StmtsFit, RestFits, PointFits}
use Rattle.gr_may.proofs.Given.{IfSome, there, absent, some_or, some_else}
use Rattle.gr_may.proofs.FitValues.{literal_shared}

module _ (p : Program) (usage : Usage) (n : List ℕ) (uses : ℕ → Uses) (function : ℕ) where
  abbrev R : Rest → Type 0
  R rest = RestFits p usage n uses function rest

  abbrev S : Stmt → Type 0
  S s = StmtFits p usage n uses function s

  abbrev Ss : Stmts → Type 0
  Ss ss = StmtsFit p usage n uses function ss

  abbrev P : Point → Type 0
  P here = PointFits p usage n uses function here

  abbrev Opened : Option Opening → Type 0
  Opened init = OpeningFits p usage n uses function init

  pub onto_fits : (ss : Stmts) (rest : Rest) → Ss ss → R rest → R (onto ss rest)
  onto_fits stop rest h r = r
  onto_fits (then s ss) rest h r = (h, r)

  outside_fits : (k : ℕ) (rest : Rest) → R rest → IfSome R (outside k rest)
  outside_fits k (closing place) r = absent
  outside_fits k (following ss rest) r = outside_fits k rest r.1
  outside_fits zero (looping again rest) r = there r.1
  outside_fits (suc k) (looping again rest) r = outside_fits k rest r.1
  outside_fits zero (ranging place target channel body rest) r = there r.2
  outside_fits (suc k) (ranging place target channel body rest) r = outside_fits k rest r.2
  outside_fits zero (chosen clause rest) r = there r
  outside_fits (suc k) (chosen clause rest) r = outside_fits k rest r

  turn_found : (k : ℕ) (rest : Rest) → R rest → IfSome R (next_turn k rest)
  turn_found k (closing place) r = absent
  turn_found k (following ss rest) r = turn_found k rest r.1
  turn_found zero (looping again rest) r = there r
  turn_found (suc k) (looping again rest) r = turn_found k rest r.1
  turn_found zero (ranging place target channel body rest) r = there r
  turn_found (suc k) (ranging place target channel body rest) r = turn_found k rest r.2
  turn_found zero (chosen clause rest) r = absent
  turn_found (suc k) (chosen clause rest) r = turn_found k rest r

  goes_there : (place : Place) (o : Option Rest) → IfSome R o → P (going_on place o)
  goes_there place (Some rest) (there r) = record { operands = tt; work = tt; rest = r }
  goes_there place None absent = record { operands = tt; work = tt; rest = tt }

  pub act_fits : (place : Place) (act : Act) (rest : Rest) → ActFits p usage n uses function place act → R rest → P (act_at place act rest)
  act_fits place (program.Assign targets values) rest h r = record { operands = h; work = tt; rest = r }
  act_fits place (program.AssignReceive value ok channel initial) rest h r = record { operands = h; work = literal_shared usage initial; rest = r }
  act_fits place (program.Update variable op value) rest h r = record { operands = h; work = tt; rest = r }
  act_fits place (program.Eval value) rest h r = record { operands = h; work = tt; rest = r }
  act_fits place (program.Close channel) rest h r = record { operands = h; work = tt; rest = r }
  act_fits place (program.Print values) rest h r = record { operands = h; work = tt; rest = r }
  act_fits place (program.Send channel value) rest h r = record { operands = h; work = tt; rest = r }
  act_fits place (program.Go k arguments) rest h r = record { operands = h; work = tt; rest = r }
  act_fits place (program.Return value) rest h r = record { operands = h; work = tt; rest = r }
  act_fits place (program.Break depth) rest h r = goes_there place (outside depth rest) (outside_fits depth rest r)
  act_fits place (program.Continue depth) rest h r = goes_there place (next_turn depth rest) (turn_found depth rest r)

  opened_fits : (init : Option Opening) (s : Stmt) (here : Point) (rest : Rest) → Opened init → S s → R rest → P here → P (opened init s here rest)
  opened_fits None s here rest o h r t = t
  opened_fits (Some (Opens place act)) s here rest o h r t = act_fits place act (following (then s stop) rest) o ((h, tt), r)

  pub turn_fits : (post : Option Opening) (s : Stmt) → Opened post → S s → Ss (turn post s)
  turn_fits None s o h = (h, tt)
  turn_fits (Some (Opens place act)) s o h = (o, (h, tt))

  for_fits : (place : Place) (init : Option Opening) (condition : Option Expr) (post : Option Opening) (body : Stmts) (rest : Rest)
      → S (For place init condition post body) → R rest → IfSome P (first_of (For place init condition post body) rest)
  for_fits place init None post body rest h r =
      let again : S (For place None None post body) = (tt, h.1, h.2, h.3) in
      there (opened_fits init (For place None None post body) _ rest h.0 again r
      (record { operands = (tt, tt); work = onto_fits body (looping (turn post (For place None None post body)) rest) h.3 (turn_fits post (For place None None post body) h.2 again, r); rest = r }))
  for_fits place init (Some e) post body rest h r =
      let again : S (For place None (Some e) post body) = (tt, h.1, h.2, h.3) in
      there (opened_fits init (For place None (Some e) post body) _ rest h.0 again r
      (record { operands = (h.1, tt); work = onto_fits body (looping (turn post (For place None (Some e) post body)) rest) h.3 (turn_fits post (For place None (Some e) post body) h.2 again, r); rest = r }))

  mutual
    stmt_fits : (s : Stmt) (rest : Rest) → S s → R rest → IfSome P (first_of s rest)
    stmt_fits (Does place act) rest h r = there (act_fits place act rest h r)
    stmt_fits (Block body) rest h r = stmts_fit body rest h r
    stmt_fits (If place init condition body otherwise) rest h r =
        there (opened_fits init (If place None condition body otherwise) _ rest h.0 (tt, h.1, h.2, h.3) r
        (record { operands = (h.1, tt); work = onto_fits body rest h.2 r; rest = onto_fits otherwise rest h.3 r }))
    stmt_fits (For place init condition post body) rest h r = for_fits place init condition post body rest h r
    stmt_fits (program.Range place target channel body) rest h r = there (record { operands = (h.0, tt); work = h.1; rest = r })
    stmt_fits (program.Select place cases) rest h r = there (record { operands = h.0; work = h.1; rest = r })

    stmts_fit : (ss : Stmts) (rest : Rest) → Ss ss → R rest → IfSome P (first_in ss rest)
    stmts_fit stop rest h r = absent
    stmts_fit (then s ss) rest h r = some_or (stmt_fits s (onto ss rest) h.0 (onto_fits ss rest h.1 r)) (stmts_fit ss rest h.1 r)

  -- where a frame stands next
  pub after_fits : (rest : Rest) → R rest → P (point_after rest)
  after_fits (closing place) r = record { operands = tt; work = tt; rest = tt }
  after_fits (following ss rest) r = some_else {P = P} (stmts_fit ss rest r.0 r.1) (after_fits rest r.1)
  after_fits (looping again rest) r = some_else {P = P} (stmts_fit again rest r.0 r.1) (after_fits rest r.1)
  after_fits (ranging place target channel body rest) r = record { operands = (r.0, tt); work = r.1; rest = r.2 }
  after_fits (chosen clause rest) r = after_fits rest r
