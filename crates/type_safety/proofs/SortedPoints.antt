-- What remains of a body leads to points whose work has sorts.
use Rattle.std.proofs.Common.{◌≡◌, ℕ, zero, suc, Bool, true, false, List, ◌∷◌, Option, Some, None, refl, sym, ◌∙◌, ap, subst}
use Rattle.std.specs.Prelude.{slice_get}
use Rattle.gr_scan.specs.declared.token.Place.{Place}
use Rattle.gr_program.specs.Programs.{Act, Opening, Stmt, If, For, Stmts, stop, then, Cases}
use Rattle.gr_rules.specs.Operands.{Operand, Operands}
use Rattle.std.specs.Option.{option_or}
use Rattle.std.specs.Prelude.{unwrap_or}
use Rattle.gr_rules.specs.Points.{Rest, following, looping, Point, onto, outside, next_turn, going_on, act_at, opened, turn, first_of, first_in, point_after}
use Rattle.type_safety.proofs.Sorts.{Sort, Made, nothing_made, More, Setting, SortedOperand, SortedOperands, Sub}
use Rattle.type_safety.proofs.Bodies as bodies
use Rattle.type_safety.proofs.Bodies.{Nest, Loops, Chooses, goes_on_after, SortedAct, assigns, assigns_receive, updates, receives, calls, prints, sends, goes, returns, returns_value, breaks, continues, after_act, after_opening, after_stmt, SortedOpening, no_opening, opening, SortedStmt, SortedStmts, no_stmt, one_stmt, ends, SortedClauses, no_clause, default_clause, send_clause, receive_clause}
use Rattle.type_safety.proofs.Running as running
use Rattle.type_safety.proofs.Running.{SortedRest, closes, follows, loops, ranges, chooses, SortedWork}
use Rattle.type_safety.proofs.SortedValues.{sort_more, operand_more, operands_more}
use Rattle.type_safety.proofs.SortedWider.{sub_self, sub_trans, act_keeps, opening_keeps, stmt_keeps, stmt_wide}

pub no_more : (made : Made) → More nothing_made made
no_more made c k e = let f : None ≡ Some k = e in absurd cc

module _ (d : Setting) (made : Made) where
  -- a rest may be come to with more variables that hold values, and where control does not come
  pub rest_at : {nests : List Nest} {live : List ℕ} {z : Bool} {rest : Rest} (more : List ℕ) (y : Bool)
      → Sub live more → (y ≡ true → z ≡ true) → SortedRest d made nests live z rest
      → SortedRest d made nests more y rest
  rest_at more y s u (closes r) = closes (λ e. r (u e))
  rest_at more y s u (follows {live = live} first t ss a rest) =
      follows first (sub_trans first live more t s) (λ e. ss (u e)) a rest
  rest_at more y s u (loops {live = live} first t ss a rest) = loops first (sub_trans first live more t s) ss a rest
  rest_at more y s u (ranges {live = live} first t h targets body a rest) =
      ranges first (sub_trans first live more t s) h targets body a rest
  rest_at more y s u (chooses {live = live} {after = after} g t rest) =
      chooses (λ e. g (u e)) (sub_trans after live more t s) rest

  pub onto_sorted : {nests : List Nest} {ss : Stmts} {z : Bool} (live after more : List ℕ) (y : Bool) (rest : Rest)
      → Sub live more → Sub after live → SortedStmts d nests live ss z → SortedRest d made nests after z rest
      → SortedRest d made nests more y (onto ss rest)
  onto_sorted live after more y rest s t no_stmt r = rest_at more y (sub_trans after live more t s) (λ e. refl) r
  onto_sorted live after more y rest s t (one_stmt h hs) r = follows live s (λ e. one_stmt h hs) t r
  onto_sorted live after more y rest s t (ends h) r = follows live s (λ e. ends h) t r

  -- there is a rest that control comes to, with some nests and variables of those that hold values here
  pub record Beyond (live : List ℕ) (o : Option Rest) : Type 0 where
    pub rest : Rest
    pub there : o ≡ Some rest
    pub nests : List Nest
    pub holding : List ℕ
    pub sub : Sub holding live
    pub sorted : SortedRest d made nests holding true rest

  beyond_more : (live more : List ℕ) (o : Option Rest) → Sub live more → Beyond live o → Beyond more o
  beyond_more live more o s b =
      record { rest = b.rest; there = b.there; nests = b.nests; holding = b.holding; sub = sub_trans (b.holding) live more (b.sub) s; sorted = b.sorted }

  -- `break`: past a nest after which control may go on
  pub outside_beyond : (nests : List Nest) (live : List ℕ) (z : Bool) (rest : Rest) (depth : ℕ) (n : Nest)
      → SortedRest d made nests live z rest → slice_get nests depth ≡ Some n → goes_on_after n ≡ true
      → Beyond live (outside depth rest)
  outside_beyond _ live z _ depth n (closes r) e g = let f : None ≡ Some n = e in absurd cc
  outside_beyond _ live z _ depth n (follows {nests} {after = after} {y = y} {rest = rest} first t ss a r) e g =
      beyond_more after live _ (sub_trans after first live a t) (outside_beyond nests after y rest depth n r e g)
  outside_beyond _ live z _ zero n (loops {nests} {after = after} {y = y} {rest = rest} first t ss a r) e g =
      let f : Some (Loops y) ≡ Some n = e in
      let m : Loops y ≡ n = cc in
      record { rest = _; there = refl; nests = nests; holding = after; sub = sub_trans after first live a t; sorted = rest_at after true (sub_self after) (λ q. ap goes_on_after m ∙ g) r }
  outside_beyond _ live z _ (suc depth) n (loops {nests} {after = after} {y = y} {rest = rest} first t ss a r) e g =
      beyond_more after live _ (sub_trans after first live a t) (outside_beyond nests after y rest depth n r e g)
  outside_beyond _ live z _ zero n (ranges {nests} {after = after} first t h targets body a r) e g =
      record { rest = _; there = refl; nests = nests; holding = after; sub = sub_trans after first live a t; sorted = r }
  outside_beyond _ live z _ (suc depth) n (ranges {nests} {after = after} {rest = rest} first t h targets body a r) e g =
      beyond_more after live _ (sub_trans after first live a t) (outside_beyond nests after true rest depth n r e g)
  outside_beyond _ live z _ zero n (chooses {nests} {after = after} {y = y} u t r) e g =
      let f : Some (Chooses y) ≡ Some n = e in
      let m : Chooses y ≡ n = cc in
      record { rest = _; there = refl; nests = nests; holding = after; sub = t; sorted = rest_at after true (sub_self after) (λ q. ap goes_on_after m ∙ g) r }
  outside_beyond _ live z _ (suc depth) n (chooses {nests} {after = after} {y = y} {rest = rest} u t r) e g =
      beyond_more after live _ t (outside_beyond nests after y rest depth n r e g)

  -- `continue`: to the end of the body of a for
  pub turn_beyond : (nests : List Nest) (live : List ℕ) (z : Bool) (rest : Rest) (depth : ℕ) (b : Bool)
      → SortedRest d made nests live z rest → slice_get nests depth ≡ Some (Loops b)
      → Beyond live (next_turn depth rest)
  turn_beyond _ live z _ depth b (closes r) e = let f : None ≡ Some (Loops b) = e in absurd cc
  turn_beyond _ live z _ depth b (follows {nests} {after = after} {y = y} {rest = rest} first t ss a r) e =
      beyond_more after live _ (sub_trans after first live a t) (turn_beyond nests after y rest depth b r e)
  turn_beyond _ live z _ zero b (loops {nests} {y = y} first t ss a r) e =
      record { rest = _; there = refl; nests = Loops y ∷ nests; holding = live; sub = sub_self live; sorted = loops first t ss a r }
  turn_beyond _ live z _ (suc depth) b (loops {nests} {after = after} {y = y} {rest = rest} first t ss a r) e =
      beyond_more after live _ (sub_trans after first live a t) (turn_beyond nests after y rest depth b r e)
  turn_beyond _ live z _ zero b (ranges {nests} first t h targets body a r) e =
      record { rest = _; there = refl; nests = Loops true ∷ nests; holding = live; sub = sub_self live; sorted = ranges first t h targets body a r }
  turn_beyond _ live z _ (suc depth) b (ranges {nests} {after = after} {rest = rest} first t h targets body a r) e =
      beyond_more after live _ (sub_trans after first live a t) (turn_beyond nests after true rest depth b r e)
  turn_beyond _ live z _ zero b (chooses {y = y} u t r) e =
      let f : Some (Chooses y) ≡ Some (Loops b) = e in absurd cc
  turn_beyond _ live z _ (suc depth) b (chooses {nests} {after = after} {y = y} {rest = rest} u t r) e =
      beyond_more after live _ t (turn_beyond nests after y rest depth b r e)

  -- the work of a point, by variables of those that hold values here
  pub record Stands (live : List ℕ) (p : Point) : Type 0 where
    pub holding : List ℕ
    pub sub : Sub holding live
    pub work : SortedWork d made holding p.work p.operands p.rest

  pub stands_more : (live more : List ℕ) (p : Point) → Sub live more → Stands live p → Stands more p
  stands_more live more p s b =
      record { holding = b.holding; sub = sub_trans (b.holding) live more (b.sub) s; work = b.work }

  stands : (live : List ℕ) (p : Point) → SortedWork d made live p.work p.operands p.rest → Stands live p
  stands live p w = record { holding = live; sub = sub_self live; work = w }

  written : (live : List ℕ) {t : Operand} {k : Sort} → SortedOperand d nothing_made live t k
      → SortedOperand d made live t k
  written live t = operand_more nothing_made made (no_more made) d live t

  all_written : (live : List ℕ) {ts : Operands} {ks : List Sort} → SortedOperands d nothing_made live ts ks
      → SortedOperands d made live ts ks
  all_written live {ts = ts} {ks = ks} h = operands_more d nothing_made made live ts ks (no_more made) h

  clauses_written : {nests : List Nest} {z : Bool} {cases : Cases} {operands : Operands} (live : List ℕ)
      → SortedClauses d nothing_made nests live z cases operands → SortedClauses d made nests live z cases operands
  clauses_written live no_clause = no_clause
  clauses_written live (default_clause body others) = default_clause body (clauses_written live others)
  clauses_written live (send_clause c e body others) =
      send_clause (written live c) (written live e) body (clauses_written live others)
  clauses_written live (receive_clause c h targets body others) =
      receive_clause (written live c) h targets body (clauses_written live others)

  -- `break` and `continue`
  goes_beyond : (live : List ℕ) (place : Place) (o : Option Rest) → Beyond live o → Stands live (going_on place o)
  goes_beyond live place o b = subst (λ o. Stands live (going_on place o)) (sym b.there)
      (record { holding = b.holding; sub = b.sub; work = running.continues (b.sorted) })

  pub act_stands : {live : List ℕ} (nests : List Nest) (place : Place) (a : Act) (z : Bool) (rest : Rest)
      → SortedAct d nests live a z → SortedRest d made nests (after_act a live) z rest
      → Stands live (act_at place a rest)
  act_stands {live} nests place a z rest (assigns targets ps) r =
      stands live _ (running.assigns targets (all_written live ps) r)
  act_stands {live} nests place a z rest (assigns_receive c h targets) r =
      stands live _ (running.assigns_receive (written live c) (sort_more nothing_made made (no_more made) h) targets r)
  act_stands {live} nests place a z rest (updates e i o p) r =
      stands live _ (running.updates e i o (written live p) r)
  act_stands {live} nests place a z rest (receives p) r = stands live _ (running.evaluates refl (written live p) r)
  act_stands {live} nests place a z rest (calls p) r = stands live _ (running.evaluates refl (written live p) r)
  act_stands {live} nests place a z rest (bodies.closes c) r = stands live _ (running.closes (written live c) r)
  act_stands {live} nests place a z rest (prints pieces ps) r =
      stands live _ (running.prints pieces (all_written live ps) r)
  act_stands {live} nests place a z rest (sends c p) r =
      stands live _ (running.sends (written live c) (written live p) r)
  act_stands {live} nests place a z rest (goes e ps) r = stands live _ (running.goes e (all_written live ps) r)
  act_stands {live} nests place a z rest (returns e) r = stands live _ (running.returns e)
  act_stands {live} nests place a z rest (returns_value e p) r =
      stands live _ (running.returns_value e (written live p))
  act_stands {live} nests place a z rest (breaks {depth} {n} e g) r =
      goes_beyond live place (outside depth rest) (outside_beyond nests live z rest depth n r e g)
  act_stands {live} nests place a z rest (continues {depth} {b = b} e) r =
      goes_beyond live place (next_turn depth rest) (turn_beyond nests live z rest depth b r e)

  -- what the first point of statements is, if they have one; if they have none, control may go on after them
  abbrev pub Reaches : List ℕ → List ℕ → Bool → Option Point → Type 0
  Reaches live after z None = (z ≡ true) × Sub after live
  Reaches live after z (Some p) = Stands live p

  alone : {nests : List Nest} {live : List ℕ} {s : Stmt} (z : Bool) → SortedStmt d nests live s z
      → SortedStmts d nests live (then s stop) z
  alone true h = one_stmt h no_stmt
  alone false h = ends h

  unreached : (nests : List Nest) (live after : List ℕ) (ss : Stmts) (z : Bool) (rest : Rest)
      → Sub after live → SortedRest d made nests after z rest → SortedRest d made nests live false (onto ss rest)
  unreached nests live after stop z rest s r = rest_at live false s (λ e. let f : false ≡ true = e in absurd cc) r
  unreached nests live after (then t ss) z rest s r =
      follows {y = z} live (sub_self live) (λ e. let f : false ≡ true = e in absurd cc) s r

  or_next : (live after : List ℕ) (z : Bool) (o p : Option Point) → Reaches live after true o
      → Reaches after after z p → Reaches live live z (option_or o p)
  or_next live after z (Some p) q h g = h
  or_next live after z None (Some p) h g = stands_more after live p (h.1) g
  or_next live after z None None h g = (g.0, sub_self live)

  or_never : (live after : List ℕ) (z : Bool) (o p : Option Point) → Reaches live after false o
      → Reaches live live z (option_or o p)
  or_never live after z (Some p) q h = h
  or_never live after z None q h = let f : false ≡ true = h.0 in absurd cc

  opened_stands : {nests : List Nest} {live : List ℕ} {init : Option Opening} (s : Stmt) (z : Bool) (test : Point)
      (rest : Rest)
      → SortedOpening d nests live init → SortedStmt d nests (after_opening init live) s z
      → SortedRest d made nests live z rest
      → Stands (after_opening init live) test → Stands live (opened init s test rest)
  opened_stands s z test rest no_opening h r t = t
  opened_stands {nests} {live} s z test rest (opening {place} {act} a) h r t =
      act_stands nests place act true (following (then s stop) rest) a
      (follows (after_act act live) (sub_self (after_act act live)) (λ e. alone z h) (act_keeps act live) r)

  turn_sorted : {nests : List Nest} {live : List ℕ} {post : Option Opening} (s : Stmt) (z : Bool)
      → SortedOpening d nests live post → SortedStmt d nests live s z → SortedStmts d nests live (turn post s) z
  turn_sorted s z no_opening h = alone z h
  turn_sorted {live = live} s z (opening {place} {act} a) h =
      one_stmt (bodies.does a) (alone z (stmt_wide d (after_act act live) (act_keeps act live) h))

  mutual
    stmt_reaches : {nests : List Nest} {live : List ℕ} {s : Stmt} {z : Bool} (rest : Rest)
        → SortedStmt d nests live s z → SortedRest d made nests (after_stmt s live) z rest
        → Reaches live (after_stmt s live) z (first_of s rest)
    stmt_reaches {z = z} rest (bodies.does {nests} {live} {place} {act} a) r = act_stands nests place act z rest a r
    stmt_reaches rest (bodies.block {live = live} body) r = stmts_reaches live rest body (sub_self live) r
    stmt_reaches rest (bodies.if {nests} {live} {place} {init} {condition} {body} {otherwise} {z} o c b e) r =
        let here : List ℕ = after_opening init live in
        opened_stands (If place None condition body otherwise) z _ rest o (bodies.if no_opening c b e) r
        (stands here _ (running.tests (written here c)
        (onto_sorted here live here true rest (sub_self here) (opening_keeps init live) b r)
        (onto_sorted here live here true rest (sub_self here) (opening_keeps init live) e r)))
    stmt_reaches rest (bodies.endless {nests} {live} {place} {init} {post} {body} {z} o p b) r =
        let here : List ℕ = after_opening init live in
        let again : Stmt = For place None None post body in
        let h : SortedStmt d nests here again z = bodies.endless no_opening p b in
        let l : SortedRest d made (Loops z ∷ nests) here true (looping (turn post again) rest) =
        loops here (sub_self here) (turn_sorted again z p h) (opening_keeps init live) r in
        opened_stands again z _ rest o h r
        (stands here _ (running.holds (onto_sorted here here here true _ (sub_self here) (sub_self here) b l)))
    stmt_reaches rest (bodies.for {nests} {live} {place} {init} {post} {condition} {body} o c p b) r =
        let here : List ℕ = after_opening init live in
        let again : Stmt = For place None (Some condition) post body in
        let h : SortedStmt d nests here again true = bodies.for no_opening c p b in
        let l : SortedRest d made (Loops true ∷ nests) here true (looping (turn post again) rest) =
        loops here (sub_self here) (turn_sorted again true p h) (opening_keeps init live) r in
        opened_stands again true _ rest o h r
        (stands here _ (running.tests (written here c)
        (onto_sorted here here here true _ (sub_self here) (sub_self here) b l)
        (rest_at here true (opening_keeps init live) (λ e. e) r)))
    stmt_reaches rest (bodies.range {live = live} c targets b) r =
        stands live _ (running.ranges (written live c) targets b r)
    stmt_reaches rest (bodies.select {live = live} clauses) r =
        stands live _ (running.selects (clauses_written live clauses) r)

    stmts_reaches : {nests : List Nest} {live : List ℕ} {ss : Stmts} {z : Bool} (after : List ℕ) (rest : Rest)
        → SortedStmts d nests live ss z → Sub after live → SortedRest d made nests after z rest
        → Reaches live live z (first_in ss rest)
    stmts_reaches after rest (no_stmt {live = live}) s r = (refl, sub_self live)
    stmts_reaches after rest (one_stmt {nests} {live} {s = t} {ss} {z} h hs) s r =
        let mid : List ℕ = after_stmt t live in
        let wide : Sub after mid = sub_trans after live mid s (stmt_keeps t live) in
        or_next live mid z _ _ (stmt_reaches (onto ss rest) h (onto_sorted mid after mid true rest (sub_self mid) wide hs r)) (stmts_reaches after rest hs wide r)
    stmts_reaches after rest (ends {nests} {live} {s = t} {ss} {z} h) s r =
        let mid : List ℕ = after_stmt t live in
        or_never live mid z _ _ (stmt_reaches (onto ss rest) h (unreached nests mid after ss z rest (sub_trans after live mid s (stmt_keeps t live)) r))

  then_after : (live after : List ℕ) (y : Bool) (rest : Rest) (o : Option Point)
      → Reaches live live y o → Sub after live → (y ≡ true → Stands after (point_after rest))
      → Stands live (unwrap_or o (point_after rest))
  then_after live after y rest (Some p) h s k = h
  then_after live after y rest None h s k = stands_more after live _ s (k (h.0))

  -- where a frame stands next
  pub after_stands : {nests : List Nest} {live : List ℕ} {z : Bool} {rest : Rest}
      → SortedRest d made nests live z rest → z ≡ true → Stands live (point_after rest)
  after_stands (closes {live = live} r) e = stands live _ (running.returns (r e))
  after_stands (follows {live = live} {after = after} {y = y} {rest = rest} first t ss a r) e =
      stands_more first live _ t (then_after first after y rest _ (stmts_reaches after rest (ss e) a r) a (after_stands r))
  after_stands (loops {live = live} {after = after} {y = y} {rest = rest} first t ss a r) e =
      stands_more first live _ t (then_after first after y rest _ (stmts_reaches after rest ss a r) a (after_stands r))
  after_stands (ranges {live = live} first t h targets body a r) e =
      stands_more first live _ t (stands first _ (running.turns h targets body (rest_at first true a (λ q. q) r)))
  after_stands (chooses {live = live} {after = after} u t r) e = stands_more after live _ t (after_stands r (u e))
