-- What remains of a statement: the channels of the ranges around it stand in temporaries below a number, all else in variables.
use Rattle.std.proofs.Common.{◌≡◌, ◌≤◌, ℕ, List, [], ◌∷◌, Option, Some, None, refl, sym, ap}
use Rattle.std.specs.Prelude.{unwrap_or}
use Rattle.std.specs.Option.{option_or}
use Rattle.gr_scan.specs.declared.token.Place.{Place}
use Rattle.gr_base.specs.declared.values.Value.{Value}
use Rattle.gr_program.specs.Programs as program
use Rattle.gr_program.specs.Programs.{Expr, Exprs, none, more, Printed, PrintExpr, PrintText, Act, Opening, Opens, Stmt, Does, Block, If, For, Stmts, stop, then, Cases, no_case, default_case, send_case, receive_case}
use Rattle.gr_rules.specs.Operands.{Operands, operand_of, operands_of}
use Rattle.gr_rules.specs.Points.{Rest, closing, following, looping, ranging, chosen, Point, onto, outside, next_turn, going_on, act_at, opened, printed_operands, case_operands, first_of, first_in, point_after}
use Rattle.gr_code.specs.Filling.{Temporaries, with_value, fill_rest, Clear, ClearAll}
use Rattle.gr_code.specs.Bounds.{Below, AllBelow, OpeningBelow, FirstBelow, EachFirstBelow, RestBelow}
use Rattle.gr_code.specs.Code.{Meanings, Continues}
use Rattle.gr_code.proofs.Plugs.{unset}
use Rattle.gr_code.proofs.Remaining.{point_after_fill}
use Rattle.gr_lower.specs.Sizes.{tested}
use Rattle.gr_lower.specs.CanLower.{CanOpen, CanDo, CanDoAll, CanDoCases}
use Rattle.gr_lower.proofs.Bounded.{wider}

abbrev pub Kept : ℕ → Rest → Type 0
Kept d (closing place) = Unit {0}
Kept d (following ss rest) = Kept d rest
Kept d (looping again rest) = Kept d rest
Kept d (ranging place target channel body rest) = Below d channel × ((ts : Temporaries) → Clear ts channel) × Kept d rest
Kept d (chosen clause rest) = Kept d rest

-- what is named in what remains
pub record Good (n d : ℕ) (rest : Rest) : Type 0 where
  pub below : RestBelow n rest
  pub kept : Kept d rest

pub fill_kept : (d : ℕ) (rest : Rest) → Kept d rest → (ts : Temporaries) (x : ℕ) (v : Value) → d ≤ x → fill_rest (with_value ts x v) rest ≡ fill_rest ts rest
fill_kept d (closing place) h ts x v l = refl
fill_kept d (following ss rest) h ts x v l = ap (following ss) (fill_kept d rest h ts x v l)
fill_kept d (looping again rest) h ts x v l = ap (looping again) (fill_kept d rest h ts x v l)
fill_kept d (ranging place target channel body rest) h ts x v l = cc (unset x ts v channel (wider d x l channel h.0), fill_kept d rest h.2 ts x v l)
fill_kept d (chosen clause rest) h ts x v l = ap (chosen clause) (fill_kept d rest h ts x v l)

pub kept_later : (d e : ℕ) (rest : Rest) → d ≤ e → Kept d rest → Kept e rest
kept_later d e (closing place) l h = tt
kept_later d e (following ss rest) l h = kept_later d e rest l h
kept_later d e (looping again rest) l h = kept_later d e rest l h
kept_later d e (ranging place target channel body rest) l h = (wider d e l channel h.0, h.1, kept_later d e rest l h.2)
kept_later d e (chosen clause rest) l h = kept_later d e rest l h

-- what is done first has its variables among those of the function
can_open : (n : ℕ) (o : Option Opening) → CanOpen n o → OpeningBelow n o
can_open n None h = tt
can_open n (Some (Opens place act)) h = h.0

pub case_below : (n : ℕ) (cases : Cases) → CanDoCases n cases → AllBelow n (case_operands cases)
case_below n no_case h = tt
case_below n (default_case body others) h = case_below n others h.1
case_below n (send_case channel value body others) h = (h.0, (h.1, case_below n others h.3))
case_below n (receive_case targets channel initial body others) h = (h.1, case_below n others h.3)

mutual
  pub can_first : (n : ℕ) (s : Stmt) → CanDo n s → FirstBelow n s
  can_first n (Does place act) h = h.0
  can_first n (Block body) h = can_each n body h
  can_first n (If place init condition body otherwise) h = (can_open n init h.0, h.1)
  can_first n (For place init condition post body) h = (can_open n init h.0, h.1)
  can_first n (program.Range place target channel body) h = h.1
  can_first n (program.Select place cases) h = case_below n cases h

  pub can_each : (n : ℕ) (ss : Stmts) → CanDoAll n ss → EachFirstBelow n ss
  can_each n stop h = tt
  can_each n (then s ss) h = (can_first n s h.0, can_each n ss h.1)

pub good_onto : (n d : ℕ) (ss : Stmts) (rest : Rest) → CanDoAll n ss → Good n d rest → Good n d (onto ss rest)
good_onto n d stop rest h g = g
good_onto n d (then s ss) rest h g = record { below = (can_each n (then s ss) h, g.below); kept = g.kept }

pub good_before : (n d : ℕ) (s : Stmt) (rest : Rest) → FirstBelow n s → Good n d rest → Good n d (following (then s stop) rest)
good_before n d s rest h g = record { below = ((h, tt), g.below); kept = g.kept }

-- the statements of a program have no right operand that is decided
module _ (ts : Temporaries) where
  mutual
    pub clear_one : (e : Expr) → Clear ts (operand_of e)
    clear_one (program.Literally v) = tt
    clear_one (program.Variable x) = tt
    clear_one (program.Unary op a) = clear_one a
    clear_one (program.Binary op a b) = (clear_one a, clear_one b)
    clear_one (program.Receive c initial) = clear_one c
    clear_one (program.Call f arguments) = clear_all arguments
    clear_one (program.Len c) = clear_one c
    clear_one (program.Cap c) = clear_one c
    clear_one program.Make = tt
    clear_one (program.MakeSized size) = clear_one size

    clear_all : (es : Exprs) → ClearAll ts (operands_of es)
    clear_all none = tt
    clear_all (more a rest) = (clear_one a, clear_all rest)

  clear_printed : (ps : List Printed) → ClearAll ts (printed_operands ps)
  clear_printed [] = tt
  clear_printed (PrintExpr value ∷ ps) = (clear_one value, clear_printed ps)
  clear_printed (PrintText bytes ∷ ps) = clear_printed ps

  clear_cases : (cases : Cases) → ClearAll ts (case_operands cases)
  clear_cases no_case = tt
  clear_cases (default_case body others) = clear_cases others
  clear_cases (send_case channel value body others) = (clear_one channel, (clear_one value, clear_cases others))
  clear_cases (receive_case targets channel initial body others) = (clear_one channel, clear_cases others)

  clear_tested : (condition : Option Expr) → ClearAll ts (tested condition)
  clear_tested None = (tt, tt)
  clear_tested (Some e) = (clear_one e, tt)

  clear_going : (place : Place) (o : Option Rest) → ClearAll ts (going_on place o).operands
  clear_going place None = tt
  clear_going place (Some rest) = tt

  clear_act : (place : Place) (act : Act) (rest : Rest) → ClearAll ts (act_at place act rest).operands
  clear_act place (program.Assign targets values) rest = clear_all values
  clear_act place (program.AssignReceive value ok channel initial) rest = (clear_one channel, tt)
  clear_act place (program.Update x op value) rest = (clear_one value, tt)
  clear_act place (program.Eval value) rest = (clear_one value, tt)
  clear_act place (program.Close channel) rest = (clear_one channel, tt)
  clear_act place (program.Print values) rest = clear_printed values
  clear_act place (program.Send channel value) rest = (clear_one channel, (clear_one value, tt))
  clear_act place (program.Go f arguments) rest = clear_all arguments
  clear_act place (program.Return (Some value)) rest = (clear_one value, tt)
  clear_act place (program.Return None) rest = tt
  clear_act place (program.Break depth) rest = clear_going place (outside depth rest)
  clear_act place (program.Continue depth) rest = clear_going place (next_turn depth rest)

  clear_opened : (init : Option Opening) (s : Stmt) (p : Point) (rest : Rest) → ClearAll ts p.operands → ClearAll ts (opened init s p rest).operands
  clear_opened None s p rest h = h
  clear_opened (Some (Opens place act)) s p rest h = clear_act place act (following (then s stop) rest)

  abbrev ClearIfAny : Option Point → Type 0
  ClearIfAny o = elim o [ Some p ↦ ClearAll ts p.operands | None ↦ Unit {0} ]

  clear_either : (o q : Option Point) → ClearIfAny o → ClearIfAny q → ClearIfAny (option_or o q)
  clear_either (Some p) q h g = h
  clear_either None q h g = g

  mutual
    clear_first : (s : Stmt) (rest : Rest) → ClearIfAny (first_of s rest)
    clear_first (Does place act) rest = clear_act place act rest
    clear_first (Block body) rest = clear_firsts body rest
    clear_first (If place init condition body otherwise) rest = clear_opened init _ _ rest (clear_one condition, tt)
    clear_first (For place init condition post body) rest = clear_opened init _ _ rest (clear_tested condition)
    clear_first (program.Range place target channel body) rest = (clear_one channel, tt)
    clear_first (program.Select place cases) rest = clear_cases cases

    clear_firsts : (ss : Stmts) (rest : Rest) → ClearIfAny (first_in ss rest)
    clear_firsts stop rest = tt
    clear_firsts (then s ss) rest = clear_either (first_of s (onto ss rest)) (first_in ss rest) (clear_first s (onto ss rest)) (clear_firsts ss rest)

  clear_else : (o : Option Point) (p : Point) → ClearIfAny o → ClearAll ts p.operands → ClearAll ts (unwrap_or o p).operands
  clear_else (Some q) p h g = h
  clear_else None p h g = g

  pub clear_after : (d : ℕ) (rest : Rest) → Kept d rest → ClearAll ts (point_after rest).operands
  clear_after d (closing place) h = tt
  clear_after d (following ss rest) h = clear_else (first_in ss rest) (point_after rest) (clear_firsts ss rest) (clear_after d rest h)
  clear_after d (looping again rest) h = clear_else (first_in again rest) (point_after rest) (clear_firsts again rest) (clear_after d rest h)
  clear_after d (ranging place target channel body rest) h = (h.1 ts, tt)
  clear_after d (chosen clause rest) h = clear_after d rest h

-- where what remains comes next, it does so whatever the temporaries are
pub continues : (n d : ℕ) (means : Meanings) (es : Operands) (rest : Rest) (on : ℕ) → Good n d rest → means on ≡ point_after rest → Continues n means es rest on
continues n d means es rest on g e = λ ts none clear.
    rw e (sym (point_after_fill n ts none rest g.below), clear_after ts d rest g.kept)
