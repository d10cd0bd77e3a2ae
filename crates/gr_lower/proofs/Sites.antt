-- Where a statement stands: what comes after it, and where a `break` and a `continue` lead.
use Rattle.std.proofs.Common.{◌≤◌, ℕ, zero, suc, List, [], ◌∷◌, Option, Some, None, refl}
use Rattle.gr_scan.specs.declared.token.Place.{Place}
use Rattle.gr_program.specs.Programs.{Stmts}
use Rattle.gr_rules.specs.Operands.{Operand, nothing}
use Rattle.gr_rules.specs.Points.{Rest, closing, following, looping, ranging, chosen, outside, next_turn, going_on, point_after}
use Rattle.gr_code.specs.Code as code
use Rattle.gr_code.specs.Code.{Meanings}
use Rattle.gr_lower.specs.StatementCode.{Way, way, leaving, turning, goes}
use Rattle.gr_lower.proofs.Meant.{Leads, FitsHere}
use Rattle.gr_lower.proofs.Rests.{Good, continues}

module _ (n m count : ℕ) (means : Meanings) where
  pub data Around : Rest → List Way → Type 0 where
    outermost : (place : Place) → Around (closing place) []
    before : (ss : Stmts) (rest : Rest) (ways : List Way) → Around rest ways → Around (following ss rest) ways
    in_loop : (again : Stmts) (rest : Rest) (ways : List Way) (out on : ℕ) → Leads count means out (point_after rest)
        → Leads count means on (point_after (looping again rest)) → Around rest ways → Around (looping again rest) (way out (Some on) ∷ ways)
    in_range : (place : Place) (target : Option ℕ) (channel : Operand) (body : Stmts) (rest : Rest) (ways : List Way) (out on : ℕ)
        → Leads count means out (point_after rest) → Leads count means on (point_after (ranging place target channel body rest)) → Around rest ways
        → Around (ranging place target channel body rest) (way out (Some on) ∷ ways)
    in_clause : (clause : ℕ) (rest : Rest) (ways : List Way) (out : ℕ) → Leads count means out (point_after rest) → Around rest ways
        → Around (chosen clause rest) (way out None ∷ ways)

  module _ (d : ℕ) where
    -- a number leads to what remains, where something does
    abbrev LeadsTo : Option Rest → Option ℕ → Type 0
    LeadsTo (Some rest) (Some on) = Leads count means on (point_after rest) × Good n d rest
    LeadsTo None None = Unit {0}
    LeadsTo rest on = ⊥

    pub leaving_leads : (depth : ℕ) (rest : Rest) (ways : List Way) → Around rest ways → Good n d rest → LeadsTo (outside depth rest) (leaving depth ways)
    leaving_leads depth _ _ (outermost place) g = tt
    leaving_leads depth _ _ (before ss rest ways a) g = leaving_leads depth rest ways a (record { below = g.below.1; kept = g.kept })
    leaving_leads zero _ _ (in_loop again rest ways out on l k a) g = (l, record { below = g.below.1; kept = g.kept })
    leaving_leads (suc depth) _ _ (in_loop again rest ways out on l k a) g = leaving_leads depth rest ways a (record { below = g.below.1; kept = g.kept })
    leaving_leads zero _ _ (in_range place target channel body rest ways out on l k a) g = (l, record { below = g.below; kept = g.kept.2 })
    leaving_leads (suc depth) _ _ (in_range place target channel body rest ways out on l k a) g = leaving_leads depth rest ways a
        (record { below = g.below; kept = g.kept.2 })
    leaving_leads zero _ _ (in_clause clause rest ways out l a) g = (l, record { below = g.below; kept = g.kept })
    leaving_leads (suc depth) _ _ (in_clause clause rest ways out l a) g = leaving_leads depth rest ways a (record { below = g.below; kept = g.kept })

    pub turning_leads : (depth : ℕ) (rest : Rest) (ways : List Way) → Around rest ways → Good n d rest → LeadsTo (next_turn depth rest) (turning depth ways)
    turning_leads depth _ _ (outermost place) g = tt
    turning_leads depth _ _ (before ss rest ways a) g = turning_leads depth rest ways a (record { below = g.below.1; kept = g.kept })
    turning_leads zero _ _ (in_loop again rest ways out on l k a) g = (k, g)
    turning_leads (suc depth) _ _ (in_loop again rest ways out on l k a) g = turning_leads depth rest ways a (record { below = g.below.1; kept = g.kept })
    turning_leads zero _ _ (in_range place target channel body rest ways out on l k a) g = (k, g)
    turning_leads (suc depth) _ _ (in_range place target channel body rest ways out on l k a) g = turning_leads depth rest ways a
        (record { below = g.below; kept = g.kept.2 })
    turning_leads zero _ _ (in_clause clause rest ways out l a) g = tt
    turning_leads (suc depth) _ _ (in_clause clause rest ways out l a) g = turning_leads depth rest ways a (record { below = g.below; kept = g.kept })

    pub goes_fits : (place : Place) (o : Option Rest) (w : Option ℕ) → LeadsTo o w → FitsHere n m count means (going_on place o) (goes w)
    goes_fits place (Some rest) (Some on) h = (code.going_on place nothing rest on refl (continues n d means nothing rest on h.1 h.0.is), (tt, h.0.within))
    goes_fits place None None h = (code.astray place nothing (closing place) refl, (tt, tt))
    goes_fits place (Some rest) None h = absurd h
    goes_fits place None (Some on) h = absurd h

  -- a statement with the first free temporary, with what remains of it, and with what follows it
  pub record Site (d on : ℕ) (rest : Rest) (ways : List Way) : Type 0 where
    pub low : n ≤ d
    pub high : d ≤ m
    pub good : Good n d rest
    pub next : Leads count means on (point_after rest)
    pub around : Around rest ways
