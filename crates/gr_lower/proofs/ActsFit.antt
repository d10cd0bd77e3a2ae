-- The code of acts fits the points that it means.
use Rattle.std.proofs.Common.{◌≡◌, ◌≤◌, ℕ, suc, ◌+◌, Bool, false, List, [], ◌∷◌, ◌++◌, length, Option, Some, None, refl, sym, ◌∙◌, subst, arith}
use Rattle.std.specs.Prelude.{max}
use Rattle.gr_scan.specs.declared.token.Place.{Place}
use Rattle.gr_base.specs.declared.values.Value.{Value}
use Rattle.gr_base.specs.declared.values.Value.TheVariants.{Bool as Truth}
use Rattle.gr_program.specs.Programs as program
use Rattle.gr_program.specs.Programs.{Expr, Act, Opening, Opens, Stmt, then, stop}
use Rattle.gr_rules.specs.Operands.{Operand, Done, Variable, Receive, Call, Operands, one, two, value_of, operand_of, operands_of}
use Rattle.gr_rules.specs.Parts.{Calls, Receives, Plain, next, next_of}
use Rattle.gr_rules.specs.Points.{Rest, Work, Assign, AssignReceive, Update, Eval, Close, Print, Send, Go, Return, Point, at, outside, next_turn, pieces_of, printed_operands}
use Rattle.gr_rules.specs.Frames.{is_over}
use Rattle.gr_rules.specs.Deeds.{assigning}
use Rattle.gr_code.specs.Filling.{Temporaries, with_value, fill_all, fill_rest, fill_work, variable_filled}
use Rattle.gr_code.specs.Instructions.{Instruction, Part, Perform, Action, Assigns, AssignsReceived, Updates, ClosesChannel, PrintsLine, Sends, StartsFunction, Returns, receiving}
use Rattle.gr_code.specs.Bounds.{AllBelow}
use Rattle.gr_code.specs.Plugging.{plug, plug_all}
use Rattle.gr_code.specs.Passing.{parts, parts_in, passed_by, passed_by_in}
use Rattle.gr_code.specs.Code as code
use Rattle.gr_code.specs.Code.{Meanings, Means}
use Rattle.gr_code.specs.Programs.{IsSlot}
use Rattle.gr_code.proofs.Plugs.{set_it, set_other}
use Rattle.gr_lower.specs.PartCode.{left, left_in, code_in}
use Rattle.gr_lower.specs.PartCode as part
use Rattle.gr_lower.specs.Sizes.{returned}
use Rattle.gr_lower.specs.StatementCode.{Way, leaving, turning, performed, whole_code, act_code}
use Rattle.gr_lower.specs.StatementPoints.{points, performed_points, assigning_point, act_points}
use Rattle.gr_lower.specs.CanLower.{IsWhole, CanAct}
use Rattle.gr_lower.proofs.PartsLeft.{reads_one, reads_all, length_code, length_code_in, plain_left, plain_left_in, in_self, in_whole_receive, in_whole_call}
use Rattle.gr_lower.proofs.PartsRead.{PlainOne, PlainAll}
use Rattle.gr_lower.proofs.Meant.{Leads, AreMeant, meant_first, meant_second, EachWithin, within_first, within_second, FitsHere, EachFits, fits_both}
use Rattle.gr_lower.proofs.Bounded.{wider_all}
use Rattle.gr_lower.proofs.Walks.{Unmoved, length_points, walk}
use Rattle.gr_lower.proofs.Rests.{Kept, fill_kept, continues}
use Rattle.gr_lower.proofs.Sites.{Site, leaving_leads, turning_leads, goes_fits}

module _ (n m count : ℕ) (means : Meanings) where
  -- the parts of operands, and then an instruction with what is left of them
  pub finished_fits : (place : Place) (work : Work) (es : Operands) (rest : Rest) (d o : ℕ) (last : Instruction) → n ≤ d → d ≤ m → AllBelow n es
      → ((ts : Temporaries) (es : Operands) → is_over (fill_work ts work) es ≡ false) → Unmoved d work rest
      → AreMeant count means o (performed_points place work es rest d) → EachWithin m (code_in es d o ++ last ∷ [])
      → (next_of (left_in es d) ≡ Plain → AllBelow m (left_in es d) → FitsHere n m count means (at place work (left_in es d) rest) last)
      → EachFits n m count means (performed_points place work es rest d) (code_in es d o ++ last ∷ [])
  finished_fits place work es rest d o last low high below over u s w fits =
      let e : parts_in es + 1 ≡ suc (length (code_in es d o)) = (let l : length (code_in es d o) ≡ parts_in es = length_code_in es d o in omega arith) in
      let p : PlainAll (left_in es d) = plain_left_in es d in
      subst (λ k. EachFits n m count means (points place work rest k d es) (code_in es d o ++ last ∷ [])) (sym e)
      (walk n m count means place work rest next_of plug_all passed_by_in (λ es. es) in_self (λ ts es. over ts (fill_all ts es)) d o es (left_in es d)
      (code_in es d o) last
      (reads_all es d o) low high (wider_all n d low es below) u (subst (λ k. AreMeant count means o (points place work rest k d es)) e s) w
      (λ x l h b. fits p.asks (wider_all x m h (left_in es d) b)))

  -- what was received stands in two temporaries
  pub receiving_means : (place : Place) (targets : List (Option ℕ)) (rest : Rest) (d on : ℕ) (ts : Temporaries) (got : Value × Bool) → Kept d rest
      → means on ≡ assigning_point place targets rest d → Means means (receiving ts (Some (d, d + 1)) got) on (assigning place targets (fill_rest ts rest) got)
  receiving_means place targets rest d on ts got kept e =
      let first : receiving ts (Some (d, d + 1)) got d ≡ Some got.0 = set_other (with_value ts d got.0) d (d + 1) (Truth got.1) (omega arith)
      ∙ set_it ts d got.0 in
      let second : receiving ts (Some (d, d + 1)) got (d + 1) ≡ Some (Truth got.1) = set_it (with_value ts d got.0) (d + 1) (Truth got.1) in
      let same : fill_rest (receiving ts (Some (d, d + 1)) got) rest ≡ fill_rest ts rest =
      fill_kept d rest kept (with_value ts d got.0) (d + 1) (Truth got.1) (omega arith) ∙ fill_kept d rest kept ts d got.0 (omega arith) in
      rw e ((λ i. at place (Assign targets) (two (variable_filled d (first i)) (variable_filled (d + 1) (second i))) (same i)), (tt, (tt, tt)))

  module _ (place : Place) (rest : Rest) (d o on : ℕ) (ways : List Way) (site : Site n m count means d on rest ways) where
    unmoved : (work : Work) → ((ts : Temporaries) → fill_work ts work ≡ work) → Unmoved d work rest
    unmoved work e = record { in_work = λ ts x v l. e (with_value ts x v) ∙ sym (e ts); in_rest = λ ts x v l. fill_kept d rest site.good.kept ts x v l }

    goes_on : (es : Operands) → code.Continues n means es rest on
    goes_on es = continues n d means es rest on site.good site.next.is

    act_performs : (work : Work) (es : Operands) (action : Action) → AllBelow n es
        → ((ts : Temporaries) (es : Operands) → is_over (fill_work ts work) es ≡ false) → ((ts : Temporaries) → fill_work ts work ≡ work)
        → AreMeant count means o (performed_points place work es rest d) → EachWithin m (performed es d o action)
        → ((l : Operands) → next_of l ≡ Plain → AllBelow m l → FitsHere n m count means (at place work l rest) (Perform action l))
        → EachFits n m count means (performed_points place work es rest d) (performed es d o action)
    act_performs work es action below over same s w fits =
        finished_fits place work es rest d o (Perform action (left_in es d)) site.low site.high below over (unmoved work same) s w (fits (left_in es d))

    whole_fits : (value : Expr) → IsWhole value → AllBelow n (one (operand_of value)) → AreMeant count means o (act_points place (program.Eval value) rest d)
        → EachWithin m (whole_code (operand_of value) d o on) → EachFits n m count means (act_points place (program.Eval value) rest d)
        (whole_code (operand_of value) d o on)
    whole_fits (program.Call f arguments) h below s w =
        let es : Operands = operands_of arguments in
        let p : PlainAll (left_in es d) = plain_left_in es d in
        let e : parts_in es + 1 ≡ suc (length (code_in es d o)) = (let l : length (code_in es d o) ≡ parts_in es = length_code_in es d o in omega arith) in
        subst (λ k. EachFits n m count means (points place Eval rest k d (one (Call f es))) (whole_code (Call f es) d o on)) (sym e)
        (walk n m count means place Eval rest next_of plug_all passed_by_in (λ es. one (Call f es)) (in_whole_call f) (λ ts es. refl) d o es (left_in es d)
        (code_in es d o)
        (Part (Calls f (left_in es d)) None on) (reads_all es d o) site.low site.high (wider_all n d site.low (one (Call f es)) below)
        (unmoved Eval (λ ts. refl))
        (subst (λ k. AreMeant count means o (points place Eval rest k d (one (Call f es)))) e s) w
        (λ x l t b. (
          code.part place Eval (one (Call f (left_in es d))) rest (Calls f (left_in es d)) (λ v. one (Done v)) None on (rw p.asks refl) refl
              (λ ts v none clear. goes_on (one (Call f (left_in es d))) ts none clear),
          ((wider_all x m t (one (Call f (left_in es d))) b).0, tt, site.next.within),
        )))
    whole_fits (program.Receive c initial) h below s w =
        let e : Operand = operand_of c in
        let z : Value = value_of initial in
        let p : PlainOne (left e d) = plain_left e d in
        let q : parts e + 1 ≡ suc (length (part.code e d o)) = (let l : length (part.code e d o) ≡ parts e = length_code e d o in omega arith) in
        subst (λ k. EachFits n m count means (points place Eval rest k d (one (Receive e z))) (whole_code (Receive e z) d o on)) (sym q)
        (walk n m count means place Eval rest next plug passed_by (λ c. one (Receive c z)) (in_whole_receive z) (λ ts es. refl) d o e (left e d)
        (part.code e d o)
        (Part (Receives (left e d) z) None on) (reads_one e d o) site.low site.high (wider_all n d site.low (one (Receive e z)) below)
        (unmoved Eval (λ ts. refl))
        (subst (λ k. AreMeant count means o (points place Eval rest k d (one (Receive e z)))) q s) w
        (λ x l t b. (
          code.part place Eval (one (Receive (left e d) z)) rest (Receives (left e d) z) (λ v. one (Done v)) None on (rw p.asks refl) refl
              (λ ts v none clear. goes_on (one (Receive (left e d) z)) ts none clear),
          ((wider_all x m t (one (Receive (left e d) z)) b).0, tt, site.next.within),
        )))
    whole_fits other h below s w = absurd h

    pub act_fits : (act : Act) → CanAct n act → AreMeant count means o (act_points place act rest d) → EachWithin m (act_code act d o on ways)
        → EachFits n m count means (act_points place act rest d) (act_code act d o on ways)
    act_fits (program.Assign targets values) h s w =
        act_performs (Assign targets) (operands_of values) (Assigns targets on) h.0 (λ ts es. refl) (λ ts. refl) s w
        (λ l plain b. (code.assignment place targets l rest on plain (goes_on l), (b, (h.1, site.next.within))))
    act_fits (program.AssignReceive value ok channel initial) h s w =
        let es : Operands = one (operand_of channel) in
        let to : ℕ = o + parts_in es + 1 in
        let targets : List (Option ℕ) = value ∷ ok ∷ [] in
        let work : Work = AssignReceive value ok (value_of initial) in
        let receive : List Point = performed_points place work es rest d in
        let next : Leads count means (o + (parts_in es + 1)) (assigning_point place targets rest d) =
        (meant_second count means o (parts_in es + 1) receive (assigning_point place targets rest d ∷ [])
        (length_points place work rest (parts_in es + 1) d es) s).0 in
        let there : o + (parts_in es + 1) ≡ to = omega arith in
        let leads : Leads count means to (assigning_point place targets rest d) = rw there at next in
        let code_first : List Instruction = performed es d o (AssignsReceived (value_of initial) d (d + 1) to) in
        let w' : EachWithin m code_first = within_first m code_first (Perform (Assigns targets on) (two (Variable d) (Variable (d + 1))) ∷ []) w in
        let cells : max (d + 1) (d + 1 + 1) ≤ m =
        (within_second m (code_in es d o) (Perform (AssignsReceived (value_of initial) d (d + 1) to) (left_in es d) ∷ []) w').0 in
        let low : n ≤ d = site.low in
        let slot : IsSlot n m d = (low, omega arith) in
        let slot_ok : IsSlot n m (d + 1) = (omega arith, omega arith) in
        fits_both n m count means receive (assigning_point place targets rest d ∷ []) code_first
        (Perform (Assigns targets on) (two (Variable d) (Variable (d + 1))) ∷ [])
        (act_performs work es (AssignsReceived (value_of initial) d (d + 1) to) h.0 (λ ts es. refl) (λ ts. refl)
        (meant_first count means o receive (assigning_point place targets rest d ∷ []) s) w'
        (λ l plain b. (
          code.assignment_received place value ok (value_of initial) l rest d (d + 1) to plain
              (λ ts got none clear. receiving_means place targets rest d to ts got site.good.kept leads.is),
          (b, (slot, slot_ok, leads.within)),
        ))) (
          (
            code.assignment place targets (two (Variable d) (Variable (d + 1))) rest on refl (goes_on (two (Variable d) (Variable (d + 1)))),
            ((slot.1, (slot_ok.1, tt)), (h.1, site.next.within)),
          ),
          tt,
        )
    act_fits (program.Update x op value) h s w =
        act_performs (Update x op) (one (operand_of value)) (Updates x op on) h.0 (λ ts es. refl) (λ ts. refl) s w
        (λ l plain b. (code.update place x op l rest on plain (goes_on l), (b, (h.1, site.next.within))))
    act_fits (program.Eval value) h s w = whole_fits value h.1 h.0 s w
    act_fits (program.Close channel) h s w =
        act_performs Close (one (operand_of channel)) (ClosesChannel on) h.0 (λ ts es. refl) (λ ts. refl) s w
        (λ l plain b. (code.closing_channel place l rest on plain (goes_on l), (b, site.next.within)))
    act_fits (program.Print values) h s w =
        act_performs (Print (pieces_of values)) (printed_operands values) (PrintsLine (pieces_of values) on) h.0 (λ ts es. refl) (λ ts. refl) s w
        (λ l plain b. (code.printing place (pieces_of values) l rest on plain (goes_on l), (b, site.next.within)))
    act_fits (program.Send channel value) h s w =
        act_performs Send (two (operand_of channel) (operand_of value)) (Sends on) h.0 (λ ts es. refl) (λ ts. refl) s w
        (λ l plain b. (code.sending place l rest on plain (goes_on l), (b, site.next.within)))
    act_fits (program.Go f arguments) h s w =
        act_performs (Go f) (operands_of arguments) (StartsFunction f on) h.0 (λ ts es. refl) (λ ts. refl) s w
        (λ l plain b. (code.starting place f l rest on plain (goes_on l), (b, site.next.within)))
    act_fits (program.Return value) h s w =
        act_performs Return (returned value) Returns h.0 (λ ts es. refl) (λ ts. refl) s w (λ l plain b. (code.returning place l rest plain, (b, tt)))
    act_fits (program.Break depth) h s w = (
      goes_fits n m count means d place (outside depth rest) (leaving depth ways) (leaving_leads n m count means d depth rest ways site.around site.good),
      tt,
    )
    act_fits (program.Continue depth) h s w = (
      goes_fits n m count means d place (next_turn depth rest) (turning depth ways) (turning_leads n m count means d depth rest ways site.around site.good),
      tt,
    )
