use Rattle.std.proofs.Common.{◌≡◌, ◌∙◌, ◌≤◌, List, true, Some, length, ltb, get_or, refl, sym, arith, ltb-true, ltb-false}
use Rattle.std.specs.List.{slice_get}
use Rattle.std.proofs.lemmas.Option.{slice_get_read, slice_get_past}
use Rattle.gr_scan.specs.declared.token.Token.{Token}
use Rattle.gr_scan.specs.Tokens.{token_of, tokens_of}
use Rattle.gr_syntax.specs.Refused.{left_out}
use Rattle.gr_syntax.proofs.Files.{get_none, get_some}
use Rattle.gr_syntax.proofs.parse.token_is_left_out.Goals as goal

pub returns-in_default : goal.returns-in_default
returns-in_default c =
    let past : length c.args.tokens.now ≤ c.args.token = omega (arith, ltb-false c.args.token (length c.args.tokens.now) (sym c.in_default.ensures.lookup.0)) in
    rw (get_none c.args.tokens.now c.args.token (slice_get_past c.args.tokens.now c.args.token past)) refl

here : (ts : List Token) (n : _) (t : Token) → true ≡ ltb n (length ts) → t ≡ get_or ts n t → left_out (slice_get (tokens_of ts) n) ≡ left_out (Some (token_of t))
here ts n t e q = rw (get_some ts n t (slice_get_read ts (length ts) n t refl (omega (arith, ltb-true n (length ts) (sym e))) q)) refl

pub returns-in-Mark : goal.returns-in-Mark
returns-in-Mark c = c.mark_is_left_out.ensures ∙ sym (here c.args.tokens.now c.args.token c.in-Some.refused.now c.in-Some.ensures.lookup.0 c.in-Some.ensures.lookup.1 ∙ rw c.in-Mark.is refl)

pub returns-in-Name : goal.returns-in-Name
returns-in-Name c = sym (here c.args.tokens.now c.args.token c.in-Some.refused.now c.in-Some.ensures.lookup.0 c.in-Some.ensures.lookup.1 ∙ rw c.in-Name.is refl)

pub returns-in-Number : goal.returns-in-Number
returns-in-Number c = sym (here c.args.tokens.now c.args.token c.in-Some.refused.now c.in-Some.ensures.lookup.0 c.in-Some.ensures.lookup.1 ∙ rw c.in-Number.is refl)

pub returns-in-Text : goal.returns-in-Text
returns-in-Text c = sym (here c.args.tokens.now c.args.token c.in-Some.refused.now c.in-Some.ensures.lookup.0 c.in-Some.ensures.lookup.1 ∙ rw c.in-Text.is refl)
