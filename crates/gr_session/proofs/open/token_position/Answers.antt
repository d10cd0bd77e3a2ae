use Rattle.std.proofs.Common.{◌≡◌, ◌∙◌, ◌≤◌, ℕ, List, true, Some, None, length, ltb, get_or, refl, ap, sym, arith, ltb-true, ltb-false}
use Rattle.std.specs.Prelude.{slice_get, option_map}
use Rattle.std.proofs.lemmas.Option.{slice_get_read, slice_get_past}
use Rattle.gr_scan.specs.declared.token.Place.{Place}
use Rattle.gr_scan.specs.declared.token.Token.{Token}
use Rattle.gr_scan.specs.Positions.{position_of}
use Rattle.gr_scan.specs.Tokens.{token_of, tokens_of}
use Rattle.gr_session.proofs.Sources.{token_there}
use Rattle.gr_session.proofs.open.token_position.Goals as goal

here : (ts : List Token) (n : ℕ) (t : Token) → true ≡ ltb n (length ts) → t ≡ get_or ts n t → slice_get (tokens_of ts) n ≡ Some (token_of t)
here ts n t e q = token_there ts n ∙ ap (option_map token_of) (slice_get_read ts (length ts) n t refl (omega (arith, ltb-true n (length ts) (sym e))) q)

past : (ts : List Token) (n : ℕ) → length ts ≤ n → slice_get (tokens_of ts) n ≡ None
past ts n h = token_there ts n ∙ ap (option_map token_of) (slice_get_past ts n h)

pub returns-in-Some : goal.returns-in-Some
returns-in-Some c =
    rw (here c.args.tokens.now c.args.index c.in-Some.token.now c.in-Some.ensures.lookup.0 c.in-Some.ensures.lookup.1)
    (c.of.ensures ∙ ap (λ (at : Place). position_of c.args.text.now at.start) c.place.ensures)

pub returns-in-None : goal.returns-in-None
returns-in-None c =
    let after : length c.args.tokens.now ≤ c.args.index = omega (arith, ltb-false c.args.index (length c.args.tokens.now) (sym c.in-None.ensures.lookup.0)) in
    rw (past c.args.tokens.now c.args.index after) c.of-in-None.ensures
