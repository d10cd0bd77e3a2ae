use Rattle.std.proofs.Common.{◌≡◌, sym, length, eqb-true, arith}
use Rattle.std.proofs.lemmas.Result.{err_from_is_err_and}
use Rattle.gr_scan.specs.Tokens.{tokens_of}
use Rattle.gr_scan.proofs.Goes.{filled, stray, goes_end, piece_fills, turn, fault}
use Rattle.gr_scan.specs.Scan.{items_of}
use Rattle.gr_scan.proofs.FirstFaults.{stray_says, piece_says, leads_on}
use Rattle.gr_scan.proofs.scan.scan.Goals as goal

pub returns-in_err-piece-clause-none : goal.returns-in_err-piece-clause-none
returns-in_err-piece-clause-none c =
    let p = err_from_is_err_and c.from_residual.result c.from_residual.ensures.1 in
    rw (p.1, p.2) (stray c.args.text.now (tokens_of c.loop-rest.tokens.items) c.loop-rest.wanted c.loop-rest.start c.loop-rest.line c.loop-rest.rest.now c.in_err-piece.field-0.0 c.loop-rest.invariant.goes (filled c.loop-rest.rest.now c.loop-rest-test.ensures) c.in_err-piece.ensures.err)

pub returns-in_err-wanted-clause-none : goal.returns-in_err-wanted-clause-none
returns-in_err-wanted-clause-none c =
    let p = err_from_is_err_and c.from_residual-in_err-wanted.result c.from_residual-in_err-wanted.ensures.1 in
    rw (p.1, p.2) (fault c.args.text.now (tokens_of c.loop-rest.tokens.items) (tokens_of c.put.new.tokens.items) c.loop-rest.wanted c.loop-rest.start c.loop-rest.line c.loop-rest.rest.now c.split_at-in-loop-rest.result.0.now c.in_ok-piece.piece c.in_ok-piece.size c.in_err-wanted.field-0.0 c.loop-rest.invariant.goes c.in_ok-piece.ensures.ok c.split_at-in-loop-rest.ensures.front c.in_err-wanted.ensures.added)

pub returns-in_err-piece-clause-fault : goal.returns-in_err-piece-clause-fault
returns-in_err-piece-clause-fault c =
    let p = err_from_is_err_and c.from_residual.result c.from_residual.ensures.1 in
    rw (p.1, p.2) (stray_says c.args.text.now c.loop-rest.start c.loop-rest.rest.now c.in_err-piece.field-0.0 c.loop-rest.invariant.leads (filled c.loop-rest.rest.now c.loop-rest-test.ensures) c.in_err-piece.ensures.err c.in_err-piece.ensures.fault)

pub returns-in_err-wanted-clause-fault : goal.returns-in_err-wanted-clause-fault
returns-in_err-wanted-clause-fault c =
    let p = err_from_is_err_and c.from_residual-in_err-wanted.result c.from_residual-in_err-wanted.ensures.1 in
    rw (p.1, p.2) (piece_says c.args.text.now c.loop-rest.start c.loop-rest.line c.loop-rest.rest.now c.split_at-in-loop-rest.result.0.now c.in_ok-piece.piece c.in_ok-piece.size c.in_err-wanted.field-0.0 c.loop-rest.wanted (items_of c.in_ok-piece.piece c.split_at-in-loop-rest.result.0.now c.loop-rest.start c.loop-rest.line) (tokens_of c.loop-rest.tokens.items) (tokens_of c.put.new.tokens.items) c.loop-rest.invariant.leads c.in_ok-piece.ensures.ok c.split_at-in-loop-rest.ensures.front c.in_err-wanted.ensures.added c.in_err-wanted.ensures.fault)

pub next_line-line-requires-clause-filled : goal.next_line-line-requires-clause-filled
next_line-line-requires-clause-filled c = omega (arith, c.split_at-in-loop-rest.ensures.front_len, piece_fills c.in_ok-piece.ensures.ok)

pub loop-rest-smaller : goal.loop-rest-smaller
loop-rest-smaller c = omega (arith, piece_fills c.in_ok-piece.ensures.ok, c.split_at-in-loop-rest.ensures.back_len)

pub loop-rest-preserved : goal.loop-rest-preserved
loop-rest-preserved c = record {
  goes = turn c.args.text.now (tokens_of c.loop-rest.tokens.items) (tokens_of c.put.new.tokens.items) c.loop-rest.wanted c.in_ok-wanted.wanted c.loop-rest.start c.loop-rest.line c.next_line-line.result c.loop-rest.rest.now c.split_at-in-loop-rest.result.0.now c.split_at-in-loop-rest.result.1.now c.in_ok-piece.piece c.in_ok-piece.size c.loop-rest.invariant.goes c.in_ok-piece.ensures.ok c.split_at-in-loop-rest.ensures.front c.split_at-in-loop-rest.ensures.back c.next_line-line.ensures.after c.in_ok-wanted.ensures.added;
  place = omega (arith, c.split_at-in-loop-rest.ensures.back_len, c.loop-rest.invariant.place);
  lines = omega (arith, c.split_at-in-loop-rest.ensures.front_len, c.next_line-line.ensures.near, c.loop-rest.invariant.lines);
  short = c.loop-rest.invariant.short;
  leads = leads_on c.args.text.now c.loop-rest.start c.loop-rest.line c.loop-rest.rest.now c.split_at-in-loop-rest.result.0.now c.split_at-in-loop-rest.result.1.now c.in_ok-piece.piece c.in_ok-piece.size c.in_ok-wanted.wanted c.loop-rest.wanted (tokens_of c.loop-rest.tokens.items) (tokens_of c.put.new.tokens.items) c.loop-rest.invariant.leads c.in_ok-piece.ensures.ok c.split_at-in-loop-rest.ensures.front c.split_at-in-loop-rest.ensures.back c.in_ok-wanted.ensures.added;
}

pub returns-clause-tokens : goal.returns-clause-tokens
returns-clause-tokens c =
    let none : length c.loop-rest.rest.now ≡ 0 = eqb-true (length c.loop-rest.rest.now) 0 (sym c.loop-rest-test.ensures) in
    rw c.in_ok-end_line.ensures (goes_end c.args.text.now (tokens_of c.loop-rest.tokens.items) c.loop-rest.wanted c.loop-rest.start c.loop-rest.line c.loop-rest.rest.now c.loop-rest.invariant.goes none)
