use Rattle.std.proofs.Common.{◌≡◌, [], true, ap, subst, ◌∙◌, rules, arith}
use Rattle.gr_program.specs.Views.{program_of}
use Rattle.gr_command.specs.Commands.{meaning}
use Rattle.gr_serve.specs.Lines.{lines_of}
use Rattle.gr_survey.specs.Scripts.{Comes, IsRefused}
use Rattle.gr_survey.proofs.ScriptLemmas.{leads_on, counts_on, ends_there, ends_at_quit, refused_there, nothing_left, same_number}
use Rattle.gr_survey.proofs.script.follow.Goals as goal

pub returns-in-Quit-clause-follows : goal.returns-in-Quit-clause-follows
returns-in-Quit-clause-follows c =
    let comes = subst
    (λ q. Comes (program_of q) c.args.desk.number (meaning c.cut_line.result.0.now) c.loop-rest.session.journal c.take_line.result c.take_line.new.session.journal)
    c.loop-rest.invariant.program c.take_line.ensures.comes in
    ends_at_quit (program_of c.args.session.now.program) c.args.desk.number (lines_of c.args.script.now) (lines_of c.loop-rest.rest.now) (lines_of c.cut_line.result.1.now)
    c.cut_line.result.0.now c.args.session.now.journal c.loop-rest.session.journal c.take_line.new.session.journal c.take_line.result
    c.loop-rest.invariant.leads c.cut_line.ensures.lines c.in-Quit.is comes

pub returns-in-Refused-clause-refused : goal.returns-in-Refused-clause-refused
returns-in-Refused-clause-refused c = λ n e.
    let comes = subst
    (λ q. Comes (program_of q) c.args.desk.number (meaning c.cut_line.result.0.now) c.loop-rest.session.journal c.take_line.result c.take_line.new.session.journal)
    c.loop-rest.invariant.program c.take_line.ensures.comes in
    subst (λ k. IsRefused (program_of c.args.session.now.program) c.args.desk.number (lines_of c.args.script.now) k c.args.session.now.journal) (same_number _ n e)
    (refused_there (program_of c.args.session.now.program) c.args.desk.number (lines_of c.args.script.now) (lines_of c.loop-rest.rest.now) (lines_of c.cut_line.result.1.now)
    c.cut_line.result.0.now c.args.session.now.journal c.loop-rest.session.journal c.take_line.new.session.journal c.loop-rest.taken c.take_line.result
    c.loop-rest.invariant.counts c.cut_line.ensures.lines c.in-Refused.is comes)

pub loop-rest-preserved : goal.loop-rest-preserved
loop-rest-preserved c =
    let comes = subst
    (λ q. Comes (program_of q) c.args.desk.number (meaning c.cut_line.result.0.now) c.loop-rest.session.journal c.take_line.result c.take_line.new.session.journal)
    c.loop-rest.invariant.program c.take_line.ensures.comes in
    record {
      program = c.take_line.ensures.others.0 ∙ c.loop-rest.invariant.program;
      askers = c.take_line.ensures.others.1 ∙ c.loop-rest.invariant.askers;
      leads = leads_on (program_of c.args.session.now.program) c.args.desk.number (lines_of c.args.script.now) (lines_of c.loop-rest.rest.now)
          (lines_of c.cut_line.result.1.now) c.cut_line.result.0.now c.args.session.now.journal c.loop-rest.session.journal c.take_line.new.session.journal
          c.take_line.result c.loop-rest.invariant.leads c.cut_line.ensures.lines c.in-Done.is comes;
      counts = counts_on (program_of c.args.session.now.program) c.args.desk.number (lines_of c.args.script.now) (lines_of c.loop-rest.rest.now)
          (lines_of c.cut_line.result.1.now) c.cut_line.result.0.now c.args.session.now.journal c.loop-rest.session.journal c.take_line.new.session.journal
          c.loop-rest.taken c.take_line.result c.loop-rest.invariant.counts c.cut_line.ensures.lines c.in-Done.is comes;
      few = let few = c.loop-rest.invariant.few in let less = c.cut_line.ensures.less in omega (arith, few, less);
    }

pub returns-clause-follows : goal.returns-clause-follows
returns-clause-follows c =
    let empty : c.is_empty.result ≡ true = search rules in
    let none : c.loop-rest.rest.now ≡ [] = nothing_left c.loop-rest.rest.now c.is_empty.result c.is_empty.ensures empty in
    ends_there (program_of c.args.session.now.program) c.args.desk.number (lines_of c.args.script.now) (lines_of c.loop-rest.rest.now) c.args.session.now.journal
    c.loop-rest.session.journal c.loop-rest.invariant.leads (ap lines_of none)
