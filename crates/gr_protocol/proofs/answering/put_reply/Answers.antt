use Rattle.gr_protocol.proofs.Replying.{answer_plain, line_written}
use Rattle.gr_protocol.specs.Answers.{answer_data}
use Rattle.gr_serve.specs.Replies.{answer_of}
use Rattle.serde_json.specs.View.{view}
use Rattle.gr_protocol.proofs.answering.put_reply.Goals as goal

pub returns : goal.returns
returns c = line_written c.write_line.result (view c.in_ok-value.value) (answer_data (answer_of c.args.asked)) c.args.text.now.items c.write_line.new.text.items
    c.in_ok-value.ensures (answer_plain (answer_of c.args.asked)) c.write_line.ensures.ok
