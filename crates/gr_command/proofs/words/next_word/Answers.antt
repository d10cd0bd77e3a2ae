use Rattle.std.proofs.Common.{rules, ◌<◌, length}
use Rattle.gr_command.proofs.Cuts.{word_first}
use Rattle.gr_command.proofs.words.next_word.Goals as goal

pub returns : goal.returns
returns c =
    let full : 0 < length c.from_word-rest.result.now = search rules in
    rw (← c.from_word-rest.ensures.words)
    (word_first c.from_word-rest.result.now _ _ c.from_word-rest.ensures.first full c.split_word.ensures.cut
    c.split_word.ensures.word c.split_word.ensures.after)
