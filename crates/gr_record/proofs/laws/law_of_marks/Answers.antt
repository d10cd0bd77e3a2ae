use Rattle.gr_record.proofs.FreeLemmas.{consequences_are_free, others_of_marked, others_stay}
use Rattle.gr_record.proofs.MarkLemmas.{marked_go_back, next_marked}
use Rattle.gr_record.proofs.laws.law_of_marks.Goals as goal

pub returns-clause-free : goal.returns-clause-free
returns-clause-free c = consequences_are_free

pub returns-clause-others : goal.returns-clause-others
returns-clause-others c = others_of_marked

pub returns-clause-stay : goal.returns-clause-stay
returns-clause-stay c = others_stay

pub returns-clause-next : goal.returns-clause-next
returns-clause-next c p s t front tail r first later k marks running = next_marked p s running t front tail r first later k marks

pub returns-clause-several : goal.returns-clause-several
returns-clause-several c p s t front tail first later marks running = marked_go_back p s running t front tail first later marks
