use Rattle.gr_refine.specs.Contents.{state_of}
use Rattle.gr_refine.specs.Partners.{is_made_for}
use Rattle.gr_tables.specs.NamedChannels.{contents_of}
use Rattle.gr_step.specs.Parks.{with_channels}
use Rattle.gr_step.proofs.EachOnceLemmas.{side_next, sides_told, first_so}
use Rattle.gr_step.proofs.sides.sides.Goals as goal

pub side-requires : goal.side-requires
side-requires c =
    (first_so (is_made_for (with_channels (contents_of c.args.channels.now))) c.args.communications.now c.loop-communication.communication-index
    c.communication-item.result c.loop-communication-test.true c.communication-item.is c.loop-communication.invariant.made).0

pub loop-communication-preserved : goal.loop-communication-preserved
loop-communication-preserved c = record {
  made = (first_so (is_made_for (with_channels (contents_of c.args.channels.now))) c.args.communications.now c.loop-communication.communication-index
      c.communication-item.result c.loop-communication-test.true c.communication-item.is c.loop-communication.invariant.made).1;
  told = λ frame. side_next (state_of frame (with_channels (contents_of c.args.channels.now))) c.args.communications.now
      c.loop-communication.communication-index c.loop-communication.touched.items _ (c.loop-communication.invariant.told frame)
      c.communication-item.result c.in_ok-looked.looked.items c.append.new.self.items c.loop-communication-test.true c.communication-item.is
      (c.in_ok-looked.ensures frame) c.in_ok-append.ensures.items;
}

pub returns : goal.returns
returns c frame =
    sides_told (state_of frame (with_channels (contents_of c.args.channels.now))) c.args.communications.now
    c.loop-communication.communication-index c.loop-communication.touched.items _ (c.loop-communication.invariant.told frame)
    c.loop-communication-test.false
