use Rattle.vq_board_stage.proofs.passes.board_of.Goals as goal

pub returns-clause-passes : goal.returns-clause-passes
returns-clause-passes c =
    let dealt = c.in-Ok.ensures.passes in record {
      host = (_, dealt.host);
      submits = dealt.submits.1;
      rings = dealt.rings.1;
      shelves = dealt.shelves.1;
    }
